-- What is found among keys in several tables.
use Rattle.std.specs.Prelude.{◌≡◌, ℕ, ◌%◌, ◌<◌, ◌==◌, ◌⊎◌, cond, List, Some, None}
use Rattle.key_links.specs.Ringed.{key_rank}
use Rattle.key_links.specs.declared.any_key.AnyKey.{AnyKey}
use Rattle.sorted_table.specs.Rows.{row_at}

-- all keys among these have places whose remainders by 8, the number of kinds of roles, are from `low` to `high`
abbrev pub HasOnly : ℕ → ℕ → List AnyKey → Type 0
HasOnly low high keys = (k : ℕ) → (k % 8 < low) ⊎ (high < k % 8) → row_at key_rank keys k ≡ None

-- each of five tables has the keys of its kinds alone
pub record AreSorted (holders entries ways titles files : List AnyKey) : Type 0 where
  pub holders_only : HasOnly 0 1 holders
  pub entries_only : HasOnly 2 3 entries
  pub ways_only : HasOnly 4 5 ways
  pub titles_only : HasOnly 6 6 titles
  pub files_only : HasOnly 7 7 files

-- the key is found at its place, and at the others what was found before
abbrev pub IsFoundBeside : AnyKey → List AnyKey → List AnyKey → Type 0
IsFoundBeside key before after = (k : ℕ) → row_at key_rank after k ≡ cond (key_rank key == k) (Some key) (row_at key_rank before k)
