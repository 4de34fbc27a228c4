-- The list of holders and the list of grants. This project's own, docs/MODEL.md.
use Rattle.std.specs.Prelude.{ℕ, zero, suc, ◌≤◌, Bool, not, ◌&&◌, ◌||◌, ◌==◌, nat_lt, List, ◌∷◌, ◌++◌, map, filter, length, Option, None}
use Rattle.std.specs.Prelude.{IsTrue, AllPairs, slice_get}
use Rattle.cry_base.specs.Store.{GrantEntry}
use Rattle.cry_base.specs.declared.ids.HolderId.{HolderId}
use Rattle.cry_base.specs.declared.ids.FolderId.{FolderId}

-- each holder's check, in the order of their numbers from 1; all grants, by holder and then by folder; and how many
-- changes fit without memory
pub record Granted : Type 0 where
  pub checks : List (List ℕ)
  pub pairs : List GrantEntry
  pub spare : ℕ

-- the grant of a folder to a holder
abbrev pub grant_of : ℕ → ℕ → GrantEntry
grant_of h f = record { holder = h; folder = f }

-- one of two grants comes before the other: by holder, and then by folder
abbrev pub is_before : GrantEntry → GrantEntry → Bool
is_before a b = nat_lt a.holder b.holder || (a.holder == b.holder && nat_lt a.folder b.folder)

-- each grant comes before those behind it
abbrev pub AreOrdered : List GrantEntry → Type 0
AreOrdered pairs = AllPairs (λ a b. IsTrue (is_before a b)) pairs

-- a holder with the number was made
abbrev pub IsHolder : List (List ℕ) → ℕ → Type 0
IsHolder checks h = (1 ≤ h) × (h ≤ length checks)

-- the check of the holder with a number
abbrev pub check_at : List (List ℕ) → ℕ → Option (List ℕ)
check_at checks zero = None
check_at checks (suc n) = slice_get checks n

-- whether a grant is the holder's on the folder
abbrev pub is_grant : ℕ → ℕ → GrantEntry → Bool
is_grant h f e = e.holder == h && e.folder == f

-- the grants before the new one, the new one, and the grants behind it
abbrev pub with_pair : List GrantEntry → GrantEntry → List GrantEntry
with_pair pairs new = filter (λ e. is_before e new) pairs ++ new ∷ filter (λ e. is_before new e) pairs

-- all grants but the holder's on the folder
abbrev pub without_pair : List GrantEntry → ℕ → ℕ → List GrantEntry
without_pair pairs h f = filter (λ e. not (is_grant h f e)) pairs

-- all grants but those on the folder or file
abbrev pub without_pairs_on : List GrantEntry → ℕ → List GrantEntry
without_pairs_on pairs f = filter (λ e. not (e.folder == f)) pairs

-- who has a grant on the folder or file, and on which of them the holder has one, by their numbers
abbrev pub holders_on : List GrantEntry → ℕ → List HolderId
holders_on pairs f = map (λ e. record { 0 = e.holder }) (filter (λ e. e.folder == f) pairs)

abbrev pub folders_of : List GrantEntry → ℕ → List FolderId
folders_of pairs h = map (λ e. record { 0 = e.folder }) (filter (λ e. e.holder == h) pairs)
