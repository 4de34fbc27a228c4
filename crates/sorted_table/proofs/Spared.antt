-- How many rows stand in blocks, and how much room a change of one block leaves.
use Rattle.std.proofs.Common.{◌≡◌, ℕ, ◌+◌, ◌<◌, ◌≤◌, Bool, filter, List, [], ◌∷◌, length, get_or, set, refl, sym, ap, subst, ◌∙◌, arith}
use Rattle.std.specs.List.{insert, remove, sum_by}
use Rattle.std.proofs.lemmas.List.{length-set, get_or-set_same}
use Rattle.std.proofs.lemmas.List.Concat.{length-flat_map}
use Rattle.std.proofs.lemmas.List.Edits.{length-insert}
use Rattle.std.proofs.lemmas.List.Sums.{sum_by-set, sum_by-insert, sum_by-remove, sum_by-le-sum_by, get_or-le-sum_by, length-filter, count_by-le-length}
use Rattle.sorted_table.specs.Parts.{rows_of, all_rows, all_over, over, held, room_for, IsFresh}
use Rattle.sorted_table.specs.Tabled.{Tabled}
use Rattle.sorted_table.proofs.Writing.{removed_set}

pub room_less : (f g h k m n : ℕ) → f ≤ g → k ≤ h → n ≤ m → room_for f h m ≤ room_for g k n
room_less f g h k m n more less fewer = omega (arith, more, less, fewer)

pub room_one : (f h k m n : ℕ) → k ≤ h + 1 → n ≡ m + 1 → room_for f h m ≤ room_for f k n + 1
room_one f h k m n less one = omega (arith, less, one)

pub room_split : (f g h k m n : ℕ) → g + 1 ≡ f → k + 31 ≤ h → n ≡ m + 1 → room_for f h m ≤ room_for g k n + 1
room_split f g h k m n block less one = omega (arith, block, less, one)

pub room_back : (f g h k m n : ℕ) → g ≡ f + 1 → k ≤ h + 31 → n ≤ m → room_for f h m ≤ room_for g k n
room_back f g h k m n block less fewer = omega (arith, block, less, fewer)

-- a row that wants a block finds one
pub block_waits : (f h m : ℕ) → 1 ≤ room_for f h m → 31 ≤ h → 1 ≤ f
block_waits f h m some full = omega (arith, some, full)

pub no_rows : (T : Type 0) (rows : List T) → length rows ≤ 0 → rows ≡ []
no_rows T [] none = refl
no_rows T (x ∷ rows) none = absurd (omega (arith, none))

-- rows that are kept are no more than all
pub fewer_kept : (T : Type 0) (p : T → Bool) (rows : List T) → length (filter p rows) ≤ length rows
fewer_kept T p rows = let told = length-filter p rows in let most = count_by-le-length p rows in omega (arith, told, most)

module _ (T : Type 0) where
  -- a block that lost its last row waits again
  pub fresh_again : (blocks : List (Tabled T)) (i : ℕ) (a e : Tabled T) → i < length blocks → e ≡ get_or (set blocks i a) i e
      → length a.rows ≤ 0 → 128 ≤ length a.rows + a.spare → IsFresh 128 e
  fresh_again blocks i a e within is none room =
      let wide : 128 ≤ a.spare = omega (arith, none, room) in
      subst (λ (b : Tabled T). IsFresh 128 b) (sym (is ∙ get_or-set_same blocks i a e within)) (no_rows T a.rows none, wide)

  pub rows_counted : (blocks : List (Tabled T)) → length (rows_of blocks) ≡ all_rows blocks
  rows_counted blocks = length-flat_map (λ (b : Tabled T). b.rows) blocks

  pub over_less : (blocks : List (Tabled T)) → all_over blocks ≤ all_rows blocks
  over_less blocks = sum_by-le-sum_by (λ (b : Tabled T). over b) (λ (b : Tabled T). length b.rows) blocks (λ b. omega arith)

  pub held_sum : (blocks : List (Tabled T)) → 1 ≤ length blocks → held blocks ≡ all_over blocks
  held_sum [] some = absurd (omega (arith, some))
  held_sum (b ∷ blocks) some = refl

  pub held_most : (blocks : List (Tabled T)) → held blocks ≤ all_over blocks + 31
  held_most [] = omega arith
  held_most (b ∷ blocks) = omega arith

  module _ (blocks : List (Tabled T)) (i : ℕ) (within : i < length blocks) (b : Tabled T) (is : b ≡ get_or blocks i b) (a : Tabled T) where
    module _ (f : Tabled T → ℕ) where
      part : f b ≤ sum_by f blocks
      part = let here : f b ≡ f (get_or blocks i b) = ap f is in let told = get_or-le-sum_by f blocks i b within in omega (arith, here, told)

      set_sum : sum_by f (set blocks i a) + f b ≡ sum_by f blocks + f a
      set_sum = ap (λ (e : Tabled T). sum_by f (set blocks i a) + f e) is ∙ sum_by-set f blocks i a b within

      split_sum : (u : Tabled T) (j : ℕ) → sum_by f (insert (set blocks i a) j u) + f b ≡ sum_by f blocks + f a + f u
      split_sum u j = let told = sum_by-insert f (set blocks i a) j u in let before = set_sum in omega (arith, told, before)

      removed_sum : sum_by f (remove (set blocks i a) i) + f b ≡ sum_by f blocks
      removed_sum =
          ap (λ l. sum_by f l + f b) (removed_set (Tabled T) blocks i a within)
          ∙ ap (λ (e : Tabled T). sum_by f (remove blocks i) + f e) is
          ∙ sum_by-remove f blocks i b within

    -- how many rows there are
    pub rows_part : length b.rows ≤ all_rows blocks
    rows_part = part (λ (e : Tabled T). length e.rows)

    pub rows_set : all_rows (set blocks i a) + length b.rows ≡ all_rows blocks + length a.rows
    rows_set = set_sum (λ (e : Tabled T). length e.rows)

    pub rows_split : (u : Tabled T) (j : ℕ) → all_rows (insert (set blocks i a) j u) + length b.rows ≡ all_rows blocks + length a.rows + length u.rows
    rows_split = split_sum (λ (e : Tabled T). length e.rows)

    pub rows_removed : all_rows (remove (set blocks i a) i) + length b.rows ≡ all_rows blocks
    rows_removed = removed_sum (λ (e : Tabled T). length e.rows)

    -- how many of them are over
    pub over_part : over b ≤ all_over blocks
    over_part = part (λ (e : Tabled T). over e)

    pub over_set : all_over (set blocks i a) + over b ≡ all_over blocks + over a
    over_set = set_sum (λ (e : Tabled T). over e)

    pub over_split : (u : Tabled T) (j : ℕ) → all_over (insert (set blocks i a) j u) + over b ≡ all_over blocks + over a + over u
    over_split = split_sum (λ (e : Tabled T). over e)

    pub over_removed : all_over (remove (set blocks i a) i) + over b ≡ all_over blocks
    over_removed = removed_sum (λ (e : Tabled T). over e)

    pub held_here : held blocks ≡ all_over blocks
    held_here = held_sum blocks (omega (arith, within))

    pub held_set : held (set blocks i a) ≡ all_over (set blocks i a)
    held_set = let size = length-set blocks i a in held_sum (set blocks i a) (omega (arith, within, size))

    pub held_split : (u : Tabled T) (j : ℕ) → j ≤ length blocks → held (insert (set blocks i a) j u) ≡ all_over (insert (set blocks i a) j u)
    held_split u j place =
        let size = length-set blocks i a in
        let more = length-insert (set blocks i a) j u (omega (arith, place, size)) in
        held_sum (insert (set blocks i a) j u) (omega (arith, more))
