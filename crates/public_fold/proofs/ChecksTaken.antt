-- The rows of checks, one after another.
use Rattle.std.proofs.Common.{◌≡◌, ℕ, suc, ◌+◌, ◌<◌, List, [], ◌∷◌, ◌++◌, map, take, Some, sym, ap, ◌∙◌, arith}
use Rattle.std.specs.List.{slice_get}
use Rattle.std.specs.Prelude.{length}
use Rattle.std.proofs.lemmas.List.{map-append, take_more}
use Rattle.std.proofs.lemmas.Option.{get_or_from_slice_get, slice_get_within}
use Rattle.grant_book.specs.Granted.{check_at}
use Rattle.index_format.specs.declared.rows.CheckRow.{CheckRow}
use Rattle.public_fold.specs.States.{check_row}

check_found : (checks : List (List ℕ)) (n : ℕ) (check : List ℕ) → Some check ≡ check_at checks (n + 1) → slice_get checks n ≡ Some check
check_found checks n check e = let next : n + 1 ≡ suc n = omega arith in sym (e ∙ ap (check_at checks) next)

pub check_taken : (checks : List (List ℕ)) (n : ℕ) (check : List ℕ) (rows : List CheckRow) → Some check ≡ check_at checks (n + 1) → rows ≡ map check_row (take n checks)
    → rows ++ check_row check ∷ [] ≡ map check_row (take (n + 1) checks)
check_taken checks n check rows e was =
    let found = check_found checks n check e in
    let within : n < length checks = slice_get_within checks n check found in
    let more : take (n + 1) checks ≡ take n checks ++ check ∷ [] = take_more checks n check within ∙ ap (λ c. take n checks ++ c ∷ []) (get_or_from_slice_get checks n check check found) in
    ap (λ l. l ++ check_row check ∷ []) was ∙ sym (map-append check_row (take n checks) (check ∷ [])) ∙ ap (map check_row) (sym more)
