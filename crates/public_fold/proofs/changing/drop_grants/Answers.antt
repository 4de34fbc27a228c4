use Rattle.std.proofs.Common.{◌≡◌, ℕ, false, cond, not, ◌==◌, List, [], ◌∷◌, filter, refl, sym, ap, ◌∙◌}
use Rattle.std.specs.List.{list_any}
use Rattle.std.proofs.lemmas.Bool.{or_parts}
use Rattle.cry_base.specs.Clearances.{clear_number}
use Rattle.cry_base.specs.Store.{GrantEntry}
use Rattle.grant_book.specs.Granted.{without_pairs_on}
use Rattle.move_plan.proofs.Cleared.{clear_none, clear_some}
use Rattle.public_fold.proofs.changing.drop_grants.Goals as goal

none_dropped : (pairs : List GrantEntry) (c : ℕ) → list_any (λ e. e.folder == c) pairs ≡ false → pairs ≡ filter (λ e. not (e.folder == c)) pairs
none_dropped [] c e = refl
none_dropped (g ∷ gs) c e =
    let parts = or_parts (g.folder == c) (list_any (λ (z : GrantEntry). z.folder == c) gs) e in
    let rest = filter (λ (z : GrantEntry). not (z.folder == c)) gs in
    ap (λ l. g ∷ l) (none_dropped gs c parts.1) ∙ (λ i. cond (not (sym parts.0 i)) (g ∷ rest) rest)

pub returns-in_default-clause-pairs : goal.returns-in_default-clause-pairs
returns-in_default-clause-pairs c =
    let n = clear_number c.args.file.0 in
    none_dropped c.args.grants.now.pairs n (clear_none (list_any (λ e. e.folder == n) c.args.grants.now.pairs) n c.in_default.ensures.value)

pub returns-in-Some-clause-pairs : goal.returns-in-Some-clause-pairs
returns-in-Some-clause-pairs c =
    let n = clear_number c.args.file.0 in
    let told = clear_some (list_any (λ e. e.folder == n) c.args.grants.now.pairs) n c.in-Some.clear c.in-Some.ensures.value in
    c.drop_on.ensures.pairs ∙ ap (λ k. without_pairs_on c.args.grants.now.pairs k) told.1
