-- The root is made where nothing was ever made.
use Rattle.std.proofs.Common.{◌≡◌, ◌⊎◌, ℕ, Bool, true, List, [], ◌∷◌, length, ⊎_elim, refl, sym, ap, ◌∙◌}
use Rattle.std.proofs.lemmas.Bool.{false≢true}
use Rattle.cry_base.specs.Store.{Store, no_store}
use Rattle.grant_book.specs.Granted.{Granted}
use Rattle.record_format.specs.Noted.{Note}
use Rattle.record_format.specs.Noted.Note.{Root, StrictRoot}
use Rattle.move_plan.specs.Fitting.{fits}
use Rattle.move_plan.specs.Seen.{seen_store}
use Rattle.public_fold.specs.Rooted.{MayStand}
use Rattle.public_fold.proofs.NoteMoves.{root_once, strict_root_once}

no_checks : (checks : List (List ℕ)) → length checks ≡ 0 → checks ≡ []
no_checks [] e = refl
no_checks (c ∷ cs) e = cc

pub nothing_granted : (strict : Bool) (t : Store) (g : Granted) (note : Note) → MayStand (seen_store t g) → (note ≡ Root) ⊎ (note ≡ StrictRoot)
    → fits strict (seen_store t g) note ≡ true → (g.pairs ≡ []) × (g.checks ≡ [])
unfolding no_store
nothing_granted strict t g note may which fit = ⊎_elim
    (λ none. (ap (λ (s : Store). s.grants) none, no_checks g.checks (ap (λ (s : Store). s.holders_made) none)))
    (λ rooted. ⊎_elim
    (λ (q : note ≡ Root). absurd (false≢true (sym (root_once strict (seen_store t g) rooted) ∙ ap (λ n. fits strict (seen_store t g) n) (sym q) ∙ fit)))
    (λ (q : note ≡ StrictRoot). absurd (false≢true (sym (strict_root_once strict (seen_store t g) rooted) ∙ ap (λ n. fits strict (seen_store t g) n) (sym q) ∙ fit)))
    which)
    may
