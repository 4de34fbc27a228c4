use Rattle.std.proofs.Common.{◌≡◌, ℕ, List, [], ◌∷◌, ◌++◌, sym, ap, ◌∙◌, subst}
use Rattle.cry_base.specs.Store.{Store, no_store}
use Rattle.cry_base.specs.declared.roles.Role.{Role}
use Rattle.cry_base.specs.declared.roles.Role.TheVariants.{Owner}
use Rattle.move_plan.specs.Seen.{seen_store}
use Rattle.public_fold.specs.Keyed.{IsKept}
use Rattle.public_fold.specs.KeyStep.{keys_without}
use Rattle.public_fold.proofs.HeldMarks.{nothing_kept}
use Rattle.public_fold.proofs.SeenAfter.{seen}
use Rattle.public_fold.proofs.state.PublicState.new.Goals as goal

pub invariant_of-result : goal.invariant_of-result
unfolding keys_without
invariant_of-result c =
    let one : List (Role × ℕ) = (Owner, 0) ∷ [] in
    let keys : c.take.new.self.keys ≡ one = c.take.ensures.keys ∙ ap (λ (ks : List (Role × ℕ)). one ++ keys_without [] ks) (c.in_ok-reserve.ensures.keys ∙ c.new-keys.ensures) in
    let store : seen no_store [] [] ≡ seen_store c.new.result.tree c.new-2.result =
    λ k. seen (sym c.new.ensures k) (sym c.new-2.ensures.checks k) (sym c.new-2.ensures.pairs k) in
    subst (λ (d : List Role). IsKept (seen_store c.new.result.tree c.new-2.result) c.take.new.self.keys d) (sym c.new-3.ensures)
    (subst (λ (ks : List (Role × ℕ)). IsKept (seen_store c.new.result.tree c.new-2.result) ks []) (sym keys)
    (subst (λ (s : Store). IsKept s one []) store nothing_kept))
