use Rattle.std.proofs.Common.{◌≡◌, ◌+◌, subst, sym, rules, arith}
use Rattle.std.proofs.lemmas.Grind.{common_steps}
use Rattle.head_tree.specs.Checking.{IsAccepted}
use Rattle.head_tree.specs.Proving.{tree_proof}
use Rattle.head_tree.proofs.Accepting.{accepts}
use Rattle.head_tree.proofs.tree.LogTree.prove.Goals as goal

pub returns-clause-accepted : goal.returns-clause-accepted
unfolding tree_proof
returns-clause-accepted c = λ old new is_old is_new.
    let exact : c.add_proof.new.proof.items ≡ tree_proof (c.args.batches + 1) c.args.self.now = first_of (search rules, grind (arith, common_steps)) in
    subst (λ p. IsAccepted old new p) (sym exact) (accepts old new c.args.batches c.args.self.now c.requires is_old is_new)
