use Rattle.std.proofs.Common.{ℕ, List, [], sym, ◌∙◌}
use Rattle.std.proofs.lemmas.List.{at_drop_more, at_drop_all}
use Rattle.head_tree.specs.Growing.{root_over}
use Rattle.head_tree.proofs.frontier.root_over.Goals as goal

pub loop-root-preserved : goal.loop-root-preserved
unfolding root_over
loop-root-preserved c =
    let step = at_drop_more (λ (z : List (List ℕ)). root_over z c.loop-root.left c.loop-root.right) c.args.roots.now c.loop-root.root-index []
    c.loop-root-test.true in
    rw c.joined-right.ensures (sym step ∙ c.loop-root.invariant)

pub returns : goal.returns
unfolding root_over
returns c =
    let step = at_drop_all (λ (z : List (List ℕ)). root_over z c.loop-root.left c.loop-root.right) c.args.roots.now c.loop-root.root-index
    c.loop-root-test.false in
    sym step ∙ c.loop-root.invariant
