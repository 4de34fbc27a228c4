use Rattle.std.proofs.Common.{◌≡◌, ◌+◌, ◌*◌, ◌^◌, ◌<◌, length, [], ◌++◌, refl, append-nil, None, subst, arith}
use Rattle.head_tree.specs.Growing.{IsRootOf, root_over}
use Rattle.head_tree.proofs.Growth.{joins}
use Rattle.head_tree.proofs.frontier.Frontier.root.Goals as goal

pub returns : goal.returns
returns c = λ leaves grown.
    let size : length leaves ≡ c.args.self.now.leaves * 2 ^ 0 = omega (arith, grown.count) in
    let few : 0 < 2 ^ 0 = omega arith in
    rw c.root_over.ensures (subst (λ l. IsRootOf (root_over c.args.self.now.roots c.args.self.now.leaves None) l) (append-nil leaves)
    (joins c.args.self.now.roots 0 c.args.self.now.leaves leaves [] None size few grown.stands refl))
