use Rattle.std.proofs.Common.{subst}
use Rattle.folder_nodes.specs.Trees.{IsTree}
use Rattle.role_graph.specs.LookedUp.{LookedUp}
use Rattle.role_graph.specs.PublicStore.{FoldersBelow}
use Rattle.role_graph.proofs.Falling.{tree_public}
use Rattle.role_graph.proofs.counted_roles.CountedRolesAdjacent.laws.Goals as goal

pub returns-clause-tree : goal.returns-clause-tree
returns-clause-tree c =
    let r = c.self.inside.roles in
    subst (λ (v : LookedUp). IsTree v.store) c.self.view_is (tree_public r.shape.now.tree r.grants.now.pairs c.is_tree.ensures)

pub returns-clause-below : goal.returns-clause-below
returns-clause-below c = subst (λ (v : LookedUp). FoldersBelow v.store) c.self.view_is c.self.invariant
