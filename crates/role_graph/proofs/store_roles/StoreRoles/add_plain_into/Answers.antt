use Rattle.std.proofs.Common.{◌≡◌, List, [], ◌++◌, sym, ap, ◌∙◌, subst, append-nil}
use Rattle.cry_base.specs.Store.{Store}
use Rattle.cry_base.specs.declared.roles.Edge.{Edge}
use Rattle.cry_base.specs.declared.roles.Role.{Role}
use Rattle.role_graph.specs.Adjacent.{into}
use Rattle.role_graph.specs.Adjacent.{plain_edges}
use Rattle.role_graph.specs.PublicStore.{public_store}
use Rattle.role_graph.proofs.Falling.{tree_public}
use Rattle.role_graph.proofs.RoleEdges.{owner_into, holder_into}
use Rattle.role_graph.proofs.store_roles.StoreRoles.add_plain_into.Goals as goal

pub returns-in-Owner : goal.returns-in-Owner
returns-in-Owner c =
    let tree = c.args.self.now.shape.now.tree in
    let pairs = c.args.self.now.grants.now.pairs in
    let s : Store = public_store tree pairs in
    sym (append-nil c.args.found.now.items)
    ∙ ap (λ (l : List Edge). c.args.found.now.items ++ l) (subst (λ (r : Role). [] ≡ into (plain_edges s) r) (sym c.in-Owner.is) (owner_into s (tree_public tree pairs c.is_tree.ensures)))

pub returns-in-Holder : goal.returns-in-Holder
returns-in-Holder c =
    let tree = c.args.self.now.shape.now.tree in
    let pairs = c.args.self.now.grants.now.pairs in
    let s : Store = public_store tree pairs in
    sym (append-nil c.args.found.now.items)
    ∙ ap (λ (l : List Edge). c.args.found.now.items ++ l) (subst (λ (r : Role). [] ≡ into (plain_edges s) r) (sym c.in-Holder.is) (holder_into s (tree_public tree pairs c.is_tree.ensures) _))
