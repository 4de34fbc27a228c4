use Rattle.std.proofs.Common.{◌≡◌, List, [], ◌++◌, sym, ap, ◌∙◌, subst, append-nil}
use Rattle.cry_base.specs.Store.{Store}
use Rattle.cry_base.specs.declared.roles.Edge.{Edge}
use Rattle.cry_base.specs.declared.roles.Role.{Role}
use Rattle.role_graph.specs.Adjacent.{out_of}
use Rattle.role_graph.specs.Adjacent.{plain_edges}
use Rattle.role_graph.specs.PublicStore.{public_store}
use Rattle.role_graph.proofs.Falling.{tree_public}
use Rattle.role_graph.proofs.RoleEdges.{data_from, file_from}
use Rattle.role_graph.proofs.store_roles.StoreRoles.add_plain_from.Goals as goal

pub returns-in-Data : goal.returns-in-Data
returns-in-Data c =
    let tree = c.args.self.now.shape.now.tree in
    let pairs = c.args.self.now.grants.now.pairs in
    let s : Store = public_store tree pairs in
    sym (append-nil c.args.found.now.items)
    ∙ ap (λ (l : List Edge). c.args.found.now.items ++ l) (subst (λ (r : Role). [] ≡ out_of (plain_edges s) r) (sym c.in-Data.is) (data_from s (tree_public tree pairs c.is_tree.ensures) _))

pub returns-in-File : goal.returns-in-File
returns-in-File c =
    let tree = c.args.self.now.shape.now.tree in
    let pairs = c.args.self.now.grants.now.pairs in
    let s : Store = public_store tree pairs in
    sym (append-nil c.args.found.now.items)
    ∙ ap (λ (l : List Edge). c.args.found.now.items ++ l) (subst (λ (r : Role). [] ≡ out_of (plain_edges s) r) (sym c.in-File.is) (file_from s (tree_public tree pairs c.is_tree.ensures) _))
