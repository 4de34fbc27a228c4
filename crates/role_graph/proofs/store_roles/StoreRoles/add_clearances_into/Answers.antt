use Rattle.std.proofs.Common.{◌≡◌, [], sym, subst}
use Rattle.cry_base.specs.declared.roles.Role.{Role}
use Rattle.role_graph.specs.Adjacent.{clearances, into}
use Rattle.role_graph.specs.PublicStore.{public_store}
use Rattle.role_graph.proofs.AtClearances.{no_owner_into, no_holder_into, no_sub_into, no_files_into, no_data_into, nothing_more}
use Rattle.role_graph.proofs.Falling.{tree_public}
use Rattle.role_graph.proofs.store_roles.StoreRoles.add_clearances_into.Goals as goal

pub returns-in-Owner : goal.returns-in-Owner
returns-in-Owner c =
    let tree = c.args.self.now.shape.now.tree in
    let pairs = c.args.self.now.grants.now.pairs in
    let is = tree_public tree pairs c.is_tree.ensures in
    nothing_more c.args.found.now.items _ (subst (λ (r : Role). into (clearances (public_store tree pairs)) r ≡ []) (sym c.in-Owner.is) (no_owner_into tree pairs is))

pub returns-in-Holder : goal.returns-in-Holder
returns-in-Holder c =
    let tree = c.args.self.now.shape.now.tree in
    let pairs = c.args.self.now.grants.now.pairs in
    let is = tree_public tree pairs c.is_tree.ensures in
    nothing_more c.args.found.now.items _ (subst (λ (r : Role). into (clearances (public_store tree pairs)) r ≡ []) (sym c.in-Holder.is) (no_holder_into tree pairs is _))

pub returns-in-Sub : goal.returns-in-Sub
returns-in-Sub c =
    let tree = c.args.self.now.shape.now.tree in
    let pairs = c.args.self.now.grants.now.pairs in
    let is = tree_public tree pairs c.is_tree.ensures in
    nothing_more c.args.found.now.items _ (subst (λ (r : Role). into (clearances (public_store tree pairs)) r ≡ []) (sym c.in-Sub.is) (no_sub_into tree pairs is _))

pub returns-in-Files : goal.returns-in-Files
returns-in-Files c =
    let tree = c.args.self.now.shape.now.tree in
    let pairs = c.args.self.now.grants.now.pairs in
    let is = tree_public tree pairs c.is_tree.ensures in
    nothing_more c.args.found.now.items _ (subst (λ (r : Role). into (clearances (public_store tree pairs)) r ≡ []) (sym c.in-Files.is) (no_files_into tree pairs is _))

pub returns-in-Data : goal.returns-in-Data
returns-in-Data c =
    let tree = c.args.self.now.shape.now.tree in
    let pairs = c.args.self.now.grants.now.pairs in
    let is = tree_public tree pairs c.is_tree.ensures in
    nothing_more c.args.found.now.items _ (subst (λ (r : Role). into (clearances (public_store tree pairs)) r ≡ []) (sym c.in-Data.is) (no_data_into tree pairs is _))
