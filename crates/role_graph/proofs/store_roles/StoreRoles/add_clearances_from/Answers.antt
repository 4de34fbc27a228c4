use Rattle.std.proofs.Common.{◌≡◌, [], sym, subst}
use Rattle.cry_base.specs.declared.roles.Role.{Role}
use Rattle.role_graph.specs.Adjacent.{clearances, out_of}
use Rattle.role_graph.specs.PublicStore.{public_store}
use Rattle.role_graph.proofs.AtClearances.{no_holder_from, no_sub_from, no_back_from, no_files_from, no_data_from, no_file_from, nothing_more}
use Rattle.role_graph.proofs.Falling.{tree_public}
use Rattle.role_graph.proofs.store_roles.StoreRoles.add_clearances_from.Goals as goal

pub returns-in-Holder : goal.returns-in-Holder
returns-in-Holder c =
    let tree = c.args.self.now.shape.now.tree in
    let pairs = c.args.self.now.grants.now.pairs in
    let is = tree_public tree pairs c.is_tree.ensures in
    nothing_more c.args.found.now.items _ (subst (λ (r : Role). out_of (clearances (public_store tree pairs)) r ≡ []) (sym c.in-Holder.is) (no_holder_from tree pairs is _))

pub returns-in-Sub : goal.returns-in-Sub
returns-in-Sub c =
    let tree = c.args.self.now.shape.now.tree in
    let pairs = c.args.self.now.grants.now.pairs in
    let is = tree_public tree pairs c.is_tree.ensures in
    nothing_more c.args.found.now.items _ (subst (λ (r : Role). out_of (clearances (public_store tree pairs)) r ≡ []) (sym c.in-Sub.is) (no_sub_from tree pairs is _))

pub returns-in-Back : goal.returns-in-Back
returns-in-Back c =
    let tree = c.args.self.now.shape.now.tree in
    let pairs = c.args.self.now.grants.now.pairs in
    let is = tree_public tree pairs c.is_tree.ensures in
    nothing_more c.args.found.now.items _ (subst (λ (r : Role). out_of (clearances (public_store tree pairs)) r ≡ []) (sym c.in-Back.is) (no_back_from tree pairs is _))

pub returns-in-Files : goal.returns-in-Files
returns-in-Files c =
    let tree = c.args.self.now.shape.now.tree in
    let pairs = c.args.self.now.grants.now.pairs in
    let is = tree_public tree pairs c.is_tree.ensures in
    nothing_more c.args.found.now.items _ (subst (λ (r : Role). out_of (clearances (public_store tree pairs)) r ≡ []) (sym c.in-Files.is) (no_files_from tree pairs is _))

pub returns-in-Data : goal.returns-in-Data
returns-in-Data c =
    let tree = c.args.self.now.shape.now.tree in
    let pairs = c.args.self.now.grants.now.pairs in
    let is = tree_public tree pairs c.is_tree.ensures in
    nothing_more c.args.found.now.items _ (subst (λ (r : Role). out_of (clearances (public_store tree pairs)) r ≡ []) (sym c.in-Data.is) (no_data_from tree pairs is _))

pub returns-in-File : goal.returns-in-File
returns-in-File c =
    let tree = c.args.self.now.shape.now.tree in
    let pairs = c.args.self.now.grants.now.pairs in
    let is = tree_public tree pairs c.is_tree.ensures in
    nothing_more c.args.found.now.items _ (subst (λ (r : Role). out_of (clearances (public_store tree pairs)) r ≡ []) (sym c.in-File.is) (no_file_from tree pairs is _))
