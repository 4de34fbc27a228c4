use Rattle.std.proofs.Common.{sym, subst}
use Rattle.cry_base.specs.Store.{FolderEntry, folder_entry}
use Rattle.folder_nodes.specs.Bare.{Shaped, bare_store}
use Rattle.folder_nodes.specs.Changing.{CanShift}
use Rattle.folder_nodes.specs.Trees.{IsTree}
use Rattle.folder_nodes.proofs.Moved.{folder_moved}
use Rattle.folder_nodes.proofs.Rowed.{folder_row_stands, folder_rows_put, some_of}
use Rattle.folder_nodes.proofs.shape.Shape.shift_folder.Goals as goal

pub replace-requires-clause-there : goal.replace-requires-clause-there
replace-requires-clause-there c =
    let i = c.self.inside in
    let s = bare_store i.folders.rows i.files.rows i.folders_made i.files_made in
    let can : CanShift s c.args.folder.0 c.args.into.0 = subst (λ (v : Shaped). CanShift v.tree c.args.folder.0 c.args.into.0) (sym c.self.view_is) c.requires.fits in
    folder_row_stands i.folders.rows i.files.rows i.folders_made i.files_made c.args.folder.0 can.0

pub invariant_of-self : goal.invariant_of-self
invariant_of-self c =
    let i = c.self.inside in
    let s = bare_store i.folders.rows i.files.rows i.folders_made i.files_made in
    let g = c.args.folder.0 in
    let q = c.args.into.0 in
    let can : CanShift s g q = subst (λ (v : Shaped). CanShift v.tree g q) (sym c.self.view_is) c.requires.fits in
    let from = some_of FolderEntry (folder_entry s g) can.0 in
    let to = some_of FolderEntry (folder_entry s q) can.2 in
    subst (λ z. IsTree z) (sym (folder_rows_put i.folders.rows i.files.rows i.folders_made i.files_made g q c.replace.new.self.rows c.replace.ensures.rows))
    (folder_moved s c.self.invariant g q from.0 to.0 from.1 to.1 can.3 can.4 can.1)

pub returns-clause-tree : goal.returns-clause-tree
returns-clause-tree c =
    let i = c.self.inside in
    rw (← c.self.view_is) (folder_rows_put i.folders.rows i.files.rows i.folders_made i.files_made c.args.folder.0 c.args.into.0 c.replace.new.self.rows c.replace.ensures.rows)
