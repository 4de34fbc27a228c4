use Rattle.std.proofs.Common.{sym, subst}
use Rattle.std.specs.Prelude.{IsSome}
use Rattle.cry_base.specs.Store.{file_entry}
use Rattle.folder_nodes.specs.Bare.{Shaped, bare_store}
use Rattle.folder_nodes.specs.Changing.{HasPlace}
use Rattle.folder_nodes.specs.Trees.{IsTree}
use Rattle.folder_nodes.proofs.Moved.{file_moved}
use Rattle.folder_nodes.proofs.Rowed.{file_row_stands, file_rows_put, place_told}
use Rattle.folder_nodes.proofs.shape.Shape.shift_file.Goals as goal

pub replace-requires-clause-there : goal.replace-requires-clause-there
replace-requires-clause-there c =
    let i = c.self.inside in
    let s = bare_store i.folders.rows i.files.rows i.folders_made i.files_made in
    let stands : IsSome (file_entry s c.args.file.0) = subst (λ (v : Shaped). IsSome (file_entry v.tree c.args.file.0)) (sym c.self.view_is) c.requires.stands in
    file_row_stands i.folders.rows i.files.rows i.folders_made i.files_made c.args.file.0 stands

pub invariant_of-self : goal.invariant_of-self
invariant_of-self c =
    let i = c.self.inside in
    let s = bare_store i.folders.rows i.files.rows i.folders_made i.files_made in
    let place : HasPlace s c.args.into.0 = subst (λ (v : Shaped). HasPlace v.tree c.args.into.0) (sym c.self.view_is) c.requires.place in
    let w = place_told s c.args.into.0 place in
    subst (λ z. IsTree z) (sym (file_rows_put i.folders.rows i.files.rows i.folders_made i.files_made c.args.file.0 c.args.into.0 c.replace.new.self.rows c.replace.ensures.rows))
    (file_moved s c.self.invariant c.args.file.0 c.args.into.0 w.0 w.1 w.2)

pub returns-clause-tree : goal.returns-clause-tree
returns-clause-tree c =
    let i = c.self.inside in
    rw (← c.self.view_is) (file_rows_put i.folders.rows i.files.rows i.folders_made i.files_made c.args.file.0 c.args.into.0 c.replace.new.self.rows c.replace.ensures.rows)
