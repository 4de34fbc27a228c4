use Rattle.std.proofs.Common.{sym, subst}
use Rattle.folder_nodes.specs.Bare.{Shaped, bare_store}
use Rattle.folder_nodes.specs.Changing.{HasPlaceFor, number_of}
use Rattle.folder_nodes.specs.Trees.{IsTree}
use Rattle.folder_nodes.proofs.Rowed.{folder_absent, folder_rows_grown, place_grown}
use Rattle.folder_nodes.proofs.shape.Shape.add_folder.Goals as goal

pub insert-requires-clause-absent : goal.insert-requires-clause-absent
insert-requires-clause-absent c = folder_absent c.self.inside.folders.rows c.self.inside.files.rows c.self.inside.folders_made c.self.inside.files_made c.self.invariant

pub invariant_of-self : goal.invariant_of-self
invariant_of-self c =
    let i = c.self.inside in
    let s = bare_store i.folders.rows i.files.rows i.folders_made i.files_made in
    let place : HasPlaceFor s c.args.parent = subst (λ (v : Shaped). HasPlaceFor v.tree c.args.parent) (sym c.self.view_is) c.requires.place in
    subst (λ z. IsTree z) (sym (folder_rows_grown i.folders.rows i.files.rows i.folders_made i.files_made c.folder_number.result (number_of c.args.parent) c.insert.new.self.rows c.self.invariant c.insert.ensures.rows c.folder_number.ensures))
    (place_grown s c.self.invariant c.args.parent place)

pub returns-clause-tree : goal.returns-clause-tree
returns-clause-tree c =
    let i = c.self.inside in
    rw (← c.self.view_is) (folder_rows_grown i.folders.rows i.files.rows i.folders_made i.files_made c.folder_number.result (number_of c.args.parent) c.insert.new.self.rows c.self.invariant c.insert.ensures.rows c.folder_number.ensures)
