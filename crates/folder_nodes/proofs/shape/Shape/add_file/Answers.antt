use Rattle.std.proofs.Common.{sym, subst}
use Rattle.folder_nodes.specs.Bare.{Shaped, bare_store}
use Rattle.folder_nodes.specs.Changing.{HasPlace}
use Rattle.folder_nodes.specs.Trees.{IsTree}
use Rattle.folder_nodes.proofs.Added.{file_added}
use Rattle.folder_nodes.proofs.Rowed.{file_absent, file_rows_grown, place_told}
use Rattle.folder_nodes.proofs.shape.Shape.add_file.Goals as goal

pub insert-requires-clause-absent : goal.insert-requires-clause-absent
insert-requires-clause-absent c = file_absent c.self.inside.folders.rows c.self.inside.files.rows c.self.inside.folders_made c.self.inside.files_made c.self.invariant

pub invariant_of-self : goal.invariant_of-self
invariant_of-self c =
    let i = c.self.inside in
    let s = bare_store i.folders.rows i.files.rows i.folders_made i.files_made in
    let place : HasPlace s c.args.folder.0 = subst (λ (v : Shaped). HasPlace v.tree c.args.folder.0) (sym c.self.view_is) c.requires.place in
    let w = place_told s c.args.folder.0 place in
    subst (λ z. IsTree z) (sym (file_rows_grown i.folders.rows i.files.rows i.folders_made i.files_made c.args.folder.0 c.insert.new.self.rows c.self.invariant c.insert.ensures.rows))
    (file_added s c.self.invariant c.args.folder.0 w.0 w.1 w.2)

pub returns-clause-tree : goal.returns-clause-tree
returns-clause-tree c =
    let i = c.self.inside in
    rw (← c.self.view_is) (file_rows_grown i.folders.rows i.files.rows i.folders_made i.files_made c.args.folder.0 c.insert.new.self.rows c.self.invariant c.insert.ensures.rows)
