use Rattle.std.proofs.Common.{sym, subst}
use Rattle.folder_nodes.specs.Bare.{bare_store}
use Rattle.folder_nodes.specs.Trees.{IsTree}
use Rattle.folder_nodes.proofs.Removed.{file_removed}
use Rattle.folder_nodes.proofs.Rowed.{file_rows_without}
use Rattle.folder_nodes.proofs.shape.Shape.remove_file.Goals as goal

pub invariant_of-self : goal.invariant_of-self
invariant_of-self c =
    let i = c.self.inside in
    subst (λ z. IsTree z) (sym (file_rows_without i.folders.rows i.files.rows i.folders_made i.files_made c.args.x c.remove.new.self.rows c.remove.ensures.rows))
    (file_removed (bare_store i.folders.rows i.files.rows i.folders_made i.files_made) c.self.invariant c.args.x)

pub returns-clause-tree : goal.returns-clause-tree
returns-clause-tree c =
    let i = c.self.inside in
    rw (← c.self.view_is) (file_rows_without i.folders.rows i.files.rows i.folders_made i.files_made c.args.x c.remove.new.self.rows c.remove.ensures.rows)
