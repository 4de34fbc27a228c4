use Rattle.std.proofs.Common.{◌∙◌, sym, ap, subst}
use Rattle.folder_nodes.specs.Bare.{Shaped}
use Rattle.folder_nodes.specs.Trees.{IsTree}
use Rattle.folder_nodes.proofs.Rowed.{same_rows}
use Rattle.folder_nodes.proofs.shape.Shape.copy.Goals as goal

pub invariant_of-result : goal.invariant_of-result
invariant_of-result c =
    let i = c.self.inside in
    subst (λ z. IsTree z) (sym (same_rows c.in_ok-folders.folders.rows i.folders.rows c.in_ok-files.files.rows i.files.rows i.folders_made i.files_made c.in_ok-folders.ensures c.in_ok-files.ensures)) c.self.invariant

pub returns : goal.returns
returns c =
    let i = c.self.inside in
    same_rows c.in_ok-folders.folders.rows i.folders.rows c.in_ok-files.files.rows i.files.rows i.folders_made i.files_made c.in_ok-folders.ensures c.in_ok-files.ensures
    ∙ ap (λ (v : Shaped). v.tree) c.self.view_is
