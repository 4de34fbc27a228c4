use Rattle.std.proofs.Common.{◌≡◌, false, sym, subst}
use Rattle.cry_base.specs.Refusing.{has_child}
use Rattle.folder_nodes.specs.Bare.{Shaped, bare_store}
use Rattle.folder_nodes.specs.Trees.{IsTree}
use Rattle.folder_nodes.proofs.Removed.{folder_removed}
use Rattle.folder_nodes.proofs.Rowed.{folder_rows_without}
use Rattle.folder_nodes.proofs.shape.Shape.remove_folder.Goals as goal

pub invariant_of-self : goal.invariant_of-self
invariant_of-self c =
    let i = c.self.inside in
    let s = bare_store i.folders.rows i.files.rows i.folders_made i.files_made in
    let empty : has_child s c.args.f ≡ false = subst (λ (v : Shaped). has_child v.tree c.args.f ≡ false) (sym c.self.view_is) c.requires.empty in
    subst (λ z. IsTree z) (sym (folder_rows_without i.folders.rows i.files.rows i.folders_made i.files_made c.args.f c.remove.new.self.rows c.remove.ensures.rows))
    (folder_removed s c.self.invariant c.args.f c.requires.other empty)

pub returns-clause-tree : goal.returns-clause-tree
returns-clause-tree c =
    let i = c.self.inside in
    rw (← c.self.view_is) (folder_rows_without i.folders.rows i.files.rows i.folders_made i.files_made c.args.f c.remove.new.self.rows c.remove.ensures.rows)
