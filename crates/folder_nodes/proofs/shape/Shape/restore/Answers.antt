use Rattle.std.proofs.Common.{sym, subst}
use Rattle.sorted_table.specs.Rows.{IsRising}
use Rattle.folder_nodes.specs.declared.rows.FolderRow.{FolderRow}
use Rattle.folder_nodes.specs.declared.rows.FileRow.{FileRow}
use Rattle.folder_nodes.proofs.Restored.{tree_rises, tree_files_rise, none_says}
use Rattle.folder_nodes.proofs.shape.Shape.restore.Goals as goal

pub returns-in_default : goal.returns-in_default
returns-in_default c = λ tree.
    none_says _ c.in_ok-folders.field-0 _ _ c.in_default.is c.in_ok-folders.ensures
    (subst (IsRising (λ (r : FolderRow). r.id.0)) (sym c.as_slice.ensures) (tree_rises c.args.folders.items c.args.files.items c.args.folders_made c.args.files_made tree))

pub returns-in_default-2 : goal.returns-in_default-2
returns-in_default-2 c = λ tree.
    none_says _ c.in_ok-files.field-0 _ _ c.in_default-2.is c.in_ok-files.ensures
    (subst (IsRising (λ (r : FileRow). r.id.0)) (sym c.as_slice-2.ensures) (tree_files_rise c.args.folders.items c.args.files.items c.args.folders_made c.args.files_made tree))
