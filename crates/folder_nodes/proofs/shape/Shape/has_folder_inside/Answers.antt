use Rattle.std.proofs.Common.{◌==◌, ◌∙◌, sym}
use Rattle.folder_nodes.specs.Bare.{folder_of_row}
use Rattle.folder_nodes.specs.declared.rows.FolderRow.{FolderRow}
use Rattle.cry_base.specs.Store.{FolderEntry}
use Rattle.folder_nodes.proofs.Rowed.{any-map}
use Rattle.folder_nodes.proofs.shape.Shape.has_folder_inside.Goals as goal

pub returns : goal.returns
returns c =
    rw (← c.self.view_is) (c.has_group.ensures ∙ sym (any-map FolderRow FolderEntry folder_of_row (λ e. e.parent == c.args.f) c.self.inside.folders.rows))
