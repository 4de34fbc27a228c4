use Rattle.std.proofs.Common.{◌==◌, ◌∙◌, sym}
use Rattle.folder_nodes.specs.Bare.{file_of_row}
use Rattle.folder_nodes.specs.declared.rows.FileRow.{FileRow}
use Rattle.cry_base.specs.Store.{FileEntry}
use Rattle.folder_nodes.proofs.Rowed.{any-map}
use Rattle.folder_nodes.proofs.shape.Shape.has_file_inside.Goals as goal

pub returns : goal.returns
returns c =
    rw (← c.self.view_is) (c.has_group.ensures ∙ sym (any-map FileRow FileEntry file_of_row (λ e. e.folder == c.args.f) c.self.inside.files.rows))
