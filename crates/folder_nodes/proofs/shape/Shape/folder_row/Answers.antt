use Rattle.std.proofs.Common.{◌∙◌, sym, ap}
use Rattle.std.specs.Option.{option_map}
use Rattle.folder_nodes.specs.Bare.{folder_of_row}
use Rattle.folder_nodes.proofs.Rowed.{entry_of_row}
use Rattle.folder_nodes.proofs.shape.Shape.folder_row.Goals as goal

pub returns : goal.returns
returns c =
    rw (← c.self.view_is) (entry_of_row c.self.inside.folders.rows c.self.inside.files.rows c.self.inside.folders_made c.self.inside.files_made c.args.f
    ∙ ap (option_map folder_of_row) (sym (c.copied.ensures ∙ c.find.ensures.row)))
