use Rattle.std.proofs.Common.{◌∙◌, ap}
use Rattle.std.specs.Prelude.{bytes_eq}
use Rattle.folder_nodes.specs.Bare.{folder_of_row}
use Rattle.folder_nodes.proofs.Taken.{no_folder_in, folder_elsewhere, folder_here}
use Rattle.folder_nodes.proofs.trying.is_folder_in.Goals as goal

pub returns-in_default : goal.returns-in_default
returns-in_default c = no_folder_in c.args.shape.now.tree c.args.names.now c.args.g c.args.f c.args.name.now c.in_default.ensures

pub returns-then-row-f : goal.returns-then-row-f
returns-then-row-f c = folder_elsewhere c.args.shape.now.tree c.args.names.now c.args.g c.args.f c.args.name.now (folder_of_row c.in-Some.row) c.in-Some.ensures c.if-row-f.true

pub returns : goal.returns
returns c =
    c.eq.ensures ∙ ap (λ l. bytes_eq l c.args.name.now) c.name_of.ensures
    ∙ folder_here c.args.shape.now.tree c.args.names.now c.args.g c.args.f c.args.name.now (folder_of_row c.in-Some.row) c.in-Some.ensures c.if-row-f.false
