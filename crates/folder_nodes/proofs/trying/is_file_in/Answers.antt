use Rattle.std.proofs.Common.{◌∙◌, ap}
use Rattle.std.specs.Prelude.{bytes_eq}
use Rattle.folder_nodes.specs.Bare.{file_of_row}
use Rattle.folder_nodes.proofs.Taken.{no_file_in, file_elsewhere, file_here}
use Rattle.folder_nodes.proofs.trying.is_file_in.Goals as goal

pub returns-in_default : goal.returns-in_default
returns-in_default c = no_file_in c.args.shape.now.tree c.args.names.now c.args.x c.args.f c.args.name.now c.in_default.ensures

pub returns-then-row-f : goal.returns-then-row-f
returns-then-row-f c = file_elsewhere c.args.shape.now.tree c.args.names.now c.args.x c.args.f c.args.name.now (file_of_row c.in-Some.row) c.in-Some.ensures c.if-row-f.true

pub returns : goal.returns
returns c =
    c.eq.ensures ∙ ap (λ l. bytes_eq l c.args.name.now) c.name_of.ensures
    ∙ file_here c.args.shape.now.tree c.args.names.now c.args.x c.args.f c.args.name.now (file_of_row c.in-Some.row) c.in-Some.ensures c.if-row-f.false
