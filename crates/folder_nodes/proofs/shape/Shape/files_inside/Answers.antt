use Rattle.std.proofs.Common.{map}
use Rattle.folder_nodes.specs.declared.spots.Spot.{Spot}
use Rattle.folder_nodes.proofs.Rowed.{file_rows_inside}
use Rattle.folder_nodes.proofs.shape.Shape.files_inside.Goals as goal

pub returns-clause-all : goal.returns-clause-all
returns-clause-all c =
    rw (← c.self.view_is) (file_rows_inside c.self.inside.files.rows c.args.f (map (λ (q : Spot). q.id) c.in_group.result) c.in_group.ensures.all)
