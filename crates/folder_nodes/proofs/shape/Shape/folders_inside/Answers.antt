use Rattle.std.proofs.Common.{map}
use Rattle.folder_nodes.specs.declared.spots.Spot.{Spot}
use Rattle.folder_nodes.proofs.Rowed.{folder_rows_inside}
use Rattle.folder_nodes.proofs.shape.Shape.folders_inside.Goals as goal

pub returns-clause-all : goal.returns-clause-all
returns-clause-all c =
    rw (← c.self.view_is) (folder_rows_inside c.self.inside.folders.rows c.args.f (map (λ (q : Spot). q.id) c.in_group.result) c.in_group.ensures.all)
