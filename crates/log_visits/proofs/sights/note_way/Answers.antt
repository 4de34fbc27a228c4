use Rattle.log_visits.proofs.Sighted.{way_noted}
use Rattle.log_visits.proofs.sights.note_way.Goals as goal

pub returns : goal.returns
returns c = way_noted c.args.shape.now.tree c.args.folder.0 c.in_ok-way.way.items c.as_slice.result.now c.args.above.now c.note_each.new.above c.note_each.result c.in_ok-way.ensures c.as_slice.ensures.value c.note_each.ensures
