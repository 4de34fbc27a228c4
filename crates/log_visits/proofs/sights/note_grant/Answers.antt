use Rattle.log_visits.proofs.Sighted.{no_place, place_noted}
use Rattle.log_visits.proofs.sights.note_grant.Goals as goal

pub returns-in-Some : goal.returns-in-Some
returns-in-Some c =
    place_noted c.args.shape.now.tree c.args.number c.in-Some.folder c.granted_place.result c.args.above.now c.note_way.new.above c.note_way.result c.granted_place.ensures c.in-Some.is c.note_way.ensures

pub returns-in-None : goal.returns-in-None
returns-in-None c = no_place c.args.shape.now.tree c.args.number c.granted_place.result c.args.above.now c.granted_place.ensures c.in-None.is
