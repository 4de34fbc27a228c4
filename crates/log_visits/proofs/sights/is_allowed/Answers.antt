use Rattle.log_visits.proofs.Sighted.{all_on_way}
use Rattle.log_visits.proofs.sights.is_allowed.Goals as goal

pub returns : goal.returns
returns c = all_on_way c.args.shape.now.tree c.args.grants.now.pairs c.args.h.0 c.args.f.0 c.in_ok-way.way.items c.as_slice.result.now c.has_one.result c.in_ok-way.ensures c.as_slice.ensures.value c.has_one.ensures
