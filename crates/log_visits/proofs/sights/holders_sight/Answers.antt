use Rattle.std.proofs.Common.{refl, ◌∙◌}
use Rattle.log_visits.proofs.Sighted.{holders_made}
use Rattle.log_visits.proofs.sights.holders_sight.Goals as goal

pub returns : goal.returns
returns c =
    holders_made c.args.shape.now.tree c.args.grants.now.pairs c.args.h.0 c.args.row.now _ c.contains-leads_down.result
    refl refl c.depth_of.ensures c.has.ensures.value c.in_ok-allowed.ensures (c.contains-leads_down.ensures ∙ c.requires c.args.row.now.id.0) refl
