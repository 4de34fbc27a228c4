use Rattle.std.proofs.Common.{subst}
use Rattle.log_visits.specs.Placing.{PlacedLink}
use Rattle.trail_audit.specs.Trails.{BeginsAt}
use Rattle.trail_audit.proofs.Followed.{grown_by_one}
use Rattle.trail_audit.proofs.trails.follow_link.Goals as goal

pub returns-clause-grown : goal.returns-clause-grown
returns-clause-grown c =
    let begins : BeginsAt c.args.found.now.link c.args.key.now = subst (λ (p : PlacedLink). BeginsAt p.link c.args.key.now) c.found.view_is (c.begins_at.ensures.0 c.if-not-begins_at.false) in
    grown_by_one c.args.found.now c.args.key.now c.in_ok-target.target c.args.known.now.keys.items c.keep_key.new.known.keys.items
    (record { from_id = begins.0; from_serial = begins.1; tagged = c.in_ok-target.ensures.tagged }) c.in_ok-target.ensures.target c.in_ok-keep_key.ensures.kept
