use Rattle.std.proofs.Common.{◌++◌, take, sym, subst, arith}
use Rattle.std.proofs.lemmas.List.{append-nil}
use Rattle.log_visits.specs.Placing.{links_at}
use Rattle.log_visits.proofs.Lasts.{item_at}
use Rattle.trail_audit.specs.Grouped.{HasGroups, source_of_link}
use Rattle.trail_audit.proofs.Listed.{links_on}
use Rattle.trail_audit.proofs.placed_records.add_links.Goals as goal

pub loop-link-init : goal.loop-link-init
unfolding links_at
loop-link-init c = record { place = omega arith; grouped = λ before has. subst (HasGroups source_of_link c.args.found.now) (sym (append-nil before)) has }

pub loop-link-preserved : goal.loop-link-preserved
loop-link-preserved c = record {
  place = omega arith;
  grouped = λ before has.
      let links = c.args.links.now in
      let i = c.loop-link.link-index in
      let so_far = before ++ links_at c.args.batch c.args.first (take i links) in
      links_on (HasGroups source_of_link c.add_link.new.links) before c.args.batch c.args.first c.loop-link.at links i _ c.loop-link-test.true c.loop-link.invariant.place (item_at links i _ _ c.loop-link-test.true)
      (c.in_ok-add_link.ensures so_far (c.loop-link.invariant.grouped before has));
}
