use Rattle.std.proofs.Common.{inl, arith}
use Rattle.closure_laws.proofs.Searching.{all_grouped, link_grouped, none_grouped}
use Rattle.closure_laws.proofs.trail_search.by_end.Goals as goal

pub loop-link-init : goal.loop-link-init
loop-link-init c = none_grouped c.new-groups.result c.new-groups.ensures.empty

pub loop-link-preserved : goal.loop-link-preserved
loop-link-preserved c = link_grouped c.loop-link.groups c.add_link.new.groups c.args.links.now c.loop-link.link-index _ c.loop-link-test.true c.loop-link.invariant c.in_ok-add_link.ensures

pub returns : goal.returns
returns c = λ found s. inl (all_grouped c.loop-link.groups c.args.links.now c.loop-link.link-index (omega (arith, c.loop-link-test.false)) c.loop-link.invariant s)
