use Rattle.role_graph.proofs.Growing.{closed_holds, reached_on, reached_start}
use Rattle.role_graph.proofs.reaching.close.Goals as goal

pub loop-init : goal.loop-init
loop-init c = record { kept = λ r i. i; reached = reached_start c.args.edges.now c.args.reached.now }

pub loop-preserved : goal.loop-preserved
loop-preserved c = record {
  kept = λ r i. c.in_ok-pass.ensures.kept r (c.loop.invariant.kept r i);
  reached = λ r i. reached_on c.args.edges.now c.args.reached.now c.loop.reached c.loop.invariant.reached r (c.in_ok-pass.ensures.reached r i);
}

pub returns : goal.returns
returns c = λ r. (
  λ i. reached_on c.args.edges.now c.args.reached.now c.loop.reached c.loop.invariant.reached r (c.in_ok-pass.ensures.reached r i),
  λ told. closed_holds c.args.edges.now c.pass.new.reached (c.in_ok-pass.ensures.closed c.if-branch.false) told.0 r
      (c.in_ok-pass.ensures.kept told.0 (c.loop.invariant.kept told.0 told.1)) told.2,
)
