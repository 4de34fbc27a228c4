use Rattle.std.proofs.Common.{get_or, sym, ap, ◌∙◌}
use Rattle.std.proofs.lemmas.List.{take_more, take_all}
use Rattle.cry_base.specs.declared.roles.Edge.{Edge}
use Rattle.cry_base.specs.declared.roles.Role.TheVariants.{Owner}
use Rattle.role_graph.specs.Closing.{turned}
use Rattle.role_graph.specs.Edges.{edge}
use Rattle.role_graph.proofs.Growing.{turned-append}
use Rattle.role_graph.proofs.reaching.turn.Goals as goal

pub loop-edge-init : goal.loop-edge-init
unfolding turned
loop-edge-init c = c.new-all.ensures

pub loop-edge-preserved : goal.loop-edge-preserved
unfolding edge
loop-edge-preserved c =
    let es = c.args.edges.now in
    let i = c.loop-edge.edge-index in
    let blank : Edge = record { kind = 0; from = Owner; to = Owner } in
    let more = take_more es i blank c.loop-edge-test.true in
    c.in_ok-push.ensures.items ∙ rw (c.loop-edge.invariant, more) (sym (turned-append _ (get_or es i blank)))

pub returns : goal.returns
returns c = c.loop-edge.invariant ∙ ap turned (take_all c.loop-edge.edge-index c.args.edges.now c.loop-edge-test.false)
