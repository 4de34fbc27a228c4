use Rattle.std.proofs.Common.{◌++◌, ◌+◌, List, Some, drop, get_or, sym, ap, ◌∙◌, append-nil}
use Rattle.std.proofs.lemmas.List.{drop_all, drop_more}
use Rattle.cry_base.specs.declared.roles.Edge.{Edge}
use Rattle.cry_base.specs.declared.roles.Role.TheVariants.{Owner}
use Rattle.role_graph.specs.Adjacent.{once_after}
use Rattle.role_graph.proofs.AtEnds.{once_goes_on}
use Rattle.role_graph.proofs.touching.each_once.Goals as goal

pub loop-edge-preserved : goal.loop-edge-preserved
loop-edge-preserved c =
    let edges = c.args.edges.now in
    let i = c.loop-edge.edge-index in
    let e : Edge = get_or edges i (record { kind = 0; from = Owner; to = Owner }) in
    let rest = once_after (Some e) (drop (i + 1) edges) in
    ap (λ (l : List Edge). l ++ rest) c.in_ok-push_once.ensures
    ∙ once_goes_on c.loop-edge.list.items c.loop-edge.last e (drop (i + 1) edges)
    ∙ ap (λ (l : List Edge). c.loop-edge.list.items ++ once_after c.loop-edge.last l) (sym (drop_more edges i (record { kind = 0; from = Owner; to = Owner }) c.loop-edge-test.true))
    ∙ c.loop-edge.invariant

pub returns : goal.returns
unfolding once_after
returns c =
    sym (append-nil c.loop-edge.list.items)
    ∙ ap (λ (l : List Edge). c.loop-edge.list.items ++ once_after c.loop-edge.last l) (sym (drop_all c.loop-edge.edge-index c.args.edges.now c.loop-edge-test.false))
    ∙ c.loop-edge.invariant
