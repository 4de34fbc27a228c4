use Rattle.std.proofs.Common.{sym, ◌∙◌}
use Rattle.log_visits.proofs.HeadedEdges.{looked_up, of_no_edge}
use Rattle.role_graph.specs.PublicStore.{public_store}
use Rattle.log_visits.proofs.last_links.is_standing.Goals as goal

pub returns-then-eq : goal.returns-then-eq
returns-then-eq c =
    looked_up (public_store c.args.state.now.tree c.args.state.now.pairs) c.args.head.now c.head_sought.result _ c.edge_with-edge.ensures c.head_sought.ensures
    c.has_edge.result (sym c.eq.ensures ∙ c.if-eq.true) c.has_edge.ensures

pub returns-else-eq : goal.returns-else-eq
returns-else-eq c =
    of_no_edge (public_store c.args.state.now.tree c.args.state.now.pairs) c.args.head.now c.head_sought.result _ c.edge_with-edge.ensures c.head_sought.ensures
    c.eq.result (sym c.eq.ensures) c.if-eq.false
