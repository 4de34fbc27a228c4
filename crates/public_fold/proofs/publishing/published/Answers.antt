use Rattle.std.proofs.Common.{◌≡◌, ◌++◌, List, filter, ap, ◌∙◌}
use Rattle.std.proofs.lemmas.Result.{IfOk-weaker}
use Rattle.cry_base.specs.declared.roles.Edge.{Edge}
use Rattle.role_graph.specs.Edges.{edge_before, edges, in_order, same_edge}
use Rattle.role_graph.proofs.AtEnds.{touches}
use Rattle.public_fold.specs.KeyStep.{without}
use Rattle.public_fold.proofs.publishing.published.Goals as goal

pub returns-clause-edges : goal.returns-clause-edges
returns-clause-edges g c =
    let es = edges (g.R.Adjacent.store c.args.roles.now) in
    let left : List Edge = without same_edge c.args.removed.now (filter (touches c.args.renewed.now) es) in
    let all : c.in_ok-with_added.field-0.items ≡ left ++ c.args.added.items =
    c.in_ok-with_added.ensures ∙ ap (λ (l : List Edge). l ++ c.args.added.items) (c.in_ok-left.ensures ∙ ap (without same_edge c.args.removed.now) (c.as_slice.ensures ∙ c.in_ok-touching.ensures.edges)) in
    IfOk-weaker c.in_their_order.result (λ l. l.items ≡ in_order edge_before c.in_ok-with_added.field-0.items) (λ l. l.items ≡ in_order edge_before (left ++ c.args.added.items))
    (λ l e. e ∙ ap (λ (x : List Edge). in_order edge_before x) all) c.in_their_order.ensures
