use Rattle.std.proofs.Common.{◌≡◌, List, sym, ap, ◌∙◌}
use Rattle.std.proofs.lemmas.Result.{IfOk-weaker}
use Rattle.cry_base.specs.declared.roles.Edge.{Edge}
use Rattle.role_graph.specs.Edges.{edge_before, edges, in_order}
use Rattle.role_graph.specs.PublicStore.{public_store}
use Rattle.role_graph.proofs.Sifting.{edges_ordered}
use Rattle.role_graph.proofs.edge_list.edges.Goals as goal

pub returns : goal.returns
returns c =
    let store = public_store c.args.shape.now.tree c.args.grants.now.pairs in
    let all : in_order edge_before c.in_ok-all.all.items ≡ edges store = ap (λ (l : List Edge). in_order edge_before l) c.in_ok-all.ensures ∙ sym (edges_ordered store) in
    IfOk-weaker c.to_list.result (λ l. l.items ≡ c.deref.result.now) (λ l. l.items ≡ edges store)
    (λ l e. e ∙ c.deref.ensures.value ∙ c.in_ok-sorted.ensures ∙ all) c.to_list.ensures
