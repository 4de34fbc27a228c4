use Rattle.std.proofs.Common.{◌≡◌, ◌↔◌, sym, subst}
use Rattle.std.proofs.lemmas.Result.{IfOk-weaker}
use Rattle.cry_base.specs.Sets.{In}
use Rattle.cry_base.specs.declared.roles.Role.{Role}
use Rattle.role_graph.specs.Edges.{Reaches}
use Rattle.role_graph.proofs.Growing.{one_reached}
use Rattle.role_graph.proofs.reaching.reach.Goals as goal

pub returns-clause-reached : goal.returns-clause-reached
returns-clause-reached c =
    let es = c.args.edges.now in
    let from = c.args.from in
    let told = c.in_ok-reach_all.ensures in
    IfOk-weaker c.to_list-2.result (λ l. l.items ≡ c.in_ok-reach_all.field-0) (λ l. (r : Role) → In r l.items ↔ Reaches es from r)
    (λ l e r. (
      λ i. (one_reached es from r).0 ((told r).0 (subst (In r) e i)),
      λ way. subst (In r) (sym e) ((told r).1 ((one_reached es from r).1 way)),
    )) c.to_list-2.ensures.roles
