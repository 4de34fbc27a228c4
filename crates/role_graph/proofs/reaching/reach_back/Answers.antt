use Rattle.std.proofs.Common.{◌≡◌, ◌↔◌, sym, subst}
use Rattle.std.proofs.lemmas.Result.{IfOk-weaker}
use Rattle.cry_base.specs.Sets.{In}
use Rattle.cry_base.specs.declared.roles.Role.{Role}
use Rattle.role_graph.specs.Closing.{IsLeading}
use Rattle.role_graph.proofs.reaching.reach_back.Goals as goal

pub returns-clause-reached : goal.returns-clause-reached
returns-clause-reached c =
    let es = c.args.edges.now in
    let targets = c.args.targets.now in
    let told = c.in_ok-leading_to.ensures in
    IfOk-weaker c.to_list-2.result (λ l. l.items ≡ c.in_ok-leading_to.field-0) (λ l. (r : Role) → In r l.items ↔ IsLeading es targets r)
    (λ l e r. (
      λ i. (told r).0 (subst (In r) e i),
      λ w. subst (In r) (sym e) ((told r).1 w),
    )) c.to_list-2.ensures.roles
