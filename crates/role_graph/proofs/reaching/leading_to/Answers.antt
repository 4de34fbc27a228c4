use Rattle.std.proofs.Common.{◌↔◌, IfOk, ◌∙◌, subst}
use Rattle.std.proofs.lemmas.Result.{IfOk-weaker}
use Rattle.cry_base.specs.Sets.{In}
use Rattle.cry_base.specs.declared.roles.Role.{Role}
use Rattle.role_graph.specs.Closing.{IsReached, IsLeading}
use Rattle.role_graph.proofs.Growing.{turned_told}
use Rattle.role_graph.proofs.reaching.leading_to.Goals as goal

pub returns : goal.returns
returns c =
    let es = c.args.edges.now in
    let targets = c.args.targets.now in
    let told = subst (λ zs. IfOk c.reach_all.result (λ s. (r : Role) → In r s ↔ IsReached zs targets r)) (c.as_slice.ensures ∙ c.in_ok-turned.ensures) c.reach_all.ensures in
    IfOk-weaker c.reach_all.result _ (λ s. (r : Role) → In r s ↔ IsLeading es targets r)
    (λ s t r. (λ i. (turned_told es targets r).0 ((t r).0 i), λ w. (t r).1 ((turned_told es targets r).1 w))) told
