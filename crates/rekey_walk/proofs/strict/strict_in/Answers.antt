use Rattle.std.proofs.Common.{◌≡◌, ◌+◌, ◌*◌, ◌≤◌, ◌↔◌, [], List, filter, length, ap, ◌∙◌, subst}
use Rattle.std.proofs.lemmas.Result.{IfOk-weaker}
use Rattle.cry_base.specs.Listed.{Listed}
use Rattle.cry_base.specs.Sets.{In}
use Rattle.cry_base.specs.Store.{Store}
use Rattle.cry_base.specs.declared.roles.Role.{Role}
use Rattle.role_graph.specs.Adjacent.{count_from, edges_but}
use Rattle.role_graph.specs.Closing.{IsReached, turned}
use Rattle.role_graph.specs.Edges.{edges, reach_along, unordered}
use Rattle.rekey_walk.specs.Strict.{may_renew, sources_of, strict_roles}
use Rattle.rekey_walk.proofs.Sources.{sources_cost, sources_walked}
use Rattle.rekey_walk.proofs.strict.strict_in.Goals as goal

pub returns-clause-roles : goal.returns-clause-roles
unfolding strict_roles
returns-clause-roles g c =
    let s : Store = g.R.Adjacent.store c.args.roles.now in
    let removed = c.args.removed.now in
    let gone = c.args.gone.now in
    let set = c.in_ok-leading.leading in
    let start : c.as_slice.result.now ≡ sources_of removed = c.as_slice.ensures ∙ c.in_ok-sources.ensures in
    let told : (r : Role) → In r set ↔ IsReached (turned (edges_but [] (unordered s))) (sources_of removed) r = λ r.
    subst (λ (l : List Role). In r set ↔ IsReached (turned (edges_but [] (unordered s))) l r) start (c.in_ok-leading.ensures.reached r) in
    IfOk-weaker c.renewable.result (λ (l : Listed Role). l.items ≡ filter (may_renew gone) c.as_slice-2.result.now)
    (λ (l : Listed Role). l.items ≡ strict_roles (edges s) removed gone)
    (λ l e. e ∙ ap (λ (rs : List Role). filter (may_renew gone) rs) (c.as_slice-2.ensures.roles ∙ sources_walked s removed set c.as_slice-2.ensures.ascending told)) c.renewable.ensures

pub returns-clause-steps : goal.returns-clause-steps
returns-clause-steps g c =
    let s : Store = g.R.Adjacent.store c.args.roles.now in
    let removed = c.args.removed.now in
    let before = g.R.Adjacent.steps c.args.roles.now in
    let now = g.R.Adjacent.steps c.walk.new.roles in
    sources_cost s removed before now
    (subst (λ (l : List Role). now ≤ before + 2 * count_from (turned (unordered s)) (reach_along (turned (edges_but [] (unordered s))) l) + length l)
    (c.as_slice.ensures ∙ c.in_ok-sources.ensures) c.walk.ensures.steps)

pub returns-in_err-leading-clause-steps : goal.returns-in_err-leading-clause-steps
returns-in_err-leading-clause-steps g c =
    let s : Store = g.R.Adjacent.store c.args.roles.now in
    let removed = c.args.removed.now in
    let before = g.R.Adjacent.steps c.args.roles.now in
    let now = g.R.Adjacent.steps c.walk.new.roles in
    sources_cost s removed before now
    (subst (λ (l : List Role). now ≤ before + 2 * count_from (turned (unordered s)) (reach_along (turned (edges_but [] (unordered s))) l) + length l)
    (c.as_slice.ensures ∙ c.in_ok-sources.ensures) c.walk.ensures.steps)
