use Rattle.std.proofs.Common.{◌≡◌, ◌==◌, ◌↔◌, ◌+◌, ◌*◌, ◌≤◌, List, Some, filter, length, sym, ap, ◌∙◌, subst}
use Rattle.std.proofs.lemmas.Result.{IfOk-weaker}
use Rattle.cry_base.specs.Listed.{Listed}
use Rattle.cry_base.specs.Sets.{In, has}
use Rattle.cry_base.specs.Store.{Store}
use Rattle.cry_base.specs.declared.roles.Role.{Role}
use Rattle.role_graph.specs.Adjacent.{count_from, edges_but, ending_in}
use Rattle.role_graph.specs.Closing.{IsReached, turned}
use Rattle.role_graph.specs.Edges.{edges, reach_along, unordered}
use Rattle.role_graph.specs.Roles.{same_role}
use Rattle.role_graph.proofs.Comparing.{reach_along_told}
use Rattle.rekey_walk.specs.Dirty.{plan}
use Rattle.rekey_walk.proofs.Closed.{none_planned, plan_cost, plan_walked}
use Rattle.rekey_walk.proofs.walks.plan_closed.Goals as goal

pub returns-then-is_empty-clause-plan : goal.returns-then-is_empty-clause-plan
returns-then-is_empty-clause-plan g c =
    let s : Store = g.R.Adjacent.store c.args.roles.now in
    none_planned (edges_but c.args.removed.now (edges s)) c.args.dirty.now c.requires.closed c.args.wanted.now c.in_ok-from.from.items c.in_ok-from.ensures
    (ap (λ (l : List Role). length l == 0) (sym c.as_slice.ensures) ∙ sym c.is_empty.ensures ∙ c.if-is_empty.true)

pub returns-clause-plan : goal.returns-clause-plan
returns-clause-plan g c =
    let s : Store = g.R.Adjacent.store c.args.roles.now in
    let removed = c.args.removed.now in
    let dirty = c.args.dirty.now in
    let wanted = c.args.wanted.now in
    let leading = c.in_ok-leading.leading in
    let us = turned (edges_but removed (unordered s)) in
    let told : (r : Role) → In r leading ↔ IsReached (ending_in (Some dirty) us) (filter (has same_role dirty) wanted) r = λ r.
    subst (λ (d : List Role). In r leading ↔ IsReached (ending_in (Some d) us) (filter (has same_role dirty) wanted) r) c.roles.ensures
    (subst (λ (f : List Role). In r leading ↔ IsReached (ending_in (Some c.roles.result.now) us) f r) (c.as_slice-from.ensures ∙ c.in_ok-from.ensures) (c.in_ok-leading.ensures.reached r)) in
    IfOk-weaker c.to_list.result (λ (l : Listed Role). l.items ≡ leading) (λ (l : Listed Role). l.items ≡ plan dirty (edges_but removed (edges s)) wanted)
    (λ l e. e ∙ plan_walked s removed dirty wanted leading c.requires.closed told c.to_list.ensures.ascending) c.to_list.ensures.roles

pub returns-clause-steps : goal.returns-clause-steps
returns-clause-steps g c =
    let s : Store = g.R.Adjacent.store c.args.roles.now in
    let removed = c.args.removed.now in
    let dirty = c.args.dirty.now in
    let wanted = c.args.wanted.now in
    let back = λ (d : List Role). ending_in (Some d) (turned (edges_but removed (unordered s))) in
    let most = λ (d f : List Role). (g.R.Adjacent.steps c.walk_within.new.roles) ≤ (g.R.Adjacent.steps c.args.roles.now) + 2 * count_from (turned (unordered s)) (reach_along (back d) f) + length f in
    let few = subst (λ (d : List Role). most d (filter (has same_role dirty) wanted)) c.roles.ensures
    (subst (λ (f : List Role). most c.roles.result.now f) (c.as_slice-from.ensures ∙ c.in_ok-from.ensures) c.walk_within.ensures.steps) in
    plan_cost s removed dirty wanted (reach_along (back dirty) (filter (has same_role dirty) wanted)) c.requires.closed (reach_along_told (back dirty) (filter (has same_role dirty) wanted)) (g.R.Adjacent.steps c.args.roles.now) (g.R.Adjacent.steps c.walk_within.new.roles) few

pub returns-in_err-leading-clause-steps : goal.returns-in_err-leading-clause-steps
returns-in_err-leading-clause-steps g c =
    let s : Store = g.R.Adjacent.store c.args.roles.now in
    let removed = c.args.removed.now in
    let dirty = c.args.dirty.now in
    let wanted = c.args.wanted.now in
    let back = λ (d : List Role). ending_in (Some d) (turned (edges_but removed (unordered s))) in
    let most = λ (d f : List Role). (g.R.Adjacent.steps c.walk_within.new.roles) ≤ (g.R.Adjacent.steps c.args.roles.now) + 2 * count_from (turned (unordered s)) (reach_along (back d) f) + length f in
    let few = subst (λ (d : List Role). most d (filter (has same_role dirty) wanted)) c.roles.ensures
    (subst (λ (f : List Role). most c.roles.result.now f) (c.as_slice-from.ensures ∙ c.in_ok-from.ensures) c.walk_within.ensures.steps) in
    plan_cost s removed dirty wanted (reach_along (back dirty) (filter (has same_role dirty) wanted)) c.requires.closed (reach_along_told (back dirty) (filter (has same_role dirty) wanted)) (g.R.Adjacent.steps c.args.roles.now) (g.R.Adjacent.steps c.walk_within.new.roles) few
