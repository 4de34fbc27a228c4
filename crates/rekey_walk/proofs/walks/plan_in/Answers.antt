use Rattle.std.proofs.Common.{◌≡◌, ◌==◌, List, length, filter, sym, ap, ◌∙◌}
use Rattle.std.proofs.lemmas.Result.{IfOk-weaker}
use Rattle.cry_base.specs.Listed.{Listed}
use Rattle.cry_base.specs.Sets.{has}
use Rattle.cry_base.specs.Store.{Store}
use Rattle.cry_base.specs.declared.roles.Role.{Role}
use Rattle.role_graph.specs.Adjacent.{edges_but}
use Rattle.role_graph.specs.Closing.{turned}
use Rattle.role_graph.specs.Edges.{edges, reach_along}
use Rattle.role_graph.specs.Roles.{same_role}
use Rattle.rekey_walk.specs.Dirty.{plan}
use Rattle.rekey_walk.proofs.ByWalks.{is_planned, plan_walked, planned_whole}
use Rattle.rekey_walk.proofs.Reordered.{plan_none}
use Rattle.rekey_walk.proofs.walks.plan_in.Goals as goal

pub returns-then-is_empty-clause-plan : goal.returns-then-is_empty-clause-plan
returns-then-is_empty-clause-plan g c =
    let s : Store = g.R.Adjacent.store c.args.roles.now in
    c.new.ensures
    ∙ plan_none c.args.dirty.now (edges_but c.args.removed.now (edges s)) c.args.wanted.now (ap (λ (l : List Role). length l == 0) (sym c.as_slice.ensures.roles) ∙ sym c.is_empty.ensures ∙ c.if-is_empty.true)

pub returns-clause-plan : goal.returns-clause-plan
returns-clause-plan g c =
    let s : Store = g.R.Adjacent.store c.args.roles.now in
    let leading = c.in_ok-leading.leading in
    let told = is_planned s c.args.removed.now c.args.wanted.now leading c.in_ok-leading.ensures.reached c.args.dirty.now c.as_slice.ensures.ascending in
    IfOk-weaker c.common.result (λ (l : Listed Role). l.items ≡ filter (has same_role leading) c.args.dirty.now)
    (λ (l : Listed Role). l.items ≡ plan c.args.dirty.now (edges_but c.args.removed.now (edges s)) c.args.wanted.now)
    (λ l e. e ∙ told) c.common.ensures

pub returns-clause-steps : goal.returns-clause-steps
returns-clause-steps g c =
    plan_walked (g.R.Adjacent.store c.args.roles.now) c.args.removed.now c.args.wanted.now (g.R.Adjacent.steps c.args.roles.now) (g.R.Adjacent.steps c.walk.new.roles) c.walk.ensures.steps

pub returns-clause-whole : goal.returns-clause-whole
returns-clause-whole g c =
    let es = edges (g.R.Adjacent.store c.args.roles.now) in
    planned_whole es (reach_along (turned (edges_but c.args.removed.now es)) c.args.wanted.now) (g.R.Adjacent.steps c.args.roles.now) (g.R.Adjacent.steps c.walk.new.roles) (length c.args.wanted.now) (returns-clause-steps g c)

pub returns-in_err-leading-clause-steps : goal.returns-in_err-leading-clause-steps
returns-in_err-leading-clause-steps g c =
    plan_walked (g.R.Adjacent.store c.args.roles.now) c.args.removed.now c.args.wanted.now (g.R.Adjacent.steps c.args.roles.now) (g.R.Adjacent.steps c.walk.new.roles) c.walk.ensures.steps

pub returns-in_err-leading-clause-whole : goal.returns-in_err-leading-clause-whole
returns-in_err-leading-clause-whole g c =
    let es = edges (g.R.Adjacent.store c.args.roles.now) in
    planned_whole es (reach_along (turned (edges_but c.args.removed.now es)) c.args.wanted.now) (g.R.Adjacent.steps c.args.roles.now) (g.R.Adjacent.steps c.walk.new.roles) (length c.args.wanted.now) (returns-in_err-leading-clause-steps g c)
