use Rattle.std.proofs.Common.{◌≡◌, ◌++◌, List, filter, map, refl, sym, ap, ◌∙◌, subst}
use Rattle.cry_base.specs.Store.{Store}
use Rattle.cry_base.specs.declared.roles.Edge.{Edge}
use Rattle.cry_base.specs.declared.roles.Role.{Role}
use Rattle.role_graph.specs.Adjacent.{edges_but}
use Rattle.role_graph.specs.Ascending.{IsAscending, ascending}
use Rattle.role_graph.specs.Closing.{IsClosed}
use Rattle.role_graph.specs.Edges.{edge_before, edges, in_order, same_edge}
use Rattle.role_graph.specs.Roles.{same_role}
use Rattle.role_graph.proofs.AtEnds.{touches}
use Rattle.rekey_walk.specs.Dirty.{mark_all, plan}
use Rattle.rekey_walk.proofs.Planning.{plan_ascends}
use Rattle.move_plan.specs.Seen.{plain_change}
use Rattle.public_fold.specs.KeyStep.{published_edges, without}
use Rattle.public_fold.specs.Stepping.{marks_alone}
use Rattle.public_fold.specs.declared.step.Due.{Due}
use Rattle.public_fold.proofs.DueMade.{due_is}
use Rattle.public_fold.proofs.FoundEdges.{found_for}
use Rattle.public_fold.proofs.HeldMarks.{closed_marks}
use Rattle.public_fold.proofs.StepLooked.{marked_first, planned_within, published_within}
use Rattle.public_fold.proofs.step.due_step.Goals as goal

pub plan_closed-requires : goal.plan_closed-requires
plan_closed-requires g c =
    let change = plain_change c.args.change in
    let at = c.requires in
    let left = c.in_ok-left.left in
    let is = c.in_ok-left.ensures.marks ∙ (λ i. without same_role change.gone (mark_all (at.marks i) (edges (at.store i)) (map (λ (e : Edge). e.to) change.removed))) in
    record {
      closed = subst (λ (s : Store). IsClosed (edges_but c.as_slice-removed.result.now (edges s)) left) (sym (c.dirty_left.ensures.same ∙ at.store))
          (closed_marks at.state change c.as_slice-removed.result.now left at.kept at.fits c.as_slice-removed.ensures is);
    }

pub returns-clause-due : goal.returns-clause-due
returns-clause-due g c =
    let change = plain_change c.args.change in
    let at = c.requires in
    let s : Store = g.R.Adjacent.store c.args.roles.now in
    let left : List Role = c.in_ok-left.left in
    let again : List Role = c.in_ok-renewed.renewed.items in
    let made : Due = record { renewed = c.in_ok-renewed.renewed; fresh = c.args.change.fresh; gone = c.in_ok-gone.gone; dirty = c.clean.new.dirty; edges = c.in_ok-edges.edges; version = c.args.change.version } in
    due_is (marks_alone c.args.dirty.now) (edges s) change left again made
    c.in_ok-left.ensures.marks
    (c.in_ok-renewed.ensures ∙ (λ i. ascending (c.as_slice.ensures i ++ (c.in_ok-planned.ensures.plan ∙ (λ j. plan left (edges_but (c.as_slice-removed.ensures j) (edges (c.dirty_left.ensures.same j))) (c.as_slice-wanted.ensures.roles j))) i)))
    refl
    (c.in_ok-gone.ensures ∙ (λ i. c.as_slice-again.ensures i ++ c.args.change.gone.items))
    (c.in_ok-edges.ensures.edges
    ∙ (λ i. in_order edge_before (without same_edge (c.as_slice-removed.ensures i) (filter (touches (c.as_slice-again.ensures i)) (edges ((c.plan_closed.ensures.same ∙ c.dirty_left.ensures.same) i))) ++ change.added))
    ∙ subst (λ (t : Store). in_order edge_before (without same_edge change.removed (filter (touches again) (edges t)) ++ change.added) ≡ published_edges (edges t) change again) (sym at.store)
    (found_for at.state change at.kept.stands at.fits again))
    (c.clean.ensures ∙ ap (λ (l : List Role). without same_role l left) c.as_slice-again.ensures)
    refl

pub returns-clause-look_ups : goal.returns-clause-look_ups
returns-clause-look_ups g c =
    let steps = g.R.Adjacent.steps in
    published_within (marks_alone c.args.dirty.now) (g.R.Adjacent.store c.args.roles.now) (g.R.Adjacent.store c.dirty_left.new.roles) (plain_change c.args.change)
    c.in_ok-left.left c.as_slice-wanted.result.now c.as_slice-removed.result.now c.dirty_left.ensures.same c.as_slice-removed.ensures c.as_slice-wanted.ensures.roles c.in_ok-left.ensures.marks
    (steps c.args.roles.now) (steps c.dirty_left.new.roles) c.dirty_left.ensures.steps (steps c.plan_closed.new.roles) c.plan_closed.ensures.steps
    (g.R.Adjacent.store c.plan_closed.new.roles) c.as_slice.result.now c.as_slice-again.result.now (steps c.published.new.roles) c.plan_closed.ensures.same c.as_slice.ensures
    (c.as_slice-again.ensures ∙ c.in_ok-renewed.ensures ∙ ap (λ l. ascending (c.as_slice.result.now ++ l)) c.in_ok-planned.ensures.plan) c.published.ensures.steps

pub returns-in_err-gone-clause-look_ups : goal.returns-in_err-gone-clause-look_ups
returns-in_err-gone-clause-look_ups g c =
    let steps = g.R.Adjacent.steps in
    published_within (marks_alone c.args.dirty.now) (g.R.Adjacent.store c.args.roles.now) (g.R.Adjacent.store c.dirty_left.new.roles) (plain_change c.args.change)
    c.in_ok-left.left c.as_slice-wanted.result.now c.as_slice-removed.result.now c.dirty_left.ensures.same c.as_slice-removed.ensures c.as_slice-wanted.ensures.roles c.in_ok-left.ensures.marks
    (steps c.args.roles.now) (steps c.dirty_left.new.roles) c.dirty_left.ensures.steps (steps c.plan_closed.new.roles) c.plan_closed.ensures.steps
    (g.R.Adjacent.store c.plan_closed.new.roles) c.as_slice.result.now c.as_slice-again.result.now (steps c.published.new.roles) c.plan_closed.ensures.same c.as_slice.ensures
    (c.as_slice-again.ensures ∙ c.in_ok-renewed.ensures ∙ ap (λ l. ascending (c.as_slice.result.now ++ l)) c.in_ok-planned.ensures.plan) c.published.ensures.steps

pub returns-in_err-edges-clause-look_ups : goal.returns-in_err-edges-clause-look_ups
returns-in_err-edges-clause-look_ups g c =
    let steps = g.R.Adjacent.steps in
    published_within (marks_alone c.args.dirty.now) (g.R.Adjacent.store c.args.roles.now) (g.R.Adjacent.store c.dirty_left.new.roles) (plain_change c.args.change)
    c.in_ok-left.left c.as_slice-wanted.result.now c.as_slice-removed.result.now c.dirty_left.ensures.same c.as_slice-removed.ensures c.as_slice-wanted.ensures.roles c.in_ok-left.ensures.marks
    (steps c.args.roles.now) (steps c.dirty_left.new.roles) c.dirty_left.ensures.steps (steps c.plan_closed.new.roles) c.plan_closed.ensures.steps
    (g.R.Adjacent.store c.plan_closed.new.roles) c.as_slice.result.now c.as_slice-again.result.now (steps c.published.new.roles) c.plan_closed.ensures.same c.as_slice.ensures
    (c.as_slice-again.ensures ∙ c.in_ok-renewed.ensures ∙ ap (λ l. ascending (c.as_slice.result.now ++ l)) c.in_ok-planned.ensures.plan) c.published.ensures.steps

pub returns-in_err-renewed-clause-look_ups : goal.returns-in_err-renewed-clause-look_ups
returns-in_err-renewed-clause-look_ups g c =
    let steps = g.R.Adjacent.steps in
    planned_within (marks_alone c.args.dirty.now) (g.R.Adjacent.store c.args.roles.now) (g.R.Adjacent.store c.dirty_left.new.roles) (plain_change c.args.change)
    c.in_ok-left.left c.as_slice-wanted.result.now c.as_slice-removed.result.now c.dirty_left.ensures.same c.as_slice-removed.ensures c.as_slice-wanted.ensures.roles c.in_ok-left.ensures.marks
    (steps c.args.roles.now) (steps c.dirty_left.new.roles) c.dirty_left.ensures.steps (steps c.plan_closed.new.roles) c.plan_closed.ensures.steps

pub returns-in_err-planned-clause-look_ups : goal.returns-in_err-planned-clause-look_ups
returns-in_err-planned-clause-look_ups g c =
    let steps = g.R.Adjacent.steps in
    planned_within (marks_alone c.args.dirty.now) (g.R.Adjacent.store c.args.roles.now) (g.R.Adjacent.store c.dirty_left.new.roles) (plain_change c.args.change)
    c.in_ok-left.left c.as_slice-wanted.result.now c.as_slice-removed.result.now c.dirty_left.ensures.same c.as_slice-removed.ensures c.as_slice-wanted.ensures.roles c.in_ok-left.ensures.marks
    (steps c.args.roles.now) (steps c.dirty_left.new.roles) c.dirty_left.ensures.steps (steps c.plan_closed.new.roles) c.plan_closed.ensures.steps

pub returns-in_err-left-clause-look_ups : goal.returns-in_err-left-clause-look_ups
returns-in_err-left-clause-look_ups g c =
    let change = plain_change c.args.change in
    marked_first (marks_alone c.args.dirty.now) (edges (g.R.Adjacent.store c.args.roles.now)) change (g.R.Adjacent.steps c.args.roles.now) (g.R.Adjacent.steps c.dirty_left.new.roles) c.dirty_left.ensures.steps

pub with_strict-requires : goal.with_strict-requires
with_strict-requires g c = subst IsAscending (sym c.in_ok-planned.ensures.plan) (plan_ascends c.in_ok-left.left _ _)
