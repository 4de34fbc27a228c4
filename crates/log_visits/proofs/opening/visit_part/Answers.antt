use Rattle.std.proofs.Common.{◌+◌, ◌<◌, ◌≤◌, length, drop, get_or, map, subst, arith}
use Rattle.std.specs.List.{AllByRecursion}
use Rattle.std.proofs.lemmas.Result.{err_from_is_err_and}
use Rattle.cry_base.specs.declared.roles.Role.TheVariants.{Owner}
use Rattle.log_visits.specs.declared.visit_list.Visit.{Visit as Listed}
use Rattle.log_visits.specs.declared.visit_list.Visit.TheVariants.{Link}
use Rattle.log_visits.specs.Opening.{HasItsKind, plain_visit}
use Rattle.log_visits.proofs.Opens.{ArePassed, pass_fails, pass_on, visits_behind, visits_from}
use Rattle.log_visits.proofs.opening.visit_part.Goals as goal

pub loop-visit-init : goal.loop-visit-init
loop-visit-init g c = record {
  kinds = c.requires.kinds;
  present = c.requires.keys;
  sized = c.requires.sized;
  stays = g.met.R.Records.same c.args.source.now;
  visited = λ shown all left first is. is;
}

pub returns-in_err-visit_one-clause-stays : goal.returns-in_err-visit_one-clause-stays
returns-in_err-visit_one-clause-stays g c = g.met.R.Records.twice c.args.source.now c.loop-visit.source c.visit_one.new.source c.loop-visit.invariant.stays c.in_err-visit_one.ensures.stays

pub returns-in_err-visit_one-clause-disk_fault : goal.returns-in_err-visit_one-clause-disk_fault
returns-in_err-visit_one-clause-disk_fault g c = λ is.
    let p = err_from_is_err_and c.from_residual.result c.from_residual.ensures.1 in
    let rose = c.in_err-visit_one.ensures.disk_fault cc in
    let kept = g.met.R.Records.counts c.args.source.now c.loop-visit.source c.loop-visit.invariant.stays in
    omega (arith, kept, rose)

pub returns-in_err-visit_one-clause-failed : goal.returns-in_err-visit_one-clause-failed
returns-in_err-visit_one-clause-failed g c = λ shown.
    let p = err_from_is_err_and c.from_residual.result c.from_residual.ensures.1 in
    let state = c.args.state.now in
    let log = g.R.Records.log c.args.records.now in
    let visits = c.args.visits.now in
    let all = map plain_visit visits in
    let i = c.loop-visit.visit-index in
    let d : Listed = Link (record { kind = 0; from = Owner; to = Owner }) in
    let within : i < length visits = omega (arith, c.loop-visit-test.true) in
    let so_far = subst (λ l. ArePassed state log all c.args.view.now l c.loop-visit.view) (visits_from visits i d within) (c.loop-visit.invariant.visited shown) in
    rw (p.1, p.2)
    (pass_fails state log all (map plain_visit (drop (i + 1) visits)) (plain_visit (get_or visits i d)) c.args.view.now c.loop-visit.view c.visit_one.new.view c.in_err-visit_one.field-0.0
    so_far (c.in_err-visit_one.ensures.answer (g.met.R.Records.still_shows c.args.records.now c.args.source.now c.loop-visit.source c.loop-visit.invariant.stays shown)))

pub loop-visit-preserved : goal.loop-visit-preserved
loop-visit-preserved g c =
    let state = c.args.state.now in
    let log = g.R.Records.log c.args.records.now in
    let visits = c.args.visits.now in
    let all = map plain_visit visits in
    let i = c.loop-visit.visit-index in
    let d : Listed = Link (record { kind = 0; from = Owner; to = Owner }) in
    let within : i < length visits = omega (arith, c.loop-visit-test.true) in
    let kinds = subst (AllByRecursion HasItsKind) (visits_from visits i d within) c.loop-visit.invariant.kinds in
    record {
      kinds = kinds.1;
      present = c.in_ok-visit_one.ensures.keys;
      sized = c.in_ok-visit_one.ensures.sized c.loop-visit.invariant.sized;
      stays = g.met.R.Records.twice c.args.source.now c.loop-visit.source c.visit_one.new.source c.loop-visit.invariant.stays c.in_ok-visit_one.ensures.stays;
      visited = λ shown.
          pass_on state log all (map plain_visit (drop (i + 1) visits)) (plain_visit (get_or visits i d)) c.args.view.now c.loop-visit.view c.visit_one.new.view
          (subst (λ l. ArePassed state log all c.args.view.now l c.loop-visit.view) (visits_from visits i d within) (c.loop-visit.invariant.visited shown))
          (c.in_ok-visit_one.ensures.answer (g.met.R.Records.still_shows c.args.records.now c.args.source.now c.loop-visit.source c.loop-visit.invariant.stays shown));
    }

pub returns-clause-visited : goal.returns-clause-visited
returns-clause-visited g c = λ shown.
    let state = c.args.state.now in
    let log = g.R.Records.log c.args.records.now in
    let visits = c.args.visits.now in
    let past : length visits ≤ c.loop-visit.visit-index = omega (arith, c.loop-visit-test.false) in
    subst (λ l. ArePassed state log (map plain_visit visits) c.args.view.now l c.loop-visit.view) (visits_behind visits c.loop-visit.visit-index past) (c.loop-visit.invariant.visited shown)
