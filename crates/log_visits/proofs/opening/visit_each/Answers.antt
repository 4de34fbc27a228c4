use Rattle.std.proofs.Common.{map}
use Rattle.std.proofs.lemmas.Result.{err_from_is_err_and}
use Rattle.log_visits.specs.Opening.{plain_visit}
use Rattle.log_visits.proofs.Opens.{alone_fails, alone_visited}
use Rattle.log_visits.proofs.opening.visit_each.Goals as goal

pub returns-clause-answer : goal.returns-clause-answer
returns-clause-answer g c = λ shown told r o fit of_log begun.
    alone_visited c.args.state.now (g.R.Records.log c.args.records.now) (map plain_visit c.args.visits.now) c.args.before c.visit_part.new.view (c.in_ok-visit_part.ensures.visited shown) told r o fit of_log begun

pub returns-in_err-visit_part-clause-answer : goal.returns-in_err-visit_part-clause-answer
returns-in_err-visit_part-clause-answer g c = λ shown told r o fit of_log begun.
    let p = err_from_is_err_and c.from_residual.result c.from_residual.ensures.1 in
    rw (p.1, p.2)
    (alone_fails c.args.state.now (g.R.Records.log c.args.records.now) (map plain_visit c.args.visits.now) c.args.before c.in_err-visit_part.field-0.0 (c.in_err-visit_part.ensures.failed shown) told r o fit of_log begun)
