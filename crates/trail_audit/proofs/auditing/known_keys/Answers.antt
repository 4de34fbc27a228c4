use Rattle.std.proofs.Common.{Ok, ap, sym, ◌∙◌}
use Rattle.std.proofs.lemmas.Result.{IfOk-weaker, err_from_is_err_and}
use Rattle.log_visits.specs.Judging.{read_with}
use Rattle.log_visits.specs.Placing.{log_links}
use Rattle.public_fold.specs.KeyStep.{KeyState}
use Rattle.public_fold.specs.Standing.{PublicView}
use Rattle.trail_audit.specs.Grouped.{HasGroups, source_of_link}
use Rattle.trail_audit.proofs.Answered.{keys_found, never_of_disk, never_unseen, reading_fails}
use Rattle.trail_audit.proofs.auditing.known_keys.Goals as goal

pub returns-in_err-admit-clause-answer : goal.returns-in_err-admit-clause-answer
returns-in_err-admit-clause-answer c = λ log read has.
    let p = err_from_is_err_and c.from_residual.result c.from_residual.ensures.1 in
    rw (p.1, p.2) (reading_fails (read_with c.args.bundle.now (Ok log)) c.args.bundle.now c.in_err-admit.field-0.0 (c.in_err-admit.ensures.answer log read))

pub returns-clause-answer : goal.returns-clause-answer
returns-clause-answer c = λ log read has.
    let a = c.in_ok-admit.ensures.answer log read in
    let r = a.0 in
    let of_log = a.2.0 in
    keys_found (read_with c.args.bundle.now (Ok log)) c.args.bundle.now log r c.bundle_key-own.result c.right_keys.result (HasGroups source_of_link c.args.links) a.1 of_log.0
    (c.bundle_key-own.ensures r (ap (λ (k : KeyState). k.keys) of_log.1.keys ∙ ap (λ (v : PublicView). v.keys.keys) (sym c.state.ensures))) has c.right_keys.ensures.keys c.right_keys.ensures.fault

pub returns-clause-no_disk : goal.returns-clause-no_disk
returns-clause-no_disk c = never_of_disk c.right_keys.result (log_links c.requires.kept.0) c.bundle_key-own.result (HasGroups source_of_link c.args.links) c.right_keys.ensures.fault c.requires.kept.2

pub returns-clause-seen : goal.returns-clause-seen
returns-clause-seen c = never_unseen c.right_keys.result (log_links c.requires.kept.0) c.bundle_key-own.result (HasGroups source_of_link c.args.links) c.right_keys.ensures.fault c.requires.kept.2

pub returns-clause-grouped : goal.returns-clause-grouped
returns-clause-grouped c = IfOk-weaker c.right_keys.result _ _ (λ known grouped. grouped (log_links c.requires.kept.0) c.requires.kept.2) c.right_keys.ensures.grouped
