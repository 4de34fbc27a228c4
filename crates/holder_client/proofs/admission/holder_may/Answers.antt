use Rattle.std.proofs.Common.{length, sym, ap, ◌∙◌}
use Rattle.cry_base.specs.Store.{Store}
use Rattle.log_visits.specs.Judging.{published_check}
use Rattle.holder_client.proofs.Admitted.{no_holder, other_key, own_key}
use Rattle.holder_client.proofs.admission.holder_may.Goals as goal

pub returns-in_default-clause-answer : goal.returns-in_default-clause-answer
returns-in_default-clause-answer c = λ log r has of_log.
    no_holder c.args.key.now r (published_check c.args.h.0 r.log) c.holders.result
    (ap (published_check c.args.h.0) of_log.0 ∙ sym (has c.args.h.0) ∙ sym (c.copied.ensures ∙ c.get.ensures.value) ∙ c.in_default.is)
    (c.holders.ensures ∙ ap length c.grants.ensures.checks ∙ sym (ap (λ (s : Store). s.holders_made) of_log.1.store))

pub returns-then-not-is_key_of-clause-answer : goal.returns-then-not-is_key_of-clause-answer
returns-then-not-is_key_of-clause-answer c = λ log r has of_log.
    other_key c.args.key.now c.in-Some.check r (published_check c.args.h.0 r.log)
    (ap (published_check c.args.h.0) of_log.0 ∙ sym (has c.args.h.0) ∙ sym (c.copied.ensures ∙ c.get.ensures.value) ∙ c.in-Some.is) (sym c.is_key_of.ensures ∙ c.if-not-is_key_of.true)

pub returns-clause-answer : goal.returns-clause-answer
returns-clause-answer c = λ log r has of_log.
    own_key c.args.key.now c.in-Some.check r (published_check c.args.h.0 r.log)
    (ap (published_check c.args.h.0) of_log.0 ∙ sym (has c.args.h.0) ∙ sym (c.copied.ensures ∙ c.get.ensures.value) ∙ c.in-Some.is) (sym c.is_key_of.ensures ∙ c.if-not-is_key_of.false)
