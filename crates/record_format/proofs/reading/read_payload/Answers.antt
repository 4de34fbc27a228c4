use Rattle.std.proofs.Common.{◌≡◌, length, Ok, Err, sym, ap, subst, ◌∙◌, arith}
use Rattle.record_format.specs.Plain.{plain_payload}
use Rattle.record_format.specs.Reading.{whole_payload}
use Rattle.record_format.proofs.PayloadLaws.{IsLeft, whole_takes, whole_again, whole_left}
use Rattle.record_format.proofs.Places.{before_place}
use Rattle.record_format.proofs.reading.read_payload.Goals as goal

pub overflow_sub-result : goal.overflow_sub-result
overflow_sub-result c =
    let bytes = c.args.bytes.now in
    let stopped : whole_payload bytes ≡ Err c.in-Err-Bad.left = rw c.in-Err-Bad.field-0-is at c.in-Err-Bad.ensures in
    subst (IsLeft (length bytes)) stopped (whole_left bytes)

pub returns-in-Ok-clause-found : goal.returns-in-Ok-clause-found
returns-in-Ok-clause-found c = whole_takes c.args.bytes.now (plain_payload c.in-Ok.payload) (λ i. omega (arith, c.type_inv.bytes i)) c.in-Ok.ensures

pub returns-in-Ok-clause-only : goal.returns-in-Ok-clause-only
returns-in-Ok-clause-only c = λ p fits e. sym (whole_again p fits) ∙ ap whole_payload (sym e) ∙ c.in-Ok.ensures

pub returns-in-Err-Bad-clause-only : goal.returns-in-Err-Bad-clause-only
returns-in-Err-Bad-clause-only c = λ p fits e.
    let stopped : whole_payload c.args.bytes.now ≡ Err c.in-Err-Bad.left = rw c.in-Err-Bad.field-0-is at c.in-Err-Bad.ensures in
    let wrong : Ok p ≡ Err c.in-Err-Bad.left = sym (whole_again p fits) ∙ ap whole_payload (sym e) ∙ stopped in
    absurd (cc)

pub returns-in-Err-Bad-clause-before : goal.returns-in-Err-Bad-clause-before
returns-in-Err-Bad-clause-before c =
    let stopped : whole_payload c.args.bytes.now ≡ Err c.in-Err-Bad.left = rw c.in-Err-Bad.field-0-is at c.in-Err-Bad.ensures in
    before_place c.args.bytes.now c.in-Err-Bad.left (λ i. omega (arith, c.type_inv.bytes i)) stopped
