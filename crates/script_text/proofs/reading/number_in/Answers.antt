use Rattle.std.proofs.Common.{◌≡◌, ℕ, List, get_or, ◌∙◌, sym, arith}
use Rattle.std.specs.Prelude.{IsUtf8}
use Rattle.std.specs.Str.{IsValidUpTo, valid_up_to}
use Rattle.std.proofs.lemmas.Fmt.{IsAscii-decimal}
use Rattle.std.proofs.lemmas.Option.{get_or_from_slice_get, slice_get-get_or}
use Rattle.std.proofs.lemmas.Str.{IsUtf8-from_ascii}
use Rattle.script_text.proofs.Numbers.{no_number, first_digit, number_parsed, bad_first}
use Rattle.script_text.proofs.Results.{of_ok, of_err}
use Rattle.script_text.proofs.reading.number_in.Goals as goal

pub returns-in_err-first : goal.returns-in_err-first
returns-in_err-first c =
    c.from_residual.ensures ∙ sym (no_number c.args.field.now (λ number is.
    let first = slice_get-get_or c.args.field.now 0 0 (first_digit c.args.field.now number is).0 in
    cc (c.in_err-first.ensures.value, first)))

pub returns-in_err-ok : goal.returns-in_err-ok
returns-in_err-ok c =
    let field : List ℕ = c.args.field.now in
    let refused = of_err c.from_utf8.result (λ s. (s.now ≡ field) × IsUtf8 field) (λ e. (¬ IsUtf8 field) × IsValidUpTo field (valid_up_to e))
    c.from_utf8.ensures.cases c.in_err-ok.ensures.value in
    c.from_residual-in_err-ok.ensures ∙ sym (no_number field (λ number is.
    refused.1.0 (IsUtf8-from_ascii field (rw is.spelled (IsAscii-decimal number (omega (arith, is.fits)))))))

pub returns : goal.returns
returns c =
    let field : List ℕ = c.args.field.now in
    let text = of_ok c.from_utf8.result (λ s. (s.now ≡ field) × IsUtf8 field) (λ e. (¬ IsUtf8 field) × IsValidUpTo field (valid_up_to e)) c.in_ok-ok.field-0
    c.from_utf8.ensures.cases c.in_ok-ok.ensures.value in
    let first : get_or field 0 0 ≡ c.in_ok-first.field-0.now = get_or_from_slice_get field 0 c.in_ok-first.field-0.now 0 (sym c.in_ok-first.ensures.value) in
    let digit = c.if-not-is_ascii_digit.ensures.cases in
    c.ok-2.ensures.value
    ∙ number_parsed field c.in_ok-ok.field-0.now c.parse.result text.0 c.parse.ensures.value.0
    (omega (arith, first, digit, c.if-first-eq48.false))
    (omega (arith, first, digit))

pub returns-then-not-is_ascii_digit : goal.returns-then-not-is_ascii_digit
returns-then-not-is_ascii_digit c =
    sym (bad_first c.args.field.now c.in_ok-first.field-0.now c.is_ascii_digit.result c.in_ok-first.ensures.value c.is_ascii_digit.ensures.cases c.then-not-is_ascii_digit.either)
