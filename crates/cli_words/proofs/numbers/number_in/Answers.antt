use Rattle.std.proofs.Common.{◌≡◌, ◌<◌, ⊎_elim, ℕ, List, get_or, length, ◌∙◌, sym, arith}
use Rattle.std.specs.Prelude.{IsUtf8}
use Rattle.std.specs.Str.{IsValidUpTo, valid_up_to}
use Rattle.std.proofs.lemmas.Fmt.{IsAscii-decimal}
use Rattle.std.proofs.lemmas.Option.{get_or_from_slice_get, slice_get-get_or, slice_get_within}
use Rattle.std.proofs.lemmas.Str.{IsUtf8-from_ascii}
use Rattle.cli_words.proofs.SpelledNumbers.{no_number, first_digit, number_parsed}
use Rattle.script_text.proofs.Results.{of_ok, of_err}
use Rattle.cli_words.proofs.numbers.number_in.Goals as goal

pub returns-in_err-first : goal.returns-in_err-first
returns-in_err-first c =
    c.from_residual.ensures ∙ sym (no_number c.args.word.now (λ number is.
    let first = slice_get-get_or c.args.word.now 0 0 (first_digit c.args.word.now number is).0 in
    cc (c.in_err-first.ensures.value, first)))

pub returns-in_err-ok : goal.returns-in_err-ok
returns-in_err-ok c =
    let word : List ℕ = c.args.word.now in
    let refused = of_err c.from_utf8.result (λ s. (s.now ≡ word) × IsUtf8 word) (λ e. (¬ IsUtf8 word) × IsValidUpTo word (valid_up_to e))
    c.from_utf8.ensures.cases c.in_err-ok.ensures.value in
    c.from_residual-in_err-ok.ensures ∙ sym (no_number word (λ number is.
    refused.1.0 (IsUtf8-from_ascii word (rw is.spelled (IsAscii-decimal number is.fits)))))

pub returns : goal.returns
returns c =
    let word : List ℕ = c.args.word.now in
    let text = of_ok c.from_utf8.result (λ s. (s.now ≡ word) × IsUtf8 word) (λ e. (¬ IsUtf8 word) × IsValidUpTo word (valid_up_to e)) c.in_ok-ok.field-0
    c.from_utf8.ensures.cases c.in_ok-ok.ensures.value in
    let first : get_or word 0 0 ≡ c.in_ok-first.field-0.now = get_or_from_slice_get word 0 c.in_ok-first.field-0.now 0 (sym c.in_ok-first.ensures.value) in
    let digit = c.if-not-is_ascii_digit.ensures.cases in
    let some : 0 < length word = slice_get_within word 0 c.in_ok-first.field-0.now (sym c.in_ok-first.ensures.value) in
    c.ok-2.ensures.value
    ∙ number_parsed word c.in_ok-ok.field-0.now c.parse.result text.0 c.parse.ensures.value.0 (omega (arith, first, digit))
    (λ zero_first. ⊎_elim (λ one. omega (arith, one.1, some)) (λ other. absurd (other (sym first ∙ zero_first))) c.else-first-eq48.either)

pub returns-then-not-is_ascii_digit : goal.returns-then-not-is_ascii_digit
returns-then-not-is_ascii_digit c =
    let word : List ℕ = c.args.word.now in
    let first : get_or word 0 0 ≡ c.in_ok-first.field-0.now = get_or_from_slice_get word 0 c.in_ok-first.field-0.now 0 (sym c.in_ok-first.ensures.value) in
    let other = c.if-not-is_ascii_digit.ensures.cases in
    sym (no_number word (λ number is. let digit = first_digit word number is in omega (arith, digit.1, digit.2, first, other)))

pub returns-then-word-gt1 : goal.returns-then-word-gt1
returns-then-word-gt1 c =
    let word : List ℕ = c.args.word.now in
    let first : get_or word 0 0 ≡ c.in_ok-first.field-0.now = get_or_from_slice_get word 0 c.in_ok-first.field-0.now 0 (sym c.in_ok-first.ensures.value) in
    let long = c.if-word-gt1.true in
    sym (no_number word (λ number is. let alone = (first_digit word number is).3 (first ∙ c.if-first-eq48.true) in omega (arith, alone, long)))
