-- The number that a word spells.
use Rattle.std.proofs.Common.{◌≡◌, ◌≢◌, ℕ, zero, suc, ◌<◌, ◌≤◌, ◌^◌, Bool, true, cond, List, length, get_or, Some, None, Result, Ok, Err, arith, refl, sym, ap, ◌∙◌}
use Rattle.std.specs.Prelude.{nat_eq, nat_lt, ◌&&◌, decimal}
use Rattle.std.specs.Cmp.Lexicographic.{pointwise}
use Rattle.std.specs.Result.{OkIff, result_ok}
use Rattle.std.specs.Str.Parse.{AllDigits, digits_value, ParsesUnsigned}
use Rattle.std.proofs.lemmas.Bool.{and_parts, ltb-true, lt-ltb}
use Rattle.std.proofs.lemmas.Fmt.{decimal_digit, first_decimal, decimal_nonempty, digits_decimal, digits_value-decimal, decimal-digits_value}
use Rattle.std.proofs.lemmas.Option.{cond_some}
use Rattle.std.proofs.lemmas.Slice.Eq.{bytes_eq-Decides}
use Rattle.std.proofs.lemmas.Str.Parse.{IsNumeralModel, numerals_by_value, tells_digits, digit_at, parse_plain}
use Rattle.cli_words.specs.Words.{IsNumber, number_of}

-- decimal digits and the number that they spell
own : IsNumeralModel (AllDigits 10) (digits_value 10)
own = numerals_by_value (AllDigits 10) tells_digits

-- what is found is the number
pub number_told : (word : List ℕ) (number : ℕ) → number_of word ≡ Some number → IsNumber word number
unfolding number_of
number_told word number is =
    let value : ℕ = digits_value 10 word in
    let found = cond_some (pointwise nat_eq (decimal value) word && nat_lt value (2 ^ 64)) value number is in
    let tests = and_parts (pointwise nat_eq (decimal value) word) (nat_lt value (2 ^ 64)) found.0 in
    let same : decimal value ≡ word = (bytes_eq-Decides (decimal value) word).0 tests.0 in
    let high : value < 2 ^ 64 = ltb-true value (2 ^ 64) tests.1 in
    record { spelled = sym same ∙ ap decimal found.1; fits = omega (arith, high, found.1) }

-- a number that is spelled is found
pub number_found : (word : List ℕ) (number : ℕ) → IsNumber word number → number_of word ≡ Some number
unfolding number_of
number_found word number is =
    let value : digits_value 10 word ≡ number = ap (digits_value 10) is.spelled ∙ digits_value-decimal own number is.fits in
    let test : ℕ → Bool = λ n. pointwise nat_eq (decimal n) word && nat_lt n (2 ^ 64) in
    let same : pointwise nat_eq (decimal number) word ≡ true = (bytes_eq-Decides (decimal number) word).1 (sym is.spelled) in
    let passes : test number ≡ true = rw (same, lt-ltb number (2 ^ 64) is.fits) refl in
    ap (λ n. cond (test n) (Some n) None) value ∙ ap (λ b. cond b (Some number) None) passes

-- where no number is spelled none is found
pub no_number : (word : List ℕ) → ((number : ℕ) → IsNumber word number → ⊥) → number_of word ≡ None
no_number word none =
    elim (number_of word) as (λ o. number_of word ≡ o → o ≡ None) [
      | Some number ↦ λ is. absurd (none number (number_told word number is))
      | None ↦ λ is. refl
    ] refl

-- the first digit of a number, and 0 is the first of no other than itself
pub first_digit : (word : List ℕ) (number : ℕ) → IsNumber word number
    → (0 < length word) × (48 ≤ get_or word 0 0) × (get_or word 0 0 ≤ 57) × (get_or word 0 0 ≡ 48 → length word ≡ 1)
first_digit word number is =
    let some : 0 < length (decimal number) = decimal_nonempty number is.fits in
    let digit = digit_at (decimal number) 0 (digits_decimal own number is.fits) some in
    let alone : get_or (decimal number) 0 0 ≡ 48 → length (decimal number) ≡ 1 = λ zero_first.
    elim number as (λ n. number ≡ n → length (decimal number) ≡ 1) [
      | zero ↦ λ e. ap length (ap decimal e ∙ decimal_digit 0 (omega arith))
      | suc n ↦ λ e. absurd (let above : 48 < get_or (decimal number) 0 0 = first_decimal number (omega (arith, e)) is.fits in omega (arith, above, zero_first))
    ] refl in
    rw is.spelled (some, digit.0, digit.1, alone)

parsed_so : {E : Type 0} (word : List ℕ) (r : Result ℕ E)
    → OkIff r (AllDigits 10 word × (0 < length word) × (digits_value 10 word < 2 ^ 64)) (digits_value 10 word)
    → (get_or word 0 0 ≡ 48 → length word ≡ 1) → result_ok r ≡ number_of word
parsed_so word (Ok x) parsed alone =
    let value : ℕ = digits_value 10 word in
    let spelled : decimal value ≡ word = decimal-digits_value own word parsed.0.0 parsed.0.1 alone parsed.0.2 in
    ap Some parsed.1 ∙ sym (number_found word value (record { spelled = sym spelled; fits = parsed.0.2 }))
parsed_so word (Err e) refused alone =
    sym (no_number word (λ number is.
    let digits : AllDigits 10 word = rw is.spelled (digits_decimal own number is.fits) in
    let value : digits_value 10 word ≡ number = ap (digits_value 10) is.spelled ∙ digits_value-decimal own number is.fits in
    refused (digits, (first_digit word number is).0, omega (arith, value, is.fits))))

-- what is parsed behind a first digit
pub number_parsed : {E : Type 0} (word text : List ℕ) (r : Result ℕ E) → text ≡ word → ParsesUnsigned 64 10 text r
    → 48 ≤ get_or word 0 0 → (get_or word 0 0 ≡ 48 → length word ≡ 1) → result_ok r ≡ number_of word
number_parsed {E} word text r same parses low alone =
    let parsed : ParsesUnsigned 64 10 word r = rw same at parses in
    let no_plus : get_or word 0 0 ≢ 43 = omega arith in
    parsed_so word r (parse_plain own 64 word r parsed no_plus) alone
