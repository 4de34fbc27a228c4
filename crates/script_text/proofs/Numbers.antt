-- The number that a field spells.
use Rattle.std.proofs.Common.{◌≡◌, ◌≢◌, ℕ, ◌<◌, ◌≤◌, ◌^◌, Bool, true, false, cond, List, length, get_or, Some, None, Result, Ok, Err, arith, refl, sym, ap, ◌∙◌, inl, inr, ◌⊎◌}
use Rattle.std.specs.Prelude.{nat_eq, nat_le, nat_lt, ◌&&◌, decimal}
use Rattle.std.specs.Cmp.Lexicographic.{pointwise}
use Rattle.std.specs.Bool.{MatchBool}
use Rattle.std.specs.Char.{IsAsciiDigit, IsNotAsciiDigit}
use Rattle.std.specs.List.{slice_get}
use Rattle.std.specs.Result.{OkIff, result_ok}
use Rattle.std.specs.Str.Parse.{AllDigits, digits_value, ParsesUnsigned}
use Rattle.std.proofs.lemmas.Bool.{and_parts, cases_lt, leb-true, ltb-true, le-leb, lt-ltb}
use Rattle.std.proofs.lemmas.Fmt.{decimal_digit, first_decimal, decimal_nonempty, digits_decimal, digits_value-decimal, decimal-digits_value, length-decimal-le}
use Rattle.std.proofs.lemmas.Option.{cond_some, get_or_from_slice_get}
use Rattle.std.proofs.lemmas.Slice.Eq.{bytes_eq-Decides}
use Rattle.std.proofs.lemmas.Str.Parse.{IsNumeralModel, numerals_by_value, tells_digits, digit_at, parse_plain}
use Rattle.script_text.specs.Reading.{IsNumber, number_of}

-- decimal digits and the number that they spell
pub own : IsNumeralModel (AllDigits 10) (digits_value 10)
own = numerals_by_value (AllDigits 10) tells_digits

-- what is found is the number
pub number_told : (field : List ℕ) (number : ℕ) → number_of field ≡ Some number → IsNumber field number
unfolding number_of
number_told field number is =
    let value : ℕ = digits_value 10 field in
    let found = cond_some (pointwise nat_eq (decimal value) field && (nat_le 1 value && nat_lt value (2 ^ 32))) value number is in
    let tests = and_parts (pointwise nat_eq (decimal value) field) (nat_le 1 value && nat_lt value (2 ^ 32)) found.0 in
    let bounds = and_parts (nat_le 1 value) (nat_lt value (2 ^ 32)) tests.1 in
    let same : decimal value ≡ field = (bytes_eq-Decides (decimal value) field).0 tests.0 in
    let low : 1 ≤ value = leb-true 1 value bounds.0 in
    let high : value < 2 ^ 32 = ltb-true value (2 ^ 32) bounds.1 in
    record { spelled = sym same ∙ ap decimal found.1; from_one = omega arith; fits = omega arith }

-- a number that is spelled is found
pub number_found : (field : List ℕ) (number : ℕ) → IsNumber field number → number_of field ≡ Some number
unfolding number_of
number_found field number is =
    let value : digits_value 10 field ≡ number = ap (digits_value 10) is.spelled ∙ digits_value-decimal own number (omega arith) in
    let test : ℕ → Bool = λ n. pointwise nat_eq (decimal n) field && (nat_le 1 n && nat_lt n (2 ^ 32)) in
    let same : pointwise nat_eq (decimal number) field ≡ true = (bytes_eq-Decides (decimal number) field).1 (sym is.spelled) in
    let passes : test number ≡ true = rw (same, le-leb 1 number is.from_one, lt-ltb number (2 ^ 32) is.fits) refl in
    ap (λ n. cond (test n) (Some n) None) value ∙ ap (λ b. cond b (Some number) None) passes

-- where no number is spelled none is found
pub no_number : (field : List ℕ) → ((number : ℕ) → IsNumber field number → ⊥) → number_of field ≡ None
no_number field none =
    elim (number_of field) as (λ o. number_of field ≡ o → o ≡ None) [
      | Some number ↦ λ is. absurd (none number (number_told field number is))
      | None ↦ λ is. refl
    ] refl

-- the first digit is one from 1 to 9
pub first_digit : (field : List ℕ) (number : ℕ) → IsNumber field number → (0 < length field) × (49 ≤ get_or field 0 0) × (get_or field 0 0 ≤ 57)
first_digit field number is =
    let n_fits : number < 2 ^ 64 = omega arith in
    let some : 0 < length (decimal number) = decimal_nonempty number n_fits in
    let low : 48 < get_or (decimal number) 0 0 = first_decimal number (omega arith) n_fits in
    let high = digit_at (decimal number) 0 (digits_decimal own number n_fits) some in
    rw is.spelled (some, omega arith, high.1)

parsed_so : {E : Type 0} (field : List ℕ) (r : Result ℕ E)
    → OkIff r (AllDigits 10 field × (0 < length field) × (digits_value 10 field < 2 ^ 32)) (digits_value 10 field)
    → 49 ≤ get_or field 0 0 → result_ok r ≡ number_of field
parsed_so field (Ok x) parsed low =
    let value : ℕ = digits_value 10 field in
    let spelled : decimal value ≡ field =
    decimal-digits_value own field parsed.0.0 parsed.0.1 (λ zero_first. absurd (omega (arith, zero_first, low))) (omega (arith, parsed.0.2)) in
    let from_one : 1 ≤ value = elim (cases_lt 0 value) [
      | inl some ↦ some
      | inr none ↦
          let zero_value : value ≡ 0 = omega arith in
          let first : get_or field 0 0 ≡ 48 = ap (λ f. get_or f 0 0) (sym spelled ∙ ap decimal zero_value ∙ decimal_digit 0 (omega arith)) in
          absurd (omega arith)
    ] in
    ap Some parsed.1 ∙ sym (number_found field value (record { spelled = sym spelled; from_one = from_one; fits = parsed.0.2 }))
parsed_so field (Err e) refused low =
    sym (no_number field (λ number is.
    let n_fits : number < 2 ^ 64 = omega (arith, is.fits) in
    let digits : AllDigits 10 field = rw is.spelled (digits_decimal own number n_fits) in
    let value : digits_value 10 field ≡ number = ap (digits_value 10) is.spelled ∙ digits_value-decimal own number n_fits in
    refused (digits, (first_digit field number is).0, omega (arith, value, is.fits))))

-- what is parsed behind a first digit from 1 to 9
pub number_parsed : {E : Type 0} (field text : List ℕ) (r : Result ℕ E) → text ≡ field → ParsesUnsigned 32 10 text r
    → 49 ≤ get_or field 0 0 → get_or field 0 0 ≤ 57 → result_ok r ≡ number_of field
number_parsed {E} field text r same parses low high =
    let parsed : ParsesUnsigned 32 10 field r = rw same at parses in
    let no_plus : get_or field 0 0 ≢ 43 = omega arith in
    parsed_so field r (parse_plain own 32 field r parsed no_plus) low

-- behind another first byte there is no number
pub bad_first : (field : List ℕ) (first : ℕ) (digit : Bool) → Some first ≡ slice_get field 0 → MatchBool digit (IsAsciiDigit first) (IsNotAsciiDigit first)
    → (digit ≡ false) ⊎ ((digit ≡ true) × (first ≡ 48)) → number_of field ≡ None
bad_first field first true is told (inl contradiction) = cc
bad_first field first true is told (inr zero_first) =
    let at : get_or field 0 0 ≡ first = get_or_from_slice_get field 0 first 0 (sym is) in
    no_number field (λ number spelled. let d = first_digit field number spelled in omega (arith, d, at, zero_first.1))
bad_first field first false is told either =
    let at : get_or field 0 0 ≡ first = get_or_from_slice_get field 0 first 0 (sym is) in
    no_number field (λ number spelled. let d = first_digit field number spelled in omega (arith, d, at, told))

-- a number has at most ten digits
pub number_within : (field : List ℕ) (number : ℕ) → IsNumber field number → length field ≤ 10
number_within field number is =
    rw is.spelled (length-decimal-le 10 number (omega arith) (omega (arith, is.fits)) (omega (arith, is.fits)))
