-- Which digits spell bytes.
use Rattle.std.proofs.Common.{◌≡◌, ℕ, ◌%◌, Bool, true, false, List, length, None, Result, Ok, Err, refl}
use Rattle.std.specs.Prelude.{◌↔◌, IsTrue, IsSome}
use Rattle.std.specs.List.{AllPass}
use Rattle.std.specs.Result.{result_ok}
use Rattle.hex.specs.Hex.{decode_of, is_hex_digit}
use Rattle.hex.specs.declared.error.FromHexError.{FromHexError}
use Rattle.hex.proofs.HexLemmas.{decode_of-ok, decode_of-digits}
use Rattle.script_text.specs.Commands.{bytes_of}

refused : (digits : List ℕ) (r : Result (List ℕ) FromHexError) → decode_of digits ≡ r → ((length digits % 2 ≡ 0) × AllPass is_hex_digit digits → ⊥) → result_ok r ≡ None
refused digits (Ok bytes) is none = let told = decode_of-ok digits bytes is in absurd (none (told.0, told.1))
refused digits (Err e) is none = refl

-- other texts than an even number of digits spell none
pub no_bytes : (digits : List ℕ) (test : Bool) → IsTrue test ↔ ((length digits % 2 ≡ 0) × AllPass is_hex_digit digits) → test ≡ false → bytes_of digits ≡ None
unfolding bytes_of
no_bytes digits test told is = refused digits (decode_of digits) refl (λ even. let passed = told.1 even in cc)

-- and those do
pub some_bytes : (digits : List ℕ) (test : Bool) → IsTrue test ↔ ((length digits % 2 ≡ 0) × AllPass is_hex_digit digits) → test ≡ true → IsSome (bytes_of digits)
unfolding bytes_of
some_bytes digits test told is =
    let even = told.0 is in
    let decoded = decode_of-digits digits even.0 even.1 in
    rw decoded.1 refl
