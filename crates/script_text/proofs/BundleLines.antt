-- A line of a bundle is read as that bundle, and no other line as one.
use Rattle.std.proofs.Common.{◌≡◌, ◌≢◌, ℕ, ◌+◌, ◌*◌, ◌<◌, ◌≤◌, List, [], ◌∷◌, ◌++◌, length, take, drop, get_or, Option, Some, None, Result, Ok, Err, arith, refl, sym, ap, subst, ◌∙◌, length-append}
use Rattle.std.specs.Prelude.{codes, decimal, position, option_map, option_and_then, ok_or, IfOk}
use Rattle.std.specs.Result.{result_ok}
use Rattle.std.proofs.lemmas.Fmt.{digits_decimal}
use Rattle.std.proofs.lemmas.List.{take_at, drop_at, drop-drop, same_from_push, append_assoc}
use Rattle.std.proofs.lemmas.Option.{option_and_then_some, same_Some}
use Rattle.std.proofs.lemmas.Str.Parse.{not_in_digits}
use Rattle.cry_base.specs.declared.client.Bundle.{Bundle}
use Rattle.cry_base.specs.declared.client.Bundle.TheVariants.{Owner, Holder}
use Rattle.cry_base.specs.Texts.{hex_of}
use Rattle.hex.specs.Hex.{IsBytes, decode_sized, encode_lower, lower_digits}
use Rattle.hex.proofs.HexLemmas.{length-encode_with, decode_sized-ok, decode_sized-twice, decode_of-encode_lower}
use Rattle.script_text.specs.Printing.{owner_line}
use Rattle.script_text.specs.Reading.{IsNumber, IsKey, IsBundleLine, number_of, key_of, behind, holder_of, bundle_behind, bundle_of}
use Rattle.script_text.proofs.Fields.{behind_told, behind_found, is_space, cut_told, cut_at}
use Rattle.script_text.proofs.HexText.{hex_of_is}
use Rattle.script_text.proofs.Numbers.{own, number_told, number_found, number_within}

-- a field that gives a key spells it
pub value_told : {E : Type 0} (r : Result (List ℕ) E) (key : List ℕ) → result_ok r ≡ Some key → r ≡ Ok key
value_told (Ok found) key is = ap Ok (same_Some found key is)
value_told (Err e) key is = cc

pub key_told : (field key : List ℕ) → key_of field ≡ Some key → IsKey field key
unfolding key_of
key_told field key is = value_told (decode_sized field 32) key is

-- a key that a field spells is found
pub key_found : (field key : List ℕ) → IsKey field key → key_of field ≡ Some key
unfolding key_of
key_found field key is = ap result_ok is

-- a number has no space
pub no_space : (number : List ℕ) (holder : ℕ) → IsNumber number holder → (k : ℕ) → k < length number → get_or number k 0 ≢ 32
no_space number holder is =
    rw is.spelled (not_in_digits own (decimal holder) 32 (digits_decimal own holder (omega (arith, is.fits))) (λ within. omega arith))

-- a number is cut off at its space
pub cut_found : (number digits : List ℕ) (holder : ℕ) → IsNumber number holder → position is_space (number ++ 32 ∷ digits) ≡ Some (length number)
cut_found number digits holder is = cut_at number digits (no_space number holder is)

owner_told : (line : List ℕ) (bundle : Bundle) (digits : List ℕ) → line ≡ codes "owner " ++ digits → (key : Option (List ℕ)) → key_of digits ≡ key
    → option_map Owner key ≡ Some bundle → IsBundleLine line bundle
owner_told line bundle digits spelled (Some key) is_key is =
    let P : Bundle → Type 0 = IsBundleLine line in
    subst P (same_Some (Owner key) bundle is) (record { digits = digits; spelled = spelled; is_key = key_told digits key is_key })
owner_told line bundle digits spelled None is_key is = cc

holder_told : (line : List ℕ) (bundle : Bundle) (fields : List ℕ) (space holder : ℕ) → line ≡ codes "holder " ++ fields
    → position is_space fields ≡ Some space → number_of (take space fields) ≡ Some holder
    → (key : Option (List ℕ)) → key_of (drop (space + 1) fields) ≡ key
    → option_map (Holder (record { 0 = holder })) key ≡ Some bundle → IsBundleLine line bundle
holder_told line bundle fields space holder spelled at_space is_number (Some key) is_key is =
    let P : Bundle → Type 0 = IsBundleLine line in
    subst P (same_Some (Holder (record { 0 = holder }) key) bundle is) (record {
      number = take space fields;
      digits = drop (space + 1) fields;
      spelled = spelled ∙ ap (λ f. codes "holder " ++ f) (cut_told fields space at_space);
      is_number = number_told (take space fields) holder is_number;
      is_key = key_told (drop (space + 1) fields) key is_key;
    })
holder_told line bundle fields space holder spelled at_space is_number None is_key is = cc

fields_told : (line : List ℕ) (bundle : Bundle) (fields : List ℕ) → line ≡ codes "holder " ++ fields → holder_of fields ≡ Some bundle → IsBundleLine line bundle
unfolding holder_of
fields_told line bundle fields spelled is =
    option_and_then_some _ (position is_space fields) bundle is
    (λ space at_space then. option_and_then_some _ (number_of (take space fields)) bundle then
    (λ holder is_number last. holder_told line bundle fields space holder spelled at_space is_number (key_of (drop (space + 1) fields)) refl last))

told_behind : (line : List ℕ) (bundle : Bundle) (owner holder : Option (List ℕ)) → behind (codes "owner ") line ≡ owner → behind (codes "holder ") line ≡ holder
    → bundle_behind owner holder ≡ Some bundle → IsBundleLine line bundle
told_behind line bundle (Some digits) holder at_owner at_holder is =
    owner_told line bundle digits (behind_told (codes "owner ") line digits at_owner) (key_of digits) refl is
told_behind line bundle None (Some fields) at_owner at_holder is =
    fields_told line bundle fields (behind_told (codes "holder ") line fields at_holder) is
told_behind line bundle None None at_owner at_holder is = cc

-- what is read is a line of that bundle
pub bundle_told : (line : List ℕ) (bundle : Bundle) → bundle_of line ≡ Some bundle → IsBundleLine line bundle
unfolding bundle_of
bundle_told line bundle is = told_behind line bundle (behind (codes "owner ") line) (behind (codes "holder ") line) refl refl is

-- a holder's line isn't an owner's
not_owner : (fields : List ℕ) → behind (codes "owner ") (codes "holder " ++ fields) ≡ None
unfolding behind
not_owner fields = refl

fields_found : (number digits : List ℕ) (holder : ℕ) (key : List ℕ) → IsNumber number holder → IsKey digits key
    → holder_of (number ++ 32 ∷ digits) ≡ Some (Holder (record { 0 = holder }) key)
unfolding holder_of
fields_found number digits holder key is_number is_key =
    let front : take (length number) (number ++ 32 ∷ digits) ≡ number = take_at number (32 ∷ digits) (length number) refl in
    let back : drop (length number + 1) (number ++ 32 ∷ digits) ≡ digits =
    sym (drop-drop 1 (length number) (number ++ 32 ∷ digits)) ∙ ap (drop 1) (drop_at number (32 ∷ digits) (length number) refl) in
    rw (cut_found number digits holder is_number, front, number_found number holder is_number, back, key_found digits key is_key) refl

-- a line of a bundle is read
pub bundle_found : (line : List ℕ) (bundle : Bundle) → IsBundleLine line bundle → bundle_of line ≡ Some bundle
unfolding bundle_of
bundle_found line (Owner key) is =
    let at : behind (codes "owner ") line ≡ Some is.digits = ap (behind (codes "owner ")) is.spelled ∙ behind_found (codes "owner ") is.digits in
    ap (λ o. bundle_behind o (behind (codes "holder ") line)) at ∙ ap (option_map Owner) (key_found is.digits key is.is_key)
bundle_found line (Holder holder key) is =
    let at_owner : behind (codes "owner ") line ≡ None = ap (behind (codes "owner ")) is.spelled ∙ not_owner (is.number ++ 32 ∷ is.digits) in
    let at : behind (codes "holder ") line ≡ Some (is.number ++ 32 ∷ is.digits) =
    ap (behind (codes "holder ")) is.spelled ∙ behind_found (codes "holder ") (is.number ++ 32 ∷ is.digits) in
    ap (λ o. bundle_behind o (behind (codes "holder ") line)) at_owner ∙ ap (option_and_then holder_of) at
    ∙ fields_found is.number is.digits holder.0 key is.is_number is.is_key

-- what an answer says of the line
pub read_told : {E : Type 0} (line : List ℕ) (found : Option Bundle) (r : Result Bundle E) (bad : E) → r ≡ ok_or found bad → found ≡ bundle_of line
    → IfOk r (IsBundleLine line)
read_told {E} line (Some bundle) r bad is same =
    let P : Result Bundle E → Type 0 = λ x. IfOk x (IsBundleLine line) in subst P (sym is) (bundle_told line bundle (sym same))
read_told {E} line None r bad is same = let P : Result Bundle E → Type 0 = λ x. IfOk x (IsBundleLine line) in subst P (sym is) tt

-- an owner's line as it is printed is read as the owner's bundle
pub owner_read_back : (key line : List ℕ) → length key ≡ 32 → IsBytes key → owner_line key ≡ line ++ 10 ∷ [] → bundle_of line ≡ Some (Owner key)
unfolding owner_line
owner_read_back key line len bytes printed =
    let spelled : line ≡ codes "owner " ++ hex_of key =
    (same_from_push line (codes "owner " ++ hex_of key) 10 10 (sym printed ∙ sym (append_assoc (codes "owner ") (hex_of key) (10 ∷ [])))).0 in
    let digits : length (encode_lower key) ≡ 64 = omega (arith, length-encode_with lower_digits key, len) in
    let decoded : decode_sized (encode_lower key) 32 ≡ Ok key = decode_sized-twice (encode_lower key) 32 digits ∙ decode_of-encode_lower key bytes in
    bundle_found line (Owner key) (record {
      digits = hex_of key;
      spelled = spelled;
      is_key = ap (λ d. decode_sized d 32) (sym (hex_of_is key bytes)) ∙ decoded;
    })

-- how long a line of a bundle is at most
line_within : (line : List ℕ) (bundle : Bundle) → IsBundleLine line bundle → length line ≤ 82
line_within line (Owner key) is =
    let digits : length is.digits ≡ 2 * 32 = decode_sized-ok is.digits 32 key is.is_key in
    let len : length line ≡ length (codes "owner " ++ is.digits) = ap length is.spelled in
    omega arith
line_within line (Holder holder key) is =
    let digits : length is.digits ≡ 2 * 32 = decode_sized-ok is.digits 32 key is.is_key in
    let number : length is.number ≤ 10 = number_within is.number holder.0 is.is_number in
    let len : length line ≡ length (codes "holder " ++ (is.number ++ 32 ∷ is.digits)) = ap length is.spelled in
    omega (arith, length-append is.number (32 ∷ is.digits))

pub bundle_within : (line : List ℕ) (bundle : Bundle) → bundle_of line ≡ Some bundle → length line ≤ 82
bundle_within line bundle is = line_within line bundle (bundle_told line bundle is)
