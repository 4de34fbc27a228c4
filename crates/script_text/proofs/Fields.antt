-- The word of a line, its fields, and the spaces between them.
use Rattle.std.proofs.Common.{◌≡◌, ◌≢◌, ℕ, ◌+◌, ◌<◌, ◌≤◌, ◌==◌, Bool, true, false, cond, List, ◌∷◌, ◌++◌, length, take, drop, get_or, Some, None, arith, refl, sym, ap, ◌∙◌, length-append}
use Rattle.std.specs.Prelude.{nat_eq, nat_lt, not, ◌&&◌, position}
use Rattle.std.specs.Cmp.Lexicographic.{pointwise}
use Rattle.std.specs.List.{position_or_len, list_all}
use Rattle.std.proofs.lemmas.Bool.{and_parts, eqb-true, lt-ltb}
use Rattle.std.proofs.lemmas.Bool.Decides.{nat_tests}
use Rattle.std.proofs.lemmas.List.{take-append-drop, take_at, drop_at, drop_more, get_or_append_left, get_or_at}
use Rattle.std.proofs.lemmas.List.Elements.{All-get_or}
use Rattle.std.proofs.lemmas.List.Quantifiers.{position-Some}
use Rattle.std.proofs.lemmas.List.Sums.{position_or_len_is, AllPass-from_list_all, list_all-from_AllPass}
use Rattle.std.proofs.lemmas.Option.{cond_some}
use Rattle.std.proofs.lemmas.Slice.Eq.{bytes_eq-Decides}
use Rattle.script_text.specs.Commands.{IsField, field_of, is_field, is_field_byte}
use Rattle.script_text.specs.Reading.{behind}

-- a line begins with the word that something stands behind
pub behind_told : (word line rest : List ℕ) → behind word line ≡ Some rest → line ≡ word ++ rest
unfolding behind
behind_told word line rest is =
    let found = cond_some (pointwise nat_eq (take (length word) line) word) (drop (length word) line) rest is in
    let front : take (length word) line ≡ word = (bytes_eq-Decides (take (length word) line) word).0 found.0 in
    sym (take-append-drop (length word) line) ∙ ap (λ f. f ++ drop (length word) line) front ∙ ap (λ r. word ++ r) found.1

-- what stands behind the word that a line begins with is found
pub behind_found : (word rest : List ℕ) → behind word (word ++ rest) ≡ Some rest
unfolding behind
behind_found word rest =
    let front : take (length word) (word ++ rest) ≡ word = take_at word rest (length word) refl in
    let same : pointwise nat_eq (take (length word) (word ++ rest)) word ≡ true = (bytes_eq-Decides (take (length word) (word ++ rest)) word).1 front in
    ap (λ b. cond b (Some (drop (length word) (word ++ rest))) None) same ∙ ap Some (drop_at word rest (length word) refl)

-- whether it is a space
abbrev pub is_space : ℕ → Bool
is_space byte = byte == 32

-- fields are cut at their first space
pub cut_told : (fields : List ℕ) (space : ℕ) → position is_space fields ≡ Some space → fields ≡ take space fields ++ 32 ∷ drop (space + 1) fields
cut_told fields space is =
    let at = position-Some is_space fields space 0 is in
    let byte : get_or fields space 0 ≡ 32 = eqb-true (get_or fields space 0) 32 at.1 in
    sym (take-append-drop space fields) ∙ ap (λ r. take space fields ++ r) (drop_more fields space 0 at.0 ∙ ap (λ b. b ∷ drop (space + 1) fields) byte)

different : (a b : ℕ) → a ≢ b → (a == b) ≡ false
different a b apart = grind (arith, nat_tests)

-- where a space is behind bytes without one
pub cut_at : (front rest : List ℕ) → ((k : ℕ) → k < length front → get_or front k 0 ≢ 32) → position is_space (front ++ 32 ∷ rest) ≡ Some (length front)
cut_at front rest none =
    let fields : List ℕ = front ++ 32 ∷ rest in
    let len : length front < length fields = omega (arith, length-append front (32 ∷ rest)) in
    let place : position_or_len is_space fields ≡ length front =
    position_or_len_is is_space fields (length front) 0 (omega arith)
    (λ k before. rw (get_or_append_left front (32 ∷ rest) 0 k before) (different (get_or front k 0) 32 (none k before)))
    (λ _. rw (get_or_at front 32 rest 0 (length front) refl) refl) in
    let within : nat_lt (length front) (length fields) ≡ true = lt-ltb (length front) (length fields) len in
    ap (λ n. cond (nat_lt n (length fields)) (Some n) None) place ∙ ap (λ b. cond b (Some (length front)) None) within

not_below : (n : ℕ) → nat_lt n n ≡ false
not_below n = grind (arith, nat_tests)

-- bytes without a space have none
pub no_cut : (field : List ℕ) → ((k : ℕ) → k < length field → get_or field k 0 ≢ 32) → position is_space field ≡ None
no_cut field none =
    let place : position_or_len is_space field ≡ length field =
    position_or_len_is is_space field (length field) 0 (omega arith)
    (λ k before. different (get_or field k 0) 32 (none k before)) (λ past. absurd (omega arith)) in
    ap (λ n. cond (nat_lt n (length field)) (Some n) None) place ∙ ap (λ b. cond b (Some (length field)) None) (not_below (length field))

some_bytes : (n : ℕ) → not (n == 0) ≡ true → 1 ≤ n
some_bytes n is = grind (arith, nat_tests)

some_length : (n : ℕ) → 1 ≤ n → not (n == 0) ≡ true
some_length n is = grind (arith, nat_tests)

-- what is found is a field
pub field_told : (field found : List ℕ) → field_of field ≡ Some found → (field ≡ found) × IsField field
unfolding field_of is_field
field_told field found is =
    let told = cond_some (not (length field == 0) && list_all is_field_byte field) field found is in
    let tests = and_parts (not (length field == 0)) (list_all is_field_byte field) told.0 in
    (told.1, record { from_one = some_bytes (length field) tests.0; bytes = AllPass-from_list_all is_field_byte field tests.1 })

-- a field is found
pub field_found : (field : List ℕ) → IsField field → field_of field ≡ Some field
unfolding field_of is_field
field_found field is =
    rw (some_length (length field) is.from_one, list_all-from_AllPass is_field_byte field is.bytes) refl

not_space : (byte : ℕ) → is_field_byte byte ≡ true → byte ≢ 32
not_space byte is = grind (arith, nat_tests)

-- a field has no space
pub no_space_in : (field : List ℕ) → IsField field → (k : ℕ) → k < length field → get_or field k 0 ≢ 32
no_space_in field is k within = not_space (get_or field k 0) (All-get_or (λ byte. is_field_byte byte ≡ true) field k 0 within is.bytes)
