-- Where the reading of each field, each record and a payload stops.
use Rattle.std.proofs.Common.{◌≡◌, ℕ, zero, suc, ◌^◌, ◌<◌, ◌≤◌, Bool, true, false, cond, eqb, leb, ltb, ◌&&◌, List, [], ◌∷◌, length, take, drop, All, Ok, Err, refl, ap, arith, inl, inr, lit<, lit≤}
use Rattle.std.specs.Prelude.{replicate}
use Rattle.std.specs.Int.{w32, w64, from_be_bytes}
use Rattle.std.proofs.lemmas.Bool.{cases_lt}
use Rattle.std.proofs.lemmas.List.{length-replicate, get_or-replicate, get_or_past}
use Rattle.std.proofs.lemmas.List.Elements.{All-nil, All-cons}
use Rattle.record_format.specs.declared.note.Note.TheVariants.{Root, NewHolder, StrictRoot, Upgrade}
use Rattle.record_format.specs.Fields.{Read, byte_between, bytes_at, number_at, number_between, repeat_at}
use Rattle.record_format.specs.Reading.{note_of_one, note_of_two, new_holder_at, one_id_at, two_ids_at, note_fields_at, note_at, link_at, content_at, payload_at}
use Rattle.record_format.specs.Spelling.{be32, be64}
use Rattle.record_format.specs.Spellable.{IsLink, IsContent, IsNote, IsSpellable, shortest_text, longest_text}
use Rattle.record_format.proofs.FieldLaws.{IsBytes, IsField, byte_field, bytes_field, field32, field64, IsBetween, between_field, repeat_field}
use Rattle.record_format.proofs.RecordLaws.{link_field, content_field}
use Rattle.record_format.proofs.NoteLaws.{note_field}
use Rattle.record_format.proofs.Beginnings.{IsStoppable, bind_err, stoppable_then, done_stoppable, field_stoppable}

-- ---- fields

pub fault_is : {A : Type 0} (b : Bool) (n left : ℕ) (x : A) → cond b (Ok x) (Err n) ≡ Err left → left ≡ n
fault_is true n left x e = absurd cc
fault_is false n left x e = cc

fault_is_not : {A : Type 0} (b : Bool) (n left : ℕ) (x : A) → cond b (Err n) (Ok x) ≡ Err left → left ≡ n
fault_is_not true n left x e = cc
fault_is_not false n left x e = absurd cc

byte_starts : (low high : ℕ) (bytes : List ℕ) (left : ℕ) → byte_between low high bytes ≡ Err left → left ≡ length bytes
unfolding byte_between
byte_starts low high [] left e = cc
byte_starts low high (byte ∷ rest) left e = fault_is (leb low byte && leb byte high) (suc (length rest)) left (byte, rest) e

is_byte : (byte : ℕ) → byte < 256 → IsBytes (byte ∷ [])
is_byte byte lt zero = lt
is_byte byte lt (suc i) = lit< tt

byte_stoppable : (low high : ℕ) → low ≤ high → low < 256 → IsStoppable (byte_between low high) (λ byte. (low ≤ byte) × (byte ≤ high))
byte_stoppable low high le lt = field_stoppable (byte_field low high) low (omega arith, le) (is_byte low lt) (byte_starts low high)

bytes_start : (n : ℕ) (bytes : List ℕ) (left : ℕ) → bytes_at n bytes ≡ Err left → left ≡ length bytes
unfolding bytes_at
bytes_start n bytes left e = fault_is_not (ltb (length bytes) n) (length bytes) left (take n bytes, drop n bytes) e

are_zeros : (n : ℕ) → IsBytes (replicate n 0)
are_zeros n i =
    elim (cases_lt i n) [
      | inl lt ↦ rw (get_or-replicate {A = ℕ} n i 0 0 lt) (lit< tt)
      | inr le ↦ rw (get_or_past {X = ℕ} (replicate n 0) i 0 (omega (arith, length-replicate {A = ℕ} n 0))) (lit< tt)
    ]

bytes_stoppable : (n : ℕ) → IsStoppable (bytes_at n) (λ field. length field ≡ n)
bytes_stoppable n = field_stoppable (bytes_field n) (replicate n 0) (length-replicate n 0) (are_zeros n) (bytes_start n)

start32 : (bytes : List ℕ) (left : ℕ) → number_at w32 bytes ≡ Err left → left ≡ length bytes
unfolding number_at
start32 bytes left e =
    elim (bind_err (bytes_at 4 bytes) (λ field. Ok (from_be_bytes w32 field.0, field.1)) left e) [
      | inl first ↦ bytes_start 4 bytes left first
      | inr second ↦ let wrong = second.2 in absurd cc
    ]

start64 : (bytes : List ℕ) (left : ℕ) → number_at w64 bytes ≡ Err left → left ≡ length bytes
unfolding number_at
start64 bytes left e =
    elim (bind_err (bytes_at 8 bytes) (λ field. Ok (from_be_bytes w64 field.0, field.1)) left e) [
      | inl first ↦ bytes_start 8 bytes left first
      | inr second ↦ let wrong = second.2 in absurd cc
    ]

are_be32 : (n : ℕ) → IsBytes (be32 n)
unfolding be32
are_be32 n zero = omega arith
are_be32 n (suc zero) = omega arith
are_be32 n (suc (suc zero)) = omega arith
are_be32 n (suc (suc (suc zero))) = omega arith
are_be32 n (suc (suc (suc (suc i)))) = omega arith

are_be64 : IsBytes (be64 0)
unfolding be64
are_be64 = are_zeros 8

stoppable32 : IsStoppable (number_at w32) (λ n. n < 2 ^ 32)
stoppable32 = field_stoppable field32 0 (lit< tt) (are_be32 0) start32

stoppable64 : IsStoppable (number_at w64) (λ n. n < 2 ^ 64)
stoppable64 = field_stoppable field64 0 (lit< tt) are_be64 start64

between_start : (low high : ℕ) (bytes : List ℕ) (left : ℕ) → number_between w32 low high bytes ≡ Err left → left ≡ length bytes
unfolding number_between
between_start low high bytes left e =
    elim (bind_err (number_at w32 bytes) (λ n. cond (leb low n.0 && leb n.0 high) (Ok n) (Err (length bytes))) left e) [
      | inl first ↦ start32 bytes left first
      | inr second ↦ let n = second.0 in fault_is (leb low n.0 && leb n.0 high) (length bytes) left n second.2
    ]

between_stoppable : (low high : ℕ) → low ≤ high → low < 2 ^ 32 → IsStoppable (number_between w32 low high) (IsBetween low high)
between_stoppable low high le lt = field_stoppable (between_field low high) low (lt, omega arith, le) (are_be32 low) (between_start low high)

-- ---- a link

link_stoppable : IsStoppable link_at IsLink
unfolding link_at
link_stoppable =
    stoppable_then (byte_field 1 1) (byte_stoppable 1 1 (lit≤ tt) (lit< tt)) _ (λ one f1.
    stoppable_then (byte_field 1 11) (byte_stoppable 1 11 (lit≤ tt) (lit< tt)) _ (λ kind f2.
    stoppable_then field32 stoppable32 _ (λ from_id f3.
    stoppable_then field32 stoppable32 _ (λ to_id f4.
    stoppable_then field64 stoppable64 _ (λ from_serial f5.
    stoppable_then field64 stoppable64 _ (λ to_serial f6.
    stoppable_then field64 stoppable64 _ (λ nonce f7.
    stoppable_then (bytes_field 32) (bytes_stoppable 32) _ (λ cipher f8.
    stoppable_then (bytes_field 32) (bytes_stoppable 32) _ (λ tag f9.
    done_stoppable _ (record {
      kind_from_one = f2.0;
      kind_to_eleven = f2.1;
      from_id = f3;
      to_id = f4;
      from_serial = f5;
      to_serial = f6;
      nonce = f7;
      cipher = f8;
      tag = f9;
    }))))))))))

-- ---- a content

-- each kind has a length of text that it allows
range_is_open : (is_file is_key : Bool) → (cond is_file 2 (cond is_key 32 0) ≤ cond is_file 1048641 (cond is_key 32 64)) × (cond is_file 2 (cond is_key 32 0) < 2 ^ 32)
range_is_open true is_key = (lit≤ tt, lit< tt)
range_is_open false true = (lit≤ tt, lit< tt)
range_is_open false false = (lit≤ tt, lit< tt)

text_stoppable : (kind : ℕ) → IsStoppable (number_between w32 (shortest_text kind) (longest_text kind)) (IsBetween (shortest_text kind) (longest_text kind))
text_stoppable kind =
    let range = range_is_open (eqb kind 2) (eqb kind 3) in
    between_stoppable (shortest_text kind) (longest_text kind) range.0 range.1

content_stoppable : IsStoppable content_at IsContent
unfolding content_at
content_stoppable =
    stoppable_then (byte_field 2 2) (byte_stoppable 2 2 (lit≤ tt) (lit< tt)) _ (λ two f1.
    stoppable_then (byte_field 1 3) (byte_stoppable 1 3 (lit≤ tt) (lit< tt)) _ (λ kind f2.
    stoppable_then field32 stoppable32 _ (λ object f3.
    stoppable_then field64 stoppable64 _ (λ key_serial f4.
    stoppable_then field64 stoppable64 _ (λ nonce f5.
    stoppable_then (between_field (shortest_text kind) (longest_text kind)) (text_stoppable kind) _ (λ len f6.
    stoppable_then (bytes_field len) (bytes_stoppable len) _ (λ cipher f7.
    stoppable_then (bytes_field 32) (bytes_stoppable 32) _ (λ tag f8.
    done_stoppable _ (record {
      kind_from_one = f2.0;
      kind_to_three = f2.1;
      object = f3;
      key_serial = f4;
      nonce = f5;
      text_from = rw f7 f6.1;
      text_to = rw f7 f6.2;
      tag = f8;
    })))))))))

-- ---- a note

new_holder_stoppable : IsStoppable new_holder_at IsNote
unfolding new_holder_at
new_holder_stoppable =
    stoppable_then field32 stoppable32 _ (λ holder f1.
    stoppable_then (bytes_field 32) (bytes_stoppable 32) _ (λ check f2.
    done_stoppable (NewHolder (record { 0 = holder }) check) (f1, f2)))

one_stoppable : (code : ℕ) → ((id : ℕ) → id < 2 ^ 32 → IsNote (note_of_one code id)) → IsStoppable (one_id_at code) IsNote
unfolding one_id_at
one_stoppable code fit = stoppable_then field32 stoppable32 _ (λ id f1. done_stoppable (note_of_one code id) (fit id f1))

two_stoppable : (code : ℕ) → ((first second : ℕ) → first < 2 ^ 32 → second < 2 ^ 32 → IsNote (note_of_two code first second)) → IsStoppable (two_ids_at code) IsNote
unfolding two_ids_at
two_stoppable code fit =
    stoppable_then field32 stoppable32 _ (λ first f1.
    stoppable_then field32 stoppable32 _ (λ second f2.
    done_stoppable (note_of_two code first second) (fit first second f1 f2)))

fields_stoppable : (code : ℕ) → 1 ≤ code → code ≤ 15 → IsStoppable (note_fields_at code) IsNote
unfolding note_fields_at
fields_stoppable zero from to = absurd (omega arith)
fields_stoppable (suc zero) from to = done_stoppable Root tt
fields_stoppable (suc (suc zero)) from to = new_holder_stoppable
fields_stoppable (suc (suc (suc zero))) from to = two_stoppable 3 (λ a b p q. (p, q))
fields_stoppable (suc (suc (suc (suc zero)))) from to = two_stoppable 4 (λ a b p q. (p, q))
fields_stoppable (suc (suc (suc (suc (suc zero))))) from to = one_stoppable 5 (λ id p. p)
fields_stoppable (suc (suc (suc (suc (suc (suc zero)))))) from to = one_stoppable 6 (λ id p. p)
fields_stoppable (suc (suc (suc (suc (suc (suc (suc zero))))))) from to = one_stoppable 7 (λ id p. p)
fields_stoppable (suc (suc (suc (suc (suc (suc (suc (suc zero)))))))) from to = one_stoppable 8 (λ id p. p)
fields_stoppable (suc (suc (suc (suc (suc (suc (suc (suc (suc zero))))))))) from to = one_stoppable 9 (λ id p. p)
fields_stoppable (suc (suc (suc (suc (suc (suc (suc (suc (suc (suc zero)))))))))) from to = two_stoppable 10 (λ a b p q. (p, q))
fields_stoppable (suc (suc (suc (suc (suc (suc (suc (suc (suc (suc (suc zero))))))))))) from to = two_stoppable 11 (λ a b p q. (p, q))
fields_stoppable (suc (suc (suc (suc (suc (suc (suc (suc (suc (suc (suc (suc zero)))))))))))) from to = two_stoppable 12 (λ a b p q. (p, q))
fields_stoppable (suc (suc (suc (suc (suc (suc (suc (suc (suc (suc (suc (suc (suc zero))))))))))))) from to = two_stoppable 13 (λ a b p q. (p, q))
fields_stoppable (suc (suc (suc (suc (suc (suc (suc (suc (suc (suc (suc (suc (suc (suc zero)))))))))))))) from to = done_stoppable StrictRoot tt
fields_stoppable (suc (suc (suc (suc (suc (suc (suc (suc (suc (suc (suc (suc (suc (suc (suc zero))))))))))))))) from to = done_stoppable Upgrade tt
fields_stoppable (suc (suc (suc (suc (suc (suc (suc (suc (suc (suc (suc (suc (suc (suc (suc (suc code)))))))))))))))) from to = absurd (omega arith)

note_stoppable : IsStoppable note_at IsNote
unfolding note_at
note_stoppable = stoppable_then (byte_field 1 15) (byte_stoppable 1 15 (lit≤ tt) (lit< tt)) _ (λ code f1. fields_stoppable code f1.0 f1.1)

-- ---- a payload

repeat_stoppable : {A : Type 0} {read : List ℕ → Read A} {spell : A → List ℕ} {Fits : A → Type 0} → IsField read spell Fits → IsStoppable read Fits → (n : ℕ) → IsStoppable (repeat_at read n) (λ values. (length values ≡ n) × All Fits values)
unfolding repeat_at
repeat_stoppable {A} {read} {spell} {Fits} field stoppable zero = done_stoppable [] (refl, All-nil Fits)
repeat_stoppable {A} {read} {spell} {Fits} field stoppable (suc n) =
    stoppable_then field stoppable _ (λ first f1.
    stoppable_then (repeat_field field n) (repeat_stoppable field stoppable n) _ (λ others f2.
    done_stoppable (first ∷ others) (ap suc f2.0, All-cons Fits first others f1 f2.1)))

pub payload_stoppable : IsStoppable payload_at IsSpellable
unfolding payload_at
payload_stoppable =
    stoppable_then note_field note_stoppable _ (λ note f1.
    stoppable_then field32 stoppable32 _ (λ link_count f2.
    stoppable_then field32 stoppable32 _ (λ content_count f3.
    stoppable_then (repeat_field link_field link_count) (repeat_stoppable link_field link_stoppable link_count) _ (λ links f4.
    stoppable_then (repeat_field content_field content_count) (repeat_stoppable content_field content_stoppable content_count) _ (λ contents f5.
    done_stoppable _ (record {
      note = f1;
      link_count = rw f4.0 f2;
      content_count = rw f5.0 f3;
      links = f4.1;
      contents = f5.1;
    }))))))
