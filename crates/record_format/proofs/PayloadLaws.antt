-- What is read as a payload is spelled so, what is spelled so is read, and no spelling is a proper prefix of another.
use Rattle.std.proofs.Common.{◌≡◌, ℕ, ◌≤◌, Bool, true, false, cond, eqb, List, [], ◌++◌, length, Result, Ok, Err, refl, sym, ap, subst, ◌∙◌, append_assoc, arith}
use Rattle.std.specs.List.{flat_map}
use Rattle.std.proofs.lemmas.Bool.{eqb-true}
use Rattle.std.proofs.lemmas.List.{append-nil, nil_from_length}
use Rattle.record_format.specs.Fields.{Read, and_then, ◌>>=◌}
use Rattle.record_format.specs.Plain.{PlainPayload}
use Rattle.record_format.specs.Reading.{payload_at, whole_payload, at_place, payload_or_place}
use Rattle.record_format.specs.Spelling.{be32, spell_note, spell_link, spell_content, spell_payload}
use Rattle.record_format.specs.Spellable.{IsSpellable}
use Rattle.record_format.proofs.FieldLaws.{IsBytes, IsField, took_then, ok_is, guard_ok, again_then, Within, within_then, field32, repeat_field, bind_ok}
use Rattle.record_format.proofs.RecordLaws.{link_field, content_field}
use Rattle.record_format.proofs.NoteLaws.{note_field}

payload_parts : (p : PlainPayload) (rest : List ℕ) → spell_payload p ++ rest
    ≡ spell_note p.note ++ (be32 (length p.links) ++ (be32 (length p.contents) ++ (flat_map spell_link p.links ++ (flat_map spell_content p.contents ++ rest))))
unfolding spell_payload
payload_parts p rest = simp append_assoc

pub payload_takes : (bytes : List ℕ) (x : PlainPayload × List ℕ) → IsBytes bytes → payload_at bytes ≡ Ok x → (bytes ≡ spell_payload x.0 ++ x.1) × IsSpellable x.0
unfolding payload_at
payload_takes bytes x are e =
    took_then note_field _ bytes x are e (λ note r1 p1 a1 f1 e1.
    took_then field32 _ r1 x a1 e1 (λ link_count r2 p2 a2 f2 e2.
    took_then field32 _ r2 x a2 e2 (λ content_count r3 p3 a3 f3 e3.
    took_then (repeat_field link_field link_count) _ r3 x a3 e3 (λ links r4 p4 a4 f4 e4.
    took_then (repeat_field content_field content_count) _ r4 x a4 e4 (λ contents r5 p5 a5 f5 e5.
    let made : PlainPayload = record { note = note; links = links; contents = contents } in
    let whole : bytes ≡ spell_payload made ++ r5 = rw (payload_parts made r5, p1, p2, p3, p4, p5, f4.0, f5.0) refl in
    let fits : IsSpellable made = record {
      note = f1;
      link_count = rw f4.0 f2;
      content_count = rw f5.0 f3;
      links = f4.1;
      contents = f5.1;
    } in
    subst (λ (y : PlainPayload × List ℕ). (bytes ≡ spell_payload y.0 ++ y.1) × IsSpellable y.0) (ok_is (made, r5) x e5) (whole, fits))))))

payload_again : (p : PlainPayload) (rest : List ℕ) → IsSpellable p → payload_at (spell_payload p ++ rest) ≡ Ok (p, rest)
unfolding payload_at
payload_again p rest fits =
    ap payload_at (payload_parts p rest)
    ∙ (again_then note_field _ p.note _ fits.note
    ∙ (again_then field32 _ (length p.links) _ fits.link_count
    ∙ (again_then field32 _ (length p.contents) _ fits.content_count
    ∙ (again_then (repeat_field link_field (length p.links)) _ p.links _ (refl, fits.links)
    ∙ again_then (repeat_field content_field (length p.contents)) _ p.contents rest (refl, fits.contents)))))

payload_within : (bytes : List ℕ) → Within (length bytes) (payload_at bytes)
unfolding payload_at
payload_within bytes =
    let n = length bytes in
    within_then note_field n _ bytes (omega arith) (λ note l1.
    within_then field32 n _ note.1 l1 (λ link_count l2.
    within_then field32 n _ link_count.1 l2 (λ content_count l3.
    within_then (repeat_field link_field link_count.0) n _ content_count.1 l3 (λ links l4.
    within_then (repeat_field content_field content_count.0) n _ links.1 l4 (λ contents l5. l5)))))

payload_field : IsField payload_at spell_payload IsSpellable
payload_field = record { takes = payload_takes; again = payload_again; within = payload_within }

-- ---- the whole of the bytes

pub whole_takes : (bytes : List ℕ) (p : PlainPayload) → IsBytes bytes → whole_payload bytes ≡ Ok p → IsSpellable p × (bytes ≡ spell_payload p)
unfolding whole_payload
whole_takes bytes p are e =
    let read = bind_ok (payload_at bytes) _ p e in
    let took = payload_takes bytes read.0 are read.1 in
    let ended = guard_ok (eqb (length read.0.1) 0) (length read.0.1) read.0.0 p read.2 in
    let nothing : read.0.1 ≡ [] = nil_from_length read.0.1 (eqb-true _ _ ended.0) in
    let whole : bytes ≡ spell_payload read.0.0 = took.0 ∙ ap (λ (b : List ℕ). spell_payload read.0.0 ++ b) nothing ∙ append-nil (spell_payload read.0.0) in
    subst (λ (q : PlainPayload). IsSpellable q × (bytes ≡ spell_payload q)) ended.1 (took.1, whole)

pub whole_again : (p : PlainPayload) → IsSpellable p → whole_payload (spell_payload p) ≡ Ok p
unfolding whole_payload
whole_again p fits =
    ap whole_payload (sym (append-nil (spell_payload p))) ∙ again_then payload_field _ p [] fits

-- what is left at a bad field is a part of the bytes
abbrev pub IsLeft : ℕ → Result PlainPayload ℕ → Type 0
IsLeft n (Ok p) = Unit {0}
IsLeft n (Err left) = left ≤ n

ended_left : (n : ℕ) (b : Bool) (p : PlainPayload) (left : ℕ) → left ≤ n → IsLeft n (cond b (Ok p) (Err left))
ended_left n true p left le = tt
ended_left n false p left le = le

left_then : (n : ℕ) (read : Read PlainPayload) → Within n read → IsLeft n (read >>= λ x. cond (eqb (length x.1) 0) (Ok x.0) (Err (length x.1)))
unfolding and_then
left_then n (Ok x) within = ended_left n (eqb (length x.1) 0) x.0 (length x.1) within
left_then n (Err left) within = within

pub whole_left : (bytes : List ℕ) → IsLeft (length bytes) (whole_payload bytes)
unfolding whole_payload
whole_left bytes = left_then (length bytes) (payload_at bytes) (payload_within bytes)

pub no_prefix : (p q : PlainPayload) (more : List ℕ) → IsSpellable p → IsSpellable q → spell_payload q ≡ spell_payload p ++ more → (q ≡ p) × (more ≡ [])
no_prefix p q more fits_p fits_q same =
    let of_p = payload_again p more fits_p in
    let of_q = payload_again q [] fits_q in
    let joined : Ok (q, []) ≡ Ok (p, more) = sym of_q ∙ ap payload_at (append-nil (spell_payload q) ∙ same) ∙ of_p in
    let pair = ok_is (q, []) (p, more) joined in
    (ap (λ (x : PlainPayload × List ℕ). x.0) pair, sym (ap (λ (x : PlainPayload × List ℕ). x.1) pair))

pub reads_back : (p : PlainPayload) → IsSpellable p → payload_or_place (spell_payload p) ≡ Ok p
reads_back p fits = ap (at_place (length (spell_payload p))) (whole_again p fits)
