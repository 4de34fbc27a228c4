-- What stands before the place of a fault begins the spelling of a payload.
use Rattle.std.proofs.Common.{◌≡◌, ℕ, ◌-◌, cond, eqb, List, [], ◌++◌, length, take, Ok, Err, sym, ap, ◌∙◌, arith, inl, inr}
use Rattle.std.proofs.lemmas.List.{append-nil, length-append, take_at}
use Rattle.record_format.specs.Plain.{PlainPayload}
use Rattle.record_format.specs.Reading.{payload_at, whole_payload}
use Rattle.record_format.specs.Spellable.{IsSpellable}
use Rattle.record_format.specs.Spelling.{spell_payload}
use Rattle.record_format.proofs.FieldLaws.{IsBytes, IsBytes-before}
use Rattle.record_format.proofs.PayloadLaws.{payload_takes}
use Rattle.record_format.proofs.Beginnings.{GoesOn, IsBytes-append, bind_err}
use Rattle.record_format.proofs.Stops.{payload_stoppable, fault_is}

-- a front that begins the spelling of a payload
abbrev Begins : List ℕ → Type 0
Begins front = (p : PlainPayload) × IsSpellable p × (more : List ℕ) × (spell_payload p ≡ front ++ more)

begins_at : (bytes front rest : List ℕ) (left : ℕ) → bytes ≡ front ++ rest → length rest ≡ left → Begins front → Begins (take (length bytes - left) bytes)
begins_at bytes front rest left parts len begins =
    let place : length front ≡ length bytes - left = omega (arith, ap length parts, length-append front rest, len) in
    let front-is : take (length bytes - left) bytes ≡ front = ap (take (length bytes - left)) parts ∙ take_at front rest (length bytes - left) place in
    rw front-is begins

spelled_front : (front : List ℕ) → IsBytes front → GoesOn payload_at IsSpellable front → Begins front
spelled_front front are goes_on =
    let whole = front ++ (goes_on.more ++ []) in
    let whole_are : IsBytes whole = IsBytes-append front (goes_on.more ++ []) are (rw append-nil goes_on.are) in
    let took = payload_takes whole (goes_on.value, []) whole_are (goes_on.reads []) in
    let spelled : spell_payload goes_on.value ≡ front ++ goes_on.more =
    sym (append-nil (spell_payload goes_on.value)) ∙ sym took.0 ∙ ap (λ (b : List ℕ). front ++ b) (append-nil goes_on.more) in
    (goes_on.value, goes_on.fits, goes_on.more, spelled)

pub before_place : (bytes : List ℕ) (left : ℕ) → IsBytes bytes → whole_payload bytes ≡ Err left → Begins (take (length bytes - left) bytes)
unfolding whole_payload
before_place bytes left are e =
    elim (bind_err (payload_at bytes) (λ x. cond (eqb (length x.1) 0) (Ok x.0) (Err (length x.1))) left e) [
      | inl first ↦
          let stopped = payload_stoppable.stops bytes left are first in
          begins_at bytes stopped.front stopped.rest left stopped.parts stopped.len (spelled_front stopped.front (IsBytes-before stopped.front stopped.rest bytes stopped.parts are) stopped.goes_on)
      | inr second ↦
          let x = second.0 in
          let took = payload_takes bytes x are second.1 in
          begins_at bytes (spell_payload x.0) x.1 left took.0 (sym (fault_is (eqb (length x.1) 0) (length x.1) left x.0 second.2)) (x.0, took.1, [], sym (append-nil (spell_payload x.0)))
    ]
