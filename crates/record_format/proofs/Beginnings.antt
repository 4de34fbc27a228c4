-- Where a reading stops, what stands before the bad field can go on to a value that is read.
use Rattle.std.proofs.Common.{◌≡◌, ℕ, ◌-◌, ◌⊎◌, List, [], ◌++◌, length, Result, Ok, Err, refl, sym, ap, ◌∙◌, append_assoc, arith, inl, inr}
use Rattle.std.proofs.lemmas.Bool.{cases_lt}
use Rattle.std.proofs.lemmas.List.{get_or_append_left, get_or-append_right}
use Rattle.record_format.specs.Fields.{Read, and_then, ◌>>=◌}
use Rattle.record_format.proofs.FieldLaws.{IsBytes, IsBytes-after, IsField}

-- behind front there can stand more, so that a value is read, whatever follows
pub record GoesOn {A : Type 0} (read : List ℕ → Read A) (Fits : A → Type 0) (front : List ℕ) : Type 0 where
  pub more : List ℕ
  pub value : A
  pub are : IsBytes more
  pub fits : Fits value
  pub reads : (tail : List ℕ) → read (front ++ (more ++ tail)) ≡ Ok (value, tail)

-- the bad field, of which so many bytes are left, stands behind a front that can go on
pub record StopsBehind {A : Type 0} (read : List ℕ → Read A) (Fits : A → Type 0) (bytes : List ℕ) (left : ℕ) : Type 0 where
  pub front : List ℕ
  pub rest : List ℕ
  pub parts : bytes ≡ front ++ rest
  pub len : length rest ≡ left
  pub goes_on : GoesOn read Fits front

pub record IsStoppable {A : Type 0} (read : List ℕ → Read A) (Fits : A → Type 0) : Type 0 where
  pub starts : GoesOn read Fits []
  pub stops : (bytes : List ℕ) (left : ℕ) → IsBytes bytes → read bytes ≡ Err left → StopsBehind read Fits bytes left

pub IsBytes-append : (xs ys : List ℕ) → IsBytes xs → IsBytes ys → IsBytes (xs ++ ys)
IsBytes-append xs ys are_xs are_ys i =
    elim (cases_lt i (length xs)) [
      | inl lt ↦ rw (get_or_append_left xs ys 0 i lt) (are_xs i)
      | inr le ↦ rw (get_or-append_right xs ys (length xs) i 0 refl le) (are_ys (i - length xs))
    ]

pub bind_err : {A B : Type 0} (read : Result A ℕ) (f : A → Result B ℕ) (left : ℕ) → (read >>= f) ≡ Err left → (read ≡ Err left) ⊎ ((x : A) × (read ≡ Ok x) × (f x ≡ Err left))
unfolding and_then
bind_err (Ok x) f left e = inr (x, refl, e)
bind_err (Err other) f left e = inl (cc)

-- ---- several fields

front_goes_on : {A B : Type 0} (read : List ℕ → Read A) (Fits : A → Type 0) (others : A × List ℕ → Read B) (FitsAll : B → Type 0) (front : List ℕ)
    → ((value : A) → Fits value → IsStoppable (λ rest. others (value, rest)) FitsAll) → GoesOn read Fits front → GoesOn (λ bytes. read bytes >>= others) FitsAll front
unfolding and_then
front_goes_on read Fits others FitsAll front each first =
    let second = (each first.value first.fits).starts in
    record {
      more = first.more ++ second.more;
      value = second.value;
      are = IsBytes-append first.more second.more first.are second.are;
      fits = second.fits;
      reads = λ tail. rw (append_assoc first.more second.more tail, first.reads (second.more ++ tail)) (second.reads tail);
    }

stops_later : {A B : Type 0} (read : List ℕ → Read A) (spell : A → List ℕ) (Fits : A → Type 0) → IsField read spell Fits → (others : A × List ℕ → Read B) (FitsAll : B → Type 0) (bytes : List ℕ) (value : A) (rest : List ℕ) (left : ℕ) → Fits value
    → bytes ≡ spell value ++ rest → StopsBehind (λ behind. others (value, behind)) FitsAll rest left → StopsBehind (λ all. read all >>= others) FitsAll bytes left
unfolding and_then
stops_later read spell Fits field others FitsAll bytes value rest left fits parts second =
    record {
      front = spell value ++ second.front;
      rest = second.rest;
      parts = parts ∙ ap (λ (b : List ℕ). spell value ++ b) second.parts ∙ sym (append_assoc (spell value) second.front second.rest);
      len = second.len;
      goes_on = record {
        more = second.goes_on.more;
        value = second.goes_on.value;
        are = second.goes_on.are;
        fits = second.goes_on.fits;
        reads = λ tail. rw (append_assoc (spell value) second.front (second.goes_on.more ++ tail), field.again value (second.front ++ (second.goes_on.more ++ tail)) fits) (second.goes_on.reads tail);
      };
    }

pub stoppable_then : {A B : Type 0} {read : List ℕ → Read A} {spell : A → List ℕ} {Fits : A → Type 0} {FitsAll : B → Type 0} → IsField read spell Fits → IsStoppable read Fits → (others : A × List ℕ → Read B)
    → ((value : A) → Fits value → IsStoppable (λ rest. others (value, rest)) FitsAll) → IsStoppable (λ bytes. read bytes >>= others) FitsAll
stoppable_then {A} {B} {read} {spell} {Fits} {FitsAll} field stoppable others each = record {
  starts = front_goes_on read Fits others FitsAll [] each stoppable.starts;
  stops = λ bytes left are e.
      elim (bind_err (read bytes) others left e) [
        | inl first ↦
            let stopped = stoppable.stops bytes left are first in
            record {
              front = stopped.front;
              rest = stopped.rest;
              parts = stopped.parts;
              len = stopped.len;
              goes_on = front_goes_on read Fits others FitsAll stopped.front each stopped.goes_on;
            }
        | inr second ↦
            let x = second.0 in
            let took = field.takes bytes x are second.1 in
            let rest_are = IsBytes-after (spell x.0) x.1 bytes took.0 are in
            stops_later read spell Fits field others FitsAll bytes x.0 x.1 left took.1 took.0 ((each x.0 took.1).stops x.1 left rest_are second.2)
      ];
}

pub done_stoppable : {A : Type 0} {Fits : A → Type 0} (value : A) → Fits value → IsStoppable (λ rest. Ok (value, rest)) Fits
done_stoppable value fits = record {
  starts = record { more = []; value = value; are = λ i. omega arith; fits = fits; reads = λ tail. refl };
  stops = λ bytes left are e. absurd cc;
}

-- ---- one field

-- a field that is bad from its first byte on
pub field_stoppable : {A : Type 0} {read : List ℕ → Read A} {spell : A → List ℕ} {Fits : A → Type 0} → IsField read spell Fits → (value : A) → Fits value → IsBytes (spell value)
    → ((bytes : List ℕ) (left : ℕ) → read bytes ≡ Err left → left ≡ length bytes) → IsStoppable read Fits
field_stoppable {A} {read} {spell} {Fits} field value fits are at_start =
    let begins : GoesOn read Fits [] = record { more = spell value; value = value; are = are; fits = fits; reads = λ tail. field.again value tail fits } in
    record {
      starts = begins;
      stops = λ bytes left are_bytes e. record { front = []; rest = bytes; parts = refl; len = sym (at_start bytes left e); goes_on = begins };
    }
