-- Laws of single fields, and how the laws of fields become one of the record that they make up.
use Rattle.std.proofs.Common.{◌≡◌, ℕ, zero, suc, ◌+◌, ◌^◌, ◌<◌, ◌≤◌, Bool, true, false, cond, leb, ltb, ◌&&◌, List, [], ◌∷◌, ◌++◌, length, get_or, take, drop, Result, Ok, Err, refl, sym, ap, subst, ◌∙◌, append_assoc, All, arith, inl, inr}
use Rattle.std.specs.List.{flat_map}
use Rattle.std.specs.Int.{Width, w32, w64, byte_len, from_be_bytes}
use Rattle.std.proofs.lemmas.Bool.{cases_lt, leb-true, le-leb, ltb-false, le-ltb, and_parts, and_from}
use Rattle.std.proofs.lemmas.List.{take_at, drop_at, take-append-drop, length-append, length-take, length-drop, get_or_append_left, get_or_past, get_or-append-add}
use Rattle.std.proofs.lemmas.List.Elements.{All-nil, All-cons, All-head, All-tail}
use Rattle.std.proofs.lemmas.Nat.{be_bytes_4, be_bytes_8, from_be_bytes-to_be_bytes_4, from_be_bytes-to_be_bytes_8}
use Rattle.record_format.specs.Fields.{Read, and_then, ◌>>=◌, byte_between, bytes_at, number_at, number_between, repeat_at}
use Rattle.record_format.specs.Spelling.{be32, be64}
use Rattle.record_format.proofs.Lengths.{length-be32, length-be64}

abbrev pub IsBytes : List ℕ → Type 0
IsBytes bytes = (i : ℕ) → get_or bytes i 0 < 256

pub IsBytes-after : (front rest bytes : List ℕ) → bytes ≡ front ++ rest → IsBytes bytes → IsBytes rest
IsBytes-after front rest bytes parts are i =
    rw (← get_or-append-add front rest i 0, ← parts) (are (length front + i))

pub IsBytes-before : (front rest bytes : List ℕ) → bytes ≡ front ++ rest → IsBytes bytes → IsBytes front
IsBytes-before front rest bytes parts are i =
    elim (cases_lt i (length front)) [
      | inl lt ↦ rw (← get_or_append_left front rest 0 i lt, ← parts) (are i)
      | inr le ↦ rw (get_or_past front i 0 le) (omega arith)
    ]

-- a reading leaves no more bytes than there were, also where it fails
abbrev pub Within : {A : Type 0} → ℕ → Read A → Type 0
Within n (Ok x) = length x.1 ≤ n
Within n (Err left) = left ≤ n

-- what a reader has to do with a spelling: what it reads is spelled so, and what is spelled so it reads
pub record IsField {A : Type 0} (read : List ℕ → Read A) (spell : A → List ℕ) (Fits : A → Type 0) : Type 0 where
  pub takes : (bytes : List ℕ) (x : A × List ℕ) → IsBytes bytes → read bytes ≡ Ok x → (bytes ≡ spell x.0 ++ x.1) × Fits x.0
  pub again : (value : A) (rest : List ℕ) → Fits value → read (spell value ++ rest) ≡ Ok (value, rest)
  pub within : (bytes : List ℕ) → Within (length bytes) (read bytes)

-- ---- several fields

abbrev done : {A : Type 0} → A → Result A ℕ
done x = Ok x

pub ok_is : {A : Type 0} (x y : A) → done x ≡ done y → x ≡ y
ok_is x y e = cc

pub bind_ok : {A B : Type 0} (read : Result A ℕ) (f : A → Result B ℕ) (y : B) → (read >>= f) ≡ Ok y → (x : A) × (read ≡ Ok x) × (f x ≡ Ok y)
unfolding and_then
bind_ok (Ok x) f y e = (x, refl, e)
bind_ok (Err left) f y e = absurd cc

-- What a first field was, and that the others were read behind it. Each is handed on as a variable, or a record's
-- proof would hold the readings of all fields before a field in each line about it.
pub took_then : {A B : Type 0} {P : Type 0} {read : List ℕ → Read A} {spell : A → List ℕ} {Fits : A → Type 0} → IsField read spell Fits → (others : A × List ℕ → Read B) (bytes : List ℕ) (y : B × List ℕ) → IsBytes bytes
    → (read bytes >>= others) ≡ Ok y → ((value : A) (rest : List ℕ) → bytes ≡ spell value ++ rest → IsBytes rest → Fits value → others (value, rest) ≡ Ok y → P) → P
took_then {read} {spell} field others bytes y are e use_it =
    let first = bind_ok (read bytes) others y e in
    let took = field.takes bytes first.0 are first.1 in
    use_it first.0.0 first.0.1 took.0 (IsBytes-after (spell first.0.0) first.0.1 bytes took.0 are) took.1 first.2

pub again_then : {A B : Type 0} {read : List ℕ → Read A} {spell : A → List ℕ} {Fits : A → Type 0} → IsField read spell Fits → (others : A × List ℕ → Result B ℕ) (value : A) (rest : List ℕ) → Fits value
    → (read (spell value ++ rest) >>= others) ≡ others (value, rest)
unfolding and_then
again_then field others value rest fits = rw (field.again value rest fits) refl

pub Within-more : {A : Type 0} (m n : ℕ) (read : Read A) → m ≤ n → Within m read → Within n read
Within-more m n (Ok x) le within = omega arith
Within-more m n (Err left) le within = omega arith

pub then_within : {A B : Type 0} (n : ℕ) (read : Read A) (others : A × List ℕ → Read B) → Within n read → ((x : A × List ℕ) → length x.1 ≤ n → Within n (others x)) → Within n (read >>= others)
unfolding and_then
then_within n (Ok x) others first second = second x first
then_within n (Err left) others first second = first

pub within_then : {A B : Type 0} {read : List ℕ → Read A} {spell : A → List ℕ} {Fits : A → Type 0} → IsField read spell Fits → (n : ℕ) (others : A × List ℕ → Read B) (bytes : List ℕ) → length bytes ≤ n
    → ((x : A × List ℕ) → length x.1 ≤ n → Within n (others x)) → Within n (read bytes >>= others)
within_then {read} field n others bytes le second =
    then_within n (read bytes) others (Within-more (length bytes) n (read bytes) le (field.within bytes)) second

-- ---- tests

-- a test that let a value through
pub guard_ok : {A : Type 0} (b : Bool) (left : ℕ) (x y : A) → cond b (Ok x) (Err left) ≡ Ok y → (b ≡ true) × (x ≡ y)
guard_ok true left x y e = (refl, cc)
guard_ok false left x y e = absurd cc

-- a test that let a value through, where it asks for the fault
guard_not : {A : Type 0} (b : Bool) (left : ℕ) (x y : A) → cond b (Err left) (Ok x) ≡ Ok y → (b ≡ false) × (x ≡ y)
guard_not true left x y e = absurd cc
guard_not false left x y e = (refl, cc)

in_range : (low n high : ℕ) → (leb low n && leb n high) ≡ true → (low ≤ n) × (n ≤ high)
in_range low n high e =
    let both = and_parts (leb low n) (leb n high) e in
    (leb-true low n both.0, leb-true n high both.1)

range_in : (low n high : ℕ) → low ≤ n → n ≤ high → (leb low n && leb n high) ≡ true
range_in low n high from to = and_from (leb low n) (leb n high) (le-leb low n from) (le-leb n high to)

-- ---- a byte

abbrev pub one_byte : ℕ → List ℕ
one_byte byte = byte ∷ []

byte_takes : (low high : ℕ) (bytes : List ℕ) (x : ℕ × List ℕ) → byte_between low high bytes ≡ Ok x → (bytes ≡ x.0 ∷ x.1) × ((low ≤ x.0) × (x.0 ≤ high))
unfolding byte_between
byte_takes low high [] x e = absurd cc
byte_takes low high (byte ∷ rest) x e =
    let passed = guard_ok (leb low byte && leb byte high) (suc (length rest)) (byte, rest) x e in
    subst (λ (y : ℕ × List ℕ). (byte ∷ rest ≡ y.0 ∷ y.1) × ((low ≤ y.0) × (y.0 ≤ high))) passed.1 (refl, in_range low byte high passed.0)

byte_again : (low high byte : ℕ) (rest : List ℕ) → (low ≤ byte) × (byte ≤ high) → byte_between low high (byte ∷ rest) ≡ Ok (byte, rest)
unfolding byte_between
byte_again low high byte rest fits = rw (range_in low byte high fits.0 fits.1) refl

byte_within : (low high : ℕ) (bytes : List ℕ) → Within (length bytes) (byte_between low high bytes)
unfolding byte_between
byte_within low high [] = omega arith
byte_within low high (byte ∷ rest) =
    elim (leb low byte && leb byte high) as (λ b. Within (suc (length rest)) (cond b (Ok (byte, rest)) (Err (suc (length rest))))) [
      | true ↦ omega arith
      | false ↦ omega arith
    ]

pub byte_field : (low high : ℕ) → IsField (byte_between low high) one_byte (λ byte. (low ≤ byte) × (byte ≤ high))
byte_field low high = record {
  takes = λ bytes x are e. byte_takes low high bytes x e;
  again = λ byte rest fits. byte_again low high byte rest fits;
  within = byte_within low high;
}

-- ---- so many bytes

bytes_take : (n : ℕ) (bytes : List ℕ) (x : List ℕ × List ℕ) → bytes_at n bytes ≡ Ok x → (bytes ≡ x.0 ++ x.1) × (length x.0 ≡ n)
unfolding bytes_at
bytes_take n bytes x e =
    let passed = guard_not (ltb (length bytes) n) (length bytes) (take n bytes, drop n bytes) x e in
    let long : n ≤ length bytes = ltb-false _ _ passed.0 in
    let len : length (take n bytes) ≡ n = omega (arith, length-take n bytes) in
    subst (λ (y : List ℕ × List ℕ). (bytes ≡ y.0 ++ y.1) × (length y.0 ≡ n)) passed.1 (sym (take-append-drop n bytes), len)

bytes_again : (n : ℕ) (field rest : List ℕ) → length field ≡ n → bytes_at n (field ++ rest) ≡ Ok (field, rest)
unfolding bytes_at
bytes_again n field rest len =
    let long : ltb (length (field ++ rest)) n ≡ false = le-ltb _ _ (omega (arith, length-append field rest)) in
    rw (long, take_at field rest n len, drop_at field rest n len) refl

bytes_within : (n : ℕ) (bytes : List ℕ) → Within (length bytes) (bytes_at n bytes)
unfolding bytes_at
bytes_within n bytes =
    elim (ltb (length bytes) n) as (λ b. Within (length bytes) (cond b (Err (length bytes)) (Ok (take n bytes, drop n bytes)))) [
      | true ↦ omega arith
      | false ↦ omega (arith, length-drop n bytes)
    ]

pub bytes_field : (n : ℕ) → IsField (bytes_at n) (λ field. field) (λ field. length field ≡ n)
bytes_field n = record {
  takes = λ bytes x are e. bytes_take n bytes x e;
  again = bytes_again n;
  within = bytes_within n;
}

-- ---- numbers

-- what the laws of a number need to know of its width
record IsWide (w : Width) (spell : ℕ → List ℕ) (limit : ℕ) : Type 0 where
  len : (n : ℕ) → length (spell n) ≡ byte_len w
  back : (bytes : List ℕ) → length bytes ≡ byte_len w → IsBytes bytes → spell (from_be_bytes w bytes) ≡ bytes
  forth : (n : ℕ) → n < limit → from_be_bytes w (spell n) ≡ n
  below : (bytes : List ℕ) → IsBytes bytes → from_be_bytes w bytes < limit

wide32 : IsWide w32 be32 (2 ^ 32)
unfolding be32
wide32 = record {
  len = length-be32;
  back = λ bytes len are. be_bytes_4 bytes _ len are refl;
  forth = λ n lt. from_be_bytes-to_be_bytes_4 n lt;
  below = λ bytes are. omega (arith, are 0, are 1, are 2, are 3);
}

wide64 : IsWide w64 be64 (2 ^ 64)
unfolding be64
wide64 = record {
  len = length-be64;
  back = λ bytes len are. be_bytes_8 bytes _ len are refl;
  forth = λ n lt. from_be_bytes-to_be_bytes_8 n lt;
  below = λ bytes are. omega (arith, are 0, are 1, are 2, are 3, are 4, are 5, are 6, are 7);
}

number_takes : (w : Width) (spell : ℕ → List ℕ) (limit : ℕ) → IsWide w spell limit → (bytes : List ℕ) (x : ℕ × List ℕ) → IsBytes bytes → number_at w bytes ≡ Ok x → (bytes ≡ spell x.0 ++ x.1) × (x.0 < limit)
unfolding number_at
number_takes w spell limit wide bytes x are e =
    took_then (bytes_field (byte_len w)) _ bytes x are e (λ field rest parts rest_are len next.
    let field_are = IsBytes-before field rest bytes parts are in
    let spelled : spell (from_be_bytes w field) ≡ field = wide.back field len field_are in
    subst (λ (y : ℕ × List ℕ). (bytes ≡ spell y.0 ++ y.1) × (y.0 < limit)) (ok_is (from_be_bytes w field, rest) x next) (rw spelled parts, wide.below field field_are))

number_again : (w : Width) (spell : ℕ → List ℕ) (limit : ℕ) → IsWide w spell limit → (n : ℕ) (rest : List ℕ) → n < limit → number_at w (spell n ++ rest) ≡ Ok (n, rest)
unfolding number_at
number_again w spell limit wide n rest lt =
    again_then (bytes_field (byte_len w)) _ (spell n) rest (wide.len n) ∙ rw (wide.forth n lt) refl

number_within : (w : Width) (bytes : List ℕ) → Within (length bytes) (number_at w bytes)
unfolding number_at
number_within w bytes = within_then (bytes_field (byte_len w)) (length bytes) _ bytes (omega arith) (λ x le. le)

number_field : (w : Width) (spell : ℕ → List ℕ) (limit : ℕ) → IsWide w spell limit → IsField (number_at w) spell (λ n. n < limit)
number_field w spell limit wide = record {
  takes = number_takes w spell limit wide;
  again = number_again w spell limit wide;
  within = number_within w;
}

pub field32 : IsField (number_at w32) be32 (λ n. n < 2 ^ 32)
field32 = number_field w32 be32 (2 ^ 32) wide32

pub field64 : IsField (number_at w64) be64 (λ n. n < 2 ^ 64)
field64 = number_field w64 be64 (2 ^ 64) wide64

-- ---- a number in a range

-- a number of four bytes from low to high
abbrev pub IsBetween : ℕ → ℕ → ℕ → Type 0
IsBetween low high n = (n < 2 ^ 32) × (low ≤ n) × (n ≤ high)

between_takes : (low high : ℕ) (bytes : List ℕ) (x : ℕ × List ℕ) → IsBytes bytes → number_between w32 low high bytes ≡ Ok x → (bytes ≡ be32 x.0 ++ x.1) × IsBetween low high x.0
unfolding number_between
between_takes low high bytes x are e =
    took_then field32 _ bytes x are e (λ n rest parts rest_are fits next.
    let passed = guard_ok (leb low n && leb n high) (length bytes) (n, rest) x next in
    let range = in_range low n high passed.0 in
    subst (λ (y : ℕ × List ℕ). (bytes ≡ be32 y.0 ++ y.1) × IsBetween low high y.0) passed.1 (parts, (fits, range.0, range.1)))

between_again : (low high n : ℕ) (rest : List ℕ) → IsBetween low high n → number_between w32 low high (be32 n ++ rest) ≡ Ok (n, rest)
unfolding number_between
between_again low high n rest fits =
    again_then field32 _ n rest fits.0 ∙ rw (range_in low n high fits.1 fits.2) refl

between_within : (low high : ℕ) (bytes : List ℕ) → Within (length bytes) (number_between w32 low high bytes)
unfolding number_between
between_within low high bytes =
    within_then field32 (length bytes) _ bytes (omega arith) (λ x le.
    elim (leb low x.0 && leb x.0 high) as (λ b. Within (length bytes) (cond b (Ok x) (Err (length bytes)))) [
      | true ↦ le
      | false ↦ omega arith
    ])

pub between_field : (low high : ℕ) → IsField (number_between w32 low high) be32 (IsBetween low high)
between_field low high = record {
  takes = between_takes low high;
  again = between_again low high;
  within = between_within low high;
}

-- ---- so many values

repeat_takes : {A : Type 0} {read : List ℕ → Read A} {spell : A → List ℕ} {Fits : A → Type 0} → IsField read spell Fits → (n : ℕ) (bytes : List ℕ) (x : List A × List ℕ) → IsBytes bytes → repeat_at read n bytes ≡ Ok x
    → (bytes ≡ flat_map spell x.0 ++ x.1) × ((length x.0 ≡ n) × All Fits x.0)
unfolding repeat_at
repeat_takes {A} {read} {spell} {Fits} field zero bytes x are e =
    subst (λ (y : List A × List ℕ). (bytes ≡ flat_map spell y.0 ++ y.1) × ((length y.0 ≡ 0) × All Fits y.0)) (ok_is ([], bytes) x e) (refl, (refl, All-nil Fits))
repeat_takes {A} {read} {spell} {Fits} field (suc n) bytes x are e =
    took_then field _ bytes x are e (λ first rest parts rest_are fits next.
    let others = bind_ok (repeat_at read n rest) _ x next in
    let took = repeat_takes field n rest others.0 rest_are others.1 in
    let whole : bytes ≡ flat_map spell (first ∷ others.0.0) ++ others.0.1 =
    parts ∙ ap (λ (b : List ℕ). spell first ++ b) took.0 ∙ sym (append_assoc (spell first) (flat_map spell others.0.0) others.0.1) in
    subst (λ (y : List A × List ℕ). (bytes ≡ flat_map spell y.0 ++ y.1) × ((length y.0 ≡ suc n) × All Fits y.0)) (ok_is (first ∷ others.0.0, others.0.1) x others.2)
    (whole, (ap suc took.1.0, All-cons Fits first others.0.0 fits took.1.1)))

repeat_again : {A : Type 0} {read : List ℕ → Read A} {spell : A → List ℕ} {Fits : A → Type 0} → IsField read spell Fits → (values : List A) (rest : List ℕ) → All Fits values
    → repeat_at read (length values) (flat_map spell values ++ rest) ≡ Ok (values, rest)
unfolding repeat_at and_then
repeat_again field [] rest fits = refl
repeat_again {A} {read} {spell} {Fits} field (value ∷ values) rest fits =
    let parts : flat_map spell (value ∷ values) ++ rest ≡ spell value ++ (flat_map spell values ++ rest) = append_assoc (spell value) (flat_map spell values) rest in
    let first = field.again value (flat_map spell values ++ rest) (All-head Fits value values fits) in
    let others = repeat_again field values rest (All-tail Fits value values fits) in
    rw (parts, first, others) refl

repeat_within : {A : Type 0} {read : List ℕ → Read A} {spell : A → List ℕ} {Fits : A → Type 0} → IsField read spell Fits → (n : ℕ) (bytes : List ℕ) → Within (length bytes) (repeat_at read n bytes)
unfolding repeat_at
repeat_within field zero bytes = omega arith
repeat_within {A} {read} field (suc n) bytes =
    within_then field (length bytes) _ bytes (omega arith) (λ first le.
    then_within (length bytes) (repeat_at read n first.1) _ (Within-more (length first.1) (length bytes) (repeat_at read n first.1) le (repeat_within field n first.1)) (λ others le_others. le_others))

pub repeat_field : {A : Type 0} {read : List ℕ → Read A} {spell : A → List ℕ} {Fits : A → Type 0} → IsField read spell Fits → (n : ℕ) → IsField (repeat_at read n) (flat_map spell) (λ values. (length values ≡ n) × All Fits values)
repeat_field {A} {read} {spell} field n = record {
  takes = repeat_takes field n;
  again = λ values rest fits. subst (λ (k : ℕ). repeat_at read k (flat_map spell values ++ rest) ≡ Ok (values, rest)) fits.0 (repeat_again field values rest fits.1);
  within = repeat_within field n;
}
