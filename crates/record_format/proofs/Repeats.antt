-- Reading values one after the other, as a loop does.
use Rattle.std.proofs.Common.{◌≡◌, ℕ, suc, ◌-◌, ◌+◌, ◌≤◌, ◌<◌, List, [], ◌∷◌, ◌++◌, Ok, Err, refl, sym, ap, ◌∙◌, append_assoc, arith}
use Rattle.std.proofs.lemmas.List.{append-nil}
use Rattle.record_format.specs.declared.fault.Stop.{Stop}
use Rattle.record_format.specs.declared.fault.Stop.TheVariants as stops
use Rattle.record_format.specs.Fields.{Read, and_then, ◌>>=◌, repeat_at}
use Rattle.record_format.specs.Reading.{Stops}

-- what was read before, and what is still read
unfoldable pub with_front : {A : Type 0} → List A → Read (List A) → Read (List A)
with_front front read = read >>= λ x. Ok (front ++ x.0, x.1)

front-nil : {A : Type 0} (read : Read (List A)) → with_front [] read ≡ read
unfolding with_front and_then
front-nil (Ok x) = refl
front-nil (Err left) = refl

-- nothing was read before
pub starts : {A : Type 0} (value_at : List ℕ → Read A) (front : List A) (count : ℕ) (bytes : List ℕ) → front ≡ [] → with_front front (repeat_at value_at (count - 0) bytes) ≡ repeat_at value_at count bytes
starts value_at front count bytes none =
    let all : count - 0 ≡ count = omega arith in
    rw (all, none) (front-nil (repeat_at value_at count bytes))

regroup : {A : Type 0} (front : List A) (value : A) (read : Read (List A)) → with_front front (read >>= λ x. Ok (value ∷ x.0, x.1)) ≡ with_front (front ++ value ∷ []) read
unfolding with_front and_then
regroup front value (Ok x) = ap (λ values. Ok (values, x.1)) (simp append_assoc)
regroup front value (Err left) = refl

-- one value more
pub goes_on : {A : Type 0} (value_at : List ℕ → Read A) (front : List A) (count i : ℕ) (bytes : List ℕ) (value : A) (after : List ℕ) (total : Read (List A)) → i < count → value_at bytes ≡ Ok (value, after)
    → with_front front (repeat_at value_at (count - i) bytes) ≡ total → with_front (front ++ value ∷ []) (repeat_at value_at (count - (i + 1)) after) ≡ total
unfolding repeat_at and_then
goes_on value_at front count i bytes value after total lt read so_far =
    let more : count - i ≡ suc (count - (i + 1)) = omega arith in
    let one : with_front front (repeat_at value_at (count - i) bytes) ≡ with_front (front ++ value ∷ []) (repeat_at value_at (count - (i + 1)) after) = rw (more, read) (regroup front value (repeat_at value_at (count - (i + 1)) after)) in
    sym one ∙ so_far

-- a value that stops the reading
pub stops_there : {A : Type 0} (stop : Stop) (value_at : List ℕ → Read A) (front : List A) (count i : ℕ) (bytes : List ℕ) (total : Read (List A)) → i < count → Stops stop (value_at bytes)
    → with_front front (repeat_at value_at (count - i) bytes) ≡ total → Stops stop total
unfolding with_front repeat_at and_then
stops_there stops.OutOfMemory value_at front count i bytes total lt read so_far = tt
stops_there (stops.Bad left) value_at front count i bytes total lt read so_far =
    let more : count - i ≡ suc (count - (i + 1)) = omega arith in
    let one : with_front front (repeat_at value_at (count - i) bytes) ≡ Err left = rw (more, read) refl in
    sym so_far ∙ one

-- no value more
pub is_done : {A : Type 0} (value_at : List ℕ → Read A) (front : List A) (count i : ℕ) (bytes : List ℕ) (total : Read (List A)) → count ≤ i → with_front front (repeat_at value_at (count - i) bytes) ≡ total → total ≡ Ok (front, bytes)
unfolding with_front repeat_at and_then
is_done value_at front count i bytes total le so_far =
    let none : count - i ≡ 0 = omega arith in
    let one : with_front front (repeat_at value_at (count - i) bytes) ≡ Ok (front, bytes) = rw none (ap (λ values. Ok (values, bytes)) (append-nil front)) in
    sym so_far ∙ one
