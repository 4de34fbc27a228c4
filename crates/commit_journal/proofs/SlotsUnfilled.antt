-- The slots of a log that aren't their veil keys: filling these alone fills each slot of the log.
use Rattle.std.proofs.Common.{◌≡◌, ◌⊎◌, ⊎_elim, inl, inr, ℕ, ◌+◌, ◌-◌, ◌≤◌, Bool, true, false, cond, List, [], ◌∷◌, ◌++◌, length, take, drop, None, Some, append_assoc, length-append, arith, refl, sym, ap, subst, ◌∙◌}
use Rattle.std.specs.Prelude.{All, option_to_list, slice_range}
use Rattle.std.specs.Str.{bytes_eq}
use Rattle.std.proofs.Math.Seq.{drop-append_seam, take-add}
use Rattle.std.proofs.lemmas.List.{append-nil, drop-drop, length-drop, length-take-le, places}
use Rattle.std.proofs.lemmas.List.Elements.{All-cons, All-nil}
use Rattle.std.proofs.lemmas.Slice.{between_is}
use Rattle.std.proofs.lemmas.Slice.Eq.{bytes_eq-Decides}
use Rattle.cry_base.specs.Layout.{batch_len, header_len}
use Rattle.batch_log.specs.Steps.{IsGatedAt, written_at}
use Rattle.chacha_seal.specs.Sealing.{veil_of}
use Rattle.chacha_seal.proofs.SealingLemmas.{length-veil_of}
use Rattle.commit_journal.specs.declared.filling.Unfilled.{Unfilled}
use Rattle.commit_journal.specs.declared.head.Head.{Head}
use Rattle.commit_journal.specs.declared.owned.OwnedTurn.{OwnedTurn}
use Rattle.commit_journal.specs.declared.past.Past.{Past}
use Rattle.commit_journal.specs.Filling.{AreUnfilled, IsUnfilled, IsWithin, LeavesUnfilled, all_filled, unfilled_in, unfilled_of, unfilled_slot}
use Rattle.commit_journal.specs.Log.{slot_in}
use Rattle.commit_journal.specs.Opening.{AreGated, IsTurnOf, LeavesSlot, LeavesSlots, slots_filled}
use Rattle.commit_journal.specs.Placed.{PlainPlaced}
use Rattle.commit_journal.specs.Turns.{plain_turn}
use Rattle.commit_journal.proofs.OwnedLemmas.{same_slot}
use Rattle.commit_journal.proofs.Pieces.{front}

-- ---- as the walk finds them

-- before the first batch
pub unfilled_start : (owner s : List ℕ) → [] ≡ unfilled_in owner [] s
unfolding unfilled_in
unfilled_start owner s = refl

-- one batch more
pub unfilled_more : (owner : List ℕ) (front : List PlainPlaced) (p : PlainPlaced) (s : List ℕ) →
    unfilled_in owner (front ++ p ∷ []) s ≡ unfilled_in owner front s ++ option_to_list (unfilled_of owner p s)
unfolding unfilled_in
unfilled_more owner [] p s = append-nil (option_to_list (unfilled_of owner p s))
unfilled_more owner (q ∷ front) p s =
    let here = option_to_list (unfilled_of owner q s) in
    ap (λ (slots : List Unfilled). here ++ slots) (unfilled_more owner front p s)
    ∙ sym (append_assoc here (unfilled_in owner front s) (option_to_list (unfilled_of owner p s)))

-- the slot of a batch that was read stands in it
within_by : (test : Bool) (slot : Unfilled) (size : ℕ) → 55 ≤ slot.place → slot.place + 97 ≤ size → All (IsWithin size) (option_to_list (cond test None (Some slot)))
within_by true slot size behind inside = All-nil (IsWithin size)
within_by false slot size behind inside =
    All-cons (IsWithin size) slot [] (let is : IsWithin size slot = record { behind = behind; inside = inside } in is) (All-nil (IsWithin size))

pub unfilled_within : (place : ℕ) (slot veil : List ℕ) (size : ℕ) → 55 ≤ place → place + 97 ≤ size → All (IsWithin size) (option_to_list (unfilled_slot place slot veil))
unfolding unfilled_slot
unfilled_within place slot veil size behind inside = within_by (bytes_eq slot veil) (record { place = place; veil = veil }) size behind inside

-- the slot of a batch that was taken from an image
slot_taken : (at n : ℕ) (s : List ℕ) → 45 ≤ n → at + n ≤ length s → slice_range (take n (drop at s)) 13 45 ≡ slice_range s (at + 13) (at + 13 + 32)
slot_taken at n s whole inside =
    let rest = drop at s in
    let more : 45 + (n - 45) ≡ n = omega (arith, whole) in
    let short : 32 ≡ at + 13 + 32 - (at + 13) = omega arith in
    let first : take 45 (take n rest) ≡ take 45 rest =
    front (take 45 rest) (take (n - 45) (drop 45 rest)) (take n rest) 45 (ap (λ k. take k rest) (sym more) ∙ take-add 45 (n - 45) rest)
    (length-take-le 45 rest (omega (arith, whole, inside, length-drop at s)))
    in
    between_is (take n rest) 13 45
    ∙ ap (λ r. drop 13 r) first
    ∙ sym (between_is rest 13 45)
    ∙ ap (λ r. take 32 r) (drop-drop 13 at s)
    ∙ ap (λ k. take k (drop (at + 13) s)) short

-- and it is what the image has there
pub unfilled_read : (owner s batch : List ℕ) (past : Past) (head : Head) (o : OwnedTurn) → batch ≡ take (batch_len + head.size) (drop past.at s) →
    past.at + (batch_len + head.size) ≤ length s → IsTurnOf past head o.turn →
    o.unfilled ≡ unfilled_slot (past.at + 13) (slot_in batch) (veil_of owner head.epoch.0 head.number) → o.unfilled ≡ unfilled_of owner (plain_turn o.turn).placed s
unfilled_read owner s batch past head o batch_is inside turn is =
    let at = past.at + 13 in
    let place : at ≡ o.turn.placed.place - 32 = omega (arith, turn.place) in
    is
    ∙ ap (λ slot. unfilled_slot at slot (veil_of owner head.epoch.0 head.number)) (ap (λ b. slice_range b 13 45) batch_is ∙ slot_taken past.at (batch_len + head.size) s (omega arith) inside)
    ∙ ap (λ n. unfilled_slot n (slice_range s n (n + 32)) (veil_of owner head.epoch.0 head.number)) place
    ∙ ap (λ e. unfilled_slot (o.turn.placed.place - 32) (slice_range s (o.turn.placed.place - 32) (o.turn.placed.place - 32 + 32)) (veil_of owner e head.number)) (sym turn.same_epoch)
    ∙ ap (λ n. unfilled_slot (o.turn.placed.place - 32) (slice_range s (o.turn.placed.place - 32) (o.turn.placed.place - 32 + 32)) (veil_of owner o.turn.placed.epoch.0 n)) (sym turn.batch)

-- ---- lists that are the same from a place on

abbrev pub IsSameFrom : ℕ → List ℕ → List ℕ → Type 0
IsSameFrom from x y = (length x ≡ length y) × (drop from x ≡ drop from y)

pub same_further : (from place : ℕ) (x y : List ℕ) → from ≤ place → drop from x ≡ drop from y → drop place x ≡ drop place y
same_further from place x y ahead same =
    let on : from + (place - from) ≡ place = omega (arith, ahead) in
    ap (λ n. drop n x) (sym on) ∙ sym (drop-drop (place - from) from x) ∙ ap (λ r. drop (place - from) r) same ∙ drop-drop (place - from) from y ∙ ap (λ n. drop n y) on

pub same_slice : (from place : ℕ) (x y : List ℕ) → from ≤ place → drop from x ≡ drop from y → slice_range x place (place + 32) ≡ slice_range y place (place + 32)
same_slice from place x y ahead same = ap (λ r. take (place + 32 - place) r) (same_further from place x y ahead same)

-- what stands behind a slot stays as the slot is written
pub written_behind : (place : ℕ) (veil x : List ℕ) → length veil ≡ 32 → place + 32 ≤ length x → drop (place + 32) (written_at place veil x) ≡ drop (place + 32) x
written_behind place veil x size inside =
    let front = take place x ++ veil in
    let long : length front ≡ place + 32 = omega (arith, length-append (take place x) veil, length-take-le place x (omega (arith, inside)), size) in
    let end : place + length veil ≡ place + 32 = omega (arith, size) in
    ap (λ n. drop n (front ++ drop (place + length veil) x)) (sym long)
    ∙ drop-append_seam front (drop (place + length veil) x)
    ∙ ap (λ n. drop n x) end

same_written : (from place next : ℕ) (veil x y : List ℕ) → from ≤ place → place + 32 ≤ next → length veil ≡ 32 → next ≤ length x → IsSameFrom from x y →
    IsSameFrom next x (written_at place veil y)
same_written from place next veil x y ahead behind size inside same =
    let there : place + 32 ≤ length y = omega (arith, inside, behind, same.0) in
    let long : length (written_at place veil y) ≡ length y = grind (arith, places) in (
      same.0 ∙ sym long,
      same_further from next x y (omega (arith, ahead, behind)) same.1
          ∙ same_further (place + 32) next y (written_at place veil y) behind (sym (written_behind place veil y size there)),
    )

-- ---- the slots of a log

-- the same from an earlier place on
pub unfilled_from : (slots : List Unfilled) (low from : ℕ) (x : List ℕ) → low ≤ from → AreUnfilled from slots x → AreUnfilled low slots x
unfilled_from [] low from x order are = tt
unfilled_from (slot ∷ slots) low from x order are = let first = are.0 in (omega (arith, order, first), are.1, are.2)

gated_by : (test : Bool) (owner : List ℕ) (from : ℕ) (p : PlainPlaced) (slots : List Unfilled) (x : List ℕ) → let place = p.place - 32 in let veil = veil_of owner p.epoch.0 p.batch in
    bytes_eq (slice_range x place (place + 32)) veil ≡ test → from + 45 ≤ p.place → IsGatedAt (p.place - 45) batch_len x → AreUnfilled (p.place + 65) slots x →
    AreUnfilled from (option_to_list (cond test None (Some (record { place = place; veil = veil }))) ++ slots) x
gated_by true owner from p slots x is ahead gated rest = unfilled_from slots from (p.place + 65) x (omega (arith, ahead)) rest
gated_by false owner from p slots x is ahead gated rest =
    let place = p.place - 32 in
    let veil = veil_of owner p.epoch.0 p.batch in
    let gate : p.place - 45 ≡ place - 13 = omega (arith, ahead) in
    let next : p.place + 65 ≡ place + 97 = omega (arith, ahead) in (
      omega (arith, ahead),
      (let unfilled : IsUnfilled (record { place = place; veil = veil }) x = record {
        gated = subst (λ n. IsGatedAt n batch_len x) gate gated;
        size = length-veil_of owner p.epoch.0 p.batch;
        differs = λ same.
            let wrong : true ≡ false = sym ((bytes_eq-Decides (slice_range x place (place + 32)) veil).1 same) ∙ is in
            let none : ⊥ = cc in none;
      } in unfilled),
      subst (λ n. AreUnfilled n slots x) next rest,
    )

-- in an image whose batches stand behind open gates
pub unfilled_are : (owner : List ℕ) (ps : List PlainPlaced) (from : ℕ) (x : List ℕ) → AreGated from ps x → AreUnfilled from (unfilled_in owner ps x) x
unfolding unfilled_in unfilled_slot
unfilled_are owner [] from x gated = tt
unfilled_are owner (p ∷ ps) from x gated =
    let place = p.place - 32 in
    gated_by (bytes_eq (slice_range x place (place + 32)) (veil_of owner p.epoch.0 p.batch)) owner from p (unfilled_in owner ps x) x refl gated.0 gated.1
    (unfilled_are owner ps (p.place + 65) x gated.2)

-- ---- filling these alone

filled_by : (test : Bool) (owner : List ℕ) (from : ℕ) (p : PlainPlaced) (ps : List PlainPlaced) (slots : List Unfilled) (x y : List ℕ) →
    let place = p.place - 32 in let veil = veil_of owner p.epoch.0 p.batch in
    bytes_eq (slice_range x place (place + 32)) veil ≡ test → from + 45 ≤ p.place → p.place + 65 ≤ length x → IsSameFrom from x y →
    ((z : List ℕ) → IsSameFrom (p.place + 65) x z → all_filled slots z ≡ slots_filled owner ps z) →
    all_filled (option_to_list (cond test None (Some (record { place = place; veil = veil }))) ++ slots) y ≡ slots_filled owner ps (written_at place veil y)
unfolding all_filled
filled_by true owner from p ps slots x y is ahead inside same rest =
    let place = p.place - 32 in
    let veil = veil_of owner p.epoch.0 p.batch in
    let size = length-veil_of owner p.epoch.0 p.batch in
    let holds = (bytes_eq-Decides (slice_range x place (place + 32)) veil).0 is in
    let there = same_slice from place x y (omega (arith, ahead)) same.1 in
    rest y (same.0, same_further from (p.place + 65) x y (omega (arith, ahead)) same.1)
    ∙ ap (λ z. slots_filled owner ps z) (same_slot place veil y size (sym holds ∙ there))
filled_by false owner from p ps slots x y is ahead inside same rest =
    let place = p.place - 32 in
    let veil = veil_of owner p.epoch.0 p.batch in
    rest (written_at place veil y)
    (same_written from place (p.place + 65) veil x y (omega (arith, ahead)) (omega (arith, ahead)) (length-veil_of owner p.epoch.0 p.batch) inside same)

filled_alike : (owner : List ℕ) (ps : List PlainPlaced) (from : ℕ) (x y : List ℕ) → AreGated from ps x → IsSameFrom from x y →
    all_filled (unfilled_in owner ps x) y ≡ slots_filled owner ps y
unfolding all_filled unfilled_in unfilled_slot slots_filled
filled_alike owner [] from x y gated same = refl
filled_alike owner (p ∷ ps) from x y gated same =
    let place = p.place - 32 in
    let first = gated.0 in
    let here = gated.1.inside in
    filled_by (bytes_eq (slice_range x place (place + 32)) (veil_of owner p.epoch.0 p.batch)) owner from p ps (unfilled_in owner ps x) x y refl first
    (omega (arith, first, here)) same (λ z from_here. filled_alike owner ps (p.place + 65) x z gated.2 from_here)

pub filled_is_filled : (owner : List ℕ) (ps : List PlainPlaced) (x : List ℕ) → AreGated header_len ps x → all_filled (unfilled_in owner ps x) x ≡ slots_filled owner ps x
filled_is_filled owner ps x gated = filled_alike owner ps header_len x x gated (refl, refl)

-- ---- and what is left where the disk failed

left_by : (test : Bool) (owner : List ℕ) (from : ℕ) (p : PlainPlaced) (ps : List PlainPlaced) (slots : List Unfilled) (x y z : List ℕ) →
    let place = p.place - 32 in let veil = veil_of owner p.epoch.0 p.batch in
    bytes_eq (slice_range x place (place + 32)) veil ≡ test → from + 45 ≤ p.place → p.place + 65 ≤ length x → IsSameFrom from x y →
    ((w : List ℕ) → IsSameFrom (p.place + 65) x w → LeavesUnfilled slots w z → LeavesSlots owner ps w z) →
    LeavesUnfilled (option_to_list (cond test None (Some (record { place = place; veil = veil }))) ++ slots) y z →
    LeavesSlot place veil y z ⊎ LeavesSlots owner ps (written_at place veil y) z
unfolding LeavesUnfilled
left_by true owner from p ps slots x y z is ahead inside same rest leaves =
    let place = p.place - 32 in
    let veil = veil_of owner p.epoch.0 p.batch in
    let size = length-veil_of owner p.epoch.0 p.batch in
    let holds = (bytes_eq-Decides (slice_range x place (place + 32)) veil).0 is in
    let there = same_slice from place x y (omega (arith, ahead)) same.1 in
    inr (subst (λ w. LeavesSlots owner ps w z) (same_slot place veil y size (sym holds ∙ there))
    (rest y (same.0, same_further from (p.place + 65) x y (omega (arith, ahead)) same.1) leaves))
left_by false owner from p ps slots x y z is ahead inside same rest leaves =
    let place = p.place - 32 in
    let veil = veil_of owner p.epoch.0 p.batch in
    ⊎_elim
    (λ here. inl here)
    (λ later. inr (rest (written_at place veil y)
    (same_written from place (p.place + 65) veil x y (omega (arith, ahead)) (omega (arith, ahead)) (length-veil_of owner p.epoch.0 p.batch) inside same) later))
    leaves

left_alike : (owner : List ℕ) (ps : List PlainPlaced) (from : ℕ) (x y z : List ℕ) → AreGated from ps x → IsSameFrom from x y →
    LeavesUnfilled (unfilled_in owner ps x) y z → LeavesSlots owner ps y z
unfolding LeavesUnfilled unfilled_in unfilled_slot LeavesSlots
left_alike owner [] from x y z gated same leaves = leaves
left_alike owner (p ∷ ps) from x y z gated same leaves =
    let place = p.place - 32 in
    let first = gated.0 in
    let here = gated.1.inside in
    left_by (bytes_eq (slice_range x place (place + 32)) (veil_of owner p.epoch.0 p.batch)) owner from p ps (unfilled_in owner ps x) x y z refl first
    (omega (arith, first, here)) same (λ w from_here later. left_alike owner ps (p.place + 65) x w z gated.2 from_here later) leaves

pub left_is_left : (owner : List ℕ) (ps : List PlainPlaced) (x z : List ℕ) → AreGated header_len ps x → LeavesUnfilled (unfilled_in owner ps x) x z → LeavesSlots owner ps x z
left_is_left owner ps x z gated leaves = left_alike owner ps header_len x x z gated (refl, refl) leaves
