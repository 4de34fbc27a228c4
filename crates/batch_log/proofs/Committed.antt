-- What the three steps of a commit, and each moment of them, leave of the bytes.
use Rattle.std.proofs.Common.{◌≡◌, ◌⊎◌, inl, inr, ℕ, ◌+◌, ◌-◌, ◌≤◌, List, [], ◌∷◌, ◌++◌, length, take, drop, append_assoc, arith, refl, sym, ap, subst, ◌∙◌, length-append}
use Rattle.std.specs.Prelude.{slice_index, slice_range}
use Rattle.std.proofs.Math.Seq.{take-append_seam, drop-append_seam}
use Rattle.std.proofs.lemmas.List.{drop-drop, length-take-le, length-drop, places, take-append-drop}
use Rattle.cry_io.specs.Stops.{Torn, Written}
use Rattle.batch_log.specs.Steps.{EndsAt, Interrupts, IsHeldWhereShown, IsStageable, with_slot, zero_slot}
use Rattle.batch_log.proofs.Lists.{torn_behind, torn_over, written_behind, written_over}

-- ---- the three steps, done

-- a batch as its first bytes, its slot, and what follows
pub parts : (batch : List ℕ) → batch ≡ take 13 batch ++ (take 32 (drop 13 batch) ++ drop 45 batch)
parts batch =
    sym (take-append-drop 13 batch)
    ∙ ap (λ r. take 13 batch ++ r) (sym (take-append-drop 32 (drop 13 batch)))
    ∙ ap (λ r. take 13 batch ++ (take 32 (drop 13 batch) ++ r)) (drop-drop 32 13 batch)

-- what stands once the batch was written
staged_is : (end gate : ℕ) (front behind batch x one : List ℕ) → length front + 1 ≡ end → x ≡ front ++ gate ∷ behind → Written end batch x one
    → one ≡ front ++ (gate ∷ [] ++ (batch ++ drop (length batch) behind))
staged_is end gate front behind batch x one ends is staged =
    let gated : x ≡ (front ++ gate ∷ []) ++ behind = is ∙ sym (append_assoc front (gate ∷ []) behind) in
    written_behind end (front ++ gate ∷ []) behind batch one (omega (arith, ends, length-append front (gate ∷ [])))
    (subst (λ r. Written end batch r one) gated staged)
    ∙ append_assoc front (gate ∷ []) (batch ++ drop (length batch) behind)

-- and its gate opened
opened_is : (end gate : ℕ) (front behind batch x one two : List ℕ) → length front + 1 ≡ end → x ≡ front ++ gate ∷ behind → Written end batch x one
    → Written (end - 1) (1 ∷ []) one two → two ≡ front ++ (1 ∷ (batch ++ drop (length batch) behind))
opened_is end gate front behind batch x one two ends is staged opened =
    written_over (end - 1) front (gate ∷ []) (batch ++ drop (length batch) behind) (1 ∷ []) two (omega (arith, ends)) refl
    (subst (λ r. Written (end - 1) (1 ∷ []) r two) (staged_is end gate front behind batch x one ends is staged) opened)

-- in its parts
slot_split : (front batch rest two : List ℕ) → two ≡ front ++ (1 ∷ (batch ++ rest)) →
    two ≡ (front ++ (1 ∷ take 13 batch)) ++ (take 32 (drop 13 batch) ++ (drop 45 batch ++ rest))
slot_split front batch rest two is = is ∙ ap (λ r. front ++ (1 ∷ (r ++ rest))) (parts batch) ∙ simp append_assoc

slot_place : (end : ℕ) (front batch : List ℕ) → length front + 1 ≡ end → 45 ≤ length batch → end + 13 ≡ length (front ++ (1 ∷ take 13 batch))
slot_place end front batch ends whole =
    omega (arith, ends, length-append front (1 ∷ take 13 batch), length-take-le 13 batch (omega (arith, whole)))

-- the batch behind a closed gate, the gate, the slot
pub committed : (end gate : ℕ) (front behind batch veil s s1 s2 s3 : List ℕ) →
    length front + 1 ≡ end → 45 ≤ length batch → length veil ≡ 32 → s ≡ front ++ gate ∷ behind →
    Written end batch s s1 → Written (end - 1) (1 ∷ []) s1 s2 → Written (end + 13) veil s2 s3 →
    s3 ≡ front ++ (1 ∷ (with_slot veil batch ++ drop (length batch) behind))
committed end gate front behind batch veil s s1 s2 s3 at whole veil_length is staged opened unveiled =
    let rest = drop (length batch) behind in
    let a = front ++ (1 ∷ take 13 batch) in
    let split = slot_split front batch rest s2 (opened_is end gate front behind batch s s1 s2 at is staged opened) in
    let third : s3 ≡ a ++ (veil ++ (drop 45 batch ++ rest)) =
    written_over (end + 13) a (take 32 (drop 13 batch)) (drop 45 batch ++ rest) veil s3
    (slot_place end front batch at whole)
    (veil_length ∙ sym (length-take-le 32 (drop 13 batch) (omega (arith, length-drop 13 batch))))
    (subst (λ r. Written (end + 13) veil r s3) split unveiled)
    in
    third ∙ simp append_assoc

-- ---- a step that was torn

-- the batch behind the gate
pub torn_in_staging : (end : ℕ) (batch x y : List ℕ) → Torn end (length batch) x y → Interrupts end batch x y
torn_in_staging end batch x y torn = λ front behind gate ends is.
    let gated : x ≡ (front ++ gate ∷ []) ++ behind = is ∙ sym (append_assoc front (gate ∷ []) behind) in
    let stays = torn_behind end (length batch) (front ++ gate ∷ []) behind y (omega (arith, ends, length-append front (gate ∷ [])))
    (subst (λ r. Torn end (length batch) r y) gated torn) in
    let after = drop (length (front ++ gate ∷ [])) y in
    inl (after, stays ∙ append_assoc front (gate ∷ []) after)

-- the batch as it is written holds some bytes in its slot
pub own_slot : (batch : List ℕ) → 45 ≤ length batch → (slot : List ℕ) × (length slot ≡ 32) × (batch ≡ with_slot slot batch)
own_slot batch whole = (take 32 (drop 13 batch), length-take-le 32 (drop 13 batch) (omega (arith, whole, length-drop 13 batch)), parts batch)

one_byte : (bytes : List ℕ) → length bytes ≡ 1 → (byte : ℕ) × (bytes ≡ byte ∷ [])
one_byte [] one = absurd (omega (arith, one))
one_byte (byte ∷ []) one = (byte, refl)
one_byte (byte ∷ next ∷ bytes) one = absurd (omega (arith, one))

-- the gate: any byte stands there
gate_torn : (end gate : ℕ) (front behind batch x one y : List ℕ) → length front + 1 ≡ end → x ≡ front ++ gate ∷ behind → Written end batch x one
    → Torn (end - 1) 1 one y → (byte : ℕ) × (y ≡ front ++ (byte ∷ (batch ++ drop (length batch) behind)))
gate_torn end gate front behind batch x one y ends is staged torn =
    let rest = drop (length batch) behind in
    let over = torn_over (end - 1) 1 front (gate ∷ []) (batch ++ rest) y (omega (arith, ends)) refl
    (subst (λ r. Torn (end - 1) 1 r y) (staged_is end gate front behind batch x one ends is staged) torn) in
    let byte = one_byte over.0 over.1 in
    (byte.0, over.2 ∙ ap (λ b. front ++ (b ++ (batch ++ rest))) byte.1)

pub torn_in_opening : (end : ℕ) (batch x one y : List ℕ) → 45 ≤ length batch → Written end batch x one → Torn (end - 1) 1 one y → Interrupts end batch x y
torn_in_opening end batch x one y whole staged torn = λ front behind gate ends is.
    let rest = drop (length batch) behind in
    let over = gate_torn end gate front behind batch x one y ends is staged torn in
    let slot = own_slot batch whole in
    inr (over.0, slot.0, rest, slot.1, over.1 ∙ ap (λ b. front ++ (over.0 ∷ (b ++ rest))) slot.2)

-- the slot: any bytes stand there
slot_torn : (end gate : ℕ) (front behind batch x one two y : List ℕ) → length front + 1 ≡ end → 45 ≤ length batch → x ≡ front ++ gate ∷ behind
    → Written end batch x one → Written (end - 1) (1 ∷ []) one two → Torn (end + 13) 32 two y
    → (slot : List ℕ) × (length slot ≡ 32) × (y ≡ front ++ (1 ∷ (with_slot slot batch ++ drop (length batch) behind)))
slot_torn end gate front behind batch x one two y ends whole is staged opened torn =
    let rest = drop (length batch) behind in
    let a = front ++ (1 ∷ take 13 batch) in
    let slot = take 32 (drop 13 batch) in
    let split = slot_split front batch rest two (opened_is end gate front behind batch x one two ends is staged opened) in
    let over = torn_over (end + 13) 32 a slot (drop 45 batch ++ rest) y (slot_place end front batch ends whole)
    (sym (length-take-le 32 (drop 13 batch) (omega (arith, whole, length-drop 13 batch))))
    (subst (λ r. Torn (end + 13) 32 r y) split torn) in
    (over.0, over.1, over.2 ∙ simp append_assoc)

pub torn_in_unveiling : (end : ℕ) (batch x one two y : List ℕ) → 45 ≤ length batch → Written end batch x one → Written (end - 1) (1 ∷ []) one two
    → Torn (end + 13) 32 two y → Interrupts end batch x y
torn_in_unveiling end batch x one two y whole staged opened torn = λ front behind gate ends is.
    let over = slot_torn end gate front behind batch x one two y ends whole is staged opened torn in
    inr (1, over.0, drop (length batch) behind, over.1, over.2)

-- ---- what is shown is held

-- while the batch is written, the gate that is shown is closed
pub held_in_staging : (end : ℕ) (batch x s c : List ℕ) → EndsAt end x → Torn end (length batch) x s → IsHeldWhereShown end batch s c
held_in_staging end batch x s c ends torn = λ open_gate slot.
    let place = ends.place in
    let is = ends.bytes_are in
    let long : length x ≡ length ends.front + 1 + length ends.behind = omega (arith, ap length is, length-append ends.front (ends.gate ∷ ends.behind)) in
    let last : end - 1 ≡ length ends.front = omega (arith, place) in
    let gate : slice_index x (end - 1) ≡ ends.gate = ap (λ r. slice_index r (end - 1)) is ∙ grind (arith, places) in
    let same : slice_index s (end - 1) ≡ slice_index x (end - 1) = torn.before (end - 1) (omega (arith, long, place)) (omega (arith, place)) in
    absurd (ends.closed (sym gate ∙ sym same ∙ open_gate))

-- the slot of a batch that stands behind its gate
slot_at : (end byte : ℕ) (front head slot rest : List ℕ) → length front + 1 ≡ end → length head ≡ 13 → length slot ≡ 32 →
    slice_range (front ++ (byte ∷ (head ++ (slot ++ rest)))) (end + 13) (end + 45) ≡ slot
slot_at end byte front head slot rest ends head_size slot_size =
    let a = front ++ (byte ∷ head) in
    let split : front ++ (byte ∷ (head ++ (slot ++ rest))) ≡ a ++ (slot ++ rest) = sym (append_assoc front (byte ∷ head) (slot ++ rest)) in
    let at : end + 13 ≡ length a = omega (arith, ends, head_size, length-append front (byte ∷ head)) in
    let far : end + 45 - (end + 13) ≡ length slot = omega (arith, slot_size) in
    ap (λ r. slice_range r (end + 13) (end + 45)) split
    ∙ ap (λ n. take n (drop (end + 13) (a ++ (slot ++ rest)))) far
    ∙ ap (λ n. take (length slot) (drop n (a ++ (slot ++ rest)))) at
    ∙ ap (λ r. take (length slot) r) (drop-append_seam a (slot ++ rest))
    ∙ take-append_seam slot rest

zero_size : length zero_slot ≡ 32
unfolding zero_slot
zero_size = refl

-- while the gate is opened, the slot that is shown is zero
pub held_in_opening : (end : ℕ) (batch x one s c : List ℕ) → IsStageable batch → EndsAt end x → Written end batch x one → Torn (end - 1) 1 one s
    → IsHeldWhereShown end batch s c
held_in_opening end batch x one s c stageable ends staged torn = λ open_gate slot.
    let over = gate_torn end ends.gate ends.front ends.behind batch x one s ends.place ends.bytes_are staged torn in
    let behind = drop (length batch) ends.behind in
    let is : s ≡ ends.front ++ (over.0 ∷ (stageable.head ++ (zero_slot ++ ((stageable.rest ++ 0 ∷ []) ++ behind)))) =
    over.1 ∙ ap (λ b. ends.front ++ (over.0 ∷ (b ++ behind))) stageable.body_is ∙ simp append_assoc in
    absurd (slot (ap (λ r. slice_range r (end + 13) (end + 45)) is
    ∙ slot_at end over.0 ends.front stageable.head zero_slot ((stageable.rest ++ 0 ∷ []) ++ behind) ends.place stageable.head_size zero_size))

-- while the slot is written, a stop leaves the batch behind its open gate
pub held_in_unveiling : (end : ℕ) (batch x one two s c : List ℕ) → 45 ≤ length batch → EndsAt end x → Written end batch x one → Written (end - 1) (1 ∷ []) one two
    → Torn (end + 13) 32 two c → IsHeldWhereShown end batch s c
held_in_unveiling end batch x one two s c whole ends staged opened torn = λ open_gate slot.
    let over = slot_torn end ends.gate ends.front ends.behind batch x one two c ends.place whole ends.bytes_are staged opened torn in
    record {
      front = ends.front;
      slot = over.0;
      behind = drop (length batch) ends.behind;
      place = ends.place;
      slot_size = over.1;
      bytes_are = over.2;
    }
