-- Opening for writing that met a fault of the disk: the bytes stand for the batches for which they stood, with any bytes in the last slot.
use Rattle.std.proofs.Common.{◌≡◌, ◌≢◌, ⊎_elim, inr, ℕ, ◌+◌, ◌-◌, ◌≤◌, List, [], ◌∷◌, ◌++◌, length, take, drop, slice_range, Ok, append_assoc, arith, sym, ap, subst, ◌∙◌, length-append}
use Rattle.std.proofs.lemmas.List.{length-take-le, length-drop, drop-drop, take-append-drop}
use Rattle.cry_base.specs.Layout.{batch_len, header_len}
use Rattle.cry_base.specs.Limits.{most_store_bytes}
use Rattle.cry_io.specs.Stops.{Torn}
use Rattle.chacha_seal.specs.Sealing.{check_of}
use Rattle.chacha_seal.proofs.SealingLemmas.{length-veil_of}
use Rattle.commit_journal.specs.Image.{Batch, batch_head, batch_veil, masked_payload, batch_check, owner_tag, spell_batch, spell_header}
use Rattle.commit_journal.specs.Laws.{batch_of, batches_from, placed_from}
use Rattle.commit_journal.specs.Opening.{LeavesSlot, LeavesSlots, OwnedLog, opening_verdict, written_at}
use Rattle.commit_journal.specs.Placed.{PlainBody}
use Rattle.commit_journal.specs.Standing.{spell_slotted, slotted_image, StandsFor}
use Rattle.commit_journal.specs.WholeLogs.{StillStand, whole_log}
use Rattle.batch_log.proofs.Lists.{torn_over}
use Rattle.commit_journal.proofs.Reopened.{opened_standing}
use Rattle.commit_journal.proofs.Pieces.{length-head_bytes, piece}
use Rattle.commit_journal.proofs.Refilled.{in_parts, slot_written}
use Rattle.commit_journal.proofs.Standings.{length-batch, length-spell_header}

-- ---- one write

-- a torn write of a slot leaves any bytes in it
pub slot_torn : (place : ℕ) (veil old new : List ℕ) → place + 32 ≤ length old → slice_range old place (place + 32) ≢ veil → Torn place 32 old new → LeavesSlot place veil old new
slot_torn place veil old new inside differ torn =
    let before = take place old in
    let slot = take 32 (drop place old) in
    let behind = drop (place + 32) old in
    let place_is : length before ≡ place = length-take-le place old (omega (arith, inside)) in
    let size : length slot ≡ 32 = length-take-le 32 (drop place old) (omega (arith, inside, length-drop place old)) in
    let split : old ≡ before ++ (slot ++ behind) =
    sym (take-append-drop place old)
    ∙ ap (λ r. before ++ r) (sym (take-append-drop 32 (drop place old)))
    ∙ ap (λ r. before ++ (slot ++ r)) (drop-drop 32 place old)
    in
    let over = torn_over place 32 before slot behind new (sym place_is) (sym size) (subst (λ r. Torn place 32 r new) split torn) in
    inr (over.0, over.1, differ, over.2 ∙ sym (append_assoc before over.0 behind) ∙ ap (λ n. before ++ over.0 ++ drop (place + n) old) (sym over.1))

-- ---- the bytes that stood for batches

-- the slot of a batch that stands behind its gate
slot_is : (owner before previous slot : List ℕ) (b : Batch) (more : List ℕ) (at : ℕ) → length before + 1 ≡ at → length slot ≡ 32 →
    let place = at + 45 - 32 in slice_range (before ++ 1 ∷ (spell_batch owner previous slot b ++ more)) place (place + 32) ≡ slot
slot_is owner before previous slot b more at at_is slot_size =
    let head = before ++ 1 ∷ batch_head b in
    let long = length-append before (1 ∷ batch_head b) in
    let first = length-head_bytes b.type_of b.number b.epoch (length b.payload) in
    piece head slot ((masked_payload owner b ++ (batch_check owner b ++ owner_tag owner previous b)) ++ more) _ (at + 45 - 32) (at + 45 - 32 + 32)
    (in_parts owner before previous slot b more) (omega (arith, at_is, long, first)) (omega (arith, at_is, long, first, slot_size))

abbrev Slotted : List ℕ → List PlainBody → List ℕ → List ℕ → List ℕ → ℕ → ℕ → List ℕ → Type 0
Slotted owner bodies before previous behind number epoch new =
    (slot : List ℕ) × (length slot ≡ 32) × (new ≡ before ++ (spell_slotted owner previous slot (batches_from number epoch bodies) ++ behind))

left_from : (owner slot : List ℕ) (bodies : List PlainBody) (before previous behind new : List ℕ) (at number epoch : ℕ) → length slot ≡ 32 → length before + 1 ≡ at →
    LeavesSlots owner (placed_from at number epoch bodies) (before ++ (spell_slotted owner previous slot (batches_from number epoch bodies) ++ behind)) new →
    Slotted owner bodies before previous behind number epoch new
unfolding LeavesSlots spell_slotted
left_from owner slot [] before previous behind new at number epoch slot_size at_is leaves = (slot, slot_size, leaves)
left_from owner slot (body ∷ []) before previous behind new at number epoch slot_size at_is leaves =
    let b = batch_of number epoch body in
    let veil_size = length-veil_of owner b.epoch b.number in
    ⊎_elim
    (λ one. ⊎_elim
    (λ same. (slot, slot_size, same))
    (λ torn. (torn.0, torn.1, torn.3 ∙ slot_written owner before previous slot torn.0 b behind at at_is slot_size torn.1))
    one)
    (λ others. (batch_veil owner b, veil_size, others ∙ slot_written owner before previous slot (batch_veil owner b) b behind at at_is slot_size veil_size))
    leaves
left_from owner slot (body ∷ other ∷ bodies) before previous behind new at number epoch slot_size at_is leaves =
    let b = batch_of number epoch body in
    let veil = batch_veil owner b in
    let bytes = spell_batch owner previous veil b in
    let tag = owner_tag owner previous b in
    let bs = batches_from b.number b.epoch (other ∷ bodies) in
    let placed = placed_from (at + (batch_len + length b.payload)) b.number b.epoch (other ∷ bodies) in
    let slotted = spell_slotted owner tag slot bs in
    let front = before ++ 1 ∷ bytes in
    let veil_size = length-veil_of owner b.epoch b.number in
    let front_is : length front + 1 ≡ at + (batch_len + length b.payload) =
    omega (arith, at_is, length-append before (1 ∷ bytes), length-batch owner previous veil b veil_size)
    in
    let inner : before ++ (1 ∷ (bytes ++ slotted) ++ behind) ≡ before ++ 1 ∷ (bytes ++ (slotted ++ behind)) = ap (λ r. before ++ 1 ∷ r) (append_assoc bytes slotted behind) in
    let stays : before ++ 1 ∷ (bytes ++ (slotted ++ behind)) ≡ front ++ (slotted ++ behind) = sym (append_assoc before (1 ∷ bytes) (slotted ++ behind)) in
    let holds = slot_is owner before previous veil b (slotted ++ behind) at at_is veil_size in
    ⊎_elim
    (λ one. ⊎_elim
    (λ same. (slot, slot_size, same))
    (λ torn. absurd (torn.2 (ap (λ r. slice_range r (at + 45 - 32) (at + 45 - 32 + 32)) inner ∙ holds)))
    one)
    (λ others.
    let next : written_at (at + 45 - 32) veil (before ++ (1 ∷ (bytes ++ slotted) ++ behind)) ≡ front ++ (slotted ++ behind) =
    ap (written_at (at + 45 - 32) veil) inner ∙ slot_written owner before previous veil veil b (slotted ++ behind) at at_is veil_size veil_size ∙ stays in
    let rest = left_from owner slot (other ∷ bodies) front tag behind new (at + (batch_len + length b.payload)) b.number b.epoch slot_size front_is
    (subst (λ r. LeavesSlots owner placed r new) next others) in
    (rest.0, rest.1, rest.2 ∙ append_assoc before (1 ∷ bytes) (spell_slotted owner tag rest.0 bs ++ behind) ∙ ap (λ r. before ++ 1 ∷ r) (sym (append_assoc bytes (spell_slotted owner tag rest.0 bs) behind))))
    leaves

pub left_standing : (owner : List ℕ) (bodies : List PlainBody) (bytes new : List ℕ) → StandsFor owner (batches_from 0 0 bodies) bytes →
    LeavesSlots owner (placed_from header_len 0 0 bodies) bytes new → StandsFor owner (batches_from 0 0 bodies) new
unfolding slotted_image
left_standing owner bodies bytes new stands leaves =
    let bs = batches_from 0 0 bodies in
    let header = spell_header owner in
    let end = stands.gate ∷ stands.behind in
    let split = stands.bytes_are ∙ append_assoc header (spell_slotted owner (check_of owner) stands.slot bs) end in
    let left = left_from owner stands.slot bodies header (check_of owner) end new header_len 0 0 stands.slot_size (ap (λ n. n + 1) (length-spell_header owner))
    (subst (λ r. LeavesSlots owner (placed_from header_len 0 0 bodies) r new) split leaves) in
    record {
      slot = left.0;
      gate = stands.gate;
      behind = stands.behind;
      slot_size = left.1;
      closed = stands.closed;
      bytes_are = left.2 ∙ sym (append_assoc header (spell_slotted owner (check_of owner) left.0 bs) end);
    }

-- ---- the whole opening

pub still_same : (limit : ℕ) (owner x y : List ℕ) → y ≡ x → StillStand limit owner x y
still_same limit owner x y same = λ bodies within. subst (λ b. StandsFor owner (batches_from 0 0 bodies) b) (sym same) within.0

pub still_left : (limit : ℕ) (owner x y : List ℕ) (log : OwnedLog) → limit ≤ most_store_bytes → opening_verdict limit owner x ≡ Ok log → LeavesSlots owner log.placed x y → StillStand limit owner x y
still_left limit owner x y log known is leaves = λ bodies within.
    let both : Ok log ≡ Ok (whole_log owner bodies) = sym is ∙ opened_standing limit owner bodies x known within in
    let same : log ≡ whole_log owner bodies = cc in
    left_standing owner bodies x y within.0 (subst (λ (l : OwnedLog). LeavesSlots owner l.placed x y) same leaves)
