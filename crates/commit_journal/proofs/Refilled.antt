-- With each slot filled, bytes that stand for batches stand for them as a whole.
use Rattle.std.proofs.Common.{◌≡◌, ℕ, ◌+◌, ◌-◌, List, [], ◌∷◌, ◌++◌, length, take, drop, append_assoc, arith, refl, sym, ap, ◌∙◌, length-append}
use Rattle.std.proofs.Math.Seq.{drop-append_seam}
use Rattle.std.proofs.lemmas.List.{append-nil}
use Rattle.cry_base.specs.Layout.{batch_len, header_len}
use Rattle.chacha_seal.specs.Sealing.{check_of}
use Rattle.chacha_seal.proofs.SealingLemmas.{length-veil_of}
use Rattle.commit_journal.specs.Image.{Batch, batch_head, batch_veil, masked_payload, batch_check, owner_tag, spell_batch, spell_header, spell_batches, image}
use Rattle.commit_journal.specs.Laws.{batch_of, batches_from, placed_from}
use Rattle.commit_journal.specs.Opening.{slots_filled, written_at}
use Rattle.commit_journal.specs.Placed.{PlainBody}
use Rattle.commit_journal.specs.Standing.{spell_slotted, slotted_image, StandsFor, StandsWhole}
use Rattle.commit_journal.proofs.Pieces.{front, length-head_bytes}
use Rattle.commit_journal.proofs.Standings.{length-batch, length-spell_header}

-- ---- one slot

-- bytes that are written over a part of a list
written_over : (before old new behind : List ℕ) (place : ℕ) → length before ≡ place → length new ≡ length old →
    written_at place new (before ++ (old ++ behind)) ≡ before ++ (new ++ behind)
written_over before old new behind place place_is size =
    let whole = before ++ (old ++ behind) in
    let first : take place whole ≡ before = front before (old ++ behind) whole place refl place_is in
    let last : drop (place + length new) whole ≡ behind =
    ap (λ n. drop n whole) (let n : place + length new ≡ length (before ++ old) = omega (arith, length-append before old) in n)
    ∙ ap (λ w. drop (length (before ++ old)) w) (sym (append_assoc before old behind))
    ∙ drop-append_seam (before ++ old) behind
    in
    ap (λ b. b ++ new ++ drop (place + length new) whole) first
    ∙ ap (λ b. before ++ new ++ b) last
    ∙ append_assoc before new behind

-- a batch behind its gate, with the parts before its slot and behind it
pub in_parts : (owner before previous slot : List ℕ) (b : Batch) (more : List ℕ) →
    before ++ 1 ∷ (spell_batch owner previous slot b ++ more)
    ≡ (before ++ 1 ∷ batch_head b) ++ (slot ++ ((masked_payload owner b ++ (batch_check owner b ++ owner_tag owner previous b)) ++ more))
unfolding spell_batch
in_parts owner before previous slot b more =
    let rest = masked_payload owner b ++ (batch_check owner b ++ owner_tag owner previous b) in
    ap (λ r. before ++ 1 ∷ r) (append_assoc (batch_head b) (slot ++ rest) more ∙ ap (λ r. batch_head b ++ r) (append_assoc slot rest more))
    ∙ sym (append_assoc before (1 ∷ batch_head b) (slot ++ (rest ++ more)))

-- any bytes written into the slot
pub slot_written : (owner before previous slot bytes : List ℕ) (b : Batch) (more : List ℕ) (at : ℕ) → length before + 1 ≡ at → length slot ≡ 32 → length bytes ≡ 32 →
    written_at (at + 45 - 32) bytes (before ++ 1 ∷ (spell_batch owner previous slot b ++ more))
    ≡ before ++ 1 ∷ (spell_batch owner previous bytes b ++ more)
slot_written owner before previous slot bytes b more at at_is slot_size bytes_size =
    let behind = (masked_payload owner b ++ (batch_check owner b ++ owner_tag owner previous b)) ++ more in
    let head = before ++ 1 ∷ batch_head b in
    let place : length head ≡ at + 45 - 32 =
    omega (arith, at_is, length-append before (1 ∷ batch_head b), length-head_bytes b.type_of b.number b.epoch (length b.payload))
    in
    ap (written_at (at + 45 - 32) bytes) (in_parts owner before previous slot b more)
    ∙ written_over head slot bytes behind (at + 45 - 32) place (bytes_size ∙ sym slot_size)
    ∙ sym (in_parts owner before previous bytes b more)

slot_filled : (owner before previous slot : List ℕ) (b : Batch) (more : List ℕ) (at : ℕ) → length before + 1 ≡ at → length slot ≡ 32 →
    written_at (at + 45 - 32) (batch_veil owner b) (before ++ 1 ∷ (spell_batch owner previous slot b ++ more))
    ≡ before ++ 1 ∷ (spell_batch owner previous (batch_veil owner b) b ++ more)
slot_filled owner before previous slot b more at at_is slot_size = slot_written owner before previous slot (batch_veil owner b) b more at at_is slot_size (length-veil_of owner b.epoch b.number)

-- ---- all of them

filled_from : (owner slot : List ℕ) (bodies : List PlainBody) (before previous behind : List ℕ) (at number epoch : ℕ) → length slot ≡ 32 → length before + 1 ≡ at →
    slots_filled owner (placed_from at number epoch bodies) (before ++ (spell_slotted owner previous slot (batches_from number epoch bodies) ++ behind))
    ≡ before ++ (spell_batches owner previous (batches_from number epoch bodies) ++ behind)
unfolding slots_filled spell_slotted spell_batches
filled_from owner slot [] before previous behind at number epoch slot_size at_is = refl
filled_from owner slot (body ∷ []) before previous behind at number epoch slot_size at_is =
    let b = batch_of number epoch body in
    slot_filled owner before previous slot b behind at at_is slot_size
    ∙ ap (λ r. before ++ 1 ∷ (r ++ behind)) (sym (append-nil (spell_batch owner previous (batch_veil owner b) b)))
filled_from owner slot (body ∷ other ∷ bodies) before previous behind at number epoch slot_size at_is =
    let b = batch_of number epoch body in
    let veil = batch_veil owner b in
    let bytes = spell_batch owner previous veil b in
    let tag = owner_tag owner previous b in
    let bs = batches_from b.number b.epoch (other ∷ bodies) in
    let placed = placed_from (at + (batch_len + length b.payload)) b.number b.epoch (other ∷ bodies) in
    let slotted = spell_slotted owner tag slot bs in
    let others = spell_batches owner tag bs in
    let front = before ++ 1 ∷ bytes in
    let veil_size = length-veil_of owner b.epoch b.number in
    let front_is : length front + 1 ≡ at + (batch_len + length b.payload) =
    omega (arith, at_is, length-append before (1 ∷ bytes), length-batch owner previous veil b veil_size)
    in
    ap (λ r. slots_filled owner placed (written_at (at + 45 - 32) veil (before ++ 1 ∷ r))) (append_assoc bytes slotted behind)
    ∙ ap (slots_filled owner placed) (slot_filled owner before previous veil b (slotted ++ behind) at at_is veil_size)
    ∙ ap (slots_filled owner placed) (sym (append_assoc before (1 ∷ bytes) (slotted ++ behind)))
    ∙ filled_from owner slot (other ∷ bodies) front tag behind (at + (batch_len + length b.payload)) b.number b.epoch slot_size front_is
    ∙ append_assoc before (1 ∷ bytes) (others ++ behind)
    ∙ ap (λ r. before ++ 1 ∷ r) (sym (append_assoc bytes others behind))

-- ---- the whole image

filled_is : (owner : List ℕ) (bodies : List PlainBody) (bytes : List ℕ) (stands : StandsFor owner (batches_from 0 0 bodies) bytes) →
    slots_filled owner (placed_from header_len 0 0 bodies) bytes ≡ image owner (batches_from 0 0 bodies) ++ stands.gate ∷ stands.behind
unfolding slotted_image image
filled_is owner bodies bytes stands =
    let placed = placed_from header_len 0 0 bodies in
    let bs = batches_from 0 0 bodies in
    let header = spell_header owner in
    let slotted = spell_slotted owner (check_of owner) stands.slot bs in
    let end = stands.gate ∷ stands.behind in
    ap (slots_filled owner placed) (stands.bytes_are ∙ append_assoc header slotted end)
    ∙ filled_from owner stands.slot bodies header (check_of owner) end header_len 0 0 stands.slot_size (ap (λ n. n + 1) (length-spell_header owner))
    ∙ sym (append_assoc header (spell_batches owner (check_of owner) bs) end)

pub filled_whole : (owner : List ℕ) (bodies : List PlainBody) (bytes : List ℕ) → StandsFor owner (batches_from 0 0 bodies) bytes →
    StandsWhole owner (batches_from 0 0 bodies) (slots_filled owner (placed_from header_len 0 0 bodies) bytes)
filled_whole owner bodies bytes stands = record {
  gate = stands.gate;
  behind = stands.behind;
  closed = stands.closed;
  bytes_are = filled_is owner bodies bytes stands;
}

-- ---- what stands behind it

length-slotted : (owner previous slot : List ℕ) (bs : List Batch) → length slot ≡ 32 →
    length (spell_slotted owner previous slot bs) ≡ length (spell_batches owner previous bs)
unfolding spell_slotted spell_batches
length-slotted owner previous slot [] size = refl
length-slotted owner previous slot (b ∷ []) size =
    let veil = batch_veil owner b in
    omega (
      arith,
      length-append (spell_batch owner previous veil b) [],
      length-batch owner previous slot b size,
      length-batch owner previous veil b (length-veil_of owner b.epoch b.number),
    )
length-slotted owner previous slot (b ∷ next ∷ bs) size =
    let bytes = spell_batch owner previous (batch_veil owner b) b in
    let tag = owner_tag owner previous b in
    omega (
      arith,
      length-append bytes (spell_slotted owner tag slot (next ∷ bs)),
      length-append bytes (spell_batches owner tag (next ∷ bs)),
      length-slotted owner tag slot (next ∷ bs) size,
    )

length-slotted_image : (owner slot : List ℕ) (bs : List Batch) → length slot ≡ 32 → length (slotted_image owner slot bs) ≡ length (image owner bs)
unfolding slotted_image image
length-slotted_image owner slot bs size =
    omega (
      arith,
      length-append (spell_header owner) (spell_slotted owner (check_of owner) slot bs),
      length-append (spell_header owner) (spell_batches owner (check_of owner) bs),
      length-slotted owner (check_of owner) slot bs size,
    )

pub filled_behind : (owner : List ℕ) (bodies : List PlainBody) (bytes : List ℕ) → StandsFor owner (batches_from 0 0 bodies) bytes →
    let end = length (image owner (batches_from 0 0 bodies)) in drop end (slots_filled owner (placed_from header_len 0 0 bodies) bytes) ≡ drop end bytes
filled_behind owner bodies bytes stands =
    let whole = image owner (batches_from 0 0 bodies) in
    let slotted = slotted_image owner stands.slot (batches_from 0 0 bodies) in
    let end = stands.gate ∷ stands.behind in
    ap (λ b. drop (length whole) b) (filled_is owner bodies bytes stands)
    ∙ drop-append_seam whole end
    ∙ sym (drop-append_seam slotted end)
    ∙ ap (λ n. drop n (slotted ++ end)) (length-slotted_image owner stands.slot (batches_from 0 0 bodies) stands.slot_size)
    ∙ ap (λ b. drop (length whole) b) (sym stands.bytes_are)
