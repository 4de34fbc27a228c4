-- Images of batches: their lengths and prefixes, and what is recovered of bytes that stand for batches.
use Rattle.std.proofs.Common.{◌≡◌, ◌≢◌, inl, ℕ, zero, suc, ◌+◌, true, false, eqb, List, [], ◌∷◌, ◌++◌, length, take, drop, map, All, append_assoc, arith, refl, sym, ap, subst, ◌∙◌, length-append}
use Rattle.std.specs.List.{sum_by}
use Rattle.std.proofs.Math.Seq.{take-append_seam, drop-append_seam}
use Rattle.std.proofs.lemmas.Bool.Decides.{nat_tests}
use Rattle.std.proofs.lemmas.List.{append-nil}
use Rattle.std.proofs.lemmas.List.Elements.{All-head, All-tail}
use Rattle.std.proofs.lemmas.List.Sums.{sum_by-cons}
use Rattle.std.proofs.lemmas.Slice.Eq.{bytes_eq-Decides}
use Rattle.cry_base.specs.Layout.{batch_len}
use Rattle.hmac_seal.proofs.HmacLemmas.{length-hmac}
use Rattle.chacha_seal.specs.Sealing.{masked, check_of}
use Rattle.chacha_seal.proofs.SealingLemmas.{masked-masked, length-masked, length-veil_of, length-check_of}
use Rattle.commit_journal.specs.declared.batch_type.BatchType.{BatchType}
use Rattle.commit_journal.specs.declared.batch_type.BatchType.TheVariants.{Command, NewEpoch}
use Rattle.commit_journal.specs.Gates.{head_in, size_in, gated_at, gated, slot_payload, recovered_batch, recovered, type_of_byte}
use Rattle.commit_journal.specs.Image.{Batch, type_byte, batch_head, batch_veil, masked_payload, batch_check, owner_tag, empty_slot, spell_batch, spell_header, spell_batches, image}
use Rattle.commit_journal.specs.Log.{head_of, slot_in, payload_in}
use Rattle.commit_journal.specs.Publishing.{is_last_published, IsHonest, last_slot_in, last_slot}
use Rattle.commit_journal.specs.Standing.{spell_slotted, slotted_image, StandsFor, StandsWhole, tag_behind, last_tag, HasSizes}
use Rattle.commit_journal.proofs.Pieces.{piece, front, length-head_bytes, head_is}

-- ---- lengths

pub length-owner_tag : (owner previous : List ℕ) (b : Batch) → length (owner_tag owner previous b) ≡ 32
unfolding owner_tag
length-owner_tag owner previous b = length-hmac _ _

pub length-batch : (owner previous slot : List ℕ) (b : Batch) → length slot ≡ 32 → length (spell_batch owner previous slot b) ≡ 109 + length b.payload
unfolding spell_batch
length-batch owner previous slot b size =
    omega (
      arith,
      length-append (batch_head b) (slot ++ (masked_payload owner b ++ (batch_check owner b ++ owner_tag owner previous b))),
      length-append slot (masked_payload owner b ++ (batch_check owner b ++ owner_tag owner previous b)),
      length-append (masked_payload owner b) (batch_check owner b ++ owner_tag owner previous b),
      length-append (batch_check owner b) (owner_tag owner previous b),
      length-head_bytes b.type_of b.number b.epoch (length b.payload),
      length-masked (batch_veil owner b) b.payload,
      length-hmac (batch_veil owner b) (masked_payload owner b),
      length-owner_tag owner previous b,
    )

pub length-spell_header : (owner : List ℕ) → length (spell_header owner) ≡ 41
unfolding spell_header
length-spell_header owner = omega (arith, length-check_of owner)

pub length-spell_batches : (owner previous : List ℕ) (bs : List Batch) → length (spell_batches owner previous bs) ≡ sum_by (λ b. batch_len + length b.payload) bs
unfolding spell_batches
length-spell_batches owner previous [] = refl
length-spell_batches owner previous (b ∷ bs) =
    let first = length-batch owner previous (batch_veil owner b) b (length-veil_of owner b.epoch b.number) in
    let others = length-spell_batches owner (owner_tag owner previous b) bs in
    omega (arith, first, others, length-append (spell_batch owner previous (batch_veil owner b) b) (spell_batches owner (owner_tag owner previous b) bs), sum_by-cons (λ (b : Batch). batch_len + length b.payload) b bs)

pub length-image : (owner : List ℕ) (bs : List Batch) → length (image owner bs) ≡ 41 + sum_by (λ b. batch_len + length b.payload) bs
unfolding image
length-image owner bs =
    omega (arith, length-append (spell_header owner) (spell_batches owner (check_of owner) bs), length-spell_header owner, length-spell_batches owner (check_of owner) bs)

-- ---- prefixes

spell_batches-append : (owner previous : List ℕ) (bs more : List Batch) →
    spell_batches owner previous (bs ++ more) ≡ spell_batches owner previous bs ++ spell_batches owner (tag_behind owner previous bs) more
unfolding spell_batches tag_behind
spell_batches-append owner previous [] more = refl
spell_batches-append owner previous (b ∷ bs) more =
    let tag = owner_tag owner previous b in
    let bytes = spell_batch owner previous (batch_veil owner b) b in
    ap (λ r. 1 ∷ (bytes ++ r)) (spell_batches-append owner tag bs more)
    ∙ ap (λ r. 1 ∷ r) (sym (append_assoc bytes (spell_batches owner tag bs) (spell_batches owner (tag_behind owner tag bs) more)))

pub image-append : (owner : List ℕ) (bs more : List Batch) → image owner (bs ++ more) ≡ image owner bs ++ spell_batches owner (last_tag owner bs) more
unfolding image
image-append owner bs more =
    ap (λ r. spell_header owner ++ r) (spell_batches-append owner (check_of owner) bs more)
    ∙ sym (append_assoc (spell_header owner) (spell_batches owner (check_of owner) bs) (spell_batches owner (last_tag owner bs) more))

slotted_last : (owner previous slot : List ℕ) (bs : List Batch) (b : Batch) →
    spell_slotted owner previous slot (bs ++ b ∷ []) ≡ spell_batches owner previous bs ++ 1 ∷ spell_batch owner (tag_behind owner previous bs) slot b
unfolding spell_slotted spell_batches tag_behind
slotted_last owner previous slot [] b = refl
slotted_last owner previous slot (a ∷ []) b =
    ap (λ r. 1 ∷ (r ++ 1 ∷ spell_batch owner (owner_tag owner previous a) slot b)) (sym (append-nil (spell_batch owner previous (batch_veil owner a) a)))
slotted_last owner previous slot (a ∷ next ∷ bs) b =
    let tag = owner_tag owner previous a in
    let bytes = spell_batch owner previous (batch_veil owner a) a in
    ap (λ r. 1 ∷ (bytes ++ r)) (slotted_last owner tag slot (next ∷ bs) b)
    ∙ ap (λ r. 1 ∷ r) (sym (append_assoc bytes (spell_batches owner tag (next ∷ bs)) (1 ∷ spell_batch owner (tag_behind owner tag (next ∷ bs)) slot b)))

pub slotted_image-last : (owner slot : List ℕ) (bs : List Batch) (b : Batch) →
    slotted_image owner slot (bs ++ b ∷ []) ≡ image owner bs ++ 1 ∷ spell_batch owner (last_tag owner bs) slot b
unfolding slotted_image image
slotted_image-last owner slot bs b =
    ap (λ r. spell_header owner ++ r) (slotted_last owner (check_of owner) slot bs b)
    ∙ sym (append_assoc (spell_header owner) (spell_batches owner (check_of owner) bs) (1 ∷ spell_batch owner (last_tag owner bs) slot b))

-- ---- the whole image stands for its batches

pub veil_last : List ℕ → List Batch → List ℕ
veil_last owner [] = empty_slot
veil_last owner (b ∷ []) = batch_veil owner b
veil_last owner (b ∷ next ∷ bs) = veil_last owner (next ∷ bs)

pub length-veil_last : (owner : List ℕ) (bs : List Batch) → length (veil_last owner bs) ≡ 32
unfolding veil_last empty_slot
length-veil_last owner [] = refl
length-veil_last owner (b ∷ []) = length-veil_of owner b.epoch b.number
length-veil_last owner (b ∷ next ∷ bs) = length-veil_last owner (next ∷ bs)

slotted_with_veil : (owner previous : List ℕ) (bs : List Batch) → spell_slotted owner previous (veil_last owner bs) bs ≡ spell_batches owner previous bs
unfolding veil_last spell_slotted spell_batches
slotted_with_veil owner previous [] = refl
slotted_with_veil owner previous (b ∷ []) = ap (λ r. 1 ∷ r) (sym (append-nil (spell_batch owner previous (batch_veil owner b) b)))
slotted_with_veil owner previous (b ∷ next ∷ bs) =
    ap (λ r. 1 ∷ (spell_batch owner previous (batch_veil owner b) b ++ r)) (slotted_with_veil owner (owner_tag owner previous b) (next ∷ bs))

pub whole_stands : (owner : List ℕ) (bs : List Batch) (bytes : List ℕ) → StandsWhole owner bs bytes → StandsFor owner bs bytes
unfolding slotted_image image
whole_stands owner bs bytes whole = record {
  slot = veil_last owner bs;
  gate = whole.gate;
  behind = whole.behind;
  slot_size = length-veil_last owner bs;
  closed = whole.closed;
  bytes_are = whole.bytes_are ∙ ap (λ r. (spell_header owner ++ r) ++ whole.gate ∷ whole.behind) (sym (slotted_with_veil owner (check_of owner) bs));
}

-- ---- what stands behind the gates

gated_at-skip : (skip : ℕ) (rest : List ℕ) → gated_at skip rest ≡ gated_at 0 (drop skip rest)
unfolding gated_at
gated_at-skip zero [] = refl
gated_at-skip (suc skip) [] = refl
gated_at-skip zero (byte ∷ rest) = refl
gated_at-skip (suc skip) (byte ∷ rest) = gated_at-skip skip rest

head_spelled : (owner previous slot : List ℕ) (b : Batch) (more : List ℕ) → HasSizes b →
    head_in (spell_batch owner previous slot b ++ more) ≡ record { type_byte = type_byte b.type_of; number = b.number; epoch = record { 0 = b.epoch }; size = length b.payload }
unfolding head_in spell_batch
head_spelled owner previous slot b more sizes =
    let rest = slot ++ (masked_payload owner b ++ (batch_check owner b ++ owner_tag owner previous b)) in
    ap head_of (front (batch_head b) (rest ++ more) ((batch_head b ++ rest) ++ more) 13 (append_assoc (batch_head b) rest more) (length-head_bytes b.type_of b.number b.epoch (length b.payload)))
    ∙ head_is b.type_of b.number b.epoch (length b.payload) sizes.number sizes.epoch sizes.payload

gated_one : (owner previous slot : List ℕ) (b : Batch) (more : List ℕ) → length slot ≡ 32 → HasSizes b →
    gated_at 0 (1 ∷ (spell_batch owner previous slot b ++ more)) ≡ spell_batch owner previous slot b ∷ gated_at 0 more
unfolding gated_at size_in
gated_one owner previous slot b more size sizes =
    let bytes = spell_batch owner previous slot b in
    let rest = bytes ++ more in
    let far : 109 + (head_in rest).size ≡ length bytes =
    ap (λ h. 109 + h.size) (head_spelled owner previous slot b more sizes) ∙ sym (length-batch owner previous slot b size)
    in
    ap (λ n. take n rest ∷ gated_at n rest) far
    ∙ ap (λ first. first ∷ gated_at (length bytes) rest) (take-append_seam bytes more)
    ∙ ap (λ others. bytes ∷ others) (gated_at-skip (length bytes) rest ∙ ap (gated_at 0) (drop-append_seam bytes more))

-- the bytes of each batch, with these bytes in the slot of the last one
each_slotted : List ℕ → List ℕ → List ℕ → List Batch → List (List ℕ)
each_slotted owner previous slot [] = []
each_slotted owner previous slot (b ∷ []) = spell_batch owner previous slot b ∷ []
each_slotted owner previous slot (b ∷ next ∷ bs) = spell_batch owner previous (batch_veil owner b) b ∷ each_slotted owner (owner_tag owner previous b) slot (next ∷ bs)

gated_closed : (gate : ℕ) (behind : List ℕ) → gate ≢ 1 → gated_at 0 (gate ∷ behind) ≡ []
unfolding gated_at
gated_closed gate behind shut = let test : eqb gate 1 ≡ false = grind (arith, nat_tests) in rw test refl

gated_slotted : (owner previous slot : List ℕ) (bs : List Batch) (gate : ℕ) (behind : List ℕ) → length slot ≡ 32 → All HasSizes bs → gate ≢ 1 →
    gated_at 0 (spell_slotted owner previous slot bs ++ gate ∷ behind) ≡ each_slotted owner previous slot bs
unfolding spell_slotted each_slotted
gated_slotted owner previous slot [] gate behind size sizes shut = gated_closed gate behind shut
gated_slotted owner previous slot (b ∷ []) gate behind size sizes shut =
    gated_one owner previous slot b (gate ∷ behind) size (All-head HasSizes b [] sizes)
    ∙ ap (λ others. spell_batch owner previous slot b ∷ others) (gated_closed gate behind shut)
gated_slotted owner previous slot (b ∷ next ∷ bs) gate behind size sizes shut =
    let bytes = spell_batch owner previous (batch_veil owner b) b in
    let tag = owner_tag owner previous b in
    let others = spell_slotted owner tag slot (next ∷ bs) in
    ap (λ r. gated_at 0 (1 ∷ r)) (append_assoc bytes others (gate ∷ behind))
    ∙ gated_one owner previous (batch_veil owner b) b (others ++ gate ∷ behind) (length-veil_of owner b.epoch b.number) (All-head HasSizes b (next ∷ bs) sizes)
    ∙ ap (λ r. bytes ∷ r) (gated_slotted owner tag slot (next ∷ bs) gate behind size (All-tail HasSizes b (next ∷ bs) sizes) shut)

gated_standing : (owner : List ℕ) (bs : List Batch) (bytes : List ℕ) (stands : StandsFor owner bs bytes) → All HasSizes bs →
    gated bytes ≡ each_slotted owner (check_of owner) stands.slot bs
unfolding gated slotted_image
gated_standing owner bs bytes stands sizes =
    let header = spell_header owner in
    let rest = spell_slotted owner (check_of owner) stands.slot bs in
    let end = stands.gate ∷ stands.behind in
    let is : bytes ≡ header ++ (rest ++ end) = stands.bytes_are ∙ append_assoc header rest end in
    ap (λ s. gated_at 0 (drop 41 s)) is
    ∙ ap (λ n. gated_at 0 (drop n (header ++ (rest ++ end)))) (sym (length-spell_header owner))
    ∙ ap (gated_at 0) (drop-append_seam header (rest ++ end))
    ∙ gated_slotted owner (check_of owner) stands.slot bs stands.gate stands.behind stands.slot_size sizes stands.closed

-- ---- what is recovered

type_back : (t : BatchType) → type_of_byte (type_byte t) ≡ t
type_back Command = refl
type_back NewEpoch = refl

recovered_spelled : (owner previous slot : List ℕ) (b : Batch) → length slot ≡ 32 → HasSizes b → recovered_batch owner (spell_batch owner previous slot b) ≡ b
unfolding recovered_batch spell_batch
recovered_spelled owner previous slot b size sizes =
    let bytes = spell_batch owner previous slot b in
    let head = head_spelled owner previous slot b [] sizes in
    let is : head_in bytes ≡ record { type_byte = type_byte b.type_of; number = b.number; epoch = record { 0 = b.epoch }; size = length b.payload } =
    ap head_in (sym (append-nil bytes)) ∙ head
    in
    let behind = batch_check owner b ++ owner_tag owner previous b in
    let start = length-append (batch_head b) slot in
    let long = length-head_bytes b.type_of b.number b.epoch (length b.payload) in
    let same = length-masked (batch_veil owner b) b.payload in
    let inner : payload_in (length b.payload) bytes ≡ masked_payload owner b =
    piece (batch_head b ++ slot) (masked_payload owner b) behind bytes 45 (45 + length b.payload) (simp append_assoc) (omega arith) (omega arith)
    in
    rw is (rw (inner, masked-masked, type_back b.type_of) refl)

recovered_each : (owner previous slot : List ℕ) (bs : List Batch) → length slot ≡ 32 → All HasSizes bs → map (recovered_batch owner) (each_slotted owner previous slot bs) ≡ bs
unfolding each_slotted
recovered_each owner previous slot [] size sizes = refl
recovered_each owner previous slot (b ∷ []) size sizes = ap (λ x. x ∷ []) (recovered_spelled owner previous slot b size (All-head HasSizes b [] sizes))
recovered_each owner previous slot (b ∷ next ∷ bs) size sizes =
    let first = recovered_spelled owner previous (batch_veil owner b) b (length-veil_of owner b.epoch b.number) (All-head HasSizes b (next ∷ bs) sizes) in
    let others = recovered_each owner (owner_tag owner previous b) slot (next ∷ bs) size (All-tail HasSizes b (next ∷ bs) sizes) in
    ap (λ x. x ∷ map (recovered_batch owner) (each_slotted owner (owner_tag owner previous b) slot (next ∷ bs))) first ∙ ap (λ r. b ∷ r) others

pub recovered_standing : (owner : List ℕ) (bs : List Batch) (bytes : List ℕ) → StandsFor owner bs bytes → All HasSizes bs → recovered owner bytes ≡ bs
unfolding recovered
recovered_standing owner bs bytes stands sizes =
    ap (map (recovered_batch owner)) (gated_standing owner bs bytes stands sizes)
    ∙ recovered_each owner (check_of owner) stands.slot bs stands.slot_size sizes

-- ---- the last slot

slot_spelled : (owner previous slot : List ℕ) (b : Batch) → length slot ≡ 32 → slot_in (spell_batch owner previous slot b) ≡ slot
unfolding spell_batch
slot_spelled owner previous slot b size =
    piece (batch_head b) slot (masked_payload owner b ++ (batch_check owner b ++ owner_tag owner previous b)) (spell_batch owner previous slot b) 13 45 refl
    (length-head_bytes b.type_of b.number b.epoch (length b.payload))
    (omega (arith, length-head_bytes b.type_of b.number b.epoch (length b.payload)))

last_each : (owner previous slot : List ℕ) (b : Batch) (bs : List Batch) → length slot ≡ 32 → last_slot_in (each_slotted owner previous slot (b ∷ bs)) ≡ slot
unfolding each_slotted last_slot_in
last_each owner previous slot b [] size = slot_spelled owner previous slot b size
last_each owner previous slot b (next ∷ []) size = last_each owner (owner_tag owner previous b) slot next [] size
last_each owner previous slot b (next ∷ other ∷ bs) size = last_each owner (owner_tag owner previous b) slot next (other ∷ bs) size

pub last_slot_standing : (owner : List ℕ) (b : Batch) (bs : List Batch) (bytes : List ℕ) (stands : StandsFor owner (b ∷ bs) bytes) → All HasSizes (b ∷ bs) → last_slot bytes ≡ stands.slot
unfolding last_slot
last_slot_standing owner b bs bytes stands sizes =
    ap last_slot_in (gated_standing owner (b ∷ bs) bytes stands sizes) ∙ last_each owner (check_of owner) stands.slot b bs stands.slot_size

-- ---- a whole image

pub whole_slot : (owner : List ℕ) (b : Batch) (bs : List Batch) (bytes : List ℕ) → StandsWhole owner (b ∷ bs) bytes → All HasSizes (b ∷ bs) → last_slot bytes ≡ veil_last owner (b ∷ bs)
unfolding whole_stands
whole_slot owner b bs bytes whole sizes = last_slot_standing owner b bs bytes (whole_stands owner (b ∷ bs) bytes whole) sizes

published_by_veil : (owner : List ℕ) (bs : List Batch) → is_last_published owner (veil_last owner bs) bs ≡ true
unfolding is_last_published veil_last
published_by_veil owner [] = refl
published_by_veil owner (b ∷ []) = (bytes_eq-Decides (batch_check owner b) (batch_check owner b)).1 refl
published_by_veil owner (b ∷ next ∷ bs) = published_by_veil owner (next ∷ bs)

honest_by_veil : (owner : List ℕ) (bs : List Batch) → IsHonest owner (veil_last owner bs) bs
unfolding veil_last
honest_by_veil owner [] = tt
honest_by_veil owner (b ∷ []) = inl refl
honest_by_veil owner (b ∷ next ∷ bs) = honest_by_veil owner (next ∷ bs)

no_batches : (owner slot : List ℕ) → is_last_published owner slot [] ≡ true
unfolding is_last_published
no_batches owner slot = refl

pub whole_published : (owner : List ℕ) (bs : List Batch) (bytes : List ℕ) → StandsWhole owner bs bytes → All HasSizes bs → is_last_published owner (last_slot bytes) bs ≡ true
whole_published owner [] bytes whole sizes = no_batches owner (last_slot bytes)
whole_published owner (b ∷ bs) bytes whole sizes =
    ap (λ slot. is_last_published owner slot (b ∷ bs)) (whole_slot owner b bs bytes whole sizes) ∙ published_by_veil owner (b ∷ bs)

pub whole_honest : (owner : List ℕ) (bs : List Batch) (bytes : List ℕ) → StandsWhole owner bs bytes → All HasSizes bs → IsHonest owner (last_slot bytes) bs
whole_honest owner [] bytes whole sizes = tt
whole_honest owner (b ∷ bs) bytes whole sizes =
    subst (λ (slot : List ℕ). IsHonest owner slot (b ∷ bs)) (sym (whole_slot owner b bs bytes whole sizes)) (honest_by_veil owner (b ∷ bs))

unmasked_spelled : (owner previous : List ℕ) (b : Batch) → HasSizes b → slot_payload (spell_batch owner previous (batch_veil owner b) b) ≡ b.payload
unfolding slot_payload spell_batch
unmasked_spelled owner previous b sizes =
    let slot = batch_veil owner b in
    let bytes = spell_batch owner previous slot b in
    let size = length-veil_of owner b.epoch b.number in
    let is : head_in bytes ≡ record { type_byte = type_byte b.type_of; number = b.number; epoch = record { 0 = b.epoch }; size = length b.payload } =
    ap head_in (sym (append-nil bytes)) ∙ head_spelled owner previous slot b [] sizes
    in
    let behind = batch_check owner b ++ owner_tag owner previous b in
    let start = length-append (batch_head b) slot in
    let long = length-head_bytes b.type_of b.number b.epoch (length b.payload) in
    let same = length-masked (batch_veil owner b) b.payload in
    let inner : payload_in (length b.payload) bytes ≡ masked_payload owner b =
    piece (batch_head b ++ slot) (masked_payload owner b) behind bytes 45 (45 + length b.payload) (simp append_assoc) (omega arith) (omega arith)
    in
    ap (λ s. masked s (payload_in (head_in bytes).size bytes)) (slot_spelled owner previous slot b size)
    ∙ ap (λ h. masked slot (payload_in h.size bytes)) is
    ∙ ap (masked slot) inner
    ∙ masked-masked slot b.payload

unmasked_each : (owner previous : List ℕ) (bs : List Batch) → All HasSizes bs → map slot_payload (each_slotted owner previous (veil_last owner bs) bs) ≡ map (λ (b : Batch). b.payload) bs
unfolding each_slotted veil_last
unmasked_each owner previous [] sizes = refl
unmasked_each owner previous (b ∷ []) sizes = ap (λ x. x ∷ []) (unmasked_spelled owner previous b (All-head HasSizes b [] sizes))
unmasked_each owner previous (b ∷ next ∷ bs) sizes =
    let tag = owner_tag owner previous b in
    let first = unmasked_spelled owner previous b (All-head HasSizes b (next ∷ bs) sizes) in
    let others = unmasked_each owner tag (next ∷ bs) (All-tail HasSizes b (next ∷ bs) sizes) in
    ap (λ x. x ∷ map slot_payload (each_slotted owner tag (veil_last owner (next ∷ bs)) (next ∷ bs))) first ∙ ap (λ r. b.payload ∷ r) others

pub whole_unmasked : (owner : List ℕ) (bs : List Batch) (bytes : List ℕ) → StandsWhole owner bs bytes → All HasSizes bs → map slot_payload (gated bytes) ≡ map (λ (b : Batch). b.payload) bs
unfolding whole_stands
whole_unmasked owner bs bytes whole sizes =
    ap (map slot_payload) (gated_standing owner bs bytes (whole_stands owner bs bytes whole) sizes) ∙ unmasked_each owner (check_of owner) bs sizes

-- ---- the steps of a commit

pub staged : (owner : List ℕ) (bs : List Batch) (gate : ℕ) (behind : List ℕ) → gate ≢ 1 → StandsWhole owner bs (image owner bs ++ gate ∷ behind)
staged owner bs gate behind shut = record { gate = gate; behind = behind; closed = shut; bytes_are = refl }

pub opened : (owner slot : List ℕ) (bs : List Batch) (b : Batch) (gate : ℕ) (behind : List ℕ) → length slot ≡ 32 → gate ≢ 1 →
    StandsFor owner (bs ++ b ∷ []) (image owner bs ++ 1 ∷ (spell_batch owner (last_tag owner bs) slot b ++ gate ∷ behind))
opened owner slot bs b gate behind size shut = record {
  slot = slot;
  gate = gate;
  behind = behind;
  slot_size = size;
  closed = shut;
  bytes_are = sym (append_assoc (image owner bs) (1 ∷ spell_batch owner (last_tag owner bs) slot b) (gate ∷ behind))
      ∙ ap (λ r. r ++ gate ∷ behind) (sym (slotted_image-last owner slot bs b));
}

one_more : (owner : List ℕ) (bs : List Batch) (b : Batch) → image owner (bs ++ b ∷ []) ≡ image owner bs ++ 1 ∷ spell_batch owner (last_tag owner bs) (batch_veil owner b) b
unfolding spell_batches
one_more owner bs b =
    image-append owner bs (b ∷ [])
    ∙ ap (λ r. image owner bs ++ 1 ∷ r) (append-nil (spell_batch owner (last_tag owner bs) (batch_veil owner b) b))

pub unveiled : (owner : List ℕ) (bs : List Batch) (b : Batch) (gate : ℕ) (behind : List ℕ) → gate ≢ 1 →
    StandsWhole owner (bs ++ b ∷ []) (image owner bs ++ 1 ∷ (spell_batch owner (last_tag owner bs) (batch_veil owner b) b ++ gate ∷ behind))
unveiled owner bs b gate behind shut = record {
  gate = gate;
  behind = behind;
  closed = shut;
  bytes_are = sym (append_assoc (image owner bs) (1 ∷ spell_batch owner (last_tag owner bs) (batch_veil owner b) b) (gate ∷ behind))
      ∙ ap (λ r. r ++ gate ∷ behind) (sym (one_more owner bs b));
}
