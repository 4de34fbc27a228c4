-- What a list shows while a batch joins its log, write by write.
use Rattle.std.proofs.Common.{◌≡◌, ◌≢◌, ◌⊎◌, inl, inr, ℕ, ◌+◌, ◌-◌, true, false, eqb, List, [], ◌∷◌, ◌++◌, All, length, drop, append_assoc, arith, refl, sym, ap, subst, ◌∙◌, length-append}
use Rattle.std.specs.Prelude.{bytes_eq}
use Rattle.std.proofs.lemmas.Bool.{eqb-true, false≢true}
use Rattle.std.proofs.lemmas.Slice.Eq.{bytes_eq-Decides}
use Rattle.cry_io.specs.Stops.{Torn}
use Rattle.batch_log.specs.Steps.{written_at}
use Rattle.batch_log.proofs.Lists.{torn_behind, torn_over, written_behind, written_over}
use Rattle.chacha_seal.proofs.SealingLemmas.{length-veil_of}
use Rattle.commit_journal.specs.Holding.{IsPrefix}
use Rattle.commit_journal.specs.Image.{Batch, batch_check, batch_head, batch_veil, empty_slot, image, masked_payload, owner_tag, spell_batch}
use Rattle.commit_journal.specs.Standing.{HasSizes, StandsFor, StandsWhole, last_tag}
use Rattle.commit_journal.proofs.Pieces.{length-head_bytes}
use Rattle.commit_journal.proofs.Refilled.{in_parts}
use Rattle.commit_journal.proofs.Standings.{slotted_image-last, staged, unveiled}
use Rattle.store_owner.specs.Published.{published_batches}
use Rattle.handed_laws.proofs.Publishing.{AreVeiled, front_published, slotted_published, whole_published}

empty_size : length empty_slot ≡ 32
unfolding empty_slot
empty_size = refl

one_byte : (bytes : List ℕ) → length bytes ≡ 1 → (byte : ℕ) × (bytes ≡ byte ∷ [])
one_byte [] one = absurd (omega (arith, one))
one_byte (byte ∷ []) one = (byte, refl)
one_byte (byte ∷ next ∷ bytes) one = absurd (omega (arith, one))

zero_gate : ◌≢◌ {A = ℕ} 0 1
zero_gate is = let no : ⊥ = omega (arith, is) in no

module _ (owner : List ℕ) (bs : List Batch) (b : Batch) (x : List ℕ) (whole : StandsWhole owner bs x) where
  abbrev front : List ℕ
  front = image owner bs

  abbrev end : ℕ
  end = length front + 1

  abbrev tag : List ℕ
  tag = last_tag owner bs

  abbrev batch : List ℕ
  batch = spell_batch owner tag empty_slot b ++ 0 ∷ []

  abbrev rest : List ℕ
  rest = drop (length batch) whole.behind

  -- the batch behind its gate, with these bytes in its slot
  abbrev gated : List ℕ → List ℕ
  gated slot = front ++ 1 ∷ (spell_batch owner tag slot b ++ 0 ∷ rest)

  abbrev one : List ℕ
  one = written_at end batch x

  abbrev two : List ℕ
  two = written_at (end - 1) (1 ∷ []) one

  abbrev three : List ℕ
  three = written_at (end + 13) (batch_veil owner b) two

  gate_split : x ≡ (front ++ whole.gate ∷ []) ++ whole.behind
  gate_split = whole.bytes_are ∙ sym (append_assoc front (whole.gate ∷ []) whole.behind)

  one_is : one ≡ front ++ (whole.gate ∷ [] ++ (batch ++ rest))
  one_is =
      written_behind end (front ++ whole.gate ∷ []) whole.behind batch one (sym (length-append front (whole.gate ∷ [])))
      (ap (λ l. written_at end batch l) gate_split)
      ∙ append_assoc front (whole.gate ∷ []) (batch ++ rest)

  last_place : end - 1 ≡ length front
  last_place = omega arith

  parted : (gate : ℕ) → front ++ (gate ∷ [] ++ (batch ++ rest)) ≡ front ++ gate ∷ (spell_batch owner tag empty_slot b ++ 0 ∷ rest)
  parted gate = ap (λ l. front ++ gate ∷ l) (append_assoc (spell_batch owner tag empty_slot b) (0 ∷ []) rest)

  two_is : two ≡ gated empty_slot
  two_is =
      written_over (end - 1) front (whole.gate ∷ []) (batch ++ rest) (1 ∷ []) two last_place refl (ap (λ l. written_at (end - 1) (1 ∷ []) l) one_is)
      ∙ parted 1

  abbrev head : List ℕ
  head = front ++ 1 ∷ batch_head b

  abbrev tail : List ℕ
  tail = (masked_payload owner b ++ (batch_check owner b ++ owner_tag owner tag b)) ++ 0 ∷ rest

  slot_place : end + 13 ≡ length head
  slot_place = omega (arith, length-append front (1 ∷ batch_head b), length-head_bytes b.type_of b.number b.epoch (length b.payload))

  two_parts : two ≡ head ++ (empty_slot ++ tail)
  two_parts = two_is ∙ in_parts owner front tag empty_slot b (0 ∷ rest)

  three_is : three ≡ gated (batch_veil owner b)
  three_is =
      written_over (end + 13) head empty_slot tail (batch_veil owner b) three slot_place (length-veil_of owner b.epoch b.number ∙ sym empty_size)
      (ap (λ l. written_at (end + 13) (batch_veil owner b) l) two_parts)
      ∙ sym (in_parts owner front tag (batch_veil owner b) b (0 ∷ rest))

  -- ---- what each list stands for

  one_stands : StandsWhole owner bs one
  one_stands = subst (StandsWhole owner bs) (sym one_is) (staged owner bs whole.gate (batch ++ rest) whole.closed)

  pub three_stands : StandsWhole owner (bs ++ b ∷ []) three
  three_stands = subst (StandsWhole owner (bs ++ b ∷ [])) (sym three_is) (unveiled owner bs b 0 rest zero_gate)

  gated_stands : (slot : List ℕ) → length slot ≡ 32 → StandsFor owner (bs ++ b ∷ []) (gated slot)
  gated_stands slot size = record {
    slot = slot;
    gate = 0;
    behind = rest;
    slot_size = size;
    closed = zero_gate;
    bytes_are = sym (append_assoc front (1 ∷ spell_batch owner tag slot b) (0 ∷ rest)) ∙ ap (λ l. l ++ 0 ∷ rest) (sym (slotted_image-last owner slot bs b));
  }

  -- ---- what each publishes

  module _ (sizes : All HasSizes bs) (more_sizes : All HasSizes (bs ++ b ∷ [])) (veiled : AreVeiled owner bs) where
    abbrev Published : List ℕ → Type 0
    Published s = IsPrefix bs (published_batches owner s)

    pub none_written : Published x
    none_written = whole_published owner bs x whole sizes veiled

    pub one_written : Published one
    one_written = whole_published owner bs one one_stands sizes veiled

    pub two_written : Published two
    two_written = subst Published (sym two_is) (front_published owner bs b (gated empty_slot) (gated_stands empty_slot empty_size) more_sizes)

    -- the batch, in part
    pub one_torn : (s : List ℕ) → Torn end (length batch) x s → Published s
    one_torn s torn =
        let a = front ++ whole.gate ∷ [] in
        let stays = torn_behind end (length batch) a whole.behind s (sym (length-append front (whole.gate ∷ [])))
        (subst (λ l. Torn end (length batch) l s) gate_split torn) in
        let behind = drop (length a) s in
        let is : s ≡ front ++ whole.gate ∷ behind = stays ∙ append_assoc front (whole.gate ∷ []) behind in
        whole_published owner bs s (subst (StandsWhole owner bs) (sym is) (staged owner bs whole.gate behind whole.closed)) sizes veiled

    by_gate : (gate : ℕ) → Published (front ++ gate ∷ (spell_batch owner tag empty_slot b ++ 0 ∷ rest))
    by_gate gate =
        (elim (eqb gate 1) as (λ test. eqb gate 1 ≡ test → Published (front ++ gate ∷ (spell_batch owner tag empty_slot b ++ 0 ∷ rest))) [
          | true ↦ λ is. subst (λ g. Published (front ++ g ∷ (spell_batch owner tag empty_slot b ++ 0 ∷ rest))) (sym (eqb-true gate 1 is))
              (front_published owner bs b (gated empty_slot) (gated_stands empty_slot empty_size) more_sizes)
          | false ↦ λ other.
              let shut : gate ≢ 1 = λ is. false≢true (sym other ∙ ap (λ g. eqb g 1) is) in
              whole_published owner bs _ (staged owner bs gate (spell_batch owner tag empty_slot b ++ 0 ∷ rest) shut) sizes veiled
        ]) refl

    -- the gate, in part
    pub two_torn : (s : List ℕ) → Torn (end - 1) 1 one s → Published s
    two_torn s torn =
        let over = torn_over (end - 1) 1 front (whole.gate ∷ []) (batch ++ rest) s last_place refl (subst (λ l. Torn (end - 1) 1 l s) one_is torn) in
        let byte = one_byte over.0 over.1 in
        let is : s ≡ front ++ byte.0 ∷ (spell_batch owner tag empty_slot b ++ 0 ∷ rest) =
        over.2 ∙ ap (λ l. front ++ (l ++ (batch ++ rest))) byte.1 ∙ parted byte.0 in
        subst Published (sym is) (by_gate byte.0)

    -- the slot, in part: nothing of it is written, or the batch is published too
    pub three_torn : (s : List ℕ) → Torn (end + 13) 32 two s → (s ≡ two) ⊎ IsPrefix (bs ++ b ∷ []) (published_batches owner s)
    unfolding gated_stands
    three_torn s torn =
        let over = torn_over (end + 13) 32 head empty_slot tail s slot_place (sym empty_size) (subst (λ l. Torn (end + 13) 32 l s) two_parts torn) in
        let slot = over.0 in
        let is : s ≡ gated slot = over.2 ∙ sym (in_parts owner front tag slot b (0 ∷ rest)) in
        (elim (bytes_eq slot empty_slot) as (λ test. bytes_eq slot empty_slot ≡ test → (s ≡ two) ⊎ IsPrefix (bs ++ b ∷ []) (published_batches owner s)) [
          | true ↦ λ same. inl (is ∙ ap gated ((bytes_eq-Decides slot empty_slot).0 same) ∙ sym two_is)
          | false ↦ λ other. inr (subst (λ l. IsPrefix (bs ++ b ∷ []) (published_batches owner l)) (sym is)
              (slotted_published owner (bs ++ b ∷ []) (gated slot) (gated_stands slot over.1) more_sizes
              (λ same. false≢true (sym other ∙ (bytes_eq-Decides slot empty_slot).1 same))))
        ]) refl
