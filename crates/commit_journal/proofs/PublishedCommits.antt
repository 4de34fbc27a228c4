-- No stop in a commit takes back what was published.
use Rattle.std.proofs.Common.{◌≡◌, ◌⊎◌, ⊎_elim, inl, inr, ℕ, ◌+◌, ◌-◌, Bool, true, false, List, [], ◌∷◌, ◌++◌, Option, Some, length, append_assoc, arith, refl, sym, ap, subst, ◌∙◌, length-append}
use Rattle.std.specs.Prelude.{bytes_eq, slice_index, slice_range}
use Rattle.cry_io.specs.Stops.{IsDurable}
use Rattle.cry_io.specs.Told.{WhereTold}
use Rattle.batch_log.specs.Moments.{FromThenOn, Throughout}
use Rattle.batch_log.specs.Moments.InSteps.{Begins}
use Rattle.batch_log.specs.Steps.{EndsAt, HoldsBatch, Interrupts, IsHeldWhereShown, zero_slot}
use Rattle.batch_log.proofs.InOrder.{on_maps}
use Rattle.batch_log.proofs.WrittenMoments.{told_one}
use Rattle.std.proofs.lemmas.Slice.Eq.{bytes_eq-Decides}
use Rattle.commit_journal.specs.Holding.{IsPrefix}
use Rattle.commit_journal.specs.Image.{Batch, batch_head, empty_slot, image, spell_batch, batch_check, masked_payload, owner_tag}
use Rattle.commit_journal.specs.Journals.{JournalState}
use Rattle.commit_journal.specs.Publishing.{without_last}
use Rattle.commit_journal.specs.Standing.{StandsFor, StandsUnpublished, StandsWhole, last_tag}
use Rattle.commit_journal.specs.Stopping.{KeepsPublished, TakesNothingBack, staged_batch}
use Rattle.commit_journal.proofs.KeptLemmas.{prefix_same}
use Rattle.commit_journal.proofs.MayHaveJoined.{may_stand_whole}
use Rattle.commit_journal.proofs.Pieces.{item, length-head_bytes, piece}
use Rattle.commit_journal.proofs.Standings.{slotted_image-last, whole_stands}

empty_is : empty_slot ≡ zero_slot
unfolding empty_slot zero_slot
empty_is = refl

without_one : {X : Type 0} (xs : List X) (x : X) → without_last (xs ++ x ∷ []) ≡ xs
unfolding without_last
without_one [] x = refl
without_one (a ∷ []) x = refl
without_one (a ∷ b ∷ xs) x = ap (λ l. a ∷ l) (without_one (b ∷ xs) x)

module _ (owner : List ℕ) (bs : List Batch) (b : Batch) (end : ℕ) (at : end ≡ length (image owner bs) + 1) (s c : List ℕ) where
  abbrev more : List Batch
  more = bs ++ b ∷ []

  abbrev Here : Type 0
  Here = TakesNothingBack (StandsFor owner) (StandsUnpublished owner) bs more s c

  abbrev longer : IsPrefix bs more
  longer = (b ∷ [], refl)

  -- the batches of before are shown
  old_shown : StandsFor owner bs s → StandsFor owner bs c ⊎ StandsFor owner more c → Here
  old_shown shown left =
      ⊎_elim
      (λ old. (let is : Here = record {
        shown = bs;
        left = bs;
        shown_from = prefix_same bs;
        shown_to = longer;
        left_from = prefix_same bs;
        left_to = longer;
        shown_stands = shown;
        left_stands = old;
        begins = inl (prefix_same bs);
      } in is))
      (λ new. (let is : Here = record {
        shown = bs;
        left = more;
        shown_from = prefix_same bs;
        shown_to = longer;
        left_from = longer;
        left_to = prefix_same more;
        shown_stands = shown;
        left_stands = new;
        begins = inl longer;
      } in is))
      left

  -- with the new one, and so they are left
  new_left : StandsFor owner more s → StandsFor owner more c → Here
  new_left shown left = record {
    shown = more;
    left = more;
    shown_from = longer;
    shown_to = prefix_same more;
    left_from = longer;
    left_to = prefix_same more;
    shown_stands = shown;
    left_stands = left;
    begins = inl (prefix_same more);
  }

  -- or its slot is empty
  new_unpublished : (shown : StandsFor owner more s) → shown.slot ≡ empty_slot → StandsFor owner bs c → Here
  new_unpublished shown empty left = record {
    shown = more;
    left = bs;
    shown_from = longer;
    shown_to = prefix_same more;
    left_from = prefix_same bs;
    left_to = longer;
    shown_stands = shown;
    left_stands = left;
    begins = inr ((shown, empty), subst (λ l. IsPrefix l bs) (sym (without_one bs b)) (prefix_same bs));
  }

  -- the gate and the slot that are shown
  gate_shown : StandsFor owner more s → slice_index s (end - 1) ≡ 1
  gate_shown shown =
      let tag = last_tag owner bs in
      let is = shown.bytes_are ∙ ap (λ l. l ++ shown.gate ∷ shown.behind) (slotted_image-last owner shown.slot bs b)
      ∙ append_assoc (image owner bs) (1 ∷ spell_batch owner tag shown.slot b) (shown.gate ∷ shown.behind) in
      item (image owner bs) (spell_batch owner tag shown.slot b ++ shown.gate ∷ shown.behind) s 1 (end - 1) is (omega (arith, at))

  slot_shown : (shown : StandsFor owner more s) → slice_range s (end + 13) (end + 45) ≡ shown.slot
  unfolding spell_batch
  slot_shown shown =
      let tag = last_tag owner bs in
      let head = batch_head b in
      let rest = masked_payload owner b ++ (batch_check owner b ++ owner_tag owner tag b) in
      let long = length-head_bytes b.type_of b.number b.epoch (length b.payload) in
      let is = shown.bytes_are ∙ ap (λ l. l ++ shown.gate ∷ shown.behind) (slotted_image-last owner shown.slot bs b) in
      let split : s ≡ (image owner bs ++ 1 ∷ head) ++ (shown.slot ++ (rest ++ shown.gate ∷ shown.behind)) = is ∙ simp append_assoc in
      let one = length-append (image owner bs) (1 ∷ head) in
      piece (image owner bs ++ 1 ∷ head) shown.slot (rest ++ shown.gate ∷ shown.behind) s (end + 13) (end + 45) split
      (omega (arith, at, one, long)) (omega (arith, at, one, long, shown.slot_size))

  -- behind a closed gate the batch isn't held
  not_held : (batch : List ℕ) → StandsWhole owner bs c → HoldsBatch end batch c → ⊥
  not_held batch old held =
      let shut = item (image owner bs) old.behind c old.gate (end - 1) old.bytes_are (omega (arith, at)) in
      let place = held.place in
      let opened = item held.front _ c 1 (end - 1) held.bytes_are (omega (arith, place)) in
      old.closed (sym shut ∙ opened)

  new_shown : (batch : List ℕ) → IsHeldWhereShown end batch s c → StandsFor owner more s → StandsWhole owner bs c → Here
  new_shown batch held shown old =
      (elim (bytes_eq shown.slot empty_slot) as (λ (test : Bool). bytes_eq shown.slot empty_slot ≡ test → Here) [
        | true ↦ λ same. new_unpublished shown ((bytes_eq-Decides shown.slot empty_slot).0 same) (whole_stands owner bs c old)
        | false ↦ λ other. absurd (not_held batch old (held (gate_shown shown) (λ zero.
            let equal = (bytes_eq-Decides shown.slot empty_slot).1 (sym (slot_shown shown) ∙ zero ∙ sym empty_is) in
            let wrong : true ≡ false = sym equal ∙ other in
            let none : ⊥ = cc in
            none)))
      ]) refl

  pub in_commit : (batch x : List ℕ) → StandsWhole owner bs x → batch ≡ spell_batch owner (last_tag owner bs) empty_slot b ++ 0 ∷ [] → Interrupts end batch x s → Interrupts end batch x c
      → IsHeldWhereShown end batch s c → Here
  in_commit batch x whole batch_is shows leaves held =
      let left = may_stand_whole owner batch x c bs b end whole at batch_is leaves in
      ⊎_elim
      (λ old. old_shown (whole_stands owner bs s old) (⊎_elim (λ w. inl (whole_stands owner bs c w)) (λ n. inr n) left))
      (λ new. ⊎_elim (λ w. new_shown batch held new w) (λ n. new_left new n) left)
      (may_stand_whole owner batch x s bs b end whole at batch_is shows)

pub commit_takes_nothing_back : (D : Type 0) (moment : D → ℕ) (since : D → ℕ → List ℕ → List ℕ → Type 0) (a e : D) (b : Batch) (old : JournalState) (batch : List ℕ) (was : Option (List ℕ)) (left : List ℕ → Type 0) →
    batch ≡ staged_batch old b → (IsDurable left was → WhereTold was (λ x. Throughout (λ s c. Interrupts old.end batch x s) (since e (moment a)))) →
    (IsDurable left was → WhereTold was (λ x. Throughout (λ s c. Interrupts old.end batch x c) (since e (moment a)))) →
    (IsDurable left was → WhereTold was (λ x. EndsAt old.end x → FromThenOn moment since a e (IsHeldWhereShown old.end batch))) →
    KeepsPublished b old was left (FromThenOn moment since a e)
commit_takes_nothing_back D moment since a e b old batch was left batch_is shown stops held bs of durable shows =
    let x = shows.0 in
    let whole = shows.2 in
    let ends : EndsAt old.end x = record { front = image old.owner bs; gate = whole.gate; behind = whole.behind; place = sym of.end; closed = whole.closed; bytes_are = whole.bytes_are } in
    on_maps D moment since (IsHeldWhereShown old.end batch) (TakesNothingBack (StandsFor old.owner) (StandsUnpublished old.owner) bs (bs ++ b ∷ []))
    (λ s c. Interrupts old.end batch x s) (λ s c. Interrupts old.end batch x c) a e
    (λ s c t l one two both.
    in_commit old.owner bs b old.end of.end s l batch x whole (batch_is ∙ ap (λ t. spell_batch old.owner t empty_slot b ++ 0 ∷ []) of.tag) one two both)
    (held durable x shows.1 ends) (shown durable x shows.1) (stops durable x shows.1)

-- a call that was refused
pub refused_takes_nothing_back : (D : Type 0) (moment : D → ℕ) (since : D → ℕ → List ℕ → List ℕ → Type 0) (a : D) (b : Batch) (old : JournalState) (was : Option (List ℕ)) (left : List ℕ → Type 0) →
    ((s c : List ℕ) → since a (moment a) s c → (was ≡ Some s) × left c) → KeepsPublished b old was left (FromThenOn moment since a a)
refused_takes_nothing_back D moment since a b old was left only bs of durable shows = Begins (λ s c at.
    let is = only s c at in
    let stands : (y : List ℕ) → was ≡ Some y → StandsFor old.owner bs y = λ y told.
    whole_stands old.owner bs y (subst (StandsWhole old.owner bs) (told_one was shows.0 y shows.1 told) shows.2) in
    old_shown old.owner bs b old.end of.end s c (stands s is.0) (inl (stands c (durable c is.1))))
