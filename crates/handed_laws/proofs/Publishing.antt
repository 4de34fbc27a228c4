-- What lists publish that stand for batches.
use Rattle.std.proofs.Common.{◌≡◌, ◌≢◌, inl, inr, ℕ, Bool, true, false, cond, List, [], ◌∷◌, ◌++◌, All, append-nil, refl, sym, ap, subst, ◌∙◌}
use Rattle.std.specs.Prelude.{bytes_eq}
use Rattle.std.proofs.lemmas.Slice.Eq.{bytes_eq-Decides}
use Rattle.cry_base.specs.Sets.{In}
use Rattle.commit_journal.specs.Gates.{recovered}
use Rattle.commit_journal.specs.Holding.{IsPrefix}
use Rattle.chacha_seal.proofs.SealingLemmas.{length-veil_of}
use Rattle.commit_journal.specs.Image.{Batch, batch_veil, empty_slot, image, spell_batch, spell_batches}
use Rattle.commit_journal.specs.Publishing.{last_slot, without_last}
use Rattle.commit_journal.specs.Standing.{HasSizes, StandsFor, StandsWhole, last_tag, slotted_image}
use Rattle.commit_journal.proofs.KeptLemmas.{prefix_same}
use Rattle.commit_journal.proofs.Standings.{image-append, last_slot_standing, recovered_standing, slotted_image-last}
use Rattle.store_owner.specs.Published.{published_batches}

-- no veil key of these batches is the empty slot
abbrev pub AreVeiled : List ℕ → List Batch → Type 0
AreVeiled owner bs = (b : Batch) → In b bs → batch_veil owner b ≢ empty_slot

-- where the last slot isn't empty all batches behind open gates are published
all_published : (owner : List ℕ) (bs : List Batch) (s : List ℕ) → recovered owner s ≡ bs → last_slot s ≢ empty_slot → IsPrefix bs (published_batches owner s)
unfolding published_batches
all_published owner bs s of_s filled =
    (elim (bytes_eq (last_slot s) empty_slot) as (λ (test : Bool). bytes_eq (last_slot s) empty_slot ≡ test
    → IsPrefix bs (cond test (without_last (recovered owner s)) (recovered owner s))) [
      | true ↦ λ is. absurd (filled ((bytes_eq-Decides (last_slot s) empty_slot).0 is))
      | false ↦ λ other. subst (IsPrefix bs) (sym of_s) (prefix_same bs)
    ]) refl

-- bytes that stand for batches whose last slot isn't empty
pub slotted_published : (owner : List ℕ) (bs : List Batch) (s : List ℕ) (stands : StandsFor owner bs s) → All HasSizes bs → stands.slot ≢ empty_slot → IsPrefix bs (published_batches owner s)
slotted_published owner [] s stands sizes filled = (published_batches owner s, refl)
slotted_published owner (b ∷ bs) s stands sizes filled =
    all_published owner (b ∷ bs) s (recovered_standing owner (b ∷ bs) s stands sizes) (λ is. filled (sym (last_slot_standing owner b bs s stands sizes) ∙ is))

without_one : {X : Type 0} (xs : List X) (x : X) → without_last (xs ++ x ∷ []) ≡ xs
unfolding without_last
without_one [] x = refl
without_one (a ∷ []) x = refl
without_one (a ∷ b ∷ xs) x = ap (λ l. a ∷ l) (without_one (b ∷ xs) x)

-- all but the last are published, whatever its slot holds
pub front_published : (owner : List ℕ) (bs : List Batch) (b : Batch) (s : List ℕ) → StandsFor owner (bs ++ b ∷ []) s → All HasSizes (bs ++ b ∷ []) → IsPrefix bs (published_batches owner s)
unfolding published_batches
front_published owner bs b s stands sizes =
    let of_s = recovered_standing owner (bs ++ b ∷ []) s stands sizes in
    (elim (bytes_eq (last_slot s) empty_slot) as (λ (test : Bool). IsPrefix bs (cond test (without_last (recovered owner s)) (recovered owner s))) [
      | true ↦ subst (λ l. IsPrefix bs (without_last l)) (sym of_s) (subst (IsPrefix bs) (sym (without_one bs b)) (prefix_same bs))
      | false ↦ subst (IsPrefix bs) (sym of_s) (b ∷ [], refl)
    ])

-- ---- whole images

-- the veil key of the last one stands in its slot
last_slotted : (owner : List ℕ) (bs : List Batch) (b : Batch) (s : List ℕ) → StandsWhole owner (bs ++ b ∷ []) s → StandsFor owner (bs ++ b ∷ []) s
unfolding spell_batches
last_slotted owner bs b s whole =
    let spelled = spell_batch owner (last_tag owner bs) (batch_veil owner b) b in
    let same : image owner (bs ++ b ∷ []) ≡ slotted_image owner (batch_veil owner b) (bs ++ b ∷ []) =
    image-append owner bs (b ∷ []) ∙ ap (λ r. image owner bs ++ 1 ∷ r) (append-nil spelled) ∙ sym (slotted_image-last owner (batch_veil owner b) bs b) in
    record {
      slot = batch_veil owner b;
      gate = whole.gate;
      behind = whole.behind;
      slot_size = length-veil_of owner b.epoch b.number;
      closed = whole.closed;
      bytes_are = whole.bytes_are ∙ ap (λ r. r ++ whole.gate ∷ whole.behind) same;
    }

pub last_published : (owner : List ℕ) (bs : List Batch) (b : Batch) (s : List ℕ) → StandsWhole owner (bs ++ b ∷ []) s → All HasSizes (bs ++ b ∷ []) → batch_veil owner b ≢ empty_slot
    → IsPrefix (bs ++ b ∷ []) (published_batches owner s)
unfolding last_slotted
last_published owner bs b s whole sizes veiled = slotted_published owner (bs ++ b ∷ []) s (last_slotted owner bs b s whole) sizes veiled

-- a list has a last one
last_of : (b : Batch) (bs : List Batch) → (init : List Batch) × (last : Batch) × (init ++ last ∷ [] ≡ b ∷ bs)
last_of b [] = ([], b, refl)
last_of b (next ∷ bs) = let rest = last_of next bs in (b ∷ rest.0, rest.1, ap (λ l. b ∷ l) rest.2)

in_last : (b : Batch) (bs : List Batch) → In b (bs ++ b ∷ [])
in_last b [] = inl refl
in_last b (a ∷ bs) = inr (in_last b bs)

pub whole_published : (owner : List ℕ) (bs : List Batch) (s : List ℕ) → StandsWhole owner bs s → All HasSizes bs → AreVeiled owner bs → IsPrefix bs (published_batches owner s)
whole_published owner [] s whole sizes veiled = (published_batches owner s, refl)
whole_published owner (b ∷ bs) s whole sizes veiled =
    let parts = last_of b bs in
    let last = parts.1 in
    let is = parts.2 in
    subst (λ l. IsPrefix l (published_batches owner s)) is
    (last_published owner parts.0 last s (subst (λ l. StandsWhole owner l s) (sym is) whole) (subst (All HasSizes) (sym is) sizes)
    (veiled last (subst (In last) is (in_last last parts.0))))
