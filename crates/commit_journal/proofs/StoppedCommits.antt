-- What a stop at any moment of a commit leaves, and of a call that does nothing.
use Rattle.std.proofs.Common.{◌≡◌, ◌≤◌, ⊎_elim, inl, ℕ, length-append, List, [], ◌∷◌, ◌++◌, Option, Some, length, append_assoc, arith, refl, ap, subst, ◌∙◌}
use Rattle.std.specs.Prelude.{is_some}
use Rattle.cry_io.specs.Stops.{IsDurable, Torn}
use Rattle.cry_io.specs.Told.{WhereBothTold, WhereTold}
use Rattle.cry_io.proofs.ToldLemmas.{told_again}
use Rattle.batch_log.specs.Moments.{FromThenOn, GoesOn, Throughout}
use Rattle.batch_log.specs.Steps.{EndsAt, Interrupts, IsHeldWhereShown, IsStageable, zero_slot}
use Rattle.batch_log.proofs.Committed.{held_in_staging}
use Rattle.batch_log.proofs.Handed.{hands_before}
use Rattle.batch_log.proofs.InOrder.{on_throughout}
use Rattle.batch_log.proofs.Lists.{nothing_torn}
use Rattle.batch_log.proofs.WrittenMoments.{told_one}
use Rattle.hmac_seal.proofs.HmacLemmas.{length-hmac}
use Rattle.commit_journal.specs.Handing.{Hands, all_written, batch_writes, header_writes, joining_writes}
use Rattle.commit_journal.specs.Holding.{IsBetween, IsKept}
use Rattle.commit_journal.specs.Image.{Batch, batch_check, batch_head, batch_veil, empty_slot, image, masked_payload, owner_tag, spell_batch}
use Rattle.commit_journal.specs.Journals.{JournalState}
use Rattle.commit_journal.specs.Standing.{StandsFor, StandsWhole}
use Rattle.commit_journal.specs.Stopping.{HoldsLog, HoldsPublished, KeepsLog, staged_batch}
use Rattle.commit_journal.proofs.KeptLemmas.{prefix_same}
use Rattle.commit_journal.proofs.MayHaveJoined.{may_stand}
use Rattle.commit_journal.proofs.Pieces.{length-head_bytes}
use Rattle.commit_journal.proofs.Standings.{length-owner_tag, whole_stands}

-- ---- a batch that may be staged

empty_is : empty_slot ≡ zero_slot
unfolding empty_slot zero_slot
empty_is = refl

pub spelled_stageable : (owner previous batch : List ℕ) (b : Batch) → batch ≡ spell_batch owner previous empty_slot b ++ 0 ∷ [] → IsStageable batch
unfolding spell_batch
spelled_stageable owner previous batch b is =
    let rest = masked_payload owner b ++ (batch_check owner b ++ owner_tag owner previous b) in
    let one = length-append (masked_payload owner b) (batch_check owner b ++ owner_tag owner previous b) in
    let two = length-append (batch_check owner b) (owner_tag owner previous b) in
    let check : length (batch_check owner b) ≡ 32 = length-hmac _ _ in
    record {
      head = batch_head b;
      rest = rest;
      head_size = length-head_bytes b.type_of b.number b.epoch (length b.payload);
      rest_size = omega (arith, one, two, check, length-owner_tag owner previous b);
      body_is = is ∙ ap (λ s. (batch_head b ++ (s ++ rest)) ++ 0 ∷ []) empty_is ∙ append_assoc (batch_head b) (zero_slot ++ rest) (0 ∷ []) ∙ ap (λ r. batch_head b ++ r) (append_assoc zero_slot rest (0 ∷ []));
    }

-- ---- a call that was refused

pub stays : (start : ℕ) (past : ℕ → List ℕ → List ℕ → Type 0) (was : Option (List ℕ)) (left : List ℕ → Type 0) →
    ((s c : List ℕ) → past start s c → (was ≡ Some s) × left c) →
    ((t : ℕ) (s c : List ℕ) → t ≤ start → was ≡ Some s → left c → past t s c) → GoesOn start past past
stays start past was left only counted t s c early = (
  λ at. inl at,
  λ at. ⊎_elim (λ old. old) (λ new. let is = only s c new in counted t s c early is.0 is.1) at,
)

without : (owner : List ℕ) (bs : List Batch) (b : Batch) (c : List ℕ) → StandsFor owner bs c → IsKept (StandsFor owner) bs (bs ++ b ∷ []) (bs ++ b ∷ []) c
without owner bs b c stands = record { held = bs; from = prefix_same bs; to = inl (b ∷ [], refl); stands_for = stands }

with_one : (owner : List ℕ) (bs : List Batch) (b : Batch) (c : List ℕ) → StandsFor owner (bs ++ b ∷ []) c → IsKept (StandsFor owner) bs (bs ++ b ∷ []) (bs ++ b ∷ []) c
with_one owner bs b c stands = record { held = bs ++ b ∷ []; from = (b ∷ [], refl); to = inl (prefix_same (bs ++ b ∷ [])); stands_for = stands }

pub refused_keeps : (b : Batch) (old : JournalState) (was : Option (List ℕ)) (left : List ℕ → Type 0) (since : List ℕ → List ℕ → Type 0) →
    ((s c : List ℕ) → since s c → (was ≡ Some s) × left c) → KeepsLog b old was left since
refused_keeps b old was left since only bs of durable shows s c at =
    let is = only s c at in
    let same = told_one was shows.0 c shows.1 (durable c is.1) in
    without old.owner bs b c (whole_stands old.owner bs c (subst (StandsWhole old.owner bs) same shows.2))

pub refused_published : (b : Batch) (old : JournalState) (was : Option (List ℕ)) (left : List ℕ → Type 0) (since : List ℕ → List ℕ → Type 0) →
    ((s c : List ℕ) → since s c → (was ≡ Some s) × left c) → HoldsPublished b old was left since
refused_published b old was left since only durable x x_is ends s c at =
    let batch = staged_batch old b in
    held_in_staging old.end batch x s c ends (subst (λ r. Torn old.end (length batch) x r) (told_one was x s x_is (only s c at).0) (nothing_torn old.end (length batch) x))

-- ---- a commit

pub commit_keeps : (b : Batch) (old : JournalState) (batch : List ℕ) (was : Option (List ℕ)) (left : List ℕ → Type 0) (since : List ℕ → List ℕ → Type 0) →
    batch ≡ staged_batch old b → (IsDurable left was → WhereTold was (λ x. Throughout (λ s c. Interrupts old.end batch x c) since)) → KeepsLog b old was left since
commit_keeps b old batch was left since batch_is stops bs of durable shows s c at =
    ⊎_elim
    (λ without_it. without old.owner bs b c without_it)
    (λ with_it. with_one old.owner bs b c with_it)
    (may_stand old.owner batch shows.0 c bs b old.end shows.2 of.end (batch_is ∙ ap (λ t. spell_batch old.owner t empty_slot b ++ 0 ∷ []) of.tag)
    (stops durable shows.0 shows.1 s c at))

pub commit_published : (D : Type 0) (moment : D → ℕ) (since : D → ℕ → List ℕ → List ℕ → Type 0) (a e : D) (b : Batch) (old : JournalState) (batch : List ℕ) (was : Option (List ℕ)) (left : List ℕ → Type 0) →
    batch ≡ staged_batch old b → (IsDurable left was → WhereTold was (λ x. EndsAt old.end x → FromThenOn moment since a e (IsHeldWhereShown old.end batch))) →
    HoldsPublished b old was left (since e (moment a))
commit_published D moment since a e b old batch was left batch_is held durable x x_is ends s c at =
    subst (λ (r : List ℕ). IsHeldWhereShown old.end r s c) batch_is (on_throughout D moment since (IsHeldWhereShown old.end batch) a e (held durable x x_is ends) s c at)

pub commit_hands : (b : Batch) (old : JournalState) (batch veil : List ℕ) (fails failed : Type 0) (was shown : Option (List ℕ)) (since : List ℕ → List ℕ → Type 0) →
    batch ≡ staged_batch old b → veil ≡ batch_veil old.owner b → (fails → failed) → Hands (batch_writes old.end batch veil) fails was shown since →
    Hands (joining_writes b old) failed was shown since
commit_hands b old batch veil fails failed was shown since batch_is veil_is fault hands =
    hands_before (joining_writes b old) [] fails failed was shown since fault
    (subst (λ (v : List ℕ). Hands (batch_writes old.end (staged_batch old b) v) fails was shown since) veil_is
    (subst (λ (r : List ℕ). Hands (batch_writes old.end r veil) fails was shown since) batch_is hands))

pub commit_written : (b : Batch) (old : JournalState) (batch veil : List ℕ) (was shown : Option (List ℕ)) →
    batch ≡ staged_batch old b → veil ≡ batch_veil old.owner b → WhereBothTold was shown (λ x y. y ≡ all_written (batch_writes old.end batch veil) x) →
    WhereBothTold was shown (λ x y. y ≡ all_written (joining_writes b old) x)
commit_written b old batch veil was shown batch_is veil_is written x y x_is y_is =
    written x y x_is y_is
    ∙ ap (λ (r : List ℕ). all_written (batch_writes old.end r veil) x) batch_is
    ∙ ap (λ (v : List ℕ). all_written (batch_writes old.end (staged_batch old b) v) x) veil_is

-- a store without batches is made
pub found_hands : (owner header : List ℕ) (fails failed : Type 0) (was shown : Option (List ℕ)) (since : List ℕ → List ℕ → Type 0) →
    header ≡ image owner [] ++ 0 ∷ [] → (fails → failed) → Hands (record { place = 0; bytes = header } ∷ []) fails was shown since →
    Hands (header_writes owner) failed was shown since
found_hands owner header fails failed was shown since is fault hands =
    hands_before (header_writes owner) [] fails failed was shown since fault
    (subst (λ (r : List ℕ). Hands (record { place = 0; bytes = r } ∷ []) fails was shown since) is hands)

-- ---- at the end of either

pub holds_at_the_end : (b : Batch) (old : JournalState) (was shown : Option (List ℕ)) (left may_leave : List ℕ → Type 0) (since : List ℕ → List ℕ → Type 0) →
    is_some shown ≡ is_some was → ((s : List ℕ) → shown ≡ Some s → may_leave s) → ((s c : List ℕ) → shown ≡ Some s → may_leave c → since s c) →
    KeepsLog b old was left since → HoldsLog b old was left shown may_leave
holds_at_the_end b old was shown left may_leave since told itself now keeps bs of durable shows =
    let kept = keeps bs of durable shows in
    let again = told_again was shown shows.0 told shows.1 in
    let at = λ (c : List ℕ) (leaves : may_leave c). (let k = kept again.0 c (now again.0 c again.1 leaves) in
    let is : IsBetween (StandsFor old.owner) bs (bs ++ b ∷ []) c = record { held = k.held; from = k.from; to = ⊎_elim (λ p. p) (λ p. p) k.to; stands_for = k.stands_for } in is) in
    record { shows = (again.0, again.1, at again.0 (itself again.0 again.1)); leaves = at }
