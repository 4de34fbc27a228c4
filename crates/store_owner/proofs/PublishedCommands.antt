-- What is published of a store at any moment of a command: no stop takes it back.
use Rattle.std.proofs.Common.{◌≡◌, ◌≤◌, ⊎_elim, ◌⊎◌, inl, inr, ℕ, Bool, true, false, cond, List, [], ◌∷◌, ◌++◌, Option, Some, None, All, refl, sym, ap, subst, ◌∙◌}
use Rattle.std.specs.Prelude.{bytes_eq}
use Rattle.std.proofs.lemmas.Bool.{false≢true}
use Rattle.std.proofs.lemmas.List.Elements.{All-cons, All-head, All-nil, All-tail}
use Rattle.std.proofs.lemmas.Slice.Eq.{bytes_eq-Decides}
use Rattle.batch_log.specs.Moments.{FromThenOn}
use Rattle.batch_log.specs.Moments.InSteps.{Begins}
use Rattle.batch_log.proofs.InOrder.{on_ends, on_in_both, on_maps, on_throughout}
use Rattle.commit_journal.specs.Gates.{recovered}
use Rattle.commit_journal.specs.Holding as holding
use Rattle.commit_journal.specs.Holding.{GoesOn, IsPrefix}
use Rattle.commit_journal.specs.Image.{Batch, empty_slot}
use Rattle.commit_journal.specs.Journals.{IsJournalOf, JournalState, next_command}
use Rattle.commit_journal.specs.Moments.{OpensInOrder, OpensThroughout}
use Rattle.commit_journal.specs.Opening.{LeavesGated}
use Rattle.commit_journal.specs.Publishing.{last_slot, without_last}
use Rattle.commit_journal.specs.Standing.{HasSizes, StandsFor, StandsUnpublished, StandsWhole}
use Rattle.commit_journal.specs.Stopping.{KeepsPublished, TakesNothingBack}
use Rattle.commit_journal.proofs.KeptLemmas.{prefix_same, prefix_trans}
use Rattle.commit_journal.proofs.OpenedMoments.{still_gated}
use Rattle.commit_journal.proofs.Standings.{last_slot_standing, recovered_standing, whole_stands}
use Rattle.cry_base.specs.Limits.{most_file_bytes, most_store_bytes}
use Rattle.cry_io.specs.Stops.{IsDurable}
use Rattle.cry_io.specs.Told.{WhereTold}
use Rattle.record_format.specs.Spelling.{spell_payload}
use Rattle.public_fold.specs.Journal.{Journal}
use Rattle.public_fold.specs.Lengths.{end_of}
use Rattle.public_fold.specs.Valid.{IsValid}
use Rattle.journal_bytes.specs.Bytes.{batches_of, bodies_of}
use Rattle.journal_bytes.specs.Journals.{StandsForJournal}
use Rattle.journal_bytes.specs.Keys.{AreWhole}
use Rattle.journal_bytes.proofs.Grown.{batches_fit, journal_recovered}
use Rattle.journal_bytes.proofs.NextEntry.{between}
use Rattle.store_owner.specs.Deeds.{Deed, deed_answer, deed_then, Suits}
use Rattle.store_owner.specs.Applying.{IsSealed}
use Rattle.store_owner.specs.Owned.{IsOwnerOf, OwnerView, limits_in}
use Rattle.store_owner.specs.Published.{AddsPublished, HasPublished, PublishesUpTo, StaysPublished, published_batches}
use Rattle.store_owner.specs.Stopping.{RestsAt, epoch_due}
use Rattle.store_owner.proofs.OpenedBehind.{within}
use Rattle.store_owner.proofs.OwnerGoesOn.{batches_are, between_owner, between_stands}
use Rattle.store_owner.proofs.StoppedCommands.{begun_batches, begun_valid, begun_whole, one_told, rests_begun, then_valid, then_whole}

-- ---- fronts

without_shorter : {X : Type 0} (xs : List X) → IsPrefix (without_last xs) xs
unfolding without_last
without_shorter [] = ([], refl)
without_shorter (x ∷ []) = (x ∷ [], refl)
without_shorter (x ∷ next ∷ xs) = let rest = without_shorter (next ∷ xs) in (rest.0, ap (λ l. x ∷ l) rest.1)

all_front : {X : Type 0} (P : X → Type 0) (xs ys : List X) → All P (xs ++ ys) → All P xs
all_front P [] ys all = All-nil P
all_front P (x ∷ xs) ys all = All-cons P x xs (All-head P x (xs ++ ys) all) (all_front P xs ys (All-tail P x (xs ++ ys) all))

sized : (key : List ℕ) (high : Journal) (bs : List Batch) → IsValid high → AreWhole key high → IsPrefix bs (batches_of key high) → All HasSizes bs
sized key high bs valid whole front = all_front HasSizes bs front.0 (subst (All HasSizes) (sym front.1) (batches_fit key high valid whole))

-- ---- what bytes publish

pub published_front : (owner s : List ℕ) → IsPrefix (published_batches owner s) (recovered owner s)
unfolding published_batches
published_front owner s =
    elim (bytes_eq (last_slot s) empty_slot) as (λ (test : Bool). IsPrefix (cond test (without_last (recovered owner s)) (recovered owner s)) (recovered owner s)) [
      | true ↦ without_shorter (recovered owner s)
      | false ↦ prefix_same (recovered owner s)
    ]

-- a slot that is empty is seen to be so
empty_seen : (owner : List ℕ) (shown left : List Batch) (s : List ℕ) (stands : StandsFor owner shown s) → stands.slot ≡ empty_slot → All HasSizes shown
    → bytes_eq (last_slot s) empty_slot ≡ false → IsPrefix shown left
empty_seen owner [] left s stands empty sizes other = (left, refl)
empty_seen owner (b ∷ bs) left s stands empty sizes other =
    let equal = (bytes_eq-Decides (last_slot s) empty_slot).1 (last_slot_standing owner b bs s stands sizes ∙ empty) in
    absurd (false≢true (sym other ∙ equal))

module _ (owner : List ℕ) (shown left : List Batch) (s c : List ℕ) (sizes : All HasSizes shown) (of_s : recovered owner s ≡ shown) (of_c : recovered owner c ≡ left)
    (begins : IsPrefix shown left ⊎ (StandsUnpublished owner shown s × IsPrefix (without_last shown) left)) where
  has_published : HasPublished owner s c
  unfolding published_batches
  has_published =
      (elim (bytes_eq (last_slot s) empty_slot) as (λ (test : Bool). bytes_eq (last_slot s) empty_slot ≡ test
      → IsPrefix (cond test (without_last (recovered owner s)) (recovered owner s)) (recovered owner c)) [
        | true ↦ λ is. subst (λ l. IsPrefix (without_last l) (recovered owner c)) (sym of_s) (subst (IsPrefix (without_last shown)) (sym of_c)
            (⊎_elim (λ all. prefix_trans (without_last shown) shown left (without_shorter shown) all) (λ none. none.1) begins))
        | false ↦ λ other. subst (λ l. IsPrefix l (recovered owner c)) (sym of_s) (subst (IsPrefix shown) (sym of_c)
            (⊎_elim (λ all. all) (λ none. empty_seen owner shown left s none.0.0 none.0.1 sizes other) begins))
      ]) refl

pub stays_published : (key : List ℕ) (low : List Batch) (high : Journal) (s c : List ℕ) → IsValid high → AreWhole key high
    → TakesNothingBack (StandsFor key) (StandsUnpublished key) low (batches_of key high) s c → HasPublished key s c × IsPrefix (published_batches key s) (batches_of key high)
stays_published key low high s c valid whole t =
    let sizes = sized key high t.shown valid whole t.shown_to in
    let of_s = recovered_standing key t.shown s t.shown_stands sizes in
    let of_c = recovered_standing key t.left c t.left_stands (sized key high t.left valid whole t.left_to) in (
      has_published key t.shown t.left s c sizes of_s of_c t.begins,
      prefix_trans (published_batches key s) (recovered key s) (batches_of key high) (published_front key s) (subst (λ l. IsPrefix l (batches_of key high)) (sym of_s) t.shown_to),
    )

-- what a stop leaves has the batches that were there at first
low_left : (key : List ℕ) (low : List Batch) (high : Journal) (s c : List ℕ) → IsValid high → AreWhole key high
    → TakesNothingBack (StandsFor key) (StandsUnpublished key) low (batches_of key high) s c → IsPrefix low (recovered key c)
low_left key low high s c valid whole t =
    subst (IsPrefix low) (sym (recovered_standing key t.left c t.left_stands (sized key high t.left valid whole t.left_to))) t.left_from

-- ---- calls

-- bytes that stand for a journal
pub journal_published : (key : List ℕ) (m : Journal) (s c : List ℕ) → StandsForJournal key m s → StandsForJournal key m c → HasPublished key s c × IsPrefix (published_batches key s) (batches_of key m)
journal_published key m s c one two =
    let front = subst (IsPrefix (published_batches key s)) (journal_recovered key m s one) (published_front key s) in
    (subst (IsPrefix (published_batches key s)) (sym (journal_recovered key m c two)) front, front)

-- what a disk at rest may leave
pub rests_for : (key : List ℕ) (m : Journal) (shown : Option (List ℕ)) (may_leave : List ℕ → Type 0) → RestsAt key m shown may_leave → (c : List ℕ) → shown ≡ Some c → StandsForJournal key m c
rests_for key m shown may_leave rests c is =
    let same = one_told shown rests.shows.0 c rests.shows.1 is in
    let whole = rests.shows.2 in
    record { valid = whole.valid; whole_keys = whole.whole_keys; stands = subst (StandsFor key (batches_of key m)) same (whole_stands key (batches_of key m) rests.shows.0 whole.stands) }

-- a call that did nothing
still_batches : (added bs : List Batch) (j : JournalState) (was : Option (List ℕ)) (might : List ℕ → Type 0) (since : List ℕ → List ℕ → Type 0)
    → ((s c : List ℕ) → since s c → (was ≡ Some s) × might c) → IsDurable might was → holding.Shows (StandsWhole j.owner) bs was
    → (s c : List ℕ) → since s c → TakesNothingBack (StandsFor j.owner) (StandsUnpublished j.owner) bs (bs ++ added) s c
still_batches added bs j was might since only durable shows s c at =
    let is = only s c at in
    let stands : (y : List ℕ) → was ≡ Some y → StandsFor j.owner bs y = λ y told.
    subst (StandsFor j.owner bs) (one_told was shows.0 y shows.1 told) (whole_stands j.owner bs shows.0 shows.2) in
    record {
      shown = bs;
      left = bs;
      shown_from = prefix_same bs;
      shown_to = (added, refl);
      left_from = prefix_same bs;
      left_to = (added, refl);
      shown_stands = stands s is.0;
      left_stands = stands c (durable c is.1);
      begins = inl (prefix_same bs);
    }

module _ (D : Type 0) (moment : D → ℕ) (since : D → ℕ → List ℕ → List ℕ → Type 0) where
  -- a weaker relation
  weaker : (R Q : List ℕ → List ℕ → Type 0) (a e : D) → ((s c : List ℕ) → R s c → Q s c) → FromThenOn moment since a e R → FromThenOn moment since a e Q
  weaker R Q a e less on = on_maps D moment since R Q (λ s c. Unit {0}) (λ s c. Unit {0}) a e (λ s c t l one two both. less s l both) on (λ s c at. tt) (λ s c at. tt)

  pub adds_none_published : (added : List Batch) (j : JournalState) (was : Option (List ℕ)) (might : List ℕ → Type 0) (a : D)
      → ((s c : List ℕ) → since a (moment a) s c → (was ≡ Some s) × might c) → AddsPublished added j was might (FromThenOn moment since a a)
  adds_none_published added j was might a only bs of durable shows = Begins (still_batches added bs j was might (since a (moment a)) only durable shows)

  -- a disk at rest, while nothing is done
  pub still_on : (key : List ℕ) (m : Journal) (was : Option (List ℕ)) (might : List ℕ → Type 0) (a : D) → ((s c : List ℕ) → since a (moment a) s c → (was ≡ Some s) × might c)
      → RestsAt key m was might → FromThenOn moment since a a (HasPublished key)
  still_on key m was might a only rests = Begins (λ s c at.
      let is = only s c at in
      (journal_published key m s c (rests_for key m was might rests s is.0) (rests_for key m was might rests c (rests.durable c is.1))).0)

  -- all that was published is the journal's at which a call comes to rest
  pub rested_within : (key : List ℕ) (m : Journal) (shown : Option (List ℕ)) (may_leave : List ℕ → Type 0) (a e : D) → RestsAt key m shown may_leave
      → ((s : List ℕ) → shown ≡ Some s → may_leave s) → ((s c : List ℕ) → since e (moment e) s c → (shown ≡ Some s) × may_leave c)
      → ((t : ℕ) (s c : List ℕ) → t ≤ moment e → shown ≡ Some s → may_leave c → since e t s c)
      → FromThenOn moment since a e (HasPublished key) → (s c : List ℕ) → since e (moment a) s c → IsPrefix (published_batches key s) (batches_of key m)
  rested_within key m shown may_leave a e rests itself only counted on s c at =
      let l = rests.shows.0 in
      subst (IsPrefix (published_batches key s)) (journal_recovered key m l (rests_for key m shown may_leave rests l rests.shows.1))
      (on_ends D moment since (HasPublished key) a e on shown may_leave only counted s c l l at rests.shows.1 (itself l rests.shows.1))

-- a disk at rest, now and while nothing is done
pub rest_published : (key : List ℕ) (m : Journal) (shown : Option (List ℕ)) (may_leave : List ℕ → Type 0) → RestsAt key m shown may_leave → StaysPublished key shown may_leave
rest_published key m shown may_leave rests s is c left =
    (journal_published key m s c (rests_for key m shown may_leave rests s is) (rests_for key m shown may_leave rests c (rests.durable c left))).0

-- ---- a command

module _ (m : Journal) (r : Deed) (drawn : List (List ℕ)) (old : OwnerView) (was : Option (List ℕ)) (might : List ℕ → Type 0) (is : IsOwnerOf m old) (low : old.journal.limit ≤ most_store_bytes) (bound : old.file_bytes ≤ most_file_bytes)
    (fine : deed_answer (limits_in old) m old.journal.has_epoch r ≡ None) (suits : Suits old.state.keys r) (rests : RestsAt old.key m was might) where
  abbrev begun : Journal
  begun = between m old.journal.has_epoch

  abbrev then : Journal
  then = deed_then m old.journal.has_epoch r drawn

  module _ (D : Type 0) (moment : D → ℕ) (since : D → ℕ → List ℕ → List ℕ → Type 0) where
    abbrev On : D → D → (List ℕ → List ℕ → Type 0) → Type 0
    On a e = FromThenOn moment since a e

    -- the batches that a call adds to a journal's
    step_on : (key : List ℕ) (low high : Journal) (added : List Batch) (j : JournalState) (shows : Option (List ℕ)) (could : List ℕ → Type 0) (a e : D)
        → batches_of key high ≡ batches_of key low ++ added → j.owner ≡ key → IsJournalOf (batches_of key low) j
        → AddsPublished added j shows could (On a e) → RestsAt key low shows could
        → On a e (TakesNothingBack (StandsFor key) (StandsUnpublished key) (batches_of key low) (batches_of key high))
    step_on key low high added j shows could a e more owner of adds rest =
        let bs = batches_of key low in
        let shown : holding.Shows (StandsWhole j.owner) bs shows = (rest.shows.0, rest.shows.1, subst (λ k. StandsWhole k bs rest.shows.0) (sym owner) rest.shows.2.stands) in
        subst (λ l. On a e (TakesNothingBack (StandsFor key) (StandsUnpublished key) bs l)) (sym more)
        (subst (λ k. On a e (TakesNothingBack (StandsFor k) (StandsUnpublished k) bs (bs ++ added))) owner (adds bs of rest.durable shown))

    step_published : (key : List ℕ) (low high : Journal) (a e : D) → IsValid high → AreWhole key high
        → On a e (TakesNothingBack (StandsFor key) (StandsUnpublished key) (batches_of key low) (batches_of key high)) → On a e (HasPublished key)
    step_published key low high a e valid whole on =
        weaker D moment since (TakesNothingBack (StandsFor key) (StandsUnpublished key) (batches_of key low) (batches_of key high)) (HasPublished key) a e
        (λ s c t. (stays_published key (batches_of key low) high s c valid whole t).0) on

    epoch_on : (a b : D) → AddsPublished (epoch_due old.journal) old.journal was might (On a b)
        → On a b (TakesNothingBack (StandsFor old.key) (StandsUnpublished old.key) (batches_of old.key m) (batches_of old.key begun))
    epoch_on a b adds =
        step_on old.key m begun (epoch_due old.journal) old.journal was might a b (begun_batches old.key m old.journal.has_epoch old.journal is.stands) is.same_key is.stands adds rests

    pub early_published : (a b : D) → AddsPublished (epoch_due old.journal) old.journal was might (On a b) → On a b (HasPublished old.key)
    early_published a b adds =
        step_published old.key m begun a b (begun_valid m r drawn old was might is low bound fine suits) (begun_whole m r drawn old was might is low bound fine suits) (epoch_on a b adds)

    pub late_published : (s : IsSealed r drawn old was) (midst : List ℕ → Type 0) → (IsDurable might was → IsDurable midst s.showed)
        → (a b e : D) → ((d : D) → GoesOn (moment d) (since d) (since d)) → AddsPublished (epoch_due old.journal) old.journal was might (On a b)
        → KeepsPublished (next_command s.between (spell_payload s.payload)) s.between s.showed midst (On b e) → On a e (HasPublished old.key)
    late_published s midst calm a b e still begins adds =
        let key = old.key in
        let one = epoch_on a b begins in
        let two = step_on key begun then (next_command s.between (spell_payload s.payload) ∷ []) s.between s.showed midst b e (batches_are m r drawn old was is low bound fine suits s)
        (between_owner m r drawn old was is low bound fine suits s) (between_stands m r drawn old was is low bound fine suits s) adds
        (rests_begun m r drawn old was might is low bound fine suits s midst calm rests) in
        let begun_fits = begun_valid m r drawn old was might is low bound fine suits in
        let begun_keys = begun_whole m r drawn old was might is low bound fine suits in
        let then_fits = then_valid m r drawn old was might is low bound fine suits s midst calm in
        let then_keys = then_whole m r drawn old was might is low bound fine suits s midst calm in
        on_in_both D moment since (HasPublished key) a b e still
        (step_published key m begun a b begun_fits begun_keys one)
        (step_published key begun then b e then_fits then_keys two)
        (λ x c t l at later.
        prefix_trans (published_batches key x) (batches_of key begun) (recovered key l)
        (stays_published key (batches_of key m) begun x c begun_fits begun_keys
        (on_throughout D moment since (TakesNothingBack (StandsFor key) (StandsUnpublished key) (batches_of key m) (batches_of key begun)) a b one x c at)).1
        (low_left key (batches_of key begun) then t l then_fits then_keys
        (on_throughout D moment since (TakesNothingBack (StandsFor key) (StandsUnpublished key) (batches_of key begun) (batches_of key then)) b e two t l later)))

-- ---- opening

pub opening_published : (D : Type 0) (moment : D → ℕ) (since : D → ℕ → List ℕ → List ℕ → Type 0) (a e : D) (limit : ℕ) (key : List ℕ) (was : Option (List ℕ)) (left : List ℕ → Type 0) → limit ≤ most_store_bytes
    → OpensThroughout limit key was left (since e (moment a)) → OpensInOrder limit key was (FromThenOn moment since a e) → (m : Journal) → StaysPublished key was left
    → WhereTold was (λ x. StandsForJournal key m x → end_of m ≤ limit → PublishesUpTo key m (since e (moment a)) (FromThenOn moment since a e))
unfolding batches_of
opening_published D moment since a e limit key was left known stops ordered m stays x told shown fits =
    let after : (y : List ℕ) → LeavesGated limit key x y → StandsForJournal key m y = λ y gated. record {
      valid = shown.valid;
      whole_keys = shown.whole_keys;
      stands = still_gated limit key x y known gated (bodies_of key m) (within limit key m x shown fits);
    } in
    let shows : (s c : List ℕ) → since e (moment a) s c → StandsForJournal key m s = λ s c at.
    ⊎_elim (λ old. subst (StandsForJournal key m) (sym old.0) shown) (λ gated. after s gated.0) (stops x told s c at) in
    record {
      kept = on_maps D moment since (λ s c. (s ≡ x) ⊎ LeavesGated limit key x c) (HasPublished key) (λ s c. StandsForJournal key m s) (λ s c. left c ⊎ StandsForJournal key m c) a e
          (λ s c t l one two both.
          ⊎_elim
          (λ same. ⊎_elim
          (λ old. subst (λ y. HasPublished key y l) (sym same) (stays x told l old))
          (λ new. (journal_published key m s l one new).0)
          two)
          (λ gated. (journal_published key m s l one (after l gated)).0)
          both)
          (ordered x told)
          shows
          (λ s c at. ⊎_elim (λ old. inl old.1) (λ gated. inr (after c gated.1)) (stops x told s c at));
      within = λ s c at. let is = shows s c at in (journal_published key m s s is is).1;
    }
