-- What a stop at any moment of a command leaves, by the journals that the bytes stand for.
use Rattle.std.proofs.Common.{◌≡◌, ◌≤◌, ⊎_elim, ◌⊎◌, inl, inr, ℕ, Bool, true, false, cond, List, [], ◌∷◌, ◌++◌, Option, Some, None, append-nil, append_assoc, arith, refl, sym, ap, subst, ◌∙◌}
use Rattle.std.specs.Prelude.{is_some}
use Rattle.std.proofs.lemmas.Bool.{false≢true}
use Rattle.std.proofs.lemmas.List.{append_cancel_left}
use Rattle.cry_base.specs.Limits.{most_file_bytes, most_store_bytes}
use Rattle.cry_io.specs.Stops.{IsDurable}
use Rattle.cry_io.specs.Told.{WhereBothTold}
use Rattle.commit_journal.specs.Handing.{Hands, Write, joining_writes, log_writes}
use Rattle.commit_journal.specs.Holding as holding
use Rattle.commit_journal.specs.Holding.{GoesOn, IsBetween, IsKept, IsPrefix}
use Rattle.commit_journal.specs.Image.{Batch}
use Rattle.commit_journal.specs.Journals.{IsJournalOf, JournalState, next_command, next_epoch}
use Rattle.commit_journal.specs.Standing.{StandsFor, StandsWhole}
use Rattle.commit_journal.specs.Stopping.{HoldsLog, KeepsLog}
use Rattle.batch_log.proofs.Handed.{hands_nothing}
use Rattle.commit_journal.proofs.KeptLemmas.{between_wider, kept_starts, kept_then, prefix_same, prefix_trans, settled_holds}
use Rattle.commit_journal.proofs.Standings.{whole_stands}
use Rattle.record_format.specs.Spelling.{spell_payload}
use Rattle.public_fold.specs.Journal.{Journal}
use Rattle.public_fold.specs.Journal.Entry.{Session}
use Rattle.public_fold.specs.Valid.{IsValid}
use Rattle.journal_bytes.specs.Bytes.{batches_of, entry_body}
use Rattle.journal_bytes.specs.Journals.{HoldsBetween, IsSettled, Kept, StandsForJournal, StandsWholeForJournal}
use Rattle.journal_bytes.specs.Keys.{AreWhole}
use Rattle.journal_bytes.proofs.NextBatches.{batches_then}
use Rattle.journal_bytes.proofs.NextEntry.{between}
use Rattle.journal_bytes.proofs.NextValid.{session_whole}
use Rattle.store_owner.specs.Deeds.{Deed, deed_answer, deed_entry, deed_then, Suits}
use Rattle.store_owner.specs.Applying.{IsSealed}
use Rattle.store_owner.specs.Owned.{IsOwnerOf, OwnerView, limits_in}
use Rattle.store_owner.specs.Stopping.{AddsBatches, ComesToRest, HasAdded, RestsAt, ShowsWritten, StopsBetween, epoch_due, journal_writes}
use Rattle.store_owner.proofs.HandedBatches.{handed_both, handed_nothing, hands_both, hands_one, hands_to, journal_writes_are}
use Rattle.store_owner.proofs.DeedSteps.{deed_begun, deed_whole}
use Rattle.store_owner.proofs.OwnerGoesOn.{batches_are, between_owner, between_shown, between_stands, ends_low_is, told_some, valid_then}

-- ---- a disk at rest

pub one_told : (o : Option (List ℕ)) (x y : List ℕ) → o ≡ Some x → o ≡ Some y → x ≡ y
one_told o x y one two = let both = sym one ∙ two in cc

journal_stands : (key : List ℕ) (m : Journal) (bytes : List ℕ) → StandsWholeForJournal key m bytes → StandsForJournal key m bytes
journal_stands key m bytes whole = record { valid = whole.valid; whole_keys = whole.whole_keys; stands = whole_stands key (batches_of key m) bytes whole.stands }

-- what is shown as a whole is all that is left, where nothing is pending
settled_by : {X : Type 0} (whole : List X → List ℕ → Type 0) (held : List X) (shown : Option (List ℕ)) (may_leave : List ℕ → Type 0) → holding.Shows whole held shown
    → IsDurable may_leave shown → holding.IsSettled whole held shown may_leave
settled_by whole held shown may_leave shows durable = record {
  shows = shows;
  leaves = λ c left. subst (whole held) (one_told shown shows.0 c shows.1 (durable c left)) shows.2;
}

pub rests_settled : (key : List ℕ) (m : Journal) (shown : Option (List ℕ)) (may_leave : List ℕ → Type 0) → RestsAt key m shown may_leave → IsSettled key m shown may_leave
rests_settled key m shown may_leave rests = settled_by (StandsWholeForJournal key) m shown may_leave rests.shows rests.durable

pub rests_holds : (key : List ℕ) (m : Journal) (shown : Option (List ℕ)) (may_leave : List ℕ → Type 0) → RestsAt key m shown may_leave → HoldsBetween key m m shown may_leave
rests_holds key m shown may_leave rests =
    settled_holds (StandsForJournal key) (StandsWholeForJournal key) m shown may_leave (journal_stands key) (rests_settled key m shown may_leave rests)

-- it comes to rest where it shows the whole of the other journal, and nothing is pending
pub rests_then : (key : List ℕ) (m then : Journal) (was shows : Option (List ℕ)) (might may : List ℕ → Type 0) → IsValid then → AreWhole key then → is_some shows ≡ is_some was
    → WhereBothTold was shows (λ x y. StandsWhole key (batches_of key m) x → StandsWhole key (batches_of key then) y) → IsDurable may shows
    → RestsAt key m was might → RestsAt key then shows may
rests_then key m then was shows might may valid whole told disk durable rests =
    let some = told_some shows (told ∙ ap (λ (o : Option (List ℕ)). is_some o) rests.shows.1) in
    record {
      shows = (some.0, some.1, record { valid = valid; whole_keys = whole; stands = disk rests.shows.0 some.0 rests.shows.1 some.1 rests.shows.2.stands });
      durable = durable;
    }

-- a call that did nothing
pub stays_at_rest : (key : List ℕ) (m : Journal) (was : Option (List ℕ)) (might : List ℕ → Type 0) (since : List ℕ → List ℕ → Type 0)
    → ((s c : List ℕ) → since s c → (was ≡ Some s) × might c) → ComesToRest key m m was was might might since
stays_at_rest key m was might since only = record {
  stops = record {
    kept = λ rests. kept_starts (StandsForJournal key) m m m was might since (rests_holds key m was might rests) only;
    holds = rests_holds key m was might;
    hands = hands_nothing (journal_writes key m m) (Unit {0}) was was since (λ s c at. (only s c at).0);
  };
  rests = λ rests. rests;
  handed = handed_nothing key m was;
}

pub adds_nothing : (added : List Batch) (j : JournalState) (was : Option (List ℕ)) (might : List ℕ → Type 0) (since : List ℕ → List ℕ → Type 0)
    → ((s c : List ℕ) → since s c → (was ≡ Some s) × might c) → AddsBatches added j was was might might since
adds_nothing added j was might since only =
    let holds : (bs : List Batch) → IsDurable might was → holding.Shows (StandsWhole j.owner) bs was → holding.HoldsBetween (StandsFor j.owner) bs (bs ++ added) was might =
    λ bs durable shows. between_wider (StandsFor j.owner) bs bs bs (bs ++ added) was might (prefix_same bs) (added, refl)
    (settled_holds (StandsFor j.owner) (StandsWhole j.owner) bs was might (whole_stands j.owner) (settled_by (StandsWhole j.owner) bs was might shows durable))
    in
    record {
      kept = λ bs of durable shows. kept_starts (StandsFor j.owner) bs (bs ++ added) (bs ++ added) was might since (holds bs durable shows) only;
      holds = λ bs of durable shows. holds bs durable shows;
      hands = λ bs of. hands_nothing (log_writes j.owner bs added) (Unit {0}) was was since (λ s c at. (only s c at).0);
    }

-- a commit, and the commit that begins an epoch
pub adds_one : (b : Batch) (j : JournalState) (failed : Type 0) (was shows : Option (List ℕ)) (might may : List ℕ → Type 0) (since : List ℕ → List ℕ → Type 0)
    → KeepsLog b j was might since → HoldsLog b j was might shows may → Hands (joining_writes b j) failed was shows since → AddsBatches (b ∷ []) j was shows might may since
adds_one b j failed was shows might may since keeps holds hands = record { kept = keeps; holds = holds; hands = hands_one b j failed was shows since hands }

pub adds_epoch : (has : Bool) (b : Batch) (j : JournalState) (failed : Type 0) (was shows : Option (List ℕ)) (might may : List ℕ → Type 0) (since : List ℕ → List ℕ → Type 0) → has ≡ false
    → KeepsLog b j was might since → HoldsLog b j was might shows may → Hands (joining_writes b j) failed was shows since → AddsBatches (cond has [] (b ∷ [])) j was shows might may since
adds_epoch true b j failed was shows might may since none keeps holds hands = absurd (false≢true (sym none))
adds_epoch false b j failed was shows might may since none keeps holds hands = adds_one b j failed was shows might may since keeps holds hands

-- ---- time, and two calls one after the other

pub time_then : (start next : ℕ) (past since later : ℕ → List ℕ → List ℕ → Type 0) → start ≤ next → GoesOn start past since → GoesOn next since later → GoesOn start past later
time_then start next past since later order one two t s c early =
    let by : t ≤ next = omega (arith, order, early) in (
      λ at. ⊎_elim
          (λ old. ⊎_elim (λ p. inl p) (λ n. inr ((two start s c order).1 (inl n))) ((one t s c early).0 old))
          (λ new. inr ((two start s c order).1 (inr new)))
          ((two t s c by).0 at),
      λ at. ⊎_elim
          (λ old. (two t s c by).1 (inl ((one t s c early).1 (inl old))))
          (λ new. ⊎_elim
          (λ n. (two t s c by).1 (inl ((one t s c early).1 (inr n))))
          (λ n. (two t s c by).1 (inr n))
          ((two start s c order).0 new))
          at,
    )

pub stops_then : (key : List ℕ) (low middle high : Journal) (was showed shows : Option (List ℕ)) (might midst may : List ℕ → Type 0) (start first : ℕ) (past since : ℕ → List ℕ → List ℕ → Type 0)
    → first ≤ start → GoesOn start past since → IsPrefix low middle → IsPrefix middle high → (RestsAt key low was might → RestsAt key middle showed midst)
    → ShowsWritten (journal_writes key low middle) was showed → StopsBetween key low middle was showed might midst (past first) → StopsBetween key middle high showed shows midst may (since start)
    → StopsBetween key low high was shows might may (since first)
stops_then key low middle high was showed shows might midst may start first past since before goes lower higher rests all one two = record {
  kept = λ at. kept_then (StandsForJournal key) low low middle middle middle high start first past since before goes lower higher higher (one.kept at) (two.kept (rests at));
  holds = λ at. between_wider (StandsForJournal key) middle high low high shows may lower (prefix_same high) (two.holds (rests at));
  hands = hands_both key low middle high was showed shows start first past since before goes lower higher all one.hands two.hands;
}

-- ---- lists that lie between some and these with one more

none_left : {X : Type 0} (x y : List X) → x ++ y ≡ [] → x ≡ []
none_left [] y e = refl
none_left (a ∷ x) y e = absurd cc

one_left : {X : Type 0} (b : X) (x y : List X) → x ++ y ≡ b ∷ [] → (x ≡ []) ⊎ (x ≡ b ∷ [])
one_left b [] y e = inl refl
one_left b (a ∷ x) y e =
    let rest : x ++ y ≡ [] = cc in
    let none = none_left x y rest in
    let first : a ≡ b = cc in
    inr cc

-- what follows the first ones
rest_is : {X : Type 0} (bs held added : List X) (from : IsPrefix bs held) (to : IsPrefix held (bs ++ added)) → from.0 ++ to.0 ≡ added
rest_is bs held added from to =
    append_cancel_left bs (from.0 ++ to.0) added (sym (append_assoc bs from.0 to.0) ∙ ap (λ l. l ++ to.0) from.1 ∙ to.1)

held_cases : {X : Type 0} (has : Bool) (b : X) (bs held : List X) → IsPrefix bs held → IsPrefix held (bs ++ cond has [] (b ∷ []))
    → (held ≡ bs) ⊎ (held ≡ bs ++ cond has [] (b ∷ []))
held_cases true b bs held from to =
    let none = none_left from.0 to.0 (rest_is bs held [] from to) in
    inl (sym from.1 ∙ ap (λ x. bs ++ x) none ∙ append-nil bs)
held_cases false b bs held from to =
    ⊎_elim
    (λ none. inl (sym from.1 ∙ ap (λ x. bs ++ x) none ∙ append-nil bs))
    (λ one. inr (sym from.1 ∙ ap (λ x. bs ++ x) one))
    (one_left b from.0 to.0 (rest_is bs held (b ∷ []) from to))

-- ---- one batch, or none

module _ (key : List ℕ) (low high : Journal) (has : Bool) (b : Batch) (more : batches_of key high ≡ batches_of key low ++ cond has [] (b ∷ [])) (grows : IsPrefix low high)
    (low_valid : IsValid low) (low_whole : AreWhole key low) (high_valid : IsValid high) (high_whole : AreWhole key high) where
  abbrev added : List Batch
  added = cond has [] (b ∷ [])

  stood : (held : List Batch) (c : List ℕ) → IsPrefix (batches_of key low) held → IsPrefix held (batches_of key low ++ added) → StandsFor key held c
      → IsBetween (StandsForJournal key) low high c
  stood held c from to stands =
      ⊎_elim
      (λ same. (let is : IsBetween (StandsForJournal key) low high c = record {
        held = low;
        from = prefix_same low;
        to = grows;
        stands_for = record { valid = low_valid; whole_keys = low_whole; stands = subst (λ bs. StandsFor key bs c) same stands };
      } in is))
      (λ then. (let is : IsBetween (StandsForJournal key) low high c = record {
        held = high;
        from = grows;
        to = prefix_same high;
        stands_for = record { valid = high_valid; whole_keys = high_whole; stands = subst (λ bs. StandsFor key bs c) (then ∙ sym more) stands };
      } in is))
      (held_cases has b (batches_of key low) held from to)

  kept_step : (since : List ℕ → List ℕ → Type 0) → holding.Kept (StandsFor key) (batches_of key low) (batches_of key low ++ added) (batches_of key low ++ added) since
      → Kept key low low high since
  kept_step since kept s c at =
      let k = kept s c at in
      let is = stood k.held c k.from (⊎_elim (λ p. p) (λ p. p) k.to) k.stands_for in
      record { held = is.held; from = is.from; to = inr is.to; stands_for = is.stands_for }

  holds_step : (shows : Option (List ℕ)) (may : List ℕ → Type 0) → holding.HoldsBetween (StandsFor key) (batches_of key low) (batches_of key low ++ added) shows may
      → HoldsBetween key low high shows may
  holds_step shows may holds =
      let at = λ (c : List ℕ) (is : IsBetween (StandsFor key) (batches_of key low) (batches_of key low ++ added) c). stood is.held c is.from is.to is.stands_for in
      record { shows = (holds.shows.0, holds.shows.1, at holds.shows.0 holds.shows.2); leaves = λ c left. at c (holds.leaves c left) }

  pub step : (j : JournalState) (was shows : Option (List ℕ)) (might may : List ℕ → Type 0) (since : List ℕ → List ℕ → Type 0) → j.owner ≡ key
      → IsJournalOf (batches_of key low) j → AddsBatches added j was shows might may since → StopsBetween key low high was shows might may since
  step j was shows might may since owner of adds =
      let bs = batches_of key low in
      let shown : RestsAt key low was might → holding.Shows (StandsWhole j.owner) bs was = λ rests.
      (rests.shows.0, rests.shows.1, subst (λ k. StandsWhole k bs rests.shows.0) (sym owner) rests.shows.2.stands) in
      record {
        kept = λ rests. kept_step since (subst (λ k. holding.Kept (StandsFor k) bs (bs ++ added) (bs ++ added) since) owner (adds.kept bs of rests.durable (shown rests)));
        holds = λ rests. holds_step shows may (subst (λ k. holding.HoldsBetween (StandsFor k) bs (bs ++ added) shows may) owner (adds.holds bs of rests.durable (shown rests)));
        hands = subst (λ (ws : List Write). Hands ws (Unit {0}) was shows since) (sym (journal_writes_are key low high added more))
            (subst (λ k. Hands (log_writes k bs added) (Unit {0}) was shows since) owner (adds.hands bs of));
      }

  pub step_handed : (j : JournalState) (was shows : Option (List ℕ)) → j.owner ≡ key → IsJournalOf (batches_of key low) j → HasAdded added j was shows
      → ShowsWritten (journal_writes key low high) was shows
  step_handed j was shows owner of all =
      let bs = batches_of key low in
      subst (λ (ws : List Write). ShowsWritten ws was shows) (sym (journal_writes_are key low high added more))
      (subst (λ k. ShowsWritten (log_writes k bs added) was shows) owner (all bs of))

-- ---- a command

pub begun_batches : (key : List ℕ) (m : Journal) (has : Bool) (j : JournalState) → IsJournalOf (batches_of key m) j
    → batches_of key (between m has) ≡ batches_of key m ++ cond has [] (next_epoch j ∷ [])
unfolding entry_body
begun_batches key m true j of = ap (batches_of key) (append-nil m) ∙ sym (append-nil (batches_of key m))
begun_batches key m false j of = batches_then key m Session j of

module _ (m : Journal) (r : Deed) (drawn : List (List ℕ)) (old : OwnerView) (was : Option (List ℕ)) (might : List ℕ → Type 0) (is : IsOwnerOf m old) (low : old.journal.limit ≤ most_store_bytes) (bound : old.file_bytes ≤ most_file_bytes)
    (fine : deed_answer (limits_in old) m old.journal.has_epoch r ≡ None) (suits : Suits old.state.keys r) where
  abbrev pub begun : Journal
  begun = between m old.journal.has_epoch

  abbrev pub then : Journal
  then = deed_then m old.journal.has_epoch r drawn

  to_begun : IsPrefix m begun
  to_begun = (cond old.journal.has_epoch [] (Session ∷ []), refl)

  to_then : IsPrefix begun then
  to_then = (deed_entry r drawn ∷ [], refl)

  pub begun_valid : IsValid begun
  begun_valid = deed_begun m old.journal.has_epoch r is.valid (ends_low_is m r old low fine)

  pub begun_whole : AreWhole old.key begun
  begun_whole = session_whole old.key m old.journal.has_epoch is.whole_keys

  -- the session's epoch, begun or not
  pub epoch_stops : (showed : Option (List ℕ)) (midst : List ℕ → Type 0) (since : List ℕ → List ℕ → Type 0) → AddsBatches (epoch_due old.journal) old.journal was showed might midst since
      → StopsBetween old.key m begun was showed might midst since
  epoch_stops showed midst since adds =
      step old.key m begun old.journal.has_epoch (next_epoch old.journal) (begun_batches old.key m old.journal.has_epoch old.journal is.stands) to_begun is.valid is.whole_keys begun_valid begun_whole
      old.journal was showed might midst since is.same_key is.stands adds

  pub early_stops : (showed : Option (List ℕ)) (midst : List ℕ → Type 0) (since : List ℕ → List ℕ → Type 0) → AddsBatches (epoch_due old.journal) old.journal was showed might midst since
      → StopsBetween old.key m then was showed might midst since
  early_stops showed midst since adds =
      let first = epoch_stops showed midst since adds in
      record {
        kept = λ rests s c at.
            let k = first.kept rests s c at in
            (let so : IsKept (StandsForJournal old.key) m m then c = record {
              held = k.held;
              from = k.from;
              to = ⊎_elim (λ p. inl p) (λ p. inr (prefix_trans k.held begun then p to_then)) k.to;
              stands_for = k.stands_for;
            } in so);
        holds = λ rests. between_wider (StandsForJournal old.key) m begun m then showed midst (prefix_same m) to_then (first.holds rests);
        hands = hands_to old.key m begun then was showed since to_begun to_then first.hands;
      }

  -- all writes of that epoch's batch are done
  pub epoch_handed : (showed : Option (List ℕ)) → HasAdded (epoch_due old.journal) old.journal was showed → ShowsWritten (journal_writes old.key m begun) was showed
  epoch_handed showed all =
      step_handed old.key m begun old.journal.has_epoch (next_epoch old.journal) (begun_batches old.key m old.journal.has_epoch old.journal is.stands) to_begun is.valid is.whole_keys begun_valid begun_whole
      old.journal was showed is.same_key is.stands all

  module _ (s : IsSealed r drawn old was) (midst : List ℕ → Type 0) (calm : IsDurable might was → IsDurable midst s.showed) where
    pub then_valid : IsValid then
    then_valid = valid_then m r drawn old was is low bound fine suits s

    pub then_whole : AreWhole old.key then
    then_whole = deed_whole old.key m old.journal.has_epoch r drawn is.whole_keys s.drawn_sizes

    pub rests_begun : RestsAt old.key m was might → RestsAt old.key begun s.showed midst
    rests_begun rests =
        let some = told_some s.showed (s.stays_told ∙ ap (λ (o : Option (List ℕ)). is_some o) rests.shows.1) in
        let whole = between_shown m r drawn old was is low bound fine suits s rests.shows.0 some.0 rests.shows.1 some.1 rests.shows.2.stands in
        record {
          shows = (
            some.0,
            some.1,
            record {
              valid = begun_valid;
              whole_keys = begun_whole;
              stands = subst (λ key. StandsWhole key (batches_of old.key begun) some.0) (between_owner m r drawn old was is low bound fine suits s) whole;
            },
          );
          durable = calm rests.durable;
        }

    pub late_stops : (shows : Option (List ℕ)) (may : List ℕ → Type 0) (start first : ℕ) (past since : ℕ → List ℕ → List ℕ → Type 0) → first ≤ start → GoesOn start past since
        → HasAdded (epoch_due old.journal) old.journal was s.showed → AddsBatches (epoch_due old.journal) old.journal was s.showed might midst (past first)
        → AddsBatches (next_command s.between (spell_payload s.payload) ∷ []) s.between s.showed shows midst may (since start)
        → StopsBetween old.key m then was shows might may (since first)
    late_stops shows may start first past since before goes all begins adds =
        stops_then old.key m begun then was s.showed shows might midst may start first past since before goes to_begun to_then rests_begun (epoch_handed s.showed all) (epoch_stops s.showed midst (past first) begins)
        (step old.key begun then false (next_command s.between (spell_payload s.payload)) (batches_are m r drawn old was is low bound fine suits s) to_then begun_valid begun_whole then_valid then_whole
        s.between s.showed shows midst may (since start) (between_owner m r drawn old was is low bound fine suits s) (between_stands m r drawn old was is low bound fine suits s) adds)

    -- all writes of both batches are done
    pub all_handed : (shows : Option (List ℕ)) → HasAdded (epoch_due old.journal) old.journal was s.showed
        → HasAdded (next_command s.between (spell_payload s.payload) ∷ []) s.between s.showed shows → ShowsWritten (journal_writes old.key m then) was shows
    all_handed shows begins adds =
        handed_both old.key m begun then was s.showed shows to_begun to_then (epoch_handed s.showed begins)
        (step_handed old.key begun then false (next_command s.between (spell_payload s.payload)) (batches_are m r drawn old was is low bound fine suits s) to_then begun_valid begun_whole then_valid then_whole
        s.between s.showed shows (between_owner m r drawn old was is low bound fine suits s) (between_stands m r drawn old was is low bound fine suits s) adds)
