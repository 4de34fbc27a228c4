-- What a stop leaves of commands, one after another.
use Rattle.std.proofs.Common.{◌≡◌, ◌≤◌, ⊎_elim, inl, ℕ, cond, List, [], ◌∷◌, ◌++◌, Option, Some, None, append_assoc, arith, sym, subst, ◌∙◌}
use Rattle.batch_log.proofs.Handed.{hands_before, hands_done, hands_nothing, hands_then}
use Rattle.commit_journal.specs.Handing.{Hands, HandsOpening, all_written, opening_writes}
use Rattle.commit_journal.specs.Holding.{GoesOn, IsKept, IsPrefix}
use Rattle.commit_journal.proofs.KeptLemmas.{kept_starts, kept_then, prefix_same, prefix_trans, settled_holds}
use Rattle.commit_journal.proofs.Standings.{whole_stands}
use Rattle.journal_bytes.specs.Bytes.{batches_of}
use Rattle.journal_bytes.specs.Journals.{HoldsBetween, IsSettled, Kept, StandsForJournal, StandsWholeForJournal}
use Rattle.cry_base.specs.Limits.{most_store_bytes}
use Rattle.cry_base.specs.Requests.{Request}
use Rattle.cry_base.specs.declared.commands.Refusal.{Refusal}
use Rattle.cry_base.specs.declared.limits.Limits.{Limits}
use Rattle.cry_io.specs.Told.{WhereTold}
use Rattle.cli_sessions.specs.Stopping.{KeepsUpTo, LinesKeepUpTo}
use Rattle.journal_bytes.specs.Script.{Going, accepted_going, answer, draws_of, keys_from, line_going}
use Rattle.public_fold.specs.Journal.{Journal}
use Rattle.public_fold.specs.Journal.Entry.{Did, Session}
use Rattle.public_fold.specs.Lengths.{end_of}
use Rattle.store_owner.specs.Sessions.{with_draws}
use Rattle.store_owner.proofs.HandedBatches.{handed_both, handed_nothing, hands_both}
use Rattle.store_owner.specs.Stopping.{ComesToRest, RestsAt, ShowsWritten, StopsBetween, journal_writes}

-- time goes on where nothing is done
pub time_still : (now : ℕ) (since : ℕ → List ℕ → List ℕ → Type 0) (shown : Option (List ℕ)) (may_leave : List ℕ → Type 0)
    → ((s c : List ℕ) → since now s c → (shown ≡ Some s) × may_leave c)
    → ((t : ℕ) (s c : List ℕ) → t ≤ now → shown ≡ Some s → may_leave c → since t s c) → GoesOn now since since
time_still now since shown may_leave only counts t s c early = (
  λ at. inl at,
  λ at. ⊎_elim (λ old. old) (λ new. let is = only s c new in counts t s c early is.0 is.1) at,
)

-- ---- a session makes its journal longer, and takes nothing away

pub line_grows : (g : Going) (r : Request) (o : Option Refusal) → IsPrefix g.journal (line_going g r o).journal
unfolding line_going accepted_going
line_grows g r None =
    let session = cond g.begun [] (Session ∷ []) in
    let entry = Did r (keys_from (draws_of g.journal r) g.draws) ∷ [] in
    (session ++ entry, sym (append_assoc g.journal session entry))
line_grows g r (Some why) = prefix_same g.journal

pub goes_grow : (limits : Limits) (g h : Going) (r : Request) (draws rest : List ℕ) → line_going (with_draws g draws) r (answer limits g.journal g.begun r) ≡ with_draws h rest
    → IsPrefix g.journal h.journal
goes_grow limits g h r draws rest goes = subst (λ (x : Going). IsPrefix g.journal x.journal) goes (line_grows (with_draws g draws) r (answer limits g.journal g.begun r))

-- ---- a disk at rest

-- what is shown then is whole
whole_stands_for : (owner : List ℕ) (m : Journal) (bytes : List ℕ) → StandsWholeForJournal owner m bytes → StandsForJournal owner m bytes
whole_stands_for owner m bytes whole = record {
  valid = whole.valid;
  whole_keys = whole.whole_keys;
  stands = whole_stands owner (batches_of owner m) bytes whole.stands;
}

-- a disk that rests at a journal is settled there
pub rests_settled : (key : List ℕ) (m : Journal) (shown : Option (List ℕ)) (may_leave : List ℕ → Type 0) → RestsAt key m shown may_leave → IsSettled key m shown may_leave
rests_settled key m shown may_leave rests = record {
  shows = rests.shows;
  leaves = λ c left.
      let same : rests.shows.0 ≡ c = let both = sym rests.shows.1 ∙ rests.durable c left in cc in
      subst (StandsWholeForJournal key m) same rests.shows.2;
}

rests_hold : (key : List ℕ) (m : Journal) (shown : Option (List ℕ)) (may_leave : List ℕ → Type 0) → RestsAt key m shown may_leave → HoldsBetween key m m shown may_leave
rests_hold key m shown may_leave rests =
    settled_holds (StandsForJournal key) (StandsWholeForJournal key) m shown may_leave (whole_stands_for key) (rests_settled key m shown may_leave rests)

-- Since the first moment the disk, which rested at m then, was kept between m and j; and it rests at j now. It was handed the writes
-- between the two, and shows all of them done.
pub record Stays (key : List ℕ) (m j : Journal) (first now : ℕ) (showed shown : Option (List ℕ)) (may_leave : List ℕ → Type 0) (since : ℕ → List ℕ → List ℕ → Type 0) : Type 0 where
  pub order : first ≤ now
  pub grown : IsPrefix m j
  pub rests : RestsAt key j shown may_leave
  pub kept : Kept key m m j (since first)
  pub hands : Hands (journal_writes key m j) (Unit {0}) showed shown (since first)
  pub handed : ShowsWritten (journal_writes key m j) showed shown

pub stays_begun : (key : List ℕ) (m : Journal) (now : ℕ) (shown : Option (List ℕ)) (may_leave : List ℕ → Type 0) (since : ℕ → List ℕ → List ℕ → Type 0)
    → ((s c : List ℕ) → since now s c → (shown ≡ Some s) × may_leave c) → RestsAt key m shown may_leave → Stays key m m now now shown shown may_leave since
stays_begun key m now shown may_leave since only rests = record {
  order = omega arith;
  grown = prefix_same m;
  rests = rests;
  kept = kept_starts (StandsForJournal key) m m m shown may_leave (since now) (rests_hold key m shown may_leave rests) only;
  hands = hands_nothing (journal_writes key m m) (Unit {0}) shown shown (since now) (λ s c at. (only s c at).0);
  handed = handed_nothing key m shown;
}

-- what was kept up to j, and then of j up to what follows it
kept_on : (key : List ℕ) (m j next : Journal) (first middle : ℕ) (past since : ℕ → List ℕ → List ℕ → Type 0) → first ≤ middle → GoesOn middle past since
    → IsPrefix m j → IsPrefix j next → Kept key m m j (past first) → Kept key j j next (since middle) → Kept key m m next (since first)
kept_on key m j next first middle past since order time grown more before after =
    kept_then (StandsForJournal key) m m j j j next middle first past since order time grown more more before after

-- a command after which the disk rests
pub stays_on : (key : List ℕ) (m j next : Journal) (first middle now : ℕ) (showed was shown : Option (List ℕ)) (might may : List ℕ → Type 0)
    (past since : ℕ → List ℕ → List ℕ → Type 0) → Stays key m j first middle showed was might past → IsPrefix j next → ComesToRest key j next was shown might may (since middle)
    → middle ≤ now → GoesOn middle past since → Stays key m next first now showed shown may since
stays_on key m j next first middle now showed was shown might may past since before more step later time =
    let one = before.order in
    record {
      order = omega (arith, one, later);
      grown = prefix_trans m j next before.grown more;
      rests = step.rests before.rests;
      kept = kept_on key m j next first middle past since one time before.grown more before.kept (step.stops.kept before.rests);
      hands = hands_both key m j next showed was shown middle first past since one time before.grown more before.handed before.hands step.stops.hands;
      handed = handed_both key m j next showed was shown before.grown more before.handed step.handed;
    }

-- one that met a fault of the disk
pub stops_on : (key : List ℕ) (m j next : Journal) (first middle : ℕ) (showed was shown : Option (List ℕ)) (might may : List ℕ → Type 0)
    (past since : ℕ → List ℕ → List ℕ → Type 0) → Stays key m j first middle showed was might past → IsPrefix j next → StopsBetween key j next was shown might may (since middle)
    → GoesOn middle past since → HoldsBetween key j next shown may × LinesKeepUpTo key m showed shown (since first) next
stops_on key m j next first middle showed was shown might may past since before more step time = (
  step.holds before.rests,
  record {
    grown = prefix_trans m j next before.grown more;
    kept = kept_on key m j next first middle past since before.order time before.grown more before.kept (step.kept before.rests);
    hands = hands_both key m j next showed was shown middle first past since before.order time before.grown more before.handed before.hands step.hands;
  },
)

-- a call that kept two journals up to the higher one kept them up to any other
pub kept_up_to_any : (key : List ℕ) (low high reached : Journal) (since : List ℕ → List ℕ → Type 0) → Kept key low high high since → Kept key low high reached since
kept_up_to_any key low high reached since kept s c at =
    let k = kept s c at in
    (let is : IsKept (StandsForJournal key) low high reached c = record {
      held = k.held;
      from = k.from;
      to = ⊎_elim (λ p. inl p) (λ p. inl p) k.to;
      stands_for = k.stands_for;
    } in is)

-- ---- the opening, and the lines behind it

-- bytes that are shown stand for the journal
pub told_stands : (key : List ℕ) (m : Journal) (shown : Option (List ℕ)) (s : List ℕ) → shown ≡ Some s → StandsForJournal key m s → WhereTold shown (StandsForJournal key m)
told_stands key m shown s is stands = λ x told. let same : s ≡ x = let both = sym is ∙ told in cc in subst (StandsForJournal key m) same stands

-- what the opening of a store says of its moments
abbrev pub OpeningKeeps : List ℕ → Journal → Option (List ℕ) → (List ℕ → Type 0) → (List ℕ → List ℕ → Type 0) → Type 0
OpeningKeeps key m was could_leave since = (m1 m2 : Journal) → HoldsBetween key m1 m2 was could_leave → WhereTold was (StandsForJournal key m) → end_of m ≤ most_store_bytes → Kept key m1 m2 m2 since

-- the disk wasn't touched
pub kept_unread : (key : List ℕ) (m : Journal) (was : Option (List ℕ)) (could_leave : List ℕ → Type 0) (since : List ℕ → List ℕ → Type 0)
    → ((s c : List ℕ) → since s c → (was ≡ Some s) × could_leave c) → KeepsUpTo key m was was could_leave since m
kept_unread key m was could_leave since only = record {
  kept = λ m1 m2 holds low. kept_starts (StandsForJournal key) m1 m2 m was could_leave since holds only;
  hands = λ x x_is. hands_nothing (opening_writes most_store_bytes key x ++ journal_writes key m m) (Unit {0}) was was since (λ s c at. (only s c at).0);
}

-- the opening alone, as far as is known
kept_opening : (given key : List ℕ) (m : Journal) (was : Option (List ℕ)) (could_leave : List ℕ → Type 0) (since : List ℕ → List ℕ → Type 0)
    → given ≡ key → OpeningKeeps given m was could_leave since → WhereTold was (StandsForJournal given m) → end_of m ≤ most_store_bytes
    → (m1 m2 : Journal) → HoldsBetween key m1 m2 was could_leave → Kept key m1 m2 m since
kept_opening given key m was could_leave since same keeps stands small m1 m2 holds =
    let there = subst (λ k. HoldsBetween k m1 m2 was could_leave) (sym same) holds in
    kept_up_to_any key m1 m2 m since (subst (λ k. Kept k m1 m2 m2 since) same (keeps m1 m2 there stands small))

-- the store wasn't opened
pub kept_unopened : (given key : List ℕ) (m : Journal) (was shown : Option (List ℕ)) (could_leave : List ℕ → Type 0) (since : List ℕ → List ℕ → Type 0) (failed : Type 0)
    → given ≡ key → OpeningKeeps given m was could_leave since → HandsOpening most_store_bytes given failed was shown since → WhereTold was (StandsForJournal given m)
    → end_of m ≤ most_store_bytes → KeepsUpTo key m was shown could_leave since m
kept_unopened given key m was shown could_leave since failed same keeps hands stands small = record {
  kept = λ m1 m2 holds low. kept_opening given key m was could_leave since same keeps stands small m1 m2 holds;
  hands = λ x x_is. subst (λ k. Hands (opening_writes most_store_bytes k x ++ journal_writes key m m) (Unit {0}) was shown since) same
      (hands_before (opening_writes most_store_bytes given x) (journal_writes key m m) failed (Unit {0}) was shown since (λ fault. tt) (hands x x_is));
}

-- it was opened, and the lines kept the journal up to what they reached
pub kept_opened : (given key : List ℕ) (m : Journal) (was showed shown : Option (List ℕ)) (could_leave : List ℕ → Type 0) (first middle : ℕ) (past since : ℕ → List ℕ → List ℕ → Type 0)
    (failed : Type 0) → given ≡ key → OpeningKeeps given m was could_leave (past first) → HandsOpening most_store_bytes given failed was showed (past first)
    → WhereTold was (λ x. showed ≡ Some (all_written (opening_writes most_store_bytes given x) x)) → WhereTold was (StandsForJournal given m) → end_of m ≤ most_store_bytes
    → first ≤ middle → GoesOn middle past since
    → (reached : Journal) → LinesKeepUpTo key m showed shown (since middle) reached → KeepsUpTo key m was shown could_leave (since first) reached
kept_opened given key m was showed shown could_leave first middle past since failed same keeps hands handed stands small order time reached lines = record {
  kept = λ m1 m2 holds low. kept_then (StandsForJournal key) m1 m2 m m m reached middle first past since order time low lines.grown lines.grown
      (kept_opening given key m was could_leave (past first) same keeps stands small m1 m2 holds) lines.kept;
  hands = λ x x_is.
      let slots = opening_writes most_store_bytes given x in
      let all : ShowsWritten slots was showed = λ y y_is. let alike : x ≡ y = let both = sym x_is ∙ y_is in cc in subst (λ z. showed ≡ Some (all_written slots z)) alike (handed x x_is) in
      subst (λ k. Hands (opening_writes most_store_bytes k x ++ journal_writes key m reached) (Unit {0}) was shown (since first)) same
      (hands_then slots (journal_writes key m reached) ⊥ (Unit {0}) was showed shown first middle past since (λ never. never) order time all
      (hands_done slots failed was showed (past first) all (hands x x_is)) lines.hands);
}

-- a disk that is settled at a journal holds it and no other
pub settled_holds_journal : (key : List ℕ) (m : Journal) (shown : Option (List ℕ)) (may_leave : List ℕ → Type 0) → IsSettled key m shown may_leave → HoldsBetween key m m shown may_leave
settled_holds_journal key m shown may_leave settled = settled_holds (StandsForJournal key) (StandsWholeForJournal key) m shown may_leave (whole_stands_for key) settled
