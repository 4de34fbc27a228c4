-- What the owner's calls make happen.
use Rattle.std.proofs.Common.{◌≡◌, ⊎_elim, ◌⊎◌, inl, inr, ℕ, Bool, true, false, cond, List, [], ◌∷◌, ◌++◌, length, Option, Some, None, Result, Ok, Err, append-nil, append_assoc, arith, refl, sym, ap, subst, ◌∙◌}
use Rattle.std.proofs.lemmas.List.{append_cancel_left}
use Rattle.std.proofs.lemmas.List.Elements.{All-cons, All-nil}
use Rattle.commit_journal.specs.Handing.{Hands, Write, header_writes, log_writes}
use Rattle.commit_journal.specs.Holding.{IsPrefix}
use Rattle.commit_journal.specs.Journals.{IsJournalOf, JournalState, next_command, next_epoch}
use Rattle.commit_journal.specs.Laws.{batch_of}
use Rattle.commit_journal.specs.Placed.{Commands}
use Rattle.cry_base.specs.declared.commands.Reply.{Reply}
use Rattle.cry_base.specs.declared.commands.Reply.TheVariants as replies
use Rattle.cry_base.specs.declared.commands.Refusal.{Refusal}
use Rattle.cry_base.specs.declared.limits.Limits.{Limits}
use Rattle.record_format.specs.Plain.{PlainPayload}
use Rattle.record_format.specs.Spelling.{spell_payload}
use Rattle.public_fold.specs.Journal.{Entry, Journal, keys_of, nothing, stand_after}
use Rattle.public_fold.specs.Journal.Entry.{Made, Session}
use Rattle.key_links.specs.Fresh.{made_version, piece}
use Rattle.journal_bytes.specs.Attempts.{Course, begun_journal, course_then}
use Rattle.journal_bytes.specs.Attempts.Event.{IsRefused, Enters, IsAbandoned, LosesEpoch, Reopens}
use Rattle.journal_bytes.specs.Bytes.{batches_of, bodies_from, bodies_of, entry_body}
use Rattle.journal_bytes.specs.Journals.{StandsForJournal}
use Rattle.journal_bytes.specs.Keys.{all_keys}
use Rattle.journal_bytes.proofs.NextBatches.{batches_then}
use Rattle.store_owner.specs.Applying.{Answers, HasOtherRoom, IsDone}
use Rattle.store_owner.specs.Drawing.{AreKeys}
use Rattle.store_owner.specs.Making.{IsMade, fresh_writes, made_batches, made_writes, root_keys, root_payload}
use Rattle.store_owner.proofs.MadeOwner.{batches_are}
use Rattle.store_owner.specs.Opened.{IsFresh}
use Rattle.store_owner.specs.Deeds.{Deed, Suits, deed_answer, deed_draws, deed_entry, deed_then}
use Rattle.store_owner.specs.Deeds.Deed.{Commanded, Upgrading}
use Rattle.store_owner.proofs.Measured.{suits_journal}
use Rattle.store_owner.specs.Owned.{IsOwnerOf, OwnerView, limits_in}
use Rattle.store_owner.specs.Stopping.{ComesToRest, RestsAt, StopsBetween, journal_writes}
use Rattle.store_owner.proofs.HandedBatches.{journal_writes_are, no_writes, writes_both}
use Rattle.store_owner.specs.declared.apply_fault.ApplyFault.{ApplyFault}
use Rattle.store_owner.specs.declared.apply_fault.ApplyFault.TheVariants as faults
use Rattle.store_owner.proofs.OtherRoom.{owner_still}
use Rattle.attempt_laws.specs.Calls.{GoesOn, GoesOnAt, Happened, HandsTrials, IsEventOf, LeavesCourse, StandsOn}
use Rattle.attempt_laws.specs.Happenings.{CanHappen, IsAccepted, IsCourse, IsDrawnFor, IsTurnedDown}
use Rattle.attempt_laws.specs.Trials.{Befalls, Happening, UpgradeEnters, UpgradeIsAbandoned, UpgradeIsRefused, all_trials, batch_in, course_after}
use Rattle.attempt_laws.specs.Trials.{course_behind, deed_trial, epoch_trial, made_course, trial_writes, trials, trials_at, trials_with}
use Rattle.attempt_laws.proofs.Written.{entered_is}

-- ---- the batch of the next entry

one_of : {X : Type 0} (x y : X) → x ∷ [] ≡ y ∷ [] → x ≡ y
one_of x y same = cc

next_is : (owner : List ℕ) (m : Journal) (entry : Entry) (j : JournalState) → IsJournalOf (batches_of owner m) j
    → batch_of j.batches j.epoch (entry_body (all_keys owner (m ++ entry ∷ [])) (stand_after nothing m) entry) ≡ batch_in owner (record { behind = m; entry = entry })
next_is owner m entry j of =
    let here = batch_of j.batches j.epoch (entry_body (all_keys owner (m ++ entry ∷ [])) (stand_after nothing m) entry) in
    let there = batch_in owner (record { behind = m; entry = entry }) in
    one_of here there (append_cancel_left (batches_of owner m) (here ∷ []) (there ∷ []) (sym (batches_then owner m entry j of) ∙ entered_is owner m entry))

pub epoch_is : (owner : List ℕ) (m : Journal) (j : JournalState) → IsJournalOf (batches_of owner m) j → next_epoch j ≡ batch_in owner (record { behind = m; entry = Session })
unfolding entry_body
epoch_is owner m j of = next_is owner m Session j of

pub command_is : (owner : List ℕ) (m : Journal) (entry : Entry) (j : JournalState) (payload : PlainPayload) → IsJournalOf (batches_of owner m) j
    → entry_body (all_keys owner (m ++ entry ∷ [])) (stand_after nothing m) entry ≡ Commands payload
    → next_command j (spell_payload payload) ≡ batch_in owner (record { behind = m; entry = entry })
command_is owner m entry j payload of body = ap (batch_of j.batches j.epoch) (sym body) ∙ next_is owner m entry j of

-- ---- one event, or none

abbrev nothing_happened : (limits : Limits) (c : Course) (d : Deed) → Happened limits c d
nothing_happened limits c d = record { events = []; at_most_one = omega arith; of_deed = All-nil (IsEventOf d); can = tt }

abbrev one_happened : (limits : Limits) (c : Course) (d : Deed) (event : Happening) → IsEventOf d event → CanHappen limits c event
    → Happened limits c d
one_happened limits c d event of can = record {
  events = event ∷ [];
  at_most_one = omega arith;
  of_deed = All-cons (IsEventOf d) event [] of (All-nil (IsEventOf d));
  can = (can, tt);
}

-- its batch entered: the course then, and what was written
has_entered : (limits : Limits) (c : Course) (d : Deed) (keys : List (List ℕ)) → IsDrawnFor limits c d keys
    → (happened : Happened limits c d)
    × (course_after c happened.events ≡ record { journal = deed_then c.journal c.begun d keys; begun = true })
    × (trials c happened.events ≡ trials_with c d keys ++ [])
unfolding course_after course_behind course_then begun_journal trials trials_at
has_entered limits c (Commanded r) keys can = (one_happened limits c (Commanded r) (Befalls (Enters r keys)) refl can, refl, refl)
has_entered limits c Upgrading keys can = (one_happened limits c Upgrading (UpgradeEnters keys) refl can, refl, refl)

-- its batch was abandoned
was_abandoned : (limits : Limits) (c : Course) (d : Deed) (keys : List (List ℕ)) → IsDrawnFor limits c d keys
    → (happened : Happened limits c d) × (course_after c happened.events ≡ record { journal = begun_journal c; begun = false })
unfolding course_after course_behind course_then
was_abandoned limits c (Commanded r) keys can = (one_happened limits c (Commanded r) (Befalls (IsAbandoned r keys)) refl can, refl)
was_abandoned limits c Upgrading keys can = (one_happened limits c Upgrading (UpgradeIsAbandoned keys) refl can, refl)

-- it was refused
was_refused : (limits : Limits) (c : Course) (d : Deed) → IsTurnedDown limits c d
    → (happened : Happened limits c d) × (course_after c happened.events ≡ c)
unfolding course_after course_behind course_then
was_refused limits c (Commanded r) can = (one_happened limits c (Commanded r) (Befalls (IsRefused r)) refl can, refl)
was_refused limits c Upgrading can = (one_happened limits c Upgrading UpgradeIsRefused refl can, refl)

none_goes_on : (limits : Limits) (c : Course) (d : Deed) (o : OwnerView) → StandsOn c o → GoesOn limits c d o
unfolding course_after
none_goes_on limits c d o stands = (nothing_happened limits c d, stands)

room_goes_on : (limits : Limits) (c : Course) (d : Deed) (old new : OwnerView) → StandsOn c old → HasOtherRoom old new → GoesOn limits c d new
room_goes_on limits c d old new stands room =
    none_goes_on limits c d new (record {
      owner_is = owner_still c.journal old new room stands.owner_is;
      has_begun = ap (λ (j : JournalState). j.has_epoch) room.journal ∙ stands.has_begun;
    })

-- ---- how the owner goes on

module _ (c : Course) (d : Deed) (old : OwnerView) (stands : StandsOn c old) (suits : Suits old.state.keys d) where
  suits_here : Suits (keys_of c.journal) d
  suits_here = suits_journal c.journal old d stands.owner_is suits

  drawn_here : (drawn : List (List ℕ)) → deed_answer (limits_in old) c.journal old.journal.has_epoch d ≡ None
      → length drawn ≡ deed_draws c.journal d → AreKeys drawn → IsDrawnFor (limits_in old) c d drawn
  drawn_here drawn fine count sizes =
      ((suits_here, subst (λ b. deed_answer (limits_in old) c.journal b d ≡ None) stands.has_begun fine), count, sizes)

  refused_goes_on : (why : Refusal) (new : OwnerView) → deed_answer (limits_in old) c.journal old.journal.has_epoch d ≡ Some why
      → new ≡ old → GoesOn (limits_in old) c d new
  refused_goes_on why new is same =
      let h = was_refused (limits_in old) c d
      (suits_here, (why, subst (λ b. deed_answer (limits_in old) c.journal b d ≡ Some why) stands.has_begun is)) in
      (h.0, subst (λ (at : Course). StandsOn at new) (sym h.1) (subst (StandsOn c) (sym same) stands))

  module _ (new : OwnerView) (left_before left_after was shows : Option (List ℕ)) (might may : List ℕ → Type 0)
      (since : List ℕ → List ℕ → Type 0) where
    done_goes_on : (reply : Reply) → IsDone c.journal d reply old new left_before left_after was shows might may since
        → GoesOn (limits_in old) c d new
    done_goes_on reply is =
        let h = has_entered (limits_in old) c d is.drawn (drawn_here is.drawn is.accepted is.drawn_count is.drawn_sizes) in (
          h.0,
          subst (λ (at : Course). StandsOn at new) (sym h.1) (record {
            owner_is = subst (λ b. IsOwnerOf (deed_then c.journal b d is.drawn) new) stands.has_begun is.owner_is;
            has_begun = is.has_begun;
          }),
        )

    goes_on_by : (result : Result Reply ApplyFault)
        → Answers result c.journal d old new left_before left_after was shows might may since → GoesOnAt result c d old new
    goes_on_by (Ok (replies.Refused why)) is = refused_goes_on why new is.0 is.1
    goes_on_by (Ok replies.Done) is = done_goes_on replies.Done is
    goes_on_by (Ok (replies.Made holder key)) is = done_goes_on (replies.Made holder key) is
    goes_on_by (Err (faults.RandomShort left need)) is = room_goes_on (limits_in old) c d old new stands is.1
    goes_on_by (Err faults.RandomFault) is = room_goes_on (limits_in old) c d old new stands is.1
    goes_on_by (Err faults.DiskFault) is = is.1
    goes_on_by (Err faults.Closed) is = none_goes_on (limits_in old) c d new (subst (StandsOn c) (sym is.1) stands)
    goes_on_by (Err faults.OutOfMemory) is = room_goes_on (limits_in old) c d old new stands is.0

pub goes_on_at : (c : Course) (d : Deed) (result : Result Reply ApplyFault) (old new : OwnerView)
    (left_before left_after was shows : Option (List ℕ)) (might may : List ℕ → Type 0) (since : List ℕ → List ℕ → Type 0)
    → StandsOn c old → Suits old.state.keys d → Answers result c.journal d old new left_before left_after was shows might may since
    → GoesOnAt result c d old new
goes_on_at c d result old new left_before left_after was shows might may since stands suits is =
    goes_on_by c d old stands suits new left_before left_after was shows might may since result is

-- ---- what a stop leaves

none_left : {X : Type 0} (x y : List X) → x ++ y ≡ [] → x ≡ []
none_left [] y e = refl
none_left (a ∷ x) y e = absurd cc

fronts_of_one : {X : Type 0} (b : X) (x y : List X) → x ++ y ≡ b ∷ [] → (x ≡ []) ⊎ (x ≡ b ∷ [])
fronts_of_one b [] y e = inl refl
fronts_of_one b (a ∷ x) y e =
    let rest : x ++ y ≡ [] = cc in
    let none = none_left x y rest in
    let first : a ≡ b = cc in
    inr cc

fronts_of_two : {X : Type 0} (a b : X) (x y : List X) → x ++ y ≡ a ∷ b ∷ [] → (x ≡ []) ⊎ ((x ≡ a ∷ []) ⊎ (x ≡ a ∷ b ∷ []))
fronts_of_two a b [] y e = inl refl
fronts_of_two a b (z ∷ x) y e =
    let rest : x ++ y ≡ b ∷ [] = cc in
    let first : z ≡ a = cc in
    ⊎_elim
    (λ (none : x ≡ []). inr (inl cc))
    (λ (one : x ≡ b ∷ []). inr (inr cc))
    (fronts_of_one b x y rest)

module _ (limits : Limits) (key : List ℕ) (m : Journal) (d : Deed) (drawn : List (List ℕ)) (bytes : List ℕ) where
  abbrev course : Bool → Course
  course b = record { journal = m; begun = b }

  abbrev Left : Bool → Type 0
  Left b = LeavesCourse limits key (course b) d bytes

  -- nothing happened to the journal
  none_left_of : (b : Bool) → StandsForJournal key m bytes → Left b
  unfolding course_after
  none_left_of b stands = (nothing_happened limits (course b) d, stands)

  entered : (b : Bool) → IsDrawnFor limits (course b) d drawn → StandsForJournal key (deed_then m b d drawn) bytes → Left b
  entered b can stands =
      let h = has_entered limits (course b) d drawn can in
      (h.0, subst (λ (at : Course). StandsForJournal key at.journal bytes) (sym h.1) stands)

  abandoned : (b : Bool) → IsDrawnFor limits (course b) d drawn → StandsForJournal key (m ++ cond b [] (Session ∷ [])) bytes → Left b
  unfolding begun_journal
  abandoned b can stands =
      let h = was_abandoned limits (course b) d drawn can in
      (h.0, subst (λ (at : Course). StandsForJournal key at.journal bytes) (sym h.1) stands)

  lost : IsAccepted limits (course false) d → StandsForJournal key m bytes → Left false
  unfolding course_after course_behind course_then
  lost accepted stands = (one_happened limits (course false) d (Befalls LosesEpoch) tt (refl, (d, accepted)), stands)

  -- a journal that lies between the two is one of three
  between_left : (b : Bool) → IsDrawnFor limits (course b) d drawn → (more rest : Journal)
      → more ++ rest ≡ cond b [] (Session ∷ []) ++ deed_entry d drawn ∷ [] → StandsForJournal key (m ++ more) bytes → Left b
  between_left true can more rest is stands =
      ⊎_elim
      (λ (none : more ≡ []). abandoned true can (subst (λ l. StandsForJournal key (m ++ l) bytes) none stands))
      (λ (all : more ≡ deed_entry d drawn ∷ []). entered true can (subst (λ l. StandsForJournal key l bytes)
      (ap (λ l. m ++ l) all ∙ ap (λ l. l ++ deed_entry d drawn ∷ []) (sym (append-nil m))) stands))
      (fronts_of_one (deed_entry d drawn) more rest is)
  between_left false can more rest is stands =
      ⊎_elim
      (λ (none : more ≡ []). lost can.0 (subst (λ l. StandsForJournal key l bytes) (ap (λ l. m ++ l) none ∙ append-nil m) stands))
      (λ some. ⊎_elim
      (λ (one : more ≡ Session ∷ []). abandoned false can (subst (λ l. StandsForJournal key (m ++ l) bytes) one stands))
      (λ (all : more ≡ Session ∷ deed_entry d drawn ∷ []). entered false can (subst (λ l. StandsForJournal key l bytes)
      (ap (λ l. m ++ l) all ∙ sym (append_assoc m (Session ∷ []) (deed_entry d drawn ∷ []))) stands))
      some)
      (fronts_of_two Session (deed_entry d drawn) more rest is)

  lies_between : (b : Bool) → IsDrawnFor limits (course b) d drawn → (held : Journal) → IsPrefix m held
      → IsPrefix held (deed_then m b d drawn) → StandsForJournal key held bytes → Left b
  lies_between b can held from to stands =
      let session = cond b [] (Session ∷ []) in
      let rest : from.0 ++ to.0 ≡ session ++ deed_entry d drawn ∷ [] =
      append_cancel_left m (from.0 ++ to.0) (session ++ deed_entry d drawn ∷ [])
      (sym (append_assoc m from.0 to.0) ∙ ap (λ l. l ++ to.0) from.1 ∙ to.1 ∙ append_assoc m session (deed_entry d drawn ∷ [])) in
      between_left b can from.0 to.0 rest (subst (λ l. StandsForJournal key l bytes) (sym from.1) stands)

prefix_at : (m held : Journal) → IsPrefix m held → IsPrefix held m → held ≡ m
prefix_at m held from to =
    let rest : from.0 ++ to.0 ≡ [] =
    append_cancel_left m (from.0 ++ to.0) []
    (sym (append_assoc m from.0 to.0) ∙ ap (λ l. l ++ to.0) from.1 ∙ to.1 ∙ sym (append-nil m)) in
    sym from.1 ∙ ap (λ l. m ++ l) (none_left from.0 to.0 rest) ∙ append-nil m

module _ (c : Course) (d : Deed) (old : OwnerView) (was shows : Option (List ℕ)) (might may : List ℕ → Type 0)
    (since : List ℕ → List ℕ → Type 0) (stands : StandsOn c old) (suits : Suits old.state.keys d)
    (rests : RestsAt old.key c.journal was might) where
  abbrev LeavesHere : List ℕ → Type 0
  LeavesHere bytes = LeavesCourse (limits_in old) old.key c d bytes

  -- at each moment, and in the end
  abbrev Both : Type 0
  Both = ((s bytes : List ℕ) → since s bytes → LeavesHere bytes) × ((bytes : List ℕ) → may bytes → LeavesHere bytes)

  at_rest : ComesToRest old.key c.journal c.journal was shows might may since → Both
  at_rest comes =
      let here : (held : Journal) (bytes : List ℕ) → IsPrefix c.journal held → IsPrefix held c.journal → StandsForJournal old.key held bytes
      → LeavesHere bytes =
      λ held bytes from to is.
      none_left_of (limits_in old) old.key c.journal d [] bytes c.begun
      (subst (λ l. StandsForJournal old.key l bytes) (prefix_at c.journal held from to) is) in (
        λ s bytes at. let k = comes.stops.kept rests s bytes at in here k.held bytes k.from (⊎_elim (λ p. p) (λ p. p) k.to) k.stands_for,
        λ bytes left. let k = (comes.stops.holds rests).leaves bytes left in here k.held bytes k.from k.to k.stands_for,
      )

  in_deed : (drawn : List (List ℕ)) → deed_answer (limits_in old) c.journal old.journal.has_epoch d ≡ None
      → length drawn ≡ deed_draws c.journal d → AreKeys drawn
      → StopsBetween old.key c.journal (deed_then c.journal old.journal.has_epoch d drawn) was shows might may since → Both
  in_deed drawn fine count sizes stops =
      let can = drawn_here c d old stands suits drawn fine count sizes in
      let there = subst (λ b. StopsBetween old.key c.journal (deed_then c.journal b d drawn) was shows might may since) stands.has_begun stops in
      let whole : IsPrefix c.journal (deed_then c.journal c.begun d drawn) =
      (cond c.begun [] (Session ∷ []) ++ deed_entry d drawn ∷ [], sym (append_assoc c.journal (cond c.begun [] (Session ∷ [])) (deed_entry d drawn ∷ []))) in
      let here : (held : Journal) (bytes : List ℕ) → IsPrefix c.journal held → IsPrefix held (deed_then c.journal c.begun d drawn)
      → StandsForJournal old.key held bytes → LeavesHere bytes =
      λ held bytes from to is. lies_between (limits_in old) old.key c.journal d drawn bytes c.begun can held from to is in (
        λ s bytes at. let k = there.kept rests s bytes at in
            here k.held bytes k.from
            (⊎_elim
            (λ low. (low.0 ++ whole.0, sym (append_assoc k.held low.0 whole.0) ∙ ap (λ l. l ++ whole.0) low.1 ∙ whole.1))
            (λ high. high)
            k.to)
            k.stands_for,
        λ bytes left. let k = (there.holds rests).leaves bytes left in here k.held bytes k.from k.to k.stands_for,
      )

  pub left_by : (result : Result Reply ApplyFault) (new : OwnerView) (left_before left_after : Option (List ℕ))
      → Answers result c.journal d old new left_before left_after was shows might may since → Both
  left_by (Ok (replies.Refused why)) new left_before left_after is = at_rest is.2
  left_by (Ok replies.Done) new left_before left_after is = in_deed is.drawn is.accepted is.drawn_count is.drawn_sizes is.comes_to_rest.stops
  left_by (Ok (replies.Made holder key)) new left_before left_after is = in_deed is.drawn is.accepted is.drawn_count is.drawn_sizes is.comes_to_rest.stops
  left_by (Err (faults.RandomShort left need)) new left_before left_after is = at_rest is.6
  left_by (Err faults.RandomFault) new left_before left_after is = at_rest is.2
  left_by (Err faults.DiskFault) new left_before left_after is = in_deed is.2.drawn is.0 is.2.drawn_count is.2.drawn_sizes is.2.stops
  left_by (Err faults.Closed) new left_before left_after is = at_rest is.2
  left_by (Err faults.OutOfMemory) new left_before left_after is = at_rest is.1

-- ---- what the disk is handed

-- the writes by which one entry joins its journal are those of its trial
pub entry_writes : (key : List ℕ) (m : Journal) (entry : Entry)
    → journal_writes key m (m ++ entry ∷ []) ≡ log_writes key (batches_of key m) (batch_in key (record { behind = m; entry = entry }) ∷ [])
entry_writes key m entry = journal_writes_are key m (m ++ entry ∷ []) (batch_in key (record { behind = m; entry = entry }) ∷ []) (entered_is key m entry)

deed_writes : (key : List ℕ) (m : Journal) (d : Deed) (drawn : List (List ℕ)) (b : Bool) → journal_writes key m (deed_then m b d drawn)
    ≡ trial_writes key (trials_with (record { journal = m; begun = b }) d drawn ++ [])
unfolding trial_writes trials_with epoch_trial deed_trial begun_journal
deed_writes key m d drawn true =
    let entry = deed_entry d drawn in
    ap (λ (l : Journal). journal_writes key l ((m ++ []) ++ entry ∷ [])) (sym (append-nil m))
    ∙ entry_writes key (m ++ []) entry
    ∙ sym (append-nil (log_writes key (batches_of key (m ++ [])) (batch_in key (record { behind = m ++ []; entry = entry }) ∷ [])))
deed_writes key m d drawn false =
    let entry = deed_entry d drawn in
    let begun = m ++ Session ∷ [] in
    let last = log_writes key (batches_of key begun) (batch_in key (record { behind = begun; entry = entry }) ∷ []) in
    writes_both key m begun (begun ++ entry ∷ []) (Session ∷ [], refl) (entry ∷ [], refl)
    ∙ (λ i. entry_writes key m Session i ++ entry_writes key begun entry i)
    ∙ ap (λ (ws : List Write). log_writes key (batches_of key m) (batch_in key (record { behind = m; entry = Session }) ∷ []) ++ ws) (sym (append-nil last))

module _ (c : Course) (d : Deed) (old : OwnerView) (was shows : Option (List ℕ)) (might may : List ℕ → Type 0)
    (since : List ℕ → List ℕ → Type 0) (stands : StandsOn c old) (suits : Suits old.state.keys d) where
  abbrev HandsHere : Type 0
  HandsHere = HandsTrials (limits_in old) old.key c d was shows since

  hands_none : ComesToRest old.key c.journal c.journal was shows might may since → HandsHere
  unfolding trial_writes trials
  hands_none comes =
      (nothing_happened (limits_in old) c d, subst (λ (ws : List Write). Hands ws (Unit {0}) was shows since) (no_writes old.key c.journal) comes.stops.hands)

  hands_deed : (drawn : List (List ℕ)) → deed_answer (limits_in old) c.journal old.journal.has_epoch d ≡ None
      → length drawn ≡ deed_draws c.journal d → AreKeys drawn
      → StopsBetween old.key c.journal (deed_then c.journal old.journal.has_epoch d drawn) was shows might may since → HandsHere
  hands_deed drawn fine count sizes stops =
      let there = subst (λ b. StopsBetween old.key c.journal (deed_then c.journal b d drawn) was shows might may since) stands.has_begun stops in
      let h = has_entered (limits_in old) c d drawn (drawn_here c d old stands suits drawn fine count sizes) in
      let written = deed_writes old.key c.journal d drawn c.begun ∙ ap (trial_writes old.key) (sym h.2) in
      (h.0, subst (λ (ws : List Write). Hands ws (Unit {0}) was shows since) written there.hands)

  pub handed_by : (result : Result Reply ApplyFault) (new : OwnerView) (left_before left_after : Option (List ℕ))
      → Answers result c.journal d old new left_before left_after was shows might may since → HandsHere
  handed_by (Ok (replies.Refused why)) new left_before left_after is = hands_none is.2
  handed_by (Ok replies.Done) new left_before left_after is =
      hands_deed is.drawn is.accepted is.drawn_count is.drawn_sizes is.comes_to_rest.stops
  handed_by (Ok (replies.Made holder key)) new left_before left_after is =
      hands_deed is.drawn is.accepted is.drawn_count is.drawn_sizes is.comes_to_rest.stops
  handed_by (Err (faults.RandomShort left need)) new left_before left_after is = hands_none is.6
  handed_by (Err faults.RandomFault) new left_before left_after is = hands_none is.2
  handed_by (Err faults.DiskFault) new left_before left_after is =
      hands_deed is.2.drawn is.0 is.2.drawn_count is.2.drawn_sizes is.2.stops
  handed_by (Err faults.Closed) new left_before left_after is = hands_none is.2
  handed_by (Err faults.OutOfMemory) new left_before left_after is = hands_none is.1

-- ---- making and opening

-- the writes that make a store are its header and those of its two trials
pub fresh_trials : (drawn : List ℕ)
    → fresh_writes drawn ≡ header_writes (piece drawn 0) ++ trial_writes (piece drawn 0) (all_trials made_version (root_keys drawn) [])
unfolding made_writes trial_writes trials all_trials batches_of bodies_of bodies_from log_writes
fresh_trials drawn =
    let key = piece drawn 0 in
    let keys = root_keys drawn in
    let made = made_batches (root_payload key keys) in
    let begun : Journal = Session ∷ [] in
    let last = log_writes key (batches_of key begun) (batch_in key (record { behind = begun; entry = Made made_version keys }) ∷ []) in
    ap (λ (ws : List Write). header_writes key ++ ws)
    (sym (journal_writes_are key [] (begun ++ Made made_version keys ∷ []) made (sym (batches_are key keys)))
    ∙ writes_both key [] begun (begun ++ Made made_version keys ∷ []) (Session ∷ [], refl) (Made made_version keys ∷ [], refl)
    ∙ (λ i. entry_writes key [] Session i ++ entry_writes key begun (Made made_version keys) i)
    ∙ ap (λ (ws : List Write). log_writes key [] (batch_in key (record { behind = []; entry = Session }) ∷ []) ++ ws) (sym (append-nil last)))

pub made_stands : (drawn : List ℕ) (limits : Limits) (o : OwnerView) → IsMade drawn limits o → StandsOn (made_course made_version (root_keys drawn)) o
unfolding made_course
made_stands drawn limits o is = record { owner_is = is.owner; has_begun = is.journal.not_begun }

pub opened_stands : (c : Course) (key : List ℕ) (limits : Limits) (o : OwnerView) → IsOwnerOf c.journal o → IsFresh key limits.store_bytes limits.file_bytes o
    → StandsOn (course_behind c (Befalls Reopens)) o
unfolding course_behind course_then
opened_stands c key limits o is fresh = record { owner_is = is; has_begun = fresh.not_begun }

-- ---- calls one after another

pub course_then_more : (limits : Limits) (c : Course) (first more : List Happening) → IsCourse limits c first → IsCourse limits (course_after c first) more → IsCourse limits c (first ++ more)
unfolding course_after
course_then_more limits c [] more can next = next
course_then_more limits c (now ∷ first) more can next = (can.0, course_then_more limits (course_behind c now) first more can.1 next)

pub after_more : (c : Course) (first more : List Happening) → course_after c (first ++ more) ≡ course_after (course_after c first) more
unfolding course_after
after_more c [] more = refl
after_more c (now ∷ first) more = after_more (course_behind c now) first more

pub trials_more : (c : Course) (first more : List Happening) → trials c (first ++ more) ≡ trials c first ++ trials (course_after c first) more
unfolding course_after trials
trials_more c [] more = refl
trials_more c (now ∷ first) more =
    ap (λ l. trials_at c now ++ l) (trials_more (course_behind c now) first more)
    ∙ sym (append_assoc (trials_at c now) (trials (course_behind c now) first) (trials (course_after (course_behind c now) first) more))
