-- What the lines of a run publish, however they end: no stop takes it back.
use Rattle.std.proofs.Common.{◌≡◌, ◌≤◌, ℕ, List, [], ◌++◌, Option, Some, Result, Ok, Err, arith, sym, subst}
use Rattle.batch_log.specs.Moments.{FromThenOn}
use Rattle.batch_log.proofs.InOrder.{on_in_both}
use Rattle.batch_log.proofs.Moments.{in_both}
use Rattle.commit_journal.specs.Gates.{recovered}
use Rattle.commit_journal.specs.Holding.{GoesOn, IsPrefix}
use Rattle.commit_journal.proofs.KeptLemmas.{prefix_same, prefix_trans}
use Rattle.cry_base.specs.Requests.{Request}
use Rattle.cry_base.specs.declared.commands.Reply.{Reply}
use Rattle.cry_io.specs.Stops.{IsDurable}
use Rattle.journal_bytes.specs.Bytes.{batches_of}
use Rattle.journal_bytes.specs.Journals.{Kept}
use Rattle.journal_bytes.specs.Script.{Going, opened}
use Rattle.journal_bytes.proofs.Grown.{batches_grow, journal_recovered}
use Rattle.public_fold.specs.Journal.{Journal}
use Rattle.cli_base.specs.Lines.{LineState}
use Rattle.cli_sessions.specs.OwnerSteps.{Scene, StandsIn}
use Rattle.cli_sessions.specs.Published.{KeepsBatches, LinesPublish}
use Rattle.cli_sessions.specs.Sessions.{version_limits}
use Rattle.cli_sessions.specs.Script.{Answered, Ran}
use Rattle.cli_sessions.specs.Script.Answered.{Begun, Then}
use Rattle.cli_sessions.specs.declared.script.ScriptFault.{ScriptFault}
use Rattle.cli_sessions.specs.declared.script.ScriptFault.TheVariants.{BadLine, ReadFault, WriteFault, OutOfMemory, Applying}
use Rattle.cli_sessions.proofs.AnsweredScripts.{IsScene}
use Rattle.cli_sessions.proofs.RunLemmas.{Fails, IsCounted, IsPresent, Step, rests_there, scene}
use Rattle.cli_sessions.proofs.StopLemmas.{goes_grow, time_still}
use Rattle.store_owner.specs.Applying.{Answers}
use Rattle.store_owner.specs.Drawing.{joined}
use Rattle.store_owner.specs.Deeds.{Deed}
use Rattle.store_owner.specs.Deeds.Deed.{Commanded}
use Rattle.store_owner.specs.Owned.{OwnerView}
use Rattle.store_owner.specs.Published.{HasPublished, published_batches}
use Rattle.store_owner.specs.Sessions.{StandsAt}
use Rattle.store_owner.specs.Stopping.{RestsAt}
use Rattle.store_owner.specs.declared.apply_fault.ApplyFault.{ApplyFault}
use Rattle.store_owner.specs.declared.apply_fault.ApplyFault.TheVariants as faults
use Rattle.store_owner.proofs.PublishedCommands.{rested_within, rests_for, still_on}
use Rattle.store_owner.proofs.Scripted.{answered_counting}

-- what a disk at rest may leave has the journal's batches
rests_has : (key : List ℕ) (m : Journal) (shown : Option (List ℕ)) (may_leave : List ℕ → Type 0) → RestsAt key m shown may_leave
    → (bytes : List ℕ) → may_leave bytes → IsPrefix (batches_of key m) (recovered key bytes)
rests_has key m shown may_leave rests bytes left =
    subst (IsPrefix (batches_of key m)) (sym (journal_recovered key m bytes (rests_for key m shown may_leave rests bytes (rests.durable bytes left)))) (prefix_same (batches_of key m))

-- a command of an owner with this key
keyed_rests : (given key : List ℕ) (m : Journal) (shown : Option (List ℕ)) (may_leave : List ℕ → Type 0) → given ≡ key → RestsAt key m shown may_leave → RestsAt given m shown may_leave
keyed_rests given key m shown may_leave same rests = subst (λ k. RestsAt k m shown may_leave) (sym same) rests

-- a call that kept a journal
pub kept_has : (key : List ℕ) (low high reached : Journal) (since : List ℕ → List ℕ → Type 0) → Kept key low high reached since → KeepsBatches key low since
kept_has key low high reached since kept s c at =
    let k = kept s c at in
    subst (IsPrefix (batches_of key low)) (sym (journal_recovered key k.held c k.stands_for)) (batches_grow key low k.held k.from)

-- a command that met a fault kept the one that the owner stood for
pub failed_has : (fault : ApplyFault) (m : Journal) (d : Deed) (old new : OwnerView) (left_before left_after was shows : Option (List ℕ)) (might may : List ℕ → Type 0) (since : List ℕ → List ℕ → Type 0)
    → Answers (Err fault) m d old new left_before left_after was shows might may since → RestsAt old.key m was might → KeepsBatches old.key m since
failed_has faults.RandomFault m d old new left_before left_after was shows might may since met rests = kept_has old.key m m m since (met.2.stops.kept rests)
failed_has (faults.RandomShort left need) m d old new left_before left_after was shows might may since met rests = kept_has old.key m m m since (met.6.stops.kept rests)
failed_has faults.DiskFault m d old new left_before left_after was shows might may since met rests = kept_has old.key m _ _ since (met.2.stops.kept rests)
failed_has faults.Closed m d old new left_before left_after was shows might may since met rests = kept_has old.key m m m since (met.2.stops.kept rests)
failed_has faults.OutOfMemory m d old new left_before left_after was shows might may since met rests = kept_has old.key m m m since (met.1.stops.kept rests)

module _ (R D : Type 0) (left : R → Option (List ℕ)) (random_faults : R → ℕ) (shown : D → Option (List ℕ)) (disk_faults : D → ℕ)
    (may_leave : D → List ℕ → Type 0) (moment : D → ℕ) (since : D → ℕ → List ℕ → List ℕ → Type 0)
    (start end : OwnerView × R × D) (old new : LineState) (left_before left_after out_before out_after : Option (List ℕ))
    (present : IsPresent R D left random_faults shown disk_faults may_leave moment since) (counted : IsCounted R D left random_faults shown disk_faults may_leave moment since)
    (itself : (d : D) (s : List ℕ) → shown d ≡ Some s → may_leave d s)
    (key : List ℕ) (m : Journal) (stands : StandsAt version_limits key (opened m []) start.0 (shown start.2)) (durable : IsDurable (may_leave start.2) (shown start.2)) where
  abbrev Goes : OwnerView × R × D → Request → Reply → OwnerView × R × D → Type 0
  Goes = Step R D left random_faults shown disk_faults may_leave moment since

  abbrev Meets : OwnerView × R × D → Request → ApplyFault → OwnerView × R × D → Type 0
  Meets = Fails R D left random_faults shown disk_faults may_leave moment since

  abbrev Stood : OwnerView × R × D → ℕ → List Request → Type 0
  Stood x n commands = StandsIn x.0 n commands

  abbrev place : OwnerView × R × D → Scene
  place = scene R D left random_faults shown disk_faults may_leave moment since

  abbrev On : D → D → (List ℕ → List ℕ → Type 0) → Type 0
  On a e = FromThenOn moment since a e

  still : (d : D) → GoesOn (moment d) (since d) (since d)
  still d = time_still (moment d) (since d) (shown d) (may_leave d) (λ s c at. present d s c at) (λ t s c early is leaves. counted d t s c early is leaves)

  -- where the session stands, and what was published till then
  pub record Reached (at : OwnerView × R × D) : Type 0 where
    pub going : Going
    pub stands_there : IsScene version_limits key going (place at)
    pub order : moment start.2 ≤ moment at.2
    pub grown : IsPrefix m going.journal
    pub rests : RestsAt key going.journal (shown at.2) (may_leave at.2)
    pub kept : On start.2 at.2 (HasPublished key)
    pub has : KeepsBatches key m (since at.2 (moment start.2))

  -- all of it is the journal's there
  reached_within : (at : OwnerView × R × D) (p : Reached at) (s c : List ℕ) → since at.2 (moment start.2) s c → IsPrefix (published_batches key s) (batches_of key p.going.journal)
  reached_within at p s c is =
      rested_within D moment since key p.going.journal (shown at.2) (may_leave at.2) start.2 at.2 p.rests (λ s is. itself at.2 s is) (λ s c at_now. present at.2 s c at_now)
      (λ t s c early is leaves. counted at.2 t s c early is leaves) p.kept s c is

  begun : Reached start
  unfolding opened
  begun =
      let rests = rests_there version_limits key m start.0 (shown start.2) (may_leave start.2) stands durable in
      record {
        going = opened m [];
        stands_there = stands;
        order = omega arith;
        grown = prefix_same m;
        rests = rests;
        kept = still_on D moment since key m (shown start.2) (may_leave start.2) start.2 (λ s c at. present start.2 s c at) rests;
        has = λ s c at. rests_has key m (shown start.2) (may_leave start.2) rests c (present start.2 s c at).1;
      }

  -- one call more, of which a stop leaves what was there
  pub further_kept : (at : OwnerView × R × D) (p : Reached at) (next : D) → On at.2 next (HasPublished key) → KeepsBatches key p.going.journal (since next (moment at.2))
      → On start.2 next (HasPublished key)
  further_kept at p next kept has =
      on_in_both D moment since (HasPublished key) start.2 at.2 next still p.kept kept
      (λ s c t l is later. prefix_trans (published_batches key s) (batches_of key p.going.journal) (recovered key l) (reached_within at p s c is) (has t l later))

  pub further_has : (at : OwnerView × R × D) (p : Reached at) (next : D) → GoesOn (moment at.2) (since at.2) (since next) → KeepsBatches key p.going.journal (since next (moment at.2))
      → KeepsBatches key m (since next (moment start.2))
  further_has at p next time has =
      in_both (moment start.2) (moment at.2) (since at.2) (since next) (λ s c. IsPrefix (batches_of key m) (recovered key c)) p.order time p.has
      (λ s c is. prefix_trans (batches_of key m) (batches_of key p.going.journal) (recovered key c) (batches_grow key m p.going.journal p.grown) (has s c is))

  pub published_to : (asked : List Request) (given : List Reply) (at : OwnerView × R × D) → Answered Goes start asked given at → Reached at
  published_to asked given at Begun = begun
  published_to asked given at (Then {asked = rs} {replies = told} {x = x} {y = y} {request = r} {reply = reply} before step) =
      let p = published_to rs told x before in
      let h : Going = p.going in
      let one = step.0 in
      let has_key = p.stands_there.has_key in
      let middle = moment x.2 in
      let more = answered_counting version_limits key h r reply x.0 y.0 (left x.1) (left y.1) (shown x.2) (shown y.2)
      (may_leave x.2) (may_leave y.2) (since y.2 middle) p.stands_there (one.answers h.journal p.stands_there.owner_is) one.shown_told one.kept in
      let next : Going = more.0 in
      let longer = goes_grow version_limits h next r (joined more.1.drawn ++ []) [] (more.1.goes []) in
      let has = kept_has key h.journal h.journal next.journal (since y.2 middle) (more.4.stops.kept p.rests) in
      let kept : On x.2 y.2 (HasPublished key) =
      subst (λ k. On x.2 y.2 (HasPublished k)) has_key (step.1 h.journal p.stands_there.owner_is (keyed_rests x.0.key key h.journal (shown x.2) (may_leave x.2) has_key p.rests)) in
      let earlier = p.order in
      let later = one.later in
      record {
        going = next;
        stands_there = more.2;
        order = omega (arith, earlier, later);
        grown = prefix_trans m h.journal next.journal p.grown longer;
        rests = more.4.rests p.rests;
        kept = further_kept x p y.2 kept has;
        has = further_has x p y.2 one.time has;
      }

  -- all was answered
  pub all_publish : (asked : List Request) (given : List Reply) → Answered Goes start asked given end → LinesPublish key m (since end.2 (moment start.2)) (On start.2 end.2)
  all_publish asked given answers = let p = published_to asked given end answers in record { kept = p.kept; has = p.has }

  -- the last command met a fault
  pub stop_publish : (fault : ApplyFault) (asked : List Request) (given : List Reply) (x : OwnerView × R × D) → Answered Goes start asked given x → (r : Request) → Meets x r fault end
      → LinesPublish key m (since end.2 (moment start.2)) (On start.2 end.2)
  stop_publish fault asked given x answers r meets =
      let p = published_to asked given x answers in
      let j = p.going.journal in
      let has_key = p.stands_there.has_key in
      let owner_is = p.stands_there.owner_is in
      let rests = keyed_rests x.0.key key j (shown x.2) (may_leave x.2) has_key p.rests in
      let has = subst (λ k. KeepsBatches k j (since end.2 (moment x.2))) has_key
      (failed_has fault j (Commanded r) x.0 end.0 (left x.1) (left end.1) (shown x.2) (shown end.2) (may_leave x.2) (may_leave end.2) (since end.2 (moment x.2)) (meets.0.answers j owner_is) rests) in
      record {
        kept = further_kept x p end.2 (subst (λ k. On x.2 end.2 (HasPublished k)) has_key (meets.2 j owner_is rests)) has;
        has = further_has x p end.2 meets.0.time has;
      }

  pub publish_lines : (result : Result (Unit {0}) ScriptFault) → Ran Goes Meets Stood result start end old new left_before left_after out_before out_after
      → LinesPublish key m (since end.2 (moment start.2)) (On start.2 end.2)
  publish_lines (Ok tt) ran = all_publish ran.went.asked ran.went.replies ran.went.stands
  publish_lines (Err (BadLine line)) ran = all_publish ran.went.asked ran.went.replies ran.went.stands
  publish_lines (Err ReadFault) ran = all_publish ran.went.asked ran.went.replies ran.went.stands
  publish_lines (Err WriteFault) ran = all_publish ran.went.asked ran.went.replies ran.went.stands
  publish_lines (Err OutOfMemory) ran = all_publish ran.went.asked ran.went.replies ran.went.stands
  publish_lines (Err (Applying fault)) ran = stop_publish fault ran.went.stands.1 ran.went.replies ran.went.stands.0 ran.went.stands.4 ran.went.stands.2 ran.went.stands.5
