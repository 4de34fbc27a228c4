-- What the lines of a run leave of the random source and of the disk, however they end.
use Rattle.std.proofs.Common.{◌≡◌, ◌≢◌, ◌≤◌, ◌<◌, ℕ, List, [], length, Option, Some, Result, Ok, Err, arith, refl, subst, sym, ◌∙◌}
use Rattle.std.proofs.lemmas.List.{append-nil}
use Rattle.std.specs.Prelude.{is_some}
use Rattle.cry_base.specs.Requests.{Request}
use Rattle.batch_log.specs.Moments.{FromThenOn}
use Rattle.batch_log.proofs.Moments.{goes_on_then}
use Rattle.commit_journal.specs.Holding.{GoesOn as TimeGoesOn}
use Rattle.cry_base.specs.declared.commands.Reply.{Reply}
use Rattle.cry_base.specs.declared.limits.Limits.{Limits}
use Rattle.cry_io.specs.Stops.{IsDurable}
use Rattle.journal_bytes.specs.Bytes.{image_of}
use Rattle.journal_bytes.specs.Journals.{StandsWholeForJournal}
use Rattle.journal_bytes.specs.Keys.{AreWhole}
use Rattle.journal_bytes.specs.Script.{opened}
use Rattle.cli_base.specs.Lines.{LineState, lines_ahead}
use Rattle.cli_sessions.specs.OwnerSteps.{AnswersIn, FailsIn, Scene, StandsIn}
use Rattle.cli_sessions.specs.Sessions.{Ends, KeepsFrom, RanDry, ended_status, script_status, version_limits}
use Rattle.cli_sessions.specs.Script.{Answered, Ran, StaysReady, answered_in}
use Rattle.cli_sessions.specs.Script.Blocks.{NoLine}
use Rattle.cli_sessions.specs.Stopping.{LinesKeepUpTo}
use Rattle.cli_sessions.specs.declared.script.ScriptFault.{ScriptFault}
use Rattle.cli_sessions.specs.declared.script.ScriptFault.TheVariants.{BadLine, ReadFault, WriteFault, OutOfMemory, Applying}
use Rattle.cli_base.specs.declared.status.Status.TheVariants as statuses
use Rattle.cli_sessions.proofs.AnsweredScripts.{counts_rise, key_stays, keys_taken, time_goes, told_stays}
use Rattle.cli_sessions.proofs.RunEnds.{IsCalm, ends_as, ran_none, still_told}
use Rattle.cli_sessions.proofs.ScriptLemmas.{same_told}
use Rattle.public_fold.specs.Journal.{Journal}
use Rattle.store_owner.specs.Deeds.Deed.{Commanded}
use Rattle.store_owner.specs.Owned.{OwnerView}
use Rattle.store_owner.specs.Published.{PublishesOn}
use Rattle.store_owner.specs.Sessions.{StandsAt}
use Rattle.store_owner.specs.Stopping.{RestsAt}
use Rattle.store_owner.specs.Taking.{TakesKeys, keys_planned}
use Rattle.store_owner.specs.declared.apply_fault.ApplyFault.{ApplyFault}
use Rattle.store_owner.specs.declared.apply_fault.ApplyFault.TheVariants as faults

-- an owner and a disk that stand where a session over m begins
pub rests_there : (limits : Limits) (key : List ℕ) (m : Journal) (o : OwnerView) (shown : Option (List ℕ)) (may_leave : List ℕ → Type 0) → StandsAt limits key (opened m []) o shown
    → IsDurable may_leave shown → RestsAt key m shown may_leave
unfolding opened
rests_there limits key m o shown may_leave stands durable =
    let whole : StandsWholeForJournal key m stands.disk_stands.0 =
    record { valid = stands.owner_is.valid; whole_keys = subst (λ k. AreWhole k m) stands.has_key stands.owner_is.whole_keys; stands = stands.disk_stands.2 } in
    record { shows = (stands.disk_stands.0, stands.disk_stands.1, whole); durable = durable }

module _ (R D : Type 0) (left : R → Option (List ℕ)) (random_faults : R → ℕ) (shown : D → Option (List ℕ)) (disk_faults : D → ℕ)
    (may_leave : D → List ℕ → Type 0) (moment : D → ℕ) (since : D → ℕ → List ℕ → List ℕ → Type 0) where
  abbrev pub scene : OwnerView × R × D → Scene
  scene x = record { owner = x.0; left = left x.1; shown = shown x.2; moment = moment x.2; random_faults = random_faults x.1; disk_faults = disk_faults x.2 }

  abbrev pub leaves : OwnerView × R × D → List ℕ → Type 0
  leaves x = may_leave x.2

  abbrev pub moments : OwnerView × R × D → ℕ → List ℕ → List ℕ → Type 0
  moments x = since x.2

  abbrev pub Step : OwnerView × R × D → Request → Reply → OwnerView × R × D → Type 0
  Step x request reply y = AnswersIn (scene x) request reply (scene y) (may_leave x.2) (may_leave y.2) (since x.2) (since y.2)
      × PublishesOn x.0 (shown x.2) (may_leave x.2) (FromThenOn moment since x.2 y.2)

  abbrev pub Fails : OwnerView × R × D → Request → ApplyFault → OwnerView × R × D → Type 0
  Fails x request fault y = FailsIn (scene x) request fault (scene y) (may_leave x.2) (may_leave y.2) (since x.2) (since y.2)
      × (fault ≢ faults.DiskFault → IsDurable (may_leave y.2) (shown y.2))
      × PublishesOn x.0 (shown x.2) (may_leave x.2) (FromThenOn moment since x.2 y.2)

  abbrev pub Stand : OwnerView × R × D → ℕ → List Request → Type 0
  Stand x = StandsIn x.0

  -- what the disk tells of its present moment
  abbrev pub IsPresent : Type 0
  IsPresent = (d : D) (s c : List ℕ) → since d (moment d) s c → (shown d ≡ Some s) × may_leave d c

  abbrev pub IsCounted : Type 0
  IsCounted = (d : D) (t : ℕ) (s c : List ℕ) → t ≤ moment d → shown d ≡ Some s → may_leave d c → since d t s c

  -- ---- a session that is asked nothing

  pub ends_none : IsPresent → (x : OwnerView × R × D) (old : LineState) (typed written : Option (List ℕ)) (b : List ℕ) → typed ≡ Some b
      → (key : List ℕ) (m : Journal) (first_shown : Option (List ℕ)) → StandsAt version_limits key (opened m []) x.0 (shown x.2)
      → IsDurable (may_leave x.2) (shown x.2) → KeepsFrom (length (image_of key m)) first_shown (shown x.2)
      → Ends statuses.NeedsUpgrade version_limits key m [] (lines_ahead old b)
      (record { left_before = left x.1; left_after = left x.1; was = first_shown; shown = shown x.2; written_before = written; written_after = written })
      (may_leave x.2) (LinesKeepUpTo key m (shown x.2) (shown x.2) (since x.2 (moment x.2)))
  ends_none present x old typed written b was key m first_shown stands durable kept =
      let rests = rests_there version_limits key m x.0 (shown x.2) (may_leave x.2) stands durable in
      let run = ran_none (OwnerView × R × D) scene leaves moments Step Fails Stand (λ y n commands so. so) (λ y r reply z step. step.0) (λ y r fault z failed. failed.0) version_limits key m x x stands
      (present x.2) rests first_shown kept old old typed typed written written b b was was NoLine (λ y z a c. same_told written y z a c ∙ sym (append-nil y)) durable (lines_ahead old b) in
      (refl, run.0, run.1)

  module _ (start end : OwnerView × R × D) (old new : LineState) (left_before left_after out_before out_after : Option (List ℕ)) where
    abbrev HasRan : Result (Unit {0}) ScriptFault → Type 0
    HasRan result = Ran Step Fails Stand result start end old new left_before left_after out_before out_after

    -- what is told stays told, and no count falls
    abbrev GoesOn : Type 0
    GoesOn = (is_some (left end.1) ≡ is_some (left start.1)) × (is_some (shown end.2) ≡ is_some (shown start.2))
        × (random_faults start.1 ≤ random_faults end.1) × (disk_faults start.2 ≤ disk_faults end.2)

    -- time goes on
    abbrev TimeGoes : Type 0
    TimeGoes = (moment start.2 ≤ moment end.2) × TimeGoesOn (moment start.2) (since start.2) (since end.2)

    time_to : IsPresent → IsCounted → (asked : List Request) (given : List Reply) (x : OwnerView × R × D) → Answered Step start asked given x
        → (moment start.2 ≤ moment x.2) × TimeGoesOn (moment start.2) (since start.2) (since x.2)
    time_to present counted asked given x answers =
        time_goes (OwnerView × R × D) scene leaves moments Step (λ z r reply y step. step.0) start (present start.2) (counted start.2) asked given x answers

    answered_on : (asked : List Request) (given : List Reply) → Answered Step start asked given end → GoesOn
    answered_on asked given answers =
        let told = told_stays (OwnerView × R × D) scene leaves moments Step (λ x r reply y step. step.0) start asked given end answers in
        let counts = counts_rise (OwnerView × R × D) scene leaves moments Step (λ x r reply y step. step.0) start asked given end answers in
        (told.0, told.1, counts.0, counts.1)

    -- where all lines were answered the owner has the key that it had
    pub same_key : HasRan (Ok tt) → end.0.key ≡ start.0.key
    same_key ran = key_stays (OwnerView × R × D) scene leaves moments Step (λ x r reply y step. step.0) start ran.went.asked ran.went.replies end ran.went.stands

    -- the last command met a fault
    pub record Stops (fault : ApplyFault) : Type 0 where
      pub x : OwnerView × R × D
      pub request : Request
      pub left_told : is_some (left x.1) ≡ is_some (left start.1)
      pub shown_told : is_some (shown x.2) ≡ is_some (shown start.2)
      pub random_counts : random_faults start.1 ≤ random_faults x.1
      pub disk_counts : disk_faults start.2 ≤ disk_faults x.2
      pub taken : TakesKeys (left start.1) (left x.1)
      pub failed : FailsIn (scene x) request fault (scene end) (may_leave x.2) (may_leave end.2) (since x.2) (since end.2)

    stops : (fault : ApplyFault) → HasRan (Err (Applying fault)) → Stops fault
    stops fault ran =
        let x : OwnerView × R × D = ran.went.stands.0 in
        let told = told_stays (OwnerView × R × D) scene leaves moments Step (λ z r reply y step. step.0) start ran.went.stands.1 ran.went.replies x ran.went.stands.4 in
        let counts = counts_rise (OwnerView × R × D) scene leaves moments Step (λ z r reply y step. step.0) start ran.went.stands.1 ran.went.replies x ran.went.stands.4 in
        record {
          x = x;
          request = ran.went.stands.2;
          left_told = told.0;
          shown_told = told.1;
          random_counts = counts.0;
          disk_counts = counts.1;
          taken = keys_taken (OwnerView × R × D) scene leaves moments Step (λ z r reply y step. step.0) start ran.went.stands.1 ran.went.replies x ran.went.stands.4;
          failed = ran.went.stands.5.0;
        }

    pub goes_on : (result : Result (Unit {0}) ScriptFault) → HasRan result → GoesOn
    goes_on (Ok tt) ran = answered_on ran.went.asked ran.went.replies ran.went.stands
    goes_on (Err (BadLine line)) ran = answered_on ran.went.asked ran.went.replies ran.went.stands
    goes_on (Err ReadFault) ran = answered_on ran.went.asked ran.went.replies ran.went.stands
    goes_on (Err WriteFault) ran = answered_on ran.went.asked ran.went.replies ran.went.stands
    goes_on (Err OutOfMemory) ran = answered_on ran.went.asked ran.went.replies ran.went.stands
    goes_on (Err (Applying fault)) ran =
        let s = stops fault ran in (
          s.failed.left_told ∙ s.left_told,
          s.failed.shown_told ∙ s.shown_told,
          omega (arith, s.random_counts, s.failed.random_counts),
          omega (arith, s.disk_counts, s.failed.disk_counts),
        )

    pub time_goes_on : IsPresent → IsCounted → (result : Result (Unit {0}) ScriptFault) → HasRan result → TimeGoes
    time_goes_on present counted (Ok tt) ran = time_to present counted ran.went.asked ran.went.replies end ran.went.stands
    time_goes_on present counted (Err (BadLine line)) ran = time_to present counted ran.went.asked ran.went.replies end ran.went.stands
    time_goes_on present counted (Err ReadFault) ran = time_to present counted ran.went.asked ran.went.replies end ran.went.stands
    time_goes_on present counted (Err WriteFault) ran = time_to present counted ran.went.asked ran.went.replies end ran.went.stands
    time_goes_on present counted (Err OutOfMemory) ran = time_to present counted ran.went.asked ran.went.replies end ran.went.stands
    time_goes_on present counted (Err (Applying fault)) ran =
        let x : OwnerView × R × D = ran.went.stands.0 in
        let before = time_to present counted ran.went.stands.1 ran.went.replies x ran.went.stands.4 in
        let failed = ran.went.stands.5.0 in
        (omega (arith, before.0, failed.later), goes_on_then (moment start.2) (moment x.2) (since start.2) (since x.2) (since end.2) before.0 before.1 failed.time)

    random_rose : HasRan (Err (Applying faults.RandomFault)) → random_faults start.1 < random_faults end.1
    random_rose ran = let s = stops faults.RandomFault ran in omega (arith, s.random_counts, s.failed.random_fault refl)

    disk_rose : HasRan (Err (Applying faults.DiskFault)) → disk_faults start.2 < disk_faults end.2
    disk_rose ran = let s = stops faults.DiskFault ran in omega (arith, s.disk_counts, s.failed.disk_fault refl)

    -- the random source ended in the last command's draw
    ran_dry : (given wanted : ℕ) → HasRan (Err (Applying (faults.RandomShort given wanted))) → RanDry given wanted (left start.1) (left end.1)
    ran_dry given wanted ran =
        let s = stops (faults.RandomShort given wanted) ran in
        let short = s.failed.short given wanted refl in
        record {
          drawn = s.taken.drawn;
          drawn_sizes = s.taken.drawn_sizes;
          keys = keys_planned s.x.0 short.at (Commanded s.request);
          is_need = short.is_need short.at short.seen;
          is_short = short.is_short;
          were_left = λ b was.
              let middle = still_told (left s.x.1) (left start.1) b s.left_told was in
              (middle.0, s.taken.next_bytes b middle.0 was middle.1, short.were_left middle.0 middle.1);
          nothing_left = short.nothing_left;
        }

    pub random_short : (fault : ScriptFault) → HasRan (Err fault) → (given wanted : ℕ) → script_status fault ≡ statuses.RandomShort given wanted → RanDry given wanted (left start.1) (left end.1)
    random_short (BadLine line) ran given wanted e = absurd cc
    random_short ReadFault ran given wanted e = absurd cc
    random_short WriteFault ran given wanted e = absurd cc
    random_short OutOfMemory ran given wanted e = absurd cc
    random_short (Applying faults.RandomFault) ran given wanted e = absurd cc
    random_short (Applying (faults.RandomShort had needed)) ran given wanted e =
        let same_left : had ≡ given = cc in
        let same_need : needed ≡ wanted = cc in
        subst (λ n. RanDry n wanted (left start.1) (left end.1)) same_left (subst (λ n. RanDry had n (left start.1) (left end.1)) same_need (ran_dry had needed ran))
    random_short (Applying faults.DiskFault) ran given wanted e = absurd cc
    random_short (Applying faults.Closed) ran given wanted e = absurd cc
    random_short (Applying faults.OutOfMemory) ran given wanted e = absurd cc

    pub random_fault : (fault : ScriptFault) → HasRan (Err fault) → script_status fault ≡ statuses.RandomFault → random_faults start.1 < random_faults end.1
    random_fault (BadLine line) ran e = absurd cc
    random_fault ReadFault ran e = absurd cc
    random_fault WriteFault ran e = absurd cc
    random_fault OutOfMemory ran e = absurd cc
    random_fault (Applying faults.RandomFault) ran e = random_rose ran
    random_fault (Applying (faults.RandomShort given need)) ran e = absurd cc
    random_fault (Applying faults.DiskFault) ran e = absurd cc
    random_fault (Applying faults.Closed) ran e = absurd cc
    random_fault (Applying faults.OutOfMemory) ran e = absurd cc

    pub disk_fault : (fault : ScriptFault) → HasRan (Err fault) → script_status fault ≡ statuses.DiskFault → disk_faults start.2 < disk_faults end.2
    disk_fault (BadLine line) ran e = absurd cc
    disk_fault ReadFault ran e = absurd cc
    disk_fault WriteFault ran e = absurd cc
    disk_fault OutOfMemory ran e = absurd cc
    disk_fault (Applying faults.RandomFault) ran e = absurd cc
    disk_fault (Applying (faults.RandomShort given need)) ran e = absurd cc
    disk_fault (Applying faults.DiskFault) ran e = disk_rose ran
    disk_fault (Applying faults.Closed) ran e = absurd ((stops faults.Closed ran).failed.never_closed refl)
    disk_fault (Applying faults.OutOfMemory) ran e = absurd cc

    abbrev Calm : Type 0
    Calm = IsDurable (may_leave end.2) (shown end.2)

    -- a stop leaves what is shown, unless the last command met a fault of the disk
    pub calm_is : (A B : Type 0) (result : Result (Unit {0}) ScriptFault) → HasRan result → StaysReady (A × B × Calm) result → IsCalm (may_leave end.2) (shown end.2) result
    calm_is A B (Ok tt) ran ready = ready.2
    calm_is A B (Err (BadLine line)) ran ready = ready.2
    calm_is A B (Err ReadFault) ran ready = ready.2
    calm_is A B (Err WriteFault) ran ready = ready.2
    calm_is A B (Err OutOfMemory) ran ready = ready.2
    calm_is A B (Err (Applying faults.RandomFault)) ran ready = ran.went.stands.5.1 (λ e. absurd cc)
    calm_is A B (Err (Applying (faults.RandomShort given need))) ran ready = ran.went.stands.5.1 (λ e. absurd cc)
    calm_is A B (Err (Applying faults.DiskFault)) ran ready = tt
    calm_is A B (Err (Applying faults.Closed)) ran ready = ran.went.stands.5.1 (λ e. absurd cc)
    calm_is A B (Err (Applying faults.OutOfMemory)) ran ready = ran.went.stands.5.1 (λ e. absurd cc)

    pub calm_but : (fault : ScriptFault) → IsCalm (may_leave end.2) (shown end.2) (Err fault) → script_status fault ≢ statuses.DiskFault → Calm
    calm_but (BadLine line) calm other = calm
    calm_but ReadFault calm other = calm
    calm_but WriteFault calm other = calm
    calm_but OutOfMemory calm other = calm
    calm_but (Applying faults.RandomFault) calm other = calm
    calm_but (Applying (faults.RandomShort given need)) calm other = calm
    calm_but (Applying faults.DiskFault) calm other = absurd (other refl)
    calm_but (Applying faults.Closed) calm other = calm
    calm_but (Applying faults.OutOfMemory) calm other = calm

    -- on a disk that shows a journal, where the input tells
    pub ends_so : IsPresent → (result : Result (Unit {0}) ScriptFault) (ran : HasRan result) → IsCalm (may_leave end.2) (shown end.2) result → old.given ≡ 1 → is_some left_after ≡ is_some left_before
        → (b : List ℕ) → left_before ≡ Some b → (key : List ℕ) (m : Journal) (first_shown : Option (List ℕ)) → StandsAt version_limits key (opened m []) start.0 (shown start.2)
        → IsDurable (may_leave start.2) (shown start.2) → KeepsFrom (length (image_of key m)) first_shown (shown start.2)
        → Ends (ended_status result) version_limits key m (answered_in Step Fails Stand result start end ran.went) (lines_ahead old b)
        (record { left_before = left start.1; left_after = left end.1; was = first_shown; shown = shown end.2; written_before = out_before; written_after = out_after })
        (may_leave end.2) (LinesKeepUpTo key m (shown start.2) (shown end.2) (since end.2 (moment start.2)))
    ends_so present result ran calm first told b was key m first_shown stands durable kept =
        let after = still_told left_after left_before b told was in
        let rests = rests_there version_limits key m start.0 (shown start.2) (may_leave start.2) stands durable in
        ends_as (OwnerView × R × D) scene leaves moments Step Fails Stand (λ x n commands so. so) (λ x r reply y step. step.0) (λ x r fault y failed. failed.0) version_limits key m start end stands
        (present start.2) rests first_shown kept
        old new left_before left_after out_before out_after b after.0 was after.1 result ran first calm
