-- What the lines of `serve` tell, in the words of its promise, by what its owner and the sessions did of them.
use Rattle.std.proofs.Common.{◌≡◌, ◌≢◌, ◌≤◌, ◌<◌, ◌⊎◌, ℕ, List, [], length, None, Option, Some, Result, Err, ap, refl, ◌∙◌}
use Rattle.std.specs.Prelude.{is_some}
use Rattle.batch_log.specs.Moments.{FromThenOn}
use Rattle.commit_journal.specs.Holding.{GoesOn as TimeGoesOn}
use Rattle.cry_base.specs.Requests.{Request}
use Rattle.cry_base.specs.declared.commands.Reply.{Reply}
use Rattle.cry_io.proofs.ToldLemmas.{told_again}
use Rattle.cry_io.specs.Reading.{IsOnlyRead}
use Rattle.cry_io.specs.Stops.{IsDurable}
use Rattle.cry_io.specs.Told.{WhereBothTold, WhereTold}
use Rattle.cry_io.specs.declared.disk.Disk as disk
use Rattle.cry_io.specs.declared.streams.Source as source
use Rattle.journal_bytes.specs.Bytes.{image_of}
use Rattle.journal_bytes.specs.Script.{opened}
use Rattle.public_fold.specs.Journal.{Journal}
use Rattle.script_text.specs.Seats.{Turn}
use Rattle.store_owner.specs.Owned.{OwnerView}
use Rattle.store_owner.specs.Sessions.{StandsAt}
use Rattle.store_owner.specs.declared.apply_fault.ApplyFault.{ApplyFault}
use Rattle.cli_base.specs.Lines.{IsUnended, LineState, bytes_ahead, lines_ahead}
use Rattle.cli_base.specs.declared.status.Status.{Status}
use Rattle.cli_base.specs.declared.status.Status.TheVariants as statuses
use Rattle.cli_running.specs.Running.{TakesBehindFirst}
use Rattle.cli_sessions.specs.Acting.{AnswersAt, FailsAt, Place, StandsAt as MeansAt, place_of}
use Rattle.cli_sessions.specs.Opening.{Judges}
use Rattle.cli_sessions.specs.Published.{LinesPublish}
use Rattle.cli_sessions.specs.Sessions.{KeepsFrom, RanDry, seen_from, version_limits}
use Rattle.cli_sessions.specs.Stopping.{LinesKeepUpTo}
use Rattle.cli_sessions.specs.Taking.{HoldsFew}
use Rattle.cli_sessions.specs.declared.script.ScriptFault.TheVariants.{ReadFault}
use Rattle.cli_serving.specs.Lines.{AskNoOwner, BeginsLines, ReadsAll, serve_status, turn_ended}
use Rattle.cli_serving.specs.Promises.Serve.{IsOfReading, TurnsRan}
use Rattle.cli_serving.specs.Serves.{Serves}
use Rattle.cli_serving.specs.Taking.{ServesRan}
use Rattle.cli_serving.specs.TurnAnswers.{OnlyReads, StaysServing}
use Rattle.cli_serving.specs.declared.serve_fault.ServeFault.{ServeFault}
use Rattle.cli_serving.specs.declared.serve_fault.ServeFault.TheVariants.{Script}
use Rattle.cli_serving.proofs.LinesServed.{turns_begun, turns_read, turns_taken, went_judged}
use Rattle.cli_serving.proofs.ServesOver.{serves_over}
use Rattle.cli_serving.proofs.TimeServed.{serve_calm, serve_disk_fault, serve_goes_on, serve_random_fault, serve_short, serve_time}
use Rattle.cli_serving.proofs.TurnsKept.{Goes, Means, Meets, WentSo}
use Rattle.cli_serving.proofs.TurnsMapped.{counts_read, went_mapped, went_read}
use Rattle.cli_serving.proofs.TurnsPublished.{serve_publishes}
use Rattle.cli_serving.proofs.TurnsRead.{lines_only_read}

module _ (R D : Type 0) (randoms : source.Ghosts R) (disks : disk.Ghosts D)
    (only : (d : D) (s c : List ℕ) → disks.since d (disks.moment d) s c → (disks.shown d ≡ Some s) × disks.may_leave d c)
    (counted : (d : D) (t : ℕ) (s c : List ℕ) → t ≤ disks.moment d → disks.shown d ≡ Some s → disks.may_leave d c → disks.since d t s c)
    (itself : (d : D) (s : List ℕ) → disks.shown d ≡ Some s → disks.may_leave d s)
    (start end : OwnerView × R × D) (old new : LineState) (left_before left_after out_before out_after : Option (List ℕ)) where
  abbrev X : Type 0
  X = OwnerView × R × D

  abbrev Does : X → Request → Reply → X → Type 0
  Does = Goes R D randoms.left randoms.faults disks.shown disks.faults disks.may_leave disks.moment disks.since

  abbrev Fails : X → Request → ApplyFault → X → Type 0
  Fails = Meets R D randoms.left randoms.faults disks.shown disks.faults disks.may_leave disks.moment disks.since

  abbrev Stands : X → ℕ → List Request → Type 0
  Stands = Means R D randoms.left randoms.faults disks.shown disks.faults disks.may_leave disks.moment disks.since

  abbrev shows : X → Option (List ℕ)
  shows x = disks.shown x.2

  abbrev counts : X → ℕ
  counts x = disks.faults x.2

  -- what is told where it ends so, over a disk that is durable
  abbrev pub Tells : Status → Type 0
  Tells status = (turns : List Turn) × (asked : List Request)
      × WhereTold left_before (λ left. BeginsLines status turns (lines_ahead old left))
      × (HoldsFew old → WhereBothTold left_before left_after (TakesBehindFirst (bytes_ahead old) (turn_ended status (length turns))))
      × (status ≡ statuses.ReadFault → WhereBothTold left_before left_after (λ before after. ReadsAll turns (lines_ahead old before) (bytes_ahead old before) after))
      × ((key : List ℕ) (m : Journal) (was : Option (List ℕ)) → StandsAt version_limits key (opened m []) start.0 (disks.shown start.2)
      → KeepsFrom (length (image_of key m)) was (disks.shown start.2) → Serves status version_limits key m turns asked
      (seen_from (randoms.left start.1) (randoms.left end.1) was (disks.shown end.2) out_before out_after) (disks.may_leave end.2)
      (LinesKeepUpTo key m (disks.shown start.2) (disks.shown end.2) (disks.since end.2 (disks.moment start.2))))
      × (status ≢ statuses.NeedsUpgrade → TurnsRan status turns asked (place_of start.0 (randoms.left start.1) (disks.shown start.2)) (randoms.left end.1) (disks.shown end.2)
      out_before out_after)
      × (Judges status None ⊎ IsOfReading status turns)
      × (AskNoOwner turns → (end.1 ≡ start.1) × IsOnlyRead disks start.2 end.2)

  module _ (result : Result (Unit {0}) ServeFault)
      (ran : ServesRan Does Fails Stands (OnlyReads disks) shows counts result start end old new left_before left_after out_before out_after) where
    went : WentSo R D randoms.left randoms.faults disks.shown disks.faults disks.may_leave disks.moment disks.since result start end ran.turns ran.asked out_before out_after
    went = went_read R D randoms.left randoms.faults disks only counted Does Fails Stands start end ran.turns ran.asked out_before out_after result ran.went

    -- ---- time, and what is outside

    pub ran_on : (is_some (randoms.left end.1) ≡ is_some (randoms.left start.1)) × (is_some (disks.shown end.2) ≡ is_some (disks.shown start.2))
        × (randoms.faults start.1 ≤ randoms.faults end.1) × (disks.faults start.2 ≤ disks.faults end.2)
    ran_on =
        serve_goes_on R D randoms.left randoms.faults disks.shown disks.faults disks.may_leave disks.moment disks.since only counted
        start end ran.turns ran.asked out_before out_after result went

    pub ran_time : (disks.moment start.2 ≤ disks.moment end.2) × TimeGoesOn (disks.moment start.2) (disks.since start.2) (disks.since end.2)
    ran_time =
        serve_time R D randoms.left randoms.faults disks.shown disks.faults disks.may_leave disks.moment disks.since only counted
        start end ran.turns ran.asked out_before out_after result went

    pub ran_short : (given wanted : ℕ) → serve_status result ≡ statuses.RandomShort given wanted → RanDry given wanted (randoms.left start.1) (randoms.left end.1)
    ran_short =
        serve_short R D randoms.left randoms.faults disks.shown disks.faults disks.may_leave disks.moment disks.since only counted
        start end ran.turns ran.asked out_before out_after result went

    pub ran_random_fault : serve_status result ≡ statuses.RandomFault → randoms.faults start.1 < randoms.faults end.1
    ran_random_fault =
        serve_random_fault R D randoms.left randoms.faults disks.shown disks.faults disks.may_leave disks.moment disks.since only counted
        start end ran.turns ran.asked out_before out_after result went

    pub ran_disk_fault : serve_status result ≡ statuses.DiskFault → disks.faults start.2 < disks.faults end.2
    unfolding went
    ran_disk_fault =
        serve_disk_fault R D randoms.left randoms.faults disks.shown disks.faults disks.may_leave disks.moment disks.since only counted
        start end ran.turns ran.asked out_before out_after result went
        (counts_read R D randoms.left randoms.faults disks only counted Does Fails Stands start end ran.turns ran.asked out_before out_after result ran.went ran.failed)

    pub ran_calm : (A B : Type 0) → StaysServing (A × B × IsDurable (disks.may_leave end.2) (disks.shown end.2)) result → serve_status result ≢ statuses.DiskFault
        → IsDurable (disks.may_leave end.2) (disks.shown end.2)
    ran_calm A B =
        serve_calm R D randoms.left randoms.faults disks.shown disks.faults disks.may_leave disks.moment disks.since only counted
        start end ran.turns ran.asked out_before out_after A B result went

    pub ran_publishes : (key : List ℕ) (m : Journal) → StandsAt version_limits key (opened m []) start.0 (disks.shown start.2) → IsDurable (disks.may_leave start.2) (disks.shown start.2)
        → LinesPublish key m (disks.since end.2 (disks.moment start.2)) (FromThenOn disks.moment disks.since start.2 end.2)
    ran_publishes key m stands durable =
        serve_publishes R D randoms.left randoms.faults disks.shown disks.faults disks.may_leave disks.moment disks.since only counted itself
        start end key m stands durable ran.turns ran.asked out_before out_after result went

    -- ---- the lines, whatever the disk shows

    abbrev place : X → Place
    place x = place_of x.0 (randoms.left x.1) (disks.shown x.2)

    -- what the owner and the sessions did, whatever the owner stands for
    turns_ran : TurnsRan (serve_status result) ran.turns ran.asked (place_of start.0 (randoms.left start.1) (disks.shown start.2)) (randoms.left end.1) (disks.shown end.2) out_before out_after
    turns_ran = record {
      result = result;
      ends_so = refl;
      becomes = end.0;
      went = went_mapped X Place place Does Fails Stands (OnlyReads disks) shows AnswersAt FailsAt MeansAt (λ x y. y ≡ x) (λ (x : Place). x.shown)
          (λ x r reply y step. record { acts = step.0.acts; kept = step.0.kept })
          (λ x r fault y met. record { acts = met.0.acts; unwritten = met.0.unwritten; undrawn = met.0.undrawn; never_closed = met.0.never_closed })
          (λ x n commands so. so)
          (λ x y read. ap (λ (o : OwnerView). place_of o (randoms.left y.1) (disks.shown y.2)) read.owner
          ∙ ap (λ (r : R). place_of x.0 (randoms.left r) (disks.shown y.2)) read.random
          ∙ ap (λ (s : Option (List ℕ)). place_of x.0 (randoms.left x.1) s) read.disk.same_bytes)
          (λ x. refl) start end ran.turns ran.asked out_before out_after result ran.went;
    }

    pub ran_tells : is_some left_after ≡ is_some left_before → old.given ≡ 1 → (result ≡ Err (Script ReadFault) → IsUnended new)
        → IsDurable (disks.may_leave start.2) (disks.shown start.2) → Tells (serve_status result)
    ran_tells told first unended durable = (
      ran.turns,
      ran.asked,
      (λ b was.
          let a = told_again left_before left_after b told was in
          turns_begun ran.turns (lines_ahead old b) (lines_ahead new a.0) result old.given first ran.number (ran.lines b a.0 was a.1)),
      (λ few b a was now. turns_taken (length ran.turns) old new b a result old.given first ran.number (ran.taken b a was now)),
      (λ is b a was now. turns_read result ran.turns old new b a is unended (ran.lines b a was now) (ran.taken b a was now)),
      (λ key m was stands kept.
          serves_over R D randoms.left randoms.faults disks.shown disks.faults disks.may_leave disks.moment disks.since only counted
          start key m stands durable was kept result end ran.turns ran.asked out_before out_after went),
      (λ other. turns_ran),
      went_judged Does Fails Stands (OnlyReads disks) shows start end ran.turns ran.asked out_before out_after result ran.went,
      (λ none.
          let read = lines_only_read OwnerView R D disks Does Fails Stands shows start end ran.turns ran.asked out_before out_after result ran.went none in
          (read.random, read.disk)),
    )
