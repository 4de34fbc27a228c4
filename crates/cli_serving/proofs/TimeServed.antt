-- What the lines of `serve` leave of the random source and of the disk, however they end.
use Rattle.std.proofs.Common.{◌≡◌, ◌≢◌, ◌≤◌, ◌<◌, ℕ, List, Option, Result, Ok, Err, arith, ap, refl, subst, sym, ◌∙◌}
use Rattle.std.specs.Prelude.{is_some}
use Rattle.batch_log.proofs.Moments.{goes_on_then}
use Rattle.commit_journal.specs.Holding.{GoesOn as TimeGoesOn}
use Rattle.cry_base.specs.Requests.{Request}
use Rattle.cry_base.specs.declared.commands.Reply.{Reply}
use Rattle.cry_io.specs.Stops.{IsDurable}
use Rattle.log_visits.specs.declared.fault.ClientFault.TheVariants as client
use Rattle.script_text.specs.Seats.{Turn}
use Rattle.store_owner.specs.Deeds.Deed.{Commanded}
use Rattle.store_owner.specs.Owned.{OwnerView}
use Rattle.store_owner.specs.Taking.{TakesKeys, keys_planned}
use Rattle.store_owner.specs.declared.apply_fault.ApplyFault.{ApplyFault}
use Rattle.store_owner.specs.declared.apply_fault.ApplyFault.TheVariants as faults
use Rattle.cli_base.specs.declared.status.Status.TheVariants as statuses
use Rattle.cli_sessions.specs.OwnerSteps.{Scene}
use Rattle.cli_sessions.specs.Script.{Answered}
use Rattle.cli_sessions.specs.Sessions.{RanDry}
use Rattle.cli_sessions.specs.declared.script.ScriptFault.TheVariants as script
use Rattle.cli_sessions.proofs.AnsweredScripts.{counts_rise, keys_taken, time_goes, told_stays}
use Rattle.cli_sessions.proofs.RunEnds.{still_told}
use Rattle.cli_sessions.proofs.RunLemmas.{IsCounted, IsPresent, leaves, moments, scene}
use Rattle.cli_serving.specs.Lines.{serve_status}
use Rattle.cli_serving.specs.Taking.{CountsReading}
use Rattle.cli_serving.specs.TurnAnswers.{StaysServing}
use Rattle.cli_serving.specs.declared.serve_fault.ServeFault.{ServeFault}
use Rattle.cli_serving.specs.declared.serve_fault.ServeFault.TheVariants as serve
use Rattle.cli_serving.proofs.TurnsKept.{EndsSo, Goes, Means, Meets, Rested, Sees, Stopped, WentSo, ended_by, turned_so}

module _ (R D : Type 0) (left : R → Option (List ℕ)) (random_faults : R → ℕ) (shown : D → Option (List ℕ)) (disk_faults : D → ℕ)
    (may_leave : D → List ℕ → Type 0) (moment : D → ℕ) (since : D → ℕ → List ℕ → List ℕ → Type 0)
    (present : IsPresent R D left random_faults shown disk_faults may_leave moment since) (counted : IsCounted R D left random_faults shown disk_faults may_leave moment since)
    (start end : OwnerView × R × D) (turns : List Turn) (asked : List Request) (before after : Option (List ℕ)) where
  abbrev X : Type 0
  X = OwnerView × R × D

  abbrev Steps : X → Request → Reply → X → Type 0
  Steps = Goes R D left random_faults shown disk_faults may_leave moment since

  abbrev place : X → Scene
  place = scene R D left random_faults shown disk_faults may_leave moment since

  abbrev may : X → List ℕ → Type 0
  may = leaves R D left random_faults shown disk_faults may_leave moment since

  abbrev times : X → ℕ → List ℕ → List ℕ → Type 0
  times = moments R D left random_faults shown disk_faults may_leave moment since

  abbrev HasRested : Type 0
  HasRested = Rested X Steps (Meets R D left random_faults shown disk_faults may_leave moment since) (Sees R D left random_faults shown disk_faults may_leave moment since) start end

  abbrev HasStopped : ApplyFault → Type 0
  HasStopped fault = Stopped X Steps (Meets R D left random_faults shown disk_faults may_leave moment since) (Sees R D left random_faults shown disk_faults may_leave moment since) start fault end

  abbrev HasWent : Result (Unit {0}) ServeFault → Type 0
  HasWent result = WentSo R D left random_faults shown disk_faults may_leave moment since result start end turns asked before after

  abbrev HasEnded : Result (Unit {0}) ServeFault → Type 0
  HasEnded result = EndsSo R D left random_faults shown disk_faults may_leave moment since result start end

  ended : (result : Result (Unit {0}) ServeFault) → HasWent result → HasEnded result
  ended result went = ended_by R D left random_faults shown disk_faults may_leave moment since present counted start end turns asked before after result went

  -- ---- what is told stays told, and no count falls

  abbrev GoesOn : X → Type 0
  GoesOn x = (is_some (left x.1) ≡ is_some (left start.1)) × (is_some (shown x.2) ≡ is_some (shown start.2))
      × (random_faults start.1 ≤ random_faults x.1) × (disk_faults start.2 ≤ disk_faults x.2)

  answered_on : (some : List Request) (given : List Reply) (x : X) → Answered Steps start some given x → GoesOn x
  answered_on some given x answers =
      let told = told_stays X place may times Steps (λ x r reply y step. step.0) start some given x answers in
      let counts = counts_rise X place may times Steps (λ x r reply y step. step.0) start some given x answers in
      (told.0, told.1, counts.0, counts.1)

  rested_on : HasRested → GoesOn end
  rested_on all =
      let z : X = all.z in
      let on = answered_on all.asked all.given z all.answered in
      let same_source : end.1 ≡ z.1 = all.read.1 in
      let counts = all.read.2.counts in (
        ap (λ (r : R). is_some (left r)) same_source ∙ on.0,
        ap is_some all.read.2.same.shows ∙ on.1,
        subst (λ (r : R). random_faults start.1 ≤ random_faults r) (sym same_source) on.2,
        omega (arith, on.3, counts),
      )

  stopped_on : (fault : ApplyFault) → HasStopped fault → GoesOn end
  stopped_on fault stop =
      let z : X = stop.z in
      let on = answered_on stop.asked stop.given z stop.answered in
      let failed = stop.failed.0 in (
        failed.left_told ∙ on.0,
        failed.shown_told ∙ on.1,
        (let one = failed.random_counts in omega (arith, on.2, one)),
        (let one = failed.disk_counts in omega (arith, on.3, one)),
      )

  ended_on : (result : Result (Unit {0}) ServeFault) → HasEnded result → GoesOn end
  ended_on (Ok tt) all = rested_on all
  ended_on (Err (serve.Reading met)) all = rested_on all
  ended_on (Err (serve.Script (script.BadLine line))) all = rested_on all
  ended_on (Err (serve.Script script.ReadFault)) all = rested_on all
  ended_on (Err (serve.Script script.WriteFault)) all = rested_on all
  ended_on (Err (serve.Script script.OutOfMemory)) all = rested_on all
  ended_on (Err (serve.Script (script.Applying fault))) stop = stopped_on fault stop

  pub serve_goes_on : (result : Result (Unit {0}) ServeFault) → HasWent result → GoesOn end
  serve_goes_on result went = ended_on result (ended result went)

  -- ---- time goes on

  abbrev TimeGoes : X → Type 0
  TimeGoes x = (moment start.2 ≤ moment x.2) × TimeGoesOn (moment start.2) (since start.2) (since x.2)

  time_to : (some : List Request) (given : List Reply) (x : X) → Answered Steps start some given x → TimeGoes x
  time_to some given x answers = time_goes X place may times Steps (λ z r reply y step. step.0) start (present start.2) (counted start.2) some given x answers

  time_then : (z : X) → TimeGoes z → moment z.2 ≤ moment end.2 → TimeGoesOn (moment z.2) (since z.2) (since end.2) → TimeGoes end
  time_then z so_far later time =
      let first = so_far.0 in
      (omega (arith, first, later), goes_on_then (moment start.2) (moment z.2) (since start.2) (since z.2) (since end.2) first so_far.1 time)

  time_rested : HasRested → TimeGoes end
  time_rested all = time_then all.z (time_to all.asked all.given all.z all.answered) all.read.2.same.later all.read.2.same.time

  time_stopped : (fault : ApplyFault) → HasStopped fault → TimeGoes end
  time_stopped fault stop = time_then stop.z (time_to stop.asked stop.given stop.z stop.answered) stop.failed.0.later stop.failed.0.time

  time_ended : (result : Result (Unit {0}) ServeFault) → HasEnded result → TimeGoes end
  time_ended (Ok tt) all = time_rested all
  time_ended (Err (serve.Reading met)) all = time_rested all
  time_ended (Err (serve.Script (script.BadLine line))) all = time_rested all
  time_ended (Err (serve.Script script.ReadFault)) all = time_rested all
  time_ended (Err (serve.Script script.WriteFault)) all = time_rested all
  time_ended (Err (serve.Script script.OutOfMemory)) all = time_rested all
  time_ended (Err (serve.Script (script.Applying fault))) stop = time_stopped fault stop

  pub serve_time : (result : Result (Unit {0}) ServeFault) → HasWent result → TimeGoes end
  serve_time result went = time_ended result (ended result went)

  -- ---- the random source

  -- it ended in the last command's draw
  stopped_dry : (given wanted : ℕ) → HasStopped (faults.RandomShort given wanted) → RanDry given wanted (left start.1) (left end.1)
  stopped_dry given wanted stop =
      let z : X = stop.z in
      let on = answered_on stop.asked stop.given z stop.answered in
      let taken : TakesKeys (left start.1) (left z.1) = keys_taken X place may times Steps (λ x r reply y step. step.0) start stop.asked stop.given z stop.answered in
      let short = stop.failed.0.short given wanted refl in
      record {
        drawn = taken.drawn;
        drawn_sizes = taken.drawn_sizes;
        keys = keys_planned z.0 short.at (Commanded stop.next);
        is_need = short.is_need short.at short.seen;
        is_short = short.is_short;
        were_left = λ b was.
            let middle = still_told (left z.1) (left start.1) b on.0 was in
            (middle.0, taken.next_bytes b middle.0 was middle.1, short.were_left middle.0 middle.1);
        nothing_left = short.nothing_left;
      }

  ended_dry : (result : Result (Unit {0}) ServeFault) → HasEnded result → (given wanted : ℕ) → serve_status result ≡ statuses.RandomShort given wanted
      → RanDry given wanted (left start.1) (left end.1)
  ended_dry (Ok tt) all given wanted e = absurd cc
  ended_dry (Err (serve.Reading client.NotAStore)) all given wanted e = absurd cc
  ended_dry (Err (serve.Reading client.WrongKey)) all given wanted e = absurd cc
  ended_dry (Err (serve.Reading (client.Damaged at))) all given wanted e = absurd cc
  ended_dry (Err (serve.Reading (client.Tampered batch at))) all given wanted e = absurd cc
  ended_dry (Err (serve.Reading (client.NoHolder known))) all given wanted e = absurd cc
  ended_dry (Err (serve.Reading client.Unseen)) all given wanted e = absurd cc
  ended_dry (Err (serve.Reading client.DiskFault)) all given wanted e = absurd cc
  ended_dry (Err (serve.Reading client.OutOfMemory)) all given wanted e = absurd cc
  ended_dry (Err (serve.Script (script.BadLine line))) all given wanted e = absurd cc
  ended_dry (Err (serve.Script script.ReadFault)) all given wanted e = absurd cc
  ended_dry (Err (serve.Script script.WriteFault)) all given wanted e = absurd cc
  ended_dry (Err (serve.Script script.OutOfMemory)) all given wanted e = absurd cc
  ended_dry (Err (serve.Script (script.Applying faults.RandomFault))) stop given wanted e = absurd cc
  ended_dry (Err (serve.Script (script.Applying (faults.RandomShort had needed)))) stop given wanted e =
      let same_left : had ≡ given = cc in
      let same_need : needed ≡ wanted = cc in
      subst (λ n. RanDry n wanted (left start.1) (left end.1)) same_left (subst (λ n. RanDry had n (left start.1) (left end.1)) same_need (stopped_dry had needed stop))
  ended_dry (Err (serve.Script (script.Applying faults.DiskFault))) stop given wanted e = absurd cc
  ended_dry (Err (serve.Script (script.Applying faults.Closed))) stop given wanted e = absurd cc
  ended_dry (Err (serve.Script (script.Applying faults.OutOfMemory))) stop given wanted e = absurd cc

  pub serve_short : (result : Result (Unit {0}) ServeFault) → HasWent result → (given wanted : ℕ) → serve_status result ≡ statuses.RandomShort given wanted
      → RanDry given wanted (left start.1) (left end.1)
  serve_short result went given wanted e = ended_dry result (ended result went) given wanted e

  random_rose : HasStopped faults.RandomFault → random_faults start.1 < random_faults end.1
  random_rose stop =
      let on = answered_on stop.asked stop.given stop.z stop.answered in
      let rose = stop.failed.0.random_fault refl in
      omega (arith, on.2, rose)

  ended_random : (result : Result (Unit {0}) ServeFault) → HasEnded result → serve_status result ≡ statuses.RandomFault → random_faults start.1 < random_faults end.1
  ended_random (Ok tt) all e = absurd cc
  ended_random (Err (serve.Reading client.NotAStore)) all e = absurd cc
  ended_random (Err (serve.Reading client.WrongKey)) all e = absurd cc
  ended_random (Err (serve.Reading (client.Damaged at))) all e = absurd cc
  ended_random (Err (serve.Reading (client.Tampered batch at))) all e = absurd cc
  ended_random (Err (serve.Reading (client.NoHolder known))) all e = absurd cc
  ended_random (Err (serve.Reading client.Unseen)) all e = absurd cc
  ended_random (Err (serve.Reading client.DiskFault)) all e = absurd cc
  ended_random (Err (serve.Reading client.OutOfMemory)) all e = absurd cc
  ended_random (Err (serve.Script (script.BadLine line))) all e = absurd cc
  ended_random (Err (serve.Script script.ReadFault)) all e = absurd cc
  ended_random (Err (serve.Script script.WriteFault)) all e = absurd cc
  ended_random (Err (serve.Script script.OutOfMemory)) all e = absurd cc
  ended_random (Err (serve.Script (script.Applying faults.RandomFault))) stop e = random_rose stop
  ended_random (Err (serve.Script (script.Applying (faults.RandomShort had needed)))) stop e = absurd cc
  ended_random (Err (serve.Script (script.Applying faults.DiskFault))) stop e = absurd cc
  ended_random (Err (serve.Script (script.Applying faults.Closed))) stop e = absurd cc
  ended_random (Err (serve.Script (script.Applying faults.OutOfMemory))) stop e = absurd cc

  pub serve_random_fault : (result : Result (Unit {0}) ServeFault) → HasWent result → serve_status result ≡ statuses.RandomFault → random_faults start.1 < random_faults end.1
  serve_random_fault result went e = ended_random result (ended result went) e

  -- ---- the disk

  abbrev DiskRose : Type 0
  DiskRose = disk_faults start.2 < disk_faults end.2

  disk_rose : HasStopped faults.DiskFault → DiskRose
  disk_rose stop =
      let on = answered_on stop.asked stop.given stop.z stop.answered in
      let rose = stop.failed.0.disk_fault refl in
      omega (arith, on.3, rose)

  -- or a session's reading failed for it
  read_rose : (went : HasWent (Err (serve.Reading client.DiskFault))) → disk_faults went.x.2 < disk_faults end.2 → DiskRose
  read_rose went rose =
      let x : X = went.x in
      let so = turned_so R D left random_faults shown disk_faults may_leave moment since present counted start went.first asked went.text went.sessions x went.turned in
      let z : X = so.1 in
      let on = answered_on asked so.0 z so.2 in
      let counts : disk_faults z.2 ≤ disk_faults x.2 = so.3.2.counts in
      omega (arith, on.3, counts, rose)

  pub serve_disk_fault : (result : Result (Unit {0}) ServeFault) (went : HasWent result)
      → CountsReading Steps (Meets R D left random_faults shown disk_faults may_leave moment since) (Means R D left random_faults shown disk_faults may_leave moment since)
      (Sees R D left random_faults shown disk_faults may_leave moment since) (λ (x : X). shown x.2) (λ (x : X). disk_faults x.2) result start end turns asked before after went
      → serve_status result ≡ statuses.DiskFault → DiskRose
  serve_disk_fault (Ok tt) went failed e = absurd cc
  serve_disk_fault (Err (serve.Reading client.NotAStore)) went failed e = absurd cc
  serve_disk_fault (Err (serve.Reading client.WrongKey)) went failed e = absurd cc
  serve_disk_fault (Err (serve.Reading (client.Damaged at))) went failed e = absurd cc
  serve_disk_fault (Err (serve.Reading (client.Tampered batch at))) went failed e = absurd cc
  serve_disk_fault (Err (serve.Reading (client.NoHolder known))) went failed e = absurd cc
  serve_disk_fault (Err (serve.Reading client.Unseen)) went failed e = absurd cc
  serve_disk_fault (Err (serve.Reading client.DiskFault)) went failed e = read_rose went failed
  serve_disk_fault (Err (serve.Reading client.OutOfMemory)) went failed e = absurd cc
  serve_disk_fault (Err (serve.Script (script.BadLine line))) went failed e = absurd cc
  serve_disk_fault (Err (serve.Script script.ReadFault)) went failed e = absurd cc
  serve_disk_fault (Err (serve.Script script.WriteFault)) went failed e = absurd cc
  serve_disk_fault (Err (serve.Script script.OutOfMemory)) went failed e = absurd cc
  serve_disk_fault (Err (serve.Script (script.Applying faults.RandomFault))) went failed e = absurd cc
  serve_disk_fault (Err (serve.Script (script.Applying (faults.RandomShort had needed)))) went failed e = absurd cc
  serve_disk_fault (Err (serve.Script (script.Applying faults.DiskFault))) went failed e = disk_rose (ended (Err (serve.Script (script.Applying faults.DiskFault))) went)
  serve_disk_fault (Err (serve.Script (script.Applying faults.Closed))) went failed e =
      absurd ((ended (Err (serve.Script (script.Applying faults.Closed))) went).failed.0.never_closed refl)
  serve_disk_fault (Err (serve.Script (script.Applying faults.OutOfMemory))) went failed e = absurd cc

  abbrev Calm : Type 0
  Calm = IsDurable (may_leave end.2) (shown end.2)

  ended_calm : (A B : Type 0) (result : Result (Unit {0}) ServeFault) → HasEnded result → StaysServing (A × B × Calm) result → serve_status result ≢ statuses.DiskFault → Calm
  ended_calm A B (Ok tt) all ready other = ready.2
  ended_calm A B (Err (serve.Reading met)) all ready other = ready.2
  ended_calm A B (Err (serve.Script (script.BadLine line))) all ready other = ready.2
  ended_calm A B (Err (serve.Script script.ReadFault)) all ready other = ready.2
  ended_calm A B (Err (serve.Script script.WriteFault)) all ready other = ready.2
  ended_calm A B (Err (serve.Script script.OutOfMemory)) all ready other = ready.2
  ended_calm A B (Err (serve.Script (script.Applying faults.RandomFault))) stop ready other = stop.failed.1 (λ e. absurd cc)
  ended_calm A B (Err (serve.Script (script.Applying (faults.RandomShort had needed)))) stop ready other = stop.failed.1 (λ e. absurd cc)
  ended_calm A B (Err (serve.Script (script.Applying faults.DiskFault))) stop ready other = absurd (other refl)
  ended_calm A B (Err (serve.Script (script.Applying faults.Closed))) stop ready other = stop.failed.1 (λ e. absurd cc)
  ended_calm A B (Err (serve.Script (script.Applying faults.OutOfMemory))) stop ready other = stop.failed.1 (λ e. absurd cc)

  -- a stop leaves what is shown, unless the disk failed
  pub serve_calm : (A B : Type 0) (result : Result (Unit {0}) ServeFault) → HasWent result → StaysServing (A × B × Calm) result → serve_status result ≢ statuses.DiskFault → Calm
  serve_calm A B result went ready other = ended_calm A B result (ended result went) ready other
