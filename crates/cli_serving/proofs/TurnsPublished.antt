-- What the lines of `serve` publish, however they end: no stop takes it back.
use Rattle.std.proofs.Common.{◌≡◌, ℕ, List, [], Option, Some, None, Result, Ok, Err}
use Rattle.batch_log.specs.Moments.{FromThenOn}
use Rattle.cry_base.specs.Requests.{Request}
use Rattle.cry_io.specs.Stops.{IsDurable}
use Rattle.journal_bytes.specs.Script.{opened}
use Rattle.public_fold.specs.Journal.{Journal}
use Rattle.script_text.specs.Seats.{Turn}
use Rattle.store_owner.specs.Owned.{OwnerView}
use Rattle.store_owner.specs.Sessions.{StandsAt}
use Rattle.store_owner.specs.declared.apply_fault.ApplyFault.{ApplyFault}
use Rattle.cli_base.proofs.InputLemmas.{fresh_reader}
use Rattle.cli_sessions.specs.Published.{LinesPublish}
use Rattle.cli_sessions.specs.Sessions.{version_limits}
use Rattle.cli_sessions.specs.declared.script.ScriptFault.TheVariants as script
use Rattle.cli_sessions.proofs.PublishedLines.{further_has, further_kept, published_to, stop_publish}
use Rattle.cli_sessions.proofs.RunLemmas.{IsCounted, IsPresent}
use Rattle.cli_serving.specs.declared.serve_fault.ServeFault.{ServeFault}
use Rattle.cli_serving.specs.declared.serve_fault.ServeFault.TheVariants as serve
use Rattle.cli_serving.proofs.ReadOn.{read_has, read_keeps}
use Rattle.cli_serving.proofs.TurnsKept.{EndsSo, Goes, Meets, Rested, Sees, Stopped, WentSo, ended_by}

module _ (R D : Type 0) (left : R → Option (List ℕ)) (random_faults : R → ℕ) (shown : D → Option (List ℕ)) (disk_faults : D → ℕ)
    (may_leave : D → List ℕ → Type 0) (moment : D → ℕ) (since : D → ℕ → List ℕ → List ℕ → Type 0)
    (present : IsPresent R D left random_faults shown disk_faults may_leave moment since) (counted : IsCounted R D left random_faults shown disk_faults may_leave moment since)
    (itself : (d : D) (s : List ℕ) → shown d ≡ Some s → may_leave d s) (start end : OwnerView × R × D)
    (key : List ℕ) (m : Journal) (stands : StandsAt version_limits key (opened m []) start.0 (shown start.2)) (durable : IsDurable (may_leave start.2) (shown start.2)) where
  abbrev X : Type 0
  X = OwnerView × R × D

  abbrev Publishes : Type 0
  Publishes = LinesPublish key m (since end.2 (moment start.2)) (FromThenOn moment since start.2 end.2)

  -- all was answered, and then the disk was only read
  rested_publish : Rested X (Goes R D left random_faults shown disk_faults may_leave moment since) (Meets R D left random_faults shown disk_faults may_leave moment since)
      (Sees R D left random_faults shown disk_faults may_leave moment since) start end → Publishes
  rested_publish all =
      let z : X = all.z in
      let p = published_to R D left random_faults shown disk_faults may_leave moment since start end fresh_reader fresh_reader None None None None present counted itself key m stands durable
      all.asked all.given z all.answered in
      let has = read_has R D left random_faults shown disk_faults may_leave moment since key p.going.journal z.2 end.2 all.read.2 p.rests in
      record {
        kept = further_kept R D left random_faults shown disk_faults may_leave moment since start end fresh_reader fresh_reader None None None None present counted itself key m stands durable
            z p end.2 (read_keeps R D left random_faults shown disk_faults may_leave moment since present counted key p.going.journal z.2 end.2 all.read.2 p.rests) has;
        has = further_has R D left random_faults shown disk_faults may_leave moment since start end fresh_reader fresh_reader None None None None present counted itself key m stands durable
            z p end.2 all.read.2.same.time has;
      }

  -- the last command met a fault
  stopped_publish : (fault : ApplyFault) → Stopped X (Goes R D left random_faults shown disk_faults may_leave moment since) (Meets R D left random_faults shown disk_faults may_leave moment since)
      (Sees R D left random_faults shown disk_faults may_leave moment since) start fault end → Publishes
  stopped_publish fault stop =
      stop_publish R D left random_faults shown disk_faults may_leave moment since start end fresh_reader fresh_reader None None None None present counted itself key m stands durable
      fault stop.asked stop.given stop.z stop.answered stop.next stop.failed

  ended_publish : (result : Result (Unit {0}) ServeFault) → EndsSo R D left random_faults shown disk_faults may_leave moment since result start end → Publishes
  ended_publish (Ok tt) ended = rested_publish ended
  ended_publish (Err (serve.Reading met)) ended = rested_publish ended
  ended_publish (Err (serve.Script (script.BadLine line))) ended = rested_publish ended
  ended_publish (Err (serve.Script script.ReadFault)) ended = rested_publish ended
  ended_publish (Err (serve.Script script.WriteFault)) ended = rested_publish ended
  ended_publish (Err (serve.Script script.OutOfMemory)) ended = rested_publish ended
  ended_publish (Err (serve.Script (script.Applying fault))) ended = stopped_publish fault ended

  pub serve_publishes : (turns : List Turn) (asked : List Request) (before after : Option (List ℕ)) (result : Result (Unit {0}) ServeFault)
      → WentSo R D left random_faults shown disk_faults may_leave moment since result start end turns asked before after → Publishes
  serve_publishes turns asked before after result went =
      ended_publish result (ended_by R D left random_faults shown disk_faults may_leave moment since present counted start end turns asked before after result went)
