use Rattle.std.proofs.Common.{◌≡◌, ◌≤◌, ℕ, IsTrue, false, List, [], length, Ok, Err, refl, sym, ap, subst, ◌∙◌}
use Rattle.cry_base.specs.Requests.{Request}
use Rattle.cry_io.specs.Told.{WhereBothTold}
use Rattle.cli_base.specs.Lines.{bytes_ahead, lines_ahead}
use Rattle.cli_sessions.specs.Sessions.{Ends, version_limits}
use Rattle.cli_running.specs.Running.{RanLines, TakesBehindFirst, is_before_opening, is_run_answer, line_ended}
use Rattle.cli_sessions.specs.Acting.{OwnerRan, place_of}
use Rattle.cli_sessions.specs.Opening.{Judges}
use Rattle.cli_sessions.proofs.ActedLines.{owner_ran}
use Rattle.cli_sessions.specs.OwnerSteps.{StandsIn}
use Rattle.cli_sessions.specs.Script.{answered_in, lines_in}
use Rattle.cli_sessions.specs.Stopping.{LinesKeepUpTo}
use Rattle.cli_running.proofs.FaultedRuns.{after_no_disk_fault, faulted_answers, faulted_behind, faulted_judges, faulted_needs_none, faulted_reads, faulted_undone, faulted_writes}
use Rattle.cli_running.proofs.LinesRun.{none_of_old, none_taken, ran_lines, ran_taken}
use Rattle.cli_sessions.proofs.PublishedLines.{publish_lines}
use Rattle.cli_running.proofs.ReadFaults.{cut_lines}
use Rattle.cli_sessions.proofs.RunLemmas.{Fails, Step, leaves, moments, scene, calm_but, calm_is, disk_fault, ends_none, ends_so, goes_on, random_fault, random_short, time_goes_on}
use Rattle.cli_sessions.proofs.ScriptLemmas.{nothing_ran}
use Rattle.cli_sessions.specs.declared.script.ScriptFault.TheVariants.{ReadFault}
use Rattle.store_owner.specs.Owned.{OwnerView}
use Rattle.cli_running.proofs.run.apply_lines.Goals as goal

pub returns-in-Ok-clause-later : goal.returns-in-Ok-clause-later
returns-in-Ok-clause-later g c =
    (time_goes_on g.row.R.Denot g.row.D.Denot g.R.Source.left g.R.Source.faults g.D.Disk.shown g.D.Disk.faults g.D.Disk.may_leave g.D.Disk.moment g.D.Disk.since
    (c.args.owner, c.args.random.now, c.args.disk.now) (c.run_lines-ran.new.owner, c.run_lines-ran.new.random, c.run_lines-ran.new.disk)
    c.args.reader c.run_lines-ran.new.reader (g.S.Source.left c.args.input.now) (g.S.Source.left c.run_lines-ran.new.input)
    (g.W.Sink.written c.args.out.now) (g.W.Sink.written c.run_lines-ran.new.out)
    (λ d s left at. g.met.D.Disk.only_now d s left at)
    (λ d t s left early shown leaves. g.met.D.Disk.counts_now d t s left early shown leaves) (Ok tt) c.in-Ok.ensures.ran).0

pub returns-in-Ok-clause-time : goal.returns-in-Ok-clause-time
returns-in-Ok-clause-time g c =
    (time_goes_on g.row.R.Denot g.row.D.Denot g.R.Source.left g.R.Source.faults g.D.Disk.shown g.D.Disk.faults g.D.Disk.may_leave g.D.Disk.moment g.D.Disk.since
    (c.args.owner, c.args.random.now, c.args.disk.now) (c.run_lines-ran.new.owner, c.run_lines-ran.new.random, c.run_lines-ran.new.disk)
    c.args.reader c.run_lines-ran.new.reader (g.S.Source.left c.args.input.now) (g.S.Source.left c.run_lines-ran.new.input)
    (g.W.Sink.written c.args.out.now) (g.W.Sink.written c.run_lines-ran.new.out)
    (λ d s left at. g.met.D.Disk.only_now d s left at)
    (λ d t s left early shown leaves. g.met.D.Disk.counts_now d t s left early shown leaves) (Ok tt) c.in-Ok.ensures.ran).1

pub returns-clause-later : goal.returns-clause-later
returns-clause-later g c =
    (time_goes_on g.row.R.Denot g.row.D.Denot g.R.Source.left g.R.Source.faults g.D.Disk.shown g.D.Disk.faults g.D.Disk.may_leave g.D.Disk.moment g.D.Disk.since
    (c.args.owner, c.args.random.now, c.args.disk.now) (c.run_lines-ran.new.owner, c.run_lines-ran.new.random, c.run_lines-ran.new.disk)
    c.args.reader c.run_lines-ran.new.reader (g.S.Source.left c.args.input.now) (g.S.Source.left c.run_lines-ran.new.input)
    (g.W.Sink.written c.args.out.now) (g.W.Sink.written c.run_lines-ran.new.out)
    (λ d s left at. g.met.D.Disk.only_now d s left at)
    (λ d t s left early shown leaves. g.met.D.Disk.counts_now d t s left early shown leaves) (Err c.in-Err.fault) c.in-Err.ensures.ran).0

pub returns-clause-time : goal.returns-clause-time
returns-clause-time g c =
    (time_goes_on g.row.R.Denot g.row.D.Denot g.R.Source.left g.R.Source.faults g.D.Disk.shown g.D.Disk.faults g.D.Disk.may_leave g.D.Disk.moment g.D.Disk.since
    (c.args.owner, c.args.random.now, c.args.disk.now) (c.run_lines-ran.new.owner, c.run_lines-ran.new.random, c.run_lines-ran.new.disk)
    c.args.reader c.run_lines-ran.new.reader (g.S.Source.left c.args.input.now) (g.S.Source.left c.run_lines-ran.new.input)
    (g.W.Sink.written c.args.out.now) (g.W.Sink.written c.run_lines-ran.new.out)
    (λ d s left at. g.met.D.Disk.only_now d s left at)
    (λ d t s left early shown leaves. g.met.D.Disk.counts_now d t s left early shown leaves) (Err c.in-Err.fault) c.in-Err.ensures.ran).1

pub returns-in-Ok-clause-random_told : goal.returns-in-Ok-clause-random_told
returns-in-Ok-clause-random_told g c =
    (goes_on g.row.R.Denot g.row.D.Denot g.R.Source.left g.R.Source.faults g.D.Disk.shown g.D.Disk.faults g.D.Disk.may_leave g.D.Disk.moment g.D.Disk.since
    (c.args.owner, c.args.random.now, c.args.disk.now) (c.run_lines-ran.new.owner, c.run_lines-ran.new.random, c.run_lines-ran.new.disk)
    c.args.reader c.run_lines-ran.new.reader (g.S.Source.left c.args.input.now) (g.S.Source.left c.run_lines-ran.new.input)
    (g.W.Sink.written c.args.out.now) (g.W.Sink.written c.run_lines-ran.new.out)
    (Ok tt) c.in-Ok.ensures.ran).0

pub returns-in-Ok-clause-disk_told : goal.returns-in-Ok-clause-disk_told
returns-in-Ok-clause-disk_told g c =
    (goes_on g.row.R.Denot g.row.D.Denot g.R.Source.left g.R.Source.faults g.D.Disk.shown g.D.Disk.faults g.D.Disk.may_leave g.D.Disk.moment g.D.Disk.since
    (c.args.owner, c.args.random.now, c.args.disk.now) (c.run_lines-ran.new.owner, c.run_lines-ran.new.random, c.run_lines-ran.new.disk)
    c.args.reader c.run_lines-ran.new.reader (g.S.Source.left c.args.input.now) (g.S.Source.left c.run_lines-ran.new.input)
    (g.W.Sink.written c.args.out.now) (g.W.Sink.written c.run_lines-ran.new.out)
    (Ok tt) c.in-Ok.ensures.ran).1

pub returns-in-Ok-clause-random_counts : goal.returns-in-Ok-clause-random_counts
returns-in-Ok-clause-random_counts g c =
    (goes_on g.row.R.Denot g.row.D.Denot g.R.Source.left g.R.Source.faults g.D.Disk.shown g.D.Disk.faults g.D.Disk.may_leave g.D.Disk.moment g.D.Disk.since
    (c.args.owner, c.args.random.now, c.args.disk.now) (c.run_lines-ran.new.owner, c.run_lines-ran.new.random, c.run_lines-ran.new.disk)
    c.args.reader c.run_lines-ran.new.reader (g.S.Source.left c.args.input.now) (g.S.Source.left c.run_lines-ran.new.input)
    (g.W.Sink.written c.args.out.now) (g.W.Sink.written c.run_lines-ran.new.out)
    (Ok tt) c.in-Ok.ensures.ran).2

pub returns-in-Ok-clause-disk_counts : goal.returns-in-Ok-clause-disk_counts
returns-in-Ok-clause-disk_counts g c =
    (goes_on g.row.R.Denot g.row.D.Denot g.R.Source.left g.R.Source.faults g.D.Disk.shown g.D.Disk.faults g.D.Disk.may_leave g.D.Disk.moment g.D.Disk.since
    (c.args.owner, c.args.random.now, c.args.disk.now) (c.run_lines-ran.new.owner, c.run_lines-ran.new.random, c.run_lines-ran.new.disk)
    c.args.reader c.run_lines-ran.new.reader (g.S.Source.left c.args.input.now) (g.S.Source.left c.run_lines-ran.new.input)
    (g.W.Sink.written c.args.out.now) (g.W.Sink.written c.run_lines-ran.new.out)
    (Ok tt) c.in-Ok.ensures.ran).3

pub returns-in-Ok-clause-calm : goal.returns-in-Ok-clause-calm
returns-in-Ok-clause-calm g c = λ other. c.in-Ok.ensures.ready.2

pub returns-clause-calm : goal.returns-clause-calm
returns-clause-calm g c = λ other.
    let calm = calm_is g.row.R.Denot g.row.D.Denot g.R.Source.left g.R.Source.faults g.D.Disk.shown g.D.Disk.faults g.D.Disk.may_leave g.D.Disk.moment g.D.Disk.since
    (c.args.owner, c.args.random.now, c.args.disk.now) (c.run_lines-ran.new.owner, c.run_lines-ran.new.random, c.run_lines-ran.new.disk)
    c.args.reader c.run_lines-ran.new.reader (g.S.Source.left c.args.input.now) (g.S.Source.left c.run_lines-ran.new.input)
    (g.W.Sink.written c.args.out.now) (g.W.Sink.written c.run_lines-ran.new.out)
    (c.run_lines-ran.new.owner.journal.is_closed ≡ false) (c.run_lines-ran.new.owner.journal.end ≤ g.D.Disk.size_of c.run_lines-ran.new.disk) (Err c.in-Err.fault) c.in-Err.ensures.ran c.in-Err.ensures.ready in
    calm_but g.row.R.Denot g.row.D.Denot g.R.Source.left g.R.Source.faults g.D.Disk.shown g.D.Disk.faults g.D.Disk.may_leave g.D.Disk.moment g.D.Disk.since
    (c.args.owner, c.args.random.now, c.args.disk.now) (c.run_lines-ran.new.owner, c.run_lines-ran.new.random, c.run_lines-ran.new.disk)
    c.args.reader c.run_lines-ran.new.reader (g.S.Source.left c.args.input.now) (g.S.Source.left c.run_lines-ran.new.input)
    (g.W.Sink.written c.args.out.now) (g.W.Sink.written c.run_lines-ran.new.out)
    c.in-Err.fault calm (λ is. other (c.script_status.ensures ∙ is))

pub returns-clause-random_told : goal.returns-clause-random_told
returns-clause-random_told g c =
    (goes_on g.row.R.Denot g.row.D.Denot g.R.Source.left g.R.Source.faults g.D.Disk.shown g.D.Disk.faults g.D.Disk.may_leave g.D.Disk.moment g.D.Disk.since
    (c.args.owner, c.args.random.now, c.args.disk.now) (c.run_lines-ran.new.owner, c.run_lines-ran.new.random, c.run_lines-ran.new.disk)
    c.args.reader c.run_lines-ran.new.reader (g.S.Source.left c.args.input.now) (g.S.Source.left c.run_lines-ran.new.input)
    (g.W.Sink.written c.args.out.now) (g.W.Sink.written c.run_lines-ran.new.out)
    (Err c.in-Err.fault) c.in-Err.ensures.ran).0

pub returns-clause-disk_told : goal.returns-clause-disk_told
returns-clause-disk_told g c =
    (goes_on g.row.R.Denot g.row.D.Denot g.R.Source.left g.R.Source.faults g.D.Disk.shown g.D.Disk.faults g.D.Disk.may_leave g.D.Disk.moment g.D.Disk.since
    (c.args.owner, c.args.random.now, c.args.disk.now) (c.run_lines-ran.new.owner, c.run_lines-ran.new.random, c.run_lines-ran.new.disk)
    c.args.reader c.run_lines-ran.new.reader (g.S.Source.left c.args.input.now) (g.S.Source.left c.run_lines-ran.new.input)
    (g.W.Sink.written c.args.out.now) (g.W.Sink.written c.run_lines-ran.new.out)
    (Err c.in-Err.fault) c.in-Err.ensures.ran).1

pub returns-clause-random_counts : goal.returns-clause-random_counts
returns-clause-random_counts g c =
    (goes_on g.row.R.Denot g.row.D.Denot g.R.Source.left g.R.Source.faults g.D.Disk.shown g.D.Disk.faults g.D.Disk.may_leave g.D.Disk.moment g.D.Disk.since
    (c.args.owner, c.args.random.now, c.args.disk.now) (c.run_lines-ran.new.owner, c.run_lines-ran.new.random, c.run_lines-ran.new.disk)
    c.args.reader c.run_lines-ran.new.reader (g.S.Source.left c.args.input.now) (g.S.Source.left c.run_lines-ran.new.input)
    (g.W.Sink.written c.args.out.now) (g.W.Sink.written c.run_lines-ran.new.out)
    (Err c.in-Err.fault) c.in-Err.ensures.ran).2

pub returns-clause-disk_counts : goal.returns-clause-disk_counts
returns-clause-disk_counts g c =
    (goes_on g.row.R.Denot g.row.D.Denot g.R.Source.left g.R.Source.faults g.D.Disk.shown g.D.Disk.faults g.D.Disk.may_leave g.D.Disk.moment g.D.Disk.since
    (c.args.owner, c.args.random.now, c.args.disk.now) (c.run_lines-ran.new.owner, c.run_lines-ran.new.random, c.run_lines-ran.new.disk)
    c.args.reader c.run_lines-ran.new.reader (g.S.Source.left c.args.input.now) (g.S.Source.left c.run_lines-ran.new.input)
    (g.W.Sink.written c.args.out.now) (g.W.Sink.written c.run_lines-ran.new.out)
    (Err c.in-Err.fault) c.in-Err.ensures.ran).3

pub returns-clause-random_fault : goal.returns-clause-random_fault
returns-clause-random_fault g c = λ is.
    random_fault g.row.R.Denot g.row.D.Denot g.R.Source.left g.R.Source.faults g.D.Disk.shown g.D.Disk.faults g.D.Disk.may_leave g.D.Disk.moment g.D.Disk.since
    (c.args.owner, c.args.random.now, c.args.disk.now) (c.run_lines-ran.new.owner, c.run_lines-ran.new.random, c.run_lines-ran.new.disk)
    c.args.reader c.run_lines-ran.new.reader (g.S.Source.left c.args.input.now) (g.S.Source.left c.run_lines-ran.new.input)
    (g.W.Sink.written c.args.out.now) (g.W.Sink.written c.run_lines-ran.new.out)
    c.in-Err.fault c.in-Err.ensures.ran (sym c.script_status.ensures ∙ is)

pub returns-clause-disk_fault : goal.returns-clause-disk_fault
returns-clause-disk_fault g c = λ is.
    disk_fault g.row.R.Denot g.row.D.Denot g.R.Source.left g.R.Source.faults g.D.Disk.shown g.D.Disk.faults g.D.Disk.may_leave g.D.Disk.moment g.D.Disk.since
    (c.args.owner, c.args.random.now, c.args.disk.now) (c.run_lines-ran.new.owner, c.run_lines-ran.new.random, c.run_lines-ran.new.disk)
    c.args.reader c.run_lines-ran.new.reader (g.S.Source.left c.args.input.now) (g.S.Source.left c.run_lines-ran.new.input)
    (g.W.Sink.written c.args.out.now) (g.W.Sink.written c.run_lines-ran.new.out)
    c.in-Err.fault c.in-Err.ensures.ran (sym c.script_status.ensures ∙ is)

pub returns-in-Ok-clause-lines : goal.returns-in-Ok-clause-lines
returns-in-Ok-clause-lines g c =
    let asked : List Request = answered_in (Step g.row.R.Denot g.row.D.Denot g.R.Source.left g.R.Source.faults g.D.Disk.shown g.D.Disk.faults g.D.Disk.may_leave g.D.Disk.moment g.D.Disk.since)
    (Fails g.row.R.Denot g.row.D.Denot g.R.Source.left g.R.Source.faults g.D.Disk.shown g.D.Disk.faults g.D.Disk.may_leave g.D.Disk.moment g.D.Disk.since)
    (λ (x : OwnerView × g.row.R.Denot × g.row.D.Denot). StandsIn x.0) (Ok tt) (c.args.owner, c.args.random.now, c.args.disk.now) (c.run_lines-ran.new.owner, c.run_lines-ran.new.random, c.run_lines-ran.new.disk)
    c.in-Ok.ensures.ran.went in
    let answered : ℕ = lines_in (Step g.row.R.Denot g.row.D.Denot g.R.Source.left g.R.Source.faults g.D.Disk.shown g.D.Disk.faults g.D.Disk.may_leave g.D.Disk.moment g.D.Disk.since)
    (Fails g.row.R.Denot g.row.D.Denot g.R.Source.left g.R.Source.faults g.D.Disk.shown g.D.Disk.faults g.D.Disk.may_leave g.D.Disk.moment g.D.Disk.since)
    (λ (x : OwnerView × g.row.R.Denot × g.row.D.Denot). StandsIn x.0) (Ok tt) (c.args.owner, c.args.random.now, c.args.disk.now) (c.run_lines-ran.new.owner, c.run_lines-ran.new.random, c.run_lines-ran.new.disk)
    c.in-Ok.ensures.ran.went in (
      asked,
      answered,
      ran_lines (OwnerView × g.row.R.Denot × g.row.D.Denot)
          (Step g.row.R.Denot g.row.D.Denot g.R.Source.left g.R.Source.faults g.D.Disk.shown g.D.Disk.faults g.D.Disk.may_leave g.D.Disk.moment g.D.Disk.since)
          (Fails g.row.R.Denot g.row.D.Denot g.R.Source.left g.R.Source.faults g.D.Disk.shown g.D.Disk.faults g.D.Disk.may_leave g.D.Disk.moment g.D.Disk.since)
          (λ (x : OwnerView × g.row.R.Denot × g.row.D.Denot). StandsIn x.0)
          (c.args.owner, c.args.random.now, c.args.disk.now) (c.run_lines-ran.new.owner, c.run_lines-ran.new.random, c.run_lines-ran.new.disk)
          c.args.reader c.run_lines-ran.new.reader (g.S.Source.left c.args.input.now) (g.S.Source.left c.run_lines-ran.new.input)
          (g.W.Sink.written c.args.out.now) (g.W.Sink.written c.run_lines-ran.new.out)
          c.in-Ok.ensures.input_told (Ok tt) c.in-Ok.ensures.ran c.requires.second,
      λ few. ran_taken (OwnerView × g.row.R.Denot × g.row.D.Denot)
          (Step g.row.R.Denot g.row.D.Denot g.R.Source.left g.R.Source.faults g.D.Disk.shown g.D.Disk.faults g.D.Disk.may_leave g.D.Disk.moment g.D.Disk.since)
          (Fails g.row.R.Denot g.row.D.Denot g.R.Source.left g.R.Source.faults g.D.Disk.shown g.D.Disk.faults g.D.Disk.may_leave g.D.Disk.moment g.D.Disk.since)
          (λ (x : OwnerView × g.row.R.Denot × g.row.D.Denot). StandsIn x.0)
          (c.args.owner, c.args.random.now, c.args.disk.now) (c.run_lines-ran.new.owner, c.run_lines-ran.new.random, c.run_lines-ran.new.disk)
          c.args.reader c.run_lines-ran.new.reader (g.S.Source.left c.args.input.now) (g.S.Source.left c.run_lines-ran.new.input)
          (g.W.Sink.written c.args.out.now) (g.W.Sink.written c.run_lines-ran.new.out)
          c.in-Ok.ensures.input_told (Ok tt) c.in-Ok.ensures.ran c.requires.second,
      (λ is. absurd cc),
      (λ x was key m first_shown stands kept.
          let calm = calm_is g.row.R.Denot g.row.D.Denot g.R.Source.left g.R.Source.faults g.D.Disk.shown g.D.Disk.faults g.D.Disk.may_leave g.D.Disk.moment g.D.Disk.since
          (c.args.owner, c.args.random.now, c.args.disk.now) (c.run_lines-ran.new.owner, c.run_lines-ran.new.random, c.run_lines-ran.new.disk)
          c.args.reader c.run_lines-ran.new.reader (g.S.Source.left c.args.input.now) (g.S.Source.left c.run_lines-ran.new.input)
          (g.W.Sink.written c.args.out.now) (g.W.Sink.written c.run_lines-ran.new.out)
          (c.run_lines-ran.new.owner.journal.is_closed ≡ false) (c.run_lines-ran.new.owner.journal.end ≤ g.D.Disk.size_of c.run_lines-ran.new.disk) (Ok tt) c.in-Ok.ensures.ran c.in-Ok.ensures.ready in
          ends_so g.row.R.Denot g.row.D.Denot g.R.Source.left g.R.Source.faults g.D.Disk.shown g.D.Disk.faults g.D.Disk.may_leave g.D.Disk.moment g.D.Disk.since
          (c.args.owner, c.args.random.now, c.args.disk.now) (c.run_lines-ran.new.owner, c.run_lines-ran.new.random, c.run_lines-ran.new.disk)
          c.args.reader c.run_lines-ran.new.reader (g.S.Source.left c.args.input.now) (g.S.Source.left c.run_lines-ran.new.input)
          (g.W.Sink.written c.args.out.now) (g.W.Sink.written c.run_lines-ran.new.out)
          (λ d s left at. g.met.D.Disk.only_now d s left at) (Ok tt) c.in-Ok.ensures.ran calm c.requires.second c.in-Ok.ensures.input_told x was key m first_shown stands c.requires.durable kept),
      (λ other. owner_ran (OwnerView × g.row.R.Denot × g.row.D.Denot)
          (scene g.row.R.Denot g.row.D.Denot g.R.Source.left g.R.Source.faults g.D.Disk.shown g.D.Disk.faults g.D.Disk.may_leave g.D.Disk.moment g.D.Disk.since)
          (leaves g.row.R.Denot g.row.D.Denot g.R.Source.left g.R.Source.faults g.D.Disk.shown g.D.Disk.faults g.D.Disk.may_leave g.D.Disk.moment g.D.Disk.since)
          (moments g.row.R.Denot g.row.D.Denot g.R.Source.left g.R.Source.faults g.D.Disk.shown g.D.Disk.faults g.D.Disk.may_leave g.D.Disk.moment g.D.Disk.since)
          (Step g.row.R.Denot g.row.D.Denot g.R.Source.left g.R.Source.faults g.D.Disk.shown g.D.Disk.faults g.D.Disk.may_leave g.D.Disk.moment g.D.Disk.since)
          (λ x r reply y step. step.0)
          (Fails g.row.R.Denot g.row.D.Denot g.R.Source.left g.R.Source.faults g.D.Disk.shown g.D.Disk.faults g.D.Disk.may_leave g.D.Disk.moment g.D.Disk.since)
          (λ x r fault y failed. failed.0)
          (λ (x : OwnerView × g.row.R.Denot × g.row.D.Denot). StandsIn x.0) (λ x n commands so. so)
          (c.args.owner, c.args.random.now, c.args.disk.now) (c.run_lines-ran.new.owner, c.run_lines-ran.new.random, c.run_lines-ran.new.disk)
          c.args.reader c.run_lines-ran.new.reader (g.S.Source.left c.args.input.now) (g.S.Source.left c.run_lines-ran.new.input)
          (g.W.Sink.written c.args.out.now) (g.W.Sink.written c.run_lines-ran.new.out) c.in-Ok.ensures.input_told (Ok tt) c.in-Ok.ensures.ran),
    )

pub returns-clause-lines : goal.returns-clause-lines
returns-clause-lines g c =
    let asked : List Request = answered_in (Step g.row.R.Denot g.row.D.Denot g.R.Source.left g.R.Source.faults g.D.Disk.shown g.D.Disk.faults g.D.Disk.may_leave g.D.Disk.moment g.D.Disk.since)
    (Fails g.row.R.Denot g.row.D.Denot g.R.Source.left g.R.Source.faults g.D.Disk.shown g.D.Disk.faults g.D.Disk.may_leave g.D.Disk.moment g.D.Disk.since)
    (λ (x : OwnerView × g.row.R.Denot × g.row.D.Denot). StandsIn x.0) (Err c.in-Err.fault) (c.args.owner, c.args.random.now, c.args.disk.now) (c.run_lines-ran.new.owner, c.run_lines-ran.new.random, c.run_lines-ran.new.disk)
    c.in-Err.ensures.ran.went in
    let answered : ℕ = lines_in (Step g.row.R.Denot g.row.D.Denot g.R.Source.left g.R.Source.faults g.D.Disk.shown g.D.Disk.faults g.D.Disk.may_leave g.D.Disk.moment g.D.Disk.since)
    (Fails g.row.R.Denot g.row.D.Denot g.R.Source.left g.R.Source.faults g.D.Disk.shown g.D.Disk.faults g.D.Disk.may_leave g.D.Disk.moment g.D.Disk.since)
    (λ (x : OwnerView × g.row.R.Denot × g.row.D.Denot). StandsIn x.0) (Err c.in-Err.fault) (c.args.owner, c.args.random.now, c.args.disk.now) (c.run_lines-ran.new.owner, c.run_lines-ran.new.random, c.run_lines-ran.new.disk)
    c.in-Err.ensures.ran.went in (
      asked,
      answered,
      subst (λ status. RanLines status asked answered (lines_ahead c.args.reader) (g.S.Source.left c.args.input.now) (g.W.Sink.written c.args.out.now) (g.W.Sink.written c.run_lines-ran.new.out)) (sym c.script_status.ensures)
          (ran_lines (OwnerView × g.row.R.Denot × g.row.D.Denot)
          (Step g.row.R.Denot g.row.D.Denot g.R.Source.left g.R.Source.faults g.D.Disk.shown g.D.Disk.faults g.D.Disk.may_leave g.D.Disk.moment g.D.Disk.since)
          (Fails g.row.R.Denot g.row.D.Denot g.R.Source.left g.R.Source.faults g.D.Disk.shown g.D.Disk.faults g.D.Disk.may_leave g.D.Disk.moment g.D.Disk.since)
          (λ (x : OwnerView × g.row.R.Denot × g.row.D.Denot). StandsIn x.0)
          (c.args.owner, c.args.random.now, c.args.disk.now) (c.run_lines-ran.new.owner, c.run_lines-ran.new.random, c.run_lines-ran.new.disk)
          c.args.reader c.run_lines-ran.new.reader (g.S.Source.left c.args.input.now) (g.S.Source.left c.run_lines-ran.new.input)
          (g.W.Sink.written c.args.out.now) (g.W.Sink.written c.run_lines-ran.new.out)
          c.in-Err.ensures.input_told (Err c.in-Err.fault) c.in-Err.ensures.ran c.requires.second),
      λ few. subst (λ status. WhereBothTold (g.S.Source.left c.args.input.now) (g.S.Source.left c.run_lines-ran.new.input) (TakesBehindFirst (bytes_ahead c.args.reader) (line_ended status answered))) (sym c.script_status.ensures)
          (ran_taken (OwnerView × g.row.R.Denot × g.row.D.Denot)
          (Step g.row.R.Denot g.row.D.Denot g.R.Source.left g.R.Source.faults g.D.Disk.shown g.D.Disk.faults g.D.Disk.may_leave g.D.Disk.moment g.D.Disk.since)
          (Fails g.row.R.Denot g.row.D.Denot g.R.Source.left g.R.Source.faults g.D.Disk.shown g.D.Disk.faults g.D.Disk.may_leave g.D.Disk.moment g.D.Disk.since)
          (λ (x : OwnerView × g.row.R.Denot × g.row.D.Denot). StandsIn x.0)
          (c.args.owner, c.args.random.now, c.args.disk.now) (c.run_lines-ran.new.owner, c.run_lines-ran.new.random, c.run_lines-ran.new.disk)
          c.args.reader c.run_lines-ran.new.reader (g.S.Source.left c.args.input.now) (g.S.Source.left c.run_lines-ran.new.input)
          (g.W.Sink.written c.args.out.now) (g.W.Sink.written c.run_lines-ran.new.out)
          c.in-Err.ensures.input_told (Err c.in-Err.fault) c.in-Err.ensures.ran c.requires.second),
      (λ is.
          cut_lines (Step g.row.R.Denot g.row.D.Denot g.R.Source.left g.R.Source.faults g.D.Disk.shown g.D.Disk.faults g.D.Disk.may_leave g.D.Disk.moment g.D.Disk.since) (Fails g.row.R.Denot g.row.D.Denot g.R.Source.left g.R.Source.faults g.D.Disk.shown g.D.Disk.faults g.D.Disk.may_leave g.D.Disk.moment g.D.Disk.since)
          (λ (x : OwnerView × g.row.R.Denot × g.row.D.Denot). StandsIn x.0)
          (c.args.owner, c.args.random.now, c.args.disk.now) (c.run_lines-ran.new.owner, c.run_lines-ran.new.random, c.run_lines-ran.new.disk)
          c.args.reader c.run_lines-ran.new.reader (g.S.Source.left c.args.input.now) (g.S.Source.left c.run_lines-ran.new.input)
          (g.W.Sink.written c.args.out.now) (g.W.Sink.written c.run_lines-ran.new.out)
          c.in-Err.fault c.in-Err.ensures.ran (λ e. c.in-Err.ensures.unended (ap Err e)) (sym c.script_status.ensures ∙ is)),
      (λ x was key m first_shown stands kept.
          let calm = calm_is g.row.R.Denot g.row.D.Denot g.R.Source.left g.R.Source.faults g.D.Disk.shown g.D.Disk.faults g.D.Disk.may_leave g.D.Disk.moment g.D.Disk.since
          (c.args.owner, c.args.random.now, c.args.disk.now) (c.run_lines-ran.new.owner, c.run_lines-ran.new.random, c.run_lines-ran.new.disk)
          c.args.reader c.run_lines-ran.new.reader (g.S.Source.left c.args.input.now) (g.S.Source.left c.run_lines-ran.new.input)
          (g.W.Sink.written c.args.out.now) (g.W.Sink.written c.run_lines-ran.new.out)
          (c.run_lines-ran.new.owner.journal.is_closed ≡ false) (c.run_lines-ran.new.owner.journal.end ≤ g.D.Disk.size_of c.run_lines-ran.new.disk) (Err c.in-Err.fault) c.in-Err.ensures.ran c.in-Err.ensures.ready in
          subst (λ status. Ends status version_limits key m asked (lines_ahead c.args.reader x)
          (record {
            left_before = g.R.Source.left c.args.random.now;
            left_after = g.R.Source.left c.run_lines-ran.new.random;
            was = first_shown;
            shown = g.D.Disk.shown c.run_lines-ran.new.disk;
            written_before = g.W.Sink.written c.args.out.now;
            written_after = g.W.Sink.written c.run_lines-ran.new.out;
          }) (g.D.Disk.may_leave c.run_lines-ran.new.disk) (LinesKeepUpTo key m (g.D.Disk.shown c.args.disk.now) (g.D.Disk.shown c.run_lines-ran.new.disk) (g.D.Disk.since c.run_lines-ran.new.disk (g.D.Disk.moment c.args.disk.now)))) (sym c.script_status.ensures)
          (ends_so g.row.R.Denot g.row.D.Denot g.R.Source.left g.R.Source.faults g.D.Disk.shown g.D.Disk.faults g.D.Disk.may_leave g.D.Disk.moment g.D.Disk.since
          (c.args.owner, c.args.random.now, c.args.disk.now) (c.run_lines-ran.new.owner, c.run_lines-ran.new.random, c.run_lines-ran.new.disk)
          c.args.reader c.run_lines-ran.new.reader (g.S.Source.left c.args.input.now) (g.S.Source.left c.run_lines-ran.new.input)
          (g.W.Sink.written c.args.out.now) (g.W.Sink.written c.run_lines-ran.new.out)
          (λ d s left at. g.met.D.Disk.only_now d s left at) (Err c.in-Err.fault) c.in-Err.ensures.ran calm c.requires.second c.in-Err.ensures.input_told x was key m first_shown stands c.requires.durable kept)),
      (λ other.
          subst (λ status. OwnerRan status asked answered (lines_ahead c.args.reader) (g.S.Source.left c.args.input.now)
          (place_of c.args.owner (g.R.Source.left c.args.random.now) (g.D.Disk.shown c.args.disk.now)) (g.R.Source.left c.run_lines-ran.new.random) (g.D.Disk.shown c.run_lines-ran.new.disk)
          (g.W.Sink.written c.args.out.now) (g.W.Sink.written c.run_lines-ran.new.out)) (sym c.script_status.ensures)
          (owner_ran (OwnerView × g.row.R.Denot × g.row.D.Denot)
          (scene g.row.R.Denot g.row.D.Denot g.R.Source.left g.R.Source.faults g.D.Disk.shown g.D.Disk.faults g.D.Disk.may_leave g.D.Disk.moment g.D.Disk.since)
          (leaves g.row.R.Denot g.row.D.Denot g.R.Source.left g.R.Source.faults g.D.Disk.shown g.D.Disk.faults g.D.Disk.may_leave g.D.Disk.moment g.D.Disk.since)
          (moments g.row.R.Denot g.row.D.Denot g.R.Source.left g.R.Source.faults g.D.Disk.shown g.D.Disk.faults g.D.Disk.may_leave g.D.Disk.moment g.D.Disk.since)
          (Step g.row.R.Denot g.row.D.Denot g.R.Source.left g.R.Source.faults g.D.Disk.shown g.D.Disk.faults g.D.Disk.may_leave g.D.Disk.moment g.D.Disk.since)
          (λ x r reply y step. step.0)
          (Fails g.row.R.Denot g.row.D.Denot g.R.Source.left g.R.Source.faults g.D.Disk.shown g.D.Disk.faults g.D.Disk.may_leave g.D.Disk.moment g.D.Disk.since)
          (λ x r fault y failed. failed.0)
          (λ (x : OwnerView × g.row.R.Denot × g.row.D.Denot). StandsIn x.0) (λ x n commands so. so)
          (c.args.owner, c.args.random.now, c.args.disk.now) (c.run_lines-ran.new.owner, c.run_lines-ran.new.random, c.run_lines-ran.new.disk)
          c.args.reader c.run_lines-ran.new.reader (g.S.Source.left c.args.input.now) (g.S.Source.left c.run_lines-ran.new.input)
          (g.W.Sink.written c.args.out.now) (g.W.Sink.written c.run_lines-ran.new.out) c.in-Err.ensures.input_told (Err c.in-Err.fault) c.in-Err.ensures.ran)),
    )

pub returns-clause-short : goal.returns-clause-short
returns-clause-short g c = λ given wanted is.
    random_short g.row.R.Denot g.row.D.Denot g.R.Source.left g.R.Source.faults g.D.Disk.shown g.D.Disk.faults g.D.Disk.may_leave g.D.Disk.moment g.D.Disk.since
    (c.args.owner, c.args.random.now, c.args.disk.now) (c.run_lines-ran.new.owner, c.run_lines-ran.new.random, c.run_lines-ran.new.disk)
    c.args.reader c.run_lines-ran.new.reader (g.S.Source.left c.args.input.now) (g.S.Source.left c.run_lines-ran.new.input)
    (g.W.Sink.written c.args.out.now) (g.W.Sink.written c.run_lines-ran.new.out)
    c.in-Err.fault c.in-Err.ensures.ran given wanted (sym c.script_status.ensures ∙ is)

pub returns-clause-answers : goal.returns-clause-answers
returns-clause-answers g c = subst (λ status. IsTrue (is_run_answer status)) (sym c.script_status.ensures) (faulted_answers c.in-Err.fault)

pub returns-clause-none_of_bytes : goal.returns-clause-none_of_bytes
returns-clause-none_of_bytes g c = λ verdict none.
    subst (λ status. Judges status verdict) (sym c.script_status.ensures) (faulted_judges c.in-Err.fault verdict none)

pub returns-clause-needs : goal.returns-clause-needs
returns-clause-needs g c = λ is. faulted_needs_none c.in-Err.fault (sym c.script_status.ensures ∙ is)

pub returns-clause-stays : goal.returns-clause-stays
returns-clause-stays g c = λ after. returns-clause-calm g c (after_no_disk_fault c.script_status.result after)

pub returns-clause-not_first : goal.returns-clause-not_first
returns-clause-not_first g c =
    subst (λ status. is_before_opening status ≡ false) (sym c.script_status.ensures)
    (faulted_behind c.in-Err.fault c.args.reader.given (length c.in-Err.ensures.ran.went.tasks) c.requires.second c.in-Err.ensures.ran.number)

pub returns-clause-read_to_end : goal.returns-clause-read_to_end
returns-clause-read_to_end g c = λ done. faulted_undone c.in-Err.fault (sym c.script_status.ensures ∙ done)

pub returns-clause-read_fault : goal.returns-clause-read_fault
returns-clause-read_fault g c = λ is.
    faulted_reads c.in-Err.fault (g.S.Source.faults c.args.input.now) (g.S.Source.faults c.run_lines-ran.new.input) c.in-Err.ensures.input_counts (sym c.script_status.ensures ∙ is)

pub returns-clause-write_fault : goal.returns-clause-write_fault
returns-clause-write_fault g c = λ is.
    faulted_writes c.in-Err.fault (g.W.Sink.faults c.args.out.now) (g.W.Sink.faults c.run_lines-ran.new.out) c.in-Err.ensures.out_counts (sym c.script_status.ensures ∙ is)

pub returns-in-Ok-clause-published : goal.returns-in-Ok-clause-published
returns-in-Ok-clause-published g c = λ key m stands.
    publish_lines g.row.R.Denot g.row.D.Denot g.R.Source.left g.R.Source.faults g.D.Disk.shown g.D.Disk.faults g.D.Disk.may_leave g.D.Disk.moment g.D.Disk.since
    (c.args.owner, c.args.random.now, c.args.disk.now) (c.run_lines-ran.new.owner, c.run_lines-ran.new.random, c.run_lines-ran.new.disk)
    c.args.reader c.run_lines-ran.new.reader (g.S.Source.left c.args.input.now) (g.S.Source.left c.run_lines-ran.new.input)
    (g.W.Sink.written c.args.out.now) (g.W.Sink.written c.run_lines-ran.new.out)
    (λ d s left at. g.met.D.Disk.only_now d s left at) (λ d t s left early is leaves. g.met.D.Disk.counts_now d t s left early is leaves)
    (λ d s is. g.met.D.Disk.shown_may_be_left d s is) key m stands c.requires.durable (Ok tt) c.in-Ok.ensures.ran

pub returns-clause-published : goal.returns-clause-published
returns-clause-published g c = λ key m stands.
    publish_lines g.row.R.Denot g.row.D.Denot g.R.Source.left g.R.Source.faults g.D.Disk.shown g.D.Disk.faults g.D.Disk.may_leave g.D.Disk.moment g.D.Disk.since
    (c.args.owner, c.args.random.now, c.args.disk.now) (c.run_lines-ran.new.owner, c.run_lines-ran.new.random, c.run_lines-ran.new.disk)
    c.args.reader c.run_lines-ran.new.reader (g.S.Source.left c.args.input.now) (g.S.Source.left c.run_lines-ran.new.input)
    (g.W.Sink.written c.args.out.now) (g.W.Sink.written c.run_lines-ran.new.out)
    (λ d s left at. g.met.D.Disk.only_now d s left at) (λ d t s left early is leaves. g.met.D.Disk.counts_now d t s left early is leaves)
    (λ d s is. g.met.D.Disk.shown_may_be_left d s is) key m stands c.requires.durable (Err c.in-Err.fault) c.in-Err.ensures.ran

-- ---- a store of version 1

pub returns-then-version-eq-OLD_VERSION-clause-published : goal.returns-then-version-eq-OLD_VERSION-clause-published
returns-then-version-eq-OLD_VERSION-clause-published g c = λ key m stands.
    let here : OwnerView × g.row.R.Denot × g.row.D.Denot = (c.args.owner, c.args.random.now, c.args.disk.now) in
    let typed = g.S.Source.left c.args.input.now in
    let written = g.W.Sink.written c.args.out.now in
    publish_lines g.row.R.Denot g.row.D.Denot g.R.Source.left g.R.Source.faults g.D.Disk.shown g.D.Disk.faults g.D.Disk.may_leave g.D.Disk.moment g.D.Disk.since
    here here c.args.reader c.args.reader typed typed written written
    (λ d s left at. g.met.D.Disk.only_now d s left at) (λ d t s left early is leaves. g.met.D.Disk.counts_now d t s left early is leaves)
    (λ d s is. g.met.D.Disk.shown_may_be_left d s is) key m stands c.requires.durable (Err ReadFault)
    (nothing_ran (Step g.row.R.Denot g.row.D.Denot g.R.Source.left g.R.Source.faults g.D.Disk.shown g.D.Disk.faults g.D.Disk.may_leave g.D.Disk.moment g.D.Disk.since)
    (Fails g.row.R.Denot g.row.D.Denot g.R.Source.left g.R.Source.faults g.D.Disk.shown g.D.Disk.faults g.D.Disk.may_leave g.D.Disk.moment g.D.Disk.since)
    (λ (x : OwnerView × g.row.R.Denot × g.row.D.Denot). StandsIn x.0) here c.args.reader typed written)

pub returns-then-version-eq-OLD_VERSION-clause-lines : goal.returns-then-version-eq-OLD_VERSION-clause-lines
returns-then-version-eq-OLD_VERSION-clause-lines g c =
    let typed = g.S.Source.left c.args.input.now in
    let written = g.W.Sink.written c.args.out.now in (
      [],
      0,
      none_of_old (lines_ahead c.args.reader) typed written,
      (λ few. none_taken c.args.reader typed few),
      (λ is. absurd cc),
      (λ x was key m first_shown stands kept.
          ends_none g.row.R.Denot g.row.D.Denot g.R.Source.left g.R.Source.faults g.D.Disk.shown g.D.Disk.faults g.D.Disk.may_leave g.D.Disk.moment g.D.Disk.since
          (λ d s left at. g.met.D.Disk.only_now d s left at) (c.args.owner, c.args.random.now, c.args.disk.now) c.args.reader typed written
          x was key m first_shown stands c.requires.durable kept),
      (λ other. absurd (other refl)),
    )
