use Rattle.std.proofs.Common.{◌≡◌, ◌≤◌, false, Some, None, Ok, Err, sym, ap, subst, ◌∙◌}
use Rattle.cli_making.specs.Generating.{Applies, unheard}
use Rattle.cli_sessions.specs.Sessions.{IsStop}
use Rattle.cli_sessions.specs.Sessions as sessions
use Rattle.cli_sessions.specs.Stopping.{LinesKeepUpTo}
use Rattle.cli_base.specs.declared.status.Status.TheVariants as statuses
use Rattle.cli_making.proofs.GeneratedRuns.{applies_to_end, applies_to_stop, stops}
use Rattle.cli_sessions.proofs.PublishedLines.{publish_lines}
use Rattle.cli_sessions.proofs.RunLemmas.{calm_but, calm_is, disk_fault, goes_on, random_fault, random_short, same_key, time_goes_on}
use Rattle.cli_making.proofs.generating.apply_script.Goals as goal

pub returns-in-Ok-clause-applies : goal.returns-in-Ok-clause-applies
returns-in-Ok-clause-applies g c = λ seed count key m few is begins.
    applies_to_end g.row.R.Denot g.row.D.Denot g.R.Source.left g.R.Source.faults g.D.Disk.shown g.D.Disk.faults g.D.Disk.may_leave g.D.Disk.moment g.D.Disk.since
    (c.args.owner.now, c.args.random.now, c.args.disk.now) (c.run_lines.new.owner, c.run_lines.new.random, c.run_lines.new.disk)
    c.new-reader.result c.run_lines.new.reader c.args.script c.run_lines.new.input c.new-reader.ensures
    (λ d s left at. g.met.D.Disk.only_now d s left at) c.requires.durable seed count few is key m begins
    c.tallies_are_those_of_journals.ensures.tally c.in-Ok.ensures.ran c.in-Ok.ensures.ready.2

pub returns-in-Ok-clause-calm : goal.returns-in-Ok-clause-calm
returns-in-Ok-clause-calm g c = λ other. c.in-Ok.ensures.ready.2

pub returns-in-Ok-clause-random_told : goal.returns-in-Ok-clause-random_told
returns-in-Ok-clause-random_told g c =
    (goes_on g.row.R.Denot g.row.D.Denot g.R.Source.left g.R.Source.faults g.D.Disk.shown g.D.Disk.faults g.D.Disk.may_leave g.D.Disk.moment g.D.Disk.since
    (c.args.owner.now, c.args.random.now, c.args.disk.now) (c.run_lines.new.owner, c.run_lines.new.random, c.run_lines.new.disk)
    c.new-reader.result c.run_lines.new.reader (Some c.args.script) (Some c.run_lines.new.input) None None
    (Ok tt) c.in-Ok.ensures.ran).0

pub returns-clause-random_told : goal.returns-clause-random_told
returns-clause-random_told g c =
    (goes_on g.row.R.Denot g.row.D.Denot g.R.Source.left g.R.Source.faults g.D.Disk.shown g.D.Disk.faults g.D.Disk.may_leave g.D.Disk.moment g.D.Disk.since
    (c.args.owner.now, c.args.random.now, c.args.disk.now) (c.run_lines.new.owner, c.run_lines.new.random, c.run_lines.new.disk)
    c.new-reader.result c.run_lines.new.reader (Some c.args.script) (Some c.run_lines.new.input) None None
    (Err c.in-Err.fault) c.in-Err.ensures.ran).0

pub returns-in-Ok-clause-disk_told : goal.returns-in-Ok-clause-disk_told
returns-in-Ok-clause-disk_told g c =
    (goes_on g.row.R.Denot g.row.D.Denot g.R.Source.left g.R.Source.faults g.D.Disk.shown g.D.Disk.faults g.D.Disk.may_leave g.D.Disk.moment g.D.Disk.since
    (c.args.owner.now, c.args.random.now, c.args.disk.now) (c.run_lines.new.owner, c.run_lines.new.random, c.run_lines.new.disk)
    c.new-reader.result c.run_lines.new.reader (Some c.args.script) (Some c.run_lines.new.input) None None
    (Ok tt) c.in-Ok.ensures.ran).1

pub returns-clause-disk_told : goal.returns-clause-disk_told
returns-clause-disk_told g c =
    (goes_on g.row.R.Denot g.row.D.Denot g.R.Source.left g.R.Source.faults g.D.Disk.shown g.D.Disk.faults g.D.Disk.may_leave g.D.Disk.moment g.D.Disk.since
    (c.args.owner.now, c.args.random.now, c.args.disk.now) (c.run_lines.new.owner, c.run_lines.new.random, c.run_lines.new.disk)
    c.new-reader.result c.run_lines.new.reader (Some c.args.script) (Some c.run_lines.new.input) None None
    (Err c.in-Err.fault) c.in-Err.ensures.ran).1

pub returns-in-Ok-clause-random_counts : goal.returns-in-Ok-clause-random_counts
returns-in-Ok-clause-random_counts g c =
    (goes_on g.row.R.Denot g.row.D.Denot g.R.Source.left g.R.Source.faults g.D.Disk.shown g.D.Disk.faults g.D.Disk.may_leave g.D.Disk.moment g.D.Disk.since
    (c.args.owner.now, c.args.random.now, c.args.disk.now) (c.run_lines.new.owner, c.run_lines.new.random, c.run_lines.new.disk)
    c.new-reader.result c.run_lines.new.reader (Some c.args.script) (Some c.run_lines.new.input) None None
    (Ok tt) c.in-Ok.ensures.ran).2

pub returns-clause-random_counts : goal.returns-clause-random_counts
returns-clause-random_counts g c =
    (goes_on g.row.R.Denot g.row.D.Denot g.R.Source.left g.R.Source.faults g.D.Disk.shown g.D.Disk.faults g.D.Disk.may_leave g.D.Disk.moment g.D.Disk.since
    (c.args.owner.now, c.args.random.now, c.args.disk.now) (c.run_lines.new.owner, c.run_lines.new.random, c.run_lines.new.disk)
    c.new-reader.result c.run_lines.new.reader (Some c.args.script) (Some c.run_lines.new.input) None None
    (Err c.in-Err.fault) c.in-Err.ensures.ran).2

pub returns-in-Ok-clause-disk_counts : goal.returns-in-Ok-clause-disk_counts
returns-in-Ok-clause-disk_counts g c =
    (goes_on g.row.R.Denot g.row.D.Denot g.R.Source.left g.R.Source.faults g.D.Disk.shown g.D.Disk.faults g.D.Disk.may_leave g.D.Disk.moment g.D.Disk.since
    (c.args.owner.now, c.args.random.now, c.args.disk.now) (c.run_lines.new.owner, c.run_lines.new.random, c.run_lines.new.disk)
    c.new-reader.result c.run_lines.new.reader (Some c.args.script) (Some c.run_lines.new.input) None None
    (Ok tt) c.in-Ok.ensures.ran).3

pub returns-clause-disk_counts : goal.returns-clause-disk_counts
returns-clause-disk_counts g c =
    (goes_on g.row.R.Denot g.row.D.Denot g.R.Source.left g.R.Source.faults g.D.Disk.shown g.D.Disk.faults g.D.Disk.may_leave g.D.Disk.moment g.D.Disk.since
    (c.args.owner.now, c.args.random.now, c.args.disk.now) (c.run_lines.new.owner, c.run_lines.new.random, c.run_lines.new.disk)
    c.new-reader.result c.run_lines.new.reader (Some c.args.script) (Some c.run_lines.new.input) None None
    (Err c.in-Err.fault) c.in-Err.ensures.ran).3

pub returns-clause-stops : goal.returns-clause-stops
returns-clause-stops g c =
    let stop : IsStop (sessions.script_status c.in-Err.fault) = stops g.row.R.Denot g.row.D.Denot g.R.Source.left g.R.Source.faults g.D.Disk.shown g.D.Disk.faults g.D.Disk.may_leave g.D.Disk.moment g.D.Disk.since
    (c.args.owner.now, c.args.random.now, c.args.disk.now) (c.run_lines.new.owner, c.run_lines.new.random, c.run_lines.new.disk)
    c.new-reader.result c.run_lines.new.reader c.args.script c.run_lines.new.input c.new-reader.ensures
    c.in-Err.fault c.requires.is_script c.in-Err.ensures.ran c.in-Err.ensures.input_counts c.in-Err.ensures.out_counts in
    subst IsStop (sym c.script_status.ensures) stop

pub returns-clause-applies : goal.returns-clause-applies
returns-clause-applies g c = λ seed count key m few is begins.
    let calm = calm_is g.row.R.Denot g.row.D.Denot g.R.Source.left g.R.Source.faults g.D.Disk.shown g.D.Disk.faults g.D.Disk.may_leave g.D.Disk.moment g.D.Disk.since
    (c.args.owner.now, c.args.random.now, c.args.disk.now) (c.run_lines.new.owner, c.run_lines.new.random, c.run_lines.new.disk)
    c.new-reader.result c.run_lines.new.reader (Some c.args.script) (Some c.run_lines.new.input) None None
    (c.run_lines.new.owner.journal.is_closed ≡ false) (c.run_lines.new.owner.journal.end ≤ g.D.Disk.size_of c.run_lines.new.disk) (Err c.in-Err.fault) c.in-Err.ensures.ran c.in-Err.ensures.ready in
    let stop : IsStop (sessions.script_status c.in-Err.fault) = stops g.row.R.Denot g.row.D.Denot g.R.Source.left g.R.Source.faults g.D.Disk.shown g.D.Disk.faults g.D.Disk.may_leave g.D.Disk.moment g.D.Disk.since
    (c.args.owner.now, c.args.random.now, c.args.disk.now) (c.run_lines.new.owner, c.run_lines.new.random, c.run_lines.new.disk)
    c.new-reader.result c.run_lines.new.reader c.args.script c.run_lines.new.input c.new-reader.ensures
    c.in-Err.fault c.requires.is_script c.in-Err.ensures.ran c.in-Err.ensures.input_counts c.in-Err.ensures.out_counts in
    subst (λ status. Applies (Err status) seed count key m c.run_lines.new.owner
    (unheard (g.R.Source.left c.args.random.now) (g.R.Source.left c.run_lines.new.random) (g.D.Disk.shown c.run_lines.new.disk)) (g.D.Disk.may_leave c.run_lines.new.disk)
    (LinesKeepUpTo key m (g.D.Disk.shown c.args.disk.now) (g.D.Disk.shown c.run_lines.new.disk) (g.D.Disk.since c.run_lines.new.disk (g.D.Disk.moment c.args.disk.now)))) (sym c.script_status.ensures)
    (applies_to_stop g.row.R.Denot g.row.D.Denot g.R.Source.left g.R.Source.faults g.D.Disk.shown g.D.Disk.faults g.D.Disk.may_leave g.D.Disk.moment g.D.Disk.since
    (c.args.owner.now, c.args.random.now, c.args.disk.now) (c.run_lines.new.owner, c.run_lines.new.random, c.run_lines.new.disk)
    c.new-reader.result c.run_lines.new.reader c.args.script c.run_lines.new.input c.new-reader.ensures
    (λ d s left at. g.met.D.Disk.only_now d s left at) c.requires.durable seed count few is key m begins c.in-Err.fault stop c.in-Err.ensures.ran calm)

pub returns-clause-calm : goal.returns-clause-calm
returns-clause-calm g c = λ other.
    let calm = calm_is g.row.R.Denot g.row.D.Denot g.R.Source.left g.R.Source.faults g.D.Disk.shown g.D.Disk.faults g.D.Disk.may_leave g.D.Disk.moment g.D.Disk.since
    (c.args.owner.now, c.args.random.now, c.args.disk.now) (c.run_lines.new.owner, c.run_lines.new.random, c.run_lines.new.disk)
    c.new-reader.result c.run_lines.new.reader (Some c.args.script) (Some c.run_lines.new.input) None None
    (c.run_lines.new.owner.journal.is_closed ≡ false) (c.run_lines.new.owner.journal.end ≤ g.D.Disk.size_of c.run_lines.new.disk) (Err c.in-Err.fault) c.in-Err.ensures.ran c.in-Err.ensures.ready in
    calm_but g.row.R.Denot g.row.D.Denot g.R.Source.left g.R.Source.faults g.D.Disk.shown g.D.Disk.faults g.D.Disk.may_leave g.D.Disk.moment g.D.Disk.since
    (c.args.owner.now, c.args.random.now, c.args.disk.now) (c.run_lines.new.owner, c.run_lines.new.random, c.run_lines.new.disk)
    c.new-reader.result c.run_lines.new.reader (Some c.args.script) (Some c.run_lines.new.input) None None
    c.in-Err.fault calm (λ is. other (ap Err (c.script_status.ensures ∙ is)))

pub returns-clause-short : goal.returns-clause-short
returns-clause-short g c = λ given wanted is.
    let status : c.script_status.result ≡ statuses.RandomShort given wanted = cc in
    random_short g.row.R.Denot g.row.D.Denot g.R.Source.left g.R.Source.faults g.D.Disk.shown g.D.Disk.faults g.D.Disk.may_leave g.D.Disk.moment g.D.Disk.since
    (c.args.owner.now, c.args.random.now, c.args.disk.now) (c.run_lines.new.owner, c.run_lines.new.random, c.run_lines.new.disk)
    c.new-reader.result c.run_lines.new.reader (Some c.args.script) (Some c.run_lines.new.input) None None
    c.in-Err.fault c.in-Err.ensures.ran given wanted (sym c.script_status.ensures ∙ status)

pub returns-clause-random_fault : goal.returns-clause-random_fault
returns-clause-random_fault g c = λ is.
    let status : c.script_status.result ≡ statuses.RandomFault = cc in
    random_fault g.row.R.Denot g.row.D.Denot g.R.Source.left g.R.Source.faults g.D.Disk.shown g.D.Disk.faults g.D.Disk.may_leave g.D.Disk.moment g.D.Disk.since
    (c.args.owner.now, c.args.random.now, c.args.disk.now) (c.run_lines.new.owner, c.run_lines.new.random, c.run_lines.new.disk)
    c.new-reader.result c.run_lines.new.reader (Some c.args.script) (Some c.run_lines.new.input) None None
    c.in-Err.fault c.in-Err.ensures.ran (sym c.script_status.ensures ∙ status)

pub returns-clause-disk_fault : goal.returns-clause-disk_fault
returns-clause-disk_fault g c = λ is.
    let status : c.script_status.result ≡ statuses.DiskFault = cc in
    disk_fault g.row.R.Denot g.row.D.Denot g.R.Source.left g.R.Source.faults g.D.Disk.shown g.D.Disk.faults g.D.Disk.may_leave g.D.Disk.moment g.D.Disk.since
    (c.args.owner.now, c.args.random.now, c.args.disk.now) (c.run_lines.new.owner, c.run_lines.new.random, c.run_lines.new.disk)
    c.new-reader.result c.run_lines.new.reader (Some c.args.script) (Some c.run_lines.new.input) None None
    c.in-Err.fault c.in-Err.ensures.ran (sym c.script_status.ensures ∙ status)

pub returns-in-Ok-clause-published : goal.returns-in-Ok-clause-published
returns-in-Ok-clause-published g c = λ key m stands.
    publish_lines g.row.R.Denot g.row.D.Denot g.R.Source.left g.R.Source.faults g.D.Disk.shown g.D.Disk.faults g.D.Disk.may_leave g.D.Disk.moment g.D.Disk.since
    (c.args.owner.now, c.args.random.now, c.args.disk.now) (c.run_lines.new.owner, c.run_lines.new.random, c.run_lines.new.disk)
    c.new-reader.result c.run_lines.new.reader (Some c.args.script) (Some c.run_lines.new.input) None None
    (λ d s left at. g.met.D.Disk.only_now d s left at) (λ d t s left early is leaves. g.met.D.Disk.counts_now d t s left early is leaves)
    (λ d s is. g.met.D.Disk.shown_may_be_left d s is) key m stands c.requires.durable (Ok tt) c.in-Ok.ensures.ran

pub returns-clause-published : goal.returns-clause-published
returns-clause-published g c = λ key m stands.
    publish_lines g.row.R.Denot g.row.D.Denot g.R.Source.left g.R.Source.faults g.D.Disk.shown g.D.Disk.faults g.D.Disk.may_leave g.D.Disk.moment g.D.Disk.since
    (c.args.owner.now, c.args.random.now, c.args.disk.now) (c.run_lines.new.owner, c.run_lines.new.random, c.run_lines.new.disk)
    c.new-reader.result c.run_lines.new.reader (Some c.args.script) (Some c.run_lines.new.input) None None
    (λ d s left at. g.met.D.Disk.only_now d s left at) (λ d t s left early is leaves. g.met.D.Disk.counts_now d t s left early is leaves)
    (λ d s is. g.met.D.Disk.shown_may_be_left d s is) key m stands c.requires.durable (Err c.in-Err.fault) c.in-Err.ensures.ran

pub returns-in-Ok-clause-later : goal.returns-in-Ok-clause-later
returns-in-Ok-clause-later g c =
    (time_goes_on g.row.R.Denot g.row.D.Denot g.R.Source.left g.R.Source.faults g.D.Disk.shown g.D.Disk.faults g.D.Disk.may_leave g.D.Disk.moment g.D.Disk.since
    (c.args.owner.now, c.args.random.now, c.args.disk.now) (c.run_lines.new.owner, c.run_lines.new.random, c.run_lines.new.disk)
    c.new-reader.result c.run_lines.new.reader (Some c.args.script) (Some c.run_lines.new.input) None None
    (λ d s left at. g.met.D.Disk.only_now d s left at) (λ d t s left early is leaves. g.met.D.Disk.counts_now d t s left early is leaves)
    (Ok tt) c.in-Ok.ensures.ran).0

pub returns-in-Ok-clause-time : goal.returns-in-Ok-clause-time
returns-in-Ok-clause-time g c =
    (time_goes_on g.row.R.Denot g.row.D.Denot g.R.Source.left g.R.Source.faults g.D.Disk.shown g.D.Disk.faults g.D.Disk.may_leave g.D.Disk.moment g.D.Disk.since
    (c.args.owner.now, c.args.random.now, c.args.disk.now) (c.run_lines.new.owner, c.run_lines.new.random, c.run_lines.new.disk)
    c.new-reader.result c.run_lines.new.reader (Some c.args.script) (Some c.run_lines.new.input) None None
    (λ d s left at. g.met.D.Disk.only_now d s left at) (λ d t s left early is leaves. g.met.D.Disk.counts_now d t s left early is leaves)
    (Ok tt) c.in-Ok.ensures.ran).1

pub returns-clause-later : goal.returns-clause-later
returns-clause-later g c =
    (time_goes_on g.row.R.Denot g.row.D.Denot g.R.Source.left g.R.Source.faults g.D.Disk.shown g.D.Disk.faults g.D.Disk.may_leave g.D.Disk.moment g.D.Disk.since
    (c.args.owner.now, c.args.random.now, c.args.disk.now) (c.run_lines.new.owner, c.run_lines.new.random, c.run_lines.new.disk)
    c.new-reader.result c.run_lines.new.reader (Some c.args.script) (Some c.run_lines.new.input) None None
    (λ d s left at. g.met.D.Disk.only_now d s left at) (λ d t s left early is leaves. g.met.D.Disk.counts_now d t s left early is leaves)
    (Err c.in-Err.fault) c.in-Err.ensures.ran).0

pub returns-clause-time : goal.returns-clause-time
returns-clause-time g c =
    (time_goes_on g.row.R.Denot g.row.D.Denot g.R.Source.left g.R.Source.faults g.D.Disk.shown g.D.Disk.faults g.D.Disk.may_leave g.D.Disk.moment g.D.Disk.since
    (c.args.owner.now, c.args.random.now, c.args.disk.now) (c.run_lines.new.owner, c.run_lines.new.random, c.run_lines.new.disk)
    c.new-reader.result c.run_lines.new.reader (Some c.args.script) (Some c.run_lines.new.input) None None
    (λ d s left at. g.met.D.Disk.only_now d s left at) (λ d t s left early is leaves. g.met.D.Disk.counts_now d t s left early is leaves)
    (Err c.in-Err.fault) c.in-Err.ensures.ran).1

pub returns-in-Ok-clause-same_key : goal.returns-in-Ok-clause-same_key
returns-in-Ok-clause-same_key g c =
    same_key g.row.R.Denot g.row.D.Denot g.R.Source.left g.R.Source.faults g.D.Disk.shown g.D.Disk.faults g.D.Disk.may_leave g.D.Disk.moment g.D.Disk.since
    (c.args.owner.now, c.args.random.now, c.args.disk.now) (c.run_lines.new.owner, c.run_lines.new.random, c.run_lines.new.disk)
    c.new-reader.result c.run_lines.new.reader (Some c.args.script) (Some c.run_lines.new.input) None None
    c.in-Ok.ensures.ran
