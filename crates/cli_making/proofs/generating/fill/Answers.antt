use Rattle.std.proofs.Common.{◌++◌, Err, ap}
use Rattle.script_text.specs.Printing.{owner_line}
use Rattle.store_owner.specs.Tallied.{tally_in}
use Rattle.cli_making.specs.Figures.{spell_figures}
use Rattle.cli_sessions.specs.Stopping.{LinesKeepUpTo}
use Rattle.cli_base.specs.declared.status.Status.TheVariants as statuses
use Rattle.cli_making.proofs.GenerateLemmas.{announces, never_stop, never_told, not_stopped, same_stop, stop_announces, stop_answers, stop_fills, told_answers, told_before, told_fills}
use Rattle.cli_making.proofs.generating.fill.Goals as goal

pub returns-in-Ok-clause-answers : goal.returns-in-Ok-clause-answers
returns-in-Ok-clause-answers g c = told_answers (owner_line c.apply_script.new.owner.key ++ spell_figures (tally_in c.apply_script.new.owner)) (g.W.Sink.written c.args.out.now) (g.W.Sink.written c.tell_outcome.new.out) c.tell_outcome.result c.tell_outcome.ensures.tells

pub returns-in-Ok-clause-blank : goal.returns-in-Ok-clause-blank
returns-in-Ok-clause-blank g c = λ is.
    never_told (owner_line c.apply_script.new.owner.key ++ spell_figures (tally_in c.apply_script.new.owner)) (g.W.Sink.written c.args.out.now) (g.W.Sink.written c.tell_outcome.new.out) c.tell_outcome.result statuses.NotBlank c.tell_outcome.ensures.tells is (λ no. no)

pub returns-in-Ok-clause-fills : goal.returns-in-Ok-clause-fills
returns-in-Ok-clause-fills g c = λ seed count key m few is begins.
    told_fills seed count key m c.apply_script.new.owner (g.R.Source.left c.args.random.now) (g.R.Source.left c.apply_script.new.random) (g.D.Disk.shown c.apply_script.new.disk)
    (g.D.Disk.may_leave c.apply_script.new.disk) (LinesKeepUpTo key m (g.D.Disk.shown c.args.disk.now) (g.D.Disk.shown c.apply_script.new.disk) (g.D.Disk.since c.apply_script.new.disk (g.D.Disk.moment c.args.disk.now)))
    (g.W.Sink.written c.args.out.now) (g.W.Sink.written c.tell_outcome.new.out) c.tell_outcome.result (c.in-Ok.ensures.applies seed count key m few is begins) c.tell_outcome.ensures.tells

pub returns-in-Ok-clause-short : goal.returns-in-Ok-clause-short
returns-in-Ok-clause-short g c = λ left need is.
    never_told (owner_line c.apply_script.new.owner.key ++ spell_figures (tally_in c.apply_script.new.owner)) (g.W.Sink.written c.args.out.now) (g.W.Sink.written c.tell_outcome.new.out) c.tell_outcome.result (statuses.RandomShort left need) c.tell_outcome.ensures.tells is (λ no. no)

pub returns-in-Ok-clause-random_fault : goal.returns-in-Ok-clause-random_fault
returns-in-Ok-clause-random_fault g c = λ is.
    never_told (owner_line c.apply_script.new.owner.key ++ spell_figures (tally_in c.apply_script.new.owner)) (g.W.Sink.written c.args.out.now) (g.W.Sink.written c.tell_outcome.new.out) c.tell_outcome.result statuses.RandomFault c.tell_outcome.ensures.tells is (λ no. no)

pub returns-in-Ok-clause-disk_fault : goal.returns-in-Ok-clause-disk_fault
returns-in-Ok-clause-disk_fault g c = λ is.
    never_told (owner_line c.apply_script.new.owner.key ++ spell_figures (tally_in c.apply_script.new.owner)) (g.W.Sink.written c.args.out.now) (g.W.Sink.written c.tell_outcome.new.out) c.tell_outcome.result statuses.DiskFault c.tell_outcome.ensures.tells is (λ no. no)

pub returns-in-Ok-clause-out_kept : goal.returns-in-Ok-clause-out_kept
returns-in-Ok-clause-out_kept g c = λ before.
    told_before (owner_line c.apply_script.new.owner.key ++ spell_figures (tally_in c.apply_script.new.owner)) (g.W.Sink.written c.args.out.now) (g.W.Sink.written c.tell_outcome.new.out) c.tell_outcome.result c.tell_outcome.ensures.tells c.tell_outcome.ensures.kept before

pub returns-in-Ok-clause-calm : goal.returns-in-Ok-clause-calm
returns-in-Ok-clause-calm g c = λ other. c.in-Ok.ensures.calm (not_stopped statuses.DiskFault)

pub returns-clause-answers : goal.returns-clause-answers
returns-clause-answers g c = stop_answers c.in-Err.status c.in-Err.ensures.stops

pub returns-clause-blank : goal.returns-clause-blank
returns-clause-blank g c = λ is. never_stop c.in-Err.status statuses.NotBlank c.in-Err.ensures.stops is (λ no. no)

pub returns-clause-fills : goal.returns-clause-fills
returns-clause-fills g c = λ seed count key m few is begins.
    stop_fills seed count key m c.apply_script.new.owner (g.R.Source.left c.args.random.now) (g.R.Source.left c.apply_script.new.random) (g.D.Disk.shown c.apply_script.new.disk)
    (g.D.Disk.may_leave c.apply_script.new.disk) (LinesKeepUpTo key m (g.D.Disk.shown c.args.disk.now) (g.D.Disk.shown c.apply_script.new.disk) (g.D.Disk.since c.apply_script.new.disk (g.D.Disk.moment c.args.disk.now)))
    (g.W.Sink.written c.args.out.now) (g.W.Sink.written c.args.out.now) c.in-Err.status c.in-Err.ensures.stops (c.in-Err.ensures.applies seed count key m few is begins)

pub returns-clause-calm : goal.returns-clause-calm
returns-clause-calm g c = λ other. c.in-Err.ensures.calm (λ e. other (same_stop c.in-Err.status statuses.DiskFault e))

pub returns-clause-short : goal.returns-clause-short
returns-clause-short g c = λ left need is. c.in-Err.ensures.short left need (ap Err is)

pub returns-clause-random_fault : goal.returns-clause-random_fault
returns-clause-random_fault g c = λ is. c.in-Err.ensures.random_fault (ap Err is)

pub returns-clause-disk_fault : goal.returns-clause-disk_fault
returns-clause-disk_fault g c = λ is. c.in-Err.ensures.disk_fault (ap Err is)

pub returns-clause-write_fault : goal.returns-clause-write_fault
returns-clause-write_fault g c = λ is. never_stop c.in-Err.status statuses.WriteFault c.in-Err.ensures.stops is (λ no. no)

pub returns-in-Ok-clause-published : goal.returns-in-Ok-clause-published
returns-in-Ok-clause-published g c = λ key m stands. c.in-Ok.ensures.published key m stands

pub returns-clause-published : goal.returns-clause-published
returns-clause-published g c = λ key m stands. c.in-Err.ensures.published key m stands

pub returns-in-Ok-clause-announced : goal.returns-in-Ok-clause-announced
returns-in-Ok-clause-announced g c =
    announces c.tell_outcome.result c.args.owner.key c.apply_script.new.owner (g.W.Sink.written c.args.out.now) (g.W.Sink.written c.tell_outcome.new.out)
    c.in-Ok.ensures.same_key c.tell_outcome.ensures.tells

pub returns-clause-announced : goal.returns-clause-announced
returns-clause-announced g c =
    stop_announces c.in-Err.status c.args.owner.key (g.W.Sink.written c.args.out.now) (g.W.Sink.written c.args.out.now) c.in-Err.ensures.stops
