use Rattle.std.proofs.Common.{◌≡◌, ◌≤◌, IsTrue, false, inl, [], length, Ok, Err, refl, sym, subst, ◌∙◌}
use Rattle.store_owner.specs.Owned.{OwnerView}
use Rattle.cry_io.proofs.OnlyRead.{only_read_still}
use Rattle.cli_running.proofs.FaultedRuns.{after_no_disk_fault}
use Rattle.cli_running.proofs.LinesRun.{none_taken}
use Rattle.cli_running.specs.Running.{is_before_opening, is_run_answer}
use Rattle.cli_sessions.proofs.PublishedLines.{publish_lines}
use Rattle.cli_sessions.proofs.RunLemmas.{Fails, Step}
use Rattle.cli_sessions.proofs.ScriptLemmas.{nothing_ran}
use Rattle.cli_sessions.specs.OwnerSteps.{StandsIn}
use Rattle.cli_sessions.specs.declared.script.ScriptFault.TheVariants.{ReadFault}
use Rattle.cli_serving.proofs.LinesServed.{reads_counted, served_behind, served_needs_none, served_reads, served_undone, served_writes, went_answers, writes_counted}
use Rattle.cli_serving.proofs.ServedRuns.{Tells, ran_calm, ran_disk_fault, ran_on, ran_publishes, ran_random_fault, ran_short, ran_tells, ran_time}
use Rattle.cli_serving.proofs.ServesOver.{serves_none}
use Rattle.cli_serving.proofs.serve.serve_opened.Goals as goal

pub returns-in-Ok-clause-later : goal.returns-in-Ok-clause-later
returns-in-Ok-clause-later g c =
    (ran_time g.row.R.Denot g.row.D.Denot g.R.Source g.D.Disk
    (λ d s left at. g.met.D.Disk.only_now d s left at) (λ d t s left early is leaves. g.met.D.Disk.counts_now d t s left early is leaves)
    (λ d s is. g.met.D.Disk.shown_may_be_left d s is)
    (c.args.owner, c.args.random.now, c.args.disk.now) (c.serve_lines-served.new.owner, c.serve_lines-served.new.random, c.serve_lines-served.new.disk)
    c.args.reader c.serve_lines-served.new.reader (g.S.Source.left c.args.input.now) (g.S.Source.left c.serve_lines-served.new.input)
    (g.W.Sink.written c.args.out.now) (g.W.Sink.written c.serve_lines-served.new.out)
    (Ok tt) c.in-Ok.ensures.ran).0

pub returns-in-Ok-clause-time : goal.returns-in-Ok-clause-time
returns-in-Ok-clause-time g c =
    (ran_time g.row.R.Denot g.row.D.Denot g.R.Source g.D.Disk
    (λ d s left at. g.met.D.Disk.only_now d s left at) (λ d t s left early is leaves. g.met.D.Disk.counts_now d t s left early is leaves)
    (λ d s is. g.met.D.Disk.shown_may_be_left d s is)
    (c.args.owner, c.args.random.now, c.args.disk.now) (c.serve_lines-served.new.owner, c.serve_lines-served.new.random, c.serve_lines-served.new.disk)
    c.args.reader c.serve_lines-served.new.reader (g.S.Source.left c.args.input.now) (g.S.Source.left c.serve_lines-served.new.input)
    (g.W.Sink.written c.args.out.now) (g.W.Sink.written c.serve_lines-served.new.out)
    (Ok tt) c.in-Ok.ensures.ran).1

pub returns-in-Ok-clause-random_told : goal.returns-in-Ok-clause-random_told
returns-in-Ok-clause-random_told g c =
    (ran_on g.row.R.Denot g.row.D.Denot g.R.Source g.D.Disk
    (λ d s left at. g.met.D.Disk.only_now d s left at) (λ d t s left early is leaves. g.met.D.Disk.counts_now d t s left early is leaves)
    (λ d s is. g.met.D.Disk.shown_may_be_left d s is)
    (c.args.owner, c.args.random.now, c.args.disk.now) (c.serve_lines-served.new.owner, c.serve_lines-served.new.random, c.serve_lines-served.new.disk)
    c.args.reader c.serve_lines-served.new.reader (g.S.Source.left c.args.input.now) (g.S.Source.left c.serve_lines-served.new.input)
    (g.W.Sink.written c.args.out.now) (g.W.Sink.written c.serve_lines-served.new.out)
    (Ok tt) c.in-Ok.ensures.ran).0

pub returns-in-Ok-clause-disk_told : goal.returns-in-Ok-clause-disk_told
returns-in-Ok-clause-disk_told g c =
    (ran_on g.row.R.Denot g.row.D.Denot g.R.Source g.D.Disk
    (λ d s left at. g.met.D.Disk.only_now d s left at) (λ d t s left early is leaves. g.met.D.Disk.counts_now d t s left early is leaves)
    (λ d s is. g.met.D.Disk.shown_may_be_left d s is)
    (c.args.owner, c.args.random.now, c.args.disk.now) (c.serve_lines-served.new.owner, c.serve_lines-served.new.random, c.serve_lines-served.new.disk)
    c.args.reader c.serve_lines-served.new.reader (g.S.Source.left c.args.input.now) (g.S.Source.left c.serve_lines-served.new.input)
    (g.W.Sink.written c.args.out.now) (g.W.Sink.written c.serve_lines-served.new.out)
    (Ok tt) c.in-Ok.ensures.ran).1

pub returns-in-Ok-clause-random_counts : goal.returns-in-Ok-clause-random_counts
returns-in-Ok-clause-random_counts g c =
    (ran_on g.row.R.Denot g.row.D.Denot g.R.Source g.D.Disk
    (λ d s left at. g.met.D.Disk.only_now d s left at) (λ d t s left early is leaves. g.met.D.Disk.counts_now d t s left early is leaves)
    (λ d s is. g.met.D.Disk.shown_may_be_left d s is)
    (c.args.owner, c.args.random.now, c.args.disk.now) (c.serve_lines-served.new.owner, c.serve_lines-served.new.random, c.serve_lines-served.new.disk)
    c.args.reader c.serve_lines-served.new.reader (g.S.Source.left c.args.input.now) (g.S.Source.left c.serve_lines-served.new.input)
    (g.W.Sink.written c.args.out.now) (g.W.Sink.written c.serve_lines-served.new.out)
    (Ok tt) c.in-Ok.ensures.ran).2

pub returns-in-Ok-clause-disk_counts : goal.returns-in-Ok-clause-disk_counts
returns-in-Ok-clause-disk_counts g c =
    (ran_on g.row.R.Denot g.row.D.Denot g.R.Source g.D.Disk
    (λ d s left at. g.met.D.Disk.only_now d s left at) (λ d t s left early is leaves. g.met.D.Disk.counts_now d t s left early is leaves)
    (λ d s is. g.met.D.Disk.shown_may_be_left d s is)
    (c.args.owner, c.args.random.now, c.args.disk.now) (c.serve_lines-served.new.owner, c.serve_lines-served.new.random, c.serve_lines-served.new.disk)
    c.args.reader c.serve_lines-served.new.reader (g.S.Source.left c.args.input.now) (g.S.Source.left c.serve_lines-served.new.input)
    (g.W.Sink.written c.args.out.now) (g.W.Sink.written c.serve_lines-served.new.out)
    (Ok tt) c.in-Ok.ensures.ran).3

pub returns-in-Ok-clause-published : goal.returns-in-Ok-clause-published
returns-in-Ok-clause-published g c = λ key m stands.
    ran_publishes g.row.R.Denot g.row.D.Denot g.R.Source g.D.Disk
    (λ d s left at. g.met.D.Disk.only_now d s left at) (λ d t s left early is leaves. g.met.D.Disk.counts_now d t s left early is leaves)
    (λ d s is. g.met.D.Disk.shown_may_be_left d s is)
    (c.args.owner, c.args.random.now, c.args.disk.now) (c.serve_lines-served.new.owner, c.serve_lines-served.new.random, c.serve_lines-served.new.disk)
    c.args.reader c.serve_lines-served.new.reader (g.S.Source.left c.args.input.now) (g.S.Source.left c.serve_lines-served.new.input)
    (g.W.Sink.written c.args.out.now) (g.W.Sink.written c.serve_lines-served.new.out)
    (Ok tt) c.in-Ok.ensures.ran key m stands c.requires.durable

pub returns-clause-later : goal.returns-clause-later
returns-clause-later g c =
    (ran_time g.row.R.Denot g.row.D.Denot g.R.Source g.D.Disk
    (λ d s left at. g.met.D.Disk.only_now d s left at) (λ d t s left early is leaves. g.met.D.Disk.counts_now d t s left early is leaves)
    (λ d s is. g.met.D.Disk.shown_may_be_left d s is)
    (c.args.owner, c.args.random.now, c.args.disk.now) (c.serve_lines-served.new.owner, c.serve_lines-served.new.random, c.serve_lines-served.new.disk)
    c.args.reader c.serve_lines-served.new.reader (g.S.Source.left c.args.input.now) (g.S.Source.left c.serve_lines-served.new.input)
    (g.W.Sink.written c.args.out.now) (g.W.Sink.written c.serve_lines-served.new.out)
    (Err c.in-Err.fault) c.in-Err.ensures.ran).0

pub returns-clause-time : goal.returns-clause-time
returns-clause-time g c =
    (ran_time g.row.R.Denot g.row.D.Denot g.R.Source g.D.Disk
    (λ d s left at. g.met.D.Disk.only_now d s left at) (λ d t s left early is leaves. g.met.D.Disk.counts_now d t s left early is leaves)
    (λ d s is. g.met.D.Disk.shown_may_be_left d s is)
    (c.args.owner, c.args.random.now, c.args.disk.now) (c.serve_lines-served.new.owner, c.serve_lines-served.new.random, c.serve_lines-served.new.disk)
    c.args.reader c.serve_lines-served.new.reader (g.S.Source.left c.args.input.now) (g.S.Source.left c.serve_lines-served.new.input)
    (g.W.Sink.written c.args.out.now) (g.W.Sink.written c.serve_lines-served.new.out)
    (Err c.in-Err.fault) c.in-Err.ensures.ran).1

pub returns-clause-random_told : goal.returns-clause-random_told
returns-clause-random_told g c =
    (ran_on g.row.R.Denot g.row.D.Denot g.R.Source g.D.Disk
    (λ d s left at. g.met.D.Disk.only_now d s left at) (λ d t s left early is leaves. g.met.D.Disk.counts_now d t s left early is leaves)
    (λ d s is. g.met.D.Disk.shown_may_be_left d s is)
    (c.args.owner, c.args.random.now, c.args.disk.now) (c.serve_lines-served.new.owner, c.serve_lines-served.new.random, c.serve_lines-served.new.disk)
    c.args.reader c.serve_lines-served.new.reader (g.S.Source.left c.args.input.now) (g.S.Source.left c.serve_lines-served.new.input)
    (g.W.Sink.written c.args.out.now) (g.W.Sink.written c.serve_lines-served.new.out)
    (Err c.in-Err.fault) c.in-Err.ensures.ran).0

pub returns-clause-disk_told : goal.returns-clause-disk_told
returns-clause-disk_told g c =
    (ran_on g.row.R.Denot g.row.D.Denot g.R.Source g.D.Disk
    (λ d s left at. g.met.D.Disk.only_now d s left at) (λ d t s left early is leaves. g.met.D.Disk.counts_now d t s left early is leaves)
    (λ d s is. g.met.D.Disk.shown_may_be_left d s is)
    (c.args.owner, c.args.random.now, c.args.disk.now) (c.serve_lines-served.new.owner, c.serve_lines-served.new.random, c.serve_lines-served.new.disk)
    c.args.reader c.serve_lines-served.new.reader (g.S.Source.left c.args.input.now) (g.S.Source.left c.serve_lines-served.new.input)
    (g.W.Sink.written c.args.out.now) (g.W.Sink.written c.serve_lines-served.new.out)
    (Err c.in-Err.fault) c.in-Err.ensures.ran).1

pub returns-clause-random_counts : goal.returns-clause-random_counts
returns-clause-random_counts g c =
    (ran_on g.row.R.Denot g.row.D.Denot g.R.Source g.D.Disk
    (λ d s left at. g.met.D.Disk.only_now d s left at) (λ d t s left early is leaves. g.met.D.Disk.counts_now d t s left early is leaves)
    (λ d s is. g.met.D.Disk.shown_may_be_left d s is)
    (c.args.owner, c.args.random.now, c.args.disk.now) (c.serve_lines-served.new.owner, c.serve_lines-served.new.random, c.serve_lines-served.new.disk)
    c.args.reader c.serve_lines-served.new.reader (g.S.Source.left c.args.input.now) (g.S.Source.left c.serve_lines-served.new.input)
    (g.W.Sink.written c.args.out.now) (g.W.Sink.written c.serve_lines-served.new.out)
    (Err c.in-Err.fault) c.in-Err.ensures.ran).2

pub returns-clause-disk_counts : goal.returns-clause-disk_counts
returns-clause-disk_counts g c =
    (ran_on g.row.R.Denot g.row.D.Denot g.R.Source g.D.Disk
    (λ d s left at. g.met.D.Disk.only_now d s left at) (λ d t s left early is leaves. g.met.D.Disk.counts_now d t s left early is leaves)
    (λ d s is. g.met.D.Disk.shown_may_be_left d s is)
    (c.args.owner, c.args.random.now, c.args.disk.now) (c.serve_lines-served.new.owner, c.serve_lines-served.new.random, c.serve_lines-served.new.disk)
    c.args.reader c.serve_lines-served.new.reader (g.S.Source.left c.args.input.now) (g.S.Source.left c.serve_lines-served.new.input)
    (g.W.Sink.written c.args.out.now) (g.W.Sink.written c.serve_lines-served.new.out)
    (Err c.in-Err.fault) c.in-Err.ensures.ran).3

pub returns-clause-published : goal.returns-clause-published
returns-clause-published g c = λ key m stands.
    ran_publishes g.row.R.Denot g.row.D.Denot g.R.Source g.D.Disk
    (λ d s left at. g.met.D.Disk.only_now d s left at) (λ d t s left early is leaves. g.met.D.Disk.counts_now d t s left early is leaves)
    (λ d s is. g.met.D.Disk.shown_may_be_left d s is)
    (c.args.owner, c.args.random.now, c.args.disk.now) (c.serve_lines-served.new.owner, c.serve_lines-served.new.random, c.serve_lines-served.new.disk)
    c.args.reader c.serve_lines-served.new.reader (g.S.Source.left c.args.input.now) (g.S.Source.left c.serve_lines-served.new.input)
    (g.W.Sink.written c.args.out.now) (g.W.Sink.written c.serve_lines-served.new.out)
    (Err c.in-Err.fault) c.in-Err.ensures.ran key m stands c.requires.durable

pub returns-in-Ok-clause-calm : goal.returns-in-Ok-clause-calm
returns-in-Ok-clause-calm g c = λ other. c.in-Ok.ensures.ready.2

pub returns-in-Ok-clause-lines : goal.returns-in-Ok-clause-lines
returns-in-Ok-clause-lines g c =
    ran_tells g.row.R.Denot g.row.D.Denot g.R.Source g.D.Disk
    (λ d s left at. g.met.D.Disk.only_now d s left at) (λ d t s left early is leaves. g.met.D.Disk.counts_now d t s left early is leaves)
    (λ d s is. g.met.D.Disk.shown_may_be_left d s is)
    (c.args.owner, c.args.random.now, c.args.disk.now) (c.serve_lines-served.new.owner, c.serve_lines-served.new.random, c.serve_lines-served.new.disk)
    c.args.reader c.serve_lines-served.new.reader (g.S.Source.left c.args.input.now) (g.S.Source.left c.serve_lines-served.new.input)
    (g.W.Sink.written c.args.out.now) (g.W.Sink.written c.serve_lines-served.new.out)
    (Ok tt) c.in-Ok.ensures.ran c.in-Ok.ensures.input_told c.requires.second (λ is. absurd cc) c.requires.durable

-- ---- where the lines met a fault

pub returns-clause-calm : goal.returns-clause-calm
returns-clause-calm g c = λ other.
    ran_calm g.row.R.Denot g.row.D.Denot g.R.Source g.D.Disk
    (λ d s left at. g.met.D.Disk.only_now d s left at) (λ d t s left early is leaves. g.met.D.Disk.counts_now d t s left early is leaves)
    (λ d s is. g.met.D.Disk.shown_may_be_left d s is)
    (c.args.owner, c.args.random.now, c.args.disk.now) (c.serve_lines-served.new.owner, c.serve_lines-served.new.random, c.serve_lines-served.new.disk)
    c.args.reader c.serve_lines-served.new.reader (g.S.Source.left c.args.input.now) (g.S.Source.left c.serve_lines-served.new.input)
    (g.W.Sink.written c.args.out.now) (g.W.Sink.written c.serve_lines-served.new.out)
    (Err c.in-Err.fault) c.in-Err.ensures.ran
    (c.serve_lines-served.new.owner.journal.is_closed ≡ false) (c.serve_lines-served.new.owner.journal.end ≤ g.D.Disk.size_of c.serve_lines-served.new.disk) c.in-Err.ensures.ready (λ is. other (c.serve_status.ensures ∙ is))

pub returns-clause-short : goal.returns-clause-short
returns-clause-short g c = λ had need is.
    ran_short g.row.R.Denot g.row.D.Denot g.R.Source g.D.Disk
    (λ d s left at. g.met.D.Disk.only_now d s left at) (λ d t s left early is leaves. g.met.D.Disk.counts_now d t s left early is leaves)
    (λ d s is. g.met.D.Disk.shown_may_be_left d s is)
    (c.args.owner, c.args.random.now, c.args.disk.now) (c.serve_lines-served.new.owner, c.serve_lines-served.new.random, c.serve_lines-served.new.disk)
    c.args.reader c.serve_lines-served.new.reader (g.S.Source.left c.args.input.now) (g.S.Source.left c.serve_lines-served.new.input)
    (g.W.Sink.written c.args.out.now) (g.W.Sink.written c.serve_lines-served.new.out)
    (Err c.in-Err.fault) c.in-Err.ensures.ran had need (sym c.serve_status.ensures ∙ is)

pub returns-clause-random_fault : goal.returns-clause-random_fault
returns-clause-random_fault g c = λ is.
    ran_random_fault g.row.R.Denot g.row.D.Denot g.R.Source g.D.Disk
    (λ d s left at. g.met.D.Disk.only_now d s left at) (λ d t s left early is leaves. g.met.D.Disk.counts_now d t s left early is leaves)
    (λ d s is. g.met.D.Disk.shown_may_be_left d s is)
    (c.args.owner, c.args.random.now, c.args.disk.now) (c.serve_lines-served.new.owner, c.serve_lines-served.new.random, c.serve_lines-served.new.disk)
    c.args.reader c.serve_lines-served.new.reader (g.S.Source.left c.args.input.now) (g.S.Source.left c.serve_lines-served.new.input)
    (g.W.Sink.written c.args.out.now) (g.W.Sink.written c.serve_lines-served.new.out)
    (Err c.in-Err.fault) c.in-Err.ensures.ran (sym c.serve_status.ensures ∙ is)

pub returns-clause-disk_fault : goal.returns-clause-disk_fault
returns-clause-disk_fault g c = λ is.
    ran_disk_fault g.row.R.Denot g.row.D.Denot g.R.Source g.D.Disk
    (λ d s left at. g.met.D.Disk.only_now d s left at) (λ d t s left early is leaves. g.met.D.Disk.counts_now d t s left early is leaves)
    (λ d s is. g.met.D.Disk.shown_may_be_left d s is)
    (c.args.owner, c.args.random.now, c.args.disk.now) (c.serve_lines-served.new.owner, c.serve_lines-served.new.random, c.serve_lines-served.new.disk)
    c.args.reader c.serve_lines-served.new.reader (g.S.Source.left c.args.input.now) (g.S.Source.left c.serve_lines-served.new.input)
    (g.W.Sink.written c.args.out.now) (g.W.Sink.written c.serve_lines-served.new.out)
    (Err c.in-Err.fault) c.in-Err.ensures.ran (sym c.serve_status.ensures ∙ is)

pub returns-clause-lines : goal.returns-clause-lines
returns-clause-lines g c =
    subst (Tells g.row.R.Denot g.row.D.Denot g.R.Source g.D.Disk
    (λ d s left at. g.met.D.Disk.only_now d s left at) (λ d t s left early is leaves. g.met.D.Disk.counts_now d t s left early is leaves)
    (λ d s is. g.met.D.Disk.shown_may_be_left d s is)
    (c.args.owner, c.args.random.now, c.args.disk.now) (c.serve_lines-served.new.owner, c.serve_lines-served.new.random, c.serve_lines-served.new.disk)
    c.args.reader c.serve_lines-served.new.reader (g.S.Source.left c.args.input.now) (g.S.Source.left c.serve_lines-served.new.input)
    (g.W.Sink.written c.args.out.now) (g.W.Sink.written c.serve_lines-served.new.out)) (sym c.serve_status.ensures)
    (ran_tells g.row.R.Denot g.row.D.Denot g.R.Source g.D.Disk
    (λ d s left at. g.met.D.Disk.only_now d s left at) (λ d t s left early is leaves. g.met.D.Disk.counts_now d t s left early is leaves)
    (λ d s is. g.met.D.Disk.shown_may_be_left d s is)
    (c.args.owner, c.args.random.now, c.args.disk.now) (c.serve_lines-served.new.owner, c.serve_lines-served.new.random, c.serve_lines-served.new.disk)
    c.args.reader c.serve_lines-served.new.reader (g.S.Source.left c.args.input.now) (g.S.Source.left c.serve_lines-served.new.input)
    (g.W.Sink.written c.args.out.now) (g.W.Sink.written c.serve_lines-served.new.out)
    (Err c.in-Err.fault) c.in-Err.ensures.ran
    c.in-Err.ensures.input_told c.requires.second c.in-Err.ensures.unended c.requires.durable)

pub returns-clause-answers : goal.returns-clause-answers
returns-clause-answers g c =
    subst (λ status. IsTrue (is_run_answer status)) (sym c.serve_status.ensures) (went_answers _ _ _ _ _ _ _ _ _ _ _ (Err c.in-Err.fault) c.in-Err.ensures.ran.went)

pub returns-clause-needs : goal.returns-clause-needs
returns-clause-needs g c = λ is. served_needs_none c.in-Err.fault (sym c.serve_status.ensures ∙ is)

pub returns-clause-stays : goal.returns-clause-stays
returns-clause-stays g c = λ after. returns-clause-calm g c (after_no_disk_fault c.serve_status.result after)

pub returns-clause-not_first : goal.returns-clause-not_first
returns-clause-not_first g c =
    subst (λ status. is_before_opening status ≡ false) (sym c.serve_status.ensures)
    (served_behind c.in-Err.fault c.args.reader.given (length c.in-Err.ensures.ran.turns) c.requires.second c.in-Err.ensures.ran.number)

pub returns-clause-read_to_end : goal.returns-clause-read_to_end
returns-clause-read_to_end g c = λ done. served_undone c.in-Err.fault (sym c.serve_status.ensures ∙ done)

pub returns-clause-read_fault : goal.returns-clause-read_fault
returns-clause-read_fault g c = λ is.
    served_reads c.in-Err.fault (g.S.Source.faults c.args.input.now) (g.S.Source.faults c.serve_lines-served.new.input) c.in-Err.ensures.input_counts (sym c.serve_status.ensures ∙ is)

pub returns-clause-write_fault : goal.returns-clause-write_fault
returns-clause-write_fault g c = λ is.
    served_writes c.in-Err.fault (g.W.Sink.faults c.args.out.now) (g.W.Sink.faults c.serve_lines-served.new.out) c.in-Err.ensures.out_counts (sym c.serve_status.ensures ∙ is)

pub returns-clause-input_counts : goal.returns-clause-input_counts
returns-clause-input_counts g c =
    reads_counted c.in-Err.fault (g.S.Source.faults c.args.input.now) (g.S.Source.faults c.serve_lines-served.new.input) c.in-Err.ensures.input_counts

pub returns-clause-out_counts : goal.returns-clause-out_counts
returns-clause-out_counts g c =
    writes_counted c.in-Err.fault (g.W.Sink.faults c.args.out.now) (g.W.Sink.faults c.serve_lines-served.new.out) c.in-Err.ensures.out_counts

-- ---- a store of version 1

pub returns-then-version-eq-OLD_VERSION-clause-published : goal.returns-then-version-eq-OLD_VERSION-clause-published
returns-then-version-eq-OLD_VERSION-clause-published g c = λ key m stands.
    let here : OwnerView × g.row.R.Denot × g.row.D.Denot = (c.args.owner, c.args.random.now, c.args.disk.now) in
    let typed = g.S.Source.left c.args.input.now in
    let written = g.W.Sink.written c.args.out.now in
    publish_lines g.row.R.Denot g.row.D.Denot g.R.Source.left g.R.Source.faults g.D.Disk.shown g.D.Disk.faults g.D.Disk.may_leave g.D.Disk.moment g.D.Disk.since
    here here c.args.reader c.args.reader typed typed written written
    (λ d s left at. g.met.D.Disk.only_now d s left at) (λ d t s left early is leaves. g.met.D.Disk.counts_now d t s left early is leaves)
    (λ d s is. g.met.D.Disk.shown_may_be_left d s is) key m stands c.requires.durable (Err ReadFault)
    (nothing_ran (Step g.row.R.Denot g.row.D.Denot g.R.Source.left g.R.Source.faults g.D.Disk.shown g.D.Disk.faults g.D.Disk.may_leave g.D.Disk.moment g.D.Disk.since)
    (Fails g.row.R.Denot g.row.D.Denot g.R.Source.left g.R.Source.faults g.D.Disk.shown g.D.Disk.faults g.D.Disk.may_leave g.D.Disk.moment g.D.Disk.since)
    (λ (x : OwnerView × g.row.R.Denot × g.row.D.Denot). StandsIn x.0) here c.args.reader typed written)

pub returns-then-version-eq-OLD_VERSION-clause-lines : goal.returns-then-version-eq-OLD_VERSION-clause-lines
returns-then-version-eq-OLD_VERSION-clause-lines g c =
    let typed = g.S.Source.left c.args.input.now in
    let written = g.W.Sink.written c.args.out.now in (
      [],
      [],
      (λ x was. refl),
      (λ few. none_taken c.args.reader typed few),
      (λ is. absurd cc),
      (λ key m was stands kept.
          serves_none g.row.R.Denot g.row.D.Denot g.R.Source.left g.R.Source.faults g.D.Disk.shown g.D.Disk.faults g.D.Disk.may_leave g.D.Disk.moment g.D.Disk.since
          (λ d s left at. g.met.D.Disk.only_now d s left at) (λ d t s left early is leaves. g.met.D.Disk.counts_now d t s left early is leaves)
          (c.args.owner, c.args.random.now, c.args.disk.now) key m stands c.requires.durable was kept written),
      (λ other. absurd (other refl)),
      inl refl,
      (λ none. (refl, only_read_still g.D.Disk c.args.disk.now)),
    )
