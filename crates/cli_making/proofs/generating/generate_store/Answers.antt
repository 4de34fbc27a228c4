use Rattle.std.proofs.Common.{Err, inl, inr, ap, sym, ◌∙◌, subst}
use Rattle.batch_log.proofs.Moments.{goes_on_then}
use Rattle.cli_making.specs.Generating.{IsUnmade}
use Rattle.cli_sessions.specs.Sessions.{version_limits}
use Rattle.cli_base.specs.declared.status.Status.{Status}
use Rattle.cli_making.proofs.GenerateLemmas.{dry_behind, generated, other_fault, unmade}
use Rattle.cli_making.proofs.MakeLemmas.{is_short, short_of}
use Rattle.cli_sessions.proofs.StopLemmas.{time_still}
use Rattle.cli_making.proofs.generating.generate_store.Goals as goal

pub fill-requires-clause-is_script : goal.fill-requires-clause-is_script
fill-requires-clause-is_script g c = (c.args.seed, c.args.count, c.requires, c.in-Ok.ensures)

pub fill-requires-clause-open : goal.fill-requires-clause-open
fill-requires-clause-open g c = c.in-Ok-make.ensures.made.owner.journal.is_open

pub returns-in-Ok-make-clause-generates : goal.returns-in-Ok-make-clause-generates
returns-in-Ok-make-clause-generates g c = λ blank.
    let store = c.in-Ok-make.ensures.made in
    inr (generated g.D.Disk c.tallies_are_those_of_journals.ensures.made c.fill.result c.args.seed c.args.count c.in-Ok-make.owner
    (g.R.Source.left c.args.random.now) (g.R.Source.left c.make.new.random) (g.R.Source.left c.fill.new.random)
    c.args.disk.now c.make.new.disk c.fill.new.disk (g.W.Sink.written c.args.out.now) (g.W.Sink.written c.fill.new.out)
    c.in-Ok-make.ensures.source_told c.fill.ensures.disk_told store
    (record {
      told = c.in-Ok-make.ensures.disk_told;
      shows = store.fresh;
      durable = c.in-Ok-make.ensures.durable;
      size = c.in-Ok-make.ensures.size;
      later = c.in-Ok-make.ensures.later;
      time = c.in-Ok-make.ensures.time;
    })
    c.fill.ensures.later c.fill.ensures.time
    (λ key m begins. c.fill.ensures.fills c.args.seed c.args.count key m c.requires c.in-Ok.ensures begins) c.fill.ensures.published c.fill.ensures.announced)

pub returns-in-Ok-make-clause-time : goal.returns-in-Ok-make-clause-time
returns-in-Ok-make-clause-time g c =
    let D = g.D.Disk in
    goes_on_then (D.moment c.args.disk.now) (D.moment c.make.new.disk) (D.since c.args.disk.now) (D.since c.make.new.disk) (D.since c.fill.new.disk)
    c.in-Ok-make.ensures.later c.in-Ok-make.ensures.time c.fill.ensures.time

pub returns-in_default-clause-time : goal.returns-in_default-clause-time
returns-in_default-clause-time g c =
    let D = g.D.Disk in
    let a = c.args.disk.now in
    time_still (D.moment a) (D.since a) (D.shown a) (D.may_leave a) (λ s left at. g.met.D.Disk.only_now a s left at)
    (λ t s left early is leaves. g.met.D.Disk.counts_now a t s left early is leaves)

pub returns-in-Ok-make-clause-calm : goal.returns-in-Ok-make-clause-calm
returns-in-Ok-make-clause-calm g c = λ other. inr (c.fill.ensures.calm other)

pub returns-in-Ok-make-clause-short : goal.returns-in-Ok-make-clause-short
returns-in-Ok-make-clause-short g c = λ left need is.
    dry_behind version_limits c.in-Ok-make.owner left need (g.R.Source.left c.args.random.now) (g.R.Source.left c.make.new.random) (g.R.Source.left c.fill.new.random)
    (g.D.Disk.shown c.args.disk.now) (g.D.Disk.shown c.make.new.disk) (g.D.Disk.since c.make.new.disk (g.D.Disk.moment c.args.disk.now)) c.in-Ok-make.ensures.made (c.fill.ensures.short left need is)

pub returns-in-Err-clause-generates : goal.returns-in-Err-clause-generates
returns-in-Err-clause-generates g c = λ blank.
    inl (subst (λ (s : Status). IsUnmade g.R.Source.left g.D.Disk s c.args.random.now c.make.new.random c.args.disk.now c.make.new.disk) (sym c.apply_status.ensures)
    (unmade g.row.R.Denot g.row.D.Denot g.R.Source.left g.D.Disk c.in-Err.fault c.args.random.now c.make.new.random c.args.disk.now c.make.new.disk c.in-Err.ensures.source_told
    (λ had need is. c.in-Err.ensures.short had need (ap Err is)) (λ is. c.in-Err.ensures.drew (ap Err is)) (λ is. c.in-Err.ensures.cut_short (ap Err is)) (λ is. c.in-Err.ensures.not_closed (ap Err is))
    (λ is. c.in-Err.ensures.no_memory (ap Err is)) c.in-Err.ensures.untouched))

pub returns-in-Err-clause-calm : goal.returns-in-Err-clause-calm
returns-in-Err-clause-calm g c = λ other. inl (c.in-Err.ensures.untouched (other_fault c.in-Err.fault (λ is. other (c.apply_status.ensures ∙ is))))

pub returns-in-Err-clause-short : goal.returns-in-Err-clause-short
returns-in-Err-clause-short g c = λ left need is.
    inl (is_short left need (g.R.Source.left c.args.random.now) (g.R.Source.left c.make.new.random) c.in-Err.ensures.source_told
    (c.in-Err.ensures.short left need (ap (λ f. Err f) (short_of c.in-Err.fault left need (sym c.apply_status.ensures ∙ is)))))
