use Rattle.std.proofs.Common.{None, Ok, Err, ap, refl, subst, sym, ◌∙◌}
use Rattle.std.proofs.lemmas.Bool.{false≢true}
use Rattle.batch_log.specs.Moments.{FromThenOn}
use Rattle.cli_base.proofs.InputLemmas.{fresh_reader}
use Rattle.cli_sessions.proofs.PublishedLines.{publish_lines}
use Rattle.cli_sessions.proofs.RunLemmas.{Fails, Step}
use Rattle.cli_sessions.proofs.ScriptLemmas.{nothing_ran}
use Rattle.cli_sessions.specs.OwnerSteps.{StandsIn}
use Rattle.cli_sessions.specs.Sessions.{seen_from}
use Rattle.cli_sessions.specs.Stopping.{LinesKeepUpTo}
use Rattle.cli_sessions.specs.declared.script.ScriptFault.TheVariants.{ReadFault}
use Rattle.cli_upgrading.proofs.EndedUpgrades.{answered, disk_kept, first_version, publishes, ran_dry, random_kept, refused_kept, rested_new, short_fault, stands_for, stopped, told}
use Rattle.cli_upgrading.specs.Upgrading.{EndsUpgrade}
use Rattle.store_owner.specs.Owned.{OwnerView}
use Rattle.cli_upgrading.proofs.upgrade.upgrade_store.Goals as goal

-- ---- a store of version 2

pub returns-then-version-ne-OLD_VERSION-clause-ends : goal.returns-then-version-ne-OLD_VERSION-clause-ends
returns-then-version-ne-OLD_VERSION-clause-ends g c = λ key m was stands kept.
    let disk = c.args.disk.now in
    rested_new key m was c.args.owner (g.R.Source.left c.args.random.now) (g.D.Disk.shown disk) (g.W.Sink.written c.args.out.now) (g.D.Disk.may_leave disk)
    (g.D.Disk.moment disk) (g.D.Disk.since disk) stands c.requires.durable kept (λ s left at. g.met.D.Disk.only_now disk s left at)
    (λ one. c.if-version-ne-OLD_VERSION.true (c.version.ensures ∙ one))

pub returns-then-version-ne-OLD_VERSION-clause-published : goal.returns-then-version-ne-OLD_VERSION-clause-published
returns-then-version-ne-OLD_VERSION-clause-published g c = λ key m stands.
    let here : OwnerView × g.row.R.Denot × g.row.D.Denot = (c.args.owner, c.args.random.now, c.args.disk.now) in
    publish_lines g.row.R.Denot g.row.D.Denot g.R.Source.left g.R.Source.faults g.D.Disk.shown g.D.Disk.faults g.D.Disk.may_leave g.D.Disk.moment g.D.Disk.since
    here here fresh_reader fresh_reader None None None None
    (λ d s left at. g.met.D.Disk.only_now d s left at) (λ d t s left early is leaves. g.met.D.Disk.counts_now d t s left early is leaves)
    (λ d s is. g.met.D.Disk.shown_may_be_left d s is) key m stands c.requires.durable (Err ReadFault)
    (nothing_ran (Step g.row.R.Denot g.row.D.Denot g.R.Source.left g.R.Source.faults g.D.Disk.shown g.D.Disk.faults g.D.Disk.may_leave g.D.Disk.moment g.D.Disk.since)
    (Fails g.row.R.Denot g.row.D.Denot g.R.Source.left g.R.Source.faults g.D.Disk.shown g.D.Disk.faults g.D.Disk.may_leave g.D.Disk.moment g.D.Disk.since)
    (λ (x : OwnerView × g.row.R.Denot × g.row.D.Denot). StandsIn x.0) here fresh_reader None None)

-- ---- it was answered

pub returns-in-Ok-clause-ends : goal.returns-in-Ok-clause-ends
returns-in-Ok-clause-ends g c = λ key m was stands kept.
    let one = first_version key m c.args.owner (g.D.Disk.shown c.args.disk.now) stands
    (sym c.version.ensures ∙ c.if-version-ne-OLD_VERSION.false) in
    let so = answered key m was c.args.owner c.upgrade-upgraded.new.self (g.R.Source.left c.args.random.now) (g.R.Source.left c.upgrade-upgraded.new.random)
    (g.D.Disk.shown c.args.disk.now) (g.D.Disk.shown c.upgrade-upgraded.new.disk) (g.W.Sink.written c.args.out.now) (g.W.Sink.written c.tell_reply.new.out)
    (g.D.Disk.may_leave c.args.disk.now) (g.D.Disk.may_leave c.upgrade-upgraded.new.disk)
    (g.D.Disk.since c.upgrade-upgraded.new.disk (g.D.Disk.moment c.args.disk.now))
    stands c.requires.durable kept one c.in-Ok.reply (c.in-Ok.ensures.answers m (stands_for key m c.args.owner (g.D.Disk.shown c.args.disk.now) stands))
    (λ why is.
    let same = refused_kept c.in-Ok.reply why c.args.owner c.upgrade-upgraded.new.self c.args.random.now c.upgrade-upgraded.new.random c.args.disk.now c.upgrade-upgraded.new.disk c.in-Ok.ensures.kept is in
    (ap (λ r. g.R.Source.left r) same.0, ap (λ d. g.D.Disk.shown d) same.1)) in
    told key m was c.args.owner c.upgrade-upgraded.new.self (g.R.Source.left c.args.random.now) (g.R.Source.left c.upgrade-upgraded.new.random)
    (g.D.Disk.shown c.args.disk.now) (g.D.Disk.shown c.upgrade-upgraded.new.disk) (g.W.Sink.written c.args.out.now) (g.W.Sink.written c.tell_reply.new.out)
    (g.D.Disk.may_leave c.args.disk.now) (g.D.Disk.may_leave c.upgrade-upgraded.new.disk)
    (g.D.Disk.since c.upgrade-upgraded.new.disk (g.D.Disk.moment c.args.disk.now))
    stands c.requires.durable kept one c.in-Ok.reply so c.tell_reply.result c.tell_reply.ensures.answers c.tell_reply.ensures.printed

pub returns-in-Ok-clause-published : goal.returns-in-Ok-clause-published
returns-in-Ok-clause-published g c = λ key m stands.
    publishes (Ok c.in-Ok.reply) key m c.args.owner c.upgrade-upgraded.new.self (g.R.Source.left c.args.random.now) (g.R.Source.left c.upgrade-upgraded.new.random)
    (g.D.Disk.shown c.args.disk.now) (g.D.Disk.shown c.upgrade-upgraded.new.disk)
    (g.D.Disk.may_leave c.args.disk.now) (g.D.Disk.may_leave c.upgrade-upgraded.new.disk)
    (g.D.Disk.since c.upgrade-upgraded.new.disk (g.D.Disk.moment c.args.disk.now))
    (FromThenOn g.D.Disk.moment g.D.Disk.since c.args.disk.now c.upgrade-upgraded.new.disk) stands c.requires.durable
    (c.in-Ok.ensures.answers m (stands_for key m c.args.owner (g.D.Disk.shown c.args.disk.now) stands)) c.in-Ok.ensures.published

-- ---- it met a fault

pub returns-in-Err-clause-ends : goal.returns-in-Err-clause-ends
returns-in-Err-clause-ends g c = λ key m was stands kept.
    let one = first_version key m c.args.owner (g.D.Disk.shown c.args.disk.now) stands
    (sym c.version.ensures ∙ c.if-version-ne-OLD_VERSION.false) in
    let written = g.W.Sink.written c.args.out.now in
    subst (λ status. EndsUpgrade status key m
    (seen_from (g.R.Source.left c.args.random.now) (g.R.Source.left c.upgrade-upgraded.new.random) was (g.D.Disk.shown c.upgrade-upgraded.new.disk) written written)
    (g.D.Disk.may_leave c.upgrade-upgraded.new.disk)
    (LinesKeepUpTo key m (g.D.Disk.shown c.args.disk.now) (g.D.Disk.shown c.upgrade-upgraded.new.disk)
    (g.D.Disk.since c.upgrade-upgraded.new.disk (g.D.Disk.moment c.args.disk.now)))) (sym c.apply_status.ensures)
    (stopped key m was c.args.owner c.upgrade-upgraded.new.self (g.R.Source.left c.args.random.now) (g.R.Source.left c.upgrade-upgraded.new.random)
    (g.D.Disk.shown c.args.disk.now) (g.D.Disk.shown c.upgrade-upgraded.new.disk) written written
    (g.D.Disk.may_leave c.args.disk.now) (g.D.Disk.may_leave c.upgrade-upgraded.new.disk)
    (g.D.Disk.since c.upgrade-upgraded.new.disk (g.D.Disk.moment c.args.disk.now))
    stands c.requires.durable kept one c.in-Err.fault (c.in-Err.ensures.answers m (stands_for key m c.args.owner (g.D.Disk.shown c.args.disk.now) stands))
    (λ closed. false≢true (sym c.requires.open ∙ closed))
    (λ other. ap (λ d. g.D.Disk.shown d) (disk_kept c.in-Err.fault c.args.owner c.upgrade-upgraded.new.self c.args.random.now c.upgrade-upgraded.new.random c.args.disk.now c.upgrade-upgraded.new.disk c.in-Err.ensures.kept other))
    (λ memory. ap (λ r. g.R.Source.left r) (random_kept c.in-Err.fault c.args.owner c.upgrade-upgraded.new.self c.args.random.now c.upgrade-upgraded.new.random c.args.disk.now c.upgrade-upgraded.new.disk c.in-Err.ensures.kept memory)))

pub returns-in-Err-clause-published : goal.returns-in-Err-clause-published
returns-in-Err-clause-published g c = λ key m stands.
    publishes (Err c.in-Err.fault) key m c.args.owner c.upgrade-upgraded.new.self (g.R.Source.left c.args.random.now) (g.R.Source.left c.upgrade-upgraded.new.random)
    (g.D.Disk.shown c.args.disk.now) (g.D.Disk.shown c.upgrade-upgraded.new.disk)
    (g.D.Disk.may_leave c.args.disk.now) (g.D.Disk.may_leave c.upgrade-upgraded.new.disk)
    (g.D.Disk.since c.upgrade-upgraded.new.disk (g.D.Disk.moment c.args.disk.now))
    (FromThenOn g.D.Disk.moment g.D.Disk.since c.args.disk.now c.upgrade-upgraded.new.disk) stands c.requires.durable
    (c.in-Err.ensures.answers m (stands_for key m c.args.owner (g.D.Disk.shown c.args.disk.now) stands)) c.in-Err.ensures.published

pub returns-in-Err-clause-short : goal.returns-in-Err-clause-short
returns-in-Err-clause-short g c = λ left need is.
    ran_dry c.args.owner left need (g.R.Source.left c.args.random.now) (g.R.Source.left c.upgrade-upgraded.new.random)
    (c.in-Err.ensures.short left need (ap Err (short_fault c.in-Err.fault left need (sym c.apply_status.ensures ∙ is))))

-- ---- the owner was asked

pub returns-then-version-ne-OLD_VERSION-clause-asks : goal.returns-then-version-ne-OLD_VERSION-clause-asks
returns-then-version-ne-OLD_VERSION-clause-asks g c = λ other. absurd (other refl)

pub returns-in-Ok-clause-asks : goal.returns-in-Ok-clause-asks
returns-in-Ok-clause-asks g c = λ other. record {
  answer = Ok c.in-Ok.reply;
  becomes = c.upgrade-upgraded.new.self;
  acts = c.in-Ok.ensures.acts;
  kept = c.in-Ok.ensures.kept;
  told = (c.tell_reply.ensures.answers, c.tell_reply.ensures.printed);
}

pub returns-in-Err-clause-asks : goal.returns-in-Err-clause-asks
returns-in-Err-clause-asks g c = λ other. record {
  answer = Err c.in-Err.fault;
  becomes = c.upgrade-upgraded.new.self;
  acts = c.in-Err.ensures.acts;
  kept = c.in-Err.ensures.kept;
  told = c.apply_status.ensures;
}
