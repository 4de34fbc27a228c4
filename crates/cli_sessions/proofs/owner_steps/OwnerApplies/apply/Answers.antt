use Rattle.cry_base.specs.Requests.{request_of}
use Rattle.cli_sessions.proofs.OwnerStepLemmas.{step_answers}
use Rattle.cli_sessions.proofs.owner_steps.OwnerApplies.apply.Goals as goal

pub returns-clause-answers : goal.returns-clause-answers
returns-clause-answers g c =
    let e = c.apply.ensures in
    step_answers g.R.Source.left g.R.Source.faults g.D.Disk.shown g.D.Disk.moment g.D.Disk.faults g.D.Disk.may_leave g.D.Disk.since
    c.apply.result (request_of c.args.command.now) c.args.self.now c.apply.new.self c.args.random.now c.apply.new.random c.args.disk.now c.apply.new.disk
    e.answers e.published e.later e.time e.closed c.requires.0 e.kept (e.calm c.requires.2) e.counts e.disk_told e.source_told e.disk_counts e.source_counts e.draws e.short e.key e.acts
