use Rattle.stop_laws.proofs.HeldCalls.{runs_on, stops_on}
use Rattle.stop_laws.proofs.calls.held_runs_are_runs.Goals as goal

pub returns-clause-ends : goal.returns-clause-ends
returns-clause-ends g c key runs call = runs_on g.D.Disk key c.args.start.now c.args.before.now c.args.after.now c.args.next.now runs call

pub returns-clause-stops : goal.returns-clause-stops
returns-clause-stops g c key runs call shown left at is =
    stops_on g.D.Disk key c.args.start.now c.args.before.now c.args.after.now c.args.next.now runs call shown left at is
