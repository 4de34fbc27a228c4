use Rattle.stop_laws.proofs.HeldCalls.{upgrade_stops_on, upgrades_on}
use Rattle.stop_laws.proofs.calls.held_upgrades_are_upgrades.Goals as goal

pub returns-clause-ends : goal.returns-clause-ends
returns-clause-ends g c key runs call = upgrades_on g.D.Disk key c.args.start.now c.args.before.now c.args.after.now c.args.next.now runs call

pub returns-clause-stops : goal.returns-clause-stops
returns-clause-stops g c key runs call shown left at is =
    upgrade_stops_on g.D.Disk key c.args.start.now c.args.before.now c.args.after.now c.args.next.now runs call shown left at is
