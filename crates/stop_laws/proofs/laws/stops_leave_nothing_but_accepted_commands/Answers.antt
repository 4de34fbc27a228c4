use Rattle.stop_laws.proofs.Left.{left_of_runs}
use Rattle.stop_laws.proofs.laws.stops_leave_nothing_but_accepted_commands.Goals as goal

pub returns : goal.returns
returns g c key m1 m2 first runs bytes left =
    left_of_runs g.D.Disk (λ d t s left early shown leaves. g.met.D.Disk.counts_now d t s left early shown leaves)
    key c.args.start.now m1 m2 first c.args.now.now runs bytes left
