use Rattle.stop_laws.proofs.Left.{all_left}
use Rattle.stop_laws.proofs.laws.stops_leave_what_was_acknowledged.Goals as goal

pub returns : goal.returns
returns g c key m1 m2 first runs =
    let all = all_left g.D.Disk (λ d t s left early shown leaves. g.met.D.Disk.counts_now d t s left early shown leaves)
    key c.args.start.now m1 m2 first c.args.now.now runs in
    (all.0, all.1, all.2, all.3, all.4)
