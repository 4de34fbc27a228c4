use Rattle.stop_laws.proofs.Lasting.{never_lost}
use Rattle.stop_laws.proofs.laws.what_was_published_is_never_lost.Goals as goal

pub returns : goal.returns
returns g c key m1 m2 holds stays runs shown bytes was left =
    let D = g.D.Disk in
    never_lost D (λ d t s left early shown leaves. g.met.D.Disk.counts_now d t s left early shown leaves) (λ d s left at. g.met.D.Disk.only_now d s left at) (λ d s is. g.met.D.Disk.shown_may_be_left d s is)
    key c.args.start.now m1 m2 holds stays c.args.now.now runs shown was bytes left
