use Rattle.handed_laws.proofs.Unmasked.{call_unveils}
use Rattle.handed_laws.proofs.laws.calls_unveil_what_they_publish.Goals as goal

pub returns : goal.returns
returns g c = λ key m1 m2 holds runs call x s left is at.
    call_unveils g.D.Disk (λ d t s left early shown leaves. g.met.D.Disk.counts_now d t s left early shown leaves) (λ d s left at. g.met.D.Disk.only_now d s left at)
    (λ d s is. g.met.D.Disk.shown_may_be_left d s is) key c.args.start.now m1 m2 holds c.args.before.now c.args.after.now runs call x s left is at
