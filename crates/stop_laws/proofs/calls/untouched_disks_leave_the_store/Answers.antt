use Rattle.stop_laws.proofs.CallLemmas.{untouched_leaves}
use Rattle.stop_laws.proofs.calls.untouched_disks_leave_the_store.Goals as goal

pub returns : goal.returns
returns g c before after is =
    untouched_leaves g.D.Disk (λ d t s left early shown leaves. g.met.D.Disk.counts_now d t s left early shown leaves) (λ d s left at. g.met.D.Disk.only_now d s left at) (λ d s is. g.met.D.Disk.shown_may_be_left d s is)
    before after is
