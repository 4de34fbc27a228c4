use Rattle.stop_laws.proofs.CallLemmas.{read_leaves}
use Rattle.stop_laws.proofs.calls.reading_leaves_the_store.Goals as goal

pub returns-clause-list : goal.returns-clause-list
returns-clause-list g c head status before after ended =
    read_leaves g.D.Disk (λ d t s left early shown leaves. g.met.D.Disk.counts_now d t s left early shown leaves) (λ d s left at. g.met.D.Disk.only_now d s left at) (λ d s is. g.met.D.Disk.shown_may_be_left d s is)
    before.disk after.disk ended.reads.reads_only ended.moments

pub returns-clause-open : goal.returns-clause-open
returns-clause-open g c head status path before after ended =
    read_leaves g.D.Disk (λ d t s left early shown leaves. g.met.D.Disk.counts_now d t s left early shown leaves) (λ d s left at. g.met.D.Disk.only_now d s left at) (λ d s is. g.met.D.Disk.shown_may_be_left d s is)
    before.disk after.disk ended.reads.reads_only ended.moments

pub returns-clause-audit : goal.returns-clause-audit
returns-clause-audit g c head status before after ended =
    read_leaves g.D.Disk (λ d t s left early shown leaves. g.met.D.Disk.counts_now d t s left early shown leaves) (λ d s left at. g.met.D.Disk.only_now d s left at) (λ d s is. g.met.D.Disk.shown_may_be_left d s is)
    before.disk after.disk ended.reads.reads_only ended.moments
