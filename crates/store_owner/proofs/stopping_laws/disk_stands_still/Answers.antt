use Rattle.commit_journal.proofs.StoppedCommits.{stays}
use Rattle.store_owner.proofs.PublishedCommands.{still_on}
use Rattle.store_owner.proofs.StoppedCommands.{stays_at_rest}
use Rattle.store_owner.proofs.stopping_laws.disk_stands_still.Goals as goal

pub returns : goal.returns
returns g c =
    let D = g.D.Disk in
    let a = c.args.disk.now in
    record {
      time = stays (D.moment a) (D.since a) (D.shown a) (D.may_leave a) (λ s left at. g.met.D.Disk.only_now a s left at)
          (λ t s left early is leaves. g.met.D.Disk.counts_now a t s left early is leaves);
      rests = λ key m. stays_at_rest key m (D.shown a) (D.may_leave a) (D.since a (D.moment a)) (λ s left at. g.met.D.Disk.only_now a s left at);
      published = λ key m rests. still_on g.row.D.Denot D.moment D.since key m (D.shown a) (D.may_leave a) a (λ s left at. g.met.D.Disk.only_now a s left at) rests;
    }
