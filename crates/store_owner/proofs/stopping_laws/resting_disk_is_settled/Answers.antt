use Rattle.store_owner.proofs.PublishedCommands.{rest_published}
use Rattle.store_owner.proofs.StoppedCommands.{rests_holds, rests_settled}
use Rattle.store_owner.proofs.stopping_laws.resting_disk_is_settled.Goals as goal

pub returns : goal.returns
returns g c =
    let D = g.D.Disk in
    let a = c.args.disk.now in
    record {
      settled = λ key m rests. rests_settled key m (D.shown a) (D.may_leave a) rests;
      holds = λ key m rests. rests_holds key m (D.shown a) (D.may_leave a) rests;
      rests = λ key m settled durable. record { shows = settled.shows; durable = durable };
      published = λ key m rests. rest_published key m (D.shown a) (D.may_leave a) rests;
    }
