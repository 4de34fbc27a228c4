use Rattle.stop_laws.proofs.Kept.{all_stay, calm_stays}
use Rattle.stop_laws.proofs.laws.what_is_published_stays.Goals as goal

pub returns : goal.returns
returns g c =
    let D = g.D.Disk in
    let a = c.args.start.now in
    record {
      calm = λ key durable. calm_stays key (D.shown a) (D.may_leave a) durable;
      stays = λ key m1 m2 holds stays runs. all_stay D (λ d t s left early shown leaves. g.met.D.Disk.counts_now d t s left early shown leaves)
          key a m1 m2 holds stays c.args.now.now runs;
    }
