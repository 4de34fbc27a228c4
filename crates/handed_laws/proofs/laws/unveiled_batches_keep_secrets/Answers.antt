use Rattle.handed_laws.proofs.Unmasked.{ends_secret, later_secret}
use Rattle.handed_laws.proofs.laws.unveiled_batches_keep_secrets.Goals as goal

pub returns : goal.returns
returns g c =
    let D = g.D.Disk in
    record {
      ends = λ key m1 m2 holds stays runs s bytes was left.
          ends_secret D (λ d t s left early shown leaves. g.met.D.Disk.counts_now d t s left early shown leaves) (λ d s left at. g.met.D.Disk.only_now d s left at)
          (λ d s is. g.met.D.Disk.shown_may_be_left d s is) key c.args.start.now m1 m2 holds stays c.args.before.now runs s bytes was left;
      later = λ key m1 m2 holds stays runs call.
          later_secret D (λ d t s left early shown leaves. g.met.D.Disk.counts_now d t s left early shown leaves) (λ d s left at. g.met.D.Disk.only_now d s left at)
          (λ d s is. g.met.D.Disk.shown_may_be_left d s is) key c.args.start.now m1 m2 holds stays c.args.before.now c.args.after.now c.args.next.now c.args.last.now runs call;
    }
