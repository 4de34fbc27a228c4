use Rattle.stop_laws.proofs.Kept.{all_keep, ends_keep, later_keep}
use Rattle.stop_laws.proofs.laws.nothing_published_is_taken_back.Goals as goal

pub returns : goal.returns
returns g c =
    let D = g.D.Disk in
    record {
      now = λ key m1 m2 holds stays runs run. all_keep D (λ d t s left early shown leaves. g.met.D.Disk.counts_now d t s left early shown leaves)
          key c.args.start.now m1 m2 holds stays c.args.before.now c.args.after.now runs run;
      ends = λ key m1 m2 holds stays runs run s l bytes at left.
          ends_keep D (λ d t s left early shown leaves. g.met.D.Disk.counts_now d t s left early shown leaves)
          key c.args.start.now m1 m2 holds stays (λ d s left at. g.met.D.Disk.only_now d s left at) c.args.before.now c.args.after.now runs run s l bytes at left;
      later = λ key m1 m2 holds stays runs run.
          later_keep D (λ d t s left early shown leaves. g.met.D.Disk.counts_now d t s left early shown leaves)
          key c.args.start.now m1 m2 holds stays c.args.before.now c.args.after.now c.args.next.now c.args.last.now runs run;
    }
