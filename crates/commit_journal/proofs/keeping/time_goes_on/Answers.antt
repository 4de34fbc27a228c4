use Rattle.batch_log.proofs.Moments.{goes_on_elapsed, goes_on_then}
use Rattle.commit_journal.proofs.keeping.time_goes_on.Goals as goal

pub returns : goal.returns
returns g c = record {
  one = λ time. goes_on_elapsed _ _ _ _ _ _ _ _
      (λ s left at. g.met.D.Disk.only_now c.args.before.now s left at)
      (λ t s left early shown leaves. g.met.D.Disk.counts_now c.args.before.now t s left early shown leaves)
      (λ t s left early shown leaves. g.met.D.Disk.counts_now c.args.between.now t s left early shown leaves)
      time;
  two = λ order one two. goes_on_then _ _ _ _ _ order one two;
}
