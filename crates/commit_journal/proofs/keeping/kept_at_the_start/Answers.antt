use Rattle.commit_journal.proofs.KeptLemmas.{kept_starts}
use Rattle.commit_journal.specs.Standing.{StandsFor}
use Rattle.commit_journal.proofs.keeping.kept_at_the_start.Goals as goal

pub returns : goal.returns
returns g c owner low high reached holds =
    kept_starts (StandsFor owner) low high reached _ _ _ holds (λ s left at. g.met.D.Disk.only_now c.args.disk.now s left at)
