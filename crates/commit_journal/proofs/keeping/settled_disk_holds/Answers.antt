use Rattle.commit_journal.proofs.KeptLemmas.{settled_holds}
use Rattle.commit_journal.proofs.Standings.{whole_stands}
use Rattle.commit_journal.specs.Standing.{StandsFor, StandsWhole}
use Rattle.commit_journal.proofs.keeping.settled_disk_holds.Goals as goal

pub returns : goal.returns
returns g c owner bs settled = settled_holds (StandsFor owner) (StandsWhole owner) bs _ _ (whole_stands owner) settled
