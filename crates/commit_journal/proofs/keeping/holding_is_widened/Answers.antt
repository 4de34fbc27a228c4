use Rattle.commit_journal.proofs.KeptLemmas.{between_wider}
use Rattle.commit_journal.specs.Standing.{StandsFor}
use Rattle.commit_journal.proofs.keeping.holding_is_widened.Goals as goal

pub returns : goal.returns
returns g c owner low high lower higher down up holds = between_wider (StandsFor owner) low high lower higher _ _ down up holds
