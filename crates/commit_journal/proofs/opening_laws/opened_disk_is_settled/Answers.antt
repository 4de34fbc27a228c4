use Rattle.commit_journal.proofs.OpenedJournals.{opened_settled}
use Rattle.commit_journal.proofs.opening_laws.opened_disk_is_settled.Goals as goal

pub returns : goal.returns
returns g c limit owner bodies bytes o = opened_settled limit owner bodies bytes o _ _ _
