use Rattle.commit_journal.proofs.OpenedJournals.{not_refused}
use Rattle.commit_journal.proofs.opening_laws.standing_bytes_are_never_refused.Goals as goal

pub returns : goal.returns
returns c = not_refused
