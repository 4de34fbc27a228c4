use Rattle.commit_journal.proofs.Refilled.{filled_whole}
use Rattle.commit_journal.proofs.opening_laws.filled_bytes_stand_whole.Goals as goal

pub returns : goal.returns
returns c = filled_whole
