use Rattle.commit_journal.proofs.Wider.{opened_is_written}
use Rattle.commit_journal.proofs.opening_laws.opened_batches_are_the_writers.Goals as goal

pub returns : goal.returns
returns c = opened_is_written
