use Rattle.commit_journal.proofs.Walks.{holder_ahead, writer_ahead}
use Rattle.commit_journal.proofs.log_laws.nobody_looks_behind.Goals as goal

pub returns : goal.returns
returns c = record { holder = holder_ahead; writer = writer_ahead }
