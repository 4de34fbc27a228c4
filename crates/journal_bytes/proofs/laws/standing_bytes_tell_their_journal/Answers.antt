use Rattle.journal_bytes.proofs.Grown.{journal_recovered, batches_fit}
use Rattle.journal_bytes.proofs.laws.standing_bytes_tell_their_journal.Goals as goal

pub returns : goal.returns
returns c = record { recovered = journal_recovered; sizes = batches_fit }
