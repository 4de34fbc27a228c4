use Rattle.journal_bytes.proofs.Spelled.{holder_reads_on, owner_reads_on, writer_reads_on}
use Rattle.journal_bytes.proofs.opening_laws.standing_bytes_are_read.Goals as goal

pub returns : goal.returns
returns c = record { owner = owner_reads_on; holder = holder_reads_on; writer = writer_reads_on }
