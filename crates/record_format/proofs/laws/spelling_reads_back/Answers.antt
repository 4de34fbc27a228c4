use Rattle.record_format.proofs.PayloadLaws.{reads_back}
use Rattle.record_format.proofs.laws.spelling_reads_back.Goals as goal

pub returns : goal.returns
returns c = reads_back
