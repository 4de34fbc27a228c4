use Rattle.script_text.proofs.BundleLines.{owner_read_back}
use Rattle.script_text.proofs.laws.owner_line_reads_back.Goals as goal

pub returns : goal.returns
returns c = owner_read_back
