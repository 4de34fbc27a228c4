use Rattle.script_text.proofs.BundleLines.{bundle_within}
use Rattle.script_text.proofs.laws.bundle_lines_are_short.Goals as goal

pub returns : goal.returns
returns c = bundle_within
