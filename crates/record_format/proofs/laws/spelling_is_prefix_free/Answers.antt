use Rattle.record_format.proofs.PayloadLaws.{no_prefix}
use Rattle.record_format.proofs.laws.spelling_is_prefix_free.Goals as goal

pub returns : goal.returns
returns c = no_prefix
