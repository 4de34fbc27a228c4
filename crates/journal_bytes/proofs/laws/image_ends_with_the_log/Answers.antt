use Rattle.journal_bytes.proofs.Weighed.{valid_weighs}
use Rattle.journal_bytes.proofs.laws.image_ends_with_the_log.Goals as goal

pub returns : goal.returns
returns c = valid_weighs
