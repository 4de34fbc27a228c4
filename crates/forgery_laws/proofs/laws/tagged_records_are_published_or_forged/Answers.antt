use Rattle.forgery_laws.proofs.Authentic.{published_or_forged}
use Rattle.forgery_laws.proofs.laws.tagged_records_are_published_or_forged.Goals as goal

pub returns : goal.returns
returns c = published_or_forged
