use Rattle.record_format.proofs.Lengths.{length-spell_payload}
use Rattle.record_format.proofs.laws.spelling_has_its_size.Goals as goal

pub returns : goal.returns
returns c = length-spell_payload
