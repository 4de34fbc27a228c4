use Rattle.forgery_laws.proofs.Readers.{reader_has_key}
use Rattle.forgery_laws.proofs.laws.readers_have_keys.Goals as goal

pub returns : goal.returns
returns c = reader_has_key
