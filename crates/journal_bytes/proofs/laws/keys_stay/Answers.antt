use Rattle.std.proofs.Common.{refl}
use Rattle.journal_bytes.proofs.Grown.{key_stays}
use Rattle.journal_bytes.proofs.laws.keys_stay.Goals as goal

pub returns : goal.returns
returns c owner m more key i = key_stays owner m more key.serial (key, i, refl)
