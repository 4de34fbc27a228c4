use Rattle.std.proofs.Common.{refl}
use Rattle.journal_bytes.specs.WorkedBytes.{journal_bytes}
use Rattle.journal_bytes.proofs.laws.fresh_journal_has_the_fresh_image.Goals as goal

pub returns : goal.returns
unfolding journal_bytes
returns c drawn = refl
