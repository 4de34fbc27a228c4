use Rattle.journal_bytes.proofs.Ascending.{all_below}
use Rattle.journal_bytes.proofs.sealing_laws.serials_are_below_the_next.Goals as goal

pub returns : goal.returns
returns c = all_below
