use Rattle.public_fold.proofs.KeyMoves.{journal_holds}
use Rattle.public_fold.proofs.key_laws.keys_hold_in_journals.Goals as goal

pub returns : goal.returns
returns c = journal_holds
