use Rattle.public_fold.proofs.SpelledOnce.{store_told}
use Rattle.public_fold.proofs.state_laws.rows_tell_the_store.Goals as goal

pub returns : goal.returns
returns c = store_told
