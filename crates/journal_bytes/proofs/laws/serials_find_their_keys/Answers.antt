use Rattle.public_fold.proofs.AllFit.{journal_all_fit}
use Rattle.journal_bytes.proofs.Ascending.{drawn_found}
use Rattle.journal_bytes.proofs.laws.serials_find_their_keys.Goals as goal

pub returns : goal.returns
returns c = λ owner m valid. drawn_found owner m (journal_all_fit m valid)
