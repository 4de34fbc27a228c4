use Rattle.public_fold.proofs.AllFit.{journal_all_fit}
use Rattle.public_fold.proofs.key_laws.entries_fit_in_journals.Goals as goal

pub returns : goal.returns
returns c = journal_all_fit
