use Rattle.public_fold.proofs.NotesFit.{journal_fits}
use Rattle.public_fold.proofs.tree_laws.accepted_notes_fit.Goals as goal

pub returns : goal.returns
returns c = journal_fits
