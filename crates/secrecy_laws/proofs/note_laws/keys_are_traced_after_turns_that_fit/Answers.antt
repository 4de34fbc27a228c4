use Rattle.secrecy_laws.proofs.NoteSteps.{log_kept}
use Rattle.secrecy_laws.proofs.note_laws.keys_are_traced_after_turns_that_fit.Goals as goal

pub returns : goal.returns
returns c = log_kept
