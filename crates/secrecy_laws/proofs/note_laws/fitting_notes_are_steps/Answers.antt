use Rattle.secrecy_laws.proofs.NoteSteps.{note_step_is, note_step_fits}
use Rattle.secrecy_laws.proofs.note_laws.fitting_notes_are_steps.Goals as goal

pub returns : goal.returns
returns c = record { step = note_step_is; fits = note_step_fits }
