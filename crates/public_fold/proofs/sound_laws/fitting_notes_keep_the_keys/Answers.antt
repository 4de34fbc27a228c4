use Rattle.public_fold.proofs.TurnsHold.{note_keys}
use Rattle.public_fold.proofs.sound_laws.fitting_notes_keep_the_keys.Goals as goal

pub returns : goal.returns
returns c = note_keys
