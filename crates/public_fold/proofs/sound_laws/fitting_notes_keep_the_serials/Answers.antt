use Rattle.public_fold.proofs.TurnsHold.{note_serials, note_clean}
use Rattle.public_fold.proofs.sound_laws.fitting_notes_keep_the_serials.Goals as goal

pub returns : goal.returns
returns c = record { serials = note_serials; clean = note_clean }
