use Rattle.public_fold.proofs.TextsWritten.{note_written}
use Rattle.public_fold.proofs.sound_laws.texts_stay_written.Goals as goal

pub returns : goal.returns
returns c = note_written
