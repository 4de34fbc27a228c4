use Rattle.public_fold.specs.Fitted.{told_stand}
use Rattle.public_fold.specs.KeyStep.{is_strict}
use Rattle.public_fold.proofs.NoteMoves.{note_rooted}
use Rattle.public_fold.proofs.sound_laws.fitting_notes_leave_the_store_rooted.Goals as goal

pub returns : goal.returns
unfolding told_stand
returns c = λ at note t ok. note_rooted (is_strict at.keys) at.store note t ok
