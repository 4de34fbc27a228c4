-- The step of a note that fits can be sealed, wherever all holds, and so after whatever turns that fit.
use Rattle.std.proofs.Common.{◌≡◌, Bool, true, false, List, [], ◌∷◌}
use Rattle.move_plan.specs.Change.{change_of}
use Rattle.record_format.specs.Noted.{Note}
use Rattle.public_fold.specs.Fitted.{told_step}
use Rattle.public_fold.specs.Journal.{Stand, note_step, nothing}
use Rattle.public_fold.specs.Preparing.{begun, begun_keys}
use Rattle.public_fold.specs.Records.{Link, pieces_of}
use Rattle.public_fold.specs.StandFits.{note_fits}
use Rattle.public_fold.specs.Told.{told_store}
use Rattle.public_fold.specs.Turns.{StandHolds, Turn, turns_fit, turns_links, turns_stand}
use Rattle.public_fold.proofs.NoteMoves.{note_moves}
use Rattle.public_fold.proofs.TurnsHold.{epoch_stands, first_note, fit_told, log_holds}
use Rattle.journal_bytes.specs.Sealing.{IsSealable}
use Rattle.journal_bytes.proofs.Sealable.{fresh_once, pieces_due, step_sealable}
use Rattle.public_fold.specs.KeyStep.{is_strict}

-- what holds of a stand holds where an epoch was begun, or none was
pub begun_stands : (new : Bool) (at : Stand) (links : List Link) → StandHolds at links → StandHolds (begun new at) links
unfolding begun_keys
begun_stands true at links holds = epoch_stands at links holds
begun_stands false at links holds = holds

pub holding_sealable : (at : Stand) (links : List Link) (note : Note) → StandHolds at links → note_fits at note (told_step at note) ≡ true → IsSealable (told_step at note)
unfolding told_step note_step
holding_sealable at links note holds f =
    let after = told_store at.store note in
    step_sealable at.store after at.keys (change_of (is_strict at.keys) at.store note) links (pieces_of note after)
    (note_moves (is_strict at.keys) at.store note (unfold told_step note_step in (fit_told at note f).0) holds.store) holds.keys (fresh_once (is_strict at.keys) at.store note) (pieces_due note after)

pub turns_sealable : (turns : List Turn) (note : Note) → turns_fit nothing turns ≡ true → note_fits (turns_stand nothing turns) note (told_step (turns_stand nothing turns) note) ≡ true
    → IsSealable (told_step (turns_stand nothing turns) note)
unfolding turns_stand
turns_sealable [] note t f = absurd (first_note note f)
turns_sealable (turn ∷ turns) note t f = holding_sealable (turns_stand nothing (turn ∷ turns)) (turns_links nothing (turn ∷ turns)) note (log_holds turn turns t) f
