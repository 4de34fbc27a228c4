-- What stands after any notes that fit, with new epochs between them, and what holds of it.
use Rattle.std.specs.Prelude.{◌<◌, ◌^◌, Bool, true, ◌&&◌, List, [], ◌∷◌, ◌++◌}
use Rattle.record_format.specs.Noted.{Note}
use Rattle.public_fold.specs.Fitted.{told_stand, told_step}
use Rattle.public_fold.specs.Journal.{Stand}
use Rattle.public_fold.specs.Keyed.{KeysHold, SerialsHold}
use Rattle.public_fold.specs.KeyStep.{next_epoch}
use Rattle.public_fold.specs.Records.{Link}
use Rattle.public_fold.specs.Rooted.{MayStand}
use Rattle.public_fold.specs.StandFits.{note_fits}

-- an epoch begins; the step of a note is made
pub data Turn : Type 0 where
  Began : Turn
  Noted : (note : Note) → Turn

-- whether it fits, what stands after it, and the links that it publishes
unfoldable pub turn_fits : Stand → Turn → Bool
turn_fits at Began = true
turn_fits at (Noted note) = note_fits at note (told_step at note)

unfoldable pub turn_stand : Stand → Turn → Stand
turn_stand at Began = record at { keys = next_epoch at.keys }
turn_stand at (Noted note) = told_stand at note

unfoldable pub turn_links : Stand → Turn → List Link
turn_links at Began = []
turn_links at (Noted note) = (told_step at note).links

-- the same of some, one after another
unfoldable pub turns_fit : Stand → List Turn → Bool
turns_fit at [] = true
turns_fit at (turn ∷ turns) = turn_fits at turn && turns_fit (turn_stand at turn) turns

unfoldable pub turns_stand : Stand → List Turn → Stand
turns_stand at [] = at
turns_stand at (turn ∷ turns) = turns_stand (turn_stand at turn) turns

unfoldable pub turns_links : Stand → List Turn → List Link
turns_links at [] = []
turns_links at (turn ∷ turns) = turn_links at turn ++ turns_links (turn_stand at turn) turns

-- the store is rooted, or nothing was made yet; what holds of its keys, with the links that were published so far, and of
-- their serials; and the count leaves room below the next epoch
pub record StandHolds (at : Stand) (links : List Link) : Type 0 where
  pub store : MayStand at.store
  pub keys : KeysHold at.store at.keys links
  pub serials : SerialsHold at.keys
  pub count : at.keys.count < 2 ^ 32
