-- Which notes fit what stands. This project's own, docs/FORMAT.md, "The key step".
use Rattle.std.specs.Prelude.{◌-◌, ◌^◌, Bool, true, ◌&&◌, nat_lt, List, [], ◌∷◌}
use Rattle.record_format.specs.Noted.{Note}
use Rattle.move_plan.specs.Noting.{note_of}
use Rattle.move_plan.specs.Fitting.{fits}
use Rattle.public_fold.specs.KeyStep.{Stepped, is_strict}
use Rattle.public_fold.specs.Journal.{Entry, Stand, root_note, stand_then, entry_step}
use Rattle.public_fold.specs.Journal.Entry.{Session, Made, Did, Upgraded}
use Rattle.record_format.specs.Noted.Note.{Upgrade}

-- the serials that a step takes leave the epoch's count below 2^32 - 1
unfoldable pub has_count : Stepped → Bool
has_count step = nat_lt step.after.count (2 ^ 32 - 1)

-- an epoch was begun, the note fits the store, and there are serials for its step
unfoldable pub note_fits : Stand → Note → Stepped → Bool
note_fits at note step = nat_lt 0 at.keys.epoch && (fits (is_strict at.keys) at.store note && has_count step)

-- whether an entry's note fits: an epoch may begin below 2^32 - 1
unfoldable pub entry_fits : Stand → Entry → Bool
entry_fits at Session = nat_lt at.keys.epoch (2 ^ 32 - 1)
entry_fits at (Made version keys) = note_fits at (root_note version) (entry_step at (Made version keys))
entry_fits at (Did request keys) = note_fits at (note_of at.store request []) (entry_step at (Did request keys))
entry_fits at (Upgraded keys) = note_fits at Upgrade (entry_step at (Upgraded keys))

-- whether each entry's does
unfoldable pub all_fit : Stand → List Entry → Bool
all_fit at [] = true
all_fit at (entry ∷ entries) = entry_fits at entry && all_fit (stand_then at entry) entries
