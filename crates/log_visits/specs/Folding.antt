-- What the payloads of a log make, one after another. This project's own, docs/FORMAT.md, "The key step" and "Reading".
use Rattle.std.specs.Prelude.{ℕ, if◌then◌else◌, List, [], ◌∷◌, Result, Ok, Err}
use Rattle.commit_journal.specs.Answering.{Fault, Damaged, and_then}
use Rattle.commit_journal.specs.Placed.{PlainBody, Commands, NewEpoch, PlainPlaced}
use Rattle.public_fold.specs.Journal.{Stand}
use Rattle.public_fold.specs.KeyStep.{next_epoch}
use Rattle.public_fold.specs.Fitted.{payload_fits, told_stand}
use Rattle.record_format.specs.Told.{told_note}

-- what stands after a batch; a payload that doesn't fit is damaged at its first byte
unfoldable pub stand_behind : Stand → ℕ → PlainBody → Result Stand Fault
stand_behind at place NewEpoch = Ok (record at { keys = next_epoch at.keys })
stand_behind at place (Commands p) = if payload_fits at p then Ok (told_stand at (told_note p.note)) else Err (Damaged place)

-- what stands after the batches of a log, or the first that doesn't fit
unfoldable pub folded : Stand → List PlainPlaced → Result Stand Fault
folded at [] = Ok at
folded at (p ∷ log) = and_then (stand_behind at p.place p.body) (λ behind. folded behind log)
