-- A turn of the walk, without the room that its lists have beside their items.
use Rattle.std.specs.Prelude.{◌≡◌, ℕ, Option, None, Some}
use Rattle.commit_journal.specs.declared.judge.Turn.{Turn}
use Rattle.commit_journal.specs.Log.{PlainTurn}
use Rattle.commit_journal.specs.Placed.{plain_placed}

abbrev pub plain_turn : Turn → PlainTurn
plain_turn turn = record { placed = plain_placed turn.placed; past = turn.past }

-- or the end of the log
abbrev pub plain_option : Option Turn → Option PlainTurn
plain_option None = None
plain_option (Some turn) = Some (plain_turn turn)

-- the log goes on at this place, if it goes on
abbrev pub GoesOnAt : ℕ → Option Turn → Type 0
GoesOnAt at None = Unit {0}
GoesOnAt at (Some turn) = turn.past.at ≡ at
