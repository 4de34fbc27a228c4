-- The past of notes that fit, whatever commands stand behind them, with new epochs between them.
use Rattle.std.specs.Prelude.{List, [], ◌∷◌}
use Rattle.role_graph.specs.Edges.{edges}
use Rattle.move_plan.specs.Change.{change_of}
use Rattle.record_format.specs.Noted.{Note}
use Rattle.public_fold.specs.Fitted.{told_step}
use Rattle.public_fold.specs.Journal.{Stand}
use Rattle.public_fold.specs.KeyStep.{is_strict}
use Rattle.public_fold.specs.Turns.{Turn, turn_stand}
use Rattle.public_fold.specs.Turns.Turn.{Began, Noted}
use Rattle.secrecy_laws.specs.Pasts.{Past, past_then}

-- after one note
unfoldable pub past_note : Stand → Past → Note → Past
past_note at p note = past_then p (edges at.store) (change_of (is_strict at.keys) at.store note) (told_step at note)

-- and after any turns
unfoldable pub past_turns : Stand → Past → List Turn → Past
past_turns at p [] = p
past_turns at p (Began ∷ turns) = past_turns (turn_stand at Began) p turns
past_turns at p (Noted note ∷ turns) = past_turns (turn_stand at (Noted note)) (past_note at p note) turns
