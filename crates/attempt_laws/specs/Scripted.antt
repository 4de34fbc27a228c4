-- A script's commands as events.
use Rattle.std.specs.Prelude.{◌≡◌, ◌≤◌, ◌*◌, List, [], ◌∷◌, length, Option, Some, None}
use Rattle.cry_base.specs.Requests.{Request}
use Rattle.cry_base.specs.declared.commands.Refusal.{Refusal}
use Rattle.cry_base.specs.declared.limits.Limits.{Limits}
use Rattle.journal_bytes.specs.Attempts.{Course}
use Rattle.journal_bytes.specs.Attempts.Event.{IsRefused, Enters}
use Rattle.journal_bytes.specs.Script.{Going, answer, draws_of, keys_from, line_going}
use Rattle.attempt_laws.specs.Trials.{Happening, Befalls}

-- where a session stands, as a course
abbrev pub course_of : Going → Course
course_of g = record { journal = g.journal; begun = g.begun }

-- a command is refused, or its batch enters with the keys that it draws
unfoldable pub line_event : Going → Request → Option Refusal → Happening
line_event g r None = Befalls (Enters r (keys_from (draws_of g.journal r) g.draws))
line_event g r (Some why) = Befalls (IsRefused r)

-- those of a script, one after another
unfoldable pub script_events : Limits → Going → List Request → List Happening
script_events limits g [] = []
script_events limits g (r ∷ rs) =
    line_event g r (answer limits g.journal g.begun r) ∷ script_events limits (line_going g r (answer limits g.journal g.begun r)) rs

-- the random bytes are enough for each command that is accepted
abbrev pub HasDraws : Limits → Going → List Request → Type 0
HasDraws limits g [] = Unit {0}
HasDraws limits g (r ∷ rs) =
    (answer limits g.journal g.begun r ≡ None → 32 * draws_of g.journal r ≤ length g.draws)
    × HasDraws limits (line_going g r (answer limits g.journal g.begun r)) rs
