-- What is told of the first line of a run's input alone. This project's own, docs/PROGRAM.md, "Lines".
use Rattle.std.specs.Prelude.{◌≡◌, ℕ, List, ◌++◌, Ok, is_some}
use Rattle.cry_io.specs.Told.{WhereBothTold}
use Rattle.cry_io.specs.declared.streams.Source as source
use Rattle.cli_base.specs.Lines.{AreOfLines, LineState, bytes_ahead, lines_ahead}
use Rattle.cli_running.specs.Running.{GivesOwner, lines_in}
use Rattle.cli_sessions.specs.Taking.{HoldsFew}

-- The first line of an input handed in this key: the input was `first` before that line was taken, and is `now` behind it. The reader
-- stands behind the line, and holds little of what comes.
pub record HandedIn {S : Type 0} (inputs : source.Ghosts S) (key : List ℕ) (reader : LineState) (first now : S) : Type 0 where
  pub told : is_some (inputs.left now) ≡ is_some (inputs.left first)
  pub gives : WhereBothTold (inputs.left first) (inputs.left now)
      (λ before after. GivesOwner (Ok key) (lines_in before) (lines_ahead reader after))
  pub takes : WhereBothTold (inputs.left first) (inputs.left now)
      (λ before after. ((line : List ℕ) × AreOfLines 1 line × (before ≡ line ++ bytes_ahead reader after)) × HoldsFew reader)
