use Rattle.std.proofs.Common.{Ok, [], ◌∷◌, ap, sym, ◌∙◌}
use Rattle.cli_reading.specs.Promises.Open.{spell_alone}
use Rattle.cli_reading.specs.Reading.{answer_as}
use Rattle.cli_reading.proofs.PrintedLines.{spelled_view}
use Rattle.cli_reading.proofs.open.OpeningReadingCommand.text.Goals as goal

pub returns-clause-gives : goal.returns-clause-gives
returns-clause-gives g c = λ image now.
    ap (answer_as spell_alone) (c.in_ok-line.ensures.verdict image now)
    ∙ ap (λ text. Ok text) (sym (c.in_ok-text_of.ensures ∙ spelled_view (c.in_ok-line.line ∷ [])))
