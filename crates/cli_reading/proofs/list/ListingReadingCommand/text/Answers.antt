use Rattle.std.proofs.Common.{Ok, ap, sym, ◌∙◌}
use Rattle.log_visits.specs.View.{spell_view}
use Rattle.script_text.specs.Printing.{spell_line}
use Rattle.std.specs.List.{flat_map}
use Rattle.cli_reading.specs.Reading.{answer_as}
use Rattle.cli_reading.proofs.PrintedLines.{spelled_view}
use Rattle.cli_reading.proofs.list.ListingReadingCommand.text.Goals as goal

pub returns-clause-gives : goal.returns-clause-gives
returns-clause-gives g c = λ image now.
    ap (answer_as spell_view) (c.in_ok-lines.ensures.verdict image now)
    ∙ ap (λ text. Ok text) (sym (c.in_ok-text_of.ensures ∙ ap (flat_map spell_line) c.as_slice.ensures
    ∙ spelled_view c.in_ok-lines.lines.items))
