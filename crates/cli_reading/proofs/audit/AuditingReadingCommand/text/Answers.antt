use Rattle.std.proofs.Common.{ap, map, ◌∙◌}
use Rattle.std.specs.List.{flat_map}
use Rattle.script_text.specs.SeenLines.{spell_seen}
use Rattle.trail_audit.specs.Derived.{plain_seen}
use Rattle.cli_reading.proofs.PrintedLines.{spelled_sights}
use Rattle.cli_reading.proofs.audit.AuditingReadingCommand.text.Goals as goal

pub returns-clause-gives : goal.returns-clause-gives
returns-clause-gives g c = λ image now.
    let gives = c.in_ok-seen.ensures.verdict image now in
    let seen = c.in_ok-seen.seen.items in
    let text = c.in_ok-text_of.ensures ∙ ap (flat_map spell_seen) c.as_slice.ensures ∙ spelled_sights seen in
    (gives.0, gives.1, (map plain_seen seen, gives.2, text))
