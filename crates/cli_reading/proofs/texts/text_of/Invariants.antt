use Rattle.std.proofs.Common.{◌≡◌, ◌++◌, drop}
use Rattle.std.specs.List.{flat_map}
use Rattle.cli_reading.proofs.texts.text_of.Given as goal

abbrev pub invariant-loop-line : goal.invariant-loop-line
invariant-loop-line g l =
    l.text.items ++ flat_map g.P.Printed.line (drop l.line-index l.lines) ≡ flat_map g.P.Printed.line l.lines
