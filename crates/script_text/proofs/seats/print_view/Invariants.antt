use Rattle.std.proofs.Common.{◌≡◌, ◌++◌, drop}
use Rattle.std.specs.List.{flat_map}
use Rattle.script_text.specs.Printing.{spell_line}
use Rattle.script_text.proofs.seats.print_view.Given as goal

abbrev pub invariant-loop-line : goal.invariant-loop-line
invariant-loop-line l = l.out.items ++ flat_map spell_line (drop l.line-index l.lines) ≡ l.fn.out.items ++ flat_map spell_line l.lines
