use Rattle.std.proofs.Common.{◌≡◌, ◌+◌, ◌-◌, ◌≤◌, ◌++◌, length}
use Rattle.std.specs.Prelude.{is_some}
use Rattle.cry_io.specs.Told.{WhereBothTold}
use Rattle.cli_base.specs.Lines.{bytes_ahead}
use Rattle.cli_base.proofs.lines.LineReader.next_line.Given as goal

abbrev pub invariant-loop-held : goal.invariant-loop-held
invariant-loop-held g l = record {
  told : is_some (g.S.Source.left l.input) ≡ is_some (g.S.Source.left l.fn.input);
  bytes : WhereBothTold (g.S.Source.left l.fn.input) (g.S.Source.left l.input) (λ before after. bytes_ahead l.fn.self before ≡ bytes_ahead l.self after);
  room : l.self.room ≡ l.fn.self.room;
  given : l.self.given ≡ l.fn.self.given;
  counts : g.S.Source.faults l.fn.input ≤ g.S.Source.faults l.input;
}

abbrev pub decreases-loop-held : goal.decreases-loop-held
decreases-loop-held g l = l.self.room + 1 - length (l.self.line ++ l.self.piece)
