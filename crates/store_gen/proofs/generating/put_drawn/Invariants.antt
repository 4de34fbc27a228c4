use Rattle.std.proofs.Common.{◌≡◌, ◌++◌, ◌-◌, map}
use Rattle.cry_base.specs.Texts.{ended_lines}
use Rattle.store_gen.specs.Rule.{IsReady, drawn_requests}
use Rattle.store_gen.specs.Spelling.{spelled}
use Rattle.store_gen.proofs.generating.put_drawn.Given as goal

abbrev pub invariant-loop-line : goal.invariant-loop-line
invariant-loop-line l = record {
  ready : IsReady l.generator;
  lines : l.out.items ++ ended_lines (map spelled (drawn_requests (l.count - l._line) l.generator))
      ≡ l.fn.out.items ++ ended_lines (map spelled (drawn_requests l.count l.fn.generator));
}
