use Rattle.std.proofs.Common.{◌≡◌, ◌+◌, ◌*◌, ◌≤◌, ◌++◌, take}
use Rattle.std.specs.List.{flat_map}
use Rattle.index_format.proofs.writing.put_rows.Given as goal

abbrev pub invariant-loop-row : goal.invariant-loop-row
invariant-loop-row g l = record {
  items : l.out.items ≡ l.initial.out.items ++ flat_map g.T.Fixed.spell (take l.row-index l.rows);
  spare : l.initial.out.spare ≤ l.out.spare + g.T.Fixed.size * l.row-index;
}
