use Rattle.std.proofs.Common.{◌≤◌, length}
use Rattle.std.proofs.lemmas.List.Elements.{All-rest}
use Rattle.sorted_table.specs.Tabled.{Tabled}
use Rattle.sorted_table.proofs.walk.WalkIterator.next.Goals as goal

pub invariant_of-self-2 : goal.invariant_of-self-2
invariant_of-self-2 g c =
    All-rest (λ (b : Tabled g.row.T.Denot). 1 ≤ length b.rows) c.in_ok-table.table.now c.in_ok-table.tables.now c.self.inside.tables.now
    c.in_ok-table.ensures.cases.0 c.self.invariant
