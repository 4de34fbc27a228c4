use Rattle.std.proofs.Common.{sym, ◌∙◌}
use Rattle.sorted_table.specs.Parts.{IsBlockFor}
use Rattle.sorted_table.proofs.Blocked.{block_row_at}
use Rattle.sorted_table.proofs.blocks.Blocks.find.Goals as goal

pub returns-in-Some-clause-row : goal.returns-in-Some-clause-row
returns-in-Some-clause-row g c =
    let rank = g.T.Ranked.rank in
    let blocks = c.self.inside.blocks.items in
    let place : IsBlockFor rank blocks (g.K.Key.sought c.args.key.now) c.in-Some.at = rw c.deref.ensures.value at c.in-Some.ensures in
    rw (← c.self.view_is) (c.find.ensures.row ∙ sym (block_row_at _ rank _ blocks c.in-Some.at place c.index.result.now c.index.ensures))
