use Rattle.std.proofs.Common.{sym, ◌∙◌}
use Rattle.sorted_table.proofs.Spared.{rows_counted}
use Rattle.sorted_table.proofs.blocks.Blocks.len.Goals as goal

pub returns : goal.returns
returns g c = rw (← c.self.view_is) (c.self.invariant.5 ∙ sym (rows_counted _ c.self.inside.blocks.items))
