use Rattle.std.proofs.Common.{append_assoc}
use Rattle.store_gen.proofs.change.put_move.Goals as goal

pub returns-clause-items : goal.returns-clause-items
returns-clause-items c =
    simp (c.put-3.ensures.items, c.put_all-3.ensures.items, c.put-2.ensures.items, c.put_all-2.ensures.items, c.put.ensures.items, c.put_all.ensures.items, append_assoc)
