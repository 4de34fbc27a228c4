use Rattle.key_links.proofs.InTables.{sorted_without}
use Rattle.key_links.proofs.by_kind.KeysByKind.remove.Goals as goal

pub invariant_of-self : goal.invariant_of-self
invariant_of-self c = sorted_without _ _ _ _ _ _ _ _ _ _ c.args.place.now.0 c.self.invariant c.remove.ensures.rows c.remove-2.ensures.rows c.remove-3.ensures.rows c.remove-4.ensures.rows c.remove-5.ensures.rows
