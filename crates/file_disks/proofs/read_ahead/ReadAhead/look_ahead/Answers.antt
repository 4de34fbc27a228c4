use Rattle.std.proofs.Common.{sym, ◌∙◌}
use Rattle.file_disks.proofs.read_ahead.ReadAhead.look_ahead.Goals as goal

pub invariant_of-self : goal.invariant_of-self
invariant_of-self g c = λ x told. c.fill.ensures.known x (sym c.fill.ensures.read_only.same_bytes ∙ told)
