use Rattle.std.proofs.Common.{sym, ◌∙◌}
use Rattle.file_disks.proofs.read_ahead.ReadAheadDisk.read_at.Goals as goal

pub invariant_of-self : goal.invariant_of-self
invariant_of-self g c = λ x told. c.self.invariant x (sym c.read_at.ensures.shown ∙ told)
