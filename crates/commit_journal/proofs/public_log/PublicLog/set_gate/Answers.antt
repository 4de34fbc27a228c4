use Rattle.commit_journal.proofs.Streamed.{reading_gated}
use Rattle.commit_journal.proofs.public_log.PublicLog.set_gate.Goals as goal

pub invariant_of-self : goal.invariant_of-self
invariant_of-self c = reading_gated c.self.inside.given.batches c.self.inside.given.starts c.self.inside.past c.args.gate c.self.invariant
