use Rattle.std.proofs.Common.{length, ap, arith}
use Rattle.commit_journal.proofs.Streamed.{last_start}
use Rattle.commit_journal.proofs.public_log.PublicLog.past.Goals as goal

pub returns-clause-number : goal.returns-clause-number
returns-clause-number c =
    let last = last_start 0 c.self.inside.given.starts c.self.inside.past c.self.invariant.places in
    omega (arith, last.2, ap (λ log. length log.starts) c.self.view_is)
