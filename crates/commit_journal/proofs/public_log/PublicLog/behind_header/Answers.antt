use Rattle.commit_journal.proofs.Streamed.{reading_starts}
use Rattle.commit_journal.proofs.public_log.PublicLog.behind_header.Goals as goal

pub invariant_of-result : goal.invariant_of-result
invariant_of-result c = rw (c.new-2.ensures.0, c.new-2.ensures.1) (reading_starts c.args.past c.requires.0 c.requires.1 c.requires.2)
