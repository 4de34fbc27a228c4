use Rattle.std.proofs.Common.{sym}
use Rattle.commit_journal.proofs.Stepped.{owner_reads}
use Rattle.commit_journal.proofs.public_log.read_owner.Goals as goal

pub returns-clause-verdict : goal.returns-clause-verdict
returns-clause-verdict g c = λ s is. rw (sym (owner_reads c.args.owner.now.bytes s)) (c.read_log.ensures.verdict s is)
