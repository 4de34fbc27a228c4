use Rattle.std.proofs.Common.{sym}
use Rattle.commit_journal.proofs.Stepped.{anybody_reads}
use Rattle.commit_journal.proofs.public_log.read_public.Goals as goal

pub returns-clause-verdict : goal.returns-clause-verdict
returns-clause-verdict g c = λ s is. rw (sym (anybody_reads s)) (c.read_log.ensures.verdict s is)
