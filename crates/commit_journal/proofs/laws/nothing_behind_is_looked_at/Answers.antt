use Rattle.commit_journal.proofs.Followed.{verdict_more}
use Rattle.commit_journal.proofs.laws.nothing_behind_is_looked_at.Goals as goal

pub returns : goal.returns
returns c = verdict_more
