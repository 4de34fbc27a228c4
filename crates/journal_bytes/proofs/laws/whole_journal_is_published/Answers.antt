use Rattle.journal_bytes.proofs.Grown.{whole_journal, honest_journal}
use Rattle.journal_bytes.proofs.laws.whole_journal_is_published.Goals as goal

pub returns : goal.returns
returns c = record { published = whole_journal; honest = honest_journal }
