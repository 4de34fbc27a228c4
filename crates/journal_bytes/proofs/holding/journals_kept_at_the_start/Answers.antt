use Rattle.commit_journal.proofs.KeptLemmas.{kept_starts}
use Rattle.journal_bytes.specs.Journals.{StandsForJournal}
use Rattle.journal_bytes.proofs.holding.journals_kept_at_the_start.Goals as goal

pub returns : goal.returns
returns g c owner low high reached holds =
    kept_starts (StandsForJournal owner) low high reached _ _ _ holds (λ s left at. g.met.D.Disk.only_now c.args.disk.now s left at)
