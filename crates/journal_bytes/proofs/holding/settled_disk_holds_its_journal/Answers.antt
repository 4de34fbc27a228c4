use Rattle.std.proofs.Common.{ℕ, List}
use Rattle.commit_journal.proofs.KeptLemmas.{settled_holds}
use Rattle.commit_journal.proofs.Standings.{whole_stands}
use Rattle.public_fold.specs.Journal.{Journal}
use Rattle.journal_bytes.specs.Bytes.{batches_of}
use Rattle.journal_bytes.specs.Journals.{StandsForJournal, StandsWholeForJournal}
use Rattle.journal_bytes.proofs.holding.settled_disk_holds_its_journal.Goals as goal

stands : (owner : List ℕ) (m : Journal) (bytes : List ℕ) → StandsWholeForJournal owner m bytes → StandsForJournal owner m bytes
stands owner m bytes whole = record {
  valid = whole.valid;
  whole_keys = whole.whole_keys;
  stands = whole_stands owner (batches_of owner m) bytes whole.stands;
}

pub returns : goal.returns
returns g c owner m settled = settled_holds (StandsForJournal owner) (StandsWholeForJournal owner) m _ _ (stands owner) settled
