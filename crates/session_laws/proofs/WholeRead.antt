-- A holder reads all of a journal in bytes that stand for it as a whole.
use Rattle.std.proofs.Common.{◌≡◌, ℕ, List, Ok, ap, ◌∙◌}
use Rattle.commit_journal.specs.Logs.{holder_log}
use Rattle.commit_journal.proofs.Standings.{whole_stands}
use Rattle.cry_base.specs.declared.client.Bundle.TheVariants as bundles
use Rattle.cry_base.specs.declared.ids.HolderId.{HolderId}
use Rattle.journal_bytes.specs.Bytes.{batches_of}
use Rattle.journal_bytes.specs.Folds.{log_of}
use Rattle.journal_bytes.specs.Journals.{StandsForJournal, StandsWholeForJournal}
use Rattle.journal_bytes.proofs.Grown.{honest_journal, whole_journal}
use Rattle.journal_bytes.proofs.Spelled.{holder_reads_on}
use Rattle.log_visits.specs.Judging.{bundle_log}
use Rattle.public_fold.specs.Journal.{Journal}

stands_too : (owner : List ℕ) (m : Journal) (bytes : List ℕ) → StandsWholeForJournal owner m bytes → StandsForJournal owner m bytes
stands_too owner m bytes whole = record {
  valid = whole.valid;
  whole_keys = whole.whole_keys;
  stands = whole_stands owner (batches_of owner m) bytes whole.stands;
}

pub holder_whole : (owner : List ℕ) (m : Journal) (bytes : List ℕ) → StandsWholeForJournal owner m bytes → holder_log bytes ≡ Ok (log_of owner m)
holder_whole owner m bytes whole =
    holder_reads_on owner m bytes (stands_too owner m bytes whole) (honest_journal owner m bytes whole)
    ∙ ap (λ (p : Journal). Ok (log_of owner p)) (whole_journal owner m bytes whole)

pub bundle_whole : (owner : List ℕ) (m : Journal) (bytes : List ℕ) (h : HolderId) (key : List ℕ) → StandsWholeForJournal owner m bytes →
    bundle_log (bundles.Holder h key) bytes ≡ Ok (log_of owner m)
unfolding bundle_log
bundle_whole owner m bytes h key whole = holder_whole owner m bytes whole
