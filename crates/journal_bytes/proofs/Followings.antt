-- The logs of bytes that stand for a journal, as whoever reads them reads them.
use Rattle.std.proofs.Common.{◌≡◌, ℕ, ◌+◌, ◌≤◌, List, length, Ok, arith}
use Rattle.cry_base.specs.Limits.{most_store_bytes}
use Rattle.commit_journal.specs.Image.{image}
use Rattle.commit_journal.specs.Laws.{batches_from, AreBodies}
use Rattle.commit_journal.specs.Logs.{holder_log, writer_log}
use Rattle.commit_journal.proofs.Epochs.{holder_too}
use Rattle.commit_journal.proofs.Standings.{length-image}
use Rattle.commit_journal.proofs.Written.{written_standing}
use Rattle.public_fold.specs.Journal.{Journal}
use Rattle.public_fold.specs.Lengths.{end_of}
use Rattle.journal_bytes.specs.Bytes.{bodies_of, batches_of, image_of}
use Rattle.journal_bytes.specs.Folds.{log_of}
use Rattle.journal_bytes.specs.Journals.{StandsForJournal, published_journal, IsHonestFor}
use Rattle.journal_bytes.proofs.Published.{journal_read}
use Rattle.journal_bytes.proofs.Weighed.{valid_weighs}

pub holder_reads : (owner : List ℕ) (m : Journal) (bytes : List ℕ) → StandsForJournal owner m bytes → AreBodies 0 (bodies_of owner m) → IsHonestFor owner bytes m →
    holder_log bytes ≡ Ok (log_of owner (published_journal owner bytes m))
unfolding log_of
holder_reads owner m bytes stands are honest = holder_too owner bytes _ (journal_read owner m bytes stands are honest)

pub writer_reads : (owner : List ℕ) (m : Journal) (bytes : List ℕ) → StandsForJournal owner m bytes → AreBodies 0 (bodies_of owner m) → writer_log owner bytes ≡ Ok (log_of owner m)
unfolding log_of batches_of image_of
writer_reads owner m bytes stands are =
    let bs = batches_from 0 0 (bodies_of owner m) in
    let size : length (image owner bs) + 1 ≡ end_of m = valid_weighs owner m stands.valid stands.whole_keys in
    let long = length-image owner bs in
    let end : end_of m ≤ most_store_bytes = stands.valid.1 in
    written_standing owner (bodies_of owner m) bytes stands.stands are (omega arith)
