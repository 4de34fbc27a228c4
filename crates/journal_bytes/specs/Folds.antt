-- What everyone may see of a journal. This project's own, docs/FORMAT.md, "Reading".
use Rattle.std.specs.Prelude.{List, ℕ, Result}
use Rattle.cry_base.specs.Layout.{header_len}
use Rattle.commit_journal.specs.Answering.{Fault}
use Rattle.commit_journal.specs.Laws.{placed_from}
use Rattle.commit_journal.specs.Placed.{PlainPlaced}
use Rattle.move_plan.specs.Fitting.{public_of}
use Rattle.public_fold.specs.Journal.{Journal, Stand, nothing, store_of, keys_of}
use Rattle.log_visits.specs.Folding.{folded}
use Rattle.journal_bytes.specs.Bytes.{bodies_of}

-- the log of a journal's image, as a reader sees it once all is published
unfoldable pub log_of : List ℕ → Journal → List PlainPlaced
log_of owner m = placed_from header_len 0 0 (bodies_of owner m)

-- what stands after a journal, without names, bytes and holders' keys
unfoldable pub public_stand : Journal → Stand
public_stand m = record { store = public_of (store_of m); keys = keys_of m }

-- what the payloads of a journal make, as everyone can follow them
unfoldable pub fold_of : List ℕ → Journal → Result Stand Fault
fold_of owner m = folded nothing (log_of owner m)
