use Rattle.public_fold.specs.Journal.{store_of}
use Rattle.public_fold.proofs.Accepting.{accepted}
use Rattle.public_fold.proofs.Keeping.{journal_tree}
use Rattle.journal_bytes.proofs.NewTitles.{tree_below}
use Rattle.journal_bytes.proofs.TitlesAfter.{joined}
use Rattle.journal_bytes.proofs.texting_laws.titles_after_are_the_stores.Goals as goal

pub returns : goal.returns
returns c = λ m r key check file_bytes tree old new valid fine is of after.
    joined tree (store_of m) old new (tree_below tree is) of r key check (accepted (store_of m) r file_bytes fine) (journal_tree m valid) after
