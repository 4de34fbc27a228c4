use Rattle.public_fold.specs.Journal.{store_of}
use Rattle.public_fold.proofs.Accepting.{accepted}
use Rattle.public_fold.proofs.Counting.{journal_counted}
use Rattle.public_fold.proofs.Keeping.{journal_tree}
use Rattle.journal_bytes.proofs.DueTexts.{due_same, sealed}
use Rattle.journal_bytes.proofs.texting_laws.due_texts_are_sealed.Goals as goal

pub returns-clause-tree : goal.returns-clause-tree
returns-clause-tree c = due_same

pub returns-clause-sealed : goal.returns-clause-sealed
returns-clause-sealed c = λ m r key check file_bytes valid fine. sealed (store_of m) r key check (accepted (store_of m) r file_bytes fine) (journal_counted m) (journal_tree m valid)
