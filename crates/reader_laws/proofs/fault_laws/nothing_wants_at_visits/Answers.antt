use Rattle.cry_base.specs.Layout.{header_len}
use Rattle.commit_journal.specs.Answering.{Damaged}
use Rattle.reader_laws.proofs.AtRecords.{all_fault, files_fault, names_fault, owner_fault}
use Rattle.reader_laws.proofs.Behind.{reader_never, writer_never}
use Rattle.reader_laws.proofs.fault_laws.nothing_wants_at_visits.Goals as goal

pub returns : goal.returns
returns c = record {
  names = λ bundle bytes log stand read folds failed. reader_never bundle bytes log read (names_fault log stand folds bundle (Damaged header_len) failed);
  files = λ bundle bytes log stand xs named read folds are done failed. reader_never bundle bytes log read (files_fault log stand folds bundle xs named (Damaged header_len) are done failed);
  all = λ bundle bytes log stand read folds failed. reader_never bundle bytes log read (all_fault log stand folds bundle (Damaged header_len) failed);
  writing = λ key bytes log stand read folds failed. writer_never key bytes log read (owner_fault log stand folds key (Damaged header_len) failed);
}
