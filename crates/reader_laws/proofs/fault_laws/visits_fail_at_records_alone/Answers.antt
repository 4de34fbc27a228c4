use Rattle.reader_laws.proofs.AtRecords.{all_fault, files_fault, names_fault, owner_fault}
use Rattle.reader_laws.proofs.fault_laws.visits_fail_at_records_alone.Goals as goal

pub returns : goal.returns
returns c = record {
  names = λ bundle log stand fault folds. names_fault log stand folds bundle fault;
  files = λ bundle log stand xs named fault folds are. files_fault log stand folds bundle xs named fault are;
  all = λ bundle log stand fault folds. all_fault log stand folds bundle fault;
  writing = λ key log stand fault folds. owner_fault log stand folds key fault;
}
