use Rattle.public_fold.specs.Journal.{store_of}
use Rattle.public_fold.proofs.Settling.{journal_settled}
use Rattle.role_graph.proofs.Rightful.{rights_by_reach}
use Rattle.public_fold.proofs.laws.reach_is_the_rights_in_journals.Goals as goal

pub returns : goal.returns
returns c = record { settled = journal_settled; rights = λ m v h r s. rights_by_reach (store_of m) (journal_settled m v) h r s }
