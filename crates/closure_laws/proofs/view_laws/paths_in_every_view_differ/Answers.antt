use Rattle.public_fold.specs.Journal.{store_of}
use Rattle.log_visits.proofs.OwnPath.{own_paths}
use Rattle.closure_laws.proofs.OwnNames.{own_names}
use Rattle.closure_laws.proofs.view_laws.paths_in_every_view_differ.Goals as goal

pub returns : goal.returns
returns c = record { names = own_names; paths = λ m v who. own_paths (store_of m) who (own_names m v) }
