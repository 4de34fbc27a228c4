use Rattle.log_visits.proofs.OwnPath.{own_paths}
use Rattle.holder_client.proofs.laws.paths_in_a_view_differ.Goals as goal

pub returns : goal.returns
returns c = own_paths
