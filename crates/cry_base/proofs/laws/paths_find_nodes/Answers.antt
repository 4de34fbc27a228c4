use Rattle.cry_base.proofs.Finding.{node_found, node_finds}
use Rattle.cry_base.proofs.laws.paths_find_nodes.Goals as goal

pub returns : goal.returns
returns c = record { found = node_found; finds = node_finds }
