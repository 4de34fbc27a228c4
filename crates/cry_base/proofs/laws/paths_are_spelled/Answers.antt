use Rattle.cry_base.proofs.Paths.{path_told, names_told}
use Rattle.cry_base.proofs.laws.paths_are_spelled.Goals as goal

pub returns : goal.returns
returns c = record { form = path_told; names = names_told }
