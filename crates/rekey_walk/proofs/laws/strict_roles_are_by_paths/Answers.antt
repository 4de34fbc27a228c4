use Rattle.rekey_walk.proofs.Sources.{strict_told}
use Rattle.rekey_walk.proofs.laws.strict_roles_are_by_paths.Goals as goal

pub returns : goal.returns
returns c = strict_told
