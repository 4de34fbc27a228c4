use Rattle.public_fold.proofs.GrantLaws.{sealing_wanted}
use Rattle.public_fold.proofs.step_laws.sealing_keys_are_renewed_where_wanted.Goals as goal

pub returns : goal.returns
returns c = sealing_wanted
