use Rattle.log_visits.proofs.OwnerKey.{owner_is_present}
use Rattle.log_visits.proofs.fold_laws.owners_key_is_the_first.Goals as goal

pub returns : goal.returns
returns c = owner_is_present
