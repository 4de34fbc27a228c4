use Rattle.store_owner.proofs.OpenedOwners.{opened_owner}
use Rattle.store_owner.proofs.opened_laws.opened_owners_are_the_journals.Goals as goal

pub returns : goal.returns
returns c = opened_owner
