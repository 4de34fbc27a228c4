use Rattle.store_owner.proofs.OwnerKeeps.{store_kept}
use Rattle.store_owner.proofs.owner_laws.owners_keep_the_store.Goals as goal

pub returns : goal.returns
returns c = store_kept
