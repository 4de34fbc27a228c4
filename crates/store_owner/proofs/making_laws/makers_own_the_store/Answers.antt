use Rattle.store_owner.proofs.MadeOwner.{made_owner, made_sound}
use Rattle.store_owner.proofs.making_laws.makers_own_the_store.Goals as goal

pub returns-clause-owner : goal.returns-clause-owner
returns-clause-owner c = made_owner

pub returns-clause-sound : goal.returns-clause-sound
returns-clause-sound c = made_sound
