use Rattle.store_owner.proofs.SoundSeals.{sound_seals}
use Rattle.store_owner.proofs.sound_laws.sound_owners_can_seal.Goals as goal

pub returns : goal.returns
returns c = sound_seals
