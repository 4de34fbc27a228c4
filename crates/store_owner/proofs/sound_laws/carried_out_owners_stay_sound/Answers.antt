use Rattle.store_owner.proofs.SoundStays.{stays_sound}
use Rattle.store_owner.proofs.sound_laws.carried_out_owners_stay_sound.Goals as goal

pub returns : goal.returns
returns c = stays_sound
