use Rattle.store_owner.proofs.SoundOpened.{log_epoch, opened_at_sound, opened_sound}
use Rattle.store_owner.proofs.sound_laws.opened_owners_are_sound.Goals as goal

pub returns-clause-anywhere : goal.returns-clause-anywhere
returns-clause-anywhere c = opened_at_sound

pub returns-clause-epoch : goal.returns-clause-epoch
returns-clause-epoch c = log_epoch

pub returns-clause-sound : goal.returns-clause-sound
returns-clause-sound c = opened_sound
