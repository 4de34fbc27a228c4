use Rattle.store_owner.proofs.SoundOpened.{behind_epoch, behind_goes_on}
use Rattle.store_owner.proofs.sound_laws.commands_go_on_behind_a_log.Goals as goal

pub returns-clause-stands : goal.returns-clause-stands
returns-clause-stands c = behind_goes_on

pub returns-clause-epoch : goal.returns-clause-epoch
returns-clause-epoch c = behind_epoch
