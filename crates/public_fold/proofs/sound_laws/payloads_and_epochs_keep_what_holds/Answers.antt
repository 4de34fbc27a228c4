use Rattle.public_fold.proofs.TurnsHold.{payload_holds, epoch_stands}
use Rattle.public_fold.proofs.sound_laws.payloads_and_epochs_keep_what_holds.Goals as goal

pub returns : goal.returns
returns c = record { payload = payload_holds; epoch = epoch_stands }
