use Rattle.journal_bytes.proofs.SoundSteps.{turns_sealable}
use Rattle.journal_bytes.proofs.sealing_laws.fitting_steps_can_be_sealed.Goals as goal

pub returns : goal.returns
returns c = turns_sealable
