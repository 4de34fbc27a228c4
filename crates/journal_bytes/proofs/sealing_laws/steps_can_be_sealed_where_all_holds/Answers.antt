use Rattle.journal_bytes.proofs.SoundSteps.{holding_sealable}
use Rattle.journal_bytes.proofs.sealing_laws.steps_can_be_sealed_where_all_holds.Goals as goal

pub returns : goal.returns
returns c = holding_sealable
