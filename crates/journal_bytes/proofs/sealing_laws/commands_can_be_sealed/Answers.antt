use Rattle.journal_bytes.proofs.Sealable.{command_sealable}
use Rattle.journal_bytes.proofs.sealing_laws.commands_can_be_sealed.Goals as goal

pub returns : goal.returns
returns c = command_sealable
