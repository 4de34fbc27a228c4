use Rattle.secrecy_laws.proofs.Computed.{keeps_told}
use Rattle.secrecy_laws.proofs.journal_laws.secrets_are_told.Goals as goal

pub returns : goal.returns
returns c = keeps_told
