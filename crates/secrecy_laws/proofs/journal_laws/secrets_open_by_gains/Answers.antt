use Rattle.secrecy_laws.proofs.Secrets.{opens_by_gain}
use Rattle.secrecy_laws.proofs.journal_laws.secrets_open_by_gains.Goals as goal

pub returns : goal.returns
returns c = opens_by_gain
