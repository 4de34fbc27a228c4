use Rattle.secrecy_laws.proofs.Secrets.{keeps_secret}
use Rattle.secrecy_laws.proofs.journal_laws.journals_keep_secrets.Goals as goal

pub returns : goal.returns
returns c = keeps_secret
