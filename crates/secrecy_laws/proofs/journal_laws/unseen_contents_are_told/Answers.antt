use Rattle.secrecy_laws.proofs.Unseen.{unseen_told}
use Rattle.secrecy_laws.proofs.journal_laws.unseen_contents_are_told.Goals as goal

pub returns : goal.returns
returns c = unseen_told
