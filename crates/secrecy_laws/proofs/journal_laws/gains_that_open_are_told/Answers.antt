use Rattle.secrecy_laws.proofs.Opening.{opening_told}
use Rattle.secrecy_laws.proofs.journal_laws.gains_that_open_are_told.Goals as goal

pub returns : goal.returns
returns c = λ before entries h content. opening_told entries before h content
