use Rattle.attempt_laws.proofs.Rising.{all_differ}
use Rattle.attempt_laws.proofs.laws.numbers_are_spent_once.Goals as goal

pub returns : goal.returns
returns c = all_differ
