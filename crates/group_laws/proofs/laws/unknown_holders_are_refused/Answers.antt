use Rattle.group_laws.proofs.Fullness.{unknown}
use Rattle.group_laws.proofs.laws.unknown_holders_are_refused.Goals as goal

pub returns : goal.returns
returns c = unknown
