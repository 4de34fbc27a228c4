use Rattle.stop_laws.proofs.Told.{told_held}
use Rattle.stop_laws.proofs.laws.told_upgrades_are_held.Goals as goal

pub returns : goal.returns
returns c = told_held
