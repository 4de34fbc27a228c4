use Rattle.handed_laws.proofs.Unmasked.{early_breaks}
use Rattle.handed_laws.proofs.laws.early_veils_break_it.Goals as goal

pub returns : goal.returns
returns c = early_breaks
