use Rattle.log_index.proofs.Bytes.{shown_once}
use Rattle.log_index.proofs.laws.at_most_one_is_shown.Goals as goal

pub returns : goal.returns
returns c = shown_once
