use Rattle.log_index.proofs.Spelled.{spelled_once}
use Rattle.log_index.proofs.laws.each_is_spelled_once.Goals as goal

pub returns : goal.returns
returns c = spelled_once
