use Rattle.holder_client.proofs.Verdicts.{same_log, same_behind}
use Rattle.holder_client.proofs.verdict_laws.verdict_is_of_the_log.Goals as goal

pub returns : goal.returns
returns c = record { log = same_log; behind = same_behind }
