use Rattle.attempt_laws.proofs.Called.{opened_stands}
use Rattle.attempt_laws.proofs.calls.opened_stores_reopen.Goals as goal

pub returns : goal.returns
returns c = opened_stands
