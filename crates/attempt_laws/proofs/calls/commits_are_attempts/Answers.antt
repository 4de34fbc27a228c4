use Rattle.attempt_laws.proofs.Called.{command_is, epoch_is}
use Rattle.attempt_laws.proofs.calls.commits_are_attempts.Goals as goal

pub returns : goal.returns
returns c = record { epoch = epoch_is; command = command_is }
