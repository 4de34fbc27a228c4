use Rattle.public_fold.proofs.ReadStates.{read_alike, read_checks, read_seen}
use Rattle.public_fold.proofs.state_laws.read_states_are_seen.Goals as goal

pub returns : goal.returns
returns c = record { seen = read_seen; alike = read_alike; checks = read_checks }
