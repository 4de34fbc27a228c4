use Rattle.attempt_laws.proofs.Called.{fresh_trials, made_stands}
use Rattle.attempt_laws.proofs.calls.made_stores_begin_a_course.Goals as goal

pub returns : goal.returns
returns c = record { writes = fresh_trials; owner = made_stands }
