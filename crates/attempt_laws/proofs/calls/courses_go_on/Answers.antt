use Rattle.attempt_laws.proofs.Called.{after_more, course_then_more, trials_more}
use Rattle.attempt_laws.proofs.calls.courses_go_on.Goals as goal

pub returns : goal.returns
returns c = record { course = course_then_more; after = after_more; written = trials_more }
