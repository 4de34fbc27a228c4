use Rattle.attempt_laws.proofs.Scripts.{script_after, script_happens}
use Rattle.attempt_laws.proofs.laws.scripts_are_courses.Goals as goal

pub returns : goal.returns
returns c = record { course = script_happens; after = script_after }
