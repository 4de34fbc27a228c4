use Rattle.attempt_laws.specs.Trials.{made_course}
use Rattle.store_owner.proofs.MadeOwner.{made_valid}
use Rattle.attempt_laws.proofs.Rising.{course_valid}
use Rattle.attempt_laws.proofs.laws.courses_leave_valid_journals.Goals as goal

pub returns : goal.returns
unfolding made_course
returns c = λ limits version keys later store_low files_low known five can.
    course_valid limits store_low files_low (made_course version keys) later (made_valid version keys known five) can
