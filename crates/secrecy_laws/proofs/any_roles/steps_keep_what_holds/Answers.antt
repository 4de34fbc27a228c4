use Rattle.secrecy_laws.proofs.Steps.{stays_held}
use Rattle.secrecy_laws.proofs.any_roles.steps_keep_what_holds.Goals as goal

pub returns : goal.returns
returns g c = λ same root old m new tells was step fits. stays_held same tells root old m new was step fits
