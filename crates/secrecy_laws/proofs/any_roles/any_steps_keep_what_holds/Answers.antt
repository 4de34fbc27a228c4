use Rattle.secrecy_laws.proofs.Whole.{all_hold}
use Rattle.secrecy_laws.proofs.any_roles.any_steps_keep_what_holds.Goals as goal

pub returns : goal.returns
returns g c = λ same root s turns tells was steps. all_hold same tells root s turns was steps
