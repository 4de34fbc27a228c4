use Rattle.secrecy_laws.proofs.Whole.{unread}
use Rattle.secrecy_laws.proofs.any_roles.clean_keys_are_opened_in_reach.Goals as goal

pub returns : goal.returns
returns g c = λ root s h r k was e clean d. unread root s was h r k e clean d
