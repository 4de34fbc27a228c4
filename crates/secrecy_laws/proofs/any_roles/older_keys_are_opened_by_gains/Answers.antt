use Rattle.secrecy_laws.proofs.Steps.{opened_or}
use Rattle.secrecy_laws.proofs.any_roles.older_keys_are_opened_by_gains.Goals as goal

pub returns : goal.returns
returns g c = λ same root old m new h r k tells was step fits t i d. opened_or same tells root old m new was step fits h t r k i d
