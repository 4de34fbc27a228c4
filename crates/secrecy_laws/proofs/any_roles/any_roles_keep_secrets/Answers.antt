use Rattle.secrecy_laws.proofs.Whole.{stays_secret, opens_by_gain}
use Rattle.secrecy_laws.proofs.any_roles.any_roles_keep_secrets.Goals as goal

pub returns : goal.returns
returns g c = record {
  secret = λ same root s turns h r k tells was steps t e clean out none d. stays_secret same tells root s turns was steps h r k t e clean out none d;
  opened = λ same root s turns tells was steps. opens_by_gain same tells root s turns was steps;
}
