use Rattle.log_visits.proofs.Keyed.{each_opened, holders_stay}
use Rattle.log_visits.proofs.opening_laws.owners_visits_open_each_role.Goals as goal

pub returns-clause-keys : goal.returns-clause-keys
returns-clause-keys c = each_opened

pub returns-clause-holders : goal.returns-clause-holders
returns-clause-holders c = holders_stay
