use Rattle.log_visits.proofs.Steps.{log_first, fold_second, root_third, visits_last}
use Rattle.log_visits.proofs.opening_laws.opening_goes_by_steps.Goals as goal

pub returns-clause-log : goal.returns-clause-log
returns-clause-log c = log_first

pub returns-clause-fold : goal.returns-clause-fold
returns-clause-fold c = fold_second

pub returns-clause-root : goal.returns-clause-root
returns-clause-root c = root_third

pub returns-clause-visits : goal.returns-clause-visits
returns-clause-visits c = visits_last
