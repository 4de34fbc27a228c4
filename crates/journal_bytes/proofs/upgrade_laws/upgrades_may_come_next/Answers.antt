use Rattle.journal_bytes.proofs.NextUpgrade.{end_upgraded, upgrade_draws_few, upgrade_fits_or_full, upgraded_valid}
use Rattle.journal_bytes.proofs.upgrade_laws.upgrades_may_come_next.Goals as goal

pub returns-clause-valid : goal.returns-clause-valid
returns-clause-valid c = λ m has_begun drawn valid first many low. upgraded_valid m has_begun drawn valid first many low

pub returns-clause-end : goal.returns-clause-end
returns-clause-end c = λ m has_begun drawn. end_upgraded m has_begun drawn

pub returns-clause-few : goal.returns-clause-few
returns-clause-few c = λ m has_begun valid low. upgrade_draws_few m has_begun valid low

pub returns-clause-fits : goal.returns-clause-fits
returns-clause-fits c = λ m has_begun valid first not_fit. upgrade_fits_or_full m has_begun valid first not_fit
