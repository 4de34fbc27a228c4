use Rattle.store_owner.proofs.Tallies.{counts_on, root_told, tally_told}
use Rattle.store_owner.proofs.tally_laws.tallies_are_those_of_journals.Goals as goal

pub returns-clause-made : goal.returns-clause-made
returns-clause-made c = root_told

pub returns-clause-command : goal.returns-clause-command
returns-clause-command c = counts_on

pub returns-clause-tally : goal.returns-clause-tally
returns-clause-tally c = tally_told
