use Rattle.command_plan.proofs.ChangedNames.{can_change, titles_after}
use Rattle.command_plan.proofs.name_laws.name_changes_leave_the_titles.Goals as goal

pub returns-clause-can : goal.returns-clause-can
returns-clause-can c = can_change

pub returns-clause-titles : goal.returns-clause-titles
returns-clause-titles c = titles_after
