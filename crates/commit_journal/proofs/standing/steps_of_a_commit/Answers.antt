use Rattle.commit_journal.proofs.Standings.{staged, opened, unveiled}
use Rattle.commit_journal.proofs.standing.steps_of_a_commit.Goals as goal

pub returns : goal.returns
returns c = record { staged = staged; opened = opened; unveiled = unveiled }
