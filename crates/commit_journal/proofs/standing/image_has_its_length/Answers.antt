use Rattle.commit_journal.proofs.Standings.{length-image}
use Rattle.commit_journal.proofs.standing.image_has_its_length.Goals as goal

pub returns : goal.returns
returns c = length-image
