use Rattle.commit_journal.proofs.Standings.{whole_stands}
use Rattle.commit_journal.proofs.standing.whole_image_stands_for_its_batches.Goals as goal

pub returns : goal.returns
returns c = whole_stands
