use Rattle.commit_journal.proofs.Spelled.{image_read}
use Rattle.commit_journal.proofs.laws.image_is_read_back.Goals as goal

pub returns : goal.returns
returns c = image_read
