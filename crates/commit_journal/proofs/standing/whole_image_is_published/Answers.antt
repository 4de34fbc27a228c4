use Rattle.commit_journal.proofs.Standings.{whole_published, whole_honest, whole_unmasked}
use Rattle.commit_journal.proofs.standing.whole_image_is_published.Goals as goal

pub returns : goal.returns
returns c = record { published = whole_published; honest = whole_honest; unmasked = whole_unmasked }
