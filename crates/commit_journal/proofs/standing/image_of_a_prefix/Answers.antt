use Rattle.commit_journal.proofs.Standings.{image-append, slotted_image-last}
use Rattle.commit_journal.proofs.standing.image_of_a_prefix.Goals as goal

pub returns : goal.returns
returns c = record { front = image-append; slotted = slotted_image-last }
