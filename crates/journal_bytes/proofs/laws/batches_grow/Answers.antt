use Rattle.journal_bytes.proofs.Grown.{batches_grow, image_grows, next_body}
use Rattle.journal_bytes.proofs.laws.batches_grow.Goals as goal

pub returns : goal.returns
returns c = record { batches = batches_grow; image = image_grows; next = next_body }
