use Rattle.journal_bytes.proofs.WorkedGrant.{grant_image, grant_batches, grant_numbers, grant_epochs}
use Rattle.journal_bytes.proofs.rows.grant_has_its_bytes.Goals as goal

pub returns : goal.returns
returns c = record { image = grant_image; batches = grant_batches; numbers = grant_numbers; epochs = grant_epochs }
