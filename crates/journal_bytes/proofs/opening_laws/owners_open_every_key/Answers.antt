use Rattle.journal_bytes.proofs.OwnerVisits.{owner_keys}
use Rattle.journal_bytes.proofs.opening_laws.owners_open_every_key.Goals as goal

pub returns : goal.returns
returns c = owner_keys
