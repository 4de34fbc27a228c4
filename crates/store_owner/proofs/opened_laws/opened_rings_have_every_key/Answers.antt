use Rattle.store_owner.proofs.OpenedRings.{ring_keyed}
use Rattle.store_owner.proofs.opened_laws.opened_rings_have_every_key.Goals as goal

pub returns : goal.returns
returns c = ring_keyed
