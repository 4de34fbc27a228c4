use Rattle.store_owner.proofs.SlotsHanded.{opened_shows}
use Rattle.store_owner.proofs.stopping_laws.opened_stores_show_their_writes.Goals as goal

pub returns : goal.returns
returns c = opened_shows
