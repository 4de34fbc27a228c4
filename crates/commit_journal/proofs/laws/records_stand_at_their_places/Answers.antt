use Rattle.commit_journal.proofs.Stood.{links_stand, contents_stand}
use Rattle.commit_journal.proofs.laws.records_stand_at_their_places.Goals as goal

pub returns : goal.returns
returns c = λ p fits. (λ i d below. links_stand p i d fits below, λ i d below. contents_stand p i d fits below)
