use Rattle.std.proofs.Common.{refl}
use Rattle.cry_base.specs.Store.{root_store, no_store}
use Rattle.grant_book.proofs.laws.nothing_is_granted_at_first.Goals as goal

pub returns : goal.returns
unfolding root_store no_store
returns c = record { numbers = refl; made = refl; granted = λ e. (λ i. i, λ i. i) }
