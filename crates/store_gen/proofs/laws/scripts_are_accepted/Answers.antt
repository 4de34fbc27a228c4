use Rattle.store_gen.specs.Rule.{requests, drawn_requests, first}
use Rattle.store_gen.proofs.Accepted.{drawn_accepted}
use Rattle.store_gen.proofs.Opening.{opening_accepted, opened_store, opened_stands}
use Rattle.store_gen.proofs.laws.scripts_are_accepted.Goals as goal

pub returns : goal.returns
unfolding requests
returns c = λ seed count n one.
    opening_accepted n one (drawn_requests count (first seed)) (λ a b c d. drawn_accepted count (first seed) (opened_store a b c d) n (opened_stands seed a b c d) one)
