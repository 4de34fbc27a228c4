use Rattle.std.proofs.Common.{ℕ, ◌-◌, rules}
use Rattle.std.proofs.lemmas.List.Sorted.{answers_always}
use Rattle.log_visits.specs.declared.sights.Sight.{Sight}
use Rattle.log_visits.proofs.InOrder.{sorted_by_pair}
use Rattle.log_visits.proofs.visit_list.sort_deep.Goals as goal

abbrev key_of : Sight → ℕ × ℕ
key_of x = (4294967295 - x.depth, x.folder.0)

pub returns : goal.returns
returns c =
    let keys = answers_always _ _ _ (λ f a r next called. search rules) in
    sorted_by_pair Sight key_of _ _ (c.in_ok-sort_by_key.ensures.sorted key_of keys) (c.in_ok-sort_by_key.ensures.stable key_of keys)
