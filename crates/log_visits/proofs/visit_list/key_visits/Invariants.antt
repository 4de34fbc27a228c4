use Rattle.std.proofs.Common.{◌≡◌, ◌≤◌, map}
use Rattle.std.specs.List.{range_with_len}
use Rattle.log_visits.specs.declared.visit_list.Visit.TheVariants.{Key}
use Rattle.log_visits.proofs.visit_list.key_visits.Given as goal

abbrev pub invariant-loop-before : goal.invariant-loop-before
invariant-loop-before l = record {
  within : l.before ≤ l.last;
  listed : l.visits.items ≡ map (λ h. Key (record { 0 = h })) (range_with_len 1 l.before);
}
