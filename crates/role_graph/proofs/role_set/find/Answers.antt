use Rattle.std.proofs.Common.{sym, rules, arith}
use Rattle.std.proofs.lemmas.List.Sorted.{IsPartitionPoint-from_clause}
use Rattle.cry_base.specs.declared.roles.Role.{Role}
use Rattle.cry_base.proofs.Reaching.{in-has}
use Rattle.role_graph.specs.Roles.{same_role, role_before}
use Rattle.role_graph.proofs.Comparing.{same_role_tells}
use Rattle.role_graph.proofs.Placing.{IsPlace, SameAt, OtherAt, partitioned, present_has, present_goes, present_with, absent_has, absent_insert, absent_stays}
use Rattle.role_graph.proofs.role_set.find.Goals as goal
use Rattle.role_graph.proofs.role_set.find.Goals.{Then-is_same, Joined-else-place-roles, else-place-roles-via-then-place-roles+else-is_same, else-place-roles-via-else-place-roles}

found : (c : Then-is_same) → IsPlace c.args.role c.args.roles.now c.partition_point-place.result
found c =
    let xs = c.args.roles.now in
    let point = IsPartitionPoint-from_clause (λ p. role_before p c.args.role) xs c.partition_point-place.result c.partition_point-place.ensures.partitioned (partitioned c.args.role xs c.requires) (λ a r q k. search rules) in
    record { within = omega arith; below = λ k d p. point.0 k d (omega arith) p; above = point.1 }

same : (c : Then-is_same) → SameAt c.args.role c.args.roles.now c.partition_point-place.result
same c = (c.if-place-roles.true, sym (c.if-is_same.ensures))

pub returns-then-is_same-clause-present : goal.returns-then-is_same-clause-present
returns-then-is_same-clause-present c = sym (in-has Role same_role same_role_tells c.args.roles.now c.args.role (present_has _ _ _ (same c)))

pub returns-then-is_same-clause-found : goal.returns-then-is_same-clause-found
returns-then-is_same-clause-found c = (c.if-place-roles.true, present_goes _ _ _ c.requires (found c) (same c), present_with _ _ _ (found c) (same c))

lacked : (c : Joined-else-place-roles) → IsPlace c.args.role c.args.roles.now c.partition_point-place.result
lacked c =
    let xs = c.args.roles.now in
    let point = IsPartitionPoint-from_clause (λ p. role_before p c.args.role) xs c.partition_point-place.result c.partition_point-place.ensures.partitioned (partitioned c.args.role xs c.requires) (λ a r q k. search rules) in
    record { within = c.partition_point-place.ensures.bound; below = λ k d p. point.0 k d (omega arith) p; above = point.1 }

other : (c : Joined-else-place-roles) → OtherAt c.args.role c.args.roles.now c.partition_point-place.result
other c p = elim c.else-place-roles.branch [
  | else-place-roles-via-then-place-roles+else-is_same w ↦ sym (w.if-is_same.ensures)
  | else-place-roles-via-else-place-roles w ↦ absurd (omega arith)
]

pub returns-else-place-roles-clause-present : goal.returns-else-place-roles-clause-present
returns-else-place-roles-clause-present c = sym (absent_has _ _ _ c.requires (lacked c) (other c))

pub returns-else-place-roles-clause-absent : goal.returns-else-place-roles-clause-absent
returns-else-place-roles-clause-absent c = (c.partition_point-place.ensures.bound, absent_insert _ _ _ (lacked c) (other c), absent_stays _ _ _ c.requires (lacked c) (other c))
