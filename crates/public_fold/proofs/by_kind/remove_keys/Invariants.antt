use Rattle.std.proofs.Common.{◌≡◌, ◌≤◌, cond, drop, None}
use Rattle.cry_base.specs.Sets.{has}
use Rattle.cry_base.specs.declared.roles.Role.{Role}
use Rattle.role_graph.specs.Roles.{same_role}
use Rattle.public_fold.specs.KeyTables.{serial_in}
use Rattle.public_fold.proofs.by_kind.remove_keys.Given as goal

abbrev pub invariant-loop-role : goal.invariant-loop-role
invariant-loop-role l = record {
  left : (role : Role) → cond (has same_role (drop l.role-index l.gone) role) None (serial_in l.rows role) ≡ cond (has same_role l.gone role) None (serial_in l.initial.rows role);
  spare : l.initial.rows.spare ≤ l.rows.spare;
}
