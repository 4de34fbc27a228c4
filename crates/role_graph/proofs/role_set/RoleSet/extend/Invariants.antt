use Rattle.std.proofs.Common.{◌⊎◌, take}
use Rattle.cry_base.specs.Sets.{In}
use Rattle.cry_base.specs.declared.roles.Role.{Role}
use Rattle.role_graph.specs.Ascending.{IsAscending}
use Rattle.role_graph.proofs.role_set.RoleSet.extend.Given as goal

abbrev pub invariant-loop-role : goal.invariant-loop-role
invariant-loop-role l = record {
  kept : (r : Role) → In r l.initial.self → In r l.self;
  added : (r : Role) → In r l.self → In r l.initial.self ⊎ In r (take l.role-index l.roles);
  all : (r : Role) → In r (take l.role-index l.roles) → In r l.self;
  ascending : IsAscending l.self;
}
