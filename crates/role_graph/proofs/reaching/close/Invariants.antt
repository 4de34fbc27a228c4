use Rattle.cry_base.specs.Sets.{In}
use Rattle.cry_base.specs.declared.roles.Role.{Role}
use Rattle.role_graph.specs.Closing.{IsReached, count_outside}
use Rattle.role_graph.proofs.reaching.close.Given as goal

abbrev pub invariant-loop : goal.invariant-loop
invariant-loop l = record {
  kept : (r : Role) → In r l.initial.reached → In r l.reached;
  reached : (r : Role) → In r l.reached → IsReached l.edges l.initial.reached r;
}

abbrev pub decreases-loop : goal.decreases-loop
decreases-loop l = count_outside l.edges l.reached
