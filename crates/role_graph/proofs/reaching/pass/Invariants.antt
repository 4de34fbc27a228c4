use Rattle.std.proofs.Common.{◌≡◌, ◌<◌, true, false, take}
use Rattle.cry_base.specs.Sets.{In}
use Rattle.cry_base.specs.declared.roles.Role.{Role}
use Rattle.role_graph.specs.Closing.{IsReached, IsClosed, count_outside}
use Rattle.role_graph.proofs.reaching.pass.Given as goal

abbrev pub invariant-loop-edge : goal.invariant-loop-edge
invariant-loop-edge l = record {
  kept : (r : Role) → In r l.initial.reached → In r l.reached;
  reached : (r : Role) → In r l.reached → IsReached l.edges l.initial.reached r;
  closed : l.grew ≡ false → IsClosed (take l.edge-index l.edges) l.reached;
  fewer : l.grew ≡ true → count_outside l.edges l.reached < count_outside l.edges l.initial.reached;
}
