use Rattle.std.proofs.Common.{◌≡◌, ◌+◌, ◌*◌, flat_map, length, take}
use Rattle.role_graph.specs.Adjacent.{at_role}
use Rattle.role_graph.specs.Edges.{unordered}
use Rattle.role_graph.proofs.touching.listed_at.Given as goal

abbrev pub invariant-loop-role : goal.invariant-loop-role
invariant-loop-role g l =
    let es = unordered (g.R.Adjacent.store l.fn.roles) in
    record {
      found : l.found.items ≡ flat_map (at_role es) (take l.role-index l.at);
      steps : g.R.Adjacent.steps l.roles ≡ g.R.Adjacent.steps l.fn.roles + length l.found.items + 2 * l.role-index;
      same : g.R.Adjacent.store l.roles ≡ g.R.Adjacent.store l.fn.roles;
    }
