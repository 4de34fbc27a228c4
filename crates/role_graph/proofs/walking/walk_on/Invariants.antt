use Rattle.std.proofs.Common.{◌≡◌, ◌+◌, ◌-◌, length}
use Rattle.std.specs.Prelude.{option_copied}
use Rattle.role_graph.specs.Adjacent.{HaveSame, as_walked, edges_but, ending_in}
use Rattle.role_graph.specs.Edges.{unordered}
use Rattle.role_graph.proofs.Walked.{Walking}
use Rattle.role_graph.proofs.walking.walk_on.Given as goal

abbrev pub invariant-loop-done : goal.invariant-loop-done
invariant-loop-done g l =
    let es = unordered (g.R.Adjacent.store l.fn.roles) in
    record {
      walking : Walking (as_walked l.way es) (ending_in (option_copied l.within) (as_walked l.way (edges_but l.removed es))) l.from l.found.items l.done (g.R.Adjacent.steps l.fn.roles) (g.R.Adjacent.steps l.roles);
      stays : g.R.Adjacent.store l.roles ≡ g.R.Adjacent.store l.fn.roles;
      same : HaveSame l.found.items l.seen.keys;
    }

abbrev pub decreases-loop-done : goal.decreases-loop-done
decreases-loop-done g l = length l.from + length (as_walked l.way (unordered (g.R.Adjacent.store l.fn.roles))) - l.done
