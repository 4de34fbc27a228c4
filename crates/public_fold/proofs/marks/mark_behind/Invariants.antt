use Rattle.std.proofs.Common.{◌≡◌, ◌≤◌, ◌+◌, drop, map}
use Rattle.rekey_walk.specs.Dirty.{mark_all}
use Rattle.role_graph.specs.Edges.{edges}
use Rattle.public_fold.specs.LookUps.{mark_look_ups}
use Rattle.public_fold.proofs.marks.mark_behind.Given as goal

abbrev pub invariant-loop-edge : goal.invariant-loop-edge
invariant-loop-edge g l =
    let es = edges (g.R.Adjacent.store l.fn.roles) in
    record {
      marks : mark_all l.dirty es (map (λ e. e.to) (drop l.edge-index l.removed)) ≡ mark_all l.initial.dirty es (map (λ e. e.to) l.removed);
      steps : g.R.Adjacent.steps l.roles + mark_look_ups es (map (λ e. e.to) (drop l.edge-index l.removed))
          ≤ g.R.Adjacent.steps l.fn.roles + mark_look_ups es (map (λ e. e.to) l.removed);
      same : g.R.Adjacent.store l.roles ≡ g.R.Adjacent.store l.fn.roles;
    }
