use Rattle.std.proofs.Common.{◌≡◌}
use Rattle.role_graph.specs.Edges.{unordered}
use Rattle.role_graph.specs.PublicStore.{public_store}
use Rattle.public_fold.proofs.MarksClosed.{AreClosed}
use Rattle.public_fold.proofs.sound_marks.is_closed.Given as goal

abbrev pub invariant-loop-role : goal.invariant-loop-role
invariant-loop-role l = record {
  same : l.roles.store ≡ public_store l.shape.tree l.grants.pairs;
  closed : AreClosed (unordered (public_store l.shape.tree l.grants.pairs)) l.dirty l.role-index;
}
