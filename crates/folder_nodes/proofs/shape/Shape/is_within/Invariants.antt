use Rattle.std.proofs.Common.{◌≡◌, ◌+◌, ◌≤◌, length}
use Rattle.cry_base.specs.Store.{is_within, way_to_root}
use Rattle.folder_nodes.proofs.shape.Shape.is_within.Given as goal

abbrev pub invariant-loop-climbed : goal.invariant-loop-climbed
invariant-loop-climbed l =
    (is_within l.self.tree l.f l.above ≡ is_within l.self.tree l.here l.above)
    × (l._climbed + length (way_to_root l.self.tree l.here) ≤ 65)
