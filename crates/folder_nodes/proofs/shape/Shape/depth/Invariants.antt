use Rattle.std.proofs.Common.{◌≡◌, ◌+◌, length}
use Rattle.std.specs.Prelude.{IsSome}
use Rattle.cry_base.specs.Store.{folder_entry, way_to_root}
use Rattle.folder_nodes.proofs.shape.Shape.depth.Given as goal

abbrev pub invariant-loop-depth : goal.invariant-loop-depth
invariant-loop-depth l =
    (length (way_to_root l.self.tree l.fn.f.0) ≡ l.depth + length (way_to_root l.self.tree l.here))
    × IsSome (folder_entry l.self.tree l.here)
