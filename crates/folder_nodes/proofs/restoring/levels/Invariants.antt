use Rattle.std.proofs.Common.{map}
use Rattle.folder_nodes.specs.Bare.{folder_of_row}
use Rattle.folder_nodes.proofs.Restored.{Counts}
use Rattle.folder_nodes.proofs.restoring.levels.Given as goal

abbrev pub invariant-loop-levels : goal.invariant-loop-levels
invariant-loop-levels l = Counts (map folder_of_row l.folders.rows) l.f l.here l.levels
