use Rattle.std.proofs.Common.{length}
use Rattle.folder_nodes.specs.Pieces.{pieces_of}
use Rattle.folder_nodes.proofs.Walked.{Walked}
use Rattle.folder_nodes.proofs.walking.walk.Given as goal

abbrev pub invariant-loop-left : goal.invariant-loop-left
invariant-loop-left l = Walked l.shape.tree l.names l.path l.here l.name (pieces_of l.left)

abbrev pub decreases-loop-left : goal.decreases-loop-left
decreases-loop-left l = length (pieces_of l.left)
