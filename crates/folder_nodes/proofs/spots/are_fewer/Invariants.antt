use Rattle.std.proofs.Common.{◌≡◌, ◌+◌, length}
use Rattle.folder_nodes.proofs.spots.are_fewer.Given as goal

abbrev pub invariant-loop-left : goal.invariant-loop-left
invariant-loop-left l =
    (length l.left + length l.others ≡ length l.others_left + length l.spots)
    × (goal.iterator-loop-left).can_next l.others_left
    × (goal.iterator-loop-left).is_finite l.others_left
