use Rattle.std.proofs.Common.{◌≡◌, ◌*◌, ◌^◌, ◌<◌}
use Rattle.head_tree.proofs.climb.Climb.new.Given as goal

abbrev pub invariant-loop-count : goal.invariant-loop-count
invariant-loop-count l = (0 < l.count) × (l.size ≡ 2 ^ l.level) × (l.count * l.size ≡ l.first)

abbrev pub decreases-loop-count : goal.decreases-loop-count
decreases-loop-count l = l.count
