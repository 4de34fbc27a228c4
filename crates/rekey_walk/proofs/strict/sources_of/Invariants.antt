use Rattle.std.proofs.Common.{◌≡◌, map, take}
use Rattle.rekey_walk.proofs.strict.sources_of.Given as goal

abbrev pub invariant-loop-edge : goal.invariant-loop-edge
invariant-loop-edge l = l.sources.items ≡ map (λ e. e.from) (take l.edge-index l.removed)
