use Rattle.std.proofs.Common.{take}
use Rattle.cry_base.specs.Sets.{In}
use Rattle.trail_audit.proofs.trails.has_key.Given as goal

abbrev pub invariant-loop-known : goal.invariant-loop-known
invariant-loop-known l = In l.key (take l.known-index l.keys) → ⊥
