use Rattle.std.proofs.Common.{ℕ, ◌≤◌}
use Rattle.std.specs.Prelude.{IsTrue}
use Rattle.cry_base.specs.Sets.{has}
use Rattle.role_graph.specs.Roles.{holder_role, same_role}
use Rattle.public_fold.proofs.sound_keys.have_holders.Given as goal

abbrev pub invariant-loop-before : goal.invariant-loop-before
invariant-loop-before l = (h : ℕ) → 1 ≤ h → h ≤ l.before → IsTrue (has same_role l.keyed (holder_role h))
