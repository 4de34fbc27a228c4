use Rattle.std.proofs.Common.{◌≡◌, ◌+◌, ◌<◌, ◌≤◌, length, ℕ, false, get_or}
use Rattle.cry_io.proofs.platter.Platter.outcome.Given as goal

abbrev pub invariant-loop-place : goal.invariant-loop-place
invariant-loop-place l = record {
  long : length l.left.items ≡ l.place;
  room : l.size ≤ l.place + l.left.spare;
  stays : (k : ℕ) → k < l.place → k < l.self-inside.stable_size → get_or l.self-inside.pending.items k false ≡ false
      → get_or l.left.items k 0 ≡ get_or l.self-inside.stable.items k 0;
}
