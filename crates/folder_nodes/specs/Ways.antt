-- Where a walk down a tree ends.
use Rattle.std.specs.Prelude.{◌≡◌, ℕ, Bool, false, ◌==◌}
use Rattle.folder_nodes.specs.declared.walking.Way.{Way}
use Rattle.folder_nodes.specs.declared.walking.Way.TheVariants.{Nowhere, At, Several}

-- no number passes the test, or this one alone. Of several nothing is said: each is tried then
abbrev pub IsWay : (ℕ → Bool) → Way → Type 0
IsWay test Nowhere = (k : ℕ) → test k ≡ false
IsWay test (At f) = (k : ℕ) → test k ≡ (k == f)
IsWay test Several = Unit {0}
