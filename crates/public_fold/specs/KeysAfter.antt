-- The keys as they are after a step, before it is taken. This project's own, docs/FORMAT.md, "The key step".
use Rattle.std.specs.Prelude.{ℕ, List, ◌++◌}
use Rattle.cry_base.specs.declared.roles.Role.{Role}
use Rattle.public_fold.specs.KeyStep.{keys_without}
use Rattle.public_fold.specs.declared.keys.KeysThen.{KeysThen}

-- those given, and behind them the old ones whose role isn't gone
abbrev pub keys_then_of : KeysThen → List (Role × ℕ)
keys_then_of k = k.given.now ++ keys_without k.gone.now k.old.now.keys
