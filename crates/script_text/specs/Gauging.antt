-- Bytes that were fed, against a limit.
use Rattle.std.specs.Prelude.{ℕ, List}

-- all of them, and the limit
pub record Gauged : Type 0 where
  pub limit : ℕ
  pub fed : List ℕ
