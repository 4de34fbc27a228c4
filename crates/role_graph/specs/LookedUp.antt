-- What contracts see of edges that are looked up.
use Rattle.std.specs.Prelude.{ℕ}
use Rattle.cry_base.specs.Store.{Store}

-- the store that the edges are of, and how many steps were taken for them
pub record LookedUp : Type 0 where
  pub store : Store
  pub steps : ℕ
