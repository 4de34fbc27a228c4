-- What contracts see of a batch between two steps of its commit. This project's own, docs/FORMAT.md, "Committing".
use Rattle.std.specs.Prelude.{ℕ, List}

-- the batch stands behind the gate before this place
pub record StagedBatch : Type 0 where
  pub end : ℕ
  pub body : List ℕ

-- the batch, the gate behind it among its bytes, stands behind the open gate before this place
pub record GatedBatch : Type 0 where
  pub end : ℕ
  pub body : List ℕ
