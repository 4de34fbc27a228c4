-- What contracts see of a key.
use Rattle.std.specs.Prelude.{ℕ, List}

-- the number of the folder, file or holder whose key it is (the owner's has 0), its serial, and its 32
-- bytes
pub record KeyParts : Type 0 where
  pub id : ℕ
  pub serial : ℕ
  pub bytes : List ℕ
