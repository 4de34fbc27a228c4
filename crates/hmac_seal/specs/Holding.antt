-- What contracts see of an HMAC that is under way.
use Rattle.std.specs.Prelude.{ℕ, List, ◌++◌}
use Rattle.sha2.specs.Hashers.{Holds256}
use Rattle.hmac_seal.specs.Hmac.{block_key, xor_each}
use Rattle.hmac_seal.specs.declared.state.Hmac.{Hmac}

-- the state holds this key and this message so far: each of its two hashes holds what it begins with
pub record Holds (state : Hmac) (key message : List ℕ) : Type 0 where
  pub inner : Holds256 state.inner (xor_each 0x36 (block_key key) ++ message)
  pub outer : Holds256 state.outer (xor_each 0x5c (block_key key))
