-- What the crates above need to know of HMAC.
use Rattle.std.proofs.Common.{◌≡◌, ℕ, List, length}
use Rattle.sha2.proofs.Facts256.{length-sha256}
use Rattle.hmac_seal.specs.Hmac.{hmac}

-- an HMAC has 32 bytes
pub length-hmac : (key message : List ℕ) → length (hmac key message) ≡ 32
unfolding hmac
length-hmac key message = length-sha256 _
