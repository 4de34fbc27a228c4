-- What holds of the lists of every `Grants`.
use Rattle.std.specs.Prelude.{ℕ, ◌^◌, ◌<◌, ◌↔◌, List, length}
use Rattle.cry_base.specs.Store.{GrantEntry}
use Rattle.cry_base.specs.Sets.{In}
use Rattle.grant_book.specs.Granted.{AreOrdered, IsHolder}

-- holders can be counted in 32 bits, each grant's holder was made, and the other list has the same grants
pub record Fits (checks : List (List ℕ)) (pairs others : List GrantEntry) : Type 0 where
  pub counted : length checks < 2 ^ 32
  pub made : (e : GrantEntry) → In e pairs → IsHolder checks e.holder
  pub numbered : (e : GrantEntry) → In e pairs → e.folder < 2 ^ 32
  pub same : (e : GrantEntry) → In e others ↔ In e pairs

-- grants that can stand beside these checks: each comes before those behind it, and its holder was made
pub record CanStand (checks : List (List ℕ)) (pairs : List GrantEntry) : Type 0 where
  pub ordered : AreOrdered pairs
  pub made : (e : GrantEntry) → In e pairs → IsHolder checks e.holder
