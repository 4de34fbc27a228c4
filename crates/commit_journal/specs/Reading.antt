-- What a call that writes nothing, but may sync, leaves of a disk.
use Rattle.std.specs.Prelude.{◌≡◌, ℕ, List, Option}

-- the disk shows what it showed and has the size that it had, and a stop leaves nothing that it couldn't leave before: it was read, and
-- may have been synced
pub record IsUntouched {D : Type 0} (shown : D → Option (List ℕ)) (size_of : D → ℕ) (may_leave : D → List ℕ
    → Type 0) (old new : D) : Type 0 where
  pub same_bytes : shown new ≡ shown old
  pub same_size : size_of new ≡ size_of old
  pub no_more_stops : (c : List ℕ) → may_leave new c → may_leave old c
