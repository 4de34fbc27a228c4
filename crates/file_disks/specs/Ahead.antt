-- Bytes of a disk that are known. This project's own.
use Rattle.std.specs.Prelude.{◌≡◌, ◌+◌, ◌≤◌, ℕ, Bool, List, take, slice_range, vec_len}
use Rattle.file_disks.specs.declared.known.Known.{Known}

-- these bytes are those of the disk
abbrev pub IsOf : Known → List ℕ → Type 0
IsOf k s = (k.len ≤ vec_len k.bytes) × (take k.len k.bytes.items ≡ slice_range s k.place (k.place + k.len))

-- a disk, how many syncs of it were counted, and whether somebody watches
pub record Paced (D : Type 0) : Type 0 where
  pub disk : D
  pub syncs : ℕ
  pub is_watched : Bool
