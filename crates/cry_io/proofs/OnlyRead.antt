-- Calls that only read a disk.
use Rattle.std.proofs.Common.{◌≡◌, ◌≤◌, ⊎_elim, inl, inr, ℕ, List, refl, sym, ◌∙◌}
use Rattle.std.proofs.Math.Nat.{le_refl, le_trans}
use Rattle.cry_io.specs.Reading.{IsOnlyRead}
use Rattle.cry_io.specs.declared.disk.Disk as disk

-- no call
pub only_read_still : {D : Type 0} (disks : disk.Ghosts D) (a : D) → IsOnlyRead disks a a
only_read_still disks a = record {
  same_bytes = refl;
  same_size = refl;
  same_stops = λ left. (λ h. h, λ h. h);
  time = record {
    later = le_refl (disks.moment a);
    nothing_else = λ t s c early at. inl at;
    keeps = λ t s c early at. at;
  };
}

-- one behind another
pub only_read_twice : {D : Type 0} (disks : disk.Ghosts D) (a b e : D) → IsOnlyRead disks a b → IsOnlyRead disks b e → IsOnlyRead disks a e
only_read_twice disks a b e first second = record {
  same_bytes = second.same_bytes ∙ first.same_bytes;
  same_size = second.same_size ∙ first.same_size;
  same_stops = λ left. (λ h. (first.same_stops left).0 ((second.same_stops left).0 h), λ h. (second.same_stops left).1 ((first.same_stops left).1 h));
  time = record {
    later = le_trans first.time.later second.time.later;
    nothing_else = λ t s c early at. ⊎_elim
        (λ old. ⊎_elim (λ before. inl before) (λ is. inr (second.same_bytes ∙ is.0, (second.same_stops c).1 is.1)) (first.time.nothing_else t s c early old))
        (λ is. inr is)
        (second.time.nothing_else t s c (le_trans early first.time.later) at);
    keeps = λ t s c early at. second.time.keeps t s c (le_trans early first.time.later) (first.time.keeps t s c early at);
  };
}
