-- No more is counted than the log has bytes.
use Rattle.std.proofs.Common.{◌≡◌, ℕ, ◌+◌, ◌*◌, ◌≤◌, Bool, cond, length, arith, refl}
use Rattle.std.proofs.Math.Nat.{mul-le-mul_right}
use Rattle.cry_base.specs.Layout.{batch_len}
use Rattle.cry_base.specs.Limits.{most_store_bytes}
use Rattle.commit_journal.specs.Journals.{JournalState, end_with}
use Rattle.record_format.specs.Noted.{Note}
use Rattle.public_fold.specs.Lengths.{note_len}
use Rattle.public_fold.specs.declared.heads.Skeleton.{Skeleton}
use Rattle.journal_bytes.specs.Sealing.{skeleton_size}
use Rattle.store_owner.specs.Deeds.{Deed, deed_count}
use Rattle.store_owner.specs.Counted.{IsWithin, counted_with}
use Rattle.store_owner.specs.Deeds.Deed.{Commanded, Upgrading}
use Rattle.store_owner.specs.declared.counted.Counted.{Counted}

scaled : (n k : ℕ) → k ≤ (58 + n) * k
scaled n k = let h : 1 * k ≤ (58 + n) * k = mul-le-mul_right {m = 1} {n = 58 + n} k (omega arith) in omega (arith, h)

added : (a b c d e n : ℕ) → b ≤ d → a + 8 + 98 * c + d ≤ n → c + b ≤ n
added a b c d e n low at = omega (arith, low, at)

-- each record takes more than one byte of the payload
size_least : (note : Note) (s : Skeleton) (text size : ℕ) → size ≡ skeleton_size note s text → length s.links.items + length s.contents.items ≤ size
size_least note s text size is =
    let at : note_len note + 8 + 98 * length s.links.items + (58 + text) * length s.contents.items ≤ size = omega (arith, is) in
    added (note_len note) (length s.contents.items) (length s.links.items) ((58 + text) * length s.contents.items) 0 size (scaled text (length s.contents.items)) at

-- what is asked counts for a command at most
few : (d : Deed) → deed_count d ≤ 1
few (Commanded r) = omega arith
few Upgrading = omega arith

grown : (a b c one l k end n size new : ℕ) → one ≤ 1 → a + b + c ≤ end → l + k ≤ size → new ≡ end + n + (batch_len + size) → (a + one) + (b + l) + (c + k) ≤ new
grown a b c one l k end n size new small below least on = omega (arith, small, below, least, on)

pub within_on : (d : Deed) (c : Counted) (note : Note) (s : Skeleton) (text end between size new : ℕ) (has : Bool) → IsWithin c end → between ≡ end + cond has 0 batch_len → size ≡ skeleton_size note s text
    → new ≡ between + (batch_len + size) → IsWithin (counted_with c d s) new
within_on d c note s text end between size new has below began is on =
    let to : new ≡ end + cond has 0 batch_len + (batch_len + size) = omega (arith, began, on) in
    grown c.commands c.links c.contents (deed_count d) (length s.links.items) (length s.contents.items) end (cond has 0 batch_len) size new (few d) below (size_least note s text size is) to

most : (a b c one l k end size limit n : ℕ) → one ≤ 1 → a + b + c ≤ end → l + k ≤ size → end + (batch_len + size) + n ≤ limit → limit ≤ most_store_bytes → (a + one) + (b + l) + (c + k) ≤ most_store_bytes
most a b c one l k end size limit n small below least fits low = omega (arith, small, below, least, fits, low)

pub within_limit : (d : Deed) (c : Counted) (note : Note) (s : Skeleton) (text : ℕ) (j : JournalState) → IsWithin c j.end → end_with j (skeleton_size note s text) ≤ j.limit → j.limit ≤ most_store_bytes
    → IsWithin (counted_with c d s) most_store_bytes
within_limit d c note s text j below fits low =
    most c.commands c.links c.contents (deed_count d) (length s.links.items) (length s.contents.items) j.end (skeleton_size note s text) j.limit _ (few d) below (size_least note s text (skeleton_size note s text) refl) fits low
