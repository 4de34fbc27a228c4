-- Bytes without an empty slot are left as they are by an opening for writing.
use Rattle.std.proofs.Common.{◌≡◌, ℕ, List, ◌∷◌, ◌++◌, drop, length, arith, refl, sym, ap, ◌∙◌}
use Rattle.std.proofs.Math.Seq.{drop-append_seam}
use Rattle.cry_base.specs.Layout.{header_len}
use Rattle.cry_base.specs.Limits.{most_store_bytes}
use Rattle.commit_journal.specs.Handing.{all_written, opening_writes}
use Rattle.commit_journal.specs.Image.{image}
use Rattle.commit_journal.specs.Laws.{placed_from}
use Rattle.commit_journal.specs.Opening.{slots_filled}
use Rattle.commit_journal.specs.WholeLogs.{whole_log}
use Rattle.commit_journal.proofs.Refilled.{filled_behind, filled_whole}
use Rattle.commit_journal.proofs.Reopened.{opened_standing}
use Rattle.commit_journal.proofs.Standings.{whole_stands}
use Rattle.public_fold.specs.Journal.{Journal}
use Rattle.journal_bytes.specs.Bytes.{batches_of, bodies_of}
use Rattle.journal_bytes.specs.Journals.{StandsForJournal, StandsWholeForJournal}
use Rattle.store_owner.proofs.OpenedBehind.{within}
use Rattle.store_owner.proofs.SlotsHanded.{opened_shows}
use Rattle.log_heads.specs.Published.{leaves_in}
use Rattle.held_laws.specs.Held.{log_left}

-- bytes that begin with an image are the image and what stands behind it
parted : (front behind bytes : List ℕ) → bytes ≡ front ++ behind → bytes ≡ front ++ drop (length front) bytes
parted front behind bytes is = is ∙ ap (λ l. front ++ l) (sym (ap (λ l. drop (length front) l) is ∙ drop-append_seam front behind))

filled_same : (key : List ℕ) (m : Journal) (z : List ℕ) → StandsWholeForJournal key m z → all_written (opening_writes most_store_bytes key z) z ≡ z
unfolding batches_of
filled_same key m z whole =
    let bodies = bodies_of key m in
    let bs = batches_of key m in
    let stands : StandsForJournal key m z = record { valid = whole.valid; whole_keys = whole.whole_keys; stands = whole_stands key bs z whole.stands } in
    let small = whole.valid.1 in
    let inside = within most_store_bytes key m z stands small in
    let filled = slots_filled key (placed_from header_len 0 0 bodies) z in
    let written : filled ≡ all_written (opening_writes most_store_bytes key z) z =
    opened_shows key m z filled stands small (whole_log key bodies, opened_standing most_store_bytes key bodies z (omega arith) inside, refl) in
    let same = filled_whole key bodies z inside.0 in
    sym written
    ∙ parted (image key bs) (same.gate ∷ same.behind) filled same.bytes_are
    ∙ ap (λ l. image key bs ++ l) (filled_behind key bodies z inside.0)
    ∙ sym (parted (image key bs) (whole.stands.gate ∷ whole.stands.behind) z whole.stands.bytes_are)

pub left_as_shown : (key : List ℕ) (m : Journal) (z : List ℕ) → StandsWholeForJournal key m z → log_left key z ≡ leaves_in z
unfolding log_left
left_as_shown key m z whole = ap leaves_in (filled_same key m z whole)
