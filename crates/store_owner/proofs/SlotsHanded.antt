-- A store that was opened shows each write of its opening done.
use Rattle.std.specs.Prelude.{slice_range}
use Rattle.std.specs.Option.{option_to_list}
use Rattle.std.specs.Str.{bytes_eq}
use Rattle.std.proofs.Common.{◌≡◌, ℕ, ◌+◌, ◌-◌, ◌≤◌, Bool, true, false, cond, List, [], ◌∷◌, ◌++◌, length, map, None, Some, append_assoc, length-append, arith, refl, sym, ap, subst, ◌∙◌}
use Rattle.cry_base.specs.Layout.{batch_len, header_len}
use Rattle.batch_log.specs.Steps.{IsGatedAt}
use Rattle.chacha_seal.specs.Sealing.{check_of, veil_of}
use Rattle.chacha_seal.proofs.SealingLemmas.{length-veil_of}
use Rattle.commit_journal.specs.Filling.{all_filled, unfilled_in, unfilled_slot}
use Rattle.batch_log.specs.Handing.{all_written}
use Rattle.commit_journal.specs.Handing.{opening_writes, slot_write}
use Rattle.commit_journal.specs.Image.{batch_veil, owner_tag, spell_batch, spell_header}
use Rattle.commit_journal.specs.Laws.{batch_of, batches_from, placed_from}
use Rattle.commit_journal.specs.Opening.{AreGated, OwnedLog}
use Rattle.commit_journal.specs.Placed.{PlainBody, PlainPlaced}
use Rattle.commit_journal.specs.Standing.{StandsFor, slotted_image, spell_slotted}
use Rattle.commit_journal.specs.WholeLogs.{whole_log}
use Rattle.commit_journal.proofs.Pieces.{item}
use Rattle.commit_journal.proofs.Reopened.{opened_standing}
use Rattle.commit_journal.proofs.SlotsUnfilled.{filled_is_filled}
use Rattle.commit_journal.proofs.SlotsWritten.{fills_writes}
use Rattle.commit_journal.proofs.Standings.{length-batch, length-spell_header}
use Rattle.cry_base.specs.Limits.{most_store_bytes}
use Rattle.public_fold.specs.Journal.{Journal}
use Rattle.public_fold.specs.Lengths.{end_of}
use Rattle.journal_bytes.specs.Bytes.{bodies_of}
use Rattle.journal_bytes.specs.Journals.{StandsForJournal}
use Rattle.store_owner.specs.Opened.{IsFilled}
use Rattle.store_owner.proofs.OpenedBehind.{within}

-- a batch behind its open gate, with the next gate
gated_here : (before bytes more whole : List ℕ) (at from place : ℕ) → whole ≡ before ++ 1 ∷ (bytes ++ more) → length before + 1 ≡ at → place ≡ at + 45 → from ≤ at
    → batch_len ≤ length bytes + 1 → 1 ≤ length more → (from + 45 ≤ place) × IsGatedAt (place - 45) batch_len whole
gated_here before bytes more whole at from place is at_is place_is low long behind =
    let front : length before ≡ place - 45 - 1 = omega (arith, at_is, place_is) in
    let size = ap (λ w. length w) is in (
      omega (arith, place_is, low),
      record {
        opened = item before (bytes ++ more) whole 1 (place - 45 - 1) is front;
        inside = omega (arith, size, length-append before (1 ∷ (bytes ++ more)), length-append bytes more, at_is, place_is, long, behind);
      },
    )

-- those behind others
gated_from : (owner slot : List ℕ) (bodies : List PlainBody) (before previous behind whole : List ℕ) (gate at from number epoch : ℕ) → length slot ≡ 32 → length before + 1 ≡ at → from ≤ at
    → whole ≡ before ++ (spell_slotted owner previous slot (batches_from number epoch bodies) ++ gate ∷ behind) → AreGated from (placed_from at number epoch bodies) whole
unfolding spell_slotted
gated_from owner slot [] before previous behind whole gate at from number epoch size at_is low is = tt
gated_from owner slot (body ∷ []) before previous behind whole gate at from number epoch size at_is low is =
    let b = batch_of number epoch body in
    let bytes = spell_batch owner previous slot b in
    let here = gated_here before bytes (gate ∷ behind) whole at from (at + 45) is at_is refl low (omega (arith, length-batch owner previous slot b size)) (omega arith) in
    (here.0, here.1, tt)
gated_from owner slot (body ∷ other ∷ bodies) before previous behind whole gate at from number epoch size at_is low is =
    let b = batch_of number epoch body in
    let veil = batch_veil owner b in
    let bytes = spell_batch owner previous veil b in
    let tag = owner_tag owner previous b in
    let slotted = spell_slotted owner tag slot (batches_from b.number b.epoch (other ∷ bodies)) in
    let more = slotted ++ gate ∷ behind in
    let front = before ++ 1 ∷ bytes in
    let next = at + (batch_len + length b.payload) in
    let long = length-batch owner previous veil b (length-veil_of owner b.epoch b.number) in
    let split : whole ≡ before ++ 1 ∷ (bytes ++ more) = is ∙ ap (λ r. before ++ 1 ∷ r) (append_assoc bytes slotted (gate ∷ behind)) in
    let here = gated_here before bytes more whole at from (at + 45) split at_is refl low (omega (arith, long)) (omega (arith, length-append slotted (gate ∷ behind))) in
    let front_is : length front + 1 ≡ next = omega (arith, at_is, length-append before (1 ∷ bytes), long) in (
      here.0,
      here.1,
      gated_from owner slot (other ∷ bodies) front tag behind whole gate next (at + 45 + 65) b.number b.epoch size front_is (omega arith)
          (split ∙ sym (append_assoc before (1 ∷ bytes) more)),
    )

-- the whole log
gated_all : (owner : List ℕ) (bodies : List PlainBody) (bytes : List ℕ) → StandsFor owner (batches_from 0 0 bodies) bytes → AreGated header_len (placed_from header_len 0 0 bodies) bytes
unfolding slotted_image
gated_all owner bodies bytes stands =
    let header = spell_header owner in
    let slotted = spell_slotted owner (check_of owner) stands.slot (batches_from 0 0 bodies) in
    gated_from owner stands.slot bodies header (check_of owner) stands.behind bytes stands.gate header_len header_len 0 0 stands.slot_size
    (ap (λ n. n + 1) (length-spell_header owner)) (omega arith) (stands.bytes_are ∙ append_assoc header slotted (stands.gate ∷ stands.behind))

-- one slot after another
by_slot : (test : Bool) (place : ℕ) (veil owner : List ℕ) (ps : List PlainPlaced) (x z : List ℕ)
    → ((y : List ℕ) → all_written (map slot_write (unfilled_in owner ps x)) y ≡ all_filled (unfilled_in owner ps x) y)
    → all_written (map slot_write (option_to_list (cond test None (Some (record { place = place; veil = veil }))) ++ unfilled_in owner ps x)) z
    ≡ all_filled (option_to_list (cond test None (Some (record { place = place; veil = veil }))) ++ unfilled_in owner ps x) z
unfolding all_written all_filled
by_slot true place veil owner ps x z rest = rest z
by_slot false place veil owner ps x z rest = rest _

slots_written : (owner : List ℕ) (ps : List PlainPlaced) (x z : List ℕ) → all_written (map slot_write (unfilled_in owner ps x)) z ≡ all_filled (unfilled_in owner ps x) z
unfolding all_written all_filled unfilled_in unfilled_slot
slots_written owner [] x z = refl
slots_written owner (p ∷ ps) x z =
    let place = p.place - 32 in
    let veil = veil_of owner p.epoch.0 p.batch in
    by_slot (bytes_eq (slice_range x place (place + 32)) veil) place veil owner ps x z (slots_written owner ps x)

-- a store that was opened, whose bytes stood for a journal
pub opened_shows : (key : List ℕ) (m : Journal) (x y : List ℕ) → StandsForJournal key m x → end_of m ≤ most_store_bytes → IsFilled most_store_bytes key x y
    → y ≡ all_written (opening_writes most_store_bytes key x) x
opened_shows key m x y stands small filled =
    let log = filled.0 in
    let inside = within most_store_bytes key m x stands small in
    let bodies = bodies_of key m in
    let whole : log ≡ whole_log key bodies = let both = sym filled.1 ∙ opened_standing most_store_bytes key bodies x (omega arith) inside in cc in
    let placed : log.placed ≡ placed_from header_len 0 0 bodies = ap (λ (l : OwnedLog). l.placed) whole in
    let gated = subst (λ (ps : List PlainPlaced). AreGated header_len ps x) (sym placed) (gated_all key bodies x inside.0) in
    filled.2
    ∙ sym (filled_is_filled key log.placed x gated)
    ∙ sym (slots_written key log.placed x x)
    ∙ ap (λ ws. all_written ws x) (fills_writes most_store_bytes key x log (unfilled_in key log.placed x) filled.1 refl)
