-- A journal with one batch more, and why it takes none.
use Rattle.std.proofs.Common.{◌≡◌, ◌≢◌, ℕ, zero, suc, ◌+◌, ◌-◌, ◌≤◌, ◌<◌, ◌^◌, Bool, true, false, cond, ltb, List, [], ◌∷◌, ◌++◌, length, drop, Option, None, Some, append_assoc, arith, refl, sym, ap, ◌∙◌, subst, length-append}
use Rattle.std.specs.Prelude.{codes}
use Rattle.std.proofs.Math.Seq.{drop-append-add, drop-append_seam}
use Rattle.std.proofs.lemmas.List.{append-nil}
use Rattle.std.proofs.lemmas.List.Sums.{sum_by-append, sum_by-cons}
use Rattle.cry_base.specs.Layout.{batch_len, header_len}
use Rattle.chacha_seal.specs.Sealing.{check_of}
use Rattle.chacha_seal.proofs.SealingLemmas.{length-veil_of}
use Rattle.cry_io.specs.Told.{WhereBothTold}
use Rattle.record_format.specs.Plain.{PlainPayload}
use Rattle.record_format.specs.Sizes.{payload_size}
use Rattle.record_format.specs.Spellable.{IsSpellable}
use Rattle.record_format.proofs.Lengths.{contents_small, note_size_most}
use Rattle.commit_journal.specs.declared.commit_fault.CommitFault.{CommitFault}
use Rattle.commit_journal.specs.declared.commit_fault.CommitFault.TheVariants as faults
use Rattle.batch_log.specs.Steps.{Commits, with_slot}
use Rattle.commit_journal.specs.Image.{Batch, batch_veil, empty_slot, owner_tag, spell_batch, spell_header, spell_batches, image}
use Rattle.commit_journal.specs.Journals.{JournalState, IsBehind, IsJournalOf, Joins, last_epoch, refusal}
use Rattle.commit_journal.specs.Standing.{StandsWhole, tag_behind, last_tag}
use Rattle.commit_journal.proofs.BatchLemmas.{with_slot-spelled, length-empty_slot}
use Rattle.commit_journal.proofs.Standings.{image-append, length-batch, length-image, unveiled}
use borrow.Author.Tests.{ltb-false}

-- a payload with a spelling is small
pub payload_small : (p : PlainPayload) → IsSpellable p → payload_size p < 2 ^ 62
payload_small p s = omega (arith, contents_small p.contents s.contents, note_size_most p.note, s.link_count, s.content_count)

refused_cases : (closed full : Bool) (f g : CommitFault) → cond closed (Some f) (cond full (Some g) None) ≡ None → (closed ≡ false) × (full ≡ false)
refused_cases true full f g is = let wrong : ⊥ = cc in absurd wrong
refused_cases false true f g is = let wrong : ⊥ = cc in absurd wrong
refused_cases false false f g is = (refl, refl)

-- a journal that refuses no batch is open, and the batch ends within its limit
pub not_refused : (j : JournalState) (payload : ℕ) → refusal j payload ≡ None → (j.is_closed ≡ false) × (j.end + (batch_len + payload) ≤ j.limit)
not_refused j payload is =
    let cases = refused_cases j.is_closed (ltb j.limit (j.end + (batch_len + payload))) faults.Closed (faults.Full (batch_len + payload) (j.limit - j.end)) is in
    (cases.0, ltb-false j.limit (j.end + (batch_len + payload)) cases.1)

fault_cases : (closed full : Bool) (need left : ℕ) → cond closed (Some faults.Closed) (cond full (Some (faults.Full need left)) None) ≡ Some faults.DiskFault → ⊥
fault_cases true full need left is = cc
fault_cases false true need left is = cc
fault_cases false false need left is = cc

-- it refuses none by a disk fault
pub refused_by_no_disk : (j : JournalState) (payload : ℕ) → refusal j payload ≡ Some faults.DiskFault → ⊥
refused_by_no_disk j payload is = fault_cases j.is_closed (ltb j.limit (j.end + (batch_len + payload))) (batch_len + payload) (j.limit - j.end) is

last_epoch-push : (epoch : ℕ) (bs : List Batch) (b : Batch) → last_epoch epoch (bs ++ b ∷ []) ≡ b.epoch
last_epoch-push epoch [] b = refl
last_epoch-push epoch (a ∷ bs) b = last_epoch-push a.epoch bs b

tag_behind-push : (owner previous : List ℕ) (bs : List Batch) (b : Batch) → tag_behind owner previous (bs ++ b ∷ []) ≡ owner_tag owner (tag_behind owner previous bs) b
unfolding tag_behind
tag_behind-push owner previous [] b = refl
tag_behind-push owner previous (a ∷ bs) b = tag_behind-push owner (owner_tag owner previous a) bs b

-- behind one batch more, the journal stands for one more
pub stands_for_more : (b : Batch) (old new : JournalState) (bs : List Batch) → IsBehind b old new → b.number ≡ old.batches + 1 → IsJournalOf bs old → IsJournalOf (bs ++ b ∷ []) new
stands_for_more b old new bs behind number of =
    let f : Batch → ℕ = λ b. batch_len + length b.payload in
    record {
      batches = omega (arith, behind.batches, number, of.batches, length-append bs (b ∷ []));
      epoch = behind.epoch ∙ sym (last_epoch-push 0 bs b);
      end = omega (arith, behind.end, of.end, length-image old.owner bs, length-image new.owner (bs ++ b ∷ []), sum_by-append f bs (b ∷ []), sum_by-cons f b []);
      tag = behind.tag
          ∙ ap (λ t. owner_tag old.owner t b) of.tag
          ∙ sym (tag_behind-push old.owner (check_of old.owner) bs b)
          ∙ ap (λ o. last_tag o (bs ++ b ∷ [])) (sym behind.owner);
    }

-- what a batch makes that is committed behind a whole image
more_is : (owner batch veil x y : List ℕ) (bs : List Batch) (b : Batch) (end gate : ℕ) (behind : List ℕ) → x ≡ image owner bs ++ gate ∷ behind → end ≡ length (image owner bs) + 1 →
    batch ≡ spell_batch owner (last_tag owner bs) empty_slot b ++ 0 ∷ [] → veil ≡ batch_veil owner b → Commits end batch veil x y →
    y ≡ image owner bs ++ (1 ∷ (spell_batch owner (last_tag owner bs) (batch_veil owner b) b ++ 0 ∷ drop (length batch) behind))
more_is owner batch veil x y bs b end gate behind was at batch_is veil_is commits =
    let front = image owner bs in
    let previous = last_tag owner bs in
    let rest = drop (length batch) behind in
    commits front behind gate (sym at) was
    ∙ ap (λ w. front ++ (1 ∷ (with_slot veil w ++ rest))) batch_is
    ∙ ap (λ w. front ++ (1 ∷ (w ++ rest))) (with_slot-spelled owner previous empty_slot veil b length-empty_slot)
    ∙ ap (λ v. front ++ (1 ∷ ((spell_batch owner previous v b ++ 0 ∷ []) ++ rest))) veil_is
    ∙ ap (λ w. front ++ (1 ∷ w)) (append_assoc (spell_batch owner previous (batch_veil owner b) b) (0 ∷ []) rest)

-- it is a whole image again
whole_more : (owner batch veil x y : List ℕ) (bs : List Batch) (b : Batch) (end : ℕ) → StandsWhole owner bs x → end ≡ length (image owner bs) + 1 →
    batch ≡ spell_batch owner (last_tag owner bs) empty_slot b ++ 0 ∷ [] → veil ≡ batch_veil owner b → Commits end batch veil x y →
    StandsWhole owner (bs ++ b ∷ []) y
whole_more owner batch veil x y bs b end whole at batch_is veil_is commits =
    let shut : 0 ≢ 1 = λ e. omega (arith, e) in
    subst (λ (r : List ℕ). StandsWhole owner (bs ++ b ∷ []) r) (sym (more_is owner batch veil x y bs b end whole.gate whole.behind whole.bytes_are at batch_is veil_is commits))
    (unveiled owner bs b 0 (drop (length batch) whole.behind) shut)

drop-nothing : (n : ℕ) → let none : List ℕ = [] in drop n none ≡ none
drop-nothing zero = refl
drop-nothing (suc n) = refl

-- and nothing stands behind it where nothing did
ended_more : (owner batch veil x y : List ℕ) (bs : List Batch) (b : Batch) (end : ℕ) → x ≡ image owner bs ++ 0 ∷ [] → end ≡ length (image owner bs) + 1 →
    batch ≡ spell_batch owner (last_tag owner bs) empty_slot b ++ 0 ∷ [] → veil ≡ batch_veil owner b → Commits end batch veil x y →
    y ≡ image owner (bs ++ b ∷ []) ++ 0 ∷ []
unfolding spell_batches
ended_more owner batch veil x y bs b end was at batch_is veil_is commits =
    let front = image owner bs in
    let bytes = spell_batch owner (last_tag owner bs) (batch_veil owner b) b in
    more_is owner batch veil x y bs b end 0 [] was at batch_is veil_is commits
    ∙ ap (λ r. front ++ (1 ∷ (bytes ++ 0 ∷ r))) (drop-nothing (length batch))
    ∙ ap (λ w. front ++ (1 ∷ (w ++ 0 ∷ []))) (sym (append-nil bytes))
    ∙ sym (append_assoc front (1 ∷ (bytes ++ [])) (0 ∷ []))
    ∙ ap (λ r. r ++ 0 ∷ []) (sym (image-append owner bs (b ∷ [])))

-- what stood behind its end stays
behind_more : (owner batch veil x y : List ℕ) (bs : List Batch) (b : Batch) (end : ℕ) → StandsWhole owner bs x → end ≡ length (image owner bs) + 1 →
    batch ≡ spell_batch owner (last_tag owner bs) empty_slot b ++ 0 ∷ [] → veil ≡ batch_veil owner b → Commits end batch veil x y →
    drop (end + (batch_len + length b.payload)) y ≡ drop (end + (batch_len + length b.payload)) x
behind_more owner batch veil x y bs b end whole at batch_is veil_is commits =
    let front = image owner bs in
    let bytes = spell_batch owner (last_tag owner bs) (batch_veil owner b) b in
    let rest = drop (length batch) whole.behind in
    let n = batch_len + length b.payload in
    let old = front ++ whole.gate ∷ [] in
    let new = front ++ (1 ∷ (bytes ++ 0 ∷ [])) in
    let long = length-batch owner (last_tag owner bs) (batch_veil owner b) b (length-veil_of owner b.epoch b.number) in
    let empty_long = length-batch owner (last_tag owner bs) empty_slot b length-empty_slot in
    let size : length batch ≡ n = ap length batch_is ∙ (let both = length-append (spell_batch owner (last_tag owner bs) empty_slot b) (0 ∷ []) in omega (arith, both, empty_long)) in
    let old_size : length old ≡ end = omega (arith, at, length-append front (whole.gate ∷ [])) in
    let new_size : length new ≡ end + n = omega (arith, at, long, length-append front (1 ∷ (bytes ++ 0 ∷ [])), length-append bytes (0 ∷ [])) in
    let x_is : x ≡ old ++ whole.behind = whole.bytes_are ∙ sym (append_assoc front (whole.gate ∷ []) whole.behind) in
    let y_is : y ≡ new ++ rest =
    more_is owner batch veil x y bs b end whole.gate whole.behind whole.bytes_are at batch_is veil_is commits
    ∙ ap (λ w. front ++ (1 ∷ w)) (sym (append_assoc bytes (0 ∷ []) rest))
    ∙ sym (append_assoc front (1 ∷ (bytes ++ 0 ∷ [])) rest)
    in
    ap (λ k. drop k y) (sym new_size)
    ∙ ap (λ w. drop (length new) w) y_is
    ∙ drop-append_seam new rest
    ∙ ap (λ k. drop k whole.behind) size
    ∙ sym (drop-append-add old whole.behind n)
    ∙ ap (λ k. drop (k + n) (old ++ whole.behind)) old_size
    ∙ ap (λ w. drop (end + n) w) (sym x_is)

pub joins : (old new : JournalState) (b : Batch) (batch veil : List ℕ) (was shows : Option (List ℕ)) → IsBehind b old new → b.number ≡ old.batches + 1 →
    batch ≡ spell_batch old.owner old.tag empty_slot b ++ 0 ∷ [] → veil ≡ batch_veil old.owner b → WhereBothTold was shows (Commits old.end batch veil) →
    Joins b old new was shows
joins old new b batch veil was shows behind number batch_is veil_is committed = record {
  stands = λ bs of. stands_for_more b old new bs behind number of;
  shown = λ bs of x y x_is y_is whole.
      whole_more old.owner batch veil x y bs b old.end whole of.end
      (batch_is ∙ ap (λ t. spell_batch old.owner t empty_slot b ++ 0 ∷ []) of.tag) veil_is (committed x y x_is y_is);
  ended = λ bs of x y x_is y_is whole.
      ended_more old.owner batch veil x y bs b old.end whole of.end
      (batch_is ∙ ap (λ t. spell_batch old.owner t empty_slot b ++ 0 ∷ []) of.tag) veil_is (committed x y x_is y_is);
  further = omega (arith, behind.end);
  behind = λ bs of x y x_is y_is whole.
      ap (λ k. drop k y) behind.end
      ∙ behind_more old.owner batch veil x y bs b old.end whole of.end
      (batch_is ∙ ap (λ t. spell_batch old.owner t empty_slot b ++ 0 ∷ []) of.tag) veil_is (committed x y x_is y_is)
      ∙ ap (λ k. drop k x) (sym behind.end);
}

-- the image of no batches is the header
pub length-nothing : (owner : List ℕ) → header_len ≡ length (image owner []) + 1
length-nothing owner = omega (arith, length-image owner [])

-- the bytes of a store without batches
pub image_of_nothing : (owner check : List ℕ) → check ≡ check_of owner → (codes "CRYPTREE" ++ 1 ∷ check) ++ 0 ∷ [] ≡ image owner [] ++ 0 ∷ []
unfolding image spell_header spell_batches
image_of_nothing owner check is =
    ap (λ k. (codes "CRYPTREE" ++ 1 ∷ k) ++ 0 ∷ []) is
    ∙ ap (λ h. h ++ 0 ∷ []) (sym (append-nil (codes "CRYPTREE" ++ 1 ∷ check_of owner)))
