-- Slots that aren't their veil keys, as they are filled one after another.
use Rattle.std.proofs.Common.{◌≡◌, inl, inr, ℕ, suc, ◌+◌, ◌-◌, ◌<◌, ◌≤◌, List, [], ◌∷◌, Option, Some, length, map, drop, get_or, Result, Ok, drop-cons, refl, sym, ap, subst, ◌∙◌, arith}
use Rattle.std.specs.Prelude.{slice_index, slice_range}
use Rattle.std.proofs.Math.ListN.{drop_of_length-le}
use Rattle.std.proofs.lemmas.List.{places}
use Rattle.cry_base.specs.Layout.{header_len}
use Rattle.cry_io.specs.Stops.{Elapses, IsDurable}
use Rattle.cry_io.specs.Told.{WhereTold}
use Rattle.cry_io.specs.declared.disk.Disk as disk
use Rattle.batch_log.specs.Moments.{GoesOn, Throughout}
use Rattle.batch_log.specs.Steps.{written_at}
use Rattle.batch_log.specs.Handing.{IsStage, IsTornStage, all_written}
use Rattle.batch_log.proofs.Handed.{hands_failing, hands_nothing, hands_then, stage_before, torn_before}
use Rattle.batch_log.proofs.Moments.{in_both}
use Rattle.commit_journal.specs.declared.filling.Unfilled.{Unfilled}
use Rattle.commit_journal.specs.Filling.{AreUnfilled, IsUnfilled, LeavesUnfilled, all_filled, unfilled_in}
use Rattle.commit_journal.specs.Answering.{Fault}
use Rattle.commit_journal.specs.Handing.{Hands, HandsOpening, Write, filling_writes, opening_writes, slot_write}
use Rattle.commit_journal.specs.Moments.{FillsSlot, FillsThroughout, IsSameThroughout}
use Rattle.commit_journal.specs.Opening.{AreGated, LeavesSlot, OwnedLog, opening_verdict}
use Rattle.commit_journal.specs.Placed.{PlainPlaced}
use Rattle.commit_journal.proofs.OpenedMoments.{LeavesThroughout, same_bytes, shown_in_reading}
use Rattle.commit_journal.proofs.SlotsUnfilled.{left_is_left, same_slice, unfilled_from, written_behind}

-- ---- one slot after another

-- the others stand as they did once an earlier one was written
unfilled_stay : (slots : List Unfilled) (from at : ℕ) (veil x : List ℕ) → length veil ≡ 32 → at + 33 ≤ from → at + 32 ≤ length x → AreUnfilled from slots x →
    AreUnfilled from slots (written_at at veil x)
unfilled_stay [] from at veil x size ahead inside are = tt
unfilled_stay (slot ∷ slots) from at veil x size ahead inside are =
    let first = are.0 in
    let within = are.1.gated.inside in
    let long : length (written_at at veil x) ≡ length x = grind (arith, places) in
    let before : at + length veil ≤ slot.place - 13 - 1 = omega (arith, ahead, first, size) in
    let gate : slice_index (written_at at veil x) (slot.place - 13 - 1) ≡ slice_index x (slot.place - 13 - 1) = grind (arith, places) in
    let same : slice_range (written_at at veil x) slot.place (slot.place + 32) ≡ slice_range x slot.place (slot.place + 32) =
    same_slice (at + 32) slot.place (written_at at veil x) x (omega (arith, ahead, first)) (written_behind at veil x size inside)
    in (
      first,
      (let is : IsUnfilled slot (written_at at veil x) = record {
        gated = record { opened = gate ∙ are.1.gated.opened; inside = omega (arith, long, within) };
        size = are.1.size;
        differs = λ filled. are.1.differs (sym same ∙ filled);
      } in is),
      unfilled_stay slots (slot.place + 97) at veil x size (omega (arith, ahead, first)) inside are.2,
    )

-- the next one
pub unfilled_here : (slots : List Unfilled) (i : ℕ) (d : Unfilled) (x : List ℕ) → i < length slots → AreUnfilled header_len (drop i slots) x → IsUnfilled (get_or slots i d) x
unfilled_here slots i d x within are = (subst (λ (rest : List Unfilled). AreUnfilled header_len rest x) (drop-cons slots i d within) are).1

-- and those behind it, once it is filled
pub unfilled_next : (slots : List Unfilled) (i : ℕ) (d : Unfilled) (x y : List ℕ) → let slot = get_or slots i d in i < length slots →
    y ≡ written_at slot.place slot.veil x → AreUnfilled header_len (drop i slots) x → AreUnfilled header_len (drop (i + 1) slots) y
unfilled_next slots i d x y within y_is are =
    let slot = get_or slots i d in
    let next : suc i ≡ i + 1 = omega arith in
    let all = subst (λ (rest : List Unfilled). AreUnfilled header_len rest x) (drop-cons slots i d within ∙ ap (λ n. slot ∷ drop n slots) next) are in
    let first = all.0 in
    let inside = all.1.gated.inside in
    let stay = unfilled_stay (drop (i + 1) slots) (slot.place + 97) slot.place slot.veil x all.1.size (omega arith) (omega (arith, first, inside)) all.2 in
    subst (λ r. AreUnfilled header_len (drop (i + 1) slots) r) (sym y_is)
    (unfilled_from (drop (i + 1) slots) header_len (slot.place + 97) (written_at slot.place slot.veil x) (omega (arith, first)) stay)

-- one slot more
pub filled_more : (slots : List Unfilled) (i : ℕ) (d : Unfilled) (x y : List ℕ) → let slot = get_or slots i d in i < length slots →
    y ≡ written_at slot.place slot.veil x → all_filled (drop i slots) x ≡ all_filled (drop (i + 1) slots) y
unfolding all_filled
filled_more slots i d x y within y_is =
    let next : suc i ≡ i + 1 = omega arith in
    ap (λ (rest : List Unfilled). all_filled rest x) (drop-cons slots i d within)
    ∙ ap (λ r. all_filled (drop (suc i) slots) r) (sym y_is)
    ∙ ap (λ n. all_filled (drop n slots) y) next

-- no slot more
pub filled_all : (slots : List Unfilled) (i : ℕ) (x : List ℕ) → length slots ≤ i → all_filled (drop i slots) x ≡ x
unfolding all_filled
filled_all slots i x short =
    let none : drop i slots ≡ [] = drop_of_length-le slots short in
    ap (λ (rest : List Unfilled). all_filled rest x) none

-- the next slot met the fault
pub left_here : (slots : List Unfilled) (i : ℕ) (d : Unfilled) (x z : List ℕ) → let slot = get_or slots i d in i < length slots →
    LeavesSlot slot.place slot.veil x z → LeavesUnfilled (drop i slots) x z
unfolding LeavesUnfilled
left_here slots i d x z within leaves = subst (λ (rest : List Unfilled). LeavesUnfilled rest x z) (sym (drop-cons slots i d within)) (inl leaves)

-- or one behind it
pub left_later : (slots : List Unfilled) (i : ℕ) (d : Unfilled) (x y z : List ℕ) → let slot = get_or slots i d in i < length slots →
    y ≡ written_at slot.place slot.veil x → LeavesUnfilled (drop (i + 1) slots) y z → LeavesUnfilled (drop i slots) x z
unfolding LeavesUnfilled
left_later slots i d x y z within y_is leaves =
    let next : i + 1 ≡ suc i = omega arith in
    let rest = subst (λ n. LeavesUnfilled (drop n slots) y z) next leaves in
    subst (λ (us : List Unfilled). LeavesUnfilled us x z) (sym (drop-cons slots i d within))
    (inr (subst (λ r. LeavesUnfilled (drop (suc i) slots) r z) y_is rest))

-- ---- at each moment

-- nothing is written yet
none_left : (slots : List Unfilled) (x : List ℕ) → LeavesUnfilled slots x x
unfolding LeavesUnfilled
none_left [] x = refl
none_left (slot ∷ slots) x = inl (inl refl)

-- at the start
pub fills_start : (slots : List Unfilled) (was : Option (List ℕ)) (left : List ℕ → Type 0) (since : List ℕ → List ℕ → Type 0) →
    IsDurable left was → ((s c : List ℕ) → since s c → (was ≡ Some s) × left c) → FillsThroughout slots was since
fills_start slots was left since durable only x x_is s c at =
    let is = same_bytes was left x since durable x_is only s c at in
    (subst (λ r. LeavesUnfilled slots x r) (sym is.0) (none_left slots x), subst (λ r. LeavesUnfilled slots x r) (sym is.1) (none_left slots x))

-- the moments of one slot behind those of the slots before it
pub fills_one : (slots : List Unfilled) (i : ℕ) (d : Unfilled) (x y : List ℕ) (first start : ℕ) (past since : ℕ → List ℕ → List ℕ → Type 0) →
    first ≤ start → GoesOn start past since → i < length slots → ((z : List ℕ) → LeavesUnfilled (drop i slots) y z → LeavesUnfilled slots x z) →
    Throughout (λ s c. LeavesUnfilled slots x s × LeavesUnfilled slots x c) (past first) → Throughout (FillsSlot (get_or slots i d) y) (since start) →
    Throughout (λ s c. LeavesUnfilled slots x s × LeavesUnfilled slots x c) (since first)
fills_one slots i d x y first start past since order goes within front before fills =
    in_both first start past since (λ s c. LeavesUnfilled slots x s × LeavesUnfilled slots x c) order goes before
    (λ s c at. let both = fills s c at in (front s (left_here slots i d y s within both.0), front c (left_here slots i d y c within both.1)))

-- the same said of the log whose slots these are
pub fills_log : (owner : List ℕ) (placed : List PlainPlaced) (slots : List Unfilled) (was : Option (List ℕ)) (since : List ℕ → List ℕ → Type 0) →
    WhereTold was (λ x. slots ≡ unfilled_in owner placed x) → WhereTold was (AreGated header_len placed) → FillsThroughout slots was since →
    LeavesThroughout owner placed was since
fills_log owner placed slots was since are gated fills x x_is s c at =
    let both = fills x x_is s c at in (
      left_is_left owner placed x s (gated x x_is) (subst (λ (us : List Unfilled). LeavesUnfilled us x s) (are x x_is) both.0),
      left_is_left owner placed x c (gated x x_is) (subst (λ (us : List Unfilled). LeavesUnfilled us x c) (are x x_is) both.1),
    )

-- ---- the writes

-- the next slot is written
pub stage_here : (slots : List Unfilled) (i : ℕ) (d : Unfilled) (y z : List ℕ) → i < length slots → IsStage (slot_write (get_or slots i d) ∷ []) y z →
    IsStage (map slot_write (drop i slots)) y z
stage_here slots i d y z within is =
    subst (λ (rest : List Unfilled). IsStage (map slot_write rest) y z) (sym (drop-cons slots i d within))
    (stage_before (slot_write (get_or slots i d) ∷ []) (map slot_write (drop (suc i) slots)) y z is)

pub torn_here : (slots : List Unfilled) (i : ℕ) (d : Unfilled) (y z : List ℕ) → i < length slots → IsTornStage (slot_write (get_or slots i d) ∷ []) y z →
    IsTornStage (map slot_write (drop i slots)) y z
torn_here slots i d y z within torn =
    subst (λ (rest : List Unfilled). IsTornStage (map slot_write rest) y z) (sym (drop-cons slots i d within))
    (torn_before (slot_write (get_or slots i d) ∷ []) (map slot_write (drop (suc i) slots)) y z torn)

-- or one behind it
pub stage_later : (slots : List Unfilled) (i : ℕ) (d : Unfilled) (x y z : List ℕ) → let slot = get_or slots i d in i < length slots →
    y ≡ written_at slot.place slot.veil x → IsStage (map slot_write (drop (i + 1) slots)) y z → IsStage (map slot_write (drop i slots)) x z
unfolding IsStage
stage_later slots i d x y z within y_is is =
    let next : i + 1 ≡ suc i = omega arith in
    let rest = subst (λ n. IsStage (map slot_write (drop n slots)) y z) next is in
    subst (λ (us : List Unfilled). IsStage (map slot_write us) x z) (sym (drop-cons slots i d within))
    (inr (subst (λ r. IsStage (map slot_write (drop (suc i) slots)) r z) y_is rest))

pub torn_later : (slots : List Unfilled) (i : ℕ) (d : Unfilled) (x y z : List ℕ) → let slot = get_or slots i d in i < length slots →
    y ≡ written_at slot.place slot.veil x → IsTornStage (map slot_write (drop (i + 1) slots)) y z → IsTornStage (map slot_write (drop i slots)) x z
unfolding IsTornStage
torn_later slots i d x y z within y_is torn =
    let next : i + 1 ≡ suc i = omega arith in
    let rest = subst (λ n. IsTornStage (map slot_write (drop n slots)) y z) next torn in
    subst (λ (us : List Unfilled). IsTornStage (map slot_write us) x z) (sym (drop-cons slots i d within))
    (inr (subst (λ r. IsTornStage (map slot_write (drop (suc i) slots)) r z) y_is rest))

-- the slots of the log are those of the writes
pub fills_writes : (limit : ℕ) (owner x : List ℕ) (log : OwnedLog) (slots : List Unfilled) → opening_verdict limit owner x ≡ Ok log →
    slots ≡ unfilled_in owner log.placed x → map slot_write slots ≡ opening_writes limit owner x
unfolding opening_writes filling_writes
fills_writes limit owner x log slots verdict are =
    ap (λ (us : List Unfilled). map slot_write us) are ∙ ap (λ (r : Result OwnedLog Fault). filling_writes owner x r) (sym verdict)

-- what a store's opening hands the disk, once it was synced and read
pub hands_opening : {D : Type 0} (disks : disk.Ghosts D)
    (a b e f : D) (limit : ℕ) (owner : List ℕ) (log : OwnedLog) (slots : List Unfilled) (fails failed : Type 0)
    → ((s c : List ℕ) → disks.since a (disks.moment a) s c → (disks.shown a ≡ Some s) × disks.may_leave a c) → disks.shown b ≡ disks.shown a →
    ((c : List ℕ) → disks.may_leave b c → disks.may_leave a c) →
    Elapses (disks.moment a) (disks.moment b) (disks.since a) (disks.since b) (disks.shown b) (disks.may_leave b) →
    IsSameThroughout disks b e → disks.shown e ≡ disks.shown b → GoesOn (disks.moment e) (disks.since e) (disks.since f) →
    WhereTold (disks.shown b) (λ x. opening_verdict limit owner x ≡ Ok log) → WhereTold (disks.shown b) (λ x. slots ≡ unfilled_in owner log.placed x) → (fails → failed) →
    Hands (map slot_write slots) fails (disks.shown e) (disks.shown f) (disks.since f (disks.moment e)) →
    HandsOpening limit owner failed (disks.shown a) (disks.shown f) (disks.since f (disks.moment a))
unfolding all_written
hands_opening disks a b e f limit owner log slots fails failed only same no_more time moments read goes verdict are fault hands x x_is =
    let first = time.later in
    let second = moments.later in
    let writes = map slot_write slots in
    let still : disks.shown b ≡ Some x = same ∙ x_is in
    let opened : Hands writes failed (disks.shown a) (disks.shown f) (disks.since f (disks.moment a)) =
    hands_then [] writes ⊥ failed (disks.shown a) (disks.shown e) (disks.shown f) (disks.moment a) (disks.moment e) (disks.since e) (disks.since f) (λ never. never)
    (omega (arith, first, second)) goes
    (λ y y_is. read ∙ (same ∙ y_is))
    (hands_nothing [] ⊥ (disks.shown a) (disks.shown e) (disks.since e (disks.moment a)) (shown_in_reading disks a b e only same no_more time moments))
    (hands_failing writes fails failed (disks.shown e) (disks.shown f) (disks.since f (disks.moment e)) fault hands) in
    subst (λ (ws : List Write). Hands ws failed (disks.shown a) (disks.shown f) (disks.since f (disks.moment a))) (fills_writes limit owner x log slots (verdict x still) (are x still)) opened

-- an opening that fails where another does
pub opening_failing : (limit : ℕ) (owner : List ℕ) (fails failed : Type 0) (was shown : Option (List ℕ)) (since : List ℕ → List ℕ → Type 0) → (fails → failed) →
    HandsOpening limit owner fails was shown since → HandsOpening limit owner failed was shown since
opening_failing limit owner fails failed was shown since fault hands x x_is =
    hands_failing (opening_writes limit owner x) fails failed was shown since fault (hands x x_is)
