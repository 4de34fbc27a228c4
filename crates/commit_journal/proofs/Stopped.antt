-- Bytes that stand for batches are read as those that are published, if the last slot is honest.
use Rattle.std.proofs.Common.{◌≡◌, ◌≢◌, ◌⊎◌, ⊎_elim, ℕ, ◌+◌, ◌-◌, ◌<◌, ◌≤◌, ◌^◌, true, false, cond, eqb, eq-eqb, List, [], ◌∷◌, ◌++◌, length, take, drop, None, Ok, append_assoc, arith, refl, sym, ap, ◌∙◌, length-append}
use Rattle.std.specs.List.{sum_by}
use Rattle.std.specs.Prelude.{nat_le, slice_range, slice_index}
use Rattle.std.specs.Str.{bytes_eq}
use Rattle.std.proofs.Math.Seq.{drop-append_seam}
use Rattle.std.proofs.lemmas.Bool.Decides.{nat_tests}
use Rattle.std.proofs.lemmas.List.Sums.{sum_by-cons}
use Rattle.std.proofs.lemmas.Slice.Eq.{bytes_eq-Decides}
use Rattle.cry_base.specs.Layout.{batch_len, header_len}
use Rattle.cry_base.specs.Limits.{most_store_bytes}
use Rattle.hmac_seal.specs.Hmac.{hmac}
use Rattle.hmac_seal.proofs.HmacLemmas.{length-hmac}
use Rattle.chacha_seal.specs.Sealing.{check_of, owner_tag_key}
use Rattle.chacha_seal.proofs.SealingLemmas.{length-masked, length-veil_of, length-check_of}
use Rattle.record_format.specs.Spelling.{spell_payload}
use Rattle.commit_journal.specs.declared.past.Past.{Past}
use Rattle.commit_journal.specs.Answering.{and_then}
use Rattle.commit_journal.specs.Image.{Batch, batch_head, batch_veil, masked_payload, batch_check, owner_tag, spell_batch, spell_header}
use Rattle.commit_journal.specs.Laws.{batch_of, batches_from, placed_from, AreBodies}
use Rattle.commit_journal.specs.Log.{slot_in, payload_in, check_in, tag_in, gate_in, is_batch, tag_due, published_turn, tagged_turn, head_of, head_at, turn_at, before, log_at, start_of, start_at, log_verdict}
use Rattle.commit_journal.specs.Placed.{PlainBody, Commands, NewEpoch, PlainPlaced}
use Rattle.commit_journal.specs.Publishing.{IsPublished, is_last_published, without_last, published_of, IsHonest}
use Rattle.commit_journal.specs.Standing.{spell_slotted, slotted_image, StandsFor}
use Rattle.commit_journal.proofs.Judged.{start_long, head_tested, turn_is}
use Rattle.commit_journal.proofs.Pieces.{piece, item, front, length-head_bytes, head_is}
use Rattle.commit_journal.proofs.Spelled.{joined, Parts, next_batch, next_head, next_past, next_turn, MayFollow, turn_spelled, first_past, magic}
use Rattle.commit_journal.proofs.Standings.{length-batch, length-owner_tag, length-spell_header}
use Rattle.commit_journal.proofs.Walked.{walks_on, walk_ends, walk_closed}

-- ---- a batch with any slot, in its parts

abbrev pub slotted_bytes : List ℕ → List ℕ → List ℕ → Batch → ℕ → List ℕ
slotted_bytes owner previous slot b gate = joined (batch_head b) slot (masked_payload owner b) (batch_check owner b) (owner_tag owner previous b) gate

pub slotted_parts : (owner previous slot : List ℕ) (b : Batch) (gate : ℕ) → length slot ≡ 32 →
    Parts (batch_head b) slot (masked_payload owner b) (batch_check owner b) (owner_tag owner previous b) gate (length b.payload) (slotted_bytes owner previous slot b gate)
slotted_parts owner previous slot b gate slot_size =
    let head = batch_head b in
    let payload = masked_payload owner b in
    let check = batch_check owner b in
    let tag = owner_tag owner previous b in
    let size = length b.payload in
    let whole = slotted_bytes owner previous slot b gate in
    let one = length-append head slot in
    let two = length-append (head ++ slot) payload in
    let three = length-append ((head ++ slot) ++ payload) check in
    let four = length-append (((head ++ slot) ++ payload) ++ check) tag in
    let h = length-head_bytes b.type_of b.number b.epoch (length b.payload) in
    let p : length payload ≡ size = length-masked (batch_veil owner b) b.payload in
    let c : length check ≡ 32 = length-hmac _ _ in
    let t : length tag ≡ 32 = length-owner_tag owner previous b in
    record {
      head_is = front head (slot ++ (payload ++ (check ++ (tag ++ gate ∷ [])))) whole 13 refl h;
      slot_is = piece head slot (payload ++ (check ++ (tag ++ gate ∷ []))) whole 13 45 refl h (omega arith);
      payload_is = piece (head ++ slot) payload (check ++ (tag ++ gate ∷ [])) whole 45 (45 + size) (simp append_assoc) (omega arith) (omega arith);
      check_is = piece ((head ++ slot) ++ payload) check (tag ++ gate ∷ []) whole (45 + size) (77 + size) (simp append_assoc) (omega arith) (omega arith);
      tag_is = piece (((head ++ slot) ++ payload) ++ check) tag (gate ∷ []) whole (77 + size) (109 + size) (simp append_assoc) (omega arith) (omega arith);
      gate_is = item ((((head ++ slot) ++ payload) ++ check) ++ tag) [] whole gate (109 + size) (simp append_assoc) (omega arith);
      long = omega (
        arith,
        length-append head (slot ++ (payload ++ (check ++ (tag ++ gate ∷ [])))),
        length-append slot (payload ++ (check ++ (tag ++ gate ∷ []))),
        length-append payload (check ++ (tag ++ gate ∷ [])),
        length-append check (tag ++ gate ∷ []),
        length-append tag (gate ∷ []),
      );
    }

pub with_gate : (owner previous slot : List ℕ) (b : Batch) (gate : ℕ) (more : List ℕ) →
    spell_batch owner previous slot b ++ gate ∷ more ≡ slotted_bytes owner previous slot b gate ++ more
unfolding spell_batch
with_gate owner previous slot b gate more = simp append_assoc

-- ---- an unpublished batch ends the log

pub next_fits : (past : Past) (body : PlainBody) (left : ℕ) → MayFollow past.epoch.0 body → batch_len + length (next_batch past body).payload ≤ left →
    past.at + (batch_len + length (next_batch past body).payload) ≤ most_store_bytes → is_batch past (next_head past body) left ≡ true
unfolding is_batch
next_fits past (Commands payload) left may inside small =
    let one : nat_le (batch_len + length (spell_payload payload)) left ≡ true = grind (arith, nat_tests) in
    let two : nat_le (past.at + (batch_len + length (spell_payload payload))) most_store_bytes ≡ true = grind (arith, nat_tests) in
    let three : eqb (past.number + 1) (past.number + 1) ≡ true = eq-eqb _ _ refl in
    let four : nat_le 1 past.epoch.0 ≡ true = let begun = may.0 in grind (arith, nat_tests) in
    let five : eqb past.epoch.0 past.epoch.0 ≡ true = eq-eqb _ _ refl in
    rw (one, two, three, four, five) refl
next_fits past NewEpoch left may inside small =
    let one : nat_le batch_len left ≡ true = grind (arith, nat_tests) in
    let two : nat_le (past.at + batch_len) most_store_bytes ≡ true = grind (arith, nat_tests) in
    let three : eqb (past.number + 1) (past.number + 1) ≡ true = eq-eqb _ _ refl in
    let five : eqb (past.epoch.0 + 1) (past.epoch.0 + 1) ≡ true = eq-eqb _ _ refl in
    rw (one, two, three, five) refl

not_same : (xs ys : List ℕ) → (xs ≡ ys → ⊥) → bytes_eq xs ys ≡ false
not_same xs ys differ =
    (elim (bytes_eq xs ys) as (λ test. bytes_eq xs ys ≡ test → test ≡ false) [
      | true ↦ λ is. absurd (differ ((bytes_eq-Decides xs ys).0 is))
      | false ↦ λ is. refl
    ]) refl

judged_unpublished : (owner : List ℕ) (past : Past) (body : PlainBody) (slot : List ℕ) (gate : ℕ) → length slot ≡ 32 →
    (IsPublished owner slot (next_batch past body) → ⊥) → gate ≢ 1 →
    tagged_turn owner past (next_head past body) (slotted_bytes owner past.tag slot (next_batch past body) gate) ≡ Ok None
unfolding tagged_turn published_turn tag_due owner_tag
judged_unpublished owner past body slot gate slot_size differ shut =
    let b = next_batch past body in
    let size = length b.payload in
    let whole = slotted_bytes owner past.tag slot b gate in
    let parts = slotted_parts owner past.tag slot b gate slot_size in
    let due : hmac (owner_tag_key owner) (past.tag ++ (take 13 whole ++ (payload_in size whole ++ check_in size whole))) ≡ tag_in size whole =
    ap (λ h. hmac (owner_tag_key owner) (past.tag ++ (h ++ (payload_in size whole ++ check_in size whole)))) parts.head_is
    ∙ ap (λ m. hmac (owner_tag_key owner) (past.tag ++ (batch_head b ++ (m ++ check_in size whole)))) parts.payload_is
    ∙ ap (λ k. hmac (owner_tag_key owner) (past.tag ++ (batch_head b ++ (masked_payload owner b ++ k)))) parts.check_is
    ∙ sym parts.tag_is
    in
    let tagged : bytes_eq (hmac (owner_tag_key owner) (past.tag ++ (take 13 whole ++ (payload_in size whole ++ check_in size whole)))) (tag_in size whole) ≡ true =
    (bytes_eq-Decides _ _).1 due
    in
    let made : bytes_eq (hmac (slot_in whole) (payload_in size whole)) (check_in size whole) ≡ bytes_eq (hmac slot (masked_payload owner b)) (batch_check owner b) =
    ap (λ s. bytes_eq (hmac s (payload_in size whole)) (check_in size whole)) parts.slot_is
    ∙ ap (λ m. bytes_eq (hmac slot m) (check_in size whole)) parts.payload_is
    ∙ ap (λ k. bytes_eq (hmac slot (masked_payload owner b)) k) parts.check_is
    in
    let unpublished : bytes_eq (hmac (slot_in whole) (payload_in size whole)) (check_in size whole) ≡ false =
    made ∙ not_same (hmac slot (masked_payload owner b)) (batch_check owner b) differ
    in
    let g : gate_in size whole ≡ gate = parts.gate_is in
    let closed : eqb (gate_in size whole) 1 ≡ false = ap (λ x. eqb x 1) g ∙ (let test : eqb gate 1 ≡ false = grind (arith, nat_tests) in test) in
    rw (tagged, unpublished, closed) refl

abbrev pub Small : Past → PlainBody → Type 0
Small past body = (past.number + 1 < 2 ^ 32) × (past.epoch.0 + 1 < 2 ^ 32) × (past.at + (batch_len + length (next_batch past body).payload) ≤ most_store_bytes)

pub next_number : (past : Past) (body : PlainBody) → Small past body → (next_batch past body).number < 2 ^ 32
next_number past (Commands payload) small = small.0
next_number past NewEpoch small = small.0

pub next_epoch : (past : Past) (body : PlainBody) → Small past body → (next_batch past body).epoch < 2 ^ 32
next_epoch past (Commands payload) small = let s = small.1 in omega arith
next_epoch past NewEpoch small = small.1

turn_unpublished : (owner : List ℕ) (past : Past) (body : PlainBody) (slot : List ℕ) (gate : ℕ) (more : List ℕ) → length slot ≡ 32 → MayFollow past.epoch.0 body → Small past body →
    (IsPublished owner slot (next_batch past body) → ⊥) → gate ≢ 1 →
    turn_at owner past (spell_batch owner past.tag slot (next_batch past body) ++ gate ∷ more) ≡ Ok None
turn_unpublished owner past body slot gate more slot_size may small differ shut =
    let b = next_batch past body in
    let head = next_head past body in
    let size = length b.payload in
    let whole = slotted_bytes owner past.tag slot b gate in
    let rest = spell_batch owner past.tag slot b ++ gate ∷ more in
    let parts = slotted_parts owner past.tag slot b gate slot_size in
    let is : rest ≡ whole ++ more = with_gate owner past.tag slot b gate more in
    let long : length rest ≡ batch_len + size + length more = omega (arith, ap length is, length-append whole more, parts.long) in
    let first : take 13 rest ≡ batch_head b =
    front (batch_head b) _ rest 13 (is ∙ append_assoc (batch_head b) _ more) (length-head_bytes b.type_of b.number b.epoch size)
    in
    let spelled : head ≡ head_of (batch_head b) =
    sym (head_is b.type_of b.number b.epoch size (next_number past body small) (next_epoch past body small) (let s = small.2 in omega arith))
    in
    let fits : is_batch past head (length rest) ≡ true = next_fits past body (length rest) may (omega arith) small.2 in
    let stands : head_at past rest ≡ Ok head = head_tested past rest (batch_head b) head (length rest) true (sym first) spelled refl (sym fits) in
    let all : whole ≡ take (batch_len + size) rest = sym (front whole more rest (batch_len + size) is parts.long) in
    turn_is owner past rest head whole stands all ∙ judged_unpublished owner past body slot gate slot_size differ shut

-- ---- the walk

pub same_heads : (x y : ℕ) (xs ys : List ℕ) → x ∷ xs ≡ y ∷ ys → (x ≡ y) × (xs ≡ ys)
same_heads x y xs ys is = (cc, cc)

pub first_may : (epoch : ℕ) (body : PlainBody) (bodies : List PlainBody) → AreBodies epoch (body ∷ bodies) → MayFollow epoch body
first_may epoch (Commands payload) bodies are = (are.0, are.1)
first_may epoch NewEpoch bodies are = tt

pub others_may : (epoch number : ℕ) (body : PlainBody) (bodies : List PlainBody) → AreBodies epoch (body ∷ bodies) → AreBodies (batch_of number epoch body).epoch bodies
others_may epoch number (Commands payload) bodies are = are.2
others_may epoch number NewEpoch bodies are = are

pub number_rises : (number epoch : ℕ) (body : PlainBody) → (batch_of number epoch body).number ≡ number + 1
number_rises number epoch (Commands payload) = refl
number_rises number epoch NewEpoch = refl

pub epoch_bound : (number epoch : ℕ) (body : PlainBody) → (batch_of number epoch body).epoch ≤ epoch + 1
epoch_bound number epoch (Commands payload) = omega arith
epoch_bound number epoch NewEpoch = omega arith

-- a batch that is published, and what follows it
walks_over : (owner : List ℕ) (past : Past) (body : PlainBody) (rest : List ℕ) (gate : ℕ) (more : List ℕ) → MayFollow past.epoch.0 body → Small past body →
    past.gate ∷ rest ≡ 1 ∷ (spell_batch owner past.tag (batch_veil owner (next_batch past body)) (next_batch past body) ++ gate ∷ more) →
    log_at owner past 0 rest ≡ before ((next_turn owner past body gate).placed ∷ []) (log_at owner (next_past owner past body gate) 0 more)
walks_over owner past body rest gate more may small is =
    let b = next_batch past body in
    let bytes = spell_batch owner past.tag (batch_veil owner b) b in
    let now = next_past owner past body gate in
    let heads = same_heads past.gate 1 rest (bytes ++ gate ∷ more) is in
    let open_gate : eqb past.gate 1 ≡ true = eq-eqb past.gate 1 heads.0 in
    let turn = turn_spelled owner past body gate more may small.0 small.1 small.2 in
    let long = length-batch owner past.tag (batch_veil owner b) b (length-veil_of owner b.epoch b.number) in
    let far : now.at - past.at ≡ length (bytes ++ gate ∷ []) = omega (arith, long, length-append bytes (gate ∷ [])) in
    let there : drop (now.at - past.at) rest ≡ more =
    ap (λ n. drop n rest) far
    ∙ ap (λ r. drop (length (bytes ++ gate ∷ [])) r) (heads.1 ∙ sym (append_assoc bytes (gate ∷ []) more))
    ∙ drop-append_seam (bytes ++ gate ∷ []) more
    in
    walks_on owner past rest (next_turn owner past body gate) open_gate (ap (turn_at owner past) heads.1 ∙ turn) (omega arith)
    ∙ ap (λ r. before ((next_turn owner past body gate).placed ∷ []) (log_at owner now 0 r)) there

pub closed_gate : (gate : ℕ) → gate ≢ 1 → eqb gate 1 ≡ false
closed_gate gate shut = grind (arith, nat_tests)

-- the last batch
walk_last : (owner : List ℕ) (past : Past) (body : PlainBody) (slot rest : List ℕ) (gate : ℕ) (behind : List ℕ) → length slot ≡ 32 → MayFollow past.epoch.0 body → Small past body → gate ≢ 1 →
    (slot ≡ batch_veil owner (next_batch past body)) ⊎ (IsPublished owner slot (next_batch past body) → ⊥) →
    past.gate ∷ rest ≡ 1 ∷ (spell_batch owner past.tag slot (next_batch past body) ++ gate ∷ behind) →
    log_at owner past 0 rest ≡ Ok (placed_from past.at past.number past.epoch.0 (published_of owner slot (next_batch past body ∷ []) (body ∷ [])))
unfolding published_of is_last_published without_last before
walk_last owner past body slot rest gate behind slot_size may small shut honest is =
    let b = next_batch past body in
    ⊎_elim
    (λ (same : slot ≡ batch_veil owner b).
    let test : bytes_eq (hmac slot (masked_payload owner b)) (batch_check owner b) ≡ true =
    (bytes_eq-Decides _ _).1 (ap (λ s. hmac s (masked_payload owner b)) same)
    in
    let bytes = is ∙ ap (λ s. 1 ∷ (spell_batch owner past.tag s b ++ gate ∷ behind)) same in
    walks_over owner past body rest gate behind may small bytes
    ∙ ap (before ((next_turn owner past body gate).placed ∷ [])) (walk_closed owner (next_past owner past body gate) behind (closed_gate gate shut))
    ∙ rw test refl)
    (λ (differ : IsPublished owner slot b → ⊥).
    let test : bytes_eq (hmac slot (masked_payload owner b)) (batch_check owner b) ≡ false = not_same _ _ differ in
    let heads = same_heads past.gate 1 rest (spell_batch owner past.tag slot b ++ gate ∷ behind) is in
    walk_ends owner past rest (eq-eqb past.gate 1 heads.0)
    (ap (turn_at owner past) heads.1 ∙ turn_unpublished owner past body slot gate behind slot_size may small differ shut)
    ∙ rw test refl)
    honest

-- the first one of several is published
published_first : (owner slot : List ℕ) (b next : Batch) (bs : List Batch) (body other : PlainBody) (bodies : List PlainBody) →
    published_of owner slot (b ∷ next ∷ bs) (body ∷ other ∷ bodies) ≡ body ∷ published_of owner slot (next ∷ bs) (other ∷ bodies)
unfolding published_of is_last_published without_last
published_first owner slot b next bs body other bodies =
    elim (is_last_published owner slot (next ∷ bs)) as (λ test. cond test (body ∷ other ∷ bodies) (body ∷ without_last (other ∷ bodies)) ≡ body ∷ cond test (other ∷ bodies) (without_last (other ∷ bodies))) [
      | true ↦ refl
      | false ↦ refl
    ]

published_none : (owner slot : List ℕ) → published_of {X = PlainBody} owner slot [] [] ≡ []
unfolding published_of is_last_published
published_none owner slot = refl

pub before_ok : (first : PlainPlaced) (others : List PlainPlaced) → before (first ∷ []) (Ok others) ≡ Ok (first ∷ others)
unfolding before
before_ok first others = refl

pub begins_slotted : (owner previous slot : List ℕ) (b : Batch) (bs : List Batch) → (others : List ℕ) × (spell_slotted owner previous slot (b ∷ bs) ≡ 1 ∷ others)
unfolding spell_slotted
begins_slotted owner previous slot b [] = (spell_batch owner previous slot b, refl)
begins_slotted owner previous slot b (next ∷ bs) = (spell_batch owner previous (batch_veil owner b) b ++ spell_slotted owner (owner_tag owner previous b) slot (next ∷ bs), refl)

abbrev pub slotted_rest : List ℕ → List ℕ → Past → List PlainBody → List ℕ
slotted_rest owner slot past bodies = spell_slotted owner past.tag slot (batches_from past.number past.epoch.0 bodies)

walk_slotted : (owner slot : List ℕ) (bodies : List PlainBody) (past : Past) (rest : List ℕ) (gate : ℕ) (behind : List ℕ) → length slot ≡ 32 →
    AreBodies past.epoch.0 bodies → past.number ≤ past.at → past.epoch.0 ≤ past.number →
    past.at + sum_by (λ (b : Batch). batch_len + length b.payload) (batches_from past.number past.epoch.0 bodies) ≤ most_store_bytes → gate ≢ 1 →
    IsHonest owner slot (batches_from past.number past.epoch.0 bodies) →
    past.gate ∷ rest ≡ slotted_rest owner slot past bodies ++ gate ∷ behind →
    log_at owner past 0 rest ≡ Ok (placed_from past.at past.number past.epoch.0 (published_of owner slot (batches_from past.number past.epoch.0 bodies) bodies))
unfolding spell_slotted
walk_slotted owner slot [] past rest gate behind slot_size are number_small epoch_small fits shut honest is =
    let heads = same_heads past.gate gate rest behind is in
    walk_closed owner past rest (ap (λ g. eqb g 1) heads.0 ∙ closed_gate gate shut)
    ∙ ap (λ bodies. Ok (placed_from past.at past.number past.epoch.0 bodies)) (sym (published_none owner slot))
walk_slotted owner slot (body ∷ []) past rest gate behind slot_size are number_small epoch_small fits shut honest is =
    let sum = sum_by-cons (λ (b : Batch). batch_len + length b.payload) (next_batch past body) [] in
    walk_last owner past body slot rest gate behind slot_size (first_may past.epoch.0 body [] are) (omega arith, omega arith, omega arith) shut honest is
walk_slotted owner slot (body ∷ other ∷ bodies) past rest gate behind slot_size are number_small epoch_small fits shut honest is =
    let b = next_batch past body in
    let bytes = spell_batch owner past.tag (batch_veil owner b) b in
    let tag = owner_tag owner past.tag b in
    let next = batch_of b.number b.epoch other in
    let bs = batches_from next.number next.epoch bodies in
    let others = spell_slotted owner tag slot (next ∷ bs) in
    let starts = begins_slotted owner tag slot next bs in
    let more = starts.0 ++ gate ∷ behind in
    let now = next_past owner past body 1 in
    let sum = sum_by-cons (λ (b : Batch). batch_len + length b.payload) b (next ∷ bs) in
    let n = number_rises past.number past.epoch.0 body in
    let e = epoch_bound past.number past.epoch.0 body in
    let whole : past.gate ∷ rest ≡ 1 ∷ (bytes ++ 1 ∷ more) =
    is ∙ ap (λ r. 1 ∷ r) (append_assoc bytes others (gate ∷ behind)) ∙ ap (λ r. 1 ∷ (bytes ++ (r ++ gate ∷ behind))) starts.1
    in
    let onward = walk_slotted owner slot (other ∷ bodies) now more gate behind slot_size (others_may past.epoch.0 past.number body (other ∷ bodies) are)
    (omega arith) (omega arith) (omega arith) shut honest (ap (λ r. r ++ gate ∷ behind) (sym starts.1))
    in
    walks_over owner past body rest 1 more (first_may past.epoch.0 body (other ∷ bodies) are) (omega arith, omega arith, omega arith) whole
    ∙ ap (before ((next_turn owner past body 1).placed ∷ [])) onward
    ∙ before_ok (next_turn owner past body 1).placed _
    ∙ ap (λ bodies. Ok (placed_from past.at past.number past.epoch.0 bodies)) (sym (published_first owner slot b next bs body other bodies))

-- ---- the whole image

start_is : (owner header : List ℕ) (gate : ℕ) → take 9 header ≡ magic → slice_range header 9 41 ≡ check_of owner → slice_index header 41 ≡ gate →
    start_of owner header ≡ Ok (first_past owner gate)
unfolding start_of
start_is owner header gate one two three =
    let a : bytes_eq (take 9 header) magic ≡ true = (bytes_eq-Decides (take 9 header) magic).1 one in
    let b : bytes_eq (slice_range header 9 41) (check_of owner) ≡ true = (bytes_eq-Decides (slice_range header 9 41) (check_of owner)).1 two in
    rw (a, b, two, three) refl

pub start_spelled : (owner : List ℕ) (gate : ℕ) → start_of owner (spell_header owner ++ gate ∷ []) ≡ Ok (first_past owner gate)
unfolding spell_header
start_spelled owner gate =
    let header = (magic ++ check_of owner) ++ gate ∷ [] in
    let long = length-check_of owner in
    start_is owner header gate
    (front magic (check_of owner ++ gate ∷ []) header 9 refl refl)
    (piece magic (check_of owner) (gate ∷ []) header 9 41 refl refl (omega arith))
    (item (magic ++ check_of owner) [] header gate 41 refl (omega (arith, length-append magic (check_of owner))))

pub begins : (owner previous slot : List ℕ) (bs : List Batch) (gate : ℕ) (behind : List ℕ) → (g : ℕ) × (more : List ℕ) × (spell_slotted owner previous slot bs ++ gate ∷ behind ≡ g ∷ more)
unfolding spell_slotted
begins owner previous slot [] gate behind = (gate, behind, refl)
begins owner previous slot (b ∷ bs) gate behind =
    let starts = begins_slotted owner previous slot b bs in (1, starts.0 ++ gate ∷ behind, ap (λ r. r ++ gate ∷ behind) starts.1)

pub verdict_standing : (owner : List ℕ) (bodies : List PlainBody) (bytes : List ℕ) (stands : StandsFor owner (batches_from 0 0 bodies) bytes) → AreBodies 0 bodies →
    header_len + sum_by (λ (b : Batch). batch_len + length b.payload) (batches_from 0 0 bodies) ≤ most_store_bytes → IsHonest owner stands.slot (batches_from 0 0 bodies) →
    log_verdict owner bytes ≡ Ok (placed_from header_len 0 0 (published_of owner stands.slot (batches_from 0 0 bodies) bodies))
unfolding slotted_image log_verdict and_then
verdict_standing owner bodies bytes stands are fits honest =
    let header = spell_header owner in
    let slotted = spell_slotted owner (check_of owner) stands.slot (batches_from 0 0 bodies) in
    let end = stands.gate ∷ stands.behind in
    let next = begins owner (check_of owner) stands.slot (batches_from 0 0 bodies) stands.gate stands.behind in
    let g = next.0 in
    let more = next.1 in
    let is : bytes ≡ (header ++ g ∷ []) ++ more =
    stands.bytes_are ∙ append_assoc header slotted end ∙ ap (λ r. header ++ r) next.2 ∙ sym (append_assoc header (g ∷ []) more)
    in
    let long : length (header ++ g ∷ []) ≡ header_len = omega (arith, length-append header (g ∷ []), length-spell_header owner) in
    let first : take header_len bytes ≡ header ++ g ∷ [] = front (header ++ g ∷ []) more bytes header_len is long in
    let rest : drop header_len bytes ≡ more =
    ap (λ n. drop n bytes) (sym long) ∙ ap (λ r. drop (length (header ++ g ∷ [])) r) is ∙ drop-append_seam (header ++ g ∷ []) more
    in
    let enough : header_len ≤ length bytes = omega (arith, ap length is, length-append (header ++ g ∷ []) more, long) in
    let start : start_at owner bytes ≡ Ok (first_past owner g) = start_long owner bytes enough ∙ ap (start_of owner) first ∙ start_spelled owner g in
    ap (λ p. and_then p (λ past. log_at owner past 0 (drop header_len bytes))) start
    ∙ ap (λ r. log_at owner (first_past owner g) 0 r) rest
    ∙ walk_slotted owner stands.slot bodies (first_past owner g) more stands.gate stands.behind stands.slot_size are (omega arith) (omega arith) fits stands.closed honest (sym next.2)
