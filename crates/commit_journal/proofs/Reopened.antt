-- Bytes that stand for batches are opened as a log of these very batches, behind whose end the next one follows.
use Rattle.std.proofs.Common.{◌≡◌, ◌≢◌, ℕ, ◌+◌, ◌-◌, ◌≤◌, true, cond, eqb, eq-eqb, List, [], ◌∷◌, ◌++◌, length, take, drop, Result, Ok, Err, append_assoc, arith, refl, sym, ap, ◌∙◌, length-append}
use Rattle.std.specs.Prelude.{nat_le}
use Rattle.std.specs.List.{sum_by}
use Rattle.std.specs.Str.{bytes_eq}
use Rattle.std.proofs.Math.Seq.{drop-append_seam}
use Rattle.std.proofs.lemmas.Bool.Decides.{nat_tests}
use Rattle.std.proofs.lemmas.List.Sums.{sum_by-cons}
use Rattle.std.proofs.lemmas.Slice.Eq.{bytes_eq-Decides}
use Rattle.cry_base.specs.Layout.{batch_len, header_len}
use Rattle.cry_base.specs.Limits.{most_store_bytes}
use Rattle.hmac_seal.specs.Hmac.{hmac}
use Rattle.chacha_seal.specs.Sealing.{check_of, masked, owner_tag_key}
use Rattle.chacha_seal.proofs.SealingLemmas.{masked-masked, length-veil_of}
use Rattle.commit_journal.specs.declared.past.Past.{Past}
use Rattle.commit_journal.specs.Answering.{Fault, Damaged, Tampered, and_then}
use Rattle.commit_journal.specs.Image.{Batch, batch_head, batch_veil, masked_payload, owner_tag, spell_batch, spell_header, image}
use Rattle.commit_journal.specs.Journals.{last_epoch}
use Rattle.commit_journal.specs.Laws.{batch_of, batches_from, placed_from, AreBodies}
use Rattle.commit_journal.specs.Log.{PlainTurn, payload_in, check_in, tag_in, is_batch, body_of, placed_body, turn_of, tag_due, head_of, head_at, start_of, start_at}
use Rattle.commit_journal.specs.Opening.{OwnedLog, owned_head, owned_turn, owned_at, owned_before, owned_log, opening_verdict}
use Rattle.commit_journal.specs.Placed.{PlainBody, PlainPlaced}
use Rattle.commit_journal.specs.Standing.{spell_slotted, slotted_image, tag_behind}
use Rattle.commit_journal.specs.WholeLogs.{whole_log, StandsWithin}
use Rattle.commit_journal.proofs.Judged.{start_long, head_tested}
use Rattle.commit_journal.proofs.OwnedLemmas.{owned_head_tested, owned_turn_is, owned_walks_on, owned_closed}
use Rattle.commit_journal.proofs.Pieces.{front, length-head_bytes, head_is}
use Rattle.commit_journal.proofs.Spelled.{next_batch, next_head, next_past, next_turn, next_body, MayFollow, first_past}
use Rattle.commit_journal.proofs.Standings.{length-batch, length-spell_header, length-image}
use Rattle.commit_journal.proofs.Stopped.{slotted_bytes, slotted_parts, with_gate, next_fits, Small, next_number, next_epoch, same_heads, first_may, others_may, number_rises, epoch_bound, closed_gate, begins_slotted, slotted_rest, start_spelled, begins}

-- ---- one turn

owned_as_spelled : (owner : List ℕ) (past : Past) (body : PlainBody) (slot : List ℕ) (gate : ℕ) → length slot ≡ 32 → MayFollow past.epoch.0 body →
    owned_turn owner past (next_head past body) (slotted_bytes owner past.tag slot (next_batch past body) gate) ≡ Ok (next_turn owner past body gate)
unfolding owned_turn and_then tag_due owner_tag
owned_as_spelled owner past body slot gate slot_size may =
    let b = next_batch past body in
    let head = next_head past body in
    let size = length b.payload in
    let whole = slotted_bytes owner past.tag slot b gate in
    let parts = slotted_parts owner past.tag slot b gate slot_size in
    let veil = batch_veil owner b in
    let due : hmac (owner_tag_key owner) (past.tag ++ (take 13 whole ++ (payload_in size whole ++ check_in size whole))) ≡ tag_in size whole =
    ap (λ h. hmac (owner_tag_key owner) (past.tag ++ (h ++ (payload_in size whole ++ check_in size whole)))) parts.head_is
    ∙ ap (λ m. hmac (owner_tag_key owner) (past.tag ++ (batch_head b ++ (m ++ check_in size whole)))) parts.payload_is
    ∙ ap (λ k. hmac (owner_tag_key owner) (past.tag ++ (batch_head b ++ (masked_payload owner b ++ k)))) parts.check_is
    ∙ sym parts.tag_is
    in
    let tagged : bytes_eq (hmac (owner_tag_key owner) (past.tag ++ (take 13 whole ++ (payload_in size whole ++ check_in size whole)))) (tag_in size whole) ≡ true =
    (bytes_eq-Decides _ _).1 due
    in
    let plain : masked veil (payload_in size whole) ≡ b.payload = ap (λ m. masked veil m) parts.payload_is ∙ masked-masked veil b.payload in
    let read : body_of head (masked veil (payload_in size whole)) ≡ Ok body = ap (body_of head) plain ∙ next_body past body may in
    let turn : PlainBody → Result PlainTurn Fault = λ x. Ok (turn_of past head whole x) in
    ap (λ t. cond t (and_then (placed_body past (body_of head (masked veil (payload_in size whole)))) turn) (Err (Tampered head.number (past.at + 77 + head.size)))) tagged
    ∙ ap (λ r. and_then (placed_body past r) turn) read
    ∙ ap (λ t. Ok (record (turn_of past head whole body) { past = record (turn_of past head whole body).past { tag = t } })) parts.tag_is
    ∙ ap (λ g. Ok (record (turn_of past head whole body) { past = record (turn_of past head whole body).past { tag = owner_tag owner past.tag b; gate = g } })) parts.gate_is

turn_owned : (limit : ℕ) (owner : List ℕ) (past : Past) (body : PlainBody) (slot : List ℕ) (gate : ℕ) (more : List ℕ) → length slot ≡ 32 → MayFollow past.epoch.0 body →
    Small past body → past.at + (batch_len + length (next_batch past body).payload) ≤ limit →
    owned_at limit owner past (spell_batch owner past.tag slot (next_batch past body) ++ gate ∷ more) ≡ Ok (next_turn owner past body gate)
turn_owned limit owner past body slot gate more slot_size may small fits_limit =
    let b = next_batch past body in
    let head = next_head past body in
    let size = length b.payload in
    let whole = slotted_bytes owner past.tag slot b gate in
    let rest = spell_batch owner past.tag slot b ++ gate ∷ more in
    let parts = slotted_parts owner past.tag slot b gate slot_size in
    let is : rest ≡ whole ++ more = with_gate owner past.tag slot b gate more in
    let long : length rest ≡ batch_len + size + length more = omega (arith, ap length is, length-append whole more, parts.long) in
    let first : take 13 rest ≡ batch_head b =
    front (batch_head b) _ rest 13 (is ∙ append_assoc (batch_head b) _ more) (length-head_bytes b.type_of b.number b.epoch size)
    in
    let spelled : head ≡ head_of (batch_head b) =
    sym (head_is b.type_of b.number b.epoch size (next_number past body small) (next_epoch past body small) (let s = small.2 in omega arith))
    in
    let fits : is_batch past head (length rest) ≡ true = next_fits past body (length rest) may (omega arith) small.2 in
    let stands : head_at past rest ≡ Ok head = head_tested past rest (batch_head b) head (length rest) true (sym first) spelled refl (sym fits) in
    let within : nat_le (past.at + (batch_len + size)) limit ≡ true = grind (arith, nat_tests) in
    let owned : owned_head limit past rest ≡ Ok head =
    owned_head_tested limit past rest head stands ∙ ap (λ t. cond t (Ok head) (Err (Damaged past.at))) within
    in
    let all : whole ≡ take (batch_len + size) rest = sym (front whole more rest (batch_len + size) is parts.long) in
    owned_turn_is limit owner past rest head whole owned all ∙ owned_as_spelled owner past body slot gate slot_size may

-- a batch with any slot, and what follows it
owns_over : (limit : ℕ) (owner : List ℕ) (past : Past) (body : PlainBody) (slot rest : List ℕ) (gate : ℕ) (more : List ℕ) → length slot ≡ 32 → MayFollow past.epoch.0 body →
    Small past body → past.at + (batch_len + length (next_batch past body).payload) ≤ limit →
    past.gate ∷ rest ≡ 1 ∷ (spell_batch owner past.tag slot (next_batch past body) ++ gate ∷ more) →
    owned_log limit owner past 0 rest ≡ owned_before ((next_turn owner past body gate).placed ∷ []) (owned_log limit owner (next_past owner past body gate) 0 more)
owns_over limit owner past body slot rest gate more slot_size may small fits_limit is =
    let b = next_batch past body in
    let bytes = spell_batch owner past.tag slot b in
    let now = next_past owner past body gate in
    let heads = same_heads past.gate 1 rest (bytes ++ gate ∷ more) is in
    let open_gate : eqb past.gate 1 ≡ true = eq-eqb past.gate 1 heads.0 in
    let turn = turn_owned limit owner past body slot gate more slot_size may small fits_limit in
    let long = length-batch owner past.tag slot b slot_size in
    let far : now.at - past.at ≡ length (bytes ++ gate ∷ []) = omega (arith, long, length-append bytes (gate ∷ [])) in
    let there : drop (now.at - past.at) rest ≡ more =
    ap (λ n. drop n rest) far
    ∙ ap (λ r. drop (length (bytes ++ gate ∷ [])) r) (heads.1 ∙ sym (append_assoc bytes (gate ∷ []) more))
    ∙ drop-append_seam (bytes ++ gate ∷ []) more
    in
    owned_walks_on limit owner past rest (next_turn owner past body gate) open_gate (ap (owned_at limit owner past) heads.1 ∙ turn) (omega arith)
    ∙ ap (λ r. owned_before ((next_turn owner past body gate).placed ∷ []) (owned_log limit owner now 0 r)) there

-- ---- the walk

-- the log behind a gate, of batches with these bodies
abbrev log_behind : List ℕ → Past → List PlainBody → OwnedLog
log_behind owner past bodies = record {
  placed = placed_from past.at past.number past.epoch.0 bodies;
  batches = past.number + length (batches_from past.number past.epoch.0 bodies);
  epoch = last_epoch past.epoch.0 (batches_from past.number past.epoch.0 bodies);
  end = past.at + sum_by (λ (b : Batch). batch_len + length b.payload) (batches_from past.number past.epoch.0 bodies);
  tag = tag_behind owner past.tag (batches_from past.number past.epoch.0 bodies);
}

abbrev opened_log : OwnedLog → Result OwnedLog Fault
opened_log log = Ok log

same_log : (placed : List PlainPlaced) (batches others epoch end other : ℕ) (tag : List ℕ) → batches ≡ others → end ≡ other →
    opened_log (record { placed = placed; batches = batches; epoch = epoch; end = end; tag = tag }) ≡ opened_log (record { placed = placed; batches = others; epoch = epoch; end = other; tag = tag })
same_log placed batches others epoch end other tag same_batches same_end = rw (same_batches, same_end) refl

one_more : (owner : List ℕ) (past : Past) (body : PlainBody) (gate : ℕ) (bodies : List PlainBody) →
    owned_before ((next_turn owner past body gate).placed ∷ []) (Ok (log_behind owner (next_past owner past body gate) bodies)) ≡ Ok (log_behind owner past (body ∷ bodies))
unfolding owned_before tag_behind
one_more owner past body gate bodies =
    let b = next_batch past body in
    let bs = batches_from b.number b.epoch bodies in
    let sum = sum_by-cons (λ (b : Batch). batch_len + length b.payload) b bs in
    same_log (placed_from past.at past.number past.epoch.0 (body ∷ bodies)) (b.number + length bs) (past.number + length (b ∷ bs)) (last_epoch b.epoch bs)
    (past.at + (batch_len + length b.payload) + sum_by (λ (b : Batch). batch_len + length b.payload) bs) (past.at + sum_by (λ (b : Batch). batch_len + length b.payload) (b ∷ bs))
    (tag_behind owner (owner_tag owner past.tag b) bs)
    (let n = number_rises past.number past.epoch.0 body in omega (arith, n)) (omega (arith, sum))

walk_owned : (limit : ℕ) (owner slot : List ℕ) (bodies : List PlainBody) (past : Past) (rest : List ℕ) (gate : ℕ) (behind : List ℕ) → limit ≤ most_store_bytes → length slot ≡ 32 →
    AreBodies past.epoch.0 bodies → past.number ≤ past.at → past.epoch.0 ≤ past.number →
    past.at + sum_by (λ (b : Batch). batch_len + length b.payload) (batches_from past.number past.epoch.0 bodies) ≤ limit → gate ≢ 1 →
    past.gate ∷ rest ≡ slotted_rest owner slot past bodies ++ gate ∷ behind →
    owned_log limit owner past 0 rest ≡ Ok (log_behind owner past bodies)
unfolding spell_slotted tag_behind
walk_owned limit owner slot [] past rest gate behind known slot_size are number_small epoch_small fits shut is =
    let heads = same_heads past.gate gate rest behind is in
    owned_closed limit owner past rest (ap (λ g. eqb g 1) heads.0 ∙ closed_gate gate shut)
    ∙ same_log [] past.number (past.number + 0) past.epoch.0 past.at (past.at + 0) past.tag (omega arith) (omega arith)
walk_owned limit owner slot (body ∷ []) past rest gate behind known slot_size are number_small epoch_small fits shut is =
    let now = next_past owner past body gate in
    let sum = sum_by-cons (λ (b : Batch). batch_len + length b.payload) (next_batch past body) [] in
    owns_over limit owner past body slot rest gate behind slot_size (first_may past.epoch.0 body [] are) (omega arith, omega arith, omega arith) (omega arith) is
    ∙ ap (owned_before ((next_turn owner past body gate).placed ∷ []))
    (owned_closed limit owner now behind (closed_gate gate shut)
    ∙ same_log [] now.number (now.number + 0) now.epoch.0 now.at (now.at + 0) now.tag (omega arith) (omega arith))
    ∙ one_more owner past body gate []
walk_owned limit owner slot (body ∷ other ∷ bodies) past rest gate behind known slot_size are number_small epoch_small fits shut is =
    let b = next_batch past body in
    let veil = batch_veil owner b in
    let bytes = spell_batch owner past.tag veil b in
    let tag = owner_tag owner past.tag b in
    let next = batch_of b.number b.epoch other in
    let bs = batches_from next.number next.epoch bodies in
    let others = spell_slotted owner tag slot (next ∷ bs) in
    let starts = begins_slotted owner tag slot next bs in
    let more = starts.0 ++ gate ∷ behind in
    let now = next_past owner past body 1 in
    let sum = sum_by-cons (λ (b : Batch). batch_len + length b.payload) b (next ∷ bs) in
    let n = number_rises past.number past.epoch.0 body in
    let e = epoch_bound past.number past.epoch.0 body in
    let whole : past.gate ∷ rest ≡ 1 ∷ (bytes ++ 1 ∷ more) =
    is ∙ ap (λ r. 1 ∷ r) (append_assoc bytes others (gate ∷ behind)) ∙ ap (λ r. 1 ∷ (bytes ++ (r ++ gate ∷ behind))) starts.1
    in
    let onward = walk_owned limit owner slot (other ∷ bodies) now more gate behind known slot_size (others_may past.epoch.0 past.number body (other ∷ bodies) are)
    (omega arith) (omega arith) (omega arith) shut (ap (λ r. r ++ gate ∷ behind) (sym starts.1))
    in
    owns_over limit owner past body veil rest 1 more (length-veil_of owner b.epoch b.number) (first_may past.epoch.0 body (other ∷ bodies) are) (omega arith, omega arith, omega arith) (omega arith) whole
    ∙ ap (owned_before ((next_turn owner past body 1).placed ∷ [])) onward
    ∙ one_more owner past body 1 (other ∷ bodies)

-- ---- the whole image

pub opened_standing : (limit : ℕ) (owner : List ℕ) (bodies : List PlainBody) (bytes : List ℕ) → limit ≤ most_store_bytes → StandsWithin limit owner bodies bytes →
    opening_verdict limit owner bytes ≡ Ok (whole_log owner bodies)
unfolding slotted_image opening_verdict and_then
opened_standing limit owner bodies bytes known within =
    let stands = within.0 in
    let bs = batches_from 0 0 bodies in
    let header = spell_header owner in
    let slotted = spell_slotted owner (check_of owner) stands.slot bs in
    let end = stands.gate ∷ stands.behind in
    let next = begins owner (check_of owner) stands.slot bs stands.gate stands.behind in
    let g = next.0 in
    let more = next.1 in
    let is : bytes ≡ (header ++ g ∷ []) ++ more =
    stands.bytes_are ∙ append_assoc header slotted end ∙ ap (λ r. header ++ r) next.2 ∙ sym (append_assoc header (g ∷ []) more)
    in
    let long : length (header ++ g ∷ []) ≡ header_len = omega (arith, length-append header (g ∷ []), length-spell_header owner) in
    let first : take header_len bytes ≡ header ++ g ∷ [] = front (header ++ g ∷ []) more bytes header_len is long in
    let rest : drop header_len bytes ≡ more =
    ap (λ n. drop n bytes) (sym long) ∙ ap (λ r. drop (length (header ++ g ∷ [])) r) is ∙ drop-append_seam (header ++ g ∷ []) more
    in
    let enough : header_len ≤ length bytes = omega (arith, ap length is, length-append (header ++ g ∷ []) more, long) in
    let start : start_at owner bytes ≡ Ok (first_past owner g) = start_long owner bytes enough ∙ ap (start_of owner) first ∙ start_spelled owner g in
    ap (λ p. and_then p (λ past. owned_log limit owner past 0 (drop header_len bytes))) start
    ∙ ap (λ r. owned_log limit owner (first_past owner g) 0 r) rest
    ∙ walk_owned limit owner stands.slot bodies (first_past owner g) more stands.gate stands.behind known stands.slot_size within.1 (omega arith) (omega arith) within.2 stands.closed (sym next.2)
    ∙ same_log (placed_from header_len 0 0 bodies) (0 + length bs) (length bs) (last_epoch 0 bs) (header_len + sum_by (λ (b : Batch). batch_len + length b.payload) bs) (length (image owner bs) + 1)
    (tag_behind owner (check_of owner) bs) (omega arith) (omega (arith, length-image owner bs))
