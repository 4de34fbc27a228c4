-- Bytes that stand for batches are opened for writing as these very batches, whatever the last slot holds.
use Rattle.std.proofs.Common.{◌≡◌, ◌≢◌, ℕ, suc, ◌+◌, ◌-◌, ◌<◌, ◌≤◌, true, cond, eqb, eq-eqb, List, [], ◌∷◌, ◌++◌, length, take, drop, Option, Some, Result, Ok, Err, append_assoc, arith, refl, sym, ap, ◌∙◌, length-append}
use Rattle.std.specs.List.{sum_by}
use Rattle.std.specs.Str.{bytes_eq}
use Rattle.std.proofs.Math.Seq.{drop-append_seam}
use Rattle.std.proofs.lemmas.List.Sums.{sum_by-cons}
use Rattle.std.proofs.lemmas.Slice.Eq.{bytes_eq-Decides}
use Rattle.cry_base.specs.Layout.{batch_len, header_len}
use Rattle.cry_base.specs.Limits.{most_store_bytes}
use Rattle.hmac_seal.specs.Hmac.{hmac}
use Rattle.chacha_seal.specs.Sealing.{check_of, masked, owner_tag_key}
use Rattle.chacha_seal.proofs.SealingLemmas.{masked-masked, length-veil_of}
use Rattle.commit_journal.specs.declared.past.Past.{Past}
use Rattle.commit_journal.specs.Answering.{Fault, Damaged, Tampered, and_then}
use Rattle.commit_journal.specs.Image.{Batch, batch_head, batch_veil, masked_payload, owner_tag, spell_batch, spell_header}
use Rattle.commit_journal.specs.Laws.{batch_of, batches_from, placed_from, AreBodies}
use Rattle.commit_journal.specs.Log.{PlainTurn, payload_in, check_in, tag_in, is_batch, body_of, placed_body, turn_of, tag_due, head_of, head_at, before, goes_on, start_of, start_at}
use Rattle.commit_journal.specs.Logs.{walk_at, turn_by, recovered_turn, tagged_recovered, writer_log}
use Rattle.commit_journal.specs.Placed.{PlainBody}
use Rattle.commit_journal.specs.Standing.{spell_slotted, slotted_image, StandsFor}
use Rattle.commit_journal.proofs.Judged.{start_long, head_tested}
use Rattle.commit_journal.proofs.Pieces.{front, length-head_bytes, head_is}
use Rattle.commit_journal.proofs.Spelled.{next_batch, next_head, next_past, next_turn, next_body, MayFollow, first_past}
use Rattle.commit_journal.proofs.Standings.{length-batch, length-spell_header}
use Rattle.commit_journal.proofs.Stopped.{slotted_bytes, slotted_parts, with_gate, next_fits, Small, next_number, next_epoch, same_heads, first_may, others_may, number_rises, epoch_bound, closed_gate, before_ok, begins_slotted, slotted_rest, start_spelled, begins}
use Rattle.commit_journal.proofs.Walks.{Judges, turn_none, walk-skip, walk_shut}

-- ---- one turn

recovered_as_spelled : (owner : List ℕ) (past : Past) (body : PlainBody) (slot : List ℕ) (gate : ℕ) → length slot ≡ 32 → MayFollow past.epoch.0 body →
    tagged_recovered owner past (next_head past body) (slotted_bytes owner past.tag slot (next_batch past body) gate) ≡ Ok (Some (next_turn owner past body gate))
unfolding tagged_recovered recovered_turn and_then tag_due owner_tag
recovered_as_spelled owner past body slot gate slot_size may =
    let b = next_batch past body in
    let head = next_head past body in
    let size = length b.payload in
    let whole = slotted_bytes owner past.tag slot b gate in
    let parts = slotted_parts owner past.tag slot b gate slot_size in
    let veil = batch_veil owner b in
    let due : hmac (owner_tag_key owner) (past.tag ++ (take 13 whole ++ (payload_in size whole ++ check_in size whole))) ≡ tag_in size whole =
    ap (λ h. hmac (owner_tag_key owner) (past.tag ++ (h ++ (payload_in size whole ++ check_in size whole)))) parts.head_is
    ∙ ap (λ m. hmac (owner_tag_key owner) (past.tag ++ (batch_head b ++ (m ++ check_in size whole)))) parts.payload_is
    ∙ ap (λ k. hmac (owner_tag_key owner) (past.tag ++ (batch_head b ++ (masked_payload owner b ++ k)))) parts.check_is
    ∙ sym parts.tag_is
    in
    let tagged : bytes_eq (hmac (owner_tag_key owner) (past.tag ++ (take 13 whole ++ (payload_in size whole ++ check_in size whole)))) (tag_in size whole) ≡ true =
    (bytes_eq-Decides _ _).1 due
    in
    let plain : masked veil (payload_in size whole) ≡ b.payload = ap (λ m. masked veil m) parts.payload_is ∙ masked-masked veil b.payload in
    let read : body_of head (masked veil (payload_in size whole)) ≡ Ok body = ap (body_of head) plain ∙ next_body past body may in
    let turn : PlainBody → Result (Option PlainTurn) Fault = λ x. Ok (Some (turn_of past head whole x)) in
    ap (λ t. cond t (recovered_turn owner past head whole) (Err (Tampered head.number (past.at + 77 + head.size)))) tagged
    ∙ ap (λ r. and_then (placed_body past r) turn) read
    ∙ ap (λ t. Ok (Some (record (turn_of past head whole body) { past = record (turn_of past head whole body).past { tag = t } }))) parts.tag_is
    ∙ ap (λ g. Ok (Some (record (turn_of past head whole body) { past = record (turn_of past head whole body).past { tag = owner_tag owner past.tag b; gate = g } }))) parts.gate_is

turn_recovered : (owner : List ℕ) (past : Past) (body : PlainBody) (slot : List ℕ) (gate : ℕ) (more : List ℕ) → length slot ≡ 32 → MayFollow past.epoch.0 body → Small past body →
    turn_by (tagged_recovered owner) past (spell_batch owner past.tag slot (next_batch past body) ++ gate ∷ more) ≡ Ok (Some (next_turn owner past body gate))
unfolding turn_by and_then
turn_recovered owner past body slot gate more slot_size may small =
    let b = next_batch past body in
    let head = next_head past body in
    let size = length b.payload in
    let whole = slotted_bytes owner past.tag slot b gate in
    let rest = spell_batch owner past.tag slot b ++ gate ∷ more in
    let parts = slotted_parts owner past.tag slot b gate slot_size in
    let is : rest ≡ whole ++ more = with_gate owner past.tag slot b gate more in
    let long : length rest ≡ batch_len + size + length more = omega (arith, ap length is, length-append whole more, parts.long) in
    let first : take 13 rest ≡ batch_head b =
    front (batch_head b) _ rest 13 (is ∙ append_assoc (batch_head b) _ more) (length-head_bytes b.type_of b.number b.epoch size)
    in
    let spelled : head ≡ head_of (batch_head b) =
    sym (head_is b.type_of b.number b.epoch size (next_number past body small) (next_epoch past body small) (let s = small.2 in omega arith))
    in
    let fits : is_batch past head (length rest) ≡ true = next_fits past body (length rest) may (omega arith) small.2 in
    let stands : head_at past rest ≡ Ok head = head_tested past rest (batch_head b) head (length rest) true (sym first) spelled refl (sym fits) in
    let all : take (batch_len + size) rest ≡ whole = front whole more rest (batch_len + size) is parts.long in
    ap (λ r. and_then r (λ h. tagged_recovered owner past h (take (batch_len + h.size) rest))) stands
    ∙ ap (tagged_recovered owner past head) all
    ∙ recovered_as_spelled owner past body slot gate slot_size may

-- ---- the walk

goes_over : (judge : Judges) (past : Past) (rest : List ℕ) (turn : PlainTurn) → eqb past.gate 1 ≡ true → turn_by judge past rest ≡ Ok (Some turn) →
    past.at < turn.past.at → walk_at (turn_by judge) past 0 rest ≡ before (turn.placed ∷ []) (walk_at (turn_by judge) turn.past 0 (drop (turn.past.at - past.at) rest))
unfolding walk_at goes_on
goes_over judge past [] turn gate is ahead = let wrong : Ok (Some turn) ≡ Err (Damaged past.at) = sym is ∙ turn_none judge past in absurd (cc)
goes_over judge past (byte ∷ rest) turn gate is ahead =
    let far : turn.past.at - past.at ≡ suc (turn.past.at - (past.at + 1)) = omega arith in
    rw (gate, is, far) (ap (before (turn.placed ∷ [])) (walk-skip (turn_by judge) turn.past (turn.past.at - (past.at + 1)) rest))

-- a batch with any slot, and what follows it
writes_over : (owner : List ℕ) (past : Past) (body : PlainBody) (slot rest : List ℕ) (gate : ℕ) (more : List ℕ) → length slot ≡ 32 → MayFollow past.epoch.0 body → Small past body →
    past.gate ∷ rest ≡ 1 ∷ (spell_batch owner past.tag slot (next_batch past body) ++ gate ∷ more) →
    walk_at (turn_by (tagged_recovered owner)) past 0 rest
    ≡ before ((next_turn owner past body gate).placed ∷ []) (walk_at (turn_by (tagged_recovered owner)) (next_past owner past body gate) 0 more)
writes_over owner past body slot rest gate more slot_size may small is =
    let judge = tagged_recovered owner in
    let b = next_batch past body in
    let bytes = spell_batch owner past.tag slot b in
    let now = next_past owner past body gate in
    let heads = same_heads past.gate 1 rest (bytes ++ gate ∷ more) is in
    let open_gate : eqb past.gate 1 ≡ true = eq-eqb past.gate 1 heads.0 in
    let turn = turn_recovered owner past body slot gate more slot_size may small in
    let long = length-batch owner past.tag slot b slot_size in
    let far : now.at - past.at ≡ length (bytes ++ gate ∷ []) = omega (arith, long, length-append bytes (gate ∷ [])) in
    let there : drop (now.at - past.at) rest ≡ more =
    ap (λ n. drop n rest) far
    ∙ ap (λ r. drop (length (bytes ++ gate ∷ [])) r) (heads.1 ∙ sym (append_assoc bytes (gate ∷ []) more))
    ∙ drop-append_seam (bytes ++ gate ∷ []) more
    in
    goes_over judge past rest (next_turn owner past body gate) open_gate (ap (turn_by judge past) heads.1 ∙ turn) (omega arith)
    ∙ ap (λ r. before ((next_turn owner past body gate).placed ∷ []) (walk_at (turn_by judge) now 0 r)) there

walk_written : (owner slot : List ℕ) (bodies : List PlainBody) (past : Past) (rest : List ℕ) (gate : ℕ) (behind : List ℕ) → length slot ≡ 32 →
    AreBodies past.epoch.0 bodies → past.number ≤ past.at → past.epoch.0 ≤ past.number →
    past.at + sum_by (λ (b : Batch). batch_len + length b.payload) (batches_from past.number past.epoch.0 bodies) ≤ most_store_bytes → gate ≢ 1 →
    past.gate ∷ rest ≡ slotted_rest owner slot past bodies ++ gate ∷ behind →
    walk_at (turn_by (tagged_recovered owner)) past 0 rest ≡ Ok (placed_from past.at past.number past.epoch.0 bodies)
unfolding spell_slotted
walk_written owner slot [] past rest gate behind slot_size are number_small epoch_small fits shut is =
    let heads = same_heads past.gate gate rest behind is in
    walk_shut (turn_by (tagged_recovered owner)) past rest (ap (λ g. eqb g 1) heads.0 ∙ closed_gate gate shut)
walk_written owner slot (body ∷ []) past rest gate behind slot_size are number_small epoch_small fits shut is =
    let sum = sum_by-cons (λ (b : Batch). batch_len + length b.payload) (next_batch past body) [] in
    writes_over owner past body slot rest gate behind slot_size (first_may past.epoch.0 body [] are) (omega arith, omega arith, omega arith) is
    ∙ ap (before ((next_turn owner past body gate).placed ∷ [])) (walk_shut (turn_by (tagged_recovered owner)) (next_past owner past body gate) behind (closed_gate gate shut))
    ∙ before_ok (next_turn owner past body gate).placed []
walk_written owner slot (body ∷ other ∷ bodies) past rest gate behind slot_size are number_small epoch_small fits shut is =
    let b = next_batch past body in
    let veil = batch_veil owner b in
    let bytes = spell_batch owner past.tag veil b in
    let tag = owner_tag owner past.tag b in
    let next = batch_of b.number b.epoch other in
    let bs = batches_from next.number next.epoch bodies in
    let others = spell_slotted owner tag slot (next ∷ bs) in
    let starts = begins_slotted owner tag slot next bs in
    let more = starts.0 ++ gate ∷ behind in
    let now = next_past owner past body 1 in
    let sum = sum_by-cons (λ (b : Batch). batch_len + length b.payload) b (next ∷ bs) in
    let n = number_rises past.number past.epoch.0 body in
    let e = epoch_bound past.number past.epoch.0 body in
    let whole : past.gate ∷ rest ≡ 1 ∷ (bytes ++ 1 ∷ more) =
    is ∙ ap (λ r. 1 ∷ r) (append_assoc bytes others (gate ∷ behind)) ∙ ap (λ r. 1 ∷ (bytes ++ (r ++ gate ∷ behind))) starts.1
    in
    let onward = walk_written owner slot (other ∷ bodies) now more gate behind slot_size (others_may past.epoch.0 past.number body (other ∷ bodies) are)
    (omega arith) (omega arith) (omega arith) shut (ap (λ r. r ++ gate ∷ behind) (sym starts.1))
    in
    writes_over owner past body veil rest 1 more (length-veil_of owner b.epoch b.number) (first_may past.epoch.0 body (other ∷ bodies) are) (omega arith, omega arith, omega arith) whole
    ∙ ap (before ((next_turn owner past body 1).placed ∷ [])) onward
    ∙ before_ok (next_turn owner past body 1).placed _

-- ---- the whole image

pub written_standing : (owner : List ℕ) (bodies : List PlainBody) (bytes : List ℕ) → StandsFor owner (batches_from 0 0 bodies) bytes → AreBodies 0 bodies →
    header_len + sum_by (λ (b : Batch). batch_len + length b.payload) (batches_from 0 0 bodies) ≤ most_store_bytes →
    writer_log owner bytes ≡ Ok (placed_from header_len 0 0 bodies)
unfolding slotted_image writer_log and_then
written_standing owner bodies bytes stands are fits =
    let turns = turn_by (tagged_recovered owner) in
    let header = spell_header owner in
    let slotted = spell_slotted owner (check_of owner) stands.slot (batches_from 0 0 bodies) in
    let end = stands.gate ∷ stands.behind in
    let next = begins owner (check_of owner) stands.slot (batches_from 0 0 bodies) stands.gate stands.behind in
    let g = next.0 in
    let more = next.1 in
    let is : bytes ≡ (header ++ g ∷ []) ++ more =
    stands.bytes_are ∙ append_assoc header slotted end ∙ ap (λ r. header ++ r) next.2 ∙ sym (append_assoc header (g ∷ []) more)
    in
    let long : length (header ++ g ∷ []) ≡ header_len = omega (arith, length-append header (g ∷ []), length-spell_header owner) in
    let first : take header_len bytes ≡ header ++ g ∷ [] = front (header ++ g ∷ []) more bytes header_len is long in
    let rest : drop header_len bytes ≡ more =
    ap (λ n. drop n bytes) (sym long) ∙ ap (λ r. drop (length (header ++ g ∷ [])) r) is ∙ drop-append_seam (header ++ g ∷ []) more
    in
    let enough : header_len ≤ length bytes = omega (arith, ap length is, length-append (header ++ g ∷ []) more, long) in
    let start : start_at owner bytes ≡ Ok (first_past owner g) = start_long owner bytes enough ∙ ap (start_of owner) first ∙ start_spelled owner g in
    ap (λ p. and_then p (λ past. walk_at turns past 0 (drop header_len bytes))) start
    ∙ ap (λ r. walk_at turns (first_past owner g) 0 r) rest
    ∙ walk_written owner stands.slot bodies (first_past owner g) more stands.gate stands.behind stands.slot_size are (omega arith) (omega arith) fits stands.closed (sym next.2)
