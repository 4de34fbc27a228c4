-- What a reader reads of bytes stands in their payloads, as the slots unmask them.
use Rattle.std.proofs.Common.{◌≡◌, ⊎_elim, inl, inr, ℕ, zero, suc, ◌+◌, ◌-◌, ◌≤◌, Bool, true, false, cond, eqb, List, [], ◌∷◌, ◌++◌, get_or, length, take, drop, Option, None, Some, Result, Ok, Err, refl, sym, ap, subst, ◌∙◌, arith}
use Rattle.std.specs.Prelude.{codes, nat_le, slice_index, slice_range}
use Rattle.std.specs.Str.{bytes_eq}
use Rattle.std.proofs.lemmas.List.{drop_more, get_or-take}
use Rattle.chacha_seal.specs.Sealing.{check_of, masked}
use Rattle.commit_journal.specs.Answering.{Fault, NotAStore, WrongKey, Damaged, and_then}
use Rattle.commit_journal.specs.Gates.{gated, gated_at, head_in, size_in, slot_payload}
use Rattle.commit_journal.specs.Log.{PlainTurn, as_commands, body_of, goes_on, head_at, head_of, is_batch, log_verdict, payload_in, placed_body, published_turn, slot_in, start_at, start_of, tagged_turn, turn_at, turn_of}
use Rattle.commit_journal.specs.Logs.{holder_log, turn_by, unowned_start, unowned_start_of, walk_at}
use Rattle.commit_journal.specs.Placed.{PlainBody, Commands, NewEpoch, PlainPlaced}
use Rattle.commit_journal.proofs.Followed.{and_then_ok, batch_inside, before_ok, guard_ok, long_enough}
use Rattle.commit_journal.proofs.Walks.{Judges, owner_walks, turn_none}
use Rattle.cry_base.specs.Layout.{batch_len, header_len}
use Rattle.cry_base.specs.Sets.{In}
use Rattle.cry_base.proofs.Members.{In-flat_map}
use Rattle.record_format.specs.Plain.{PlainPayload}
use Rattle.record_format.specs.Reading.{at_place, payload_or_place, whole_payload}
use Rattle.record_format.specs.Spellable.{IsSpellable}
use Rattle.record_format.proofs.PayloadLaws.{whole_takes}
use Rattle.cry_base.specs.declared.client.Bundle.{Bundle}
use Rattle.cry_base.specs.declared.client.Bundle.TheVariants as bundles
use Rattle.log_visits.specs.Judging.{bundle_log}
use Rattle.reader_laws.proofs.SpanTurns.{Head, Past}
use Rattle.trail_audit.specs.Records.{payloads_in, read_payloads}
use Rattle.forgery_laws.specs.Written.{AreBytes}
use Rattle.forgery_laws.proofs.Bytes.{bytes_by_index, in_drop, in_range, in_take, masked_are}

-- ---- one turn

-- the batch has a body in the form of its payload, as its slot unmasks it, and is the turn's
record IsGiven (past : Past) (head : Head) (batch : List ℕ) (turn : PlainTurn) : Type 0 where
  body : PlainBody
  is_body : body_of head (masked (slot_in batch) (payload_in head.size batch)) ≡ Ok body
  is_turn : turn ≡ turn_of past head batch body

abbrev Gives : Judges → Type 0
Gives judge = (past : Past) (head : Head) (batch : List ℕ) (turn : PlainTurn) → judge past head batch ≡ Ok (Some turn) → IsGiven past head batch turn

same_turn : (a b : PlainTurn) → (let r : Result (Option PlainTurn) Fault = Ok (Some a) in r) ≡ Ok (Some b) → a ≡ b
same_turn a b e = cc

body_read : (past : Past) (read : Result PlainBody ℕ) (body : PlainBody) → placed_body past read ≡ Ok body → read ≡ Ok body
body_read past (Ok x) body e = let same : x ≡ body = cc in ap Ok same
body_read past (Err at) body e = absurd cc

published_by : (test gate : Bool) (past : Past) (head : Head) (batch : List ℕ) (fault : Fault) (read : Result PlainBody ℕ) (turn : PlainTurn)
    → cond test (and_then (placed_body past read) (λ body. Ok (Some (turn_of past head batch body)))) (cond gate (Err fault) (Ok None)) ≡ Ok (Some turn)
    → (body : PlainBody) × (read ≡ Ok body) × (turn ≡ turn_of past head batch body)
published_by true gate past head batch fault read turn e =
    let step = and_then_ok (placed_body past read) (λ body. Ok (Some (turn_of past head batch body))) (Some turn) e in
    (step.0, body_read past read step.0 step.1, sym (same_turn (turn_of past head batch step.0) turn step.2))
published_by false true past head batch fault read turn e = absurd cc
published_by false false past head batch fault read turn e = absurd cc

published_gives : Gives published_turn
unfolding published_turn
published_gives past head batch turn e =
    let w = published_by _ _ past head batch _ (body_of head (masked (slot_in batch) (payload_in head.size batch))) turn e in
    record { body = w.0; is_body = w.1; is_turn = w.2 }

tagged_by : (test : Bool) (past : Past) (head : Head) (batch : List ℕ) (fault : Fault) (turn : PlainTurn)
    → cond test (published_turn past head batch) (Err fault) ≡ Ok (Some turn) → IsGiven past head batch turn
tagged_by true past head batch fault turn e = published_gives past head batch turn e
tagged_by false past head batch fault turn e = absurd cc

tagged_gives : (owner : List ℕ) → Gives (tagged_turn owner)
unfolding tagged_turn
tagged_gives owner past head batch turn e = tagged_by _ past head batch _ turn e

-- ---- the bytes of a batch

take_piece : (k a n : ℕ) (xs : List ℕ) → a + k ≤ n → take k (drop a (take n xs)) ≡ take k (drop a xs)
take_piece k a zero xs le = let none : k ≡ 0 = omega (arith, le) in ap (λ z. take z (drop a (take 0 xs))) none ∙ ap (λ z. take z (drop a xs)) (sym none)
take_piece k zero (suc n) [] le = refl
take_piece zero zero (suc n) (x ∷ xs) le = refl
take_piece (suc k) zero (suc n) (x ∷ xs) le = ap (λ r. x ∷ r) (take_piece k zero n xs (omega (arith, le)))
take_piece k (suc a) (suc n) [] le = refl
take_piece k (suc a) (suc n) (x ∷ xs) le = take_piece k a n xs (omega (arith, le))

take_range : (n : ℕ) (xs : List ℕ) (a b : ℕ) → b ≤ n → a ≤ b → slice_range (take n xs) a b ≡ slice_range xs a b
take_range n xs a b within order = take_piece (b - a) a n xs (omega (arith, within, order))

take_first : (k n : ℕ) (xs : List ℕ) → k ≤ n → take k (take n xs) ≡ take k xs
take_first k n xs le = take_piece k 0 n xs (omega (arith, le))

-- a batch in the bytes unmasks to this payload
abbrev Unmasks : List (List ℕ) → PlainPayload → Type 0
Unmasks batches payload = (batch : List ℕ) × In batch batches × (payload_or_place (slot_payload batch) ≡ Ok payload)

commands_only : (b : Bool) (read : Result PlainPayload ℕ) (payload : PlainPayload) → cond b (Ok NewEpoch) (as_commands read) ≡ Ok (Commands payload) → read ≡ Ok payload
commands_only true read payload e = absurd cc
commands_only false (Ok p) payload e = let same : p ≡ payload = cc in ap Ok same
commands_only false (Err at) payload e = absurd cc

payload_read : (head : Head) (bytes : List ℕ) (payload : PlainPayload) → body_of head bytes ≡ Ok (Commands payload) → payload_or_place bytes ≡ Ok payload
unfolding body_of
payload_read head bytes payload e = commands_only _ (payload_or_place bytes) payload e

-- the payload of a batch that is so long, as the bytes behind its gate have it
same_slot : (rest : List ℕ) (size : ℕ) → size ≡ (head_of (take 13 rest)).size
    → masked (slot_in (take (batch_len + size) rest)) (payload_in size (take (batch_len + size) rest)) ≡ slot_payload (take (size_in rest) rest)
unfolding slot_payload size_in head_in
same_slot rest size is =
    let n = (head_of (take 13 rest)).size in
    let short = take (109 + n) rest in
    let head : take 13 short ≡ take 13 rest = take_first 13 (109 + n) rest (omega arith) in
    ap (λ k. masked (slot_in (take (batch_len + k) rest)) (payload_in k (take (batch_len + k) rest))) is
    ∙ (λ i. masked
    ((take_range (batch_len + n) rest 13 45 (omega arith) (omega arith) ∙ sym (take_range (109 + n) rest 13 45 (omega arith) (omega arith))) i)
    ((take_range (batch_len + n) rest 45 (45 + n) (omega arith) (omega arith) ∙ sym (take_range (109 + n) rest 45 (45 + n) (omega arith) (omega arith))) i))
    ∙ ap (λ h. masked (slot_in short) (payload_in (head_of h).size short)) (sym head)

-- where the gate behind a batch stands
far_is : (rest : List ℕ) → size_in rest ≡ 109 + (head_of (take 13 rest)).size
unfolding size_in head_in
far_is rest = refl

far : (rest : List ℕ) (n : ℕ) → n ≡ 109 + (head_of (take 13 rest)).size → n ≡ size_in rest
far rest n e = e ∙ sym (far_is rest)

-- ---- the walk

abbrev AreIn : List (List ℕ) → List PlainPlaced → Type 0
AreIn batches log = (p : PlainPlaced) → In p log → (payload : PlainPayload) → p.body ≡ Commands payload → Unmasks batches payload

none_in : (batches : List (List ℕ)) (log : List PlainPlaced) → (let r : Result (List PlainPlaced) Fault = Ok [] in r) ≡ Ok log → AreIn batches log
none_in batches log e p i = let nothing : [] ≡ log = cc in absurd (subst (λ l. In p l) (sym nothing) i)

module _ (judge : Judges) (gives : Gives judge) where
  -- what a turn gave, and how far on it goes
  record IsNext (past : Past) (rest : List ℕ) (turn : PlainTurn) : Type 0 where
    inside : batch_len + (head_of (take 13 rest)).size ≤ length rest
    given : IsGiven past (head_of (take 13 rest)) (take (batch_len + (head_of (take 13 rest)).size) rest) turn

  turn_next : (past : Past) (rest : List ℕ) (turn : PlainTurn) → turn_by judge past rest ≡ Ok (Some turn) → IsNext past rest turn
  unfolding turn_by head_at
  turn_next past rest turn e =
      let head = head_of (take 13 rest) in
      let step = and_then_ok (head_at past rest) (λ h. judge past h (take (batch_len + h.size) rest)) (Some turn) e in
      let guard = guard_ok (is_batch past head (length rest)) head step.0 (Damaged past.at) step.1 in
      record {
        inside = batch_inside past head (length rest) guard.0;
        given = gives past head (take (batch_len + head.size) rest) turn (subst (λ (h : Head). judge past h (take (batch_len + h.size) rest) ≡ Ok (Some turn)) (sym guard.1) step.2);
      }

  -- a body that was given stands in the batch behind the gate
  turn_unmasks : (past : Past) (rest : List ℕ) (turn : PlainTurn) (others : List (List ℕ)) → IsNext past rest turn → (payload : PlainPayload) → turn.placed.body ≡ Commands payload
      → Unmasks (take (size_in rest) rest ∷ others) payload
  turn_unmasks past rest turn others next payload is =
      let head = head_of (take 13 rest) in
      let given = next.given in
      let body : given.body ≡ Commands payload = sym (ap (λ (t : PlainTurn). t.placed.body) given.is_turn) ∙ is in
      let read = payload_read head _ payload (given.is_body ∙ ap Ok body) in
      (take (size_in rest) rest, inl refl, ap payload_or_place (sym (same_slot rest head.size refl)) ∙ read)

  more_in : (batch : List ℕ) (batches : List (List ℕ)) (log : List PlainPlaced) → AreIn batches log → AreIn (batch ∷ batches) log
  more_in batch batches log are p i payload is = let w = are p i payload is in (w.0, inr w.1, w.2)

  -- what a walk reads behind a byte, of which so many belong to the batch before, stands behind the gates there
  abbrev IsWalkedIn : List ℕ → Type 0
  IsWalkedIn rest = (b : ℕ) (past : Past) (skip : ℕ) (log : List PlainPlaced) → past.gate ≡ get_or (b ∷ rest) skip 0 → walk_at (turn_by judge) past skip rest ≡ Ok log → AreIn (gated_at skip (b ∷ rest)) log

  ended : (test : Bool) (past : Past) (log : List PlainPlaced) → cond test (goes_on (turn_by judge past []) (λ t. Ok [])) (Ok []) ≡ Ok log → [] ≡ log
  unfolding goes_on
  ended true past log e =
      let wrong : Err (Damaged past.at) ≡ Ok log = ap (λ t. goes_on t (λ t. Ok [])) (sym (turn_none judge past)) ∙ e in absurd cc
  ended false past log e = cc

  goes_in : (past : Past) (rest : List ℕ) (byte : ℕ) (turn : Result (Option PlainTurn) Fault) (log : List PlainPlaced) → turn_by judge past (byte ∷ rest) ≡ turn → IsWalkedIn rest
      → goes_on turn (λ t. walk_at (turn_by judge) t.past (t.past.at - (past.at + 1)) rest) ≡ Ok log
      → AreIn (take (size_in (byte ∷ rest)) (byte ∷ rest) ∷ gated_at (size_in (byte ∷ rest)) (byte ∷ rest)) log
  unfolding goes_on
  goes_in past rest byte (Ok (Some t)) log made walked e =
      let whole = byte ∷ rest in
      let batch = take (size_in whole) whole in
      let next = turn_next past whole t made in
      let head = head_of (take 13 whole) in
      let step = before_ok (t.placed ∷ []) (walk_at (turn_by judge) t.past (t.past.at - (past.at + 1)) rest) log e in
      let is = next.given.is_turn in
      let at : t.past.at ≡ past.at + (batch_len + head.size) = ap (λ (x : PlainTurn). x.past.at) is in
      let gate : t.past.gate ≡ get_or (take (batch_len + head.size) whole) (109 + head.size) 0 = ap (λ (x : PlainTurn). x.past.gate) is in
      let skip : t.past.at - (past.at + 1) ≡ size_in whole = far whole (t.past.at - (past.at + 1)) (omega (arith, at)) in
      let here : t.past.gate ≡ get_or whole (size_in whole) 0 =
      gate ∙ get_or-take (batch_len + head.size) whole (109 + head.size) 0 (omega arith) ∙ ap (λ n. get_or whole n 0) (sym (far_is whole))
      in
      let rests : AreIn (gated_at (size_in whole) whole) step.0 =
      walked byte t.past (size_in whole) step.0 here (subst (λ n. walk_at (turn_by judge) t.past n rest ≡ Ok step.0) skip step.1)
      in
      λ p i payload body. ⊎_elim
      (λ (same : p ≡ t.placed). turn_unmasks past whole t (gated_at (size_in whole) whole) next payload (sym (ap (λ (x : PlainPlaced). x.body) same) ∙ body))
      (λ u. more_in batch (gated_at (size_in whole) whole) step.0 rests p u payload body)
      (subst (λ (l : List PlainPlaced). In p l) (sym step.2) i)
  goes_in past rest byte (Ok None) log made walked e = none_in (take (size_in (byte ∷ rest)) (byte ∷ rest) ∷ gated_at (size_in (byte ∷ rest)) (byte ∷ rest)) log e
  goes_in past rest byte (Err fault) log made walked e = absurd cc

  gate_open : (b : ℕ) (rest : List ℕ) (test : Bool) → eqb b 1 ≡ test → gated_at 0 (b ∷ rest) ≡ cond test (take (size_in rest) rest ∷ gated_at (size_in rest) rest) []
  unfolding gated_at
  gate_open b rest test e = ap (λ t. cond t (take (size_in rest) rest ∷ gated_at (size_in rest) rest) []) e

  at_gate : (b byte : ℕ) (rest : List ℕ) (past : Past) (test : Bool) (log : List PlainPlaced) → past.gate ≡ b → eqb past.gate 1 ≡ test → IsWalkedIn rest
      → cond test (goes_on (turn_by judge past (byte ∷ rest)) (λ t. walk_at (turn_by judge) t.past (t.past.at - (past.at + 1)) rest)) (Ok []) ≡ Ok log
      → AreIn (gated_at 0 (b ∷ byte ∷ rest)) log
  at_gate b byte rest past true log gate passed walked e =
      let is = gate_open b (byte ∷ rest) true (ap (λ n. eqb n 1) (sym gate) ∙ passed) in
      subst (λ bs. AreIn bs log) (sym is) (goes_in past rest byte (turn_by judge past (byte ∷ rest)) log refl walked e)
  at_gate b byte rest past false log gate passed walked e = none_in (gated_at 0 (b ∷ byte ∷ rest)) log e

  step_in : (byte : ℕ) (rest : List ℕ) → IsWalkedIn rest → IsWalkedIn (byte ∷ rest)
  unfolding walk_at
  step_in byte rest walked b past zero log gate e = at_gate b byte rest past (eqb past.gate 1) log gate refl walked e
  step_in byte rest walked b past (suc skip) log gate e = unfold gated_at in walked byte past skip log gate e

  walked_in : (rest : List ℕ) → IsWalkedIn rest
  unfolding walk_at
  walked_in [] b past skip log gate e = none_in (gated_at skip (b ∷ [])) log (ap Ok (ended (eqb past.gate 1) past log e))
  walked_in (byte ∷ rest) b past skip log gate e = step_in byte rest (walked_in rest) b past skip log gate e

  -- from the header on
  log_in : (bytes : List ℕ) (past : Past) (log : List PlainPlaced) → header_len ≤ length bytes → past.gate ≡ get_or bytes 41 0 → walk_at (turn_by judge) past 0 (drop header_len bytes) ≡ Ok log → AreIn (gated bytes) log
  unfolding gated
  log_in bytes past log long gate e =
      let parts : drop 41 bytes ≡ get_or bytes 41 0 ∷ drop header_len bytes = drop_more bytes 41 0 (omega (arith, long)) in
      subst (λ xs. AreIn (gated_at 0 xs) log) (sym parts) (walked_in (drop header_len bytes) (get_or bytes 41 0) past 0 log gate e)

-- ---- the header

header_gate : (bytes : List ℕ) → get_or (take header_len bytes) 41 0 ≡ get_or bytes 41 0
header_gate bytes = get_or-take header_len bytes 41 0 (omega arith)

-- what is known behind a header
record IsStart (bytes : List ℕ) (past : Past) : Type 0 where
  long : header_len ≤ length bytes
  gate : past.gate ≡ get_or bytes 41 0

same_past : (a b : Past) → (let r : Result Past Fault = Ok a in r) ≡ Ok b → a ≡ b
same_past a b e = cc

long_start : (test : Bool) (start : Result Past Fault) (past : Past) → cond test start (Err NotAStore) ≡ Ok past → start ≡ Ok past
long_start true start past e = e
long_start false start past e = absurd cc

two_tests : (a b : Bool) (known past : Past) → cond a (cond b (Ok known) (Err WrongKey)) (Err NotAStore) ≡ Ok past → known ≡ past
two_tests true true known past e = same_past known past e
two_tests true false known past e = absurd cc
two_tests false b known past e = absurd cc

unowned_starts : (bytes : List ℕ) (past : Past) → unowned_start bytes ≡ Ok past → IsStart bytes past
unfolding unowned_start unowned_start_of
unowned_starts bytes past e =
    let long = long_enough _ _ past (length bytes) refl e in
    let known = guard_ok _ _ past NotAStore (long_start _ _ past e) in
    record { long = long; gate = sym (ap (λ (p : Past). p.gate) known.1) ∙ header_gate bytes }

owned_starts : (owner bytes : List ℕ) (past : Past) → start_at owner bytes ≡ Ok past → IsStart bytes past
unfolding start_at start_of
owned_starts owner bytes past e =
    let long = long_enough (nat_le header_len (length bytes)) (start_of owner (take header_len bytes)) past (length bytes) refl e in
    let header = take header_len bytes in
    let behind : Past = record { at = header_len; number = 0; epoch = record { 0 = 0 }; tag = slice_range header 9 41; gate = slice_index header 41 } in
    let known : behind ≡ past = two_tests (bytes_eq (take 9 header) (codes "CRYPTREE" ++ 1 ∷ [])) (bytes_eq (slice_range header 9 41) (check_of owner)) behind past (long_start (nat_le header_len (length bytes)) (start_of owner header) past e) in
    record { long = long; gate = sym (ap (λ (p : Past). p.gate) known) ∙ header_gate bytes }

-- ---- logs

holders_in : (bytes : List ℕ) (log : List PlainPlaced) → holder_log bytes ≡ Ok log → AreIn (gated bytes) log
unfolding holder_log
holders_in bytes log e =
    let step = and_then_ok (unowned_start bytes) (λ past. walk_at (turn_by published_turn) past 0 (drop header_len bytes)) log e in
    let start = unowned_starts bytes step.0 step.1 in
    log_in published_turn published_gives bytes step.0 log start.long start.gate step.2

owner_turns : (owner : List ℕ) → turn_at owner ≡ turn_by (tagged_turn owner)
unfolding turn_at turn_by
owner_turns owner = refl

owners_in : (owner bytes : List ℕ) (log : List PlainPlaced) → log_verdict owner bytes ≡ Ok log → AreIn (gated bytes) log
owners_in owner bytes log e =
    let step = and_then_ok (start_at owner bytes) (λ past. walk_at (turn_at owner) past 0 (drop header_len bytes)) log (owner_walks owner bytes ∙ e) in
    let start = owned_starts owner bytes step.0 step.1 in
    log_in (tagged_turn owner) (tagged_gives owner) bytes step.0 log start.long start.gate
    (ap (λ (turns : Past → List ℕ → Result (Option PlainTurn) Fault). walk_at turns step.0 0 (drop header_len bytes)) (sym (owner_turns owner)) ∙ step.2)

-- ---- payloads of bytes have a form

batch_at : (gate : ℕ) (rest batch : List ℕ) (b : Bool) → In batch (cond b (take (size_in rest) rest ∷ gated_at (size_in rest) rest) []) → (x : ℕ) → In x batch
    → (In batch (gated_at (size_in rest) rest) → In x rest) → In x (gate ∷ rest)
batch_at gate rest batch true i x j others = ⊎_elim
    (λ (e : batch ≡ take (size_in rest) rest). inr (in_take (size_in rest) rest x (subst (λ (b : List ℕ). In x b) e j)))
    (λ u. inr (others u))
    i
batch_at gate rest batch false i x j others = absurd i

batch_part : (skip : ℕ) (xs batch : List ℕ) → In batch (gated_at skip xs) → (x : ℕ) → In x batch → In x xs
unfolding gated_at
batch_part skip [] batch i x j = absurd i
batch_part (suc skip) (byte ∷ rest) batch i x j = inr (batch_part skip rest batch i x j)
batch_part zero (gate ∷ rest) batch i x j = batch_at gate rest batch (eqb gate 1) i x j (λ u. batch_part (size_in rest) rest batch u x j)

slot_bytes : (bytes batch : List ℕ) → AreBytes bytes → In batch (gated bytes) → AreBytes (slot_payload batch)
unfolding gated slot_payload
slot_bytes bytes batch are i =
    masked_are (slot_in batch) (payload_in (head_in batch).size batch)
    (λ b j. are b (in_drop 41 bytes b (batch_part 0 (drop 41 bytes) batch i b (in_range batch 45 _ b j))))

whole_is : (n : ℕ) (read : Result PlainPayload ℕ) (payload : PlainPayload) → at_place n read ≡ Ok payload → read ≡ Ok payload
whole_is n (Ok p) payload e = let same : p ≡ payload = cc in ap Ok same
whole_is n (Err left) payload e = absurd cc

-- a payload that the slots unmask
pub record IsPayloadIn (bytes : List ℕ) (payload : PlainPayload) : Type 0 where
  pub there : In payload (payloads_in bytes)
  pub form : IsSpellable payload

unmasked_in : (bytes : List ℕ) → AreBytes bytes → (payload : PlainPayload) → Unmasks (gated bytes) payload → IsPayloadIn bytes payload
unfolding payloads_in read_payloads
unmasked_in bytes are payload w = record {
  there = (In-flat_map (List ℕ) PlainPayload (λ batch. read_payloads (payload_or_place (slot_payload batch))) payload (gated bytes)).1
      (w.0, w.1, subst (λ (r : Result PlainPayload ℕ). In payload (read_payloads r)) (sym w.2) (inl refl));
  form = (whole_takes (slot_payload w.0) payload (bytes_by_index (slot_payload w.0) (slot_bytes bytes w.0 are w.1)) (whole_is _ (whole_payload (slot_payload w.0)) payload w.2)).0;
}

-- ---- a reader's log

pub log_payloads : (bundle : Bundle) (bytes : List ℕ) (log : List PlainPlaced) → AreBytes bytes → bundle_log bundle bytes ≡ Ok log
    → (p : PlainPlaced) → In p log → (payload : PlainPayload) → p.body ≡ Commands payload → IsPayloadIn bytes payload
unfolding bundle_log
log_payloads (bundles.Owner key) bytes log are e p i payload is = unmasked_in bytes are payload (owners_in key bytes log e p i payload is)
log_payloads (bundles.Holder h key) bytes log are e p i payload is = unmasked_in bytes are payload (holders_in bytes log e p i payload is)
