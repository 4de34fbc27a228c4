-- What is opened within the largest store is the log of the owner who opens for writing.
use Rattle.std.proofs.Common.{◌≡◌, ℕ, zero, suc, ◌+◌, ◌-◌, Bool, true, false, cond, eqb, List, [], ◌∷◌, length, take, drop, Option, Some, Result, Ok, Err, refl, ap, ◌∙◌}
use Rattle.std.specs.Prelude.{nat_le, ◌&&◌}
use Rattle.std.specs.Str.{bytes_eq}
use Rattle.cry_base.specs.Layout.{batch_len, header_len}
use Rattle.cry_base.specs.Limits.{most_store_bytes}
use Rattle.chacha_seal.specs.Sealing.{veil_of, masked}
use Rattle.commit_journal.specs.declared.head.Head.{Head}
use Rattle.commit_journal.specs.declared.past.Past.{Past}
use Rattle.commit_journal.specs.Answering.{Fault, Damaged, Tampered, and_then}
use Rattle.commit_journal.specs.Log.{PlainTurn, head_of, is_batch, tag_due, tag_in, payload_in, body_of, placed_body, turn_of, head_at, before, goes_on, start_at}
use Rattle.commit_journal.specs.Logs.{walk_at, turn_by, recovered_turn, tagged_recovered, writer_log}
use Rattle.commit_journal.specs.Opening.{OwnedLog, ends_here, owned_head, owned_turn, owned_at, owned_before, owned_log, opening_verdict}
use Rattle.commit_journal.specs.Placed.{PlainBody, PlainPlaced}
use Rattle.commit_journal.proofs.Walks.{turn_none}

-- a log with its batches alone
abbrev pub batches_alone : Result OwnedLog Fault → Result (List PlainPlaced) Fault
batches_alone log = and_then log (λ (l : OwnedLog). Ok l.placed)

-- a turn of a walk that may end before a closed gate alone
abbrev as_turn : Result PlainTurn Fault → Result (Option PlainTurn) Fault
as_turn (Ok turn) = Ok (Some turn)
as_turn (Err fault) = Err fault

-- ---- one turn

first_of_two : (a b : Bool) → (a && b) ≡ true → a ≡ true
first_of_two true b is = refl
first_of_two false b is = absurd (cc)

second_of_two : (a b : Bool) → (a && b) ≡ true → b ≡ true
second_of_two true b is = is
second_of_two false b is = absurd (cc)

-- a batch ends within the largest store
ends_within : (past : Past) (head : Head) (left : ℕ) → is_batch past head left ≡ true → nat_le (past.at + (batch_len + head.size)) most_store_bytes ≡ true
unfolding is_batch
ends_within past head left is = first_of_two (nat_le (past.at + (batch_len + head.size)) most_store_bytes) _ (second_of_two (nat_le (batch_len + head.size) left) _ is)

head_tested : (past : Past) (head : Head) (left : ℕ) (test : Bool) → is_batch past head left ≡ test →
    and_then (cond test (Ok head) (Err (Damaged past.at))) (λ (h : Head). cond (nat_le (past.at + (batch_len + h.size)) most_store_bytes) (Ok h) (Err (Damaged past.at)))
    ≡ cond test (Ok head) (Err (Damaged past.at))
unfolding and_then
head_tested past head left true is = rw (ends_within past head left is) refl
head_tested past head left false is = refl

pub same_head : (past : Past) (rest : List ℕ) → owned_head most_store_bytes past rest ≡ head_at past rest
unfolding owned_head head_at
same_head past rest = head_tested past (head_of (take 13 rest)) (length rest) (is_batch past (head_of (take 13 rest)) (length rest)) refl

same_body : (past : Past) (head : Head) (batch : List ℕ) (body : Result PlainBody Fault) →
    as_turn (and_then body (λ b. Ok (turn_of past head batch b))) ≡ and_then body (λ b. Ok (Some (turn_of past head batch b)))
unfolding and_then
same_body past head batch (Ok body) = refl
same_body past head batch (Err fault) = refl

-- a turn that comes only where a test holds
if_tested : (test : Bool) (turn : Result PlainTurn Fault) (same : Result (Option PlainTurn) Fault) (fault : Fault) → as_turn turn ≡ same →
    as_turn (cond test turn (Err fault)) ≡ cond test same (Err fault)
if_tested true turn same fault is = is
if_tested false turn same fault is = refl

same_batch : (owner : List ℕ) (past : Past) (head : Head) (batch : List ℕ) → as_turn (owned_turn owner past head batch) ≡ tagged_recovered owner past head batch
unfolding owned_turn tagged_recovered recovered_turn
same_batch owner past head batch =
    let body = placed_body past (body_of head (masked (veil_of owner head.epoch.0 head.number) (payload_in head.size batch))) in
    if_tested (bytes_eq (tag_due owner past.tag head.size batch) (tag_in head.size batch))
    (and_then body (λ b. Ok (turn_of past head batch b)))
    (and_then body (λ b. Ok (Some (turn_of past head batch b))))
    (Tampered head.number (past.at + 77 + head.size))
    (same_body past head batch body)

behind_head : (owner : List ℕ) (past : Past) (rest : List ℕ) (head : Result Head Fault) →
    as_turn (and_then head (λ h. owned_turn owner past h (take (batch_len + h.size) rest))) ≡ and_then head (λ h. tagged_recovered owner past h (take (batch_len + h.size) rest))
unfolding and_then
behind_head owner past rest (Ok head) = same_batch owner past head (take (batch_len + head.size) rest)
behind_head owner past rest (Err fault) = refl

same_turn : (owner : List ℕ) (past : Past) (rest : List ℕ) → as_turn (owned_at most_store_bytes owner past rest) ≡ turn_by (tagged_recovered owner) past rest
unfolding owned_at turn_by
same_turn owner past rest =
    ap (λ h. as_turn (and_then h (λ (head : Head). owned_turn owner past head (take (batch_len + head.size) rest)))) (same_head past rest)
    ∙ behind_head owner past rest (head_at past rest)

-- ---- the walk

placed_before : (front : List PlainPlaced) (log : Result OwnedLog Fault) → batches_alone (owned_before front log) ≡ before front (batches_alone log)
unfolding and_then owned_before before
placed_before front (Ok log) = refl
placed_before front (Err fault) = refl

-- the rest has ended: no batch stands there
same_end : (past : Past) (test : Bool) (turn : Result PlainTurn Fault) → as_turn turn ≡ Err (Damaged past.at) →
    batches_alone (cond test (and_then turn (λ _. Ok (ends_here past))) (Ok (ends_here past))) ≡ cond test (goes_on (as_turn turn) (λ _. Ok [])) (Ok [])
unfolding and_then goes_on
same_end past true (Ok turn) none = absurd (cc)
same_end past true (Err fault) none = refl
same_end past false turn none = refl

abbrev IsSameWalk : List ℕ → List ℕ → Type 0
IsSameWalk owner rest = (past : Past) (skip : ℕ) → batches_alone (owned_log most_store_bytes owner past skip rest) ≡ walk_at (turn_by (tagged_recovered owner)) past skip rest

same_step : (owner : List ℕ) (past : Past) (rest : List ℕ) (turn : Result PlainTurn Fault) → IsSameWalk owner rest →
    batches_alone (and_then turn (λ t. owned_before (t.placed ∷ []) (owned_log most_store_bytes owner t.past (t.past.at - (past.at + 1)) rest)))
    ≡ goes_on (as_turn turn) (λ t. walk_at (turn_by (tagged_recovered owner)) t.past (t.past.at - (past.at + 1)) rest)
unfolding and_then goes_on
same_step owner past rest (Ok turn) same =
    placed_before (turn.placed ∷ []) (owned_log most_store_bytes owner turn.past (turn.past.at - (past.at + 1)) rest)
    ∙ ap (before (turn.placed ∷ [])) (same turn.past (turn.past.at - (past.at + 1)))
same_step owner past rest (Err fault) same = refl

-- a step that comes only where the gate is open
if_open : (past : Past) (test : Bool) (log : Result OwnedLog Fault) (placed : Result (List PlainPlaced) Fault) → batches_alone log ≡ placed →
    batches_alone (cond test log (Ok (ends_here past))) ≡ cond test placed (Ok [])
unfolding and_then
if_open past true log placed is = is
if_open past false log placed is = refl

passed : (owner : List ℕ) (byte : ℕ) (rest : List ℕ) (past : Past) (skip : ℕ) → IsSameWalk owner rest →
    batches_alone (owned_log most_store_bytes owner past skip (byte ∷ rest)) ≡ walk_at (turn_by (tagged_recovered owner)) past skip (byte ∷ rest)
unfolding owned_log walk_at
passed owner byte rest past (suc skip) same = same past skip
passed owner byte rest past zero same =
    let turns = turn_by (tagged_recovered owner) in
    if_open past (eqb past.gate 1)
    (and_then (owned_at most_store_bytes owner past (byte ∷ rest)) (λ t. owned_before (t.placed ∷ []) (owned_log most_store_bytes owner t.past (t.past.at - (past.at + 1)) rest)))
    (goes_on (turns past (byte ∷ rest)) (λ t. walk_at turns t.past (t.past.at - (past.at + 1)) rest))
    (same_step owner past rest (owned_at most_store_bytes owner past (byte ∷ rest)) same
    ∙ ap (λ t. goes_on t (λ next. walk_at turns next.past (next.past.at - (past.at + 1)) rest)) (same_turn owner past (byte ∷ rest)))

same_walk : (owner rest : List ℕ) → IsSameWalk owner rest
unfolding owned_log walk_at
same_walk owner [] = λ past skip.
    same_end past (eqb past.gate 1) (owned_at most_store_bytes owner past []) (same_turn owner past [] ∙ turn_none (tagged_recovered owner) past)
    ∙ ap (λ t. cond (eqb past.gate 1) (goes_on t (λ _. Ok [])) (Ok [])) (same_turn owner past [])
same_walk owner (byte ∷ rest) = λ past skip. passed owner byte rest past skip (same_walk owner rest)

-- ---- the whole image

same_start : (owner rest : List ℕ) (start : Result Past Fault) →
    batches_alone (and_then start (λ past. owned_log most_store_bytes owner past 0 rest)) ≡ and_then start (λ past. walk_at (turn_by (tagged_recovered owner)) past 0 rest)
unfolding and_then
same_start owner rest (Ok past) = same_walk owner rest past 0
same_start owner rest (Err fault) = refl

pub opened_as_read : (owner bytes : List ℕ) → batches_alone (opening_verdict most_store_bytes owner bytes) ≡ writer_log owner bytes
unfolding opening_verdict writer_log
opened_as_read owner bytes = same_start owner (drop header_len bytes) (start_at owner bytes)
