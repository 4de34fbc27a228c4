-- What is opened for writing within a limit is the log of a walk whose turns test that limit too.
use Rattle.std.proofs.Common.{◌≡◌, ℕ, zero, suc, ◌+◌, ◌-◌, Bool, true, false, cond, eqb, List, [], ◌∷◌, take, drop, Option, Some, Result, Ok, Err, refl, ap, ◌∙◌}
use Rattle.std.specs.Prelude.{nat_le}
use Rattle.std.specs.Str.{bytes_eq}
use Rattle.cry_base.specs.Layout.{batch_len, header_len}
use Rattle.chacha_seal.specs.Sealing.{masked, veil_of}
use Rattle.commit_journal.specs.Answering.{Fault, Damaged, Tampered, and_then}
use Rattle.commit_journal.specs.Log.{PlainTurn, before, body_of, goes_on, head_at, payload_in, placed_body, start_at, tag_due, tag_in, turn_of}
use Rattle.commit_journal.specs.Logs.{recovered_turn, tagged_recovered, turn_by, walk_at}
use Rattle.commit_journal.specs.Opening.{OwnedLog, ends_here, opening_verdict, owned_at, owned_before, owned_head, owned_log, owned_turn}
use Rattle.commit_journal.specs.Placed.{PlainBody, PlainPlaced}
use Rattle.commit_journal.proofs.Walks.{turn_none}
use Rattle.commit_journal.proofs.Writers.{batches_alone}
use Rattle.reader_laws.specs.Spans.{OwnerWrites}
use Rattle.reader_laws.proofs.SpanTurns.{Head, Past, judge_of}

-- a turn of a walk that may end before a closed gate alone
abbrev pub as_turn : Result PlainTurn Fault → Result (Option PlainTurn) Fault
as_turn (Ok turn) = Ok (Some turn)
as_turn (Err fault) = Err fault

-- ---- one turn

same_body : (past : Past) (head : Head) (batch : List ℕ) (body : Result PlainBody Fault) →
    as_turn (and_then body (λ b. Ok (turn_of past head batch b))) ≡ and_then body (λ b. Ok (Some (turn_of past head batch b)))
unfolding and_then
same_body past head batch (Ok body) = refl
same_body past head batch (Err fault) = refl

-- a turn that comes only where a test holds
if_tested : (test : Bool) (turn : Result PlainTurn Fault) (same : Result (Option PlainTurn) Fault) (fault : Fault) → as_turn turn ≡ same →
    as_turn (cond test turn (Err fault)) ≡ cond test same (Err fault)
if_tested true turn same fault is = is
if_tested false turn same fault is = refl

same_batch : (owner : List ℕ) (past : Past) (head : Head) (batch : List ℕ) → as_turn (owned_turn owner past head batch) ≡ tagged_recovered owner past head batch
unfolding owned_turn tagged_recovered recovered_turn
same_batch owner past head batch =
    let body = placed_body past (body_of head (masked (veil_of owner head.epoch.0 head.number) (payload_in head.size batch))) in
    if_tested (bytes_eq (tag_due owner past.tag head.size batch) (tag_in head.size batch))
    (and_then body (λ b. Ok (turn_of past head batch b)))
    (and_then body (λ b. Ok (Some (turn_of past head batch b))))
    (Tampered head.number (past.at + 77 + head.size))
    (same_body past head batch body)

-- the batch of a head that is within the limit
if_within : (test : Bool) (owner : List ℕ) (past : Past) (head : Head) (rest : List ℕ) →
    as_turn (and_then (cond test (Ok head) (Err (Damaged past.at))) (λ (h : Head). owned_turn owner past h (take (batch_len + h.size) rest)))
    ≡ cond test (tagged_recovered owner past head (take (batch_len + head.size) rest)) (Err (Damaged past.at))
unfolding and_then
if_within true owner past head rest = same_batch owner past head (take (batch_len + head.size) rest)
if_within false owner past head rest = refl

module _ (limit : ℕ) (owner : List ℕ) where
  behind_head : (past : Past) (rest : List ℕ) (head : Result Head Fault) →
      as_turn (and_then (and_then head (λ (h : Head). cond (nat_le (past.at + (batch_len + h.size)) limit) (Ok h) (Err (Damaged past.at)))) (λ (h : Head). owned_turn owner past h (take (batch_len + h.size) rest)))
      ≡ and_then head (λ h. judge_of (OwnerWrites owner limit) past h (take (batch_len + h.size) rest))
  unfolding and_then
  behind_head past rest (Ok head) = if_within (nat_le (past.at + (batch_len + head.size)) limit) owner past head rest
  behind_head past rest (Err fault) = refl

  pub same_turn : (past : Past) (rest : List ℕ) → as_turn (owned_at limit owner past rest) ≡ turn_by (judge_of (OwnerWrites owner limit)) past rest
  unfolding owned_at owned_head turn_by
  same_turn past rest = behind_head past rest (head_at past rest)

  -- ---- the walk

  placed_before : (front : List PlainPlaced) (log : Result OwnedLog Fault) → batches_alone (owned_before front log) ≡ before front (batches_alone log)
  unfolding and_then owned_before before
  placed_before front (Ok log) = refl
  placed_before front (Err fault) = refl

  -- the rest has ended: no batch stands there
  same_end : (past : Past) (test : Bool) (turn : Result PlainTurn Fault) → as_turn turn ≡ Err (Damaged past.at) →
      batches_alone (cond test (and_then turn (λ _. Ok (ends_here past))) (Ok (ends_here past))) ≡ cond test (goes_on (as_turn turn) (λ _. Ok [])) (Ok [])
  unfolding and_then goes_on
  same_end past true (Ok turn) none = absurd (cc)
  same_end past true (Err fault) none = refl
  same_end past false turn none = refl

  abbrev IsSameWalk : List ℕ → Type 0
  IsSameWalk rest = (past : Past) (skip : ℕ) → batches_alone (owned_log limit owner past skip rest) ≡ walk_at (turn_by (judge_of (OwnerWrites owner limit))) past skip rest

  same_step : (past : Past) (rest : List ℕ) (turn : Result PlainTurn Fault) → IsSameWalk rest →
      batches_alone (and_then turn (λ t. owned_before (t.placed ∷ []) (owned_log limit owner t.past (t.past.at - (past.at + 1)) rest)))
      ≡ goes_on (as_turn turn) (λ t. walk_at (turn_by (judge_of (OwnerWrites owner limit))) t.past (t.past.at - (past.at + 1)) rest)
  unfolding and_then goes_on
  same_step past rest (Ok turn) same =
      placed_before (turn.placed ∷ []) (owned_log limit owner turn.past (turn.past.at - (past.at + 1)) rest)
      ∙ ap (before (turn.placed ∷ [])) (same turn.past (turn.past.at - (past.at + 1)))
  same_step past rest (Err fault) same = refl

  -- a step that comes only where the gate is open
  if_open : (past : Past) (test : Bool) (log : Result OwnedLog Fault) (placed : Result (List PlainPlaced) Fault) → batches_alone log ≡ placed →
      batches_alone (cond test log (Ok (ends_here past))) ≡ cond test placed (Ok [])
  unfolding and_then
  if_open past true log placed is = is
  if_open past false log placed is = refl

  passed : (byte : ℕ) (rest : List ℕ) (past : Past) (skip : ℕ) → IsSameWalk rest →
      batches_alone (owned_log limit owner past skip (byte ∷ rest)) ≡ walk_at (turn_by (judge_of (OwnerWrites owner limit))) past skip (byte ∷ rest)
  unfolding owned_log walk_at
  passed byte rest past (suc skip) same = same past skip
  passed byte rest past zero same =
      let walks = turn_by (judge_of (OwnerWrites owner limit)) in
      if_open past (eqb past.gate 1)
      (and_then (owned_at limit owner past (byte ∷ rest)) (λ t. owned_before (t.placed ∷ []) (owned_log limit owner t.past (t.past.at - (past.at + 1)) rest)))
      (goes_on (walks past (byte ∷ rest)) (λ t. walk_at walks t.past (t.past.at - (past.at + 1)) rest))
      (same_step past rest (owned_at limit owner past (byte ∷ rest)) same
      ∙ ap (λ t. goes_on t (λ next. walk_at walks next.past (next.past.at - (past.at + 1)) rest)) (same_turn past (byte ∷ rest)))

  same_walk : (rest : List ℕ) → IsSameWalk rest
  unfolding owned_log walk_at
  same_walk [] = λ past skip.
      same_end past (eqb past.gate 1) (owned_at limit owner past []) (same_turn past [] ∙ turn_none (judge_of (OwnerWrites owner limit)) past)
      ∙ ap (λ t. cond (eqb past.gate 1) (goes_on t (λ _. Ok [])) (Ok [])) (same_turn past [])
  same_walk (byte ∷ rest) = λ past skip. passed byte rest past skip (same_walk rest)

  same_start : (rest : List ℕ) (start : Result Past Fault) →
      batches_alone (and_then start (λ past. owned_log limit owner past 0 rest)) ≡ and_then start (λ past. walk_at (turn_by (judge_of (OwnerWrites owner limit))) past 0 rest)
  unfolding and_then
  same_start rest (Ok past) = same_walk rest past 0
  same_start rest (Err fault) = refl

  pub opened_so : (bytes : List ℕ) →
      batches_alone (opening_verdict limit owner bytes) ≡ and_then (start_at owner bytes) (λ past. walk_at (turn_by (judge_of (OwnerWrites owner limit))) past 0 (drop header_len bytes))
  unfolding opening_verdict
  opened_so bytes = same_start (drop header_len bytes) (start_at owner bytes)
