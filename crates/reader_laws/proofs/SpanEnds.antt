-- What is opened for writing is known behind the last batch that is read.
use Rattle.std.proofs.Common.{◌≡◌, ◌≢◌, ℕ, zero, suc, ◌+◌, ◌-◌, ◌<◌, true, false, eqb, eq-eqb, List, [], ◌∷◌, drop, Option, None, Some, Result, Ok, Err, refl, sym, ap, subst, ◌∙◌, arith}
use Rattle.std.proofs.lemmas.List.{drop-drop}
use Rattle.cry_base.specs.Layout.{header_len}
use Rattle.commit_journal.specs.Answering.{Fault, Damaged, and_then}
use Rattle.commit_journal.specs.Log.{PlainTurn}
use Rattle.commit_journal.specs.Opening.{OwnedLog, ends_here, opening_verdict, owned_at, owned_before, owned_log}
use Rattle.commit_journal.specs.Placed.{PlainPlaced}
use Rattle.commit_journal.proofs.Walks.{turn_none}
use Rattle.commit_journal.proofs.Writers.{batches_alone}
use Rattle.reader_laws.specs.Spans.{AreRead, Closed, EndsBehind, Failed, Hidden, IsAnswer, NoStore, OtherKey, OwnerWrites, Passes, Span, behind, last_span}
use Rattle.reader_laws.proofs.SpanLogs.{answer_told, last_is, reads_all, starts_with}
use Rattle.reader_laws.proofs.SpanOpened.{as_turn, same_turn}
use Rattle.reader_laws.proofs.SpanTurns.{Past, gate_told, judge_of, past_behind, turn_passes}
use Rattle.reader_laws.proofs.SpanWalks.{Reads, last_of}

is_turn : (read : Result PlainTurn Fault) (turn : PlainTurn) → as_turn read ≡ Ok (Some turn) → read ≡ Ok turn
is_turn (Ok t) turn is = let same : t ≡ turn = cc in ap (λ (x : PlainTurn). Ok x) same
is_turn (Err fault) turn is = absurd (cc)

module _ (limit : ℕ) (owner bytes : List ℕ) where
  owned-skip : (past : Past) (skip : ℕ) (rest : List ℕ) → owned_log limit owner past skip rest ≡ owned_log limit owner past 0 (drop skip rest)
  unfolding owned_log
  owned-skip past zero [] = refl
  owned-skip past (suc skip) [] = refl
  owned-skip past zero (byte ∷ rest) = refl
  owned-skip past (suc skip) (byte ∷ rest) = owned-skip past skip rest

  owned_over : (past : Past) (rest : List ℕ) (turn : PlainTurn) → eqb past.gate 1 ≡ true → owned_at limit owner past rest ≡ Ok turn → past.at < turn.past.at →
      owned_log limit owner past 0 rest ≡ owned_before (turn.placed ∷ []) (owned_log limit owner turn.past 0 (drop (turn.past.at - past.at) rest))
  unfolding owned_log and_then
  owned_over past [] turn gate is ahead =
      let wrong : Ok (Some turn) ≡ Err (Damaged past.at) =
      ap as_turn (sym is) ∙ same_turn limit owner past [] ∙ turn_none (judge_of (OwnerWrites owner limit)) past
      in
      absurd (cc)
  owned_over past (byte ∷ rest) turn gate is ahead =
      let far : turn.past.at - past.at ≡ suc (turn.past.at - (past.at + 1)) = omega arith in
      rw (gate, is, far) (ap (owned_before (turn.placed ∷ [])) (owned-skip turn.past (turn.past.at - (past.at + 1)) rest))

  owned_shut : (past : Past) (rest : List ℕ) → eqb past.gate 1 ≡ false → owned_log limit owner past 0 rest ≡ Ok (ends_here past)
  unfolding owned_log
  owned_shut past [] gate = rw gate refl
  owned_shut past (byte ∷ rest) gate = rw gate refl

  abbrev owned_behind : Option Span → Result OwnedLog Fault
  owned_behind b = owned_log limit owner (past_behind bytes b) 0 (drop (behind bytes b).at bytes)

  owned_more : (b : Option Span) (s : Span) (p : PlainPlaced) → Passes (OwnerWrites owner limit) bytes b s p → owned_behind b ≡ owned_before (p ∷ []) (owned_behind (Some s))
  owned_more b s p passes =
      let follows = passes.follows in
      let start = follows.start in
      let ahead : (behind bytes b).at < (behind bytes (Some s)).at = omega arith in
      let turn : PlainTurn = record { placed = p; past = past_behind bytes (Some s) } in
      let left = drop (behind bytes b).at bytes in
      owned_over (past_behind bytes b) left turn (eq-eqb (behind bytes b).gate 1 follows.opened)
      (is_turn (owned_at limit owner (past_behind bytes b) left) turn (same_turn limit owner (past_behind bytes b) left ∙ turn_passes (OwnerWrites owner limit) bytes b s p passes)) ahead
      ∙ ap (λ (rest : List ℕ). owned_before (p ∷ []) (owned_log limit owner (past_behind bytes (Some s)) 0 rest))
      (drop-drop ((behind bytes (Some s)).at - (behind bytes b).at) (behind bytes b).at bytes ∙ ap (λ n. drop n bytes) (omega arith))

  owned_read : (spans : List Span) (b : Option Span) (log : List PlainPlaced) → Reads (OwnerWrites owner limit) bytes b spans log → eqb (behind bytes (last_of b spans)).gate 1 ≡ false →
      owned_behind b ≡ Ok (record (ends_here (past_behind bytes (last_of b spans))) { placed = log })
  unfolding owned_before
  owned_read [] b [] are shut = owned_shut (past_behind bytes b) (drop (behind bytes b).at bytes) shut
  owned_read [] b (p ∷ log) are shut = absurd are
  owned_read (s ∷ spans) b [] are shut = absurd are
  owned_read (s ∷ spans) b (p ∷ log) are shut = owned_more b s p are.0 ∙ ap (owned_before (p ∷ [])) (owned_read spans (Some s) log are.1 shut)

  -- ---- the whole image

  opened_is : (spans : List Span) (log : List PlainPlaced) → AreRead (OwnerWrites owner limit) bytes spans log → (behind bytes (last_span spans)).gate ≢ 1 →
      opening_verdict limit owner bytes ≡ Ok (record (ends_here (past_behind bytes (last_span spans))) { placed = log })
  unfolding opening_verdict and_then
  opened_is spans log are shut =
      ap (λ (start : Result Past Fault). and_then start (λ past. owned_log limit owner past 0 (drop header_len bytes))) (starts_with (OwnerWrites owner limit) bytes are.store are.checked)
      ∙ owned_read spans None log (reads_all (OwnerWrites owner limit) bytes spans log are)
      (gate_told (behind bytes (last_of None spans)).gate (subst (λ (b : Option Span). (behind bytes b).gate ≢ 1) (last_is spans) shut))
      ∙ ap (λ (b : Option Span). Ok (record (ends_here (past_behind bytes b)) { placed = log })) (sym (last_is spans))

  ends_of : (spans : List Span) (log : OwnedLog) → (behind bytes (last_span spans)).gate ≢ 1 → log ≡ record (ends_here (past_behind bytes (last_span spans))) { placed = log.placed } →
      EndsBehind bytes spans log
  ends_of spans log shut is = record {
    closed = shut;
    batches = ap (λ (l : OwnedLog). l.batches) is;
    epoch = ap (λ (l : OwnedLog). l.epoch) is;
    end = ap (λ (l : OwnedLog). l.end) is;
    tag = ap (λ (l : OwnedLog). l.tag) is;
  }

  opened_ends : (log : OwnedLog) → opening_verdict limit owner bytes ≡ Ok log → IsAnswer (OwnerWrites owner limit) bytes (Ok log.placed) →
      (spans : List Span) × AreRead (OwnerWrites owner limit) bytes spans log.placed × EndsBehind bytes spans log
  opened_ends log is (NoStore none so) = absurd (cc)
  opened_ends log is (OtherKey store other so) = absurd (cc)
  opened_ends log is (Hidden spans others are s hidden so) = absurd (hidden.hidden tt)
  opened_ends log is (Failed spans others are s follows fault fails so) = absurd (cc)
  opened_ends log is (Closed spans others are shut so) =
      let same : others ≡ log.placed = cc in
      let read = subst (AreRead (OwnerWrites owner limit) bytes spans) same are in
      let whole = sym is ∙ opened_is spans log.placed read shut in
      let one : log ≡ record (ends_here (past_behind bytes (last_span spans))) { placed = log.placed } = cc in
      (spans, read, ends_of spans log shut one)

  pub opened_told : (log : OwnedLog) → opening_verdict limit owner bytes ≡ Ok log →
      (spans : List Span) × AreRead (OwnerWrites owner limit) bytes spans log.placed × EndsBehind bytes spans log
  unfolding and_then
  opened_told log is =
      opened_ends log is (subst (λ (r : Result OwnedLog Fault). IsAnswer (OwnerWrites owner limit) bytes (batches_alone r)) is (answer_told (OwnerWrites owner limit) bytes))

  all_fields : (log : OwnedLog) (batches epoch end : ℕ) (tag : List ℕ) → log.batches ≡ batches → log.epoch ≡ epoch → log.end ≡ end → log.tag ≡ tag →
      (let l : OwnedLog = record { placed = log.placed; batches = batches; epoch = epoch; end = end; tag = tag } in l) ≡ log
  all_fields log batches epoch end tag one two three four = rw (← one, ← two, ← three, ← four) refl

  pub opened_back : (log : OwnedLog) (spans : List Span) → AreRead (OwnerWrites owner limit) bytes spans log.placed → EndsBehind bytes spans log → opening_verdict limit owner bytes ≡ Ok log
  opened_back log spans are ends =
      let k = behind bytes (last_span spans) in
      opened_is spans log.placed are ends.closed ∙ ap (λ (l : OwnedLog). Ok l) (all_fields log k.number k.epoch.0 k.at k.tag ends.batches ends.epoch ends.end ends.tag)
