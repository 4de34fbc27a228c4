-- The batches of a log stand one behind another, each behind its open gate.
use Rattle.std.proofs.Common.{◌≡◌, ℕ, ◌+◌, ◌-◌, ◌≤◌, Bool, true, false, cond, eqb, ◌*◌, List, [], ◌∷◌, ◌++◌, length, take, drop, Result, Ok, Err, sym, ap, ◌∙◌, arith}
use Rattle.std.specs.Prelude.{slice_index}
use Rattle.std.specs.Str.{bytes_eq}
use Rattle.std.proofs.lemmas.Bool.{eqb-true}
use Rattle.std.proofs.lemmas.List.{places}
use Rattle.cry_base.specs.Layout.{batch_len, header_len}
use Rattle.batch_log.specs.Steps.{IsGatedAt}
use Rattle.chacha_seal.specs.Sealing.{masked, veil_of}
use Rattle.commit_journal.specs.declared.head.Head.{Head}
use Rattle.commit_journal.specs.declared.past.Past.{Past}
use Rattle.commit_journal.specs.Answering.{Fault, Tampered, and_then}
use Rattle.commit_journal.specs.Log.{PlainTurn, body_of, payload_in, placed_body, tag_due, tag_in, turn_of}
use Rattle.commit_journal.specs.Opening.{AreGated, owned_at, owned_head, owned_turn}
use Rattle.commit_journal.specs.Placed.{PlainBody, PlainPlaced}
use Rattle.commit_journal.proofs.Followed.{and_then_ok}

-- the same as `AreGated`, where the last one ends by this place
abbrev pub AreGatedTo : ℕ → List PlainPlaced → ℕ → List ℕ → Type 0
AreGatedTo from [] end bytes = from ≤ end
AreGatedTo from (p ∷ ps) end bytes = (from + 45 ≤ p.place) × IsGatedAt (p.place - 45) batch_len bytes × AreGatedTo (p.place + 65) ps end bytes

-- one batch more
pub gated_more : (front : List PlainPlaced) (from end next : ℕ) (p : PlainPlaced) (bytes : List ℕ) → 1 ≤ end → p.place ≡ end + 45 → slice_index bytes (end - 1) ≡ 1 → end + batch_len ≤ next →
    next ≤ length bytes → AreGatedTo from front end bytes → AreGatedTo from (front ++ p ∷ []) next bytes
gated_more [] from end next p bytes behind at opened ahead inside before = (
  omega (arith, at, before),
  (let place : p.place - 45 ≡ end = omega (arith, at) in
      (let is : IsGatedAt (p.place - 45) batch_len bytes = record {
        opened = ap (λ n. slice_index bytes (n - 1)) place ∙ opened;
        inside = omega (arith, place, ahead, inside);
      } in is)),
  omega (arith, at, ahead),
)
gated_more (q ∷ front) from end next p bytes behind at opened ahead inside before =
    (before.0, before.1, gated_more front (q.place + 65) end next p bytes behind at opened ahead inside before.2)

pub gated_all : (ps : List PlainPlaced) (from end : ℕ) (bytes : List ℕ) → AreGatedTo from ps end bytes → AreGated from ps bytes
gated_all [] from end bytes gated = tt
gated_all (p ∷ ps) from end bytes gated = (gated.0, gated.1, gated_all ps (p.place + 65) end bytes gated.2)

-- the gate behind a batch that was read
turn_ends : (test : Bool) (past : Past) (head : Head) (batch : List ℕ) (read : Result PlainBody Fault) (fault : Fault) (turn : PlainTurn) →
    cond test (and_then read (λ body. Ok (turn_of past head batch body))) (Err fault) ≡ Ok turn →
    (turn.past.at ≡ past.at + (batch_len + head.size)) × (turn.past.gate ≡ slice_index batch (109 + head.size))
turn_ends true past head batch read fault turn is =
    let step = and_then_ok read (λ (body : PlainBody). Ok (turn_of past head batch body)) turn is in
    let same : turn_of past head batch step.0 ≡ turn = let both = step.2 in cc in
    (sym (ap (λ (t : PlainTurn). t.past.at) same), sym (ap (λ (t : PlainTurn). t.past.gate) same))
turn_ends false past head batch read fault turn is = absurd (cc)

pub gate_behind : (limit : ℕ) (owner s : List ℕ) (past : Past) (turn : PlainTurn) → owned_at limit owner past (drop past.at s) ≡ Ok turn → turn.past.at ≤ length s →
    slice_index s (turn.past.at - 1) ≡ turn.past.gate
unfolding owned_at owned_turn
gate_behind limit owner s past turn is inside =
    let rest = drop past.at s in
    let step = and_then_ok (owned_head limit past rest) (λ (h : Head). owned_turn owner past h (take (batch_len + h.size) rest)) turn is in
    let head = step.0 in
    let batch = take (batch_len + head.size) rest in
    let ends = turn_ends (bytes_eq (tag_due owner past.tag head.size batch) (tag_in head.size batch)) past head batch
    (placed_body past (body_of head (masked (veil_of owner head.epoch.0 head.number) (payload_in head.size batch)))) (Tampered head.number (past.at + 77 + head.size)) turn step.2 in
    let place : turn.past.at - 1 ≡ past.at + (109 + head.size) = omega (arith, ends.0) in
    let long : past.at + (batch_len + head.size) ≤ length s = omega (arith, ends.0, inside) in
    let there : slice_index (take (batch_len + head.size) (drop past.at s)) (109 + head.size) ≡ slice_index s (past.at + (109 + head.size)) = grind (arith, places) in
    ap (λ n. slice_index s n) place ∙ sym (ends.1 ∙ there)

-- behind the header
pub gated_start : (past : Past) (s : List ℕ) → past.at ≡ header_len → slice_index s 41 ≡ past.gate → AreGatedTo header_len [] past.at s × (slice_index s (past.at - 1) ≡ past.gate)
gated_start past s at gate = (omega (arith, at), ap (λ n. slice_index s (n - 1)) at ∙ gate)

-- and a batch further on
pub gated_turn : (limit : ℕ) (owner s : List ℕ) (front : List PlainPlaced) (past : Past) (turn : PlainTurn) → eqb past.gate 1 ≡ true → owned_at limit owner past (drop past.at s) ≡ Ok turn →
    turn.placed.place ≡ past.at + 45 → past.at + batch_len ≤ turn.past.at → turn.past.at ≤ length s → header_len + batch_len * past.number ≤ past.at →
    AreGatedTo header_len front past.at s × (slice_index s (past.at - 1) ≡ past.gate) →
    AreGatedTo header_len (front ++ turn.placed ∷ []) turn.past.at s × (slice_index s (turn.past.at - 1) ≡ turn.past.gate)
gated_turn limit owner s front past turn open_gate is place ahead inside behind before = (
  gated_more front header_len past.at turn.past.at turn.placed s (omega (arith, behind)) place (before.1 ∙ eqb-true past.gate 1 open_gate) ahead inside before.0,
  gate_behind limit owner s past turn is inside,
)
