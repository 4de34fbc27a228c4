-- A log that is opened within a store limit is the log of the owner who opens for writing.
use Rattle.std.proofs.Common.{◌≡◌, ℕ, zero, suc, ◌+◌, ◌-◌, Bool, true, false, cond, eqb, List, [], ◌∷◌, take, drop, Result, Ok, Err, refl, sym, ap, ◌∙◌}
use Rattle.std.specs.Prelude.{nat_le}
use Rattle.cry_base.specs.Layout.{batch_len, header_len}
use Rattle.cry_base.specs.Limits.{most_store_bytes}
use Rattle.commit_journal.specs.declared.head.Head.{Head}
use Rattle.commit_journal.specs.declared.past.Past.{Past}
use Rattle.commit_journal.specs.Answering.{Fault, Damaged, and_then}
use Rattle.commit_journal.specs.Log.{PlainTurn, head_at, start_at}
use Rattle.commit_journal.specs.Logs.{writer_log}
use Rattle.commit_journal.specs.Opening.{OwnedLog, ends_here, owned_head, owned_turn, owned_at, owned_before, owned_log, opening_verdict}
use Rattle.commit_journal.specs.Placed.{PlainPlaced}
use Rattle.commit_journal.proofs.Followed.{and_then_ok, guard_ok}
use Rattle.commit_journal.proofs.Writers.{batches_alone, same_head, opened_as_read}

-- ---- one turn

head_wider : (limit : ℕ) (past : Past) (rest : List ℕ) (head : Head) → owned_head limit past rest ≡ Ok head → owned_head most_store_bytes past rest ≡ Ok head
unfolding owned_head
head_wider limit past rest head is =
    let step = and_then_ok (head_at past rest) (λ (h : Head). cond (nat_le (past.at + (batch_len + h.size)) limit) (Ok h) (Err (Damaged past.at))) head is in
    let guard = guard_ok (nat_le (past.at + (batch_len + step.0.size)) limit) step.0 head (Damaged past.at) step.2 in
    same_head past rest ∙ step.1 ∙ ap Ok guard.1

turn_wider : (limit : ℕ) (owner : List ℕ) (past : Past) (rest : List ℕ) (turn : PlainTurn) → owned_at limit owner past rest ≡ Ok turn → owned_at most_store_bytes owner past rest ≡ Ok turn
unfolding owned_at and_then
turn_wider limit owner past rest turn is =
    let step = and_then_ok (owned_head limit past rest) (λ (h : Head). owned_turn owner past h (take (batch_len + h.size) rest)) turn is in
    ap (λ h. and_then h (λ (head : Head). owned_turn owner past head (take (batch_len + head.size) rest))) (head_wider limit past rest step.0 step.1) ∙ step.2

-- ---- the walk

owned_before_ok : (front : List PlainPlaced) (log : Result OwnedLog Fault) (whole : OwnedLog) → owned_before front log ≡ Ok whole →
    (others : OwnedLog) × (log ≡ Ok others) × (owned_before front (Ok others) ≡ Ok whole)
unfolding owned_before
owned_before_ok front (Ok others) whole is = (others, refl, is)
owned_before_ok front (Err fault) whole is = absurd (cc)

abbrev IsWider : ℕ → List ℕ → List ℕ → Type 0
IsWider limit owner rest = (past : Past) (skip : ℕ) (log : OwnedLog) → owned_log limit owner past skip rest ≡ Ok log → owned_log most_store_bytes owner past skip rest ≡ Ok log

-- a step that comes only where the gate is open
if_open : (past : Past) (test : Bool) (log wider : Result OwnedLog Fault) (whole : OwnedLog) → (log ≡ Ok whole → wider ≡ Ok whole) →
    cond test log (Ok (ends_here past)) ≡ Ok whole → cond test wider (Ok (ends_here past)) ≡ Ok whole
if_open past true log wider whole more is = more is
if_open past false log wider whole more is = is

ends_wider : (limit : ℕ) (owner : List ℕ) (past : Past) (whole : OwnedLog) →
    and_then (owned_at limit owner past []) (λ _. Ok (ends_here past)) ≡ Ok whole → and_then (owned_at most_store_bytes owner past []) (λ _. Ok (ends_here past)) ≡ Ok whole
unfolding and_then
ends_wider limit owner past whole is =
    let step = and_then_ok (owned_at limit owner past []) (λ _. Ok (ends_here past)) whole is in
    rw (turn_wider limit owner past [] step.0 step.1) step.2

step_wider : (limit : ℕ) (owner : List ℕ) (past : Past) (byte : ℕ) (rest : List ℕ) (whole : OwnedLog) → IsWider limit owner rest →
    and_then (owned_at limit owner past (byte ∷ rest)) (λ t. owned_before (t.placed ∷ []) (owned_log limit owner t.past (t.past.at - (past.at + 1)) rest)) ≡ Ok whole →
    and_then (owned_at most_store_bytes owner past (byte ∷ rest)) (λ t. owned_before (t.placed ∷ []) (owned_log most_store_bytes owner t.past (t.past.at - (past.at + 1)) rest)) ≡ Ok whole
unfolding and_then
step_wider limit owner past byte rest whole more is =
    let step =
    and_then_ok (owned_at limit owner past (byte ∷ rest)) (λ (t : PlainTurn). owned_before (t.placed ∷ []) (owned_log limit owner t.past (t.past.at - (past.at + 1)) rest)) whole is
    in
    let turn = step.0 in
    let others = owned_before_ok (turn.placed ∷ []) (owned_log limit owner turn.past (turn.past.at - (past.at + 1)) rest) whole step.2 in
    let wider = more turn.past (turn.past.at - (past.at + 1)) others.0 others.1 in
    ap (λ r. and_then r (λ (t : PlainTurn). owned_before (t.placed ∷ []) (owned_log most_store_bytes owner t.past (t.past.at - (past.at + 1)) rest)))
    (turn_wider limit owner past (byte ∷ rest) turn step.1)
    ∙ ap (owned_before (turn.placed ∷ [])) wider
    ∙ others.2

passed_wider : (limit : ℕ) (owner : List ℕ) (byte : ℕ) (rest : List ℕ) (past : Past) (skip : ℕ) (whole : OwnedLog) → IsWider limit owner rest →
    owned_log limit owner past skip (byte ∷ rest) ≡ Ok whole → owned_log most_store_bytes owner past skip (byte ∷ rest) ≡ Ok whole
unfolding owned_log
passed_wider limit owner byte rest past (suc skip) whole more is = more past skip whole is
passed_wider limit owner byte rest past zero whole more is =
    if_open past (eqb past.gate 1)
    (and_then (owned_at limit owner past (byte ∷ rest)) (λ t. owned_before (t.placed ∷ []) (owned_log limit owner t.past (t.past.at - (past.at + 1)) rest)))
    (and_then (owned_at most_store_bytes owner past (byte ∷ rest)) (λ t. owned_before (t.placed ∷ []) (owned_log most_store_bytes owner t.past (t.past.at - (past.at + 1)) rest)))
    whole (step_wider limit owner past byte rest whole more) is

walk_wider : (limit : ℕ) (owner rest : List ℕ) → IsWider limit owner rest
unfolding owned_log
walk_wider limit owner [] = λ past skip whole is.
    if_open past (eqb past.gate 1) (and_then (owned_at limit owner past []) (λ _. Ok (ends_here past))) (and_then (owned_at most_store_bytes owner past []) (λ _. Ok (ends_here past)))
    whole (ends_wider limit owner past whole) is
walk_wider limit owner (byte ∷ rest) = λ past skip whole is. passed_wider limit owner byte rest past skip whole (walk_wider limit owner rest) is

-- ---- the whole image

verdict_wider : (limit : ℕ) (owner bytes : List ℕ) (log : OwnedLog) → opening_verdict limit owner bytes ≡ Ok log → opening_verdict most_store_bytes owner bytes ≡ Ok log
unfolding opening_verdict and_then
verdict_wider limit owner bytes log is =
    let step = and_then_ok (start_at owner bytes) (λ past. owned_log limit owner past 0 (drop header_len bytes)) log is in
    ap (λ p. and_then p (λ past. owned_log most_store_bytes owner past 0 (drop header_len bytes))) step.1 ∙ walk_wider limit owner (drop header_len bytes) step.0 0 log step.2

pub opened_is_written : (limit : ℕ) (owner bytes : List ℕ) (log : OwnedLog) → opening_verdict limit owner bytes ≡ Ok log → writer_log owner bytes ≡ Ok log.placed
unfolding and_then
opened_is_written limit owner bytes log is = sym (opened_as_read owner bytes) ∙ ap batches_alone (verdict_wider limit owner bytes log is)
