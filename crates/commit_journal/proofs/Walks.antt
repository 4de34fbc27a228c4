-- A log is read the same with more bytes behind it, however its batches are judged.
use Rattle.std.proofs.Common.{◌≡◌, ℕ, zero, suc, ◌+◌, ◌-◌, ◌≤◌, Bool, true, false, cond, eqb, List, [], ◌∷◌, ◌++◌, length, take, drop, Option, None, Some, Result, Ok, Err, refl, sym, ap, ◌∙◌, arith, length-append}
use Rattle.std.specs.Prelude.{nat_le}
use Rattle.std.proofs.lemmas.Bool.Decides.{nat_tests}
use Rattle.std.proofs.lemmas.List.{take-append-le, drop-append-le}
use Rattle.cry_base.specs.Layout.{batch_len, header_len}
use Rattle.commit_journal.specs.declared.head.Head.{Head}
use Rattle.commit_journal.specs.declared.past.Past.{Past}
use Rattle.commit_journal.specs.Answering.{Fault, NotAStore, Damaged, and_then}
use Rattle.commit_journal.specs.Log.{PlainTurn, head_of, is_batch, head_at, turn_at, published_turn, goes_on, before, log_at, start_of, start_at, log_verdict}
use Rattle.commit_journal.specs.Logs.{walk_at, turn_by, tagged_recovered, unowned_start_of, unowned_start, holder_log, writer_log}
use Rattle.commit_journal.specs.Placed.{PlainPlaced}
use Rattle.commit_journal.proofs.Followed.{and_then_ok, guard_ok, batch_inside, batch_more, before_ok, long_enough}
use Rattle.commit_journal.proofs.Judged.{head_short, head_tested}

abbrev pub Turns : Type 0
Turns = Past → List ℕ → Result (Option PlainTurn) Fault

abbrev pub Judges : Type 0
Judges = Past → Head → List ℕ → Result (Option PlainTurn) Fault

-- ---- the walk of the owner's turns is the owner's log

walk-step : (owner : List ℕ) (past : Past) (byte : ℕ) (rest : List ℕ) → ((p : Past) (n : ℕ) → walk_at (turn_at owner) p n rest ≡ log_at owner p n rest) →
    (turn : Result (Option PlainTurn) Fault) →
    goes_on turn (λ t. walk_at (turn_at owner) t.past (t.past.at - (past.at + 1)) rest) ≡ goes_on turn (λ t. log_at owner t.past (t.past.at - (past.at + 1)) rest)
unfolding goes_on
walk-step owner past byte rest same (Ok (Some t)) = ap (before (t.placed ∷ [])) (same t.past (t.past.at - (past.at + 1)))
walk-step owner past byte rest same (Ok None) = refl
walk-step owner past byte rest same (Err fault) = refl

walk_is_log : (owner rest : List ℕ) (past : Past) (skip : ℕ) → walk_at (turn_at owner) past skip rest ≡ log_at owner past skip rest
unfolding walk_at log_at
walk_is_log owner [] past skip = refl
walk_is_log owner (byte ∷ rest) past (suc skip) = walk_is_log owner rest past skip
walk_is_log owner (byte ∷ rest) past zero =
    ap (λ r. cond (eqb past.gate 1) r (Ok [])) (walk-step owner past byte rest (walk_is_log owner rest) (turn_at owner past (byte ∷ rest)))

walk-start : (owner rest : List ℕ) (start : Result Past Fault) →
    and_then start (λ past. walk_at (turn_at owner) past 0 rest) ≡ and_then start (λ past. log_at owner past 0 rest)
unfolding and_then
walk-start owner rest (Ok past) = walk_is_log owner rest past 0
walk-start owner rest (Err fault) = refl

pub owner_walks : (owner bytes : List ℕ) → and_then (start_at owner bytes) (λ past. walk_at (turn_at owner) past 0 (drop header_len bytes)) ≡ log_verdict owner bytes
unfolding log_verdict
owner_walks owner bytes = walk-start owner (drop header_len bytes) (start_at owner bytes)

-- ---- one turn

turn_ahead : (judge : Judges) (past : Past) (rest behind : List ℕ) (turn : Option PlainTurn) → turn_by judge past rest ≡ Ok turn → turn_by judge past (rest ++ behind) ≡ Ok turn
unfolding turn_by head_at and_then
turn_ahead judge past rest behind turn is =
    let head = head_of (take 13 rest) in
    let step = and_then_ok (head_at past rest) (λ h. judge past h (take (batch_len + h.size) rest)) turn is in
    let guard = guard_ok (is_batch past head (length rest)) head step.0 (Damaged past.at) step.1 in
    let inside : batch_len + head.size ≤ length rest = batch_inside past head (length rest) guard.0 in
    let first : take 13 rest ≡ take 13 (rest ++ behind) = sym (take-append-le 13 rest behind (omega arith)) in
    let test : true ≡ is_batch past head (length (rest ++ behind)) =
    sym (ap (is_batch past head) (length-append rest behind) ∙ batch_more past head (length rest) (length behind) guard.0)
    in
    let stands : head_at past (rest ++ behind) ≡ Ok head =
    head_tested past (rest ++ behind) (take 13 rest) head (length (rest ++ behind)) true first refl refl test
    in
    let whole : take (batch_len + head.size) (rest ++ behind) ≡ take (batch_len + head.size) rest = take-append-le (batch_len + head.size) rest behind inside in
    ap (λ r. and_then r (λ h. judge past h (take (batch_len + h.size) (rest ++ behind)))) stands
    ∙ ap (judge past head) whole
    ∙ ap (λ h. judge past h (take (batch_len + h.size) rest)) guard.1
    ∙ step.2

pub turn_none : (judge : Judges) (past : Past) → turn_by judge past [] ≡ Err (Damaged past.at)
unfolding turn_by and_then
turn_none judge past = rw (head_short past [] (omega arith)) refl

-- ---- the walk

pub walk-skip : (turns : Turns) (past : Past) (skip : ℕ) (rest : List ℕ) → walk_at turns past skip rest ≡ walk_at turns past 0 (drop skip rest)
unfolding walk_at
walk-skip turns past zero [] = refl
walk-skip turns past (suc skip) [] = refl
walk-skip turns past zero (byte ∷ rest) = refl
walk-skip turns past (suc skip) (byte ∷ rest) = walk-skip turns past skip rest

pub walk_shut : (turns : Turns) (past : Past) (rest : List ℕ) → eqb past.gate 1 ≡ false → walk_at turns past 0 rest ≡ Ok []
unfolding walk_at
walk_shut turns past [] gate = rw gate refl
walk_shut turns past (byte ∷ rest) gate = rw gate refl

-- what is read of the rest is read with more bytes behind it
abbrev IsReadOn : Turns → List ℕ → List ℕ → Type 0
IsReadOn turns behind rest = (past : Past) (skip : ℕ) (placed : List PlainPlaced) → walk_at turns past skip rest ≡ Ok placed → walk_at turns past skip (rest ++ behind) ≡ Ok placed

goes_on_ahead : (turns : Turns) (past : Past) (rest behind : List ℕ) (turn long : Result (Option PlainTurn) Fault) (placed : List PlainPlaced) →
    ((t : Option PlainTurn) → turn ≡ Ok t → long ≡ Ok t) → IsReadOn turns behind rest →
    goes_on turn (λ t. walk_at turns t.past (t.past.at - (past.at + 1)) rest) ≡ Ok placed →
    goes_on long (λ t. walk_at turns t.past (t.past.at - (past.at + 1)) (rest ++ behind)) ≡ Ok placed
unfolding goes_on before
goes_on_ahead turns past rest behind (Ok (Some t)) long placed same more is =
    let step = before_ok (t.placed ∷ []) (walk_at turns t.past (t.past.at - (past.at + 1)) rest) placed is in
    let others = more t.past (t.past.at - (past.at + 1)) step.0 step.1 in
    rw (same (Some t) refl, others) (ap Ok step.2)
goes_on_ahead turns past rest behind (Ok None) long placed same more is = rw (same None refl) is
goes_on_ahead turns past rest behind (Err fault) long placed same more is = absurd (cc)

step_ahead : (judge : Judges) (past : Past) (byte : ℕ) (rest behind : List ℕ) (test : Bool) (placed : List PlainPlaced) → IsReadOn (turn_by judge) behind rest →
    cond test (goes_on (turn_by judge past (byte ∷ rest)) (λ t. walk_at (turn_by judge) t.past (t.past.at - (past.at + 1)) rest)) (Ok []) ≡ Ok placed →
    cond test (goes_on (turn_by judge past (byte ∷ (rest ++ behind))) (λ t. walk_at (turn_by judge) t.past (t.past.at - (past.at + 1)) (rest ++ behind))) (Ok []) ≡ Ok placed
step_ahead judge past byte rest behind true placed more is =
    goes_on_ahead (turn_by judge) past rest behind (turn_by judge past (byte ∷ rest)) (turn_by judge past (byte ∷ (rest ++ behind))) placed
    (λ t. turn_ahead judge past (byte ∷ rest) behind t) more is
step_ahead judge past byte rest behind false placed more is = is

-- the rest has ended: only a closed gate lets the log end there
ended_ahead : (judge : Judges) (past : Past) (skip : ℕ) (behind : List ℕ) (test : Bool) (placed : List PlainPlaced) → eqb past.gate 1 ≡ test →
    cond test (goes_on (turn_by judge past []) (λ _. Ok [])) (Ok []) ≡ Ok placed → walk_at (turn_by judge) past skip behind ≡ Ok placed
unfolding goes_on
ended_ahead judge past skip behind true placed gate is =
    let wrong : Err (Damaged past.at) ≡ Ok placed = ap (λ t. goes_on t (λ _. Ok [])) (sym (turn_none judge past)) ∙ is in absurd (cc)
ended_ahead judge past skip behind false placed gate is =
    walk-skip (turn_by judge) past skip behind ∙ walk_shut (turn_by judge) past (drop skip behind) gate ∙ is

passed_ahead : (judge : Judges) (behind : List ℕ) (byte : ℕ) (rest : List ℕ) (past : Past) (skip : ℕ) → IsReadOn (turn_by judge) behind rest → (placed : List PlainPlaced) →
    walk_at (turn_by judge) past skip (byte ∷ rest) ≡ Ok placed → walk_at (turn_by judge) past skip (byte ∷ (rest ++ behind)) ≡ Ok placed
unfolding walk_at
passed_ahead judge behind byte rest past zero more placed is = step_ahead judge past byte rest behind (eqb past.gate 1) placed more is
passed_ahead judge behind byte rest past (suc skip) more placed is = more past skip placed is

pub walk_ahead : (judge : Judges) (behind rest : List ℕ) → IsReadOn (turn_by judge) behind rest
unfolding walk_at
walk_ahead judge behind [] = λ past skip placed is. ended_ahead judge past skip behind (eqb past.gate 1) placed refl is
walk_ahead judge behind (byte ∷ rest) = λ past skip. passed_ahead judge behind byte rest past skip (walk_ahead judge behind rest)

-- ---- the whole image

-- a header that is read is read with more bytes behind it
abbrev IsHeaderOf : (List ℕ → Result Past Fault) → Type 0
IsHeaderOf start = (s behind : List ℕ) (past : Past) → start s ≡ Ok past → (header_len ≤ length s) × (start (s ++ behind) ≡ Ok past)

pub log_ahead : (start : List ℕ → Result Past Fault) (judge : Judges) → IsHeaderOf start → (front behind : List ℕ) (placed : List PlainPlaced) →
    and_then (start front) (λ past. walk_at (turn_by judge) past 0 (drop header_len front)) ≡ Ok placed →
    and_then (start (front ++ behind)) (λ past. walk_at (turn_by judge) past 0 (drop header_len (front ++ behind))) ≡ Ok placed
unfolding and_then
log_ahead start judge header front behind placed is =
    let step = and_then_ok (start front) (λ past. walk_at (turn_by judge) past 0 (drop header_len front)) placed is in
    let more = header front behind step.0 step.1 in
    let rest : drop header_len (front ++ behind) ≡ drop header_len front ++ behind = drop-append-le header_len front behind more.0 in
    ap (λ r. and_then r (λ past. walk_at (turn_by judge) past 0 (drop header_len (front ++ behind)))) more.1
    ∙ ap (λ r. walk_at (turn_by judge) step.0 0 r) rest
    ∙ walk_ahead judge behind (drop header_len front) step.0 0 placed step.2

-- a test of the first 42 bytes
header_of : (f : List ℕ → Result Past Fault) → IsHeaderOf (λ s. cond (nat_le header_len (length s)) (f (take header_len s)) (Err NotAStore))
header_of f s behind past is =
    let long : header_len ≤ length s = long_enough (nat_le header_len (length s)) (f (take header_len s)) past (length s) refl is in
    let test : nat_le header_len (length s) ≡ true = grind (arith, nat_tests) in
    let longer : header_len ≤ length (s ++ behind) = omega (arith, length-append s behind, long) in
    let again : nat_le header_len (length (s ++ behind)) ≡ true = grind (arith, nat_tests) in
    (long, rw (again, take-append-le header_len s behind long) (sym (ap (λ t. cond t (f (take header_len s)) (Err NotAStore)) test) ∙ is))

pub holder_ahead : (front behind : List ℕ) (placed : List PlainPlaced) → holder_log front ≡ Ok placed → holder_log (front ++ behind) ≡ Ok placed
unfolding holder_log unowned_start
holder_ahead front behind placed is = log_ahead unowned_start published_turn (header_of unowned_start_of) front behind placed is

pub writer_ahead : (owner front behind : List ℕ) (placed : List PlainPlaced) → writer_log owner front ≡ Ok placed → writer_log owner (front ++ behind) ≡ Ok placed
unfolding writer_log start_at
writer_ahead owner front behind placed is = log_ahead (start_at owner) (tagged_recovered owner) (header_of (start_of owner)) front behind placed is
