-- What is read of an image is read of it with more bytes behind it too.
use Rattle.std.proofs.Common.{◌≡◌, ℕ, zero, suc, ◌+◌, ◌-◌, ◌≤◌, Bool, true, false, cond, eqb, List, [], ◌∷◌, ◌++◌, length, take, drop, Option, None, Some, Result, Ok, Err, refl, sym, ap, ◌∙◌, arith, length-append}
use Rattle.std.specs.Prelude.{nat_le, ◌&&◌}
use Rattle.std.proofs.lemmas.Bool.Decides.{nat_tests}
use Rattle.std.proofs.lemmas.List.{take-append-le, drop-append-le}
use Rattle.cry_base.specs.Layout.{batch_len, header_len}
use Rattle.commit_journal.specs.declared.head.Head.{Head}
use Rattle.commit_journal.specs.declared.past.Past.{Past}
use Rattle.commit_journal.specs.Answering.{Fault, NotAStore, Damaged, and_then}
use Rattle.commit_journal.specs.Log.{PlainTurn, head_of, is_batch, head_at, tagged_turn, turn_at, before, goes_on, log_at, start_of, start_at, log_verdict}
use Rattle.commit_journal.specs.Placed.{PlainPlaced}
use Rattle.commit_journal.proofs.Judged.{start_long, head_tested, turn_is}
use Rattle.commit_journal.proofs.Walked.{log_at-skip, walk_closed, turn-nil}

-- ---- an answer is that of each step before it

pub and_then_ok : {A B : Type 0} (read : Result A Fault) (f : A → Result B Fault) (y : B) → and_then read f ≡ Ok y → (x : A) × (read ≡ Ok x) × (f x ≡ Ok y)
unfolding and_then
and_then_ok (Ok x) f y is = (x, refl, is)
and_then_ok (Err fault) f y is = absurd (cc)

pub guard_ok : {A : Type 0} (test : Bool) (x y : A) (fault : Fault) → cond test (Ok x) (Err fault) ≡ Ok y → (test ≡ true) × (x ≡ y)
guard_ok true x y fault is = (refl, cc)
guard_ok false x y fault is = absurd (cc)

-- ---- one turn

first_of_two : (a b : Bool) → (a && b) ≡ true → a ≡ true
first_of_two true b is = refl
first_of_two false b is = absurd (cc)

pub batch_inside : (past : Past) (head : Head) (left : ℕ) → is_batch past head left ≡ true → batch_len + head.size ≤ left
unfolding is_batch
batch_inside past head left is =
    let test : nat_le (batch_len + head.size) left ≡ true = first_of_two (nat_le (batch_len + head.size) left) _ is in
    grind (arith, nat_tests)

pub batch_more : (past : Past) (head : Head) (left more : ℕ) → is_batch past head left ≡ true → is_batch past head (left + more) ≡ true
unfolding is_batch
batch_more past head left more is =
    let test : nat_le (batch_len + head.size) left ≡ true = first_of_two (nat_le (batch_len + head.size) left) _ is in
    let again : nat_le (batch_len + head.size) (left + more) ≡ true = grind (arith, nat_tests) in
    rw again (rw test at is)

turn_more : (owner : List ℕ) (past : Past) (rest behind : List ℕ) (turn : Option PlainTurn) → turn_at owner past rest ≡ Ok turn → turn_at owner past (rest ++ behind) ≡ Ok turn
unfolding turn_at head_at
turn_more owner past rest behind turn is =
    let head = head_of (take 13 rest) in
    let step = and_then_ok (head_at past rest) (λ h. tagged_turn owner past h (take (batch_len + h.size) rest)) turn is in
    let guard = guard_ok (is_batch past head (length rest)) head step.0 (Damaged past.at) step.1 in
    let inside : batch_len + head.size ≤ length rest = batch_inside past head (length rest) guard.0 in
    let first : take 13 rest ≡ take 13 (rest ++ behind) = sym (take-append-le 13 rest behind (omega arith)) in
    let test : true ≡ is_batch past head (length (rest ++ behind)) =
    sym (ap (is_batch past head) (length-append rest behind) ∙ batch_more past head (length rest) (length behind) guard.0)
    in
    let stands : head_at past (rest ++ behind) ≡ Ok head =
    head_tested past (rest ++ behind) (take 13 rest) head (length (rest ++ behind)) true first refl refl test
    in
    let whole : take (batch_len + head.size) rest ≡ take (batch_len + head.size) (rest ++ behind) = sym (take-append-le (batch_len + head.size) rest behind inside) in
    turn_is owner past (rest ++ behind) head (take (batch_len + head.size) rest) stands whole
    ∙ ap (λ h. tagged_turn owner past h (take (batch_len + h.size) rest)) guard.1
    ∙ step.2

-- ---- the walk

pub before_ok : (front : List PlainPlaced) (log : Result (List PlainPlaced) Fault) (placed : List PlainPlaced) → before front log ≡ Ok placed
    → (others : List PlainPlaced) × (log ≡ Ok others) × (front ++ others ≡ placed)
unfolding before
before_ok front (Ok others) placed is = (others, refl, cc)
before_ok front (Err fault) placed is = absurd (cc)

-- what is read of the rest is read with more bytes behind it
abbrev IsReadMore : List ℕ → List ℕ → List ℕ → Type 0
IsReadMore owner behind rest = (past : Past) (skip : ℕ) (placed : List PlainPlaced) → log_at owner past skip rest ≡ Ok placed → log_at owner past skip (rest ++ behind) ≡ Ok placed

goes_on_more : (owner : List ℕ) (past : Past) (rest behind : List ℕ) (turn long : Result (Option PlainTurn) Fault) (placed : List PlainPlaced) →
    ((t : Option PlainTurn) → turn ≡ Ok t → long ≡ Ok t) → IsReadMore owner behind rest →
    goes_on turn (λ t. log_at owner t.past (t.past.at - (past.at + 1)) rest) ≡ Ok placed →
    goes_on long (λ t. log_at owner t.past (t.past.at - (past.at + 1)) (rest ++ behind)) ≡ Ok placed
unfolding goes_on before
goes_on_more owner past rest behind (Ok (Some t)) long placed same more is =
    let step = before_ok (t.placed ∷ []) (log_at owner t.past (t.past.at - (past.at + 1)) rest) placed is in
    let others = more t.past (t.past.at - (past.at + 1)) step.0 step.1 in
    rw (same (Some t) refl, others) (ap Ok step.2)
goes_on_more owner past rest behind (Ok None) long placed same more is = rw (same None refl) is
goes_on_more owner past rest behind (Err fault) long placed same more is = absurd (cc)

step_more : (owner : List ℕ) (past : Past) (byte : ℕ) (rest behind : List ℕ) (test : Bool) (placed : List PlainPlaced) → IsReadMore owner behind rest →
    cond test (goes_on (turn_at owner past (byte ∷ rest)) (λ t. log_at owner t.past (t.past.at - (past.at + 1)) rest)) (Ok []) ≡ Ok placed →
    cond test (goes_on (turn_at owner past (byte ∷ (rest ++ behind))) (λ t. log_at owner t.past (t.past.at - (past.at + 1)) (rest ++ behind))) (Ok []) ≡ Ok placed
step_more owner past byte rest behind true placed more is =
    goes_on_more owner past rest behind (turn_at owner past (byte ∷ rest)) (turn_at owner past (byte ∷ (rest ++ behind))) placed
    (λ t. turn_more owner past (byte ∷ rest) behind t) more is
step_more owner past byte rest behind false placed more is = is

-- the rest has ended: only a closed gate lets the log end there
ended_more : (owner : List ℕ) (past : Past) (skip : ℕ) (behind : List ℕ) (test : Bool) (placed : List PlainPlaced) → eqb past.gate 1 ≡ test →
    cond test (goes_on (turn_at owner past []) (λ _. Ok [])) (Ok []) ≡ Ok placed → log_at owner past skip behind ≡ Ok placed
unfolding goes_on
ended_more owner past skip behind true placed gate is =
    let wrong : Err (Damaged past.at) ≡ Ok placed = ap (λ t. goes_on t (λ _. Ok [])) (sym (turn-nil owner past)) ∙ is in absurd (cc)
ended_more owner past skip behind false placed gate is =
    log_at-skip owner past skip behind ∙ walk_closed owner past (drop skip behind) gate ∙ is

passed_more : (owner behind : List ℕ) (byte : ℕ) (rest : List ℕ) (past : Past) (skip : ℕ) → IsReadMore owner behind rest → (placed : List PlainPlaced) →
    log_at owner past skip (byte ∷ rest) ≡ Ok placed → log_at owner past skip (byte ∷ (rest ++ behind)) ≡ Ok placed
unfolding log_at
passed_more owner behind byte rest past zero more placed is = step_more owner past byte rest behind (eqb past.gate 1) placed more is
passed_more owner behind byte rest past (suc skip) more placed is = more past skip placed is

log_more : (owner behind rest : List ℕ) → IsReadMore owner behind rest
unfolding log_at
log_more owner behind [] = λ past skip placed is. ended_more owner past skip behind (eqb past.gate 1) placed refl is
log_more owner behind (byte ∷ rest) = λ past skip. passed_more owner behind byte rest past skip (log_more owner behind rest)

-- ---- the whole image

pub long_enough : (test : Bool) (start : Result Past Fault) (past : Past) (n : ℕ) → nat_le header_len n ≡ test → cond test start (Err NotAStore) ≡ Ok past → header_len ≤ n
long_enough true start past n test is = grind (arith, nat_tests)
long_enough false start past n test is = absurd (cc)

header_more : (owner s behind : List ℕ) (past : Past) → start_at owner s ≡ Ok past → (header_len ≤ length s) × (start_at owner (s ++ behind) ≡ Ok past)
unfolding start_at
header_more owner s behind past is =
    let long : header_len ≤ length s = long_enough (nat_le header_len (length s)) (start_of owner (take header_len s)) past (length s) refl is in (
      long,
      start_long owner (s ++ behind) (omega (arith, length-append s behind))
          ∙ ap (start_of owner) (take-append-le header_len s behind long)
          ∙ sym (start_long owner s long)
          ∙ is,
    )

pub verdict_more : (owner front behind : List ℕ) (placed : List PlainPlaced) → log_verdict owner front ≡ Ok placed → log_verdict owner (front ++ behind) ≡ Ok placed
unfolding log_verdict and_then log_at
verdict_more owner front behind placed is =
    let step = and_then_ok (start_at owner front) (λ past. log_at owner past 0 (drop header_len front)) placed is in
    let header = header_more owner front behind step.0 step.1 in
    let rest : drop header_len (front ++ behind) ≡ drop header_len front ++ behind = drop-append-le header_len front behind header.0 in
    ap (λ r. and_then r (λ past. log_at owner past 0 (drop header_len (front ++ behind)))) header.1
    ∙ ap (λ r. log_at owner step.0 0 r) rest
    ∙ log_more owner behind (drop header_len front) step.0 0 placed step.2
