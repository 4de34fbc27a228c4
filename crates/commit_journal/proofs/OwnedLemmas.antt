-- The walk of a store that is opened for writing, one turn at a time.
use Rattle.std.proofs.Common.{◌≡◌, ℕ, zero, suc, ◌+◌, ◌-◌, ◌<◌, true, false, cond, eqb, List, [], ◌∷◌, ◌++◌, length, take, drop, Result, Ok, Err, refl, sym, ap, ◌∙◌, arith, append_assoc}
use Rattle.std.specs.Prelude.{nat_le, slice_range}
use Rattle.std.proofs.lemmas.List.{append-nil, drop-drop, take-append-drop}
use Rattle.cry_base.specs.Layout.{batch_len, header_len}
use Rattle.commit_journal.specs.declared.fault.OpenFault.{OpenFault}
use Rattle.commit_journal.specs.declared.fault.OpenFault.TheVariants as faults
use Rattle.commit_journal.specs.declared.head.Head.{Head}
use Rattle.commit_journal.specs.declared.past.Past.{Past}
use Rattle.commit_journal.specs.Answering.{Fault, Damaged, and_then, IsFault}
use Rattle.commit_journal.specs.Log.{PlainTurn, head_at, start_at}
use Rattle.commit_journal.specs.Opening.{OwnedLog, ends_here, owned_at, owned_before, owned_head, owned_log, owned_turn, opening_verdict, written_at}
use Rattle.commit_journal.specs.Placed.{PlainPlaced}
use Rattle.commit_journal.proofs.Judged.{fault_first, head_short}

-- ---- batches read before others

pub owned_before-nil : (log : Result OwnedLog Fault) → owned_before [] log ≡ log
unfolding owned_before
owned_before-nil (Ok log) = refl
owned_before-nil (Err fault) = refl

pub owned_before-twice : (a b : List PlainPlaced) (log : Result OwnedLog Fault) → owned_before a (owned_before b log) ≡ owned_before (a ++ b) log
unfolding owned_before
owned_before-twice a b (Ok log) = ap (λ (ps : List PlainPlaced). Ok (record log { placed = ps })) (sym (append_assoc a b log.placed))
owned_before-twice a b (Err fault) = refl

pub owned_before-fault : (fault : OpenFault) (front : List PlainPlaced) (log : Result OwnedLog Fault) → IsFault fault log → IsFault fault (owned_before front log)
unfolding owned_before
owned_before-fault faults.NotAStore front log is = rw is refl
owned_before-fault faults.WrongKey front log is = rw is refl
owned_before-fault (faults.Damaged at) front log is = rw is refl
owned_before-fault (faults.Tampered batch at) front log is = rw is refl
owned_before-fault faults.DiskFault front log is = tt
owned_before-fault faults.OutOfMemory front log is = tt

pub owned_before-end : (front : List PlainPlaced) (past : Past) → owned_before front (Ok (ends_here past)) ≡ Ok (record (ends_here past) { placed = front })
unfolding owned_before
owned_before-end front past = ap (λ (ps : List PlainPlaced). Ok (record (ends_here past) { placed = ps })) (append-nil front)

-- ---- one turn

-- a head is tested against the store limit
pub owned_head_tested : (limit : ℕ) (past : Past) (rest : List ℕ) (head : Head) → head_at past rest ≡ Ok head →
    owned_head limit past rest ≡ cond (nat_le (past.at + (batch_len + head.size)) limit) (Ok head) (Err (Damaged past.at))
unfolding owned_head and_then
owned_head_tested limit past rest head is = rw is refl

-- a batch that was read behind its head
pub owned_turn_is : (limit : ℕ) (owner : List ℕ) (past : Past) (rest : List ℕ) (head : Head) (batch : List ℕ) → owned_head limit past rest ≡ Ok head →
    batch ≡ take (batch_len + head.size) rest → owned_at limit owner past rest ≡ owned_turn owner past head batch
unfolding owned_at and_then
owned_turn_is limit owner past rest head batch head_is batch_is = rw (head_is, batch_is) refl

owned_at-nil : (limit : ℕ) (owner : List ℕ) (past : Past) → owned_at limit owner past [] ≡ Err (Damaged past.at)
unfolding owned_at owned_head and_then
owned_at-nil limit owner past = rw (head_short past [] (omega arith)) refl

-- bytes that are passed over
owned_log-skip : (limit : ℕ) (owner : List ℕ) (past : Past) (skip : ℕ) (rest : List ℕ) → owned_log limit owner past skip rest ≡ owned_log limit owner past 0 (drop skip rest)
unfolding owned_log
owned_log-skip limit owner past zero [] = refl
owned_log-skip limit owner past (suc skip) [] = refl
owned_log-skip limit owner past zero (byte ∷ rest) = refl
owned_log-skip limit owner past (suc skip) (byte ∷ rest) = owned_log-skip limit owner past skip rest

-- a batch more
pub owned_walks_on : (limit : ℕ) (owner : List ℕ) (past : Past) (rest : List ℕ) (turn : PlainTurn) → eqb past.gate 1 ≡ true →
    owned_at limit owner past rest ≡ Ok turn → past.at < turn.past.at →
    owned_log limit owner past 0 rest ≡ owned_before (turn.placed ∷ []) (owned_log limit owner turn.past 0 (drop (turn.past.at - past.at) rest))
unfolding owned_log and_then
owned_walks_on limit owner past [] turn gate is ahead = let wrong : Ok turn ≡ Err (Damaged past.at) = sym is ∙ owned_at-nil limit owner past in absurd (cc)
owned_walks_on limit owner past (byte ∷ rest) turn gate is ahead =
    let far : turn.past.at - past.at ≡ suc (turn.past.at - (past.at + 1)) = omega arith in
    rw (gate, is, far) (ap (owned_before (turn.placed ∷ [])) (owned_log-skip limit owner turn.past (turn.past.at - (past.at + 1)) rest))

-- the end of the log before a closed gate
pub owned_closed : (limit : ℕ) (owner : List ℕ) (past : Past) (rest : List ℕ) → eqb past.gate 1 ≡ false → owned_log limit owner past 0 rest ≡ Ok (ends_here past)
unfolding owned_log
owned_closed limit owner past [] gate = rw gate refl
owned_closed limit owner past (byte ∷ rest) gate = rw gate refl

-- a test that fails
pub owned_fails : (fault : OpenFault) (limit : ℕ) (owner : List ℕ) (past : Past) (rest : List ℕ) → eqb past.gate 1 ≡ true →
    IsFault fault (owned_at limit owner past rest) → IsFault fault (owned_log limit owner past 0 rest)
unfolding owned_log
owned_fails fault limit owner past [] gate is = rw gate (fault_first fault (owned_at limit owner past []) (λ _. Ok (ends_here past)) is)
owned_fails fault limit owner past (byte ∷ rest) gate is =
    rw gate (fault_first fault (owned_at limit owner past (byte ∷ rest))
    (λ turn. owned_before (turn.placed ∷ []) (owned_log limit owner turn.past (turn.past.at - (past.at + 1)) rest)) is)

-- ---- the whole walk

-- what was read so far comes before what the rest is
abbrev pub IsSoFarOwned : ℕ → List ℕ → List ℕ → List PlainPlaced → Past → Type 0
IsSoFarOwned limit owner s front past = opening_verdict limit owner s ≡ owned_before front (owned_log limit owner past 0 (drop past.at s))

pub owned_starts : (limit : ℕ) (owner s : List ℕ) (past : Past) → start_at owner s ≡ Ok past → past.at ≡ header_len → IsSoFarOwned limit owner s [] past
unfolding opening_verdict and_then
owned_starts limit owner s past is at =
    ap (λ r. and_then r (λ p. owned_log limit owner p 0 (drop header_len s))) is
    ∙ sym (owned_before-nil (owned_log limit owner past 0 (drop header_len s)))
    ∙ ap (λ n. owned_before [] (owned_log limit owner past 0 (drop n s))) (sym at)

pub owned_more : (limit : ℕ) (owner s : List ℕ) (front : List PlainPlaced) (past : Past) (turn : PlainTurn) → eqb past.gate 1 ≡ true →
    owned_at limit owner past (drop past.at s) ≡ Ok turn → past.at < turn.past.at → IsSoFarOwned limit owner s front past →
    IsSoFarOwned limit owner s (front ++ turn.placed ∷ []) turn.past
owned_more limit owner s front past turn gate is ahead so_far =
    let there : drop (turn.past.at - past.at) (drop past.at s) ≡ drop turn.past.at s =
    drop-drop (turn.past.at - past.at) past.at s ∙ ap (λ n. drop n s) (omega arith)
    in
    so_far
    ∙ ap (owned_before front) (owned_walks_on limit owner past (drop past.at s) turn gate is ahead ∙ ap (λ r. owned_before (turn.placed ∷ []) (owned_log limit owner turn.past 0 r)) there)
    ∙ owned_before-twice front (turn.placed ∷ []) (owned_log limit owner turn.past 0 (drop turn.past.at s))

-- ---- the slots

-- a slot that holds its veil key is as if it had been written
pub same_slot : (place : ℕ) (veil x : List ℕ) → length veil ≡ 32 → veil ≡ slice_range x place (place + 32) → x ≡ written_at place veil x
same_slot place veil x size veil_is =
    let short : place + 32 - place ≡ 32 = omega arith in
    let slot : take 32 (drop place x) ≡ veil = sym (veil_is ∙ ap (λ n. take n (drop place x)) short) in
    let last : 32 + place ≡ place + length veil = omega (arith, size) in
    let behind : drop 32 (drop place x) ≡ drop (place + length veil) x = drop-drop 32 place x ∙ ap (λ n. drop n x) (omega (arith, last)) in
    sym (take-append-drop place x)
    ∙ ap (λ r. take place x ++ r) (sym (take-append-drop 32 (drop place x)))
    ∙ ap (λ r. take place x ++ (take 32 (drop place x) ++ r)) behind
    ∙ ap (λ r. take place x ++ (r ++ drop (place + length veil) x)) slot
    ∙ sym (append_assoc (take place x) veil (drop (place + length veil) x))
