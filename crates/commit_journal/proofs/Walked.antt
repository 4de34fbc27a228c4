-- The walk from gate to gate, one turn at a time.
use Rattle.std.proofs.Common.{◌≡◌, ℕ, zero, suc, ◌+◌, ◌-◌, ◌<◌, true, false, eqb, List, [], ◌∷◌, ◌++◌, drop, Option, None, Some, Result, Ok, Err, refl, sym, ap, ◌∙◌, arith, append_assoc}
use Rattle.std.proofs.lemmas.List.{append-nil}
use Rattle.commit_journal.specs.declared.fault.OpenFault.{OpenFault}
use Rattle.commit_journal.specs.declared.fault.OpenFault.TheVariants as faults
use Rattle.commit_journal.specs.declared.past.Past.{Past}
use Rattle.commit_journal.specs.Answering.{Fault, Damaged, and_then, IsFault}
use Rattle.commit_journal.specs.Log.{PlainTurn, turn_at, before, goes_on, log_at}
use Rattle.commit_journal.specs.Placed.{PlainPlaced}
use Rattle.commit_journal.proofs.Judged.{head_short}

-- ---- batches read before others

pub before-nil : (log : Result (List PlainPlaced) Fault) → before [] log ≡ log
unfolding before
before-nil (Ok placed) = refl
before-nil (Err fault) = refl

pub before-before : (a b : List PlainPlaced) (log : Result (List PlainPlaced) Fault) → before a (before b log) ≡ before (a ++ b) log
unfolding before
before-before a b (Ok placed) = ap Ok (sym (append_assoc a b placed))
before-before a b (Err fault) = refl

pub before-fault : (fault : OpenFault) (front : List PlainPlaced) (log : Result (List PlainPlaced) Fault) → IsFault fault log → IsFault fault (before front log)
unfolding before
before-fault faults.NotAStore front log is = rw is refl
before-fault faults.WrongKey front log is = rw is refl
before-fault (faults.Damaged at) front log is = rw is refl
before-fault (faults.Tampered batch at) front log is = rw is refl
before-fault faults.DiskFault front log is = tt
before-fault faults.OutOfMemory front log is = tt

pub before-end : (front : List PlainPlaced) → before front (Ok []) ≡ Ok front
unfolding before
before-end front = ap Ok (append-nil front)

pub goes_on-fault : (fault : OpenFault) (turn : Result (Option PlainTurn) Fault) (rest : PlainTurn → Result (List PlainPlaced) Fault) → IsFault fault turn → IsFault fault (goes_on turn rest)
unfolding goes_on
goes_on-fault faults.NotAStore turn rest is = rw is refl
goes_on-fault faults.WrongKey turn rest is = rw is refl
goes_on-fault (faults.Damaged at) turn rest is = rw is refl
goes_on-fault (faults.Tampered batch at) turn rest is = rw is refl
goes_on-fault faults.DiskFault turn rest is = tt
goes_on-fault faults.OutOfMemory turn rest is = tt

-- ---- one turn

pub turn-nil : (owner : List ℕ) (past : Past) → turn_at owner past [] ≡ Err (Damaged past.at)
unfolding turn_at and_then
turn-nil owner past = rw (head_short past [] (omega arith)) refl

-- bytes that are passed over
pub log_at-skip : (owner : List ℕ) (past : Past) (skip : ℕ) (rest : List ℕ) → log_at owner past skip rest ≡ log_at owner past 0 (drop skip rest)
unfolding log_at
log_at-skip owner past zero [] = refl
log_at-skip owner past (suc skip) [] = refl
log_at-skip owner past zero (byte ∷ rest) = refl
log_at-skip owner past (suc skip) (byte ∷ rest) = log_at-skip owner past skip rest

-- a batch more
pub walks_on : (owner : List ℕ) (past : Past) (rest : List ℕ) (turn : PlainTurn) → eqb past.gate 1 ≡ true → turn_at owner past rest ≡ Ok (Some turn) →
    past.at < turn.past.at → log_at owner past 0 rest ≡ before (turn.placed ∷ []) (log_at owner turn.past 0 (drop (turn.past.at - past.at) rest))
unfolding log_at goes_on
walks_on owner past [] turn gate is ahead = let wrong : Ok (Some turn) ≡ Err (Damaged past.at) = sym is ∙ turn-nil owner past in absurd (cc)
walks_on owner past (byte ∷ rest) turn gate is ahead =
    let far : turn.past.at - past.at ≡ suc (turn.past.at - (past.at + 1)) = omega arith in
    rw (gate, is, far) (ap (before (turn.placed ∷ [])) (log_at-skip owner turn.past (turn.past.at - (past.at + 1)) rest))

-- the end of the log before an unpublished batch
pub walk_ends : (owner : List ℕ) (past : Past) (rest : List ℕ) → eqb past.gate 1 ≡ true → turn_at owner past rest ≡ Ok None → log_at owner past 0 rest ≡ Ok []
unfolding log_at goes_on
walk_ends owner past [] gate is = rw (gate, is) refl
walk_ends owner past (byte ∷ rest) gate is = rw (gate, is) refl

-- the end of the log before a closed gate
pub walk_closed : (owner : List ℕ) (past : Past) (rest : List ℕ) → eqb past.gate 1 ≡ false → log_at owner past 0 rest ≡ Ok []
unfolding log_at
walk_closed owner past [] gate = rw gate refl
walk_closed owner past (byte ∷ rest) gate = rw gate refl
