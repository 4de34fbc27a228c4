-- What a log answers where its next batch is asked for.
use Rattle.std.proofs.Common.{◌≡◌, ℕ, List, None, Some, Result, Ok, Err, ap}
use Rattle.commit_journal.specs.Answering as opening
use Rattle.commit_journal.specs.Answering.{Fault, Damaged, and_then}
use Rattle.commit_journal.specs.Log.{PlainTurn}
use Rattle.commit_journal.specs.Streaming.{LogState, next_in, regated}
use Rattle.commit_journal.specs.declared.fault.OpenFault.{OpenFault}
use Rattle.commit_journal.specs.declared.fault.OpenFault.TheVariants as faults
use Rattle.log_visits.specs.Answering.{IsFault, client_fault}
use Rattle.read_steps.specs.Steps.{given_one, next_batch}

-- the first fault of two
first_fault : {X Y : Type 0} (fault : OpenFault) (r : Result X Fault) (f : X → Result Y Fault) → opening.IsFault fault r → IsFault (client_fault fault) (and_then r f)
unfolding and_then
first_fault faults.NotAStore r f is = ap (λ q. and_then q f) is
first_fault faults.WrongKey r f is = ap (λ q. and_then q f) is
first_fault (faults.Damaged at) r f is = ap (λ q. and_then q f) is
first_fault (faults.Tampered batch at) r f is = ap (λ q. and_then q f) is
first_fault faults.DiskFault r f is = tt
first_fault faults.OutOfMemory r f is = tt

pub same_fault : {X : Type 0} (fault : OpenFault) (r : Result X Fault) → opening.IsFault fault r → IsFault (client_fault fault) r
same_fault faults.NotAStore r is = is
same_fault faults.WrongKey r is = is
same_fault (faults.Damaged at) r is = is
same_fault (faults.Tampered batch at) r is = is
same_fault faults.DiskFault r is = tt
same_fault faults.OutOfMemory r is = tt

pub next_fails : (fault : OpenFault) (log : LogState) (s : List ℕ) → opening.IsFault fault (next_in (regated log s) s) → IsFault (client_fault fault) (next_batch log s)
unfolding next_batch
next_fails fault log s is = first_fault fault (next_in (regated log s) s) (given_one log.past.at) is

pub next_ends : (log : LogState) (s : List ℕ) → next_in (regated log s) s ≡ Ok None → next_batch log s ≡ Err (Damaged log.past.at)
unfolding next_batch given_one and_then
next_ends log s is = ap (λ r. and_then r (given_one log.past.at)) is

pub next_given : (log : LogState) (s : List ℕ) (turn : PlainTurn) → next_in (regated log s) s ≡ Ok (Some turn) → next_batch log s ≡ Ok turn
unfolding next_batch given_one and_then
next_given log s turn is = ap (λ r. and_then r (given_one log.past.at)) is
