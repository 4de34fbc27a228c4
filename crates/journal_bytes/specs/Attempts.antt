-- All batches that were ever written, those that a stop or a fault cut short included. This project's own, docs/FORMAT.md,
-- "Committing".
use Rattle.std.specs.Prelude.{ℕ, ◌+◌, Bool, true, false, cond, List, [], ◌∷◌, ◌++◌, length, Option, Some, None}
use Rattle.cry_base.specs.Requests.{Request}
use Rattle.public_fold.specs.KeyStep.{Stepped}
use Rattle.public_fold.specs.Journal.{Journal, nothing, stand_after, entry_step, keys_of}
use Rattle.public_fold.specs.Journal.Entry.{Session, Did}

-- what may happen to a store: a command is refused; its batch enters the journal; its batch is written and abandoned;
-- the session's epoch batch is written and abandoned; the session ends, or the store is opened again
pub data Event : Type 0 where
  IsRefused : (request : Request) → Event
  Enters : (request : Request) → (keys : List (List ℕ)) → Event
  IsAbandoned : (request : Request) → (keys : List (List ℕ)) → Event
  LosesEpoch : Event
  Ends : Event
  Reopens : Event

-- a batch that was written: its epoch and number, and what it holds. An epoch's batch holds nothing
pub record Attempt : Type 0 where
  pub epoch : ℕ
  pub number : ℕ
  pub holds : Option Stepped

-- the journal, and whether the session has begun its epoch
pub record Course : Type 0 where
  pub journal : Journal
  pub begun : Bool

-- the journal once the session has begun its epoch
unfoldable pub begun_journal : Course → Journal
begun_journal c = c.journal ++ cond c.begun [] (Session ∷ [])

-- the attempt to begin an epoch, where the session has begun none, and the attempt at a command
unfoldable pub epoch_attempt : Course → List Attempt
epoch_attempt c = cond c.begun [] (record { epoch = (keys_of c.journal).epoch + 1; number = length c.journal + 1; holds = None } ∷ [])

unfoldable pub command_attempt : Journal → Request → List (List ℕ) → Attempt
command_attempt m r keys = record {
  epoch = (keys_of m).epoch;
  number = length m + 1;
  holds = Some
      (entry_step (stand_after nothing m) (Did r keys));
}

-- what an event writes
unfoldable pub attempts_at : Course → Event → List Attempt
attempts_at c (IsRefused r) = []
attempts_at c (Enters r keys) = epoch_attempt c ++ command_attempt (begun_journal c) r keys ∷ []
attempts_at c (IsAbandoned r keys) = epoch_attempt c ++ command_attempt (begun_journal c) r keys ∷ []
attempts_at c LosesEpoch = epoch_attempt c
attempts_at c Ends = []
attempts_at c Reopens = []

-- the course after it: an abandoned batch ends its session
unfoldable pub course_then : Course → Event → Course
course_then c (IsRefused r) = c
course_then c (Enters r keys) = record { journal = begun_journal c ++ Did r keys ∷ []; begun = true }
course_then c (IsAbandoned r keys) = record { journal = begun_journal c; begun = false }
course_then c LosesEpoch = record c { begun = false }
course_then c Ends = record c { begun = false }
course_then c Reopens = record c { begun = false }

-- all attempts of some events, one after another
unfoldable pub attempts : Course → List Event → List Attempt
attempts c [] = []
attempts c (event ∷ events) = attempts_at c event ++ attempts (course_then c event) events
