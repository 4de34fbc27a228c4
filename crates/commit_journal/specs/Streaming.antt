-- A log that is read batch by batch. This project's own, docs/FORMAT.md, "Reading".
use Rattle.std.specs.Prelude.{◌≡◌, ◌<◌, ◌≤◌, ℕ, ◌+◌, ◌-◌, ◌==◌, if◌then◌else◌, List, [], ◌∷◌, ◌++◌, length, drop, take, get_or, Option}
use Rattle.std.specs.Prelude.{None, Some, Result, Ok}
use Rattle.std.specs.List.{slice_get}
use Rattle.cry_base.specs.Layout.{batch_len, header_len, payload_offset}
use Rattle.cry_base.specs.Limits.{most_store_bytes}
use Rattle.commit_journal.specs.declared.past.Past.{Past}
use Rattle.commit_journal.specs.declared.placed.Placed.{Placed}
use Rattle.commit_journal.specs.Answering.{Fault, and_then}
use Rattle.commit_journal.specs.Log.{PlainTurn, before, head_at}
use Rattle.commit_journal.specs.Logs.{AreInEpochs, epoch_behind, walk_at, turn_by}
use Rattle.commit_journal.specs.Placed.{PlainPlaced, plain_placed}
use Rattle.commit_journal.specs.Places.{IsStanding, at_behind}
use Rattle.commit_journal.specs.Readers.{again_turn, read_turn}

-- the owner's key that tests the log, if one does; the bytes before the first gate; the batches that were given so far; what was known
-- before each of them, and what is known behind the last; the leaf of the last, and no bytes before the first
pub record LogState : Type 0 where
  pub owner : Option (List ℕ)
  pub front : List ℕ
  pub given : List PlainPlaced
  pub starts : List Past
  pub past : Past
  pub leaf : List ℕ

-- what stands behind the batches that were given, in a file of these bytes: a batch, or the end of the log
unfoldable pub next_in : LogState → List ℕ → Result (Option PlainTurn) Fault
next_in log bytes = if log.past.gate == 1 then turn_by (read_turn log.owner) log.past (drop log.past.at bytes) else Ok None

-- the gate before a place, as a file of these bytes has it: closed where the file ends before it
unfoldable pub gate_before : List ℕ → ℕ → ℕ
gate_before bytes at = get_or bytes (at - 1) 0

-- the log with the gate behind its batches as a file of these bytes has it now
unfoldable pub regated : LogState → List ℕ → LogState
regated log bytes = record log { past = record log.past { gate = gate_before bytes log.past.at } }

-- the whole log of a file, as far as it is known: the batches that were given, before those that stand behind them
unfoldable pub log_in : LogState → List ℕ → Result (List PlainPlaced) Fault
log_in log bytes = before log.given (walk_at (turn_by (read_turn log.owner)) log.past 0 (drop log.past.at bytes))

-- what a file of these bytes shows where a batch was given, by what was known before it
unfoldable pub again_at : Option (List ℕ) → Past → List ℕ → Result PlainTurn Fault
again_at who past bytes =
    and_then (head_at past (drop past.at bytes)) (λ head. again_turn who past head (take (batch_len + head.size) (drop past.at bytes)))

-- this was known before a batch that was given
abbrev pub IsStart : LogState → Past → Type 0
IsStart log start = slice_get log.starts start.number ≡ Some start

-- what was known before the batch with this number. Where none was given, nothing was
abbrev pub nothing : Past
nothing = record { at = 0; number = 0; epoch = record { 0 = 0 }; tag = []; gate = 0 }

abbrev pub start_of : LogState → ℕ → Past
start_of log batch = get_or log.starts (batch - 1) nothing

-- the same of the batch with this number
abbrev pub again_in : LogState → ℕ → List ℕ → Result PlainPlaced Fault
again_in log batch bytes = and_then (again_at log.owner (start_of log batch) bytes) (λ turn. Ok turn.placed)

-- a file of these bytes shows the batches as they were given
abbrev pub ShowsGiven : LogState → List ℕ → Type 0
ShowsGiven log bytes = (batch : ℕ) (p : PlainPlaced) → 1 ≤ batch → batch ≤ length log.given
    → again_in log batch bytes ≡ Ok (get_or log.given (batch - 1) p)

-- the batch that was given, with what is known behind it; or the end of the log
abbrev pub given_turn : Past → Option Placed → Option PlainTurn
given_turn past None = None
given_turn past (Some p) = Some (record { placed = plain_placed p; past = past })

-- what is known where a batch begins: the place, and the number and the epoch of the batch before
abbrev pub IsAt : ℕ → ℕ → ℕ → Past → Type 0
IsAt at number epoch past = (past.at ≡ at) × (past.number ≡ number) × (past.epoch.0 ≡ epoch)

-- each batch that was given begins where the one before ends: so it was known before it, and so the last of what is known is behind all
abbrev pub ArePlaced : ℕ → ℕ → ℕ → List PlainPlaced → List Past → Past → Type 0
ArePlaced at number epoch [] [] past = IsAt at number epoch past
ArePlaced at number epoch [] (start ∷ starts) past = ⊥
ArePlaced at number epoch (p ∷ given) [] past = ⊥
ArePlaced at number epoch (p ∷ given) (start ∷ starts) past =
    IsAt at number epoch start × ArePlaced (at_behind p) p.batch p.epoch.0 given starts past

-- one batch more was given, which ends within so many bytes
pub record GivesOne (size : ℕ) (old : LogState) (p : Placed) (new : LogState) : Type 0 where
  pub owner : new.owner ≡ old.owner
  pub front : new.front ≡ old.front
  pub given : new.given ≡ old.given ++ plain_placed p ∷ []
  pub starts : new.starts ≡ old.starts ++ old.past ∷ []
  pub batch : p.batch ≡ length old.given + 1
  pub place : p.place ≡ old.past.at + payload_offset
  pub stands : IsStanding p
  pub behind : IsAt (at_behind (plain_placed p)) p.batch p.epoch.0 new.past
  pub ahead : old.past.at < new.past.at
  pub inside : new.past.at ≤ size

-- or the log has ended, and is as it was
abbrev pub Gives : ℕ → LogState → Option Placed → LogState → Type 0
Gives size old None new = new ≡ old
Gives size old (Some p) new = GivesOne size old p new

-- what is known before batches behind so many, or behind them: which batch comes next, and where it would stand
abbrev pub AreStarts : ℕ → List Past → Type 0
AreStarts number [] = Unit {0}
AreStarts number (past ∷ starts) =
    (past.number ≡ number) × (header_len ≤ past.at) × (past.at ≤ most_store_bytes) × AreStarts (number + 1) starts

-- each batch that was given has its place, and they stand in their epochs
pub record IsReading (given : List PlainPlaced) (starts : List Past) (past : Past) : Type 0 where
  pub count : length starts ≡ length given
  pub places : AreStarts 0 (starts ++ past ∷ [])
  pub epochs : AreInEpochs 0 given
  pub epoch : past.epoch.0 ≡ epoch_behind 0 given
