-- A reader who stays: what it was given of a log so far, and what comes next. This project's own, docs/FORMAT.md, "Reading".
use Rattle.std.specs.Prelude.{◌≡◌, ◌<◌, ◌≤◌, ◌+◌, ◌++◌, ◌^◌, ℕ, Bool, List, [], ◌∷◌, length, Option, None, Some, Result, Ok, Err}
use Rattle.cry_base.specs.Layout.{header_len}
use Rattle.cry_base.specs.declared.client.Bundle.{Bundle}
use Rattle.cry_base.specs.declared.client.Bundle.TheVariants as bundles
use Rattle.commit_journal.specs.Answering.{Fault, Damaged, and_then}
use Rattle.commit_journal.specs.Log.{PlainTurn}
use Rattle.commit_journal.specs.Logs.{AreInEpochs}
use Rattle.commit_journal.specs.Placed.{plain_placed}
use Rattle.commit_journal.specs.Places.{IsStanding, at_behind}
use Rattle.commit_journal.specs.Streaming.{LogState, ArePlaced, IsAt, next_in, regated}
use Rattle.commit_journal.specs.declared.past.Past.{Past}
use Rattle.commit_journal.specs.declared.placed.Placed.{Placed}
use Rattle.holder_client.specs.Reads.{HasRead, HasStarts}
use Rattle.holder_client.specs.declared.log_reader.Reader.{Reader}

-- whose key reads; the log as far as it was read; whether something is kept of it, which isn't once memory was wanting for it; how many of
-- the first batches are pinned
pub record SessionView : Type 0 where
  pub bundle : Bundle
  pub log : LogState
  pub ready : Bool
  pub pinned : ℕ

-- the owner's key, which tests the log; a holder's doesn't
abbrev pub owner_in : Bundle → Option (List ℕ)
owner_in (bundles.Owner key) = Some key
owner_in (bundles.Holder h key) = None

-- 1. The log is read with the owner's key exactly where the bundle has it.
-- 2. Each batch that was given begins where the one before ends, and what is known is behind the last.
-- 3. No batch was given that isn't pinned.
pub record IsSession (s : SessionView) : Type 0 where
  pub owner : s.log.owner ≡ owner_in s.bundle
  pub placed : ArePlaced header_len 0 0 s.log.given s.log.starts s.log.past
  pub within : length s.log.given ≤ s.pinned
  pub counted : s.pinned < 2 ^ 32

-- what is kept is of exactly the batches that were given
abbrev pub KeepsOf : LogState → Option Reader → Type 0
KeepsOf log None = Unit {0}
KeepsOf log (Some reader) = HasRead reader log.given × HasStarts reader log.starts

-- the next batch; where the log ends, the first byte of that batch is damaged
unfoldable pub given_one : ℕ → Option PlainTurn → Result PlainTurn Fault
given_one at None = Err (Damaged at)
given_one at (Some turn) = Ok turn

-- the next batch of a log, as a file of these bytes shows it now
unfoldable pub next_batch : LogState → List ℕ → Result PlainTurn Fault
next_batch log bytes = and_then (next_in (regated log bytes) bytes) (given_one log.past.at)

-- a log has given one batch more, by what was known before it, and keeps nothing of its bytes
pub record GoesOn (old : LogState) (p : Placed) (start : Past) (new : LogState) : Type 0 where
  pub owner : new.owner ≡ old.owner
  pub given : new.given ≡ old.given ++ plain_placed p ∷ []
  pub starts : new.starts ≡ old.starts ++ start ∷ []
  pub batch : p.batch ≡ length old.given + 1
  pub stands : IsStanding p
  pub epochs : AreInEpochs 0 new.given
  pub start_is : start ≡ record old.past { gate = start.gate }
  pub number : start.number ≡ length old.starts
  pub count : length old.starts ≡ length old.given
  pub behind : IsAt (at_behind (plain_placed p)) p.batch p.epoch.0 new.past
  pub forgotten : new.leaf ≡ []

-- of the session nothing has changed but the gate behind its log
abbrev pub IsSameButGate : SessionView → SessionView → Type 0
IsSameButGate old new = new ≡ record old { log = record old.log { past = record old.log.past { gate = new.log.past.gate } } }
