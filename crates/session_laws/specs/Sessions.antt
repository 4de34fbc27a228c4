-- A session that reads batch by batch, and the seat that it stands for.
use Rattle.std.specs.Prelude.{◌≡◌, ℕ, List, Result, Ok, Err}
use Rattle.cry_base.specs.declared.client.Bundle.TheVariants.{Holder}
use Rattle.cry_base.specs.declared.client.Line.{Line}
use Rattle.cry_base.specs.Listed.{Listed}
use Rattle.holder_client.specs.Lines.{plain_view}
use Rattle.log_visits.specs.declared.fault.ClientFault.{ClientFault}
use Rattle.log_visits.specs.declared.fault.ClientFault.TheVariants as faults
use Rattle.public_fold.specs.Journal.{Journal}
use Rattle.read_steps.specs.Steps.{SessionView}
use Rattle.script_text.specs.declared.seats.SeatRefusal.TheVariants.{NoHolder, WrongKey}
use Rattle.session_laws.specs.Fronts.{IsFront}
use Rattle.session_laws.specs.Seats.{IsWithin, Seat, PlainReply, Refused, Shown}

-- the session has the seat's key, was given the first batches of the journal, as many as were read, and as many are pinned
pub record IsSeatOf (owner : List ℕ) (m : Journal) (seat : Seat) (session : SessionView) : Type 0 where
  pub bundle : session.bundle ≡ Holder (record { 0 = seat.holder }) seat.key
  pub front : IsFront owner m seat.read session.log
  pub pinned : session.pinned ≡ seat.pinned
  pub within : IsWithin m seat

-- a fault that no bytes are to blame for: the disk failed, or memory was wanting
abbrev pub IsFromOutside : ClientFault → Type 0
IsFromOutside faults.DiskFault = Unit {0}
IsFromOutside faults.OutOfMemory = Unit {0}
IsFromOutside _ = ⊥

-- the reply to who was shown this, or was refused so
abbrev pub TellsReply : Result (Listed Line) ClientFault → PlainReply → Type 0
TellsReply (Ok lines) reply = reply ≡ Shown (plain_view lines)
TellsReply (Err (faults.NoHolder known)) reply = reply ≡ Refused NoHolder
TellsReply (Err faults.WrongKey) reply = reply ≡ Refused WrongKey
TellsReply (Err fault) reply = IsFromOutside fault
