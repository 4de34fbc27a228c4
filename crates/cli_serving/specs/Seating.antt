-- What a session's line does. This project's own, docs/PROGRAM.md, "Lines".
--
-- Whatever the disk shows: a session that a line speaks of goes on as `read_steps` says, the others stay as they were, and the reply
-- tells what came of it; or it is refused, and no session changes.
use Rattle.std.specs.Prelude.{◌≡◌, ◌<◌, ◌≤◌, ◌⊎◌, ◌+◌, ◌++◌, ℕ, List, [], ◌∷◌, length, max, Option, Some, None, Ok, Err, IsTrue}
use Rattle.cry_base.specs.declared.client.Bundle.{Bundle}
use Rattle.cry_base.specs.declared.client.Bundle.TheVariants.{Holder}
use Rattle.cry_io.specs.Told.{WhereTold}
use Rattle.commit_journal.specs.Log.{PlainTurn}
use Rattle.commit_journal.specs.Placed.{PlainPlaced}
use Rattle.commit_journal.specs.Streaming.{ShowsGiven}
use Rattle.log_visits.specs.Answering.{IsFailure, IsFault, IsOfBytes}
use Rattle.log_visits.specs.Judging.{OfBytes, bundle_log, view_with}
use Rattle.log_visits.specs.declared.fault.ClientFault.{ClientFault}
use Rattle.log_visits.specs.declared.fault.ClientFault.TheVariants as client
use Rattle.commit_journal.specs.Answering as fault
use Rattle.log_visits.specs.Judging as failure
use Rattle.log_visits.specs.View.{Line}
use Rattle.read_steps.specs.Steps.{IsSession, SessionView, next_batch}
use Rattle.script_text.specs.Seats.{SeatAsk}
use Rattle.script_text.specs.Seats.SeatAsk.{Begins, Pins, Shows, Steps}
use Rattle.script_text.specs.declared.seats.SeatRefusal.{SeatRefusal}
use Rattle.script_text.specs.declared.seats.SeatRefusal.TheVariants as refusals
use Rattle.session_laws.specs.Seats.{PlainReply, Begun, HasPinned, HasRead, Refused, Shown, changed_at, most_seats, seat_at}

-- a session's lines may come
abbrev pub IsReady : SessionView → Type 0
IsReady session = IsTrue session.ready

-- a holder's key
abbrev pub bundle_with : ℕ → List ℕ → Bundle
bundle_with holder key = Holder (record { 0 = holder }) key

-- a session was begun with this key: all batches that are published are pinned, and none was read
pub record WasBegun (told : Option (List ℕ)) (holder : ℕ) (key : List ℕ) (session : SessionView) : Type 0 where
  pub bundle : session.bundle ≡ bundle_with holder key
  pub none_read : session.log.given ≡ []
  pub ready : IsTrue session.ready
  pub is_session : IsSession session
  pub pinned : WhereTold told (λ s. (log : List PlainPlaced) × (bundle_log (bundle_with holder key) s ≡ Ok log)
      × (session.pinned ≡ length log))

-- a session was pinned anew
pub record WasPinned (told : Option (List ℕ)) (old new : SessionView) : Type 0 where
  pub rest : new ≡ record old { pinned = new.pinned }
  pub never_less : old.pinned ≤ new.pinned
  pub is_session : IsSession new
  pub pinned : WhereTold told (λ s. (log : List PlainPlaced) × (bundle_log old.bundle s ≡ Ok log)
      × (new.pinned ≡ max old.pinned (length log)))

-- a session read one batch more
pub record HasStepped (told : Option (List ℕ)) (old new : SessionView) : Type 0 where
  pub bundle : new.bundle ≡ old.bundle
  pub pinned : new.pinned ≡ old.pinned
  pub ready : IsTrue new.ready
  pub is_session : IsSession new
  pub one : length new.log.given ≡ length old.log.given + 1
  pub given : WhereTold told (λ s. (turn : PlainTurn) × (next_batch old.log s ≡ Ok turn)
      × (new.log.given ≡ old.log.given ++ turn.placed ∷ []))

-- what a session's batches show, and the refusal of its key, where the disk shows them as they were given
abbrev pub ShowsLines : Option (List ℕ) → SessionView → List Line → Type 0
ShowsLines told session lines = WhereTold told (λ s. ShowsGiven session.log s → view_with session.bundle (Ok session.log.given) ≡ Ok lines)

abbrev pub RefusesKey : Option (List ℕ) → SessionView → SeatRefusal → Type 0
RefusesKey told session refusals.NoHolder = WhereTold told (λ s. ShowsGiven session.log s
    → (known : ℕ) × (view_with session.bundle (Ok session.log.given) ≡ Err (failure.NoHolder known)))
RefusesKey told session refusals.WrongKey = WhereTold told (λ s. ShowsGiven session.log s
    → view_with session.bundle (Ok session.log.given) ≡ Err (OfBytes fault.WrongKey))
RefusesKey told session _ = ⊥

-- the line is refused, and no session changes
abbrev pub IsRefused : SeatRefusal → List SessionView → PlainReply → List SessionView → Type 0
IsRefused why old reply new = (reply ≡ Refused why) × (new ≡ old)

-- there is no session with the number, or this is so of it
abbrev pub OfSession : List SessionView → ℕ → PlainReply → List SessionView → (SessionView → Type 0) → Type 0
OfSession old n reply new Goes = (seat_at old n ≡ None) × IsRefused refusals.NoSession old reply new
    ⊎ ((session : SessionView) × (seat_at old n ≡ Some session) × Goes session)

-- it has read all that is pinned, or reads one batch more
abbrev pub StepsOne : Option (List ℕ) → List SessionView → ℕ → PlainReply → List SessionView → SessionView → Type 0
StepsOne told old n reply new session =
    (session.pinned ≤ length session.log.given) × (reply ≡ HasRead (length session.log.given) session.pinned) × (new ≡ old)
    ⊎ ((later : SessionView) × (length session.log.given < session.pinned) × HasStepped told session later
    × (reply ≡ HasRead (length later.log.given) later.pinned) × (new ≡ changed_at (λ _. later) old n))

-- its view, or why there is none
abbrev pub ShowsOne : Option (List ℕ) → PlainReply → SessionView → Type 0
ShowsOne told reply session = ((lines : List Line) × ShowsLines told session lines × (reply ≡ Shown lines))
    ⊎ ((why : SeatRefusal) × RefusesKey told session why × (reply ≡ Refused why))

-- What a session's line does while the disk shows this: the sessions before it, the reply, and the sessions behind it.
abbrev pub SeatWent : Option (List ℕ) → SeatAsk → List SessionView → PlainReply → List SessionView → Type 0
SeatWent told (Begins holder key) old reply new = (most_seats ≤ length old) × IsRefused refusals.TooMany old reply new
    ⊎ ((session : SessionView) × (length old < most_seats) × WasBegun told holder key session
    × (reply ≡ Begun (length old + 1) session.pinned) × (new ≡ old ++ session ∷ []))
SeatWent told (Steps n) old reply new = OfSession old n reply new (StepsOne told old n reply new)
SeatWent told (Pins n) old reply new = OfSession old n reply new (λ session. (later : SessionView)
    × WasPinned told session later × (reply ≡ HasPinned later.pinned) × (new ≡ changed_at (λ _. later) old n))
SeatWent told (Shows n) old reply new = OfSession old n reply new (λ session.
    (length session.log.given < session.pinned) × IsRefused refusals.NotRead old reply new
    ⊎ ((session.pinned ≤ length session.log.given) × (new ≡ old) × ShowsOne told reply session))

-- the refusal that tells a fault of showing, where one does
abbrev pub refusal_in : ClientFault → Option SeatRefusal
refusal_in (client.NoHolder known) = Some refusals.NoHolder
refusal_in client.WrongKey = Some refusals.WrongKey
refusal_in _ = None

-- a fault of showing that isn't told by a refusal. A session shows no path
abbrev pub IsNoRefusal : ClientFault → Type 0
IsNoRefusal (client.NoHolder known) = ⊥
IsNoRefusal client.WrongKey = ⊥
IsNoRefusal client.Unseen = ⊥
IsNoRefusal _ = Unit {0}

-- a session's line met this fault of reading, while the disk showed this
abbrev pub FailsSeat : Option (List ℕ) → SeatAsk → List SessionView → ClientFault → Type 0
FailsSeat told (Begins holder key) old met = (length old < most_seats)
    × WhereTold told (λ s. IsFault met (bundle_log (bundle_with holder key) s)) × IsOfBytes met
FailsSeat told (Steps n) old met = (session : SessionView) × (seat_at old n ≡ Some session) × (length session.log.given < session.pinned)
    × WhereTold told (λ s. IsFault met (next_batch session.log s)) × IsOfBytes met
FailsSeat told (Pins n) old met = (session : SessionView) × (seat_at old n ≡ Some session)
    × WhereTold told (λ s. IsFault met (bundle_log session.bundle s)) × IsOfBytes met
FailsSeat told (Shows n) old met = (session : SessionView) × (seat_at old n ≡ Some session)
    × (session.pinned ≤ length session.log.given) × IsNoRefusal met
    × WhereTold told (λ s. ShowsGiven session.log s → IsFailure met (view_with session.bundle (Ok session.log.given)))
