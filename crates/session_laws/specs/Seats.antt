-- Readers who stay while one owner writes, over the plain journal: entry n is batch n, so the first entries are the first batches.
-- This project's own, docs/PROGRAM.md, "Lines".
use Rattle.std.specs.Prelude.{◌≡◌, ◌≤◌, ℕ, zero, suc, ◌+◌, nat_lt, max, if◌then◌else◌, List, [], ◌∷◌, ◌++◌, length, take, Option}
use Rattle.std.specs.Prelude.{Some, None}
use Rattle.std.specs.Str.{bytes_eq}
use Rattle.chacha_seal.specs.Sealing.{check_of}
use Rattle.cry_base.specs.Store.{HolderEntry, Store, holder_entry}
use Rattle.log_visits.specs.View.{Line, view}
use Rattle.public_fold.specs.Journal.{Journal, store_of}
use Rattle.role_graph.specs.Rights.Who.{TheHolder}
use Rattle.script_text.specs.Seats.{SeatAsk}
use Rattle.script_text.specs.declared.seats.SeatRefusal.{SeatRefusal}
use Rattle.script_text.specs.Seats.SeatAsk.{Begins, Pins, Shows, Steps}
use Rattle.script_text.specs.declared.seats.SeatRefusal.TheVariants.{NoHolder, NoSession, NotRead, TooMany, WrongKey}

-- a reader's seat: whose key, how many first entries of the journal are pinned, and how many of these were read
pub record Seat : Type 0 where
  pub holder : ℕ
  pub key : List ℕ
  pub pinned : ℕ
  pub read : ℕ

-- what a session's line is answered: a new session's number and how many entries are pinned for it; how many were read of how many
-- that are pinned; how many are pinned now; the lines of a view; or why it is refused
pub data PlainReply : Type 0 where
  Begun : (seat pinned : ℕ) → PlainReply
  HasRead : (read pinned : ℕ) → PlainReply
  HasPinned : (pinned : ℕ) → PlainReply
  Shown : (lines : List Line) → PlainReply
  Refused : SeatRefusal → PlainReply

-- so many sessions may stand
abbrev pub most_seats : ℕ
most_seats = 256

-- the one with a number, from 1, the first that was begun first
unfoldable pub seat_at : {X : Type 0} → List X → ℕ → Option X
seat_at [] n = None
seat_at (x ∷ xs) zero = None
seat_at (x ∷ xs) (suc zero) = Some x
seat_at (x ∷ xs) (suc (suc n)) = seat_at xs (suc n)

-- all of them, with a change of the one with a number
unfoldable pub changed_at : {X : Type 0} → (X → X) → List X → ℕ → List X
changed_at change [] n = []
changed_at change (x ∷ xs) zero = x ∷ xs
changed_at change (x ∷ xs) (suc zero) = change x ∷ xs
changed_at change (x ∷ xs) (suc (suc n)) = x ∷ changed_at change xs (suc n)

-- all entries of the journal are pinned for a new seat, and none was read
unfoldable pub new_seat : Journal → ℕ → List ℕ → Seat
new_seat m holder key = record { holder = holder; key = key; pinned = length m; read = 0 }

-- one entry more is read, if one is left
unfoldable pub stepped : Seat → Seat
stepped seat = if nat_lt seat.read seat.pinned then record seat { read = seat.read + 1 } else seat

-- all entries that there are now are pinned, and never fewer than were
unfoldable pub repinned : Journal → Seat → Seat
repinned m seat = record seat { pinned = max seat.pinned (length m) }

-- what a store shows of a holder to who has a key: nothing if no holder has the number, or the holder's key has another check
unfoldable pub shows_entry : Store → ℕ → List ℕ → Option HolderEntry → PlainReply
shows_entry s h key None = Refused NoHolder
shows_entry s h key (Some e) = if bytes_eq (check_of e.key) (check_of key) then Shown (view s (TheHolder h)) else Refused WrongKey

unfoldable pub seat_shows : Store → ℕ → List ℕ → PlainReply
seat_shows s h key = shows_entry s h key (holder_entry s h)

-- the store of the entries that are pinned, once all of these were read
unfoldable pub show_reply : Journal → Seat → PlainReply
show_reply m seat =
    if nat_lt seat.read seat.pinned then Refused NotRead else seat_shows (store_of (take seat.pinned m)) seat.holder seat.key

-- the reply to who has a seat
unfoldable pub with_seat : (Seat → PlainReply) → Option Seat → PlainReply
with_seat reply None = Refused NoSession
with_seat reply (Some seat) = reply seat

-- the reply to a session's line, and the seats behind it, while the journal stands so
unfoldable pub seat_reply : Journal → List Seat → SeatAsk → PlainReply
seat_reply m seats (Begins holder key) = if nat_lt (length seats) most_seats then Begun (length seats + 1) (length m) else Refused TooMany
seat_reply m seats (Steps n) = with_seat (λ seat. HasRead (stepped seat).read seat.pinned) (seat_at seats n)
seat_reply m seats (Pins n) = with_seat (λ seat. HasPinned (repinned m seat).pinned) (seat_at seats n)
seat_reply m seats (Shows n) = with_seat (show_reply m) (seat_at seats n)

unfoldable pub seats_then : Journal → List Seat → SeatAsk → List Seat
seats_then m seats (Begins holder key) = if nat_lt (length seats) most_seats then seats ++ new_seat m holder key ∷ [] else seats
seats_then m seats (Steps n) = changed_at stepped seats n
seats_then m seats (Pins n) = changed_at (repinned m) seats n
seats_then m seats (Shows n) = seats

-- a seat and what became of it: the same reader, for whom no fewer entries are pinned, and who has read no fewer
pub record GoesForward (old new : Seat) : Type 0 where
  pub holder : new.holder ≡ old.holder
  pub key : new.key ≡ old.key
  pub pinned : old.pinned ≤ new.pinned
  pub read : old.read ≤ new.read

-- no more entries were read than are pinned, and there are these
pub record IsWithin (m : Journal) (seat : Seat) : Type 0 where
  pub read : seat.read ≤ seat.pinned
  pub pinned : seat.pinned ≤ length m
