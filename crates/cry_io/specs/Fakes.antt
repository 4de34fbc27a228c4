-- What contracts see of a source, a sink and a disk in memory. This project's own.
use Rattle.std.specs.Prelude.{◌+◌, ◌-◌, ◌∷◌, ◌++◌, ℕ, List, length, drop, take}
use Rattle.cry_io.specs.Events.{Event, Stays, Wrote}
use Rattle.cry_io.specs.Leaving.{shown_of}
use Rattle.cry_io.specs.Schedules.{Scheduled, counted}

-- the bytes still to come, the most that one read gives, its calls, and how many failed
pub record Fed : Type 0 where
  pub left : List ℕ
  pub step : ℕ
  pub schedule : Scheduled
  pub faults : ℕ

-- a read gave the next n bytes
abbrev pub fed : ℕ → Fed → Fed
fed n s = record s { left = drop n s.left; schedule = counted s.schedule }

-- a read failed
abbrev pub unfed : Fed → Fed
unfed s = record s { schedule = counted s.schedule; faults = s.faults + 1 }

-- all bytes taken so far, the most that it takes, its calls, and how many failed
pub record Filled : Type 0 where
  pub written : List ℕ
  pub room : ℕ
  pub schedule : Scheduled
  pub faults : ℕ

-- a write took the first n bytes of the piece
abbrev pub filled : ℕ → List ℕ → Filled → Filled
filled n piece s = record s { written = s.written ++ take n piece; schedule = counted s.schedule }

-- a write failed
abbrev pub unfilled : Filled → Filled
unfilled s = record s { schedule = counted s.schedule; faults = s.faults + 1 }

-- what has happened to a disk, the latest first; the most bytes that it may have; the units that its record had
-- at first and has left; its calls, and how many failed
pub record Spun : Type 0 where
  pub events : List Event
  pub room : ℕ
  pub log : ℕ
  pub units : ℕ
  pub schedule : Scheduled
  pub faults : ℕ

-- a read gave bytes
abbrev pub read : Spun → Spun
read d = record d { schedule = counted d.schedule }

-- bytes were written at a place: a unit for the write, and one a byte
abbrev pub wrote : ℕ → List ℕ → Spun → Spun
wrote place bytes d = record d {
  events = Wrote place bytes ∷ d.events;
  units = d.units - (1 + length bytes);
  schedule = counted d.schedule;
}

-- what was shown stays: a unit for the sync
abbrev pub synced : Spun → Spun
synced d = record d { events = Stays (shown_of d.events) ∷ d.events; units = d.units - 1; schedule = counted d.schedule }

-- a call failed
abbrev pub refused : Spun → Spun
refused d = record d { schedule = counted d.schedule; faults = d.faults + 1 }
