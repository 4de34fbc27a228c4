-- A whole piece drawn from a source that tells its contents. This project's own.
use Rattle.std.specs.Prelude.{◌≡◌, ◌<◌, ◌≤◌, ◌^◌, ◌*◌, ℕ, List, [], ◌++◌, length, min, All, Result, Ok, Err}
use Rattle.std.specs.List.{flat_map}
use Rattle.cry_base.specs.Listed.{Listed}
use Rattle.store_owner.specs.declared.apply_fault.ApplyFault.{ApplyFault}
use Rattle.store_owner.specs.declared.apply_fault.ApplyFault.TheVariants as answers
use Rattle.store_owner.specs.declared.drawing.DrawFault.{DrawFault}
use Rattle.store_owner.specs.declared.drawing.DrawFault.TheVariants as faults

-- the bytes drawn were the next ones; where the source ended these were all that was left, and they are gone
abbrev pub Draws : {U : Type 0} → Result U DrawFault → List ℕ → List ℕ → List ℕ → Type 0
Draws (Ok _) drawn before after = before ≡ drawn ++ after
Draws (Err faults.Failed) drawn before after = (gone : List ℕ) × (before ≡ gone ++ after)
Draws (Err (faults.Short left)) drawn before after = (length before ≡ left) × (after ≡ [])

-- the count of faults never falls, and Failed comes only where it rose
abbrev pub FailsByCount : {U : Type 0} → Result U DrawFault → ℕ → ℕ → Type 0
FailsByCount (Err faults.Failed) old new = old < new
FailsByCount _ old new = old ≤ new

-- a source that ended gave fewer bytes than were wanted
abbrev pub IsShortOf : ℕ → DrawFault → Type 0
IsShortOf want faults.Failed = Unit {0}
IsShortOf want (faults.Short left) = left < want

-- each of them has the bytes of a key
abbrev pub AreKeys : List (List ℕ) → Type 0
AreKeys drawn = All (λ (key : List ℕ). length key ≡ 32) drawn

-- their bytes one after another
abbrev pub joined : List (List ℕ) → List ℕ
joined drawn = flat_map (λ (key : List ℕ). key) drawn

-- the keys drawn were the next bytes; where the source ended, and all keys together have less than 2^32 bytes, these were all
-- that was left, and they are gone
abbrev pub DrawsKeys : ℕ → Result (Listed (List ℕ)) ApplyFault → List ℕ → List ℕ → Type 0
DrawsKeys keys (Ok drawn) before after = before ≡ joined drawn.items ++ after
DrawsKeys keys (Err answers.RandomFault) before after = (gone : List ℕ) × (before ≡ gone ++ after)
DrawsKeys keys (Err (answers.RandomShort left need)) before after = (32 * keys < 2 ^ 32 → length before ≡ left) × (after ≡ [])
DrawsKeys keys (Err answers.DiskFault) before after = ⊥
DrawsKeys keys (Err answers.Closed) before after = ⊥
DrawsKeys keys (Err answers.OutOfMemory) before after = ⊥

-- the answer to a source that failed, or that ended before the last of so many bytes
abbrev pub IsFaultFor : DrawFault → ℕ → ApplyFault → Type 0
IsFaultFor faults.Failed need fault = fault ≡ answers.RandomFault
IsFaultFor (faults.Short left) need fault = fault ≡ answers.RandomShort (min left 4294967295) (min need 4294967295)

-- the source failed, or it ended before the last of the bytes that so many keys need
abbrev pub IsFillFault : {T : Type 0} → ℕ → Result T ApplyFault → Type 0
IsFillFault keys (Ok _) = Unit {0}
IsFillFault keys (Err answers.RandomFault) = Unit {0}
IsFillFault keys (Err (answers.RandomShort left need)) = 32 * keys < 2 ^ 32 → (need ≡ 32 * keys) × (left < need)
IsFillFault keys (Err answers.DiskFault) = ⊥
IsFillFault keys (Err answers.Closed) = ⊥
IsFillFault keys (Err answers.OutOfMemory) = ⊥

-- the count of faults never falls, and RandomFault comes only where it rose
abbrev pub FillsByCount : {T : Type 0} → Result T ApplyFault → ℕ → ℕ → Type 0
FillsByCount (Err answers.RandomFault) old new = old < new
FillsByCount _ old new = old ≤ new
