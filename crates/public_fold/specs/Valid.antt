-- Which journals there are. This project's own, docs/FORMAT.md.
use Rattle.std.specs.Prelude.{◌≡◌, ◌≤◌, ◌⊎◌, ℕ, List, [], ◌∷◌, length, None}
use Rattle.cry_base.specs.Limits.{most_file_bytes, most_store_bytes}
use Rattle.cry_base.specs.Refusing.{refusal_in}
use Rattle.public_fold.specs.Journal.{Entry, Journal, Stand, nothing, entry_step, stand_then}
use Rattle.public_fold.specs.Journal.Entry.{Session, Made, Did, Upgraded}
use Rattle.public_fold.specs.KeyStep.{is_strict}
use Rattle.public_fold.specs.Lengths.{end_of}

-- the entry may come next: a command is accepted by a store of the version, a store of version 1 is made one of version 2; either
-- drew a key for each that its step gives
abbrev pub IsNext : Stand → Entry → Type 0
IsNext at Session = Unit {0}
IsNext at (Made version keys) = ⊥
IsNext at (Did request keys) = (refusal_in (is_strict at.keys) at.store request most_file_bytes ≡ None)
    × (length keys ≡ length (entry_step at (Did request keys)).given)
IsNext at (Upgraded keys) = (at.keys.version ≡ 1) × (length keys ≡ length (entry_step at (Upgraded keys)).given)

-- so may each of the entries, one after another
abbrev pub FollowOn : Stand → List Entry → Type 0
FollowOn at [] = Unit {0}
FollowOn at (entry ∷ entries) = IsNext at entry × FollowOn (stand_then at entry) entries

-- the versions of stores
abbrev pub IsVersion : ℕ → Type 0
IsVersion version = (version ≡ 1) ⊎ (version ≡ 2)

-- the first two entries make the store, under five keys
abbrev pub BeginsWell : Journal → Type 0
BeginsWell [] = ⊥
BeginsWell (Session ∷ []) = ⊥
BeginsWell (Session ∷ Session ∷ entries) = ⊥
BeginsWell (Session ∷ Made version keys ∷ entries) = (length keys ≡ 5)
    × FollowOn (stand_then (stand_then nothing Session) (Made version keys)) entries
    × IsVersion version
BeginsWell (Session ∷ Did request keys ∷ entries) = ⊥
BeginsWell (Session ∷ Upgraded keys ∷ entries) = ⊥
BeginsWell (Made version keys ∷ entries) = ⊥
BeginsWell (Did request keys ∷ entries) = ⊥
BeginsWell (Upgraded keys ∷ entries) = ⊥

-- a journal of either version: its log ends within the store limit
abbrev pub IsValid : Journal → Type 0
IsValid m = BeginsWell m × (end_of m ≤ most_store_bytes)
