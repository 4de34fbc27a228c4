-- What was done to a store, and what stands after it. This project's own, docs/FORMAT.md.
use Rattle.std.specs.Prelude.{ℕ, ◌==◌, if◌then◌else◌, List, [], ◌∷◌}
use Rattle.cry_base.specs.Requests.{Request}
use Rattle.cry_base.specs.Store.{Store, no_store, root_store}
use Rattle.cry_base.specs.Stepping.{effect}
use Rattle.role_graph.specs.Edges.{edges}
use Rattle.record_format.specs.Noted.{Note}
use Rattle.record_format.specs.Noted.Note.{Root, StrictRoot, Upgrade}
use Rattle.move_plan.specs.Noting.{note_of}
use Rattle.move_plan.specs.Change.{change_of}
use Rattle.public_fold.specs.Records.{pieces_of}
use Rattle.public_fold.specs.KeyStep.{KeyState, Stepped, is_strict, no_keys, next_epoch, key_step}

-- an opening for writing; the making of the root, in a store of this version, under the keys that were drawn; an accepted command with
-- those that it drew; a store of version 1 becomes one of version 2
pub data Entry : Type 0 where
  Session : Entry
  Made : (version : ℕ) → (keys : List (List ℕ)) → Entry
  Did : (request : Request) → (keys : List (List ℕ)) → Entry
  Upgraded : (keys : List (List ℕ)) → Entry

-- the entries from the first on. The n-th is batch n of the store file
abbrev pub Journal : Type 0
Journal = List Entry

-- the store and the keys at one time
pub record Stand : Type 0 where
  pub store : Store
  pub keys : KeyState

-- before the first entry
unfoldable pub nothing : Stand
nothing = record { store = no_store; keys = no_keys }

-- the one key that a command drew, and no bytes where it drew none: a new holder's
unfoldable pub first_key : List (List ℕ) → List ℕ
first_key [] = []
first_key (key ∷ keys) = key

-- the key step of a note with the store after it
unfoldable pub note_step : Stand → Note → Store → Stepped
note_step at note after = key_step at.keys (edges at.store) (change_of (is_strict at.keys) at.store note) (pieces_of note after)

-- the note that makes the root
unfoldable pub root_note : ℕ → Note
root_note version = if version == 2 then StrictRoot else Root

-- the step of an entry. A holder's check hangs on no key, so none is given
unfoldable pub entry_step : Stand → Entry → Stepped
entry_step at Session = record { after = next_epoch at.keys; renewals = []; given = []; links = []; contents = [] }
entry_step at (Made version keys) = note_step at (root_note version) root_store
entry_step at (Did request keys) = note_step at (note_of at.store request []) (effect at.store request (first_key keys))
entry_step at (Upgraded keys) = note_step at Upgrade at.store

-- the store after an entry
unfoldable pub entry_store : Store → Entry → Store
entry_store s Session = s
entry_store s (Made version keys) = root_store
entry_store s (Did request keys) = effect s request (first_key keys)
entry_store s (Upgraded keys) = s

-- what stands after one entry, and after some
unfoldable pub stand_then : Stand → Entry → Stand
stand_then at entry = record { store = entry_store at.store entry; keys = (entry_step at entry).after }

unfoldable pub stand_after : Stand → List Entry → Stand
stand_after at [] = at
stand_after at (entry ∷ entries) = stand_after (stand_then at entry) entries

-- the store of a journal, and its keys
unfoldable pub store_of : Journal → Store
store_of m = (stand_after nothing m).store

unfoldable pub keys_of : Journal → KeyState
keys_of m = (stand_after nothing m).keys

-- the steps of entries, one after another
unfoldable pub steps_from : Stand → List Entry → List Stepped
steps_from at [] = []
steps_from at (entry ∷ entries) = entry_step at entry ∷ steps_from (stand_then at entry) entries

-- the steps of a journal
unfoldable pub steps_of : Journal → List Stepped
steps_of m = steps_from nothing m
