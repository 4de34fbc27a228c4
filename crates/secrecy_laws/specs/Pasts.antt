-- The keys of a store, with all that was ever published, as a state of the laws over any roles.
use Rattle.std.specs.Prelude.{ℕ, List, [], ◌∷◌, ◌++◌, map, filter}
use Rattle.cry_base.specs.Sets.{has}
use Rattle.cry_base.specs.declared.roles.Edge.{Edge}
use Rattle.cry_base.specs.declared.roles.Role.{Role}
use Rattle.cry_base.specs.declared.roles.Role.TheVariants.{Owner}
use Rattle.role_graph.specs.Edges.{edges, pairs_of}
use Rattle.role_graph.specs.Roles.{same_role}
use Rattle.rekey_walk.specs.Dirty.{mark_all}
use Rattle.move_plan.specs.Change.{Change, change_of}
use Rattle.move_plan.specs.Noting.{note_of}
use Rattle.record_format.specs.Noted.Note.{Upgrade}
use Rattle.public_fold.specs.Journal.{Entry, Journal, Stand, nothing, root_note, entry_step, stand_then}
use Rattle.public_fold.specs.Journal.Entry.{Session, Made, Did, Upgraded}
use Rattle.public_fold.specs.KeyStep.{Stepped, is_strict, newest, edges_left}
use Rattle.public_fold.specs.Records.{Link}
use Rattle.secrecy_laws.specs.States.{State, Move}
use Rattle.secrecy_laws.specs.Runs.{Turn}

-- the roles that a change marks: all that edges lead to from the end of a removed one
unfoldable pub marks_of : List Edge → Change → List Role
marks_of before c = mark_all [] before (map (λ e. e.to) c.removed)

-- what was ever published: the links, the keys that were given, and the serials of those whose role was marked later
pub record Past : Type 0 where
  pub links : List Link
  pub made : List (Role × ℕ)
  pub tainted : List ℕ

-- at first the owner's key alone
unfoldable pub no_past : Past
no_past = record { links = []; made = (Owner, 0) ∷ []; tainted = [] }

-- the serials of the keys of some roles
unfoldable pub serials_of : List (Role × ℕ) → List Role → List ℕ
serials_of made roles = map (λ key. key.1) (filter (λ key. has same_role roles key.0) made)

-- the past after a key step
unfoldable pub past_then : Past → List Edge → Change → Stepped → Past
past_then p before c step = record {
  links = p.links ++ step.links;
  made = p.made ++ step.given;
  tainted = p.tainted ++ serials_of p.made (marks_of before c);
}

-- and after an entry of a journal, and some
unfoldable pub past_entry : Stand → Past → Entry → Past
past_entry at p Session = p
past_entry at p (Made version keys) =
    past_then p (edges at.store) (change_of (is_strict at.keys) at.store (root_note version)) (entry_step at (Made version keys))
past_entry at p (Did request keys) =
    past_then p (edges at.store) (change_of (is_strict at.keys) at.store (note_of at.store request [])) (entry_step at (Did request keys))
past_entry at p (Upgraded keys) =
    past_then p (edges at.store) (change_of (is_strict at.keys) at.store Upgrade) (entry_step at (Upgraded keys))

unfoldable pub past_after : Stand → Past → List Entry → Past
past_after at p [] = p
past_after at p (entry ∷ entries) = past_after (stand_then at entry) (past_entry at p entry) entries

unfoldable pub past_of : Journal → Past
past_of m = past_after nothing no_past m

-- a link from serial to serial
abbrev pub ends_of : Link → ℕ × ℕ
ends_of l = (l.from_serial, l.to_serial)

-- the state of a stand with its past
abbrev pub state_of : Stand → Past → State Role
state_of at p = record {
  key = newest at.keys.keys;
  edges = pairs_of (edges at.store);
  dirty = at.keys.dirty;
  links = map ends_of p.links;
  made = p.made;
  tainted = p.tainted;
}

-- the move of a key step
abbrev pub move_of : List Edge → Change → Stepped → Move Role
move_of before c step = record {
  removed = pairs_of c.removed;
  left = pairs_of (edges_left before c);
  added = pairs_of c.added;
  marked = marks_of before c;
  gone = c.gone;
  renewed = step.renewals;
  fresh = c.fresh;
  given = step.given;
  shown = map ends_of step.links;
}

-- the turns of the laws that entries are. A session is none: it changes no key
unfoldable pub turns_of : Stand → Past → List Entry → List (Turn Role)
turns_of at p [] = []
turns_of at p (Session ∷ entries) = turns_of (stand_then at Session) p entries
turns_of at p (Made version keys ∷ entries) = []
turns_of at p (Did request keys ∷ entries) =
    record {
      move = move_of (edges at.store)
          (change_of (is_strict at.keys) at.store (note_of at.store request [])) (entry_step at (Did request keys));
      after = state_of (stand_then at (Did request keys)) (past_entry at p (Did request keys));
    } ∷ turns_of (stand_then at (Did request keys)) (past_entry at p (Did request keys)) entries
turns_of at p (Upgraded keys ∷ entries) =
    record {
      move = move_of (edges at.store) (change_of (is_strict at.keys) at.store Upgrade) (entry_step at (Upgraded keys));
      after = state_of (stand_then at (Upgraded keys)) (past_entry at p (Upgraded keys));
    } ∷ turns_of (stand_then at (Upgraded keys)) (past_entry at p (Upgraded keys)) entries
