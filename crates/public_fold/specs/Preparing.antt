-- A change that is prepared on a state, and made later.
use Rattle.std.specs.Prelude.{◌≡◌, ℕ, ◌≤◌, Bool, true, false, List, ◌++◌, length, Option, Some, None, unwrap_or}
use Rattle.cry_base.specs.Store.{Store, root_store}
use Rattle.cry_base.specs.declared.roles.Role.{Role}
use Rattle.record_format.specs.Noted.{Note}
use Rattle.record_format.specs.Noted.Note.{Root, StrictRoot}
use Rattle.record_format.specs.Told.{told_note}
use Rattle.record_format.specs.declared.note.Note.{Note as Declared}
use Rattle.record_format.specs.declared.note.Note.TheVariants as declared
use Rattle.move_plan.specs.Fitting.{fits}
use Rattle.public_fold.specs.Changing.{checks_then, pairs_then, tree_then}
use Rattle.public_fold.specs.Fitted.{told_stand}
use Rattle.public_fold.specs.Journal.{Stand}
use Rattle.public_fold.specs.KeyStep.{KeyState, is_strict, keys_without, next_epoch}
use Rattle.public_fold.specs.Standing.{IsSeenAs, PublicView, public_store_of}
use Rattle.public_fold.specs.declared.heads.Skeleton.{Skeleton}

-- the note and its skeleton; the roles whose old keys go; the dirty roles then; the epoch then, and how many serials were
-- given in it; the version then, where the note says one
pub record PreparedView : Type 0 where
  pub note : Declared
  pub skeleton : Skeleton
  pub gone : List Role
  pub dirty : List Role
  pub epoch : ℕ
  pub count : ℕ
  pub version : Option ℕ

-- the keys once the change is made: those given, and behind them the old ones whose role isn't gone
abbrev pub keys_settled : KeyState → PreparedView → KeyState
keys_settled k p = record {
  keys = p.skeleton.keys.items ++ keys_without p.gone k.keys;
  dirty = p.dirty;
  epoch = p.epoch;
  count = p.count;
  version = unwrap_or p.version k.version;
}

-- the state once the change is made
abbrev pub settled : PublicView → PreparedView → PublicView
settled v p = record {
  tree = tree_then v.tree (told_note p.note);
  checks = checks_then v.checks (told_note p.note);
  pairs = pairs_then v.pairs (told_note p.note);
  keys = keys_settled v.keys p;
  spare = v.spare;
  key_spare = v.key_spare;
}

-- the state has the memory for it
abbrev pub HasRoomFor : PublicView → PreparedView → Type 0
HasRoomFor v p = (1 ≤ v.spare) × (length p.skeleton.keys.items ≤ v.key_spare)

-- once the next epoch was begun, where one is wanted: the keys, a state, a stand
unfoldable pub begun_keys : Bool → KeyState → KeyState
begun_keys true k = next_epoch k
begun_keys false k = k

abbrev pub begun_view : Bool → PublicView → PublicView
begun_view new v = record v { keys = begun_keys new v.keys }

abbrev pub begun : Bool → Stand → Stand
begun new at = record at { keys = begun_keys new at.keys }

-- the change may be made on the state: its note fits, and it was prepared on a state that is seen as this one, with an epoch begun before
-- it or not, so that it leaves what the note makes of it
pub record CanSettle (v : PublicView) (p : PreparedView) : Type 0 where
  pub note_fits : fits (is_strict v.keys) (public_store_of v) (told_note p.note) ≡ true
  pub begins : Bool
  pub leaves : (at : Stand) → IsSeenAs v at → IsSeenAs (settled v p) (told_stand (begun begins at) (told_note p.note))

-- the tree that the note makes whole: that of the root alone, where it makes the root
abbrev pub root_made : Note → Option Store
root_made Root = Some root_store
root_made StrictRoot = Some root_store
root_made note = None

-- whether the note makes a holder, and the same note with another check
abbrev pub is_new_holder : Declared → Bool
is_new_holder (declared.NewHolder holder check) = true
is_new_holder note = false

abbrev pub with_check : Declared → List ℕ → Declared
with_check (declared.NewHolder holder old) check = declared.NewHolder holder check
with_check note check = note
