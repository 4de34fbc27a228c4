-- What the code makes of a step on its way. This project's own, docs/FORMAT.md, "The key step".
use Rattle.std.specs.Prelude.{◌≡◌, ℕ, ◌+◌, ◌<◌, Bool, true, List, [], ◌++◌, length, map, unwrap_or}
use Rattle.cry_base.specs.Store.{Store}
use Rattle.cry_base.specs.declared.roles.Edge.{Edge}
use Rattle.cry_base.specs.declared.roles.Role.{Role}
use Rattle.role_graph.specs.PublicStore.{public_store}
use Rattle.role_graph.specs.Roles.{same_role}
use Rattle.move_plan.specs.Change.{Change, change_of}
use Rattle.move_plan.specs.Fitting.{fits}
use Rattle.record_format.specs.Noted.{Note}
use Rattle.public_fold.specs.Heads.{IsSkeleton, content_head, due_of}
use Rattle.public_fold.specs.KeyStep.{KeyState, Stepped, contents_from, dirty_left, keys_without, links_from, next_serial, numbered}
use Rattle.public_fold.specs.KeyStep.{published_edges, renewed, without}
use Rattle.public_fold.specs.Keyed.{IsKept}
use Rattle.public_fold.specs.Standing.{PublicView, public_store_of}
use Rattle.public_fold.specs.declared.counter.SerialCount.{SerialCount}
use Rattle.public_fold.specs.declared.step.Due.{Due}
use Rattle.public_fold.specs.declared.step.Step.{Step}

-- the change is that of a note that fits the store, be it strict or not
abbrev pub IsOfFittingNote : Store → Change → Type 0
IsOfFittingNote s c = (note : Note) × (strict : Bool) × (fits strict s note ≡ true) × (c ≡ change_of strict s note)

-- the roles that get keys: those that are renewed, and then those that come
abbrev pub keyed_of : Due → List Role
keyed_of d = d.renewed.items ++ d.fresh

-- the roles that get keys, those whose old keys go, the dirty roles that are left, and the edges that are published
pub record IsDue (k : KeyState) (before : List Edge) (c : Change) (d : Due) : Type 0 where
  pub keyed : keyed_of d ≡ renewed k before c ++ c.fresh
  pub gone : d.gone.items ≡ renewed k before c ++ c.gone
  pub dirty : d.dirty ≡ without same_role (renewed k before c) (dirty_left k before c)
  pub edges : d.edges.items ≡ published_edges before c (renewed k before c)
  pub version : d.version ≡ c.version

-- what is asked of the roles that a step is looked up at: they are those of a public state, with these marks, and the change is that
-- of a note that fits it
pub record IsDueAt (s : Store) (dirty : List Role) (c : Change) : Type 0 where
  pub state : PublicView
  pub store : s ≡ public_store state.tree state.pairs
  pub marks : dirty ≡ state.keys.dirty
  pub kept : IsKept (public_store_of state) state.keys.keys state.keys.dirty
  pub fits : IsOfFittingNote (public_store_of state) c

-- no keys, with these marks: what is due hangs on no more of the keys
abbrev pub marks_alone : List Role → KeyState
marks_alone dirty = record { keys = []; dirty = dirty; epoch = 0; count = 0; version = 0 }

-- the keys that a step leaves
abbrev pub keys_left : List (Role × ℕ) → Step → List (Role × ℕ)
keys_left keys s = s.skeleton.keys.items ++ keys_without s.left.gone.items keys

-- these keys, where the counter stands there and nothing is dirty
abbrev pub keys_at : List (Role × ℕ) → SerialCount → KeyState
keys_at keys from = record { keys = keys; dirty = []; epoch = from.epoch; count = from.count; version = 0 }

-- where the counter stands once keys, links and contents took their serials
abbrev pub counted : KeyState → Note → Due → ℕ
counted k note d = k.count + length (keyed_of d) + length d.edges.items + length (due_of note)

-- the same with their serials
pub record IsNumbered (k : KeyState) (note : Note) (d : Due) (s : Step) : Type 0 where
  pub given : s.skeleton.keys.items ≡ numbered (next_serial k) (keyed_of d)
  pub gone : s.left.gone.items ≡ d.gone.items
  pub links : s.skeleton.links.items ≡ links_from (keys_left k.keys s) (next_serial k + length (keyed_of d)) d.edges.items
  pub contents : s.skeleton.contents.items
      ≡ map content_head (contents_from (keys_left k.keys s) (next_serial k + length (keyed_of d) + length d.edges.items) (due_of note))
  pub dirty : s.left.dirty ≡ d.dirty
  pub epoch : s.left.epoch ≡ k.epoch
  pub count : s.left.count ≡ counted k note d
  pub below : s.left.count < 4294967295
  pub version : s.left.version ≡ d.version

-- what the step gives, publishes and leaves, from the keys before it
pub record IsStep (before : KeyState) (step : Stepped) (s : Step) : Type 0 where
  pub skeleton : IsSkeleton step s.skeleton
  pub keys : keys_left before.keys s ≡ step.after.keys
  pub dirty : s.left.dirty ≡ step.after.dirty
  pub epoch : s.left.epoch ≡ step.after.epoch
  pub count : s.left.count ≡ step.after.count
  pub version : unwrap_or s.left.version before.version ≡ step.after.version
