-- What holds of the keys after each entry.
use Rattle.std.specs.Prelude.{◌≡◌, ◌<◌, ◌↔◌, ◌⊎◌, ℕ, false, List, Some}
use Rattle.std.specs.List.{flat_map}
use Rattle.cry_base.specs.Sets.{In}
use Rattle.cry_base.specs.Store.{Store, FileEntry, HolderEntry}
use Rattle.cry_base.specs.declared.roles.Edge.{Edge}
use Rattle.cry_base.specs.declared.roles.Role.{Role}
use Rattle.cry_base.specs.declared.roles.Role.TheVariants.{Owner, Holder, Clear, Sub, Back, Files, Data, File}
use Rattle.role_graph.specs.Edges.{edges}
use Rattle.role_graph.specs.RightsByReach.{HasFolder, IsClearance}
use Rattle.role_graph.specs.Roles.{is_root_role}
use Rattle.public_fold.specs.Records.{Link}
use Rattle.public_fold.specs.Rooted.{MayStand}
use Rattle.public_fold.specs.KeyStep.{KeyState, Stepped, next_serial, newest, present}

-- the role is the owner's, or one of a holder, a folder or a file that stands, a file's clearance where it has a grant
abbrev pub HasRole : Store → Role → Type 0
HasRole s Owner = Unit {0}
HasRole s (Holder h) = (e : HolderEntry) × In e s.holders × (e.number ≡ h.0)
HasRole s (Clear f) = HasFolder s f.0 ⊎ IsClearance s f.0
HasRole s (Sub f) = HasFolder s f.0
HasRole s (Back f) = HasFolder s f.0
HasRole s (Files f) = HasFolder s f.0
HasRole s (Data f) = HasFolder s f.0
HasRole s (File x) = (e : FileEntry) × In e s.files × (e.id ≡ x.0)

-- the links of some steps
unfoldable pub links_of : List Stepped → List Link
links_of steps = flat_map (λ s. s.links) steps

-- what is dirty is so with all behind it, and stands, and is no root; each edge has a link among these, from the present key
-- of its source to the present key of its target; exactly the standing roles have keys
pub record KeysHold (s : Store) (k : KeyState) (links : List Link) : Type 0 where
  pub closed : (e : Edge) → In e (edges s) → In e.from k.dirty → In e.to k.dirty
  pub no_root : (r : Role) → In r k.dirty → is_root_role r ≡ false
  pub dirty_stands : (r : Role) → In r k.dirty → HasRole s r
  pub linked : (e : Edge) → In e (edges s) → (l : Link) × In l links × (l.edge ≡ e) × (l.from_serial ≡ present k.keys e.from)
      × (l.to_serial ≡ present k.keys e.to)
  pub keyed : (r : Role) → HasRole s r ↔ ((n : ℕ) × (newest k.keys r ≡ Some n))

-- the store may stand, and these keys hold with some links, where the counter stands wherever it does
pub record IsKept (s : Store) (keys : List (Role × ℕ)) (dirty : List Role) : Type 0 where
  pub stands : MayStand s
  pub links : List Link
  pub hold : KeysHold s (record { keys = keys; dirty = dirty; epoch = 0; count = 0; version = 0 }) links

-- present keys have serials of their own, all below the next one
pub record SerialsHold (k : KeyState) : Type 0 where
  pub own : (a b : Role) (n : ℕ) → newest k.keys a ≡ Some n → newest k.keys b ≡ Some n → a ≡ b
  pub below : (r : Role) (n : ℕ) → newest k.keys r ≡ Some n → n < next_serial k

-- no link of a step leaves a role that is dirty after it
abbrev pub LeavesClean : Stepped → Type 0
LeavesClean step = (l : Link) → In l step.links → In l.edge.from step.after.dirty → ⊥
