-- Keys of roles over time: what stands, what was ever published, and one step. No role is named here.
use Rattle.std.specs.Prelude.{◌≡◌, ℕ, Bool, true, List, Option, Some, None, ◌⊎◌, ◌↔◌}
use Rattle.cry_base.specs.Sets.{In, Path}

-- the serial of each role's present key, the edges and the dirty roles; and of all that ever was: the links from serial to serial, the
-- keys with their roles, and the serials of those whose role was marked after they were made
pub record State (R : Type 0) : Type 0 where
  pub key : R → Option ℕ
  pub edges : List (R × R)
  pub dirty : List R
  pub links : List (ℕ × ℕ)
  pub made : List (R × ℕ)
  pub tainted : List ℕ

-- what one step takes away, leaves and brings: edges; the roles that it marks, that go, that are renewed, that come; the keys that it
-- gives, and the links that it publishes
pub record Move (R : Type 0) : Type 0 where
  pub removed : List (R × R)
  pub left : List (R × R)
  pub added : List (R × R)
  pub marked : List R
  pub gone : List R
  pub renewed : List R
  pub fresh : List R
  pub given : List (R × ℕ)
  pub shown : List (ℕ × ℕ)

-- the role gets a key
abbrev pub IsTouched : {R : Type 0} → Move R → R → Type 0
IsTouched m r = In r m.renewed ⊎ In r m.fresh

-- the link is from present key to present key along an edge that was added, or has a role at an end that got a key
abbrev pub IsPublished : {R : Type 0} → Move R → State R → ℕ × ℕ → Type 0
IsPublished {R} m new l =
    (e : R × R) × In e new.edges × (new.key e.0 ≡ Some l.0) × (new.key e.1 ≡ Some l.1)
    × (In e m.added ⊎ (IsTouched m e.0 ⊎ IsTouched m e.1))

-- the move leads from the old state to the new one: all behind a removed edge is marked; what is renewed or new gets a key and is clean
pub record IsStep {R : Type 0} (old : State R) (m : Move R) (new : State R) : Type 0 where
  pub removed_stood : (e : R × R) → In e m.removed → In e old.edges
  pub left_stood : (e : R × R) → In e m.left → In e old.edges
  pub parted : (e : R × R) → In e old.edges → In e m.left ⊎ In e m.removed
  pub edges : (e : R × R) → In e new.edges ↔ (In e m.left ⊎ In e m.added)
  pub marked : (r : R) → In r m.marked ↔ ((e : R × R) × In e m.removed × Path old.edges e.1 r)
  pub dirty : (r : R) → In r new.dirty ↔ ((In r old.dirty ⊎ In r m.marked) × (In r m.gone → ⊥) × (IsTouched m r → ⊥))
  pub new_key : (r : R) → IsTouched m r → (k : ℕ) × (new.key r ≡ Some k) × In {X = R × ℕ} (r, k) m.given
  pub same_key : (r : R) → (IsTouched m r → ⊥) → (In r m.gone → ⊥) → new.key r ≡ old.key r
  pub no_key : (r : R) → (IsTouched m r → ⊥) → In r m.gone → new.key r ≡ None
  pub made : (key : R × ℕ) → In key new.made ↔ (In key old.made ⊎ In key m.given)
  pub tainted : (k : ℕ) → In k new.tainted ↔ (In k old.tainted ⊎ ((r : R) × In {X = R × ℕ} (r, k) old.made × In r m.marked))
  pub shown : (l : ℕ × ℕ) → In l m.shown ↔ IsPublished m new l
  pub links : (l : ℕ × ℕ) → In l new.links ↔ (In l old.links ⊎ In l m.shown)

-- what a step has to keep to: the dirty source of an edge to a renewed role is renewed with it; an added edge leaves no dirty role, and
-- both its ends have keys; no edge that is left has an end that goes; a new role had no key; no serial is given to two roles, or was given
-- before; no root is renewed, and no edge ends in one
pub record Fits {R : Type 0} (root : R → Bool) (old : State R) (m : Move R) (new : State R) : Type 0 where
  pub renews_back : (e : R × R) → In e m.left → In e.0 old.dirty ⊎ In e.0 m.marked → In e.1 m.renewed → In e.0 m.renewed
  pub adds_clean : (e : R × R) → In e m.added → In e.0 new.dirty → ⊥
  pub adds_keyed : (e : R × R) → In e m.added → ((k : ℕ) × (new.key e.0 ≡ Some k)) × ((k : ℕ) × (new.key e.1 ≡ Some k))
  pub left_stays : (e : R × R) → In e m.left → (In e.0 m.gone → ⊥) × (In e.1 m.gone → ⊥)
  pub fresh_had_none : (r : R) → In r m.fresh → old.key r ≡ None
  pub serials_new : (r q : R) (k : ℕ) → In {X = R × ℕ} (r, k) m.given → In {X = R × ℕ} (q, k) old.made → ⊥
  pub serials_differ : (r q : R) (k : ℕ) → In {X = R × ℕ} (r, k) m.given → In {X = R × ℕ} (q, k) m.given → r ≡ q
  pub roots_stay : (r : R) → In r m.renewed → root r ≡ true → ⊥
  pub none_into_roots : (e : R × R) → In e new.edges → root e.1 ≡ true → ⊥
