-- What holds of keys after each step.
use Rattle.std.specs.Prelude.{◌≡◌, ℕ, Bool, true, Some, ◌↔◌}
use Rattle.cry_base.specs.Sets.{In, Path}
use Rattle.secrecy_laws.specs.States.{State}

-- what is dirty is so with all behind it, and is no root; a present key is tainted exactly where its role is dirty
pub record AreMarked {R : Type 0} (root : R → Bool) (s : State R) : Type 0 where
  pub none_into_roots : (e : R × R) → In e s.edges → root e.1 ≡ true → ⊥
  pub closed : (e : R × R) → In e s.edges → In e.0 s.dirty → In e.1 s.dirty
  pub roots_clean : (r : R) → In r s.dirty → root r ≡ true → ⊥
  pub tainted : (r : R) (k : ℕ) → s.key r ≡ Some k → In k s.tainted ↔ In r s.dirty

-- no serial was given to two roles; present keys, tainted ones and both ends of each link are among those made
pub record AreMadeOnce {R : Type 0} (s : State R) : Type 0 where
  pub own : (q r : R) (k : ℕ) → In {X = R × ℕ} (q, k) s.made → In {X = R × ℕ} (r, k) s.made → q ≡ r
  pub present : (r : R) (k : ℕ) → s.key r ≡ Some k → In {X = R × ℕ} (r, k) s.made
  pub tainted : (k : ℕ) → In k s.tainted → (r : R) × In {X = R × ℕ} (r, k) s.made
  pub linked : (l : ℕ × ℕ) → In l s.links → ((r : R) × In {X = R × ℕ} (r, l.0) s.made) × ((r : R) × In {X = R × ℕ} (r, l.1) s.made)

-- a link into an untainted key comes from an untainted key, and an edge that stands leads from the role of the one to that of the other
abbrev pub AreTraced : {R : Type 0} → State R → Type 0
AreTraced {R} s = (l : ℕ × ℕ) → In l s.links → (In l.1 s.tainted → ⊥)
    → (In l.0 s.tainted → ⊥) × ((e : R × R) × In e s.edges × In {X = R × ℕ} (e.0, l.0) s.made × In {X = R × ℕ} (e.1, l.1) s.made)

-- each edge has a link from present key to present key
abbrev pub AreLinked : {R : Type 0} → State R → Type 0
AreLinked {R} s = (e : R × R) → In e s.edges → (l : ℕ × ℕ) × In l s.links × (s.key e.0 ≡ Some l.0) × (s.key e.1 ≡ Some l.1)

-- all of them
pub record Holds {R : Type 0} (root : R → Bool) (s : State R) : Type 0 where
  pub marked : AreMarked root s
  pub once : AreMadeOnce s
  pub traced : AreTraced s
  pub linked : AreLinked s

-- a trail of links leads to the key from the present key of the role
abbrev pub Opens : {R : Type 0} → State R → R → ℕ → Type 0
Opens s h k = (own : ℕ) × (s.key h ≡ Some own) × Path s.links own k

-- a role that had a key before comes into reach of h
abbrev pub Brings : {R : Type 0} → State R → State R → R → R → Type 0
Brings old new h r = ((k : ℕ) × (old.key r ≡ Some k)) × Path new.edges h r × (Path old.edges h r → ⊥)

-- h opens the key in the new state and didn't in the old one: a role is brought whose present key opens it in the new state
pub record OpensAnew {R : Type 0} (old new : State R) (h : R) (k : ℕ) : Type 0 where
  pub not_before : Opens old h k → ⊥
  pub after : Opens new h k
  pub brought : (r : R) × Brings old new h r × Opens new r k
