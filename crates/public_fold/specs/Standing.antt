-- What contracts see of a public state, and which stands it tells of. This project's own, docs/FORMAT.md, "The key step".
use Rattle.std.specs.Prelude.{◌≡◌, ℕ, ◌↔◌, List, [], ◌∷◌}
use Rattle.cry_base.specs.Sets.{In}
use Rattle.cry_base.specs.Store.{Store, GrantEntry}
use Rattle.move_plan.specs.Seen.{seen_store}
use Rattle.public_fold.specs.Journal.{Stand}
use Rattle.public_fold.specs.KeyStep.{KeyState}

-- the tree without names, each holder's check, the grants by holder and then by folder, and the keys by their serials; and how many
-- changes of tree, holders and grants have their memory, and how many keys more
pub record PublicView : Type 0 where
  pub tree : Store
  pub checks : List (List ℕ)
  pub pairs : List GrantEntry
  pub keys : KeyState
  pub spare : ℕ
  pub key_spare : ℕ

-- the one state with the room of the other
abbrev pub with_room_of : PublicView → PublicView → PublicView
with_room_of v other = record v { spare = other.spare; key_spare = other.key_spare }

-- the store and the keys as everyone may see them
abbrev pub public_store_of : PublicView → Store
public_store_of v = seen_store v.tree (record { checks = v.checks; pairs = v.pairs; spare = 0 })

abbrev pub stand_of : PublicView → Stand
stand_of v = record { store = public_store_of v; keys = v.keys }

-- no grant stands twice
abbrev pub AreOnce : List GrantEntry → Type 0
AreOnce [] = Unit {0}
AreOnce (g ∷ gs) = (In g gs → ⊥) × AreOnce gs

-- the same grants, each once, in whatever order
pub record AreSameGrants (gs hs : List GrantEntry) : Type 0 where
  pub same : (g : GrantEntry) → In g gs ↔ In g hs
  pub once : AreOnce gs
  pub other_once : AreOnce hs

-- a store and keys are what everyone may see of the stand: the order of the grants alone may differ
pub record IsPublicOf (s : Store) (k : KeyState) (at : Stand) : Type 0 where
  pub store : at.store ≡ record s { grants = at.store.grants }
  pub grants : AreSameGrants s.grants at.store.grants
  pub keys : at.keys ≡ k

-- so is what the state keeps, whatever room it has
abbrev pub IsSeenAs : PublicView → Stand → Type 0
IsSeenAs v at = IsPublicOf (public_store_of v) v.keys at
