-- A proof that grows with the log's leaves. It is kept for one subtree, that of its size which has the last of the older log's leaves, and
-- climbs to larger ones.
use Rattle.std.specs.Prelude.{◌≡◌, ℕ, ◌+◌, ◌-◌, ◌*◌, ◌/◌, ◌%◌, ◌^◌, ◌<◌, ◌≤◌, cond, ◌==◌, List, [], ◌∷◌, ◌++◌, length, take, drop}
use Rattle.std.specs.Prelude.{slice_index_or, Option, Some, None}
use Rattle.head_tree.specs.Proving.{proof_at}
use Rattle.head_tree.specs.Growing.{Grown, Stands}
use Rattle.head_tree.specs.declared.climb.Climb.{Climb}
use Rattle.head_tree.specs.declared.frontier.Frontier.{Frontier}
use Rattle.head_tree.specs.declared.growing_proof.GrowingProof.{GrowingProof}

-- hashes in order
abbrev pub Hashes : Type 0
Hashes = List (List ℕ)

-- the hash of a sibling, where there is one
unfoldable pub listed : Option (List ℕ) → List (List ℕ)
listed None = []
listed (Some hash) = hash ∷ []

-- the hashes are the proof's part in a subtree of 2 ^ level leaves, before which so many as large stand. It has the last of the first
-- leaves. The peaks are the roots of the whole subtrees that these make: those from this level on are of the leaves before it
pub record ReachesAt (level before : ℕ) (hashes peaks : List (List ℕ)) (first : ℕ) (leaves : List (List ℕ)) : Type 0 where
  pub some : before * 2 ^ level < first
  pub most : first ≤ before * 2 ^ level + 2 ^ level
  -- the first leaves end within a right one, since the climb began in a left one
  pub inner : before % 2 ≡ 1 → first < before * 2 ^ level + 2 ^ level
  pub proof : hashes ≡ proof_at level (first - before * 2 ^ level) (take (2 ^ level) (drop (before * 2 ^ level) leaves)) (before == 0)
  pub stands : Stands (drop level peaks) level before (take (before * 2 ^ level) leaves)

-- where the subtree ends
abbrev pub end_of : Climb → ℕ
end_of climb = climb.before * 2 ^ climb.level + 2 ^ climb.level

-- the proof came so far, and has room for a hash at each level from here on
pub record Reaches (climb : Climb) (peaks : List (List ℕ)) (first : ℕ) (leaves : List (List ℕ)) : Type 0 where
  pub size : climb.size ≡ 2 ^ climb.level
  pub room : 33 ≤ climb.proof.spare + climb.level
  pub part : ReachesAt climb.level climb.before climb.proof.items peaks first leaves

-- nothing came yet: the subtree is the largest that ends with the first leaves
pub record StartsAt (climb : Climb) (first : ℕ) : Type 0 where
  pub size : climb.size ≡ 2 ^ climb.level
  pub even : climb.before % 2 ≡ 0
  pub ends : end_of climb ≡ first
  pub none : climb.proof.items ≡ []
  pub room : 34 ≤ climb.proof.spare

-- one level up, past a sibling
pub record Rises (old new : Climb) (sibling : Option (List ℕ)) : Type 0 where
  pub level : new.level ≡ old.level + 1
  pub size : new.size ≡ old.size * 2
  pub before : new.before ≡ old.before / 2
  pub proof : new.proof.items ≡ old.proof.items ++ listed sibling
  pub room : 33 ≤ new.proof.spare + new.level

-- the sibling's root, where it stands to the left
unfoldable pub left_of : Climb → List (List ℕ) → Option (List ℕ)
left_of climb peaks = cond (climb.before % 2 == 1) (Some (slice_index_or peaks climb.level [])) None

-- the first leaves have come, and the subtree is the one that it started with
pub record Begins (old new : Climb) (peaks : List (List ℕ)) (leaves : List (List ℕ)) : Type 0 where
  pub reaches : Reaches new peaks (length leaves) leaves
  pub level : new.level ≡ old.level
  pub before : new.before ≡ old.before

-- all leaves of the subtree have come
pub record CanClimb (climb : Climb) (peaks : List (List ℕ)) (first : ℕ) (leaves : List (List ℕ)) : Type 0 where
  pub reaches : Reaches climb peaks first leaves
  pub more : first < length leaves
  pub few : length leaves ≤ 2 ^ 32
  pub whole : end_of climb ≤ length leaves

-- a subtree that ends where the other did, and stands to the left of its sibling
pub record Climbs (old new : Climb) (peaks : List (List ℕ)) (first : ℕ) (leaves : List (List ℕ)) : Type 0 where
  pub reaches : Reaches new peaks first leaves
  pub even : new.before % 2 ≡ 0
  pub end : end_of new ≡ end_of old

-- no leaf stands behind the subtree
pub record CanFinish (climb : Climb) (peaks : List (List ℕ)) (first : ℕ) (leaves : List (List ℕ)) : Type 0 where
  pub reaches : Reaches climb peaks first leaves
  pub more : first < length leaves
  pub few : length leaves ≤ 2 ^ 32
  pub all : length leaves ≤ end_of climb

-- behind the older log's leaves: the subtree is whole and stands to the left. Its sibling's leaves that came stand apart
pub record IsBehind (climb : Climb) (peaks : List (List ℕ)) (sibling : Frontier) (first : ℕ) (leaves : List (List ℕ)) : Type 0 where
  pub reaches : Reaches climb peaks first leaves
  pub even : climb.before % 2 ≡ 0
  pub few : length leaves ≤ 2 ^ 32
  pub whole : end_of climb ≤ length leaves
  pub after : Grown sibling (drop (end_of climb) leaves)
  pub fewer : sibling.leaves < climb.size

-- these leaves were added so far, and the proof is for so many first ones
pub record IsGrown (proof : GrowingProof) (first : ℕ) (leaves : List (List ℕ)) : Type 0 where
  pub older : proof.first ≡ first
  pub some : 0 < first
  pub most : first ≤ 2 ^ 32
  pub count : proof.leaves ≡ length leaves
  pub few : length leaves ≤ 2 ^ 32
  pub before : Grown proof.before (take first leaves)
  pub early : length leaves < first → StartsAt proof.climb first × Grown proof.after []
  pub late : first ≤ length leaves → IsBehind proof.climb proof.before.roots proof.after first leaves
