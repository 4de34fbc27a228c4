-- Heads of logs, and what an accepted proof shows.
use Rattle.std.specs.Prelude.{◌≡◌, ◌≢◌, ◌⊎◌, ℕ, ◌+◌, ◌-◌, List, ◌++◌, length, map, take}
use Rattle.sha2.specs.Sha256.{sha256}
use Rattle.cry_base.specs.Sets.{In}
use Rattle.head_tree.specs.Hashing.{leaf_hash, tree_hash, texts_of}
use Rattle.head_tree.specs.Checking.{IsAccepted, texts_checked}
use Rattle.head_tree.specs.declared.head.Head.{Head}

-- the head over that many batches of a log with these leaf hashes
pub record IsHead (head : Head) (batches : ℕ) (leaves : List (List ℕ)) : Type 0 where
  pub count : head.batches ≡ batches
  pub root : head.root ≡ tree_hash (take (batches + 1) leaves)

-- the proof is accepted, from the head over that many batches to the head over all
abbrev pub LeadsOn : List (List ℕ) → ℕ → List (List ℕ) → Type 0
LeadsOn leaves batches proof = (old new : Head) → IsHead old batches leaves → IsHead new (length leaves - 1) leaves
    → IsAccepted old new proof

-- the head of a log with exactly these leaves
pub record IsHeadOf (head : Head) (leaves : List (List ℕ)) : Type 0 where
  pub count : length leaves ≡ head.batches + 1
  pub root : head.root ≡ tree_hash (map leaf_hash leaves)

-- two of the texts differ and have one SHA-256 value
pub record Collision (texts : List (List ℕ)) : Type 0 where
  pub one : List ℕ
  pub other : List ℕ
  pub has_one : In one texts
  pub has_other : In other texts
  pub differ : one ≢ other
  pub same : sha256 one ≡ sha256 other

-- the first list begins the second
abbrev pub IsPrefix : List (List ℕ) → List (List ℕ) → Type 0
IsPrefix first second = (rest : List (List ℕ)) × (second ≡ first ++ rest)

-- all texts that are hashed for two heads and for the proof between them
unfoldable pub texts_between : Head → List (List ℕ) → Head → List (List ℕ) → List (List ℕ) → List (List ℕ)
texts_between old first new second proof = texts_of first ++ (texts_of second ++ texts_checked old new proof)

-- whoever has leaves of either head has the older log's as the beginning of the newer's, or two texts collide among those hashed
abbrev pub ShowsPrefix : Head → Head → List (List ℕ) → Type 0
ShowsPrefix old new proof = (first second : List (List ℕ)) → IsHeadOf old first → IsHeadOf new second
    → IsPrefix first second ⊎ Collision (texts_between old first new second proof)
