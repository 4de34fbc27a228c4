-- The tree of hashes over a log's leaves (RFC 6962, section 2.1). A leaf and a text are lists of bytes, a hash is a list of 32.
use Rattle.std.specs.Prelude.{◌≡◌, ℕ, zero, suc, ◌*◌, ◌^◌, ◌<◌, ◌≤◌, true, false, nat_le, List, []}
use Rattle.std.specs.Prelude.{◌∷◌, ◌++◌, length, map, take, drop, slice_index_or}
use Rattle.std.specs.List.{All}
use Rattle.sha2.specs.Sha256.{sha256}

-- the text that is hashed for a leaf
unfoldable pub leaf_text : List ℕ → List ℕ
leaf_text leaf = 0 ∷ leaf

-- the text that is hashed for a node over two hashes
unfoldable pub node_text : List ℕ → List ℕ → List ℕ
node_text left right = 1 ∷ (left ++ right)

unfoldable pub leaf_hash : List ℕ → List ℕ
leaf_hash leaf = sha256 (leaf_text leaf)

unfoldable pub node_hash : List ℕ → List ℕ → List ℕ
node_hash left right = sha256 (node_text left right)

-- each is as long as a SHA-256 value
abbrev pub AreHashes : List (List ℕ) → Type 0
AreHashes hashes = All (λ (hash : List ℕ). length hash ≡ 32) hashes

-- k is the largest power of two below n: the next one isn't below n
pub record IsSplit (k n : ℕ) : Type 0 where
  pub power : (j : ℕ) × (k ≡ 2 ^ j)
  pub below : k < n
  pub largest : n ≤ 2 * k

-- the root over leaf hashes, of which there are one to 2 ^ (d + 1). Where more than 2 ^ d are there, that is the largest power of two
-- below their number
unfoldable pub root_at : ℕ → List (List ℕ) → List ℕ
root_at zero leaves = slice_index_or leaves 0 []
root_at (suc d) leaves = elim (nat_le (length leaves) (2 ^ d)) [
  | true ↦ root_at d leaves
  | false ↦ node_hash (root_at d (take (2 ^ d) leaves)) (root_at d (drop (2 ^ d) leaves))
]

-- the root over leaf hashes
unfoldable pub tree_hash : List (List ℕ) → List ℕ
tree_hash leaves = root_at (length leaves) leaves

-- the texts that are hashed for the nodes of that tree
unfoldable pub node_texts_at : ℕ → List (List ℕ) → List (List ℕ)
node_texts_at zero leaves = []
node_texts_at (suc d) leaves = elim (nat_le (length leaves) (2 ^ d)) [
  | true ↦ node_texts_at d leaves
  | false ↦ node_text (root_at d (take (2 ^ d) leaves)) (root_at d (drop (2 ^ d) leaves))
      ∷ (node_texts_at d (take (2 ^ d) leaves) ++ node_texts_at d (drop (2 ^ d) leaves))
]

-- all texts that are hashed for the root over leaves
unfoldable pub texts_of : List (List ℕ) → List (List ℕ)
texts_of leaves = map leaf_text leaves ++ node_texts_at (length leaves) (map leaf_hash leaves)
