-- The proof that a log begins with its first m leaves (RFC 6962, section 2.1.2).
use Rattle.std.specs.Prelude.{ℕ, zero, suc, ◌-◌, ◌^◌, Bool, true, false, nat_le, ◌==◌, List, [], ◌∷◌, ◌++◌, length, take, drop}
use Rattle.head_tree.specs.Hashing.{root_at}

-- the root itself, unless it is the old tree's whole root, which the reader has
unfoldable pub own_root : Bool → List ℕ → List (List ℕ)
own_root true root = []
own_root false root = root ∷ []

-- the proof for the first m of these leaf hashes, of which there are one to 2 ^ (d + 1). The flag says that they begin where the log
-- does, so that the old root is theirs where m is their number
unfoldable pub proof_at : ℕ → ℕ → List (List ℕ) → Bool → List (List ℕ)
proof_at zero m leaves whole = elim (m == length leaves) [
  | true ↦ own_root whole (root_at zero leaves)
  | false ↦ []
]
proof_at (suc d) m leaves whole = elim (m == length leaves) [
  | true ↦ own_root whole (root_at (suc d) leaves)
  | false ↦ elim (nat_le (length leaves) (2 ^ d)) [
    | true ↦ proof_at d m leaves whole
    | false ↦ elim (nat_le m (2 ^ d)) [
      | true ↦ proof_at d m (take (2 ^ d) leaves) whole ++ root_at d (drop (2 ^ d) leaves) ∷ []
      | false ↦ proof_at d (m - 2 ^ d) (drop (2 ^ d) leaves) false ++ root_at d (take (2 ^ d) leaves) ∷ []
    ]
  ]
]

-- the part of a proof over a subtree's leaf hashes
unfoldable pub part_proof : ℕ → List (List ℕ) → Bool → List (List ℕ)
part_proof m leaves whole = proof_at (length leaves) m leaves whole

-- the proof for the first m leaf hashes
unfoldable pub tree_proof : ℕ → List (List ℕ) → List (List ℕ)
tree_proof m leaves = part_proof m leaves true
