-- The root over leaves, taken in two at the largest power of two below their number.
use Rattle.std.proofs.Common.{◌≡◌, ℕ, zero, suc, ◌^◌, ◌<◌, ◌≤◌, List, [], ◌∷◌, length, take, drop, slice_index_or, refl, sym, ◌∙◌, arith}
use Rattle.std.proofs.Math.Nat.{two-pow-succ}
use Rattle.std.proofs.lemmas.List.{length-take-le, length-drop}
use Rattle.head_tree.specs.Hashing.{IsSplit, node_hash, root_at, tree_hash}
use Rattle.head_tree.proofs.Depths.{is_within, is_more, fits, steady, halves}

pub root_at-deeper : (leaves : List (List ℕ)) (d : ℕ) → length leaves ≤ 2 ^ d → root_at (suc d) leaves ≡ root_at d leaves
unfolding root_at
root_at-deeper leaves d h = rw (is_within (length leaves) (2 ^ d) h, root_at) refl

-- the root at any depth is the root
pub root_at-any : (d : ℕ) (leaves : List (List ℕ)) → length leaves ≤ 2 ^ d → root_at d leaves ≡ tree_hash leaves
unfolding tree_hash
root_at-any d leaves h = steady (λ e. root_at e leaves) (length leaves) (root_at-deeper leaves) d (length leaves) h (fits (length leaves))

pub root_at-split : (d : ℕ) (leaves : List (List ℕ)) → 2 ^ d < length leaves
    → root_at (suc d) leaves ≡ node_hash (root_at d (take (2 ^ d) leaves)) (root_at d (drop (2 ^ d) leaves))
unfolding root_at
root_at-split d leaves h = rw (is_more (length leaves) (2 ^ d) h, root_at) refl

root_at-zero : (hash : List ℕ) → root_at zero (hash ∷ []) ≡ hash
unfolding root_at
root_at-zero hash = refl

pub tree_hash-one : (hash : List ℕ) → tree_hash (hash ∷ []) ≡ hash
tree_hash-one hash = sym (root_at-any 0 (hash ∷ []) (omega arith)) ∙ root_at-zero hash

-- the same of a list with one hash
pub tree_hash-single : (leaves : List (List ℕ)) → length leaves ≡ 1 → slice_index_or leaves 0 [] ≡ tree_hash leaves
tree_hash-single [] one = absurd (omega arith)
tree_hash-single (hash ∷ []) one = sym (tree_hash-one hash)
tree_hash-single (hash ∷ (more ∷ leaves)) one = absurd (omega arith)

pub tree_hash-split : (k : ℕ) (leaves : List (List ℕ)) → IsSplit k (length leaves)
    → tree_hash leaves ≡ node_hash (tree_hash (take k leaves)) (tree_hash (drop k leaves))
tree_hash-split k leaves split =
    let two = halves k (length leaves) split in
    let d = two.depth in
    let left : length (take (2 ^ d) leaves) ≤ 2 ^ d = omega (arith, length-take-le (2 ^ d) leaves (omega (arith, two.below))) in
    let right : length (drop (2 ^ d) leaves) ≤ 2 ^ d = omega (arith, length-drop (2 ^ d) leaves, two.room, two-pow-succ d) in
    let parts : node_hash (root_at d (take (2 ^ d) leaves)) (root_at d (drop (2 ^ d) leaves))
    ≡ node_hash (tree_hash (take (2 ^ d) leaves)) (tree_hash (drop (2 ^ d) leaves))
    = rw (root_at-any d (take (2 ^ d) leaves) left, root_at-any d (drop (2 ^ d) leaves) right) refl in
    rw two.power (sym (root_at-any (suc d) leaves two.room) ∙ root_at-split d leaves two.below ∙ parts)
