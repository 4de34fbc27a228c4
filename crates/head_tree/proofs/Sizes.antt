-- Every root has the length of a hash.
use Rattle.std.proofs.Common.{◌≡◌, ℕ, zero, suc, ◌^◌, ◌<◌, ◌≤◌, List, [], length, map, take, drop}
use Rattle.std.proofs.Common.{sym, subst, ⊎_elim}
use Rattle.std.proofs.lemmas.List.Elements.{All-map}
use Rattle.std.proofs.lemmas.Bool.{cases_lt}
use Rattle.sha2.proofs.Facts256.{length-sha256}
use Rattle.head_tree.specs.Hashing.{AreHashes, leaf_hash, leaf_text, node_hash, node_text, root_at}
use Rattle.head_tree.proofs.Trees.{root_at-deeper, root_at-split}

pub node_hash-size : (left right : List ℕ) → length (node_hash left right) ≡ 32
unfolding node_hash
node_hash-size left right = length-sha256 (node_text left right)

pub leaf_hash-size : (leaf : List ℕ) → length (leaf_hash leaf) ≡ 32
unfolding leaf_hash
leaf_hash-size leaf = length-sha256 (leaf_text leaf)

pub leaf_hashes-size : (leaves : List (List ℕ)) → AreHashes (map leaf_hash leaves)
leaf_hashes-size leaves = All-map (λ (h : List ℕ). length h ≡ 32) leaf_hash leaves (λ k d in_list. leaf_hash-size _)

pub root_at-size : (d : ℕ) (leaves : List (List ℕ)) → 0 < length leaves → length leaves ≤ 2 ^ d → AreHashes leaves → length (root_at d leaves) ≡ 32
unfolding root_at
root_at-size zero leaves some fit sizes = sizes 0 [] some
root_at-size (suc d) leaves some fit sizes = ⊎_elim
    (λ (over : 2 ^ d < length leaves).
    subst (λ h. length h ≡ 32) (sym (root_at-split d leaves over)) (node_hash-size (root_at d (take (2 ^ d) leaves)) (root_at d (drop (2 ^ d) leaves))))
    (λ (within : length leaves ≤ 2 ^ d).
    subst (λ h. length h ≡ 32) (sym (root_at-deeper leaves d within)) (root_at-size d leaves some within sizes))
    (cases_lt (2 ^ d) (length leaves))
