-- Worked rows of the tree: what opens its definitions to a computation.
use Rattle.std.specs.Prelude.{List, [], ◌∷◌, ℕ, map, codes}
use Rattle.sha2.specs.Sha256.{compress, digest_bytes, first_words, hash_after, rounds, schedule, sha256}
use Rattle.cry_base.specs.Texts.{hex_digit, hex_of}
use Rattle.head_tree.specs.Hashing.{leaf_text, node_text, leaf_hash, node_hash, root_at, tree_hash}
use Rattle.head_tree.specs.Proving.{own_root, proof_at, part_proof, tree_proof}

-- the root over leaves, in hexadecimal digits
unfoldable pub root_digits : List (List ℕ) → List ℕ
root_digits leaves = hex_of (tree_hash (map leaf_hash leaves))

-- the tree's shape alone: its hashes stay as they are
unfoldable pub tree_shape : Unit {0}
unfolding root_at tree_hash own_root proof_at part_proof tree_proof
tree_shape = tt

-- its hashes too
unfoldable pub tree_bytes : Unit {0}
unfolding first_words schedule rounds compress hash_after digest_bytes sha256 hex_digit hex_of leaf_text node_text leaf_hash node_hash
    root_at tree_hash root_digits
tree_bytes = tt
