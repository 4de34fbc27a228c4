-- What a proof leads to, and which proofs are accepted.
use Rattle.std.specs.Prelude.{◌≡◌, ℕ, zero, suc, ◌+◌, ◌-◌, ◌≤◌, ◌^◌, Bool, true, false, nat_le}
use Rattle.std.specs.Prelude.{◌==◌, List, [], ◌∷◌, length, take, slice_index_or}
use Rattle.std.specs.Prelude.{Option, Some, None, option_map}
use Rattle.head_tree.specs.Hashing.{node_text, node_hash}
use Rattle.head_tree.specs.declared.head.Head.{Head}

-- the two roots that a proof leads to, and the texts that are hashed for them
pub record Roots : Type 0 where
  pub old : List ℕ
  pub new : List ℕ
  pub texts : List (List ℕ)

-- the two roots alone
abbrev pub shown : Roots → List ℕ × List ℕ
shown roots = (roots.old, roots.new)

-- both roots are one hash: the log's old root, or the proof's only hash
unfoldable pub same_roots : List ℕ → Roots
same_roots root = record { old = root; new = root; texts = [] }

unfoldable pub settled : List ℕ → List (List ℕ) → Bool → Option Roots
settled root [] true = Some (same_roots root)
settled root [] false = None
settled root (h ∷ []) true = None
settled root (h ∷ []) false = Some (same_roots h)
settled root (h ∷ (g ∷ proof)) whole = None

-- the roots once a hash stands beside them: to their right in the new tree alone, to their left in both
unfoldable pub with_right : List ℕ → Roots → Roots
with_right h roots = record {
  old = roots.old;
  new = node_hash roots.new h;
  texts = node_text roots.new h ∷ roots.texts;
}

unfoldable pub with_left : List ℕ → Roots → Roots
with_left h roots = record {
  old = node_hash h roots.old;
  new = node_hash h roots.new;
  texts = node_text h roots.old ∷ (node_text h roots.new ∷ roots.texts);
}

-- a proof's last hash, and those before it
unfoldable pub last_of : List (List ℕ) → List ℕ
last_of proof = slice_index_or proof (length proof - 1) []

unfoldable pub front_of : List (List ℕ) → List (List ℕ)
front_of proof = take (length proof - 1) proof

-- the roots over the first m and over all n leaves to which a proof leads from the old root, where n is 1 to 2 ^ (d + 1). Where n is
-- more than 2 ^ d, that is the largest power of two below n
unfoldable pub roots_at : ℕ → List ℕ → ℕ → ℕ → List (List ℕ) → Bool → Option Roots
roots_at zero root m n proof whole = elim (m == n) [ true ↦ settled root proof whole | false ↦ None ]
roots_at (suc d) root m n proof whole = elim (m == n) [
  | true ↦ settled root proof whole
  | false ↦ elim (nat_le n (2 ^ d)) [
    | true ↦ roots_at d root m n proof whole
    | false ↦ elim (length proof == 0) [
      | true ↦ None
      | false ↦ elim (nat_le m (2 ^ d)) [
        | true ↦ option_map (with_right (last_of proof)) (roots_at d root m (2 ^ d) (front_of proof) whole)
        | false ↦ option_map (with_left (last_of proof)) (roots_at d root (m - 2 ^ d) (n - 2 ^ d) (front_of proof) false)
      ]
    ]
  ]
]

-- the same for any number of leaves
unfoldable pub proof_check : List ℕ → ℕ → ℕ → List (List ℕ) → Bool → Option Roots
proof_check root m n proof whole = roots_at n root m n proof whole

-- the roots of a head that has m leaves and one that has n are those to which the proof leads. A head over n batches has n + 1 leaves
pub record IsAccepted (old new : Head) (proof : List (List ℕ)) : Type 0 where
  pub order : old.batches ≤ new.batches
  pub roots : Roots
  pub leads : proof_check old.root (old.batches + 1) (new.batches + 1) proof true ≡ Some roots
  pub to_old : roots.old ≡ old.root
  pub to_new : roots.new ≡ new.root

-- the texts that are hashed to check the proof
unfoldable pub texts_then : Option Roots → List (List ℕ)
texts_then None = []
texts_then (Some roots) = roots.texts

unfoldable pub texts_checked : Head → Head → List (List ℕ) → List (List ℕ)
texts_checked old new proof = texts_then (proof_check old.root (old.batches + 1) (new.batches + 1) proof true)
