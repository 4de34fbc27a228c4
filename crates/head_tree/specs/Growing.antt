-- The root over leaves that come one by one: the roots of the whole subtrees that they make, and no leaf.
use Rattle.std.specs.Prelude.{◌≡◌, ℕ, suc, ◌-◌, ◌/◌, ◌%◌, ◌^◌, ◌<◌, Bool, cond, ◌==◌, List, [], ◌∷◌, length, take, drop, Option, Some, None}
use Rattle.std.specs.Bool.{MatchBool}
use Rattle.head_tree.specs.Hashing.{node_hash, tree_hash}
use Rattle.head_tree.specs.declared.frontier.Frontier.{Frontier}

-- the leaves are count times 2 ^ d. Where count is odd the last 2 ^ d of them have the first root; those before make up the others, of
-- which each is over twice as many
unfoldable pub Stands : List (List ℕ) → ℕ → ℕ → List (List ℕ) → Type 0
Stands [] d count leaves = leaves ≡ []
Stands (root ∷ roots) d count leaves = MatchBool (count % 2 == 1)
    ((root ≡ tree_hash (drop (length leaves - 2 ^ d) leaves)) × Stands roots (suc d) (count / 2) (take (length leaves - 2 ^ d) leaves))
    (Stands roots (suc d) (count / 2) leaves)

-- these leaves were added so far
pub record Grown (frontier : Frontier) (leaves : List (List ℕ)) : Type 0 where
  pub count : frontier.leaves ≡ length leaves
  pub stands : Stands frontier.roots 0 frontier.leaves leaves

-- the root over the leaves, or none of none
abbrev pub IsRootOf : Option (List ℕ) → List (List ℕ) → Type 0
IsRootOf None leaves = leaves ≡ []
IsRootOf (Some root) leaves = (0 < length leaves) × (root ≡ tree_hash leaves)

-- the roots once a subtree more stands: it is joined to each root that is as large, from the first on
unfoldable pub carried : List (List ℕ) → ℕ → List ℕ → List (List ℕ)
carried [] count root = []
carried (first ∷ roots) count root = cond (count % 2 == 1) (first ∷ carried roots (count / 2) (node_hash first root)) (root ∷ roots)

-- a root with what stands to its right
unfoldable pub beside : List ℕ → Option (List ℕ) → List ℕ
beside root None = root
beside root (Some right) = node_hash root right

unfoldable pub joined : List ℕ → Bool → Option (List ℕ) → Option (List ℕ)
joined root counts right = cond counts (Some (beside root right)) right

-- all roots that count, joined from the first on
unfoldable pub root_over : List (List ℕ) → ℕ → Option (List ℕ) → Option (List ℕ)
root_over [] count right = right
root_over (root ∷ roots) count right = root_over roots (count / 2) (joined root (count % 2 == 1) right)
