-- The proof that a log begins with some leaves, taken in two like the tree.
use Rattle.std.proofs.Common.{◌≡◌, ℕ, zero, suc, ◌-◌, ◌^◌, ◌<◌, ◌≤◌, Bool, true, false, List, [], ◌∷◌, ◌++◌, length, take, drop, refl, sym, subst, ◌∙◌, ⊎_elim, arith}
use Rattle.std.proofs.Math.Nat.{two-pow-succ}
use Rattle.std.proofs.lemmas.List.{length-take-le, length-drop}
use Rattle.std.proofs.lemmas.Bool.{cases_lt}
use Rattle.head_tree.specs.Hashing.{IsSplit, root_at, tree_hash}
use Rattle.head_tree.specs.Proving.{own_root, proof_at, part_proof}
use Rattle.head_tree.proofs.Depths.{is_within, is_more, are_apart, are_one, fits, steady, halves}
use Rattle.head_tree.proofs.Trees.{root_at-any}

pub proof_at-all : (d : ℕ) (leaves : List (List ℕ)) (whole : Bool) → proof_at d (length leaves) leaves whole ≡ own_root whole (root_at d leaves)
unfolding proof_at
proof_at-all zero leaves whole = rw (are_one (length leaves) (length leaves) refl, proof_at) refl
proof_at-all (suc d) leaves whole = rw (are_one (length leaves) (length leaves) refl, proof_at) refl

pub proof_at-within : (d m : ℕ) (leaves : List (List ℕ)) (whole : Bool) → m < length leaves → length leaves ≤ 2 ^ d
    → proof_at (suc d) m leaves whole ≡ proof_at d m leaves whole
unfolding proof_at
proof_at-within d m leaves whole less h = rw (are_apart m (length leaves) less, is_within (length leaves) (2 ^ d) h, proof_at) refl

-- the proof at any depth is the proof, for fewer leaves than all
proof_at-any : (d m : ℕ) (leaves : List (List ℕ)) (whole : Bool) → m < length leaves → length leaves ≤ 2 ^ d
    → proof_at d m leaves whole ≡ part_proof m leaves whole
unfolding part_proof
proof_at-any d m leaves whole less h =
    steady (λ e. proof_at e m leaves whole) (length leaves) (λ e room. proof_at-within e m leaves whole less room) d (length leaves) h
    (fits (length leaves))

pub part_proof-all : (leaves : List (List ℕ)) (whole : Bool) → part_proof (length leaves) leaves whole ≡ own_root whole (tree_hash leaves)
unfolding part_proof tree_hash
part_proof-all leaves whole = proof_at-all (length leaves) leaves whole

-- and for all leaves too
pub part_at-any : (d m : ℕ) (leaves : List (List ℕ)) (whole : Bool) → m ≤ length leaves → length leaves ≤ 2 ^ d
    → proof_at d m leaves whole ≡ part_proof m leaves whole
part_at-any d m leaves whole le h = ⊎_elim
    (λ (less : m < length leaves). proof_at-any d m leaves whole less h)
    (λ (more : length leaves ≤ m). let same : m ≡ length leaves = omega arith in
    rw (same, proof_at-all d leaves whole, root_at-any d leaves h) (sym (part_proof-all leaves whole)))
    (cases_lt m (length leaves))

pub proof_at-left : (d m : ℕ) (leaves : List (List ℕ)) (whole : Bool) → m ≤ 2 ^ d → 2 ^ d < length leaves
    → proof_at (suc d) m leaves whole ≡ proof_at d m (take (2 ^ d) leaves) whole ++ root_at d (drop (2 ^ d) leaves) ∷ []
unfolding proof_at
proof_at-left d m leaves whole le more =
    let less : m < length leaves = omega arith in
    rw (are_apart m (length leaves) less, is_more (length leaves) (2 ^ d) more, is_within m (2 ^ d) le, proof_at) refl

pub proof_at-right : (d m : ℕ) (leaves : List (List ℕ)) (whole : Bool) → 2 ^ d < m → m < length leaves
    → proof_at (suc d) m leaves whole ≡ proof_at d (m - 2 ^ d) (drop (2 ^ d) leaves) false ++ root_at d (take (2 ^ d) leaves) ∷ []
unfolding proof_at
proof_at-right d m leaves whole over less =
    let more : 2 ^ d < length leaves = omega arith in
    rw (are_apart m (length leaves) less, is_more (length leaves) (2 ^ d) more, is_more m (2 ^ d) over, proof_at) refl

pub part_proof-left : (k m : ℕ) (leaves : List (List ℕ)) (whole : Bool) → IsSplit k (length leaves) → m ≤ k
    → part_proof m leaves whole ≡ part_proof m (take k leaves) whole ++ tree_hash (drop k leaves) ∷ []
part_proof-left k m leaves whole split le =
    let two = halves k (length leaves) split in
    let d = two.depth in
    let below : 2 ^ d < length leaves = two.below in
    let room : length leaves ≤ 2 ^ suc d = two.room in
    let short : m ≤ 2 ^ d = subst (λ z. m ≤ z) two.power le in
    let less : m < length leaves = omega arith in
    let size : length (take (2 ^ d) leaves) ≡ 2 ^ d = length-take-le (2 ^ d) leaves (omega arith) in
    let left : length (take (2 ^ d) leaves) ≤ 2 ^ d = omega arith in
    let inside : m ≤ length (take (2 ^ d) leaves) = omega arith in
    let right : length (drop (2 ^ d) leaves) ≤ 2 ^ d = omega (arith, length-drop (2 ^ d) leaves, two-pow-succ d) in
    rw two.power (sym (proof_at-any (suc d) m leaves whole less room) ∙ proof_at-left d m leaves whole short below
    ∙ rw (part_at-any d m (take (2 ^ d) leaves) whole inside left, root_at-any d (drop (2 ^ d) leaves) right) refl)

pub part_proof-right : (k m : ℕ) (leaves : List (List ℕ)) (whole : Bool) → IsSplit k (length leaves) → k < m → m < length leaves
    → part_proof m leaves whole ≡ part_proof (m - k) (drop k leaves) false ++ tree_hash (take k leaves) ∷ []
part_proof-right k m leaves whole split over less =
    let two = halves k (length leaves) split in
    let d = two.depth in
    let below : 2 ^ d < length leaves = two.below in
    let room : length leaves ≤ 2 ^ suc d = two.room in
    let long : 2 ^ d < m = subst (λ z. z < m) two.power over in
    let size : length (take (2 ^ d) leaves) ≡ 2 ^ d = length-take-le (2 ^ d) leaves (omega arith) in
    let left : length (take (2 ^ d) leaves) ≤ 2 ^ d = omega arith in
    let right : length (drop (2 ^ d) leaves) ≤ 2 ^ d = omega (arith, length-drop (2 ^ d) leaves, two-pow-succ d) in
    let inside : m - 2 ^ d ≤ length (drop (2 ^ d) leaves) = omega (arith, length-drop (2 ^ d) leaves) in
    rw two.power (sym (proof_at-any (suc d) m leaves whole less room) ∙ proof_at-right d m leaves whole long less
    ∙ rw (part_at-any d (m - 2 ^ d) (drop (2 ^ d) leaves) false inside right, root_at-any d (take (2 ^ d) leaves) left) refl)

-- for all leaves: nothing where the reader has their root, else that root
pub part_proof-whole : (m : ℕ) (leaves : List (List ℕ)) (whole : Bool) → m ≡ length leaves → whole ≡ true → part_proof m leaves whole ≡ []
unfolding own_root
part_proof-whole m leaves whole all is = rw (all, is) (part_proof-all leaves true)

pub part_proof-own : (m : ℕ) (leaves : List (List ℕ)) (whole : Bool) → m ≡ length leaves → whole ≡ false
    → part_proof m leaves whole ≡ tree_hash leaves ∷ []
unfolding own_root
part_proof-own m leaves whole all is = rw (all, is) (part_proof-all leaves false)
