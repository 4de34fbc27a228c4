-- The part of a proof in a subtree, and that in the subtree twice as large.
use Rattle.std.proofs.Common.{◌≡◌, ℕ, suc, ◌+◌, ◌-◌, ◌^◌, ◌<◌, ◌≤◌, Bool, false, List, [], ◌∷◌, ◌++◌, length, take, drop, Option, Some, None}
use Rattle.std.proofs.Common.{sym, ap, ◌∙◌, arith}
use Rattle.std.proofs.lemmas.List.{append-nil, take-take, drop-take, drop-drop, take_all, length-take, length-drop}
use Rattle.std.proofs.lemmas.Nat.{pow_pos}
use Rattle.std.proofs.Math.Nat.{two-pow-succ}
use Rattle.head_tree.specs.Hashing.{root_at, tree_hash}
use Rattle.head_tree.specs.Proving.{proof_at}
use Rattle.head_tree.specs.Growing.{IsRootOf}
use Rattle.head_tree.specs.Climbing.{listed}
use Rattle.head_tree.proofs.Trees.{root_at-any}
use Rattle.head_tree.proofs.Proofs.{proof_at-within, proof_at-left, proof_at-right}

longer : (k n : ℕ) (xs : List (List ℕ)) → k < n → k < length xs → k < length (take n xs)
longer k n xs less some = omega (arith, length-take n xs)

short : (n : ℕ) (xs : List (List ℕ)) → length (take n xs) ≤ n
short n xs = omega (arith, length-take n xs)

-- the two halves of a subtree
first_half : (d : ℕ) (xs : List (List ℕ)) → take (2 ^ d) (take (2 ^ suc d) xs) ≡ take (2 ^ d) xs
first_half d xs = take-take (2 ^ d) (2 ^ suc d) xs (omega (arith, two-pow-succ d))

other_half : (d start : ℕ) (leaves : List (List ℕ)) → drop (2 ^ d) (take (2 ^ suc d) (drop start leaves)) ≡ take (2 ^ d) (drop (start + 2 ^ d) leaves)
other_half d start leaves =
    let sum : 2 ^ suc d ≡ 2 ^ d + 2 ^ d = omega (arith, two-pow-succ d) in
    ap (λ k. drop (2 ^ d) (take k (drop start leaves))) sum ∙ drop-take (2 ^ d) (2 ^ d) (drop start leaves)
    ∙ ap (take (2 ^ d)) (drop-drop (2 ^ d) start leaves)

-- past a left sibling
pub left_step : (d start first : ℕ) (leaves : List (List ℕ)) (whole : Bool) → start + 2 ^ d < first → first < start + 2 ^ suc d → first < length leaves
    → proof_at (suc d) (first - start) (take (2 ^ suc d) (drop start leaves)) whole
    ≡ proof_at d (first - (start + 2 ^ d)) (take (2 ^ d) (drop (start + 2 ^ d) leaves)) false ++ tree_hash (take (2 ^ d) (drop start leaves)) ∷ []
left_step d start first leaves whole past inner more =
    let all = drop start leaves in
    let size = length-drop start leaves in
    let over : 2 ^ d < first - start = omega arith in
    let within : first - start < length (take (2 ^ suc d) all) = longer (first - start) (2 ^ suc d) all (omega arith) (omega arith) in
    let count : first - start - 2 ^ d ≡ first - (start + 2 ^ d) = omega arith in
    proof_at-right d (first - start) (take (2 ^ suc d) all) whole over within
    ∙ ap (λ l. proof_at d (first - start - 2 ^ d) l false ++ root_at d (take (2 ^ d) (take (2 ^ suc d) all)) ∷ []) (other_half d start leaves)
    ∙ ap (λ k. proof_at d k (take (2 ^ d) (drop (start + 2 ^ d) leaves)) false ++ root_at d (take (2 ^ d) (take (2 ^ suc d) all)) ∷ []) count
    ∙ ap (λ l. proof_at d (first - (start + 2 ^ d)) (take (2 ^ d) (drop (start + 2 ^ d) leaves)) false ++ root_at d l ∷ []) (first_half d all)
    ∙ ap (λ h. proof_at d (first - (start + 2 ^ d)) (take (2 ^ d) (drop (start + 2 ^ d) leaves)) false ++ h ∷ []) (root_at-any d (take (2 ^ d) all) (short (2 ^ d) all))

-- past a right sibling, or past none
pub right_step : (d start first : ℕ) (leaves : List (List ℕ)) (whole : Bool) (right : Option (List ℕ)) → start < first → first ≤ start + 2 ^ d
    → first < length leaves → IsRootOf right (take (2 ^ d) (drop (start + 2 ^ d) leaves))
    → proof_at (suc d) (first - start) (take (2 ^ suc d) (drop start leaves)) whole
    ≡ proof_at d (first - start) (take (2 ^ d) (drop start leaves)) whole ++ listed right
unfolding listed
right_step d start first leaves whole None some most more none =
    let all = drop start leaves in
    let size = length-drop start leaves in
    let rest = drop (start + 2 ^ d) leaves in
    let nothing : length (take (2 ^ d) rest) ≡ 0 = ap length none in
    let few : length all ≤ 2 ^ d = omega (arith, length-take (2 ^ d) rest, length-drop (start + 2 ^ d) leaves, pow_pos d) in
    let wide : length all ≤ 2 ^ suc d = omega (arith, two-pow-succ d) in
    let inside : first - start < length all = omega arith in
    ap (λ l. proof_at (suc d) (first - start) l whole) (take_all (2 ^ suc d) all wide) ∙ proof_at-within d (first - start) all whole inside few
    ∙ ap (λ l. proof_at d (first - start) l whole) (sym (take_all (2 ^ d) all few))
    ∙ sym (append-nil (proof_at d (first - start) (take (2 ^ d) all) whole))
right_step d start first leaves whole (Some root) some most more is =
    let all = drop start leaves in
    let size = length-drop start leaves in
    let rest = drop (start + 2 ^ d) leaves in
    let over : 2 ^ d < length all = omega (arith, is.0, length-take (2 ^ d) rest, length-drop (start + 2 ^ d) leaves) in
    let wide : 2 ^ d < length (take (2 ^ suc d) all) = longer (2 ^ d) (2 ^ suc d) all (omega (arith, two-pow-succ d, pow_pos d)) over in
    let within : first - start ≤ 2 ^ d = omega arith in
    proof_at-left d (first - start) (take (2 ^ suc d) all) whole within wide
    ∙ ap (λ l. proof_at d (first - start) l whole ++ root_at d (drop (2 ^ d) (take (2 ^ suc d) all)) ∷ []) (first_half d all)
    ∙ ap (λ l. proof_at d (first - start) (take (2 ^ d) all) whole ++ root_at d l ∷ []) (other_half d start leaves)
    ∙ ap (λ h. proof_at d (first - start) (take (2 ^ d) all) whole ++ h ∷ []) (root_at-any d (take (2 ^ d) rest) (short (2 ^ d) rest) ∙ sym is.1)
