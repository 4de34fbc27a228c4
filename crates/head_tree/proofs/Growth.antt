-- Roots of whole subtrees stand for the leaves that were added, and make their root.
use Rattle.std.proofs.Common.{◌≡◌, ◌≢◌, ℕ, suc, ◌+◌, ◌-◌, ◌*◌, ◌/◌, ◌%◌, ◌^◌, ◌<◌, ◌≤◌, true, false, cond, ◌==◌, MatchBool}
use Rattle.std.proofs.Common.{List, [], ◌∷◌, ◌++◌, length, take, drop, set, get_or, Option, Some, None, refl, sym, ap, subst, ◌∙◌, ⊎_elim, add-one, arith}
use Rattle.std.proofs.lemmas.List.{append-nil, append_assoc, take-append-drop, take_at, drop_at, length-append, length-drop, length-take-le}
use Rattle.std.proofs.lemmas.List.{drop_more, drop_all, take_all, take_more, set_split}
use Rattle.std.proofs.lemmas.Bool.{cases_eq}
use Rattle.std.proofs.lemmas.Bool.Decides.{when_true, when_false}
use Rattle.std.proofs.lemmas.Nat.{pow_pos}
use Rattle.std.proofs.Math.Nat.{two-pow-succ}
use Rattle.head_tree.specs.Hashing.{IsSplit, node_hash, tree_hash}
use Rattle.head_tree.specs.Growing.{Stands, IsRootOf, carried, beside, joined, root_over}
use Rattle.head_tree.proofs.Depths.{are_apart, are_one}
use Rattle.head_tree.proofs.Trees.{tree_hash-split}

-- what an odd count says of the first root
abbrev pub Counts : List ℕ → List (List ℕ) → ℕ → ℕ → List (List ℕ) → Type 0
Counts root roots d count leaves =
    (root ≡ tree_hash (drop (length leaves - 2 ^ d) leaves)) × Stands roots (suc d) (count / 2) (take (length leaves - 2 ^ d) leaves)

pub is_odd : (count : ℕ) → count % 2 ≡ 1 → (count % 2 == 1) ≡ true
is_odd count odd = are_one (count % 2) 1 odd

pub is_even : (count : ℕ) → count % 2 ≡ 0 → (count % 2 == 1) ≡ false
is_even count even = are_apart (count % 2) 1 (omega arith)

pub stands-odd : (root : List ℕ) (roots : List (List ℕ)) (d count : ℕ) (leaves : List (List ℕ)) → count % 2 ≡ 1
    → Stands (root ∷ roots) d count leaves → Counts root roots d count leaves
unfolding Stands
stands-odd root roots d count leaves odd s =
    when_true (Counts root roots d count leaves) (Stands roots (suc d) (count / 2) leaves) (is_odd count odd) s

pub stands-even : (root : List ℕ) (roots : List (List ℕ)) (d count : ℕ) (leaves : List (List ℕ)) → count % 2 ≡ 0
    → Stands (root ∷ roots) d count leaves → Stands roots (suc d) (count / 2) leaves
unfolding Stands
stands-even root roots d count leaves even s =
    when_false (Counts root roots d count leaves) (Stands roots (suc d) (count / 2) leaves) (is_even count even) s

odd-stands : (root : List ℕ) (roots : List (List ℕ)) (d count : ℕ) (leaves : List (List ℕ)) → count % 2 ≡ 1
    → Counts root roots d count leaves → Stands (root ∷ roots) d count leaves
unfolding Stands
odd-stands root roots d count leaves odd s =
    subst (λ b. MatchBool b (Counts root roots d count leaves) (Stands roots (suc d) (count / 2) leaves)) (sym (is_odd count odd)) s

pub even-stands : (root : List ℕ) (roots : List (List ℕ)) (d count : ℕ) (leaves : List (List ℕ)) → count % 2 ≡ 0
    → Stands roots (suc d) (count / 2) leaves → Stands (root ∷ roots) d count leaves
unfolding Stands
even-stands root roots d count leaves even s =
    subst (λ b. MatchBool b (Counts root roots d count leaves) (Stands roots (suc d) (count / 2) leaves)) (sym (is_even count even)) s

pub stands-nothing : (roots : List (List ℕ)) (d : ℕ) → Stands roots d 0 []
unfolding Stands
stands-nothing [] d = refl
stands-nothing (root ∷ roots) d = stands-nothing roots (suc d)

carried-odd : (first : List ℕ) (roots : List (List ℕ)) (count : ℕ) (root : List ℕ) → count % 2 ≡ 1
    → carried (first ∷ roots) count root ≡ first ∷ carried roots (count / 2) (node_hash first root)
unfolding carried
carried-odd first roots count root odd = ap (λ b. cond b (first ∷ carried roots (count / 2) (node_hash first root)) (root ∷ roots)) (is_odd count odd)

carried-even : (first : List ℕ) (roots : List (List ℕ)) (count : ℕ) (root : List ℕ) → count % 2 ≡ 0
    → carried (first ∷ roots) count root ≡ root ∷ roots
unfolding carried
carried-even first roots count root even = ap (λ b. cond b (first ∷ carried roots (count / 2) (node_hash first root)) (root ∷ roots)) (is_even count even)

-- the leaves before the last p of them, where there are an odd number of times p
pub odd-rest : (count half p n : ℕ) → count ≡ 2 * half + 1 → n ≡ count * p → n ≡ 2 * (half * p) + p
odd-rest count half p n c e = let product : count * p ≡ (2 * half + 1) * p = ap (λ z. z * p) c in omega (arith, product)

pub even-rest : (count half p n : ℕ) → count ≡ 2 * half → n ≡ count * p → n ≡ 2 * (half * p)
even-rest count half p n c e = let product : count * p ≡ (2 * half) * p = ap (λ z. z * p) c in omega (arith, product)

pub double : (half p q : ℕ) → q ≡ p + p → half * q ≡ 2 * (half * p)
double half p q e = let product : half * q ≡ half * (p + p) = ap (λ z. half * z) e in omega (arith, product)

-- a whole subtree and a right neighbour that isn't larger
pair_root : (d : ℕ) (piece right : List (List ℕ)) → length piece ≡ 2 ^ d → 0 < length right → length right ≤ 2 ^ d
    → tree_hash (piece ++ right) ≡ node_hash (tree_hash piece) (tree_hash right)
pair_root d piece right size some room =
    let all : length (piece ++ right) ≡ length piece + length right = length-append piece right in
    let split : IsSplit (2 ^ d) (length (piece ++ right)) = record { power = (d, refl); below = omega arith; largest = omega arith } in
    let front : take (2 ^ d) (piece ++ right) ≡ piece = take_at piece right (2 ^ d) size in
    let back : drop (2 ^ d) (piece ++ right) ≡ right = drop_at piece right (2 ^ d) size in
    tree_hash-split (2 ^ d) (piece ++ right) split ∙ rw (front, back) refl

rejoined : (k : ℕ) (front piece : List (List ℕ)) → take k front ++ (drop k front ++ piece) ≡ front ++ piece
rejoined k front piece = sym (append_assoc (take k front) (drop k front) piece) ∙ ap (λ l. l ++ piece) (take-append-drop k front)

pub carries : (roots : List (List ℕ)) (d count : ℕ) (root : List ℕ) (front piece : List (List ℕ)) → count + 1 < 2 ^ length roots
    → length front ≡ count * 2 ^ d → length piece ≡ 2 ^ d → root ≡ tree_hash piece → Stands roots d count front
    → Stands (carried roots count root) d (count + 1) (front ++ piece)
carries [] d count root front piece bound size whole is s = absurd (omega arith)
carries (first ∷ roots) d count root front piece bound size whole is s = ⊎_elim
    (λ (odd : count % 2 ≡ 1).
    let half = count / 2 in
    let k = length front - 2 ^ d in
    let count_is : count ≡ 2 * half + 1 = omega arith in
    let long = odd-rest count half (2 ^ d) (length front) count_is size in
    let twice = two-pow-succ d in
    let power = double half (2 ^ d) (2 ^ suc d) twice in
    let front_size : length (take k front) ≡ half * 2 ^ suc d = length-take-le k front (omega arith) ∙ (omega arith) in
    let last : length (drop k front) ≡ 2 ^ d = omega (arith, length-drop k front) in
    let piece_size : length (drop k front ++ piece) ≡ 2 ^ suc d = omega (arith, length-append (drop k front) piece) in
    let room : half + 1 < 2 ^ length roots = omega (arith, two-pow-succ (length roots)) in
    let told = stands-odd first roots d count front odd s in
    let some : 0 < length piece = omega (arith, pow_pos d) in
    let fit : length piece ≤ 2 ^ d = omega arith in
    let node : node_hash first root ≡ tree_hash (drop k front ++ piece) = rw (told.0, is) (sym (pair_root d (drop k front) piece last some fit)) in
    let inner = carries roots (suc d) half (node_hash first root) (take k front) (drop k front ++ piece) room front_size piece_size node told.1 in
    let next : (count + 1) / 2 ≡ half + 1 = omega arith in
    let even : (count + 1) % 2 ≡ 0 = omega arith in
    subst (λ z. Stands z d (count + 1) (front ++ piece)) (sym (carried-odd first roots count root odd))
    (even-stands first (carried roots half (node_hash first root)) d (count + 1) (front ++ piece) even
    (subst (λ z. Stands (carried roots half (node_hash first root)) (suc d) z (front ++ piece)) (sym next)
    (subst (λ z. Stands (carried roots half (node_hash first root)) (suc d) (half + 1) z) (rejoined k front piece) inner))))
    (λ (other : count % 2 ≡ 1 → ⊥).
    let even : count % 2 ≡ 0 = omega arith in
    let all = length-append front piece in
    let k = length (front ++ piece) - 2 ^ d in
    let at : length front ≡ k = omega arith in
    let odd : (count + 1) % 2 ≡ 1 = omega arith in
    let same : (count + 1) / 2 ≡ count / 2 = omega arith in
    subst (λ z. Stands z d (count + 1) (front ++ piece)) (sym (carried-even first roots count root even))
    (odd-stands root roots d (count + 1) (front ++ piece) odd (
      is ∙ ap tree_hash (sym (drop_at front piece k at)),
      subst (λ z. Stands roots (suc d) z (take k (front ++ piece))) (sym same)
          (subst (λ z. Stands roots (suc d) (count / 2) z) (sym (take_at front piece k at)) (stands-even first roots d count front even s)),
    )))
    (cases_eq (count % 2) 1)

-- one more root, where it counts
beside-root : (d : ℕ) (root : List ℕ) (right : Option (List ℕ)) (piece suffix : List (List ℕ)) → root ≡ tree_hash piece → length piece ≡ 2 ^ d
    → length suffix < 2 ^ d → IsRootOf right suffix → IsRootOf (Some (beside root right)) (piece ++ suffix)
unfolding beside
beside-root d root None piece suffix is size few of_none =
    let some : 0 < length (piece ++ suffix) = omega (arith, length-append piece suffix, pow_pos d) in
    (some, is ∙ ap tree_hash (sym (rw of_none (append-nil piece))))
beside-root d root (Some right) piece suffix is size few of_some =
    let some : 0 < length (piece ++ suffix) = omega (arith, length-append piece suffix, of_some.0) in
    let fit : length suffix ≤ 2 ^ d = omega arith in
    (some, rw (is, of_some.1) (sym (pair_root d piece suffix size of_some.0 fit)))

root_over-odd : (root : List ℕ) (roots : List (List ℕ)) (count : ℕ) (right : Option (List ℕ)) → count % 2 ≡ 1
    → root_over (root ∷ roots) count right ≡ root_over roots (count / 2) (Some (beside root right))
unfolding root_over joined
root_over-odd root roots count right odd = ap (λ b. root_over roots (count / 2) (cond b (Some (beside root right)) right)) (is_odd count odd)

root_over-even : (root : List ℕ) (roots : List (List ℕ)) (count : ℕ) (right : Option (List ℕ)) → count % 2 ≡ 0
    → root_over (root ∷ roots) count right ≡ root_over roots (count / 2) right
unfolding root_over joined
root_over-even root roots count right even = ap (λ b. root_over roots (count / 2) (cond b (Some (beside root right)) right)) (is_even count even)

nothing_before : (d count : ℕ) (front suffix : List (List ℕ)) (right : Option (List ℕ)) → Stands [] d count front → IsRootOf right suffix
    → IsRootOf (root_over [] count right) (front ++ suffix)
unfolding Stands root_over
nothing_before d count front suffix right s is = rw s is

pub joins : (roots : List (List ℕ)) (d count : ℕ) (front suffix : List (List ℕ)) (right : Option (List ℕ)) → length front ≡ count * 2 ^ d
    → length suffix < 2 ^ d → Stands roots d count front → IsRootOf right suffix → IsRootOf (root_over roots count right) (front ++ suffix)
joins [] d count front suffix right size few s is = nothing_before d count front suffix right s is
joins (root ∷ roots) d count front suffix right size few s is = ⊎_elim
    (λ (odd : count % 2 ≡ 1).
    let half = count / 2 in
    let k = length front - 2 ^ d in
    let count_is : count ≡ 2 * half + 1 = omega arith in
    let long = odd-rest count half (2 ^ d) (length front) count_is size in
    let twice = two-pow-succ d in
    let power = double half (2 ^ d) (2 ^ suc d) twice in
    let front_size : length (take k front) ≡ half * 2 ^ suc d = length-take-le k front (omega arith) ∙ (omega arith) in
    let last : length (drop k front) ≡ 2 ^ d = omega (arith, length-drop k front) in
    let less : length (drop k front ++ suffix) < 2 ^ suc d = omega (arith, length-append (drop k front) suffix) in
    let told = stands-odd root roots d count front odd s in
    let more = beside-root d root right (drop k front) suffix told.0 last few is in
    subst (λ z. IsRootOf z (front ++ suffix)) (sym (root_over-odd root roots count right odd))
    (subst (λ z. IsRootOf (root_over roots half (Some (beside root right))) z) (rejoined k front suffix)
    (joins roots (suc d) half (take k front) (drop k front ++ suffix) (Some (beside root right)) front_size less told.1 more)))
    (λ (other : count % 2 ≡ 1 → ⊥).
    let even : count % 2 ≡ 0 = omega arith in
    let half = count / 2 in
    let count_is : count ≡ 2 * half = omega arith in
    let long = even-rest count half (2 ^ d) (length front) count_is size in
    let twice = two-pow-succ d in
    let power = double half (2 ^ d) (2 ^ suc d) twice in
    let front_size : length front ≡ half * 2 ^ suc d = omega arith in
    let less : length suffix < 2 ^ suc d = omega arith in
    subst (λ z. IsRootOf z (front ++ suffix)) (sym (root_over-even root roots count right even))
    (joins roots (suc d) half front suffix right front_size less (stands-even root roots d count front even s) is))
    (cases_eq (count % 2) 1)

-- the loop that carries: it puts the root here, or goes on, or past the last place
pub carried-here : (roots : List (List ℕ)) (i left : ℕ) (root : List ℕ) → i < length roots → left % 2 ≡ 0
    → take i roots ++ carried (drop i roots) left root ≡ set roots i root
carried-here roots i left root inside even =
    ap (λ l. take i roots ++ carried l left root) (drop_more roots i [] inside)
    ∙ ap (λ l. take i roots ++ l) (carried-even (get_or roots i []) (drop (i + 1) roots) left root even)
    ∙ ap (λ k. take i roots ++ root ∷ drop k roots) (add-one i)
    ∙ sym (set_split roots i root inside)

pub carried-on : (roots : List (List ℕ)) (i left : ℕ) (root : List ℕ) → i < length roots → left % 2 ≢ 0
    → take i roots ++ carried (drop i roots) left root
    ≡ take (i + 1) roots ++ carried (drop (i + 1) roots) (left / 2) (node_hash (get_or roots i []) root)
carried-on roots i left root inside other =
    let odd : left % 2 ≡ 1 = omega arith in
    let rest = carried (drop (i + 1) roots) (left / 2) (node_hash (get_or roots i []) root) in
    ap (λ l. take i roots ++ carried l left root) (drop_more roots i [] inside)
    ∙ ap (λ l. take i roots ++ l) (carried-odd (get_or roots i []) (drop (i + 1) roots) left root odd)
    ∙ sym (append_assoc (take i roots) (get_or roots i [] ∷ []) rest)
    ∙ ap (λ l. l ++ rest) (sym (take_more roots i [] inside))

pub carried-past : (roots : List (List ℕ)) (i left : ℕ) (root : List ℕ) → length roots ≤ i → take i roots ++ carried (drop i roots) left root ≡ roots
unfolding carried
carried-past roots i left root past = rw (take_all i roots past, drop_all i roots past) (append-nil roots)
