-- A proof that climbs: what it is in a larger subtree, where it begins and what it comes to.
use Rattle.std.proofs.Common.{◌≡◌, ℕ, zero, suc, ◌+◌, ◌-◌, ◌*◌, ◌/◌, ◌%◌, ◌^◌, ◌<◌, ◌≤◌, Bool, true, false, ◌==◌, cond, List, [], ◌∷◌, ◌++◌}
use Rattle.std.proofs.Common.{length, take, drop, get_or, Option, refl, sym, ap, subst, ◌∙◌, ⊎_elim, add-one, arith}
use Rattle.std.proofs.lemmas.List.{take-take, drop-take, take_all, drop_more, drop_all, drop-append-le, take-append-le, length-take-le, length-drop}
use Rattle.std.proofs.lemmas.Bool.{cases_lt}
use Rattle.std.proofs.lemmas.Bool.Decides.{eqb_tells}
use Rattle.std.proofs.lemmas.Nat.{pow_pos}
use Rattle.std.proofs.Math.Nat.{two-pow-succ}
use Rattle.std.proofs.Math.Pow.{pow-lt}
use Rattle.head_tree.specs.Hashing.{root_at, tree_hash}
use Rattle.head_tree.specs.Proving.{own_root, proof_at, tree_proof}
use Rattle.head_tree.specs.Growing.{Stands, IsRootOf}
use Rattle.head_tree.specs.Climbing.{ReachesAt, listed}
use Rattle.head_tree.proofs.Depths.{are_one}
use Rattle.head_tree.proofs.Trees.{root_at-any}
use Rattle.head_tree.proofs.Proofs.{part_at-any, proof_at-all}
use Rattle.head_tree.proofs.Growth.{Counts, double, even-rest, even-stands, odd-rest, stands-even, stands-odd}
use Rattle.head_tree.proofs.Levels.{left_step, right_step}

-- a level within the leaves' bits
pub low_level : (d : ℕ) → 2 ^ d ≤ 2 ^ 32 → d < 33
low_level d small = ⊎_elim (λ (over : 32 < d). absurd (omega (arith, pow-lt over))) (λ (within : d ≤ 32). omega arith) (cases_lt 32 d)

not_zero : (i : ℕ) → 0 < i → (i == 0) ≡ false
not_zero i some = grind (arith, eqb_tells i 0)

zero_half : (i : ℕ) → i % 2 ≡ 0 → (i / 2 == 0) ≡ (i == 0)
zero_half i even = grind (arith, eqb_tells i 0, eqb_tells (i / 2) 0)

-- the first of the roots from a level on, where their number is odd
pub inside : (peaks front : List (List ℕ)) (d i : ℕ) → Stands (drop d peaks) d i front → 0 < length front → d < length peaks
unfolding Stands
inside peaks front d i stands some = ⊎_elim
    (λ (less : d < length peaks). less)
    (λ (past : length peaks ≤ d). let nothing : front ≡ [] = subst (λ l. Stands l d i front) (drop_all d peaks past) stands in
    let none : length front ≡ 0 = ap length nothing in absurd (omega arith))
    (cases_lt d (length peaks))

peak_stands : (peaks front : List (List ℕ)) (d i : ℕ) → d < length peaks → Stands (drop d peaks) d i front
    → Stands (get_or peaks d [] ∷ drop (suc d) peaks) d i front
peak_stands peaks front d i less stands =
    let step : drop d peaks ≡ get_or peaks d [] ∷ drop (suc d) peaks = drop_more peaks d [] less ∙ ap (λ k. get_or peaks d [] ∷ drop k peaks) (add-one d) in
    subst (λ l. Stands l d i front) step stands

-- the roots from a level on, and from the next one on
stands_up : (peaks front : List (List ℕ)) (d i : ℕ) → i % 2 ≡ 0 → Stands (drop d peaks) d i front → Stands (drop (suc d) peaks) (suc d) (i / 2) front
unfolding Stands
stands_up peaks front d i even stands = ⊎_elim
    (λ (less : d < length peaks). stands-even (get_or peaks d []) (drop (suc d) peaks) d i front even (peak_stands peaks front d i less stands))
    (λ (past : length peaks ≤ d). let nothing : front ≡ [] = subst (λ l. Stands l d i front) (drop_all d peaks past) stands in
    subst (λ l. Stands l (suc d) (i / 2) front) (sym (drop_all (suc d) peaks (omega arith))) nothing)
    (cases_lt d (length peaks))

-- where the count has d zeros behind it
pub stands_at : (d j count : ℕ) (roots leaves : List (List ℕ)) → Stands roots j (count * 2 ^ d) leaves → Stands (drop d roots) (j + d) count leaves
unfolding Stands
stands_at zero j count roots leaves stands =
    let one : count * 2 ^ zero ≡ count = omega arith in
    let same : j ≡ j + zero = omega arith in
    subst (λ z. Stands roots z count leaves) same (subst (λ z. Stands roots j z leaves) one stands)
stands_at (suc d) j count [] leaves stands = stands
stands_at (suc d) j count (root ∷ roots) leaves stands =
    let power = double count (2 ^ d) (2 ^ suc d) (two-pow-succ d) in
    let even : (count * 2 ^ suc d) % 2 ≡ 0 = omega arith in
    let half : count * 2 ^ suc d / 2 ≡ count * 2 ^ d = omega arith in
    let next = stands-even root roots j (count * 2 ^ suc d) leaves even stands in
    let same : suc j + d ≡ j + suc d = omega arith in
    subst (λ z. Stands (drop d roots) z count leaves) same (stands_at d (suc j) count roots leaves (subst (λ z. Stands roots (suc j) z leaves) half next))

-- past a left sibling, whose root is the level's peak
pub left_up : (d i first : ℕ) (hashes peaks leaves : List (List ℕ)) → i % 2 ≡ 1 → first < length leaves → ReachesAt d i hashes peaks first leaves
    → ReachesAt (d + 1) (i / 2) (hashes ++ get_or peaks d [] ∷ []) peaks first leaves
left_up d i first hashes peaks leaves odd more at =
    let half = i / 2 in
    let count_is : i ≡ 2 * half + 1 = omega arith in
    let twice = two-pow-succ d in
    let some = pow_pos d in
    let long = odd-rest i half (2 ^ d) (i * 2 ^ d) count_is refl in
    let power = double half (2 ^ d) (2 ^ suc d) twice in
    let start = half * 2 ^ suc d in
    let join : start + 2 ^ d ≡ i * 2 ^ d = omega arith in
    let front = take (i * 2 ^ d) leaves in
    let front_size : length front ≡ i * 2 ^ d = length-take-le (i * 2 ^ d) leaves (omega (arith, at.some)) in
    let less : d < length peaks = inside peaks front d i at.stands (omega arith) in
    let told : Counts (get_or peaks d []) (drop (suc d) peaks) d i front = stands-odd (get_or peaks d []) (drop (suc d) peaks) d i front odd (peak_stands peaks front d i less at.stands) in
    let cut : length front - 2 ^ d ≡ start = omega arith in
    let piece : drop (length front - 2 ^ d) front ≡ take (2 ^ d) (drop start leaves) =
    ap (λ k. drop k front) cut ∙ ap (λ k. drop start (take k leaves)) (sym join) ∙ drop-take start (2 ^ d) leaves in
    let peak : get_or peaks d [] ≡ tree_hash (take (2 ^ d) (drop start leaves)) = told.0 ∙ ap tree_hash piece in
    let rest : take (length front - 2 ^ d) front ≡ take start leaves = ap (λ k. take k front) cut ∙ take-take start (i * 2 ^ d) leaves (omega arith) in
    let last : first < start + 2 ^ suc d = omega (arith, at.inner odd) in
    let step = left_step d start first leaves (half == 0) (omega (arith, at.some)) last more in
    let before : proof_at d (first - i * 2 ^ d) (take (2 ^ d) (drop (i * 2 ^ d) leaves)) (i == 0)
    ≡ proof_at d (first - (start + 2 ^ d)) (take (2 ^ d) (drop (start + 2 ^ d) leaves)) false
    = ap (proof_at d (first - i * 2 ^ d) (take (2 ^ d) (drop (i * 2 ^ d) leaves))) (not_zero i (omega arith))
    ∙ ap (λ k. proof_at d (first - k) (take (2 ^ d) (drop k leaves)) false) (sym join) in
    subst (λ z. ReachesAt z half (hashes ++ get_or peaks d [] ∷ []) peaks first leaves) (sym (add-one d)) (record {
      some = omega (arith, at.some);
      most = omega arith;
      inner = λ _. last;
      proof = ap (λ h. h ++ get_or peaks d [] ∷ []) (at.proof ∙ before)
          ∙ ap (λ h. proof_at d (first - (start + 2 ^ d)) (take (2 ^ d) (drop (start + 2 ^ d) leaves)) false ++ h ∷ []) peak ∙ sym step;
      stands = subst (λ l. Stands (drop (suc d) peaks) (suc d) half l) rest told.1;
    })

-- past a right sibling
pub right_up : (d i first : ℕ) (hashes peaks leaves : List (List ℕ)) (right : Option (List ℕ)) → i % 2 ≡ 0 → first < length leaves
    → IsRootOf right (take (2 ^ d) (drop (i * 2 ^ d + 2 ^ d) leaves)) → ReachesAt d i hashes peaks first leaves
    → ReachesAt (d + 1) (i / 2) (hashes ++ listed right) peaks first leaves
right_up d i first hashes peaks leaves right even more is at =
    let half = i / 2 in
    let count_is : i ≡ 2 * half = omega arith in
    let twice = two-pow-succ d in
    let some = pow_pos d in
    let long = even-rest i half (2 ^ d) (i * 2 ^ d) count_is refl in
    let power = double half (2 ^ d) (2 ^ suc d) twice in
    let start = i * 2 ^ d in
    let same : start ≡ half * 2 ^ suc d = omega arith in
    let last : first < half * 2 ^ suc d + 2 ^ suc d = omega (arith, at.most) in
    let step = right_step d start first leaves (i == 0) right at.some at.most more is in
    let after : proof_at (suc d) (first - start) (take (2 ^ suc d) (drop start leaves)) (i == 0)
    ≡ proof_at (suc d) (first - half * 2 ^ suc d) (take (2 ^ suc d) (drop (half * 2 ^ suc d) leaves)) (half == 0)
    = ap (proof_at (suc d) (first - start) (take (2 ^ suc d) (drop start leaves))) (sym (zero_half i even))
    ∙ ap (λ k. proof_at (suc d) (first - k) (take (2 ^ suc d) (drop k leaves)) (half == 0)) same in
    subst (λ z. ReachesAt z half (hashes ++ listed right) peaks first leaves) (sym (add-one d)) (record {
      some = omega (arith, at.some);
      most = omega arith;
      inner = λ _. last;
      proof = ap (λ h. h ++ listed right) at.proof ∙ sym step ∙ after;
      stands = subst (λ k. Stands (drop (suc d) peaks) (suc d) half (take k leaves)) same (stands_up peaks (take start leaves) d i even at.stands);
    })

-- one leaf more behind the subtree
pub leaf_behind : (d i first : ℕ) (hashes peaks leaves : List (List ℕ)) (leaf : List ℕ) → i * 2 ^ d + 2 ^ d ≤ length leaves
    → ReachesAt d i hashes peaks first leaves → ReachesAt d i hashes peaks first (leaves ++ leaf ∷ [])
leaf_behind d i first hashes peaks leaves leaf whole at =
    let start = i * 2 ^ d in
    let back : drop start (leaves ++ leaf ∷ []) ≡ drop start leaves ++ leaf ∷ [] = drop-append-le start leaves (leaf ∷ []) (omega arith) in
    let room : 2 ^ d ≤ length (drop start leaves) = omega (arith, length-drop start leaves) in
    let part : take (2 ^ d) (drop start leaves) ≡ take (2 ^ d) (drop start (leaves ++ leaf ∷ []))
    = sym (take-append-le (2 ^ d) (drop start leaves) (leaf ∷ []) room) ∙ ap (take (2 ^ d)) (sym back) in
    let front : take start leaves ≡ take start (leaves ++ leaf ∷ []) = sym (take-append-le start leaves (leaf ∷ []) (omega arith)) in
    record {
      some = at.some;
      most = at.most;
      inner = at.inner;
      proof = at.proof ∙ ap (λ l. proof_at d (first - start) l (i == 0)) part;
      stands = subst (λ l. Stands (drop d peaks) d i l) front at.stands;
    }

-- what a climb begins with
abbrev pub begins : List (List ℕ) → ℕ → ℕ → List (List ℕ)
begins peaks d i = cond (i == 0) [] (get_or peaks d [] ∷ [])

own_begins : (whole : Bool) (peak root : List ℕ) → peak ≡ root → cond whole [] (peak ∷ []) ≡ own_root whole root
unfolding own_root
own_begins true peak root same = refl
own_begins false peak root same = ap (λ h. h ∷ []) same

-- the first level at which the climb can begin
record FirstPeak (d i : ℕ) (peaks leaves : List (List ℕ)) : Type 0 where
  inside : d < length peaks
  root : get_or peaks d [] ≡ tree_hash (drop (i * 2 ^ d) leaves)
  rest : Stands (drop (suc d) peaks) (suc d) (i / 2) (take (i * 2 ^ d) leaves)

first_peak : (d i : ℕ) (peaks leaves : List (List ℕ)) → i % 2 ≡ 0 → i * 2 ^ d + 2 ^ d ≡ length leaves → Stands peaks 0 (length leaves) leaves
    → FirstPeak d i peaks leaves
first_peak d i peaks leaves even ends stands =
    let count : length leaves ≡ (i + 1) * 2 ^ d = omega arith in
    let from_zero : 0 + d ≡ d = omega arith in
    let at : Stands (drop d peaks) d (i + 1) leaves = subst (λ z. Stands (drop d peaks) z (i + 1) leaves) from_zero
    (stands_at d 0 (i + 1) peaks leaves (subst (λ z. Stands peaks 0 z leaves) count stands)) in
    let less : d < length peaks = inside peaks leaves d (i + 1) at (omega (arith, pow_pos d)) in
    let odd : (i + 1) % 2 ≡ 1 = omega arith in
    let told : Counts (get_or peaks d []) (drop (suc d) peaks) d (i + 1) leaves
    = stands-odd (get_or peaks d []) (drop (suc d) peaks) d (i + 1) leaves odd (peak_stands peaks leaves d (i + 1) less at) in
    let cut : length leaves - 2 ^ d ≡ i * 2 ^ d = omega arith in
    let half : (i + 1) / 2 ≡ i / 2 = omega arith in
    record {
      inside = less;
      root = told.0 ∙ ap (λ k. tree_hash (drop k leaves)) cut;
      rest = subst (λ z. Stands (drop (suc d) peaks) (suc d) z (take (i * 2 ^ d) leaves)) half
          (subst (λ k. Stands (drop (suc d) peaks) (suc d) ((i + 1) / 2) (take k leaves)) cut told.1);
    }

pub climb_begins : (d i : ℕ) (peaks leaves : List (List ℕ)) → i % 2 ≡ 0 → i * 2 ^ d + 2 ^ d ≡ length leaves → Stands peaks 0 (length leaves) leaves
    → ReachesAt d i (begins peaks d i) peaks (length leaves) leaves
climb_begins d i peaks leaves even ends stands =
    let start = i * 2 ^ d in
    let peak = first_peak d i peaks leaves even ends stands in
    let piece = drop start leaves in
    let size : length piece ≡ 2 ^ d = omega (arith, length-drop start leaves) in
    let all : take (2 ^ d) piece ≡ piece = take_all (2 ^ d) piece (omega arith) in
    let count : length leaves - start ≡ length piece = omega arith in
    let root : get_or peaks d [] ≡ root_at d piece = peak.root ∙ sym (root_at-any d piece (omega arith)) in
    let own : begins peaks d i ≡ own_root (i == 0) (root_at d piece) = own_begins (i == 0) (get_or peaks d []) (root_at d piece) root in
    let told : proof_at d (length leaves - start) (take (2 ^ d) piece) (i == 0) ≡ own_root (i == 0) (root_at d piece)
    = ap (λ l. proof_at d (length leaves - start) l (i == 0)) all ∙ ap (λ k. proof_at d k piece (i == 0)) count ∙ proof_at-all d piece (i == 0) in
    let step : get_or peaks d [] ∷ drop (suc d) peaks ≡ drop d peaks
    = sym (drop_more peaks d [] peak.inside ∙ ap (λ k. get_or peaks d [] ∷ drop k peaks) (add-one d)) in
    record {
      some = omega (arith, pow_pos d);
      most = omega arith;
      inner = λ odd. absurd (omega arith);
      proof = own ∙ sym told;
      stands = subst (λ l. Stands l d i (take start leaves)) step
          (even-stands (get_or peaks d []) (drop (suc d) peaks) d i (take start leaves) even peak.rest);
    }

pub begins_own : (peaks : List (List ℕ)) (d i : ℕ) (old peak : List (List ℕ)) (root : List ℕ) → 0 < i → old ≡ [] → root ≡ get_or peaks d [] → peak ≡ old ++ root ∷ []
    → peak ≡ begins peaks d i
begins_own peaks d i old peak root some none is added =
    added ∙ ap (λ l. l ++ root ∷ []) none ∙ ap (λ h. h ∷ []) is ∙ ap (λ b. cond b [] (get_or peaks d [] ∷ [])) (sym (not_zero i some))

pub begins_with_none : (peaks : List (List ℕ)) (d i : ℕ) (hashes : List (List ℕ)) → i ≤ 0 → hashes ≡ [] → hashes ≡ begins peaks d i
begins_with_none peaks d i hashes few none = none ∙ ap (λ b. cond b [] (get_or peaks d [] ∷ [])) (sym (are_one i 0 (omega arith)))

-- the subtree has all leaves
pub climb_ends : (d i first : ℕ) (hashes peaks leaves : List (List ℕ)) → i ≡ 0 → first < length leaves → length leaves ≤ i * 2 ^ d + 2 ^ d
    → ReachesAt d i hashes peaks first leaves → hashes ≡ tree_proof first leaves
unfolding tree_proof
climb_ends d i first hashes peaks leaves none more all at =
    let product : i * 2 ^ d ≡ 0 * 2 ^ d = ap (λ z. z * 2 ^ d) none in
    let start : i * 2 ^ d ≡ 0 = omega arith in
    let count : first - 0 ≡ first = omega arith in
    let room : length leaves ≤ 2 ^ d = omega arith in
    at.proof
    ∙ ap (λ k. proof_at d (first - k) (take (2 ^ d) (drop k leaves)) (i == 0)) start
    ∙ ap (λ k. proof_at d k (take (2 ^ d) leaves) (i == 0)) count
    ∙ ap (λ l. proof_at d first l (i == 0)) (take_all (2 ^ d) leaves room)
    ∙ ap (proof_at d first leaves) (are_one i 0 none)
    ∙ part_at-any d first leaves true (omega arith) room
