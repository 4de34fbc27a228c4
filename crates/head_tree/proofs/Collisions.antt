-- Where two texts have one hash they are one, or they collide.
use Rattle.std.proofs.Common.{◌≡◌, ◌⊎◌, ℕ, zero, suc, ◌^◌, ◌<◌, ◌≤◌, true, false, List, [], ◌∷◌, ◌++◌, length, map, take, drop}
use Rattle.std.proofs.Common.{bytes_eq, refl, sym, ap, subst, ◌∙◌, inl, inr, ⊎_elim, arith}
use Rattle.std.proofs.lemmas.Bool.{false≢true, cases_lt}
use Rattle.std.proofs.lemmas.List.{take_at, drop_at, take-append-drop, length-take-le, length-drop}
use Rattle.std.proofs.lemmas.List.Elements.{All-take, All-drop}
use Rattle.std.proofs.lemmas.Slice.Eq.{bytes_eq-Decides}
use Rattle.std.proofs.Math.Nat.{two-pow-succ}
use Rattle.std.proofs.lemmas.Nat.{pow_pos}
use Rattle.sha2.specs.Sha256.{sha256}
use Rattle.cry_base.specs.Sets.{In}
use Rattle.cry_base.proofs.Members.{In-append}
use Rattle.head_tree.specs.Hashing.{AreHashes, leaf_hash, leaf_text, node_hash, node_text, node_texts_at, root_at}
use Rattle.head_tree.specs.Heads.{Collision}
use Rattle.head_tree.proofs.Depths.{is_within, is_more}
use Rattle.head_tree.proofs.Trees.{root_at-deeper, root_at-split}
use Rattle.head_tree.proofs.Sizes.{root_at-size}

-- each text of the one list stands in the other
abbrev pub Within : List (List ℕ) → List (List ℕ) → Type 0
Within xs ys = (text : List ℕ) → In text xs → In text ys

pub to_left : (xs ys : List (List ℕ)) → Within xs (xs ++ ys)
to_left xs ys text i = (In-append (List ℕ) text xs ys).1 (inl i)

pub to_right : (xs ys : List (List ℕ)) → Within ys (xs ++ ys)
to_right xs ys text i = (In-append (List ℕ) text xs ys).1 (inr i)

pub both_within : (xs ys zs : List (List ℕ)) → Within xs zs → Within ys zs → Within (xs ++ ys) zs
both_within xs ys zs left right text i = ⊎_elim (λ l. left text l) (λ r. right text r) ((In-append (List ℕ) text xs ys).0 i)

pub wider : (xs ys : List (List ℕ)) → Within xs ys → Collision xs → Collision ys
wider xs ys within found = record {
  one = found.one;
  other = found.other;
  has_one = within found.one found.has_one;
  has_other = within found.other found.has_other;
  differ = found.differ;
  same = found.same;
}

pub same_text : (one other : List ℕ) (texts : List (List ℕ)) → In one texts → In other texts → sha256 one ≡ sha256 other
    → (one ≡ other) ⊎ Collision texts
same_text one other texts has_one has_other same =
    (elim (bytes_eq one other) as (λ b. bytes_eq one other ≡ b → (one ≡ other) ⊎ Collision texts) [
      | true ↦ λ t. inl ((bytes_eq-Decides one other).0 t)
      | false ↦ λ f. inr (record {
        one = one;
        other = other;
        has_one = has_one;
        has_other = has_other;
        differ = λ e. false≢true (sym f ∙ (bytes_eq-Decides one other).1 e);
        same = same;
      })
    ]) refl

-- two node texts that are one are over the same hashes
node_text-parts : (a b c d : List ℕ) → length a ≡ length c → node_text a b ≡ node_text c d → (a ≡ c) × (b ≡ d)
unfolding node_text
node_text-parts a b c d size e =
    let tails : a ++ b ≡ c ++ d = ap (drop 1) e in (
      sym (take_at a b (length a) refl) ∙ ap (take (length a)) tails ∙ take_at c d (length a) (sym size),
      sym (drop_at a b (length a) refl) ∙ ap (drop (length a)) tails ∙ drop_at c d (length a) (sym size),
    )

pub same_nodes : (a b c d : List ℕ) (texts : List (List ℕ)) → length a ≡ length c → In (node_text a b) texts → In (node_text c d) texts
    → node_hash a b ≡ node_hash c d → ((a ≡ c) × (b ≡ d)) ⊎ Collision texts
unfolding node_hash
same_nodes a b c d texts size i j e =
    ⊎_elim (λ (one : node_text a b ≡ node_text c d). inl (node_text-parts a b c d size one)) (λ found. inr found)
    (same_text (node_text a b) (node_text c d) texts i j e)

-- the node texts of a tree, taken in two
pub node_texts-split : (d : ℕ) (leaves : List (List ℕ)) → 2 ^ d < length leaves
    → node_texts_at (suc d) leaves ≡ node_text (root_at d (take (2 ^ d) leaves)) (root_at d (drop (2 ^ d) leaves))
    ∷ (node_texts_at d (take (2 ^ d) leaves) ++ node_texts_at d (drop (2 ^ d) leaves))
unfolding node_texts_at
node_texts-split d leaves h = rw (is_more (length leaves) (2 ^ d) h, node_texts_at) refl

pub node_texts-deeper : (leaves : List (List ℕ)) (d : ℕ) → length leaves ≤ 2 ^ d → node_texts_at (suc d) leaves ≡ node_texts_at d leaves
unfolding node_texts_at
node_texts-deeper leaves d h = rw (is_within (length leaves) (2 ^ d) h, node_texts_at) refl

-- the texts of one half stand among those of the tree
pub within_left : (d : ℕ) (leaves : List (List ℕ)) → 2 ^ d < length leaves → Within (node_texts_at d (take (2 ^ d) leaves)) (node_texts_at (suc d) leaves)
within_left d leaves h text i =
    subst (λ texts. In text texts) (sym (node_texts-split d leaves h)) (inr (to_left _ _ text i))

pub within_right : (d : ℕ) (leaves : List (List ℕ)) → 2 ^ d < length leaves → Within (node_texts_at d (drop (2 ^ d) leaves)) (node_texts_at (suc d) leaves)
within_right d leaves h text i =
    subst (λ texts. In text texts) (sym (node_texts-split d leaves h)) (inr (to_right _ _ text i))

pub top_within : (d : ℕ) (leaves : List (List ℕ)) → 2 ^ d < length leaves
    → In (node_text (root_at d (take (2 ^ d) leaves)) (root_at d (drop (2 ^ d) leaves))) (node_texts_at (suc d) leaves)
top_within d leaves h =
    subst (λ texts. In (node_text (root_at d (take (2 ^ d) leaves)) (root_at d (drop (2 ^ d) leaves))) texts) (sym (node_texts-split d leaves h)) (inl refl)

one_leaf : (xs zs : List (List ℕ)) → length xs ≡ 1 → length zs ≡ 1 → root_at zero xs ≡ root_at zero zs → xs ≡ zs
unfolding root_at
one_leaf [] zs x z e = absurd (omega arith)
one_leaf (a ∷ []) [] x z e = absurd (omega arith)
one_leaf (a ∷ []) (b ∷ []) x z e = ap (λ h. h ∷ []) e
one_leaf (a ∷ []) (b ∷ (c ∷ zs)) x z e = absurd (omega arith)
one_leaf (a ∷ (b ∷ xs)) zs x z e = absurd (omega arith)

-- joins what is known of two halves
join : (k : ℕ) (xs zs : List (List ℕ)) (texts : List (List ℕ)) → (take k xs ≡ take k zs) ⊎ Collision texts → (drop k xs ≡ drop k zs) ⊎ Collision texts
    → (xs ≡ zs) ⊎ Collision texts
join k xs zs texts front back = ⊎_elim
    (λ (f : take k xs ≡ take k zs). ⊎_elim
    (λ (b : drop k xs ≡ drop k zs). inl (sym (take-append-drop k xs) ∙ rw (f, b) (take-append-drop k zs)))
    (λ found. inr found) back)
    (λ found. inr found) front

widen : (P : Type 0) (xs ys : List (List ℕ)) → Within xs ys → P ⊎ Collision xs → P ⊎ Collision ys
widen P xs ys within either = ⊎_elim (λ p. inl p) (λ found. inr (wider xs ys within found)) either

-- two lists of as many hashes with one root are one, or two of the node texts collide
pub same_tree : (d : ℕ) (xs zs : List (List ℕ)) → length xs ≡ length zs → 0 < length xs → length xs ≤ 2 ^ d → AreHashes xs → AreHashes zs
    → root_at d xs ≡ root_at d zs → (xs ≡ zs) ⊎ Collision (node_texts_at d xs ++ node_texts_at d zs)
same_tree zero xs zs size some fit sizes_x sizes_z same =
    let one : length xs ≡ 1 = omega arith in
    let other : length zs ≡ 1 = omega arith in
    inl (one_leaf xs zs one other same)
same_tree (suc d) xs zs size some fit sizes_x sizes_z same = ⊎_elim
    (λ (over : 2 ^ d < length xs).
    let over_z : 2 ^ d < length zs = omega arith in
    let all = node_texts_at (suc d) xs ++ node_texts_at (suc d) zs in
    let lx = length-take-le (2 ^ d) xs (omega arith) in
    let lz = length-take-le (2 ^ d) zs (omega arith) in
    let rx = length-drop (2 ^ d) xs in
    let rz = length-drop (2 ^ d) zs in
    let some_left : 0 < length (take (2 ^ d) xs) = omega (arith, pow_pos d) in
    let some_left_z : 0 < length (take (2 ^ d) zs) = omega (arith, pow_pos d) in
    let fit_left : length (take (2 ^ d) xs) ≤ 2 ^ d = omega arith in
    let fit_left_z : length (take (2 ^ d) zs) ≤ 2 ^ d = omega arith in
    let some_right : 0 < length (drop (2 ^ d) xs) = omega arith in
    let fit_right : length (drop (2 ^ d) xs) ≤ 2 ^ d = omega (arith, two-pow-succ d) in
    let size_left : length (take (2 ^ d) xs) ≡ length (take (2 ^ d) zs) = omega arith in
    let size_right : length (drop (2 ^ d) xs) ≡ length (drop (2 ^ d) zs) = omega arith in
    let hashes_left = All-take (λ (h : List ℕ). length h ≡ 32) (2 ^ d) xs sizes_x in
    let hashes_left_z = All-take (λ (h : List ℕ). length h ≡ 32) (2 ^ d) zs sizes_z in
    let hashes_right = All-drop (λ (h : List ℕ). length h ≡ 32) (2 ^ d) xs sizes_x in
    let hashes_right_z = All-drop (λ (h : List ℕ). length h ≡ 32) (2 ^ d) zs sizes_z in
    let root_size : length (root_at d (take (2 ^ d) xs)) ≡ length (root_at d (take (2 ^ d) zs))
    = root_at-size d (take (2 ^ d) xs) some_left fit_left hashes_left ∙ sym (root_at-size d (take (2 ^ d) zs) some_left_z fit_left_z hashes_left_z) in
    let nodes = sym (root_at-split d xs over) ∙ same ∙ root_at-split d zs over_z in
    ⊎_elim
    (λ (parts : (root_at d (take (2 ^ d) xs) ≡ root_at d (take (2 ^ d) zs)) × (root_at d (drop (2 ^ d) xs) ≡ root_at d (drop (2 ^ d) zs))).
    join (2 ^ d) xs zs all
    (widen (take (2 ^ d) xs ≡ take (2 ^ d) zs) (node_texts_at d (take (2 ^ d) xs) ++ node_texts_at d (take (2 ^ d) zs)) all
    (both_within (node_texts_at d (take (2 ^ d) xs)) (node_texts_at d (take (2 ^ d) zs)) all
    (λ text i. to_left (node_texts_at (suc d) xs) (node_texts_at (suc d) zs) text (within_left d xs over text i))
    (λ text i. to_right (node_texts_at (suc d) xs) (node_texts_at (suc d) zs) text (within_left d zs over_z text i)))
    (same_tree d (take (2 ^ d) xs) (take (2 ^ d) zs) size_left some_left fit_left hashes_left hashes_left_z parts.0))
    (widen (drop (2 ^ d) xs ≡ drop (2 ^ d) zs) (node_texts_at d (drop (2 ^ d) xs) ++ node_texts_at d (drop (2 ^ d) zs)) all
    (both_within (node_texts_at d (drop (2 ^ d) xs)) (node_texts_at d (drop (2 ^ d) zs)) all
    (λ text i. to_left (node_texts_at (suc d) xs) (node_texts_at (suc d) zs) text (within_right d xs over text i))
    (λ text i. to_right (node_texts_at (suc d) xs) (node_texts_at (suc d) zs) text (within_right d zs over_z text i)))
    (same_tree d (drop (2 ^ d) xs) (drop (2 ^ d) zs) size_right some_right fit_right hashes_right hashes_right_z parts.1)))
    (λ found. inr found)
    (same_nodes (root_at d (take (2 ^ d) xs)) (root_at d (drop (2 ^ d) xs)) (root_at d (take (2 ^ d) zs)) (root_at d (drop (2 ^ d) zs)) all root_size
    (to_left (node_texts_at (suc d) xs) (node_texts_at (suc d) zs) _ (top_within d xs over))
    (to_right (node_texts_at (suc d) xs) (node_texts_at (suc d) zs) _ (top_within d zs over_z)) nodes))
    (λ (within : length xs ≤ 2 ^ d).
    let within_z : length zs ≤ 2 ^ d = omega arith in
    rw (node_texts-deeper xs d within, node_texts-deeper zs d within_z)
    (same_tree d xs zs size some within sizes_x sizes_z (sym (root_at-deeper xs d within) ∙ same ∙ root_at-deeper zs d within_z)))
    (cases_lt (2 ^ d) (length xs))

-- two lists of leaves with the same hashes are one, or two of the leaf texts collide
pub same_leaves : (xs zs : List (List ℕ)) → map leaf_hash xs ≡ map leaf_hash zs → (xs ≡ zs) ⊎ Collision (map leaf_text xs ++ map leaf_text zs)
unfolding leaf_hash leaf_text
same_leaves [] [] same = inl refl
same_leaves [] (z ∷ zs) same = cc
same_leaves (x ∷ xs) [] same = cc
same_leaves (x ∷ xs) (z ∷ zs) same =
    let all = map leaf_text (x ∷ xs) ++ map leaf_text (z ∷ zs) in
    let heads : sha256 (leaf_text x) ≡ sha256 (leaf_text z) = cc in
    let tails : map leaf_hash xs ≡ map leaf_hash zs = ap (drop 1) same in
    ⊎_elim
    (λ (one : leaf_text x ≡ leaf_text z). ⊎_elim
    (λ (rest : xs ≡ zs). let first : x ≡ z = ap (drop 1) one in inl (rw (first, rest) refl))
    (λ found. inr (wider (map leaf_text xs ++ map leaf_text zs) all (both_within (map leaf_text xs) (map leaf_text zs) all
    (λ text i. inr (to_left (map leaf_text xs) (map leaf_text (z ∷ zs)) text i))
    (λ text i. inr (to_right (map leaf_text xs) (map leaf_text (z ∷ zs)) text (inr i)))) found))
    (same_leaves xs zs tails))
    (λ found. inr found)
    (same_text (leaf_text x) (leaf_text z) all (inl refl) (inr (to_right (map leaf_text xs) (map leaf_text (z ∷ zs)) (leaf_text z) (inl refl))) heads)
