-- An accepted proof shows that the older log begins the newer, or two texts collide.
use Rattle.std.proofs.Common.{◌≡◌, ◌⊎◌, ℕ, ◌+◌, ◌^◌, ◌<◌, ◌≤◌, true, List, ◌++◌, length, map, take, drop}
use Rattle.std.proofs.Common.{sym, ap, subst, ◌∙◌, inl, inr, ⊎_elim, arith}
use Rattle.std.proofs.lemmas.List.{take-append-drop, take-map, length-map, length-take-le}
use Rattle.std.proofs.lemmas.List.Elements.{All-take}
use Rattle.cry_base.specs.Sets.{In}
use Rattle.head_tree.specs.Hashing.{AreHashes, leaf_hash, leaf_text, node_texts_at, root_at, tree_hash, texts_of}
use Rattle.head_tree.specs.Checking.{IsAccepted, texts_then, texts_checked}
use Rattle.head_tree.specs.Heads.{Collision, IsHead, IsHeadOf, IsPrefix, ShowsPrefix, texts_between}
use Rattle.head_tree.specs.declared.head.Head.{Head}
use Rattle.head_tree.proofs.Depths.{fits, steady}
use Rattle.head_tree.proofs.Trees.{root_at-any}
use Rattle.head_tree.proofs.Checks.{roots_at-any}
use Rattle.head_tree.proofs.Sizes.{leaf_hashes-size, root_at-size}
use Rattle.head_tree.proofs.Collisions.{Within, to_left, to_right, both_within, wider, node_texts-deeper, same_tree, same_leaves}
use Rattle.head_tree.proofs.Reaching.{Reached, reaches}

node_texts-any : (d e : ℕ) (leaves : List (List ℕ)) → length leaves ≤ 2 ^ d → length leaves ≤ 2 ^ e → node_texts_at d leaves ≡ node_texts_at e leaves
node_texts-any d e leaves = steady (λ z. node_texts_at z leaves) (length leaves) (node_texts-deeper leaves) d e

leaf_within : (leaves : List (List ℕ)) → Within (map leaf_text leaves) (texts_of leaves)
unfolding texts_of
leaf_within leaves = to_left (map leaf_text leaves) (node_texts_at (length leaves) (map leaf_hash leaves))

node_within : (d : ℕ) (leaves : List (List ℕ)) → length leaves ≤ 2 ^ d → Within (node_texts_at d (map leaf_hash leaves)) (texts_of leaves)
unfolding texts_of
node_within d leaves fit text i =
    let size = length-map leaves leaf_hash in
    let room : length (map leaf_hash leaves) ≤ 2 ^ d = omega arith in
    let all : length (map leaf_hash leaves) ≤ 2 ^ length leaves = omega (arith, fits (length leaves)) in
    to_right (map leaf_text leaves) (node_texts_at (length leaves) (map leaf_hash leaves)) text
    (rw (node_texts-any d (length leaves) (map leaf_hash leaves) room all) at i)

-- of logs with as many leaves
pub same_logs : (one other : List (List ℕ)) → 0 < length one → length one ≡ length other
    → tree_hash (map leaf_hash one) ≡ tree_hash (map leaf_hash other) → (one ≡ other) ⊎ Collision (texts_of one ++ texts_of other)
same_logs one other some size same =
    let d = length one in
    let xs = map leaf_hash one in
    let zs = map leaf_hash other in
    let all = texts_of one ++ texts_of other in
    let size_x : length xs ≡ length one = length-map one leaf_hash in
    let size_z : length zs ≡ length other = length-map other leaf_hash in
    let room : length one ≤ 2 ^ d = fits d in
    let room_x : length xs ≤ 2 ^ d = omega arith in
    let room_z : length zs ≤ 2 ^ d = omega arith in
    let room_other : length other ≤ 2 ^ d = omega arith in
    let roots : root_at d xs ≡ root_at d zs = root_at-any d xs room_x ∙ same ∙ sym (root_at-any d zs room_z) in
    let sizes : length xs ≡ length zs = omega arith in
    let some_x : 0 < length xs = omega arith in
    ⊎_elim
    (λ (hashes : xs ≡ zs). ⊎_elim
    (λ (leaves : one ≡ other). inl leaves)
    (λ found. inr (wider (map leaf_text one ++ map leaf_text other) all (both_within (map leaf_text one) (map leaf_text other) all
    (λ text i. to_left (texts_of one) (texts_of other) text (leaf_within one text i))
    (λ text i. to_right (texts_of one) (texts_of other) text (leaf_within other text i))) found))
    (same_leaves one other hashes))
    (λ found. inr (wider (node_texts_at d xs ++ node_texts_at d zs) all (both_within (node_texts_at d xs) (node_texts_at d zs) all
    (λ text i. to_left (texts_of one) (texts_of other) text (node_within d one room text i))
    (λ text i. to_right (texts_of one) (texts_of other) text (node_within d other room_other text i))) found))
    (same_tree d xs zs sizes some_x room_x (leaf_hashes-size one) (leaf_hashes-size other) roots)

checked-texts : (old new : Head) (proof : List (List ℕ)) (accepted : IsAccepted old new proof) → texts_checked old new proof ≡ accepted.roots.texts
unfolding texts_checked texts_then
checked-texts old new proof accepted = ap texts_then accepted.leads

-- the parts of all texts that are hashed for two heads and a proof
first_within : (old new : Head) (proof first second : List (List ℕ)) → Within (texts_of first) (texts_between old first new second proof)
unfolding texts_between
first_within old new proof first second = to_left (texts_of first) (texts_of second ++ texts_checked old new proof)

second_within : (old new : Head) (proof first second : List (List ℕ)) → Within (texts_of second) (texts_between old first new second proof)
unfolding texts_between
second_within old new proof first second text i =
    to_right (texts_of first) (texts_of second ++ texts_checked old new proof) text (to_left (texts_of second) (texts_checked old new proof) text i)

checked_within : (old new : Head) (proof first second : List (List ℕ)) → Within (texts_checked old new proof) (texts_between old first new second proof)
unfolding texts_between
checked_within old new proof first second text i =
    to_right (texts_of first) (texts_of second ++ texts_checked old new proof) text (to_right (texts_of second) (texts_checked old new proof) text i)

-- a list's front stands in it
front_within : (m : ℕ) (texts : List (List ℕ)) → Within (take m texts) texts
front_within m texts text i = subst (λ l. In text l) (take-append-drop m texts) (to_left (take m texts) (drop m texts) text i)

-- the older log's leaves are the newer's first, where their hashes are
leaves_begin : (m : ℕ) (first second all : List (List ℕ)) → Within (texts_of first) all → Within (texts_of second) all
    → map leaf_hash first ≡ take m (map leaf_hash second) → IsPrefix first second ⊎ Collision all
leaves_begin m first second all in_first in_second hashes = ⊎_elim
    (λ (begins : first ≡ take m second). inl (drop m second, sym (take-append-drop m second) ∙ ap (λ l. l ++ drop m second) (sym begins)))
    (λ found. inr (wider (map leaf_text first ++ map leaf_text (take m second)) all
    (both_within (map leaf_text first) (map leaf_text (take m second)) all
    (λ text i. in_first text (leaf_within first text i))
    (λ text i. in_second text (leaf_within second text (front_within m (map leaf_text second) text
    (subst (λ l. In text l) (sym (take-map leaf_text m second)) i))))) found))
    (same_leaves first (take m second) (hashes ∙ take-map leaf_hash m second))

pub shows_prefix : (old new : Head) (proof : List (List ℕ)) → AreHashes proof → IsAccepted old new proof → ShowsPrefix old new proof
shows_prefix old new proof parts accepted first second is_old is_new =
    let m = old.batches + 1 in
    let n = new.batches + 1 in
    let xs = map leaf_hash first in
    let ys = map leaf_hash second in
    let all = texts_between old first new second proof in
    let size_x : length xs ≡ m = length-map first leaf_hash ∙ is_old.count in
    let size_y : length ys ≡ n = length-map second leaf_hash ∙ is_new.count in
    let order : m ≤ n = omega (arith, accepted.order) in
    let fit_m : m ≤ 2 ^ m = fits m in
    let fit_n : n ≤ 2 ^ n = fits n in
    let room_x : length xs ≤ 2 ^ m = omega arith in
    let room_y : length ys ≤ 2 ^ n = omega arith in
    let size_z : length (take m ys) ≡ m = length-take-le m ys (omega arith) in
    let room_z : length (take m ys) ≤ 2 ^ m = omega arith in
    let wide_z : length (take m ys) ≤ 2 ^ n = omega arith in
    let some_x : 0 < length xs = omega arith in
    let sizes : length xs ≡ length (take m ys) = omega arith in
    let old_root : old.root ≡ root_at m xs = is_old.root ∙ sym (root_at-any m xs room_x) in
    let root_size : length old.root ≡ 32
    = subst (λ h. length h ≡ 32) (sym old_root) (root_at-size m xs some_x room_x (leaf_hashes-size first)) in
    let roots = accepted.roots in
    let leads = roots_at-any n m n old.root proof true order fit_n ∙ accepted.leads in
    let new_root : roots.new ≡ root_at n ys = accepted.to_new ∙ is_new.root ∙ sym (root_at-any n ys room_y) in
    let checked : Within roots.texts all = λ text i. checked_within old new proof first second text
    (subst (λ l. In text l) (sym (checked-texts old new proof accepted)) i) in
    let fit_second : length second ≤ 2 ^ n = omega (arith, is_new.count) in
    let fit_first : length first ≤ 2 ^ m = omega (arith, is_old.count) in
    let newer : Within (node_texts_at n ys ++ roots.texts) all = both_within (node_texts_at n ys) roots.texts all
    (λ text i. second_within old new proof first second text (node_within n second fit_second text i)) checked in
    ⊎_elim
    (λ (reached : Reached n m ys roots).
    let begin : root_at m xs ≡ root_at m (take m ys)
    = sym old_root ∙ sym accepted.to_old ∙ reached.same ∙ root_at-any n (take m ys) wide_z ∙ sym (root_at-any m (take m ys) room_z) in
    ⊎_elim
    (λ (hashes : xs ≡ take m ys). leaves_begin m first second all (first_within old new proof first second)
    (second_within old new proof first second) hashes)
    (λ found. inr (wider (node_texts_at m xs ++ node_texts_at m (take m ys)) all
    (both_within (node_texts_at m xs) (node_texts_at m (take m ys)) all
    (λ text i. first_within old new proof first second text (node_within m first fit_first text i))
    (λ text i. newer text (reached.within text
    (subst (λ l. In text l) (node_texts-any m n (take m ys) room_z wide_z) i)))) found))
    (same_tree m xs (take m ys) sizes some_x room_x (leaf_hashes-size first)
    (All-take (λ (h : List ℕ). length h ≡ 32) m ys (leaf_hashes-size second)) begin))
    (λ found. inr (wider (node_texts_at n ys ++ roots.texts) all newer found))
    (reaches n m n old.root proof ys true roots (record {
      some = omega arith;
      order = order;
      count = size_y;
      fit = fit_n;
      leaves = leaf_hashes-size second;
      parts = parts;
      root_size = root_size;
    }) leads new_root)

-- the head over a log's first batches is that of the log that ends with them
pub first_head : (head : Head) (batches : ℕ) (leaves : List (List ℕ)) → batches < length leaves → IsHead head batches (map leaf_hash leaves)
    → IsHeadOf head (take (batches + 1) leaves)
first_head head batches leaves less is = record {
  count = omega (arith, is.count, length-take-le (batches + 1) leaves (omega arith));
  root = is.root ∙ ap tree_hash (take-map leaf_hash (batches + 1) leaves);
}
