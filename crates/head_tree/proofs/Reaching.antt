-- Where a proof leads to the newer log's root it leads to the root over that log's first leaves, or two texts collide.
use Rattle.std.proofs.Common.{◌≡◌, ◌⊎◌, ℕ, zero, suc, ◌+◌, ◌-◌, ◌^◌, ◌<◌, ◌≤◌, Bool, true, false, List, [], ◌∷◌, ◌++◌, length, take, drop}
use Rattle.std.proofs.Common.{Option, Some, None, option_map, refl, sym, ap, subst, ◌∙◌, inl, inr, ⊎_elim, arith}
use Rattle.std.proofs.lemmas.Bool.{cases_lt}
use Rattle.std.proofs.lemmas.List.{take-take, drop-take, take_all, length-take-le, length-drop}
use Rattle.std.proofs.lemmas.List.Elements.{All-take, All-drop}
use Rattle.std.proofs.lemmas.Option.{same_Some}
use Rattle.std.proofs.lemmas.Nat.{pow_pos}
use Rattle.std.proofs.Math.Nat.{two-pow-succ}
use Rattle.cry_base.specs.Sets.{In}
use Rattle.head_tree.specs.Hashing.{AreHashes, node_hash, node_text, node_texts_at, root_at}
use Rattle.head_tree.specs.Checking.{Roots, same_roots, settled, with_left, with_right, last_of, front_of, roots_at}
use Rattle.head_tree.specs.Heads.{Collision}
use Rattle.head_tree.proofs.Depths.{are_apart}
use Rattle.head_tree.proofs.Trees.{root_at-deeper, root_at-split}
use Rattle.head_tree.proofs.Checks.{roots_at-same, roots_at-within, roots_at-lacking, roots_at-left, roots_at-right}
use Rattle.head_tree.proofs.Sizes.{node_hash-size, root_at-size}
use Rattle.head_tree.proofs.Collisions.{Within, to_left, to_right, both_within, wider, same_nodes, node_texts-split, node_texts-deeper}
use Rattle.head_tree.proofs.Collisions.{within_left, within_right, top_within}

-- what the proof is asked about: the first m of n leaves, with these hashes
pub record Asked (d m n : ℕ) (root : List ℕ) (proof hashes : List (List ℕ)) : Type 0 where
  pub some : 0 < m
  pub order : m ≤ n
  pub count : length hashes ≡ n
  pub fit : n ≤ 2 ^ d
  pub leaves : AreHashes hashes
  pub parts : AreHashes proof
  pub root_size : length root ≡ 32

-- the older root is that of the first m leaves, and their node texts are among those hashed
pub record Reached (d m : ℕ) (hashes : List (List ℕ)) (roots : Roots) : Type 0 where
  pub same : roots.old ≡ root_at d (take m hashes)
  pub within : Within (node_texts_at d (take m hashes)) (node_texts_at d hashes ++ roots.texts)

roots_at-one : (d m n : ℕ) (root : List ℕ) (proof : List (List ℕ)) (whole : Bool) → m ≡ n → roots_at d root m n proof whole ≡ settled root proof whole
roots_at-one d m n root proof whole one = rw one (roots_at-same d n root proof whole)

roots_at-none : (m n : ℕ) (root : List ℕ) (proof : List (List ℕ)) (whole : Bool) → m < n → roots_at zero root m n proof whole ≡ None
unfolding roots_at
roots_at-none m n root proof whole less = rw (are_apart m n less, roots_at) refl

from_map : (f : Roots → Roots) (o : Option Roots) (v : Roots) → option_map f o ≡ Some v → (w : Roots) × (o ≡ Some w) × (f w ≡ v)
from_map f None v e = cc
from_map f (Some w) v e = (w, refl, same_Some (f w) v e)

settled-one : (root : List ℕ) (proof : List (List ℕ)) (whole : Bool) (v : Roots) → settled root proof whole ≡ Some v → v.old ≡ v.new
unfolding settled same_roots
settled-one root [] true v e = let s = same_Some _ _ e in sym (ap (λ (r : Roots). r.old) s) ∙ ap (λ (r : Roots). r.new) s
settled-one root [] false v e = cc
settled-one root (h ∷ []) true v e = cc
settled-one root (h ∷ []) false v e = let s = same_Some _ _ e in sym (ap (λ (r : Roots). r.old) s) ∙ ap (λ (r : Roots). r.new) s
settled-one root (h ∷ (g ∷ proof)) true v e = cc
settled-one root (h ∷ (g ∷ proof)) false v e = cc

settled-size : (root : List ℕ) (proof : List (List ℕ)) (whole : Bool) (v : Roots) → length root ≡ 32 → AreHashes proof
    → settled root proof whole ≡ Some v → length v.new ≡ 32
unfolding settled same_roots
settled-size root [] true v size parts e = subst (λ (r : Roots). length r.new ≡ 32) (same_Some _ _ e) size
settled-size root [] false v size parts e = cc
settled-size root (h ∷ []) true v size parts e = cc
settled-size root (h ∷ []) false v size parts e =
    let first : length h ≡ 32 = parts 0 [] (omega arith) in
    subst (λ (r : Roots). length r.new ≡ 32) (same_Some _ _ e) first
settled-size root (h ∷ (g ∷ proof)) true v size parts e = cc
settled-size root (h ∷ (g ∷ proof)) false v size parts e = cc

right-size : (hash : List ℕ) (w : Roots) → length (with_right hash w).new ≡ 32
unfolding with_right
right-size hash w = node_hash-size w.new hash

left-size : (hash : List ℕ) (w : Roots) → length (with_left hash w).new ≡ 32
unfolding with_left
left-size hash w = node_hash-size hash w.new

-- the newer root has the length of a hash
roots_at-size : (d m n : ℕ) (root : List ℕ) (proof : List (List ℕ)) (whole : Bool) (v : Roots) → m ≤ n → length root ≡ 32 → AreHashes proof
    → roots_at d root m n proof whole ≡ Some v → length v.new ≡ 32
roots_at-size zero m n root proof whole v order size parts e = ⊎_elim
    (λ (less : m < n). let none = roots_at-none m n root proof whole less in cc (none, e))
    (λ (more : n ≤ m). let one : m ≡ n = omega arith in
    settled-size root proof whole v size parts (sym (roots_at-one zero m n root proof whole one) ∙ e))
    (cases_lt m n)
roots_at-size (suc d) m n root proof whole v order size parts e = ⊎_elim
    (λ (less : m < n). ⊎_elim
    (λ (over : 2 ^ d < n). ⊎_elim
    (λ (some : 0 < length proof). ⊎_elim
    (λ (right : 2 ^ d < m).
    let made = from_map _ _ v (sym (roots_at-right d m n root proof whole some right less) ∙ e) in
    subst (λ (r : Roots). length r.new ≡ 32) made.2 (left-size (last_of proof) made.0))
    (λ (left : m ≤ 2 ^ d).
    let made = from_map _ _ v (sym (roots_at-left d m n root proof whole some left over) ∙ e) in
    subst (λ (r : Roots). length r.new ≡ 32) made.2 (right-size (last_of proof) made.0))
    (cases_lt (2 ^ d) m))
    (λ (none : length proof ≤ 0).
    let empty : length proof ≡ 0 = omega arith in
    let lacks = roots_at-lacking (suc d) m n root proof whole less empty in cc (lacks, e))
    (cases_lt 0 (length proof)))
    (λ (fit : n ≤ 2 ^ d).
    roots_at-size d m n root proof whole v order size parts (sym (roots_at-within d m n root proof whole less fit) ∙ e))
    (cases_lt (2 ^ d) n))
    (λ (more : n ≤ m). let one : m ≡ n = omega arith in
    settled-size root proof whole v size parts (sym (roots_at-one (suc d) m n root proof whole one) ∙ e))
    (cases_lt m n)

reaches_whole : (d m n : ℕ) (root : List ℕ) (proof hashes : List (List ℕ)) (whole : Bool) (v : Roots) → m ≡ n → length hashes ≡ n
    → roots_at d root m n proof whole ≡ Some v → v.new ≡ root_at d hashes → Reached d m hashes v
reaches_whole d m n root proof hashes whole v one count e new =
    let all : take m hashes ≡ hashes = take_all m hashes (omega arith) in
    let equal = settled-one root proof whole v (sym (roots_at-one d m n root proof whole one) ∙ e) in
    record {
      same = rw all (equal ∙ new);
      within = λ text i. to_left (node_texts_at d hashes) v.texts text (subst (λ l. In text (node_texts_at d l)) all i);
    }

-- a hash stands to the right of what was reached in the left half
reaches_left : (d m : ℕ) (hash : List ℕ) (hashes : List (List ℕ)) (w : Roots) → m ≤ 2 ^ d → 2 ^ d < length hashes → length hashes ≤ 2 ^ suc d
    → AreHashes hashes → length w.new ≡ 32
    → (w.new ≡ root_at d (take (2 ^ d) hashes) → Reached d m (take (2 ^ d) hashes) w ⊎ Collision (node_texts_at d (take (2 ^ d) hashes) ++ w.texts))
    → (with_right hash w).new ≡ root_at (suc d) hashes
    → Reached (suc d) m hashes (with_right hash w) ⊎ Collision (node_texts_at (suc d) hashes ++ (with_right hash w).texts)
unfolding with_right
reaches_left d m hash hashes w le over fit leaves size inner new =
    let half = take (2 ^ d) hashes in
    let all = node_texts_at (suc d) hashes ++ (node_text w.new hash ∷ w.texts) in
    let count : length half ≡ 2 ^ d = length-take-le (2 ^ d) hashes (omega arith) in
    let some : 0 < length half = omega (arith, pow_pos d) in
    let room : length half ≤ 2 ^ d = omega arith in
    let half_size = root_at-size d half some room (All-take (λ (h : List ℕ). length h ≡ 32) (2 ^ d) hashes leaves) in
    let incl : Within (node_texts_at d half ++ w.texts) all = both_within (node_texts_at d half) w.texts all
    (λ text i. to_left (node_texts_at (suc d) hashes) (node_text w.new hash ∷ w.texts) text (within_left d hashes over text i))
    (λ text i. to_right (node_texts_at (suc d) hashes) (node_text w.new hash ∷ w.texts) text (inr i)) in
    let cut : take m half ≡ take m hashes = take-take m (2 ^ d) hashes le in
    let length_front : length (take m hashes) ≡ m = length-take-le m hashes (omega arith) in
    let short : length (take m hashes) ≤ 2 ^ d = omega arith in
    ⊎_elim
    (λ (parts : (w.new ≡ root_at d half) × (hash ≡ root_at d (drop (2 ^ d) hashes))). ⊎_elim
    (λ (reached : Reached d m half w). inl (record {
      same = reached.same ∙ ap (root_at d) cut ∙ sym (root_at-deeper (take m hashes) d short);
      within = λ text i. incl text (reached.within text (subst (λ l. In text (node_texts_at d l)) (sym cut)
          (subst (λ t. In text t) (node_texts-deeper (take m hashes) d short) i)));
    }))
    (λ found. inr (wider (node_texts_at d half ++ w.texts) all incl found))
    (inner parts.0))
    (λ found. inr found)
    (same_nodes w.new hash (root_at d half) (root_at d (drop (2 ^ d) hashes)) all (size ∙ sym half_size)
    (to_right (node_texts_at (suc d) hashes) (node_text w.new hash ∷ w.texts) (node_text w.new hash) (inl refl))
    (to_left (node_texts_at (suc d) hashes) (node_text w.new hash ∷ w.texts) _ (top_within d hashes over))
    (new ∙ root_at-split d hashes over))

-- a hash stands to the left of what was reached in the right half
reaches_right : (d m : ℕ) (hash : List ℕ) (hashes : List (List ℕ)) (w : Roots) → 2 ^ d < m → m ≤ length hashes → length hashes ≤ 2 ^ suc d
    → AreHashes hashes → length hash ≡ 32
    → (w.new ≡ root_at d (drop (2 ^ d) hashes)
    → Reached d (m - 2 ^ d) (drop (2 ^ d) hashes) w ⊎ Collision (node_texts_at d (drop (2 ^ d) hashes) ++ w.texts))
    → (with_left hash w).new ≡ root_at (suc d) hashes
    → Reached (suc d) m hashes (with_left hash w) ⊎ Collision (node_texts_at (suc d) hashes ++ (with_left hash w).texts)
unfolding with_left
reaches_right d m hash hashes w past order fit leaves size inner new =
    let left = take (2 ^ d) hashes in
    let right = drop (2 ^ d) hashes in
    let own = node_text hash w.old ∷ (node_text hash w.new ∷ w.texts) in
    let all = node_texts_at (suc d) hashes ++ own in
    let over : 2 ^ d < length hashes = omega arith in
    let count : length left ≡ 2 ^ d = length-take-le (2 ^ d) hashes (omega arith) in
    let some : 0 < length left = omega (arith, pow_pos d) in
    let room : length left ≤ 2 ^ d = omega arith in
    let left_size = root_at-size d left some room (All-take (λ (h : List ℕ). length h ≡ 32) (2 ^ d) hashes leaves) in
    let incl : Within (node_texts_at d right ++ w.texts) all = both_within (node_texts_at d right) w.texts all
    (λ text i. to_left (node_texts_at (suc d) hashes) own text (within_right d hashes over text i))
    (λ text i. to_right (node_texts_at (suc d) hashes) own text (inr (inr i))) in
    let length_front : length (take m hashes) ≡ m = length-take-le m hashes order in
    let over_front : 2 ^ d < length (take m hashes) = omega arith in
    let cut : take (2 ^ d) (take m hashes) ≡ left = take-take (2 ^ d) m hashes (omega arith) in
    let whole : 2 ^ d + (m - 2 ^ d) ≡ m = omega arith in
    let rest : drop (2 ^ d) (take m hashes) ≡ take (m - 2 ^ d) right
    = sym (ap (λ i. drop (2 ^ d) (take i hashes)) whole) ∙ drop-take (2 ^ d) (m - 2 ^ d) hashes in
    ⊎_elim
    (λ (parts : (hash ≡ root_at d left) × (w.new ≡ root_at d right)). ⊎_elim
    (λ (reached : Reached d (m - 2 ^ d) right w).
    let roots : node_hash hash w.old ≡ node_hash (root_at d (take (2 ^ d) (take m hashes))) (root_at d (drop (2 ^ d) (take m hashes)))
    = rw (cut, rest, parts.0, reached.same) refl in
    let texts : node_texts_at (suc d) (take m hashes) ≡ node_text hash w.old ∷ (node_texts_at d left ++ node_texts_at d (take (m - 2 ^ d) right))
    = node_texts-split d (take m hashes) over_front ∙ rw (cut, rest, parts.0, reached.same) refl in
    let among : Within (node_texts_at d left ++ node_texts_at d (take (m - 2 ^ d) right)) all
    = both_within (node_texts_at d left) (node_texts_at d (take (m - 2 ^ d) right)) all
    (λ text i. to_left (node_texts_at (suc d) hashes) own text (within_left d hashes over text i))
    (λ text i. incl text (reached.within text i)) in
    inl (record {
      same = roots ∙ sym (root_at-split d (take m hashes) over_front);
      within = λ text i. ⊎_elim
          (λ (top : text ≡ node_text hash w.old). to_right (node_texts_at (suc d) hashes) own text (inl top))
          (λ j. among text j)
          (subst (λ t. In text t) texts i);
    }))
    (λ found. inr (wider (node_texts_at d right ++ w.texts) all incl found))
    (inner parts.1))
    (λ found. inr found)
    (same_nodes hash w.new (root_at d left) (root_at d right) all (size ∙ sym left_size)
    (to_right (node_texts_at (suc d) hashes) own (node_text hash w.new) (inr (inl refl)))
    (to_left (node_texts_at (suc d) hashes) own _ (top_within d hashes over))
    (new ∙ root_at-split d hashes over))

last-size : (proof : List (List ℕ)) → 0 < length proof → AreHashes proof → length (last_of proof) ≡ 32
unfolding last_of
last-size proof some parts = parts (length proof - 1) [] (omega arith)

front-sizes : (proof : List (List ℕ)) → AreHashes proof → AreHashes (front_of proof)
unfolding front_of
front-sizes proof parts = All-take (λ (h : List ℕ). length h ≡ 32) (length proof - 1) proof parts

pub reaches : (d m n : ℕ) (root : List ℕ) (proof hashes : List (List ℕ)) (whole : Bool) (v : Roots) → Asked d m n root proof hashes
    → roots_at d root m n proof whole ≡ Some v → v.new ≡ root_at d hashes
    → Reached d m hashes v ⊎ Collision (node_texts_at d hashes ++ v.texts)
reaches zero m n root proof hashes whole v asked e new =
    let one : m ≡ n = omega arith in
    inl (reaches_whole zero m n root proof hashes whole v one asked.count e new)
reaches (suc d) m n root proof hashes whole v asked e new = ⊎_elim
    (λ (less : m < n). ⊎_elim
    (λ (over : 2 ^ d < n). ⊎_elim
    (λ (some : 0 < length proof). ⊎_elim
    (λ (right : 2 ^ d < m).
    let made = from_map _ _ v (sym (roots_at-right d m n root proof whole some right less) ∙ e) in
    let within : m ≤ length hashes = omega arith in
    let room : length hashes ≤ 2 ^ suc d = omega arith in
    subst (λ (z : Roots). z.new ≡ root_at (suc d) hashes → Reached (suc d) m hashes z ⊎ Collision (node_texts_at (suc d) hashes ++ z.texts))
    made.2
    (reaches_right d m (last_of proof) hashes made.0 right within room asked.leaves (last-size proof some asked.parts)
    (reaches d (m - 2 ^ d) (n - 2 ^ d) root (front_of proof) (drop (2 ^ d) hashes) false made.0 (record {
      some = omega arith;
      order = omega arith;
      count = omega (arith, length-drop (2 ^ d) hashes);
      fit = omega (arith, two-pow-succ d);
      leaves = All-drop (λ (h : List ℕ). length h ≡ 32) (2 ^ d) hashes asked.leaves;
      parts = front-sizes proof asked.parts;
      root_size = asked.root_size;
    }) made.1))
    new)
    (λ (left : m ≤ 2 ^ d).
    let made = from_map _ _ v (sym (roots_at-left d m n root proof whole some left over) ∙ e) in
    let more : 2 ^ d < length hashes = omega arith in
    let room : length hashes ≤ 2 ^ suc d = omega arith in
    let size = roots_at-size d m (2 ^ d) root (front_of proof) whole made.0 left asked.root_size (front-sizes proof asked.parts) made.1 in
    subst (λ (z : Roots). z.new ≡ root_at (suc d) hashes → Reached (suc d) m hashes z ⊎ Collision (node_texts_at (suc d) hashes ++ z.texts))
    made.2
    (reaches_left d m (last_of proof) hashes made.0 left more room asked.leaves size
    (reaches d m (2 ^ d) root (front_of proof) (take (2 ^ d) hashes) whole made.0 (record {
      some = asked.some;
      order = left;
      count = length-take-le (2 ^ d) hashes (omega arith);
      fit = omega arith;
      leaves = All-take (λ (h : List ℕ). length h ≡ 32) (2 ^ d) hashes asked.leaves;
      parts = front-sizes proof asked.parts;
      root_size = asked.root_size;
    }) made.1))
    new)
    (cases_lt (2 ^ d) m))
    (λ (none : length proof ≤ 0).
    let empty : length proof ≡ 0 = omega arith in
    let lacks = roots_at-lacking (suc d) m n root proof whole less empty in cc (lacks, e))
    (cases_lt 0 (length proof)))
    (λ (fit : n ≤ 2 ^ d).
    let room : length hashes ≤ 2 ^ d = omega arith in
    let front : length (take m hashes) ≡ m = length-take-le m hashes (omega arith) in
    let short : length (take m hashes) ≤ 2 ^ d = omega arith in
    let told = reaches d m n root proof hashes whole v (record {
      some = asked.some;
      order = asked.order;
      count = asked.count;
      fit = fit;
      leaves = asked.leaves;
      parts = asked.parts;
      root_size = asked.root_size;
    }) (sym (roots_at-within d m n root proof whole less fit) ∙ e) (new ∙ root_at-deeper hashes d room) in
    ⊎_elim
    (λ (reached : Reached d m hashes v). inl (record {
      same = reached.same ∙ sym (root_at-deeper (take m hashes) d short);
      within = rw (node_texts-deeper (take m hashes) d short, node_texts-deeper hashes d room) reached.within;
    }))
    (λ found. inr (rw (node_texts-deeper hashes d room) found))
    told)
    (cases_lt (2 ^ d) n))
    (λ (more : n ≤ m). let one : m ≡ n = omega arith in
    inl (reaches_whole (suc d) m n root proof hashes whole v one asked.count e new))
    (cases_lt m n)
