-- The proof that a tree gives leads to both roots.
use Rattle.std.proofs.Common.{◌≡◌, ℕ, zero, suc, ◌+◌, ◌-◌, ◌^◌, ◌<◌, ◌≤◌, Bool, true, false, List, [], ◌∷◌, ◌++◌, length, take, drop}
use Rattle.std.proofs.Common.{Option, Some, None, option_map, refl, sym, ap, ◌∙◌, ⊎_elim, arith}
use Rattle.std.proofs.lemmas.Bool.{false≢true, cases_lt}
use Rattle.std.proofs.lemmas.List.{take-take, drop-take, take_all, length-take-le, length-drop, length_push}
use Rattle.std.proofs.lemmas.Option.{same_Some}
use Rattle.std.proofs.Math.Nat.{two-pow-succ}
use Rattle.head_tree.specs.Hashing.{node_hash, root_at, tree_hash}
use Rattle.head_tree.specs.Proving.{own_root, proof_at, part_proof, tree_proof}
use Rattle.head_tree.specs.Checking.{Roots, same_roots, settled, with_left, with_right, last_of, front_of, shown, roots_at, proof_check, IsAccepted}
use Rattle.head_tree.specs.Heads.{IsHead}
use Rattle.head_tree.specs.declared.head.Head.{Head}
use Rattle.head_tree.proofs.Depths.{fits}
use Rattle.head_tree.proofs.Trees.{root_at-any, root_at-deeper, root_at-split}
use Rattle.head_tree.proofs.Proofs.{proof_at-all, proof_at-within, proof_at-left, proof_at-right}
use Rattle.head_tree.proofs.Checks.{roots_at-same, roots_at-within, roots_at-left, roots_at-right, last_of-push, front_of-push}

-- the check leads from the older root to both
pub record Leads (d m : ℕ) (root : List ℕ) (leaves : List (List ℕ)) (whole : Bool) : Type 0 where
  pub roots : Roots
  pub led : roots_at d root m (length leaves) (proof_at d m leaves whole) whole ≡ Some roots
  pub old : roots.old ≡ root_at d (take m leaves)
  pub new : roots.new ≡ root_at d leaves

settled-own : (root hash : List ℕ) (whole : Bool) → (whole ≡ true → root ≡ hash)
    → (roots : Roots) × (settled root (own_root whole hash) whole ≡ Some roots) × (roots.old ≡ hash) × (roots.new ≡ hash)
unfolding settled own_root same_roots
settled-own root hash true told = (same_roots root, refl, told refl, told refl)
settled-own root hash false told = (same_roots hash, refl, refl, refl)

left-old : (hash : List ℕ) (roots : Roots) → (with_left hash roots).old ≡ node_hash hash roots.old
unfolding with_left
left-old hash roots = refl

left-new : (hash : List ℕ) (roots : Roots) → (with_left hash roots).new ≡ node_hash hash roots.new
unfolding with_left
left-new hash roots = refl

right-old : (hash : List ℕ) (roots : Roots) → (with_right hash roots).old ≡ roots.old
unfolding with_right
right-old hash roots = refl

right-new : (hash : List ℕ) (roots : Roots) → (with_right hash roots).new ≡ node_hash roots.new hash
unfolding with_right
right-new hash roots = refl

leads_whole : (d m : ℕ) (root : List ℕ) (leaves : List (List ℕ)) (whole : Bool) → m ≡ length leaves → (whole ≡ true → root ≡ root_at d (take m leaves))
    → Leads d m root leaves whole
leads_whole d m root leaves whole one told =
    let all : take m leaves ≡ leaves = take_all m leaves (omega arith) in
    let own = settled-own root (root_at d leaves) whole (λ w. told w ∙ ap (root_at d) all) in
    let part : proof_at d m leaves whole ≡ own_root whole (root_at d leaves) = rw one (proof_at-all d leaves whole) in
    let step : roots_at d root m (length leaves) (proof_at d m leaves whole) whole ≡ settled root (own_root whole (root_at d leaves)) whole
    = rw (part, one) (roots_at-same d (length leaves) root (own_root whole (root_at d leaves)) whole) in
    record {
      roots = own.0;
      led = step ∙ own.1;
      old = own.2 ∙ ap (root_at d) (sym all);
      new = own.3;
    }

pub leads : (d m : ℕ) (root : List ℕ) (leaves : List (List ℕ)) (whole : Bool) → 0 < m → m ≤ length leaves → length leaves ≤ 2 ^ d
    → (whole ≡ true → root ≡ root_at d (take m leaves)) → Leads d m root leaves whole
leads zero m root leaves whole some order fit told =
    let one : m ≡ length leaves = omega arith in
    leads_whole zero m root leaves whole one told
leads (suc d) m root leaves whole some order fit told = ⊎_elim
    (λ (less : m < length leaves). ⊎_elim
    (λ (over : 2 ^ d < length leaves). ⊎_elim
    (λ (past : 2 ^ d < m).
    let right = drop (2 ^ d) leaves in
    let hash = root_at d (take (2 ^ d) leaves) in
    let count : length right ≡ length leaves - 2 ^ d = length-drop (2 ^ d) leaves in
    let part = proof_at d (m - 2 ^ d) right false in
    let within : m - 2 ^ d ≤ length right = omega arith in
    let positive : 0 < m - 2 ^ d = omega arith in
    let room : length right ≤ 2 ^ d = omega (arith, two-pow-succ d) in
    let inner = leads d (m - 2 ^ d) root right false positive within room (λ w. absurd (false≢true w)) in
    let has_last : 0 < length (part ++ hash ∷ []) = omega (arith, length_push part hash) in
    let front : length (take m leaves) ≡ m = length-take-le m leaves order in
    let over_front : 2 ^ d < length (take m leaves) = omega arith in
    let cut : take (2 ^ d) (take m leaves) ≡ take (2 ^ d) leaves = take-take (2 ^ d) m leaves (omega arith) in
    let sum : 2 ^ d + (m - 2 ^ d) ≡ m = omega arith in
    let rest : drop (2 ^ d) (take m leaves) ≡ take (m - 2 ^ d) right
    = sym (ap (λ i. drop (2 ^ d) (take i leaves)) sum) ∙ drop-take (2 ^ d) (m - 2 ^ d) leaves in
    let cut_off : option_map (with_left (last_of (part ++ hash ∷ []))) (roots_at d root (m - 2 ^ d) (length leaves - 2 ^ d) (front_of (part ++ hash ∷ [])) false)
    ≡ option_map (with_left hash) (roots_at d root (m - 2 ^ d) (length leaves - 2 ^ d) part false)
    = rw (last_of-push part hash, front_of-push part hash) refl in
    let step : roots_at (suc d) root m (length leaves) (proof_at (suc d) m leaves whole) whole
    ≡ option_map (with_left hash) (roots_at d root (m - 2 ^ d) (length right) part false)
    = ap (λ p. roots_at (suc d) root m (length leaves) p whole) (proof_at-right d m leaves whole past less)
    ∙ roots_at-right d m (length leaves) root (part ++ hash ∷ []) whole has_last past less
    ∙ cut_off ∙ ap (λ i. option_map (with_left hash) (roots_at d root (m - 2 ^ d) i part false)) (sym count) in
    let older : root_at (suc d) (take m leaves) ≡ node_hash hash (root_at d (take (m - 2 ^ d) right))
    = root_at-split d (take m leaves) over_front ∙ rw (cut, rest) refl in
    record {
      roots = with_left hash inner.roots;
      led = step ∙ ap (option_map (with_left hash)) inner.led;
      old = left-old hash inner.roots ∙ ap (node_hash hash) inner.old ∙ sym older;
      new = left-new hash inner.roots ∙ ap (node_hash hash) inner.new ∙ sym (root_at-split d leaves over);
    })
    (λ (short : m ≤ 2 ^ d).
    let left = take (2 ^ d) leaves in
    let hash = root_at d (drop (2 ^ d) leaves) in
    let count : length left ≡ 2 ^ d = length-take-le (2 ^ d) leaves (omega arith) in
    let part = proof_at d m left whole in
    let within : m ≤ length left = omega arith in
    let room : length left ≤ 2 ^ d = omega arith in
    let front : length (take m leaves) ≡ m = length-take-le m leaves order in
    let few : length (take m leaves) ≤ 2 ^ d = omega arith in
    let cut : take m left ≡ take m leaves = take-take m (2 ^ d) leaves short in
    let inner = leads d m root left whole some within room
    (λ w. told w ∙ root_at-deeper (take m leaves) d few ∙ ap (root_at d) (sym cut)) in
    let has_last : 0 < length (part ++ hash ∷ []) = omega (arith, length_push part hash) in
    let cut_off : option_map (with_right (last_of (part ++ hash ∷ []))) (roots_at d root m (2 ^ d) (front_of (part ++ hash ∷ [])) whole)
    ≡ option_map (with_right hash) (roots_at d root m (2 ^ d) part whole)
    = rw (last_of-push part hash, front_of-push part hash) refl in
    let step : roots_at (suc d) root m (length leaves) (proof_at (suc d) m leaves whole) whole
    ≡ option_map (with_right hash) (roots_at d root m (length left) part whole)
    = ap (λ p. roots_at (suc d) root m (length leaves) p whole) (proof_at-left d m leaves whole short over)
    ∙ roots_at-left d m (length leaves) root (part ++ hash ∷ []) whole has_last short over
    ∙ cut_off ∙ ap (λ i. option_map (with_right hash) (roots_at d root m i part whole)) (sym count) in
    record {
      roots = with_right hash inner.roots;
      led = step ∙ ap (option_map (with_right hash)) inner.led;
      old = right-old hash inner.roots ∙ inner.old ∙ ap (root_at d) cut ∙ sym (root_at-deeper (take m leaves) d few);
      new = right-new hash inner.roots ∙ ap (λ h. node_hash h hash) inner.new ∙ sym (root_at-split d leaves over);
    })
    (cases_lt (2 ^ d) m))
    (λ (room : length leaves ≤ 2 ^ d).
    let front : length (take m leaves) ≡ m = length-take-le m leaves order in
    let few : length (take m leaves) ≤ 2 ^ d = omega arith in
    let inner = leads d m root leaves whole some order room (λ w. told w ∙ root_at-deeper (take m leaves) d few) in
    record {
      roots = inner.roots;
      led = ap (λ p. roots_at (suc d) root m (length leaves) p whole) (proof_at-within d m leaves whole less room)
          ∙ roots_at-within d m (length leaves) root (proof_at d m leaves whole) whole less room ∙ inner.led;
      old = inner.old ∙ sym (root_at-deeper (take m leaves) d few);
      new = inner.new ∙ sym (root_at-deeper leaves d room);
    })
    (cases_lt (2 ^ d) (length leaves)))
    (λ (more : length leaves ≤ m). let one : m ≡ length leaves = omega arith in
    leads_whole (suc d) m root leaves whole one told)
    (cases_lt m (length leaves))

-- what a tree proves is accepted, from the head over its first batches to the head over all
pub accepts : (old new : Head) (batches : ℕ) (leaves : List (List ℕ)) → batches < length leaves → IsHead old batches leaves
    → IsHead new (length leaves - 1) leaves → IsAccepted old new (tree_proof (batches + 1) leaves)
unfolding tree_proof part_proof proof_check
accepts old new batches leaves less is_old is_new =
    let m = batches + 1 in
    let n = length leaves in
    let fit : n ≤ 2 ^ n = fits n in
    let order : m ≤ n = omega arith in
    let some : 0 < m = omega arith in
    let front : length (take m leaves) ≡ m = length-take-le m leaves order in
    let few : length (take m leaves) ≤ 2 ^ n = omega arith in
    let last : new.batches + 1 ≡ n = omega (arith, is_new.count) in
    let first : old.batches + 1 ≡ m = omega (arith, is_old.count) in
    let whole : take (length leaves - 1 + 1) leaves ≡ leaves = take_all (length leaves - 1 + 1) leaves (omega arith) in
    let counts : roots_at (new.batches + 1) old.root (old.batches + 1) (new.batches + 1) (proof_at n m leaves true) true
    ≡ roots_at n old.root m n (proof_at n m leaves true) true = rw (first, last) refl in
    let made = leads n m old.root leaves true some order fit (λ w. is_old.root ∙ sym (root_at-any n (take m leaves) few)) in
    record {
      order = omega (arith, is_old.count, is_new.count);
      roots = made.roots;
      leads = counts ∙ made.led;
      to_old = made.old ∙ root_at-any n (take m leaves) few ∙ sym is_old.root;
      to_new = made.new ∙ root_at-any n leaves fit ∙ ap tree_hash (sym whole) ∙ sym is_new.root;
    }

from_shown : (o : Option Roots) (older newer : List ℕ) → option_map shown o ≡ Some (older, newer)
    → (roots : Roots) × (o ≡ Some roots) × (roots.old ≡ older) × (roots.new ≡ newer)
from_shown None older newer e = cc
from_shown (Some roots) older newer e =
    let pair = same_Some (roots.old, roots.new) (older, newer) e in
    (roots, refl, ap (λ (p : List ℕ × List ℕ). p.0) pair, ap (λ (p : List ℕ × List ℕ). p.1) pair)

-- the proof is accepted where the two roots that it leads to are the heads'
pub accepted_from : (old new : Head) (proof : List (List ℕ)) (older newer : List ℕ) → old.batches ≤ new.batches
    → option_map shown (proof_check old.root (old.batches + 1) (new.batches + 1) proof true) ≡ Some (older, newer)
    → older ≡ old.root → newer ≡ new.root → IsAccepted old new proof
accepted_from old new proof older newer order led to_old to_new =
    let found = from_shown (proof_check old.root (old.batches + 1) (new.batches + 1) proof true) older newer led in
    record { order = order; roots = found.0; leads = found.1; to_old = found.2 ∙ to_old; to_new = found.3 ∙ to_new }
