-- One level up, past a sibling to the left or to the right.
use Rattle.std.proofs.Common.{◌≡◌, ℕ, ◌+◌, ◌-◌, ◌*◌, ◌/◌, ◌%◌, ◌^◌, ◌<◌, ◌≤◌, cond, List, [], ◌∷◌, ◌++◌, length, take, drop, get_or}
use Rattle.std.proofs.Common.{Option, Some, None, refl, sym, ap, subst, ◌∙◌, ⊎_elim, add-one, arith}
use Rattle.std.proofs.lemmas.List.{drop_all}
use Rattle.std.proofs.lemmas.Bool.{cases_eq}
use Rattle.std.proofs.Math.Nat.{two-pow-succ}
use Rattle.std.proofs.Math.Seq.{take-nil}
use Rattle.head_tree.specs.Growing.{IsRootOf}
use Rattle.head_tree.specs.Climbing.{CanFinish, Reaches, ReachesAt, Rises, end_of, left_of, listed}
use Rattle.head_tree.specs.declared.climb.Climb.{Climb}
use Rattle.head_tree.proofs.Growth.{double, even-rest, is_even, is_odd, odd-rest}
use Rattle.head_tree.proofs.Climbs.{left_up, low_level, right_up}

-- a factor of a product isn't larger
pub times_more : (k count size product : ℕ) → count ≡ k + 1 → count * size ≡ product → size ≤ product
times_more k count size product one is =
    let terms : count * size ≡ (k + 1) * size = ap (λ z. z * size) one in omega (arith, terms)

pub twice_power : (d : ℕ) → 2 ^ (d + 1) ≡ 2 ^ d * 2
twice_power d = ap (λ z. 2 ^ z) (add-one d) ∙ (omega (arith, two-pow-succ d))

-- the level and the size are small while subtrees stand before
pub record IsLow (climb : Climb) (peaks : List (List ℕ)) : Type 0 where
  pub size : climb.size ≤ 2 ^ 32
  pub level : climb.level ≤ 32
  pub inside : climb.level < 33

pub low : (climb : Climb) (peaks : List (List ℕ)) (first : ℕ) (leaves : List (List ℕ)) → 0 < climb.before → first ≤ 2 ^ 32 → Reaches climb peaks first leaves
    → IsLow climb peaks
low climb peaks first leaves some few reaches =
    let less : 2 ^ climb.level ≤ climb.before * 2 ^ climb.level =
    times_more (climb.before - 1) climb.before (2 ^ climb.level) (climb.before * 2 ^ climb.level) (omega arith) refl in
    let small : 2 ^ climb.level ≤ 2 ^ 32 = omega (arith, reaches.part.some) in
    let within = low_level climb.level small in
    record { size = omega (arith, reaches.size); level = omega arith; inside = within }

end_left : (d i : ℕ) → i % 2 ≡ 1 → i / 2 * 2 ^ (d + 1) + 2 ^ (d + 1) ≡ i * 2 ^ d + 2 ^ d
end_left d i odd =
    let half = i / 2 in
    let count_is : i ≡ 2 * half + 1 = omega arith in
    let long = odd-rest i half (2 ^ d) (i * 2 ^ d) count_is refl in
    let twice = twice_power d in
    let power = double half (2 ^ d) (2 ^ (d + 1)) (omega (arith, twice)) in
    omega arith

end_right : (d i : ℕ) → i % 2 ≡ 0 → i / 2 * 2 ^ (d + 1) + 2 ^ (d + 1) ≡ i * 2 ^ d + 2 ^ d + 2 ^ d
end_right d i even =
    let half = i / 2 in
    let count_is : i ≡ 2 * half = omega arith in
    let long = even-rest i half (2 ^ d) (i * 2 ^ d) count_is refl in
    let twice = twice_power d in
    let power = double half (2 ^ d) (2 ^ (d + 1)) (omega (arith, twice)) in
    omega arith

-- what a climb has reached, told by its fields
reached : (old new : Climb) (peaks : List (List ℕ)) (first : ℕ) (leaves : List (List ℕ)) (sibling : Option (List ℕ)) → old.size ≡ 2 ^ old.level
    → Rises old new sibling → ReachesAt (old.level + 1) (old.before / 2) (old.proof.items ++ listed sibling) peaks first leaves
    → Reaches new peaks first leaves
reached old new peaks first leaves sibling size rises part = record {
  size = rises.size ∙ ap (λ z. z * 2) size ∙ sym (twice_power old.level) ∙ ap (λ z. 2 ^ z) (sym rises.level);
  room = rises.room;
  part = subst (λ h. ReachesAt new.level new.before h peaks first leaves) (sym rises.proof)
      (subst (λ i. ReachesAt new.level i (old.proof.items ++ listed sibling) peaks first leaves) (sym rises.before)
      (subst (λ d. ReachesAt d (old.before / 2) (old.proof.items ++ listed sibling) peaks first leaves) (sym rises.level) part));
}

-- where a subtree ends that is as large
ends : (old new : Climb) (sibling : Option (List ℕ)) → Rises old new sibling → end_of new ≡ old.before / 2 * 2 ^ (old.level + 1) + 2 ^ (old.level + 1)
ends old new sibling rises =
    ap (λ d. new.before * 2 ^ d + 2 ^ d) rises.level ∙ ap (λ i. i * 2 ^ (old.level + 1) + 2 ^ (old.level + 1)) rises.before

-- past a sibling to the left
pub record RoseLeft (old new : Climb) (peaks : List (List ℕ)) (first : ℕ) (leaves : List (List ℕ)) : Type 0 where
  pub reaches : Reaches new peaks first leaves
  pub end : end_of new ≡ end_of old

pub rose_left : (old new : Climb) (peaks : List (List ℕ)) (first : ℕ) (leaves : List (List ℕ)) (peak : List ℕ) → old.before % 2 ≡ 1 → first < length leaves
    → peak ≡ get_or peaks old.level [] → Rises old new (Some peak) → Reaches old peaks first leaves → RoseLeft old new peaks first leaves
unfolding listed
rose_left old new peaks first leaves peak odd more is rises reaches =
    let part : ReachesAt (old.level + 1) (old.before / 2) (old.proof.items ++ listed (Some peak)) peaks first leaves =
    subst (λ h. ReachesAt (old.level + 1) (old.before / 2) (old.proof.items ++ h ∷ []) peaks first leaves) (sym is)
    (left_up old.level old.before first old.proof.items peaks leaves odd more reaches.part) in
    record {
      reaches = reached old new peaks first leaves (Some peak) reaches.size rises part;
      end = ends old new (Some peak) rises ∙ end_left old.level old.before odd;
    }

-- past a sibling to the right, or past none
pub record RoseRight (old new : Climb) (peaks : List (List ℕ)) (first : ℕ) (leaves : List (List ℕ)) : Type 0 where
  pub reaches : Reaches new peaks first leaves
  pub end : end_of new ≡ end_of old + 2 ^ old.level

pub rose_right : (old new : Climb) (peaks : List (List ℕ)) (first : ℕ) (leaves : List (List ℕ)) (right : Option (List ℕ)) → old.before % 2 ≡ 0
    → first < length leaves → IsRootOf right (take (2 ^ old.level) (drop (end_of old) leaves)) → Rises old new right → Reaches old peaks first leaves
    → RoseRight old new peaks first leaves
rose_right old new peaks first leaves right even more is rises reaches = record {
  reaches = reached old new peaks first leaves right reaches.size rises
      (right_up old.level old.before first old.proof.items peaks leaves right even more is reaches.part);
  end = ends old new right rises ∙ end_right old.level old.before even;
}

take_nothing : (n : ℕ) (xs : List (List ℕ)) → xs ≡ [] → take n xs ≡ []
take_nothing n xs none = ap (take n) none ∙ take-nil n

pub left-odd : (climb : Climb) (peaks : List (List ℕ)) → climb.before % 2 ≡ 1 → left_of climb peaks ≡ Some (get_or peaks climb.level [])
unfolding left_of
left-odd climb peaks odd = ap (λ b. cond b (Some (get_or peaks climb.level [])) None) (is_odd climb.before odd)

pub left-even : (climb : Climb) (peaks : List (List ℕ)) → climb.before % 2 ≡ 0 → left_of climb peaks ≡ None
unfolding left_of
left-even climb peaks even = ap (λ b. cond b (Some (get_or peaks climb.level [])) None) (is_even climb.before even)

-- a level up, where no leaf stands behind
pub can_finish : (old new : Climb) (peaks : List (List ℕ)) (first : ℕ) (leaves : List (List ℕ)) → Rises old new (left_of old peaks)
    → CanFinish old peaks first leaves → CanFinish new peaks first leaves
can_finish old new peaks first leaves rises can = ⊎_elim
    (λ (odd : old.before % 2 ≡ 1).
    let up = rose_left old new peaks first leaves (get_or peaks old.level []) odd can.more refl
    (subst (Rises old new) (left-odd old peaks odd) rises) can.reaches in
    record { reaches = up.reaches; more = can.more; few = can.few; all = omega (arith, up.end, can.all) })
    (λ (other : old.before % 2 ≡ 1 → ⊥).
    let even : old.before % 2 ≡ 0 = omega arith in
    let nothing : take (2 ^ old.level) (drop (end_of old) leaves) ≡ [] =
    take_nothing (2 ^ old.level) (drop (end_of old) leaves) (drop_all (end_of old) leaves can.all) in
    let up = rose_right old new peaks first leaves None even can.more nothing (subst (Rises old new) (left-even old peaks even) rises) can.reaches in
    record { reaches = up.reaches; more = can.more; few = can.few; all = omega (arith, up.end, can.all) })
    (cases_eq (old.before % 2) 1)
