-- Where a role stands in an ascending list, and what it changes to put it there or to take it out.
use Rattle.std.proofs.Common.{◌≡◌, ℕ, zero, suc, ◌≤◌, ◌<◌, true, false, List, [], ◌∷◌, length, get_or, inl, inr, ⊎_elim, refl, sym, ap, ◌∙◌, subst, arith}
use Rattle.std.proofs.lemmas.Bool.{false≢true}
use Rattle.std.specs.List.{insert, remove}
use Rattle.std.specs.List.Sorted.{IsPartitionedBy}
use Rattle.cry_base.specs.Sets.{In, has}
use Rattle.cry_base.specs.declared.roles.Role.{Role}
use Rattle.cry_base.specs.declared.roles.Role.TheVariants.{Owner}
use Rattle.role_graph.specs.Roles.{same_role, role_before}
use Rattle.role_graph.specs.Ascending.{IsAscending, with_role, without_role}
use Rattle.role_graph.proofs.Comparing.{same_role_tells}
use Rattle.role_graph.proofs.Rising.{Before, other_than, before_on, one_before, before_other, after_other, others_lack, others_stay, get_or-In}

-- all roles below the index stand before the role, and none from it on
pub record IsPlace (r : Role) (xs : List Role) (i : ℕ) : Type 0 where
  pub within : i ≤ length xs
  pub below : (k : ℕ) (d : Role) → k < i → role_before (get_or xs k d) r ≡ true
  pub above : (k : ℕ) (d : Role) → i ≤ k → k < length xs → role_before (get_or xs k d) r ≡ false

-- the place among the later roles
later : (r x : Role) (xs : List Role) (i : ℕ) → IsPlace r (x ∷ xs) (suc i) → IsPlace r xs i
later r x xs i w = record {
  within = let h : suc i ≤ suc (length xs) = w.within in omega arith;
  below = λ k d p. w.below (suc k) d (omega arith);
  above = λ k d p q. w.above (suc k) d (omega arith) (omega arith);
}

first_below : (r x : Role) (xs : List Role) (i : ℕ) → IsPlace r (x ∷ xs) (suc i) → role_before x r ≡ true
first_below r x xs i w = w.below 0 x (omega arith)

first_above : (r x : Role) (xs : List Role) → IsPlace r (x ∷ xs) 0 → role_before x r ≡ false
first_above r x xs w = w.above 0 x (omega arith) (omega arith)

-- where the first role is another, and not before the role, all are others
all_others : (r x : Role) (xs : List Role) → IsAscending (x ∷ xs) → role_before x r ≡ false → same_role r x ≡ false → (y : Role) → In y (x ∷ xs) → same_role r y ≡ false
all_others r x xs a above other y i = ⊎_elim
    (λ (e : y ≡ x). subst (λ z. same_role r z ≡ false) (sym e) other)
    (λ u. before_other r y (before_on r x y (one_before x r above other) (a.0 y u))) i

-- where another role stands at the place, the role isn't in the list
abbrev pub OtherAt : Role → List Role → ℕ → Type 0
OtherAt r xs i = i < length xs → same_role (get_or xs i Owner) r ≡ false

apart : (r x : Role) → same_role x r ≡ false → same_role r x ≡ false
apart r x h = other_than r x (λ e. false≢true (sym h ∙ (same_role_tells x r).1 (sym e)))

pub absent_has : (r : Role) (xs : List Role) (i : ℕ) → IsAscending xs → IsPlace r xs i → OtherAt r xs i → has same_role xs r ≡ false
unfolding has
absent_has r [] i a w other = refl
absent_has r (x ∷ xs) zero a w other = others_lack r (x ∷ xs) (all_others r x xs a (first_above r x xs w) (apart r x (other (omega arith))))
absent_has r (x ∷ xs) (suc i) a w other = rw (after_other r x (first_below r x xs i w)) (absent_has r xs i a.1 (later r x xs i w) (λ p. other (omega arith)))

pub absent_stays : (r : Role) (xs : List Role) (i : ℕ) → IsAscending xs → IsPlace r xs i → OtherAt r xs i → without_role r xs ≡ xs
unfolding without_role
absent_stays r [] i a w other = refl
absent_stays r (x ∷ xs) zero a w other = others_stay r (x ∷ xs) (all_others r x xs a (first_above r x xs w) (apart r x (other (omega arith))))
absent_stays r (x ∷ xs) (suc i) a w other = rw (after_other r x (first_below r x xs i w)) (ap (λ zs. x ∷ zs) (absent_stays r xs i a.1 (later r x xs i w) (λ p. other (omega arith))))

pub absent_insert : (r : Role) (xs : List Role) (i : ℕ) → IsPlace r xs i → OtherAt r xs i → insert xs i r ≡ with_role r xs
unfolding with_role
absent_insert r [] i w other = let h : i ≡ 0 = (let p : i ≤ 0 = w.within in omega arith) in rw h
absent_insert r (x ∷ xs) zero w other = rw (first_above r x xs w, apart r x (other (omega arith)))
absent_insert r (x ∷ xs) (suc i) w other = rw (first_below r x xs i w) (ap (λ zs. x ∷ zs) (absent_insert r xs i (later r x xs i w) (λ p. other (omega arith))))

-- where the role stands at the place, it is in the list and goes with it
abbrev pub SameAt : Role → List Role → ℕ → Type 0
SameAt r xs i = (i < length xs) × (same_role (get_or xs i Owner) r ≡ true)

pub present_has : (r : Role) (xs : List Role) (i : ℕ) → SameAt r xs i → In r xs
present_has r [] i same = let p : i < 0 = same.0 in absurd (omega arith)
present_has r (x ∷ xs) zero same = inl (sym ((same_role_tells x r).0 same.1))
present_has r (x ∷ xs) (suc i) same = inr (present_has r xs i (omega (arith, same.0), same.1))

pub present_goes : (r : Role) (xs : List Role) (i : ℕ) → IsAscending xs → IsPlace r xs i → SameAt r xs i → remove xs i ≡ without_role r xs
unfolding without_role
present_goes r [] i a w same = let p : i < 0 = same.0 in absurd (omega arith)
present_goes r (x ∷ xs) zero a w same =
    let e : x ≡ r = (same_role_tells x r).0 same.1 in
    rw ((same_role_tells r x).1 (sym e)) (sym (others_stay r xs (λ y u. before_other r y (subst (λ z. Before z y) e (a.0 y u)))))
present_goes r (x ∷ xs) (suc i) a w same = rw (after_other r x (first_below r x xs i w)) (ap (λ zs. x ∷ zs) (present_goes r xs i a.1 (later r x xs i w) (omega (arith, same.0), same.1)))

pub present_with : (r : Role) (xs : List Role) (i : ℕ) → IsPlace r xs i → SameAt r xs i → with_role r xs ≡ xs
unfolding with_role
present_with r [] i w same = let p : i < 0 = same.0 in absurd (omega arith)
present_with r (x ∷ xs) zero w same = let e : x ≡ r = (same_role_tells x r).0 same.1 in rw (first_above r x xs w, (same_role_tells r x).1 (sym e))
present_with r (x ∷ xs) (suc i) w same = rw (first_below r x xs i w) (ap (λ zs. x ∷ zs) (present_with r xs i (later r x xs i w) (omega (arith, same.0), same.1)))

from_first : (r x : Role) (xs : List Role) → IsAscending (x ∷ xs) → IsPartitionedBy (λ y. role_before y r) xs → (i j : ℕ) (d : Role) → i ≤ j → j < length (x ∷ xs) → role_before (get_or (x ∷ xs) j d) r ≡ true → role_before (get_or (x ∷ xs) i d) r ≡ true
from_first r x xs a rest zero zero d p q e = e
from_first r x xs a rest zero (suc j) d p q e = before_on x (get_or xs j d) r (a.0 (get_or xs j d) (get_or-In Role xs j d (omega arith))) e
from_first r x xs a rest (suc i) zero d p q e = absurd (omega arith)
from_first r x xs a rest (suc i) (suc j) d p q e = rest i j d (omega arith) (omega arith) e

-- in an ascending list no role that is before another comes after one that isn't
pub partitioned : (r : Role) (xs : List Role) → IsAscending xs → IsPartitionedBy (λ y. role_before y r) xs
partitioned r [] a = λ i j d p q e. absurd (omega arith)
partitioned r (x ∷ xs) a = from_first r x xs a (partitioned r xs a.1)
