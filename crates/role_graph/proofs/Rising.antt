-- Roles in their order: what stands before what, and what a role that is put in its place changes.
use Rattle.std.proofs.Common.{◌≡◌, ◌≢◌, ℕ, zero, suc, ◌≤◌, ◌<◌, Bool, true, false, cond, not, ◌==◌, ◌&&◌, ◌⊎◌, ◌↔◌, List, [], ◌∷◌, ◌++◌, ◌+◌, length, get_or, take, filter, inl, inr, ⊎_elim, refl, sym, ap, ◌∙◌, subst, arith}
use Rattle.std.specs.Prelude.{nat_lt}
use Rattle.std.proofs.lemmas.Bool.{or_right, or_left, or_parts, and_parts, and_from, or_cases, false≢true, cases_Bool, ltb-true, lt-ltb, ltb-false, eqb-true, eq-eqb, cases_order}
use Rattle.std.proofs.lemmas.List.{take_more}
use Rattle.cry_base.specs.Sets.{In, has}
use Rattle.cry_base.specs.declared.roles.Role.{Role}
use Rattle.cry_base.proofs.Members.{In-append, In-filter}
use Rattle.role_graph.specs.Roles.{same_role, role_before, variant_of, role_id}
use Rattle.role_graph.specs.Ascending.{IsAscending, with_role, ascending, without_role}
use Rattle.role_graph.proofs.Comparing.{same_role_tells}

-- the one stands before the other
abbrev pub Before : Role → Role → Type 0
Before a b = role_before a b ≡ true

and_not : (a b : Bool) → (a && b) ≡ false → (a ≡ false) ⊎ (b ≡ false)
and_not true b t = inr t
and_not false b t = inl refl

pub other_than : (a x : Role) → (a ≡ x → ⊥) → same_role a x ≡ false
other_than a x n = ⊎_elim (λ t. absurd (n ((same_role_tells a x).0 t))) (λ f. f) (cases_Bool (same_role a x))

pub before_on : (a b c : Role) → Before a b → Before b c → Before a c
unfolding role_before
before_on a b c p q = ⊎_elim
    (λ u. let ab : variant_of a < variant_of b = ltb-true (variant_of a) (variant_of b) u in ⊎_elim
    (λ v. let bc : variant_of b < variant_of c = ltb-true (variant_of b) (variant_of c) v in or_left _ _ (lt-ltb (variant_of a) (variant_of c) (omega arith)))
    (λ v. let bc : variant_of b ≡ variant_of c = eqb-true (variant_of b) (variant_of c) (and_parts _ _ v).0 in or_left _ _ (lt-ltb (variant_of a) (variant_of c) (omega arith)))
    (or_cases _ _ q))
    (λ u. let both = and_parts _ _ u in let ab : variant_of a ≡ variant_of b = eqb-true (variant_of a) (variant_of b) both.0 in let ids : role_id a < role_id b = ltb-true (role_id a) (role_id b) both.1 in ⊎_elim
    (λ v. let bc : variant_of b < variant_of c = ltb-true (variant_of b) (variant_of c) v in or_left _ _ (lt-ltb (variant_of a) (variant_of c) (omega arith)))
    (λ v. let on = and_parts _ _ v in let bc : variant_of b ≡ variant_of c = eqb-true (variant_of b) (variant_of c) on.0 in let more : role_id b < role_id c = ltb-true (role_id b) (role_id c) on.1 in
    or_right _ _ (and_from _ _ (eq-eqb (variant_of a) (variant_of c) (omega arith)) (lt-ltb (role_id a) (role_id c) (omega arith))))
    (or_cases _ _ q))
    (or_cases _ _ p)

pub before_self : (a : Role) → Before a a → ⊥
unfolding role_before
before_self a p = ⊎_elim
    (λ u. let h : variant_of a < variant_of a = ltb-true (variant_of a) (variant_of a) u in omega arith)
    (λ u. let h : role_id a < role_id a = ltb-true (role_id a) (role_id a) (and_parts _ _ u).1 in omega arith)
    (or_cases _ _ p)

pub one_before : (a b : Role) → role_before a b ≡ false → same_role b a ≡ false → Before b a
unfolding role_before same_role
one_before a b p q =
    let parts = or_parts _ _ p in
    let low : variant_of b ≤ variant_of a = ltb-false (variant_of a) (variant_of b) parts.0 in ⊎_elim
    (λ (e : variant_of a ≡ variant_of b).
    let ids : role_id b ≤ role_id a = ⊎_elim (λ n. absurd (false≢true (sym n ∙ eq-eqb (variant_of a) (variant_of b) e))) (λ n. ltb-false (role_id a) (role_id b) n) (and_not (variant_of a == variant_of b) (nat_lt (role_id a) (role_id b)) parts.1) in
    let other : role_id b ≢ role_id a = λ h. false≢true (sym q ∙ and_from (variant_of b == variant_of a) (role_id b == role_id a) (eq-eqb (variant_of b) (variant_of a) (sym e)) (eq-eqb (role_id b) (role_id a) h)) in
    or_right _ _ (and_from _ _ (eq-eqb (variant_of b) (variant_of a) (sym e)) (lt-ltb (role_id b) (role_id a) (omega arith))))
    (λ w. ⊎_elim (λ (h : variant_of a < variant_of b). absurd (omega arith)) (λ (h : variant_of b < variant_of a). or_left _ _ (lt-ltb (variant_of b) (variant_of a) h)) w)
    (cases_order (variant_of a) (variant_of b))

-- what stands before is another
pub before_other : (a b : Role) → Before a b → same_role a b ≡ false
before_other a b p = other_than a b (λ e. before_self b (subst (λ x. Before x b) e p))

pub after_other : (a b : Role) → Before b a → same_role a b ≡ false
after_other a b p = other_than a b (λ e. before_self b (subst (λ x. Before b x) e p))

pub with_role-in : (r q : Role) (xs : List Role) → In q (with_role r xs) → (q ≡ r) ⊎ In q xs
unfolding with_role
with_role-in r q [] = λ i. ⊎_elim (λ e. inl e) (λ n. absurd n) i
with_role-in r q (x ∷ xs) =
    elim (role_before x r) as (λ b. In q (cond b (x ∷ with_role r xs) (cond (same_role r x) (x ∷ xs) (r ∷ x ∷ xs))) → (q ≡ r) ⊎ In q (x ∷ xs)) [
      | true ↦ λ i. ⊎_elim (λ e. inr (inl e)) (λ t. ⊎_elim (λ e. inl e) (λ u. inr (inr u)) (with_role-in r q xs t)) i
      | false ↦ elim (same_role r x) as (λ b. In q (cond b (x ∷ xs) (r ∷ x ∷ xs)) → (q ≡ r) ⊎ In q (x ∷ xs)) [ true ↦ λ i. inr i | false ↦ λ i. i ]
    ]

pub in-with_role : (r q : Role) (xs : List Role) → (q ≡ r) ⊎ In q xs → In q (with_role r xs)
unfolding with_role
in-with_role r q [] = λ i. ⊎_elim (λ e. inl e) (λ n. absurd n) i
in-with_role r q (x ∷ xs) =
    elim (role_before x r) as (λ b. (q ≡ r) ⊎ In q (x ∷ xs) → In q (cond b (x ∷ with_role r xs) (cond (same_role r x) (x ∷ xs) (r ∷ x ∷ xs)))) [
      | true ↦ λ i. ⊎_elim (λ e. inr (in-with_role r q xs (inl e))) (λ t. ⊎_elim (λ e. inl e) (λ u. inr (in-with_role r q xs (inr u))) t) i
      | false ↦ (elim (same_role r x) as (λ b. same_role r x ≡ b → (q ≡ r) ⊎ In q (x ∷ xs) → In q (cond b (x ∷ xs) (r ∷ x ∷ xs))) [
        | true ↦ λ t i. ⊎_elim (λ e. inl (e ∙ (same_role_tells r x).0 t)) (λ u. u) i
        | false ↦ λ t i. i
      ]) refl
    ]

pub ascending_told : (r : Role) (xs : List Role) → In r (ascending xs) ↔ In r xs
unfolding ascending
ascending_told r [] = (λ i. i, λ i. i)
ascending_told r (x ∷ xs) = (
  λ i. ⊎_elim (λ e. inl e) (λ t. inr ((ascending_told r xs).0 t)) (with_role-in x r (ascending xs) i),
  λ i. in-with_role x r (ascending xs) (⊎_elim (λ e. inl e) (λ t. inr ((ascending_told r xs).1 t)) i),
)

pub with_ascending : (r : Role) (xs : List Role) → IsAscending xs → IsAscending (with_role r xs)
unfolding with_role
with_ascending r [] w = (λ y i. absurd i, tt)
with_ascending r (x ∷ xs) w =
    (elim (role_before x r) as (λ b. role_before x r ≡ b → IsAscending (cond b (x ∷ with_role r xs) (cond (same_role r x) (x ∷ xs) (r ∷ x ∷ xs)))) [
      | true ↦ λ t. (λ y i. ⊎_elim (λ (e : y ≡ r). subst (Before x) (sym e) t) (λ u. w.0 y u) (with_role-in r y xs i), with_ascending r xs w.1)
      | false ↦ λ t. (elim (same_role r x) as (λ b. same_role r x ≡ b → IsAscending (cond b (x ∷ xs) (r ∷ x ∷ xs))) [
        | true ↦ λ u. w
        | false ↦ λ u. let first = one_before x r t u in (λ y i. ⊎_elim (λ (e : y ≡ x). subst (Before r) (sym e) first) (λ v. before_on r x y first (w.0 y v)) i, w)
      ]) refl
    ]) refl

pub ascending_ascends : (xs : List Role) → IsAscending (ascending xs)
unfolding ascending
ascending_ascends [] = tt
ascending_ascends (x ∷ xs) = with_ascending x (ascending xs) (ascending_ascends xs)

-- the first of two ascending lists that hold the same is the same
first_same : (x y : Role) (xs ys : List Role) → IsAscending (x ∷ xs) → IsAscending (y ∷ ys) → In x (y ∷ ys) → In y (x ∷ xs) → x ≡ y
first_same x y xs ys p q i j = ⊎_elim (λ e. e) (λ u. ⊎_elim (λ e. sym e) (λ v. absurd (before_self x (before_on x y x (p.0 y v) (q.0 x u)))) j) i

rest_in : (x : Role) (xs ys : List Role) → IsAscending (x ∷ xs) → ((r : Role) → In r (x ∷ xs) → In r (x ∷ ys)) → (r : Role) → In r xs → In r ys
rest_in x xs ys p told r i = ⊎_elim (λ (e : r ≡ x). absurd (before_self x (subst (Before x) e (p.0 r i)))) (λ u. u) (told r (inr i))

-- two ascending lists that hold the same roles are one
pub same_list : (xs ys : List Role) → IsAscending xs → IsAscending ys → ((r : Role) → In r xs → In r ys) → ((r : Role) → In r ys → In r xs) → xs ≡ ys
same_list [] [] = λ p q there back. refl
same_list [] (y ∷ ys) = λ p q there back. absurd (back y (inl refl))
same_list (x ∷ xs) [] = λ p q there back. absurd (there x (inl refl))
same_list (x ∷ xs) (y ∷ ys) = λ p q there back.
    let e : x ≡ y = first_same x y xs ys p q (there x (inl refl)) (back y (inl refl)) in
    let p' : IsAscending (y ∷ xs) = subst (λ z. IsAscending (z ∷ xs)) e p in
    let there' : (r : Role) → In r (y ∷ xs) → In r (y ∷ ys) = subst (λ z. (r : Role) → In r (z ∷ xs) → In r (y ∷ ys)) e there in
    let back' : (r : Role) → In r (y ∷ ys) → In r (y ∷ xs) = subst (λ z. (r : Role) → In r (y ∷ ys) → In r (z ∷ xs)) e back in
    ap (λ z. z ∷ xs) e ∙ ap (λ zs. y ∷ zs) (same_list xs ys p.1 q.1 (rest_in y xs ys p' there') (rest_in y ys xs q back'))

-- where no role of the list is the one, it isn't among them and nothing is left out with it
pub others_lack : (r : Role) (ys : List Role) → ((y : Role) → In y ys → same_role r y ≡ false) → has same_role ys r ≡ false
unfolding has
others_lack r [] told = refl
others_lack r (y ∷ ys) told = rw (told y (inl refl)) (others_lack r ys (λ z i. told z (inr i)))

pub others_stay : (r : Role) (ys : List Role) → ((y : Role) → In y ys → same_role r y ≡ false) → without_role r ys ≡ ys
unfolding without_role
others_stay r [] told = refl
others_stay r (y ∷ ys) told = rw (told y (inl refl)) (ap (λ zs. y ∷ zs) (others_stay r ys (λ z i. told z (inr i))))

without_role-in : (r q : Role) (xs : List Role) → In q (without_role r xs) → In q xs
unfolding without_role
without_role-in r q xs i = (In-filter Role (λ x. not (same_role r x)) q xs i).0

pub without_ascending : (r : Role) (xs : List Role) → IsAscending xs → IsAscending (without_role r xs)
unfolding without_role
without_ascending r [] a = tt
without_ascending r (x ∷ xs) a =
    elim (not (same_role r x)) as (λ b. IsAscending (cond b (x ∷ filter (λ q. not (same_role r q)) xs) (filter (λ q. not (same_role r q)) xs))) [
      | true ↦ (λ y i. a.0 y (without_role-in r y xs i), without_ascending r xs a.1)
      | false ↦ without_ascending r xs a.1
    ]

pub get_or-In : (X : Type 0) (xs : List X) (k : ℕ) (d : X) → k < length xs → In (get_or xs k d) xs
get_or-In X [] k d p = absurd (omega arith)
get_or-In X (x ∷ xs) zero d p = inl refl
get_or-In X (x ∷ xs) (suc k) d p = inr (get_or-In X xs k d (omega arith))

-- a set with one more role of a list
pub added_more : (rs : List Role) (i : ℕ) (d : Role) → i < length rs → (old before new : List Role) → new ≡ with_role (get_or rs i d) before → ((r : Role) → In r before → In r old ⊎ In r (take i rs)) → (r : Role) → In r new → In r old ⊎ In r (take (i + 1) rs)
added_more rs i d p old before new same told r j =
    let more : In r (take i rs ++ get_or rs i d ∷ []) → In r (take (i + 1) rs) = subst (In r) (sym (take_more rs i d p)) in
    ⊎_elim
    (λ e. inr (more ((In-append Role r (take i rs) (get_or rs i d ∷ [])).1 (inr (inl e)))))
    (λ u. ⊎_elim (λ o. inl o) (λ t. inr (more ((In-append Role r (take i rs) (get_or rs i d ∷ [])).1 (inl t)))) (told r u))
    (with_role-in (get_or rs i d) r before (subst (In r) same j))

pub all_more : (rs : List Role) (i : ℕ) (d : Role) → i < length rs → (before new : List Role) → new ≡ with_role (get_or rs i d) before → ((r : Role) → In r (take i rs) → In r before) → (r : Role) → In r (take (i + 1) rs) → In r new
all_more rs i d p before new same told r j = subst (In r) (sym same) (in-with_role (get_or rs i d) r before (⊎_elim
    (λ t. inr (told r t))
    (λ l. ⊎_elim (λ e. inl e) (λ n. absurd n) l)
    ((In-append Role r (take i rs) (get_or rs i d ∷ [])).0 (subst (In r) (take_more rs i d p) j))))

pub kept_more : (role : Role) (old before new : List Role) → new ≡ with_role role before → ((r : Role) → In r old → In r before) → (r : Role) → In r old → In r new
kept_more role old before new same told r i = subst (In r) (sym same) (in-with_role role r before (inr (told r i)))

pub in_front : (X : Type 0) (r : X) (i : ℕ) (xs : List X) → In r (take i xs) → In r xs
in_front X r zero xs = λ n. absurd n
in_front X r (suc i) [] = λ n. absurd n
in_front X r (suc i) (x ∷ xs) = λ j. ⊎_elim (λ e. inl e) (λ u. inr (in_front X r i xs u)) j
