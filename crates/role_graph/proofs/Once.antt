-- Lists in which nothing stands twice, and lists in which each stands before all behind it: their members tell them.
use Rattle.std.proofs.Common.{◌≡◌, ℕ, suc, Bool, true, false, cond, not, ◌==◌, ◌&&◌, List, [], ◌∷◌, ◌++◌, map, filter, AllPairs, inl, inr, ⊎_elim, refl, sym, ap, ◌∙◌, subst, arith}
use Rattle.std.specs.List.{flat_map, list_any}
use Rattle.std.specs.Cmp.{IsStrictWeakOrder}
use Rattle.std.proofs.lemmas.Bool.{and_parts, eq-eqb, false≢true, not-true, true_from_ne_false}
use Rattle.cry_base.specs.Sets.{In}
use Rattle.cry_base.proofs.Members.{In-any, In-append, In-filter, In-flat_map, In-map}
use Rattle.role_graph.specs.Edges.{in_order, put_in_order}
use Rattle.role_graph.proofs.AtRoles.{ByNumber, above, behind}
use Rattle.role_graph.proofs.Edging.{In-order, put-in}
use Rattle.role_graph.proofs.Ordered.{Rises, stands_at}

-- nothing stands twice
abbrev pub AreOnce : (X : Type 0) → List X → Type 0
AreOnce X [] = Unit {0}
AreOnce X (x ∷ xs) = (In x xs → ⊥) × AreOnce X xs

pub once_append : (X : Type 0) (xs ys : List X) → AreOnce X xs → AreOnce X ys → ((x : X) → In x xs → In x ys → ⊥) → AreOnce X (xs ++ ys)
once_append X [] ys p q apart = q
once_append X (x ∷ xs) ys p q apart = (
  λ i. ⊎_elim (λ a. p.0 a) (λ b. apart x (inl refl) b) ((In-append X x xs ys).0 i),
  once_append X xs ys p.1 q (λ y i j. apart y (inr i) j),
)

pub once_flat : (X Y : Type 0) (f : X → List Y) (xs : List X) → AreOnce X xs → ((x : X) → In x xs → AreOnce Y (f x))
    → ((x z : X) (y : Y) → In x xs → In z xs → In y (f x) → In y (f z) → x ≡ z) → AreOnce Y (flat_map f xs)
once_flat X Y f [] p each apart = tt
once_flat X Y f (x ∷ xs) p each apart = once_append Y (f x) (flat_map f xs) (each x (inl refl))
    (once_flat X Y f xs p.1 (λ z i. each z (inr i)) (λ z w y i j. apart z w y (inr i) (inr j)))
    (λ y i j.
    let w = (In-flat_map X Y f y xs).0 j in
    let e : x ≡ w.0 = apart x w.0 y (inl refl) (inr w.1) i w.2 in
    p.0 (subst (λ z. In z xs) (sym e) w.1))

pub once_map : (X Y : Type 0) (f : X → Y) (xs : List X) → AreOnce X xs → ((x z : X) → In x xs → In z xs → f x ≡ f z → x ≡ z) → AreOnce Y (map f xs)
once_map X Y f [] p apart = tt
once_map X Y f (x ∷ xs) p apart = (
  λ i.
      let w = (In-map X Y f (f x) xs).0 i in
      let e : x ≡ w.0 = apart x w.0 (inl refl) (inr w.1) w.2 in
      p.0 (subst (λ z. In z xs) (sym e) w.1),
  once_map X Y f xs p.1 (λ z w i j. apart z w (inr i) (inr j)),
)

-- what is mapped to different things is different
pub once_of_map : (X Y : Type 0) (f : X → Y) (xs : List X) → AreOnce Y (map f xs) → AreOnce X xs
once_of_map X Y f [] p = tt
once_of_map X Y f (x ∷ xs) p = (λ i. p.0 ((In-map X Y f (f x) xs).1 (x, i, refl)), once_of_map X Y f xs p.1)

pub once_filter : (X : Type 0) (p : X → Bool) (xs : List X) → AreOnce X xs → AreOnce X (filter p xs)
once_filter X p [] once = tt
once_filter X p (x ∷ xs) once = elim (p x) as (λ b. AreOnce X (cond b (x ∷ filter p xs) (filter p xs))) [
  | true ↦ (λ i. once.0 (In-filter X p x xs i).0, once_filter X p xs once.1)
  | false ↦ once_filter X p xs once.1
]

once_put : (X : Type 0) (lt : X → X → Bool) (x : X) (ys : List X) → (In x ys → ⊥) → AreOnce X ys → AreOnce X (put_in_order lt x ys)
unfolding put_in_order
once_put X lt x [] out once = (out, tt)
once_put X lt x (y ∷ ys) out once = elim (lt y x) as (λ b. AreOnce X (cond b (y ∷ put_in_order lt x ys) (x ∷ y ∷ ys))) [
  | true ↦ (λ i. ⊎_elim (λ (e : y ≡ x). out (inl (sym e))) (λ j. once.0 j) ((put-in X lt x y ys).0 i), once_put X lt x ys (λ i. out (inr i)) once.1)
  | false ↦ (out, once)
]

pub once_order : (X : Type 0) (lt : X → X → Bool) (xs : List X) → AreOnce X xs → AreOnce X (in_order lt xs)
unfolding in_order
once_order X lt [] once = tt
once_order X lt (x ∷ xs) once = once_put X lt x (in_order lt xs) (λ i. once.0 ((In-order X lt x xs).0 i)) (once_order X lt xs once.1)

-- each stands in a relation to all behind it, in which nothing stands to itself
pub once_pairs : (X : Type 0) (P : X → X → Type 0) → ((x : X) → P x x → ⊥) → (xs : List X) → AllPairs P xs → AreOnce X xs
once_pairs X P never [] up = tt
once_pairs X P never (x ∷ xs) up = (
  λ i. let w = stands_at X xs x i in never x (subst (λ z. P x z) (w.2 x) (up 0 (suc w.0) x (omega arith) (omega (arith, w.1)))),
  once_pairs X P never xs (λ i j d lt within. up (suc i) (suc j) d (omega arith) (omega arith)),
)

-- rows by number
pub once_rows : (X : Type 0) (id : X → ℕ) (xs : List X) → ByNumber X id xs → AreOnce X xs
once_rows X id [] up = tt
once_rows X id (x ∷ xs) up = (λ i. let less = above X id x xs up x i in omega (arith, less), once_rows X id xs (behind X id x xs up))

pub own_row : (X : Type 0) (id : X → ℕ) (xs : List X) → ByNumber X id xs → (x z : X) → In x xs → In z xs → id x ≡ id z → x ≡ z
own_row X id [] up x z i j e = absurd i
own_row X id (y ∷ ys) up x z i j e = ⊎_elim
    (λ (p : x ≡ y). ⊎_elim
    (λ (q : z ≡ y). p ∙ sym q)
    (λ v. absurd (let less = above X id y ys up z v in let s = ap id p in omega (arith, less, e, s))) j)
    (λ u. ⊎_elim
    (λ (q : z ≡ y). absurd (let less = above X id y ys up x u in let s = ap id q in omega (arith, less, e, s)))
    (λ v. own_row X id ys (behind X id y ys up) x z u v e) j) i

-- numbers that differ, by a test
unfoldable pub is_once : List ℕ → Bool
is_once [] = true
is_once (n ∷ ns) = not (list_any (λ m. n == m) ns) && is_once ns

pub once_told : (ns : List ℕ) → is_once ns ≡ true → AreOnce ℕ ns
unfolding is_once
once_told [] t = tt
once_told (n ∷ ns) t =
    let both = and_parts (not (list_any (λ m. n == m) ns)) (is_once ns) t in (
      λ i. false≢true (sym (not-true (list_any (λ m. n == m) ns) both.0) ∙ (In-any ℕ (λ m. n == m) (λ m. (n == m) ≡ true) (λ m. (λ v. v, λ v. v)) ns).1 (n, i, eq-eqb n n refl)),
      once_told ns both.1,
    )

-- ---- lists in which each is less than all behind it

abbrev pub Climbs : (X : Type 0) → (X → X → Bool) → List X → Type 0
Climbs X lt [] = Unit {0}
Climbs X lt (x ∷ xs) = ((y : X) → In y xs → lt x y ≡ true) × Climbs X lt xs

-- no two of the list tie
abbrev pub NoneTie : (X : Type 0) → (X → X → Bool) → List X → Type 0
NoneTie X lt xs = (x y : X) → In x xs → In y xs → lt x y ≡ false → lt y x ≡ false → x ≡ y

pub climbs : (X : Type 0) (lt : X → X → Bool) (xs : List X) → Rises X lt xs → AreOnce X xs → NoneTie X lt xs → Climbs X lt xs
climbs X lt [] up once alone = tt
climbs X lt (x ∷ xs) up once alone = (
  λ y i. true_from_ne_false (lt x y) (λ f.
      let e : x ≡ y = alone x y (inl refl) (inr i) f (up.0 y i) in once.0 (subst (λ z. In z xs) (sym e) i)),
  climbs X lt xs up.1 once.1 (λ y z i j. alone y z (inr i) (inr j)),
)

less_itself : (X : Type 0) (lt : X → X → Bool) → IsStrictWeakOrder lt → (x : X) → lt x x ≡ true → ⊥
less_itself X lt o x t = false≢true (sym (o.one_way x x t) ∙ t)

first_climbs : (X : Type 0) (lt : X → X → Bool) → IsStrictWeakOrder lt → (x y : X) (xs ys : List X) → Climbs X lt (x ∷ xs) → Climbs X lt (y ∷ ys) → In x (y ∷ ys) → In y (x ∷ xs) → x ≡ y
first_climbs X lt o x y xs ys p q i j = ⊎_elim (λ e. e) (λ u. ⊎_elim (λ e. sym e)
    (λ v. absurd (false≢true (sym (o.one_way x y (p.0 y v)) ∙ q.0 x u))) j) i

rest_climbs : (X : Type 0) (lt : X → X → Bool) → IsStrictWeakOrder lt → (x : X) (xs ys : List X) → Climbs X lt (x ∷ xs) → ((z : X) → In z (x ∷ xs) → In z (x ∷ ys)) → (z : X) → In z xs → In z ys
rest_climbs X lt o x xs ys p told z i = ⊎_elim
    (λ (e : z ≡ x). absurd (less_itself X lt o x (subst (λ w. lt x w ≡ true) e (p.0 z i))))
    (λ u. u) (told z (inr i))

-- their members tell them
pub one_climb : (X : Type 0) (lt : X → X → Bool) → IsStrictWeakOrder lt → (xs ys : List X) → Climbs X lt xs → Climbs X lt ys → ((z : X) → In z xs → In z ys) → ((z : X) → In z ys → In z xs) → xs ≡ ys
one_climb X lt o [] [] p q on back = refl
one_climb X lt o [] (y ∷ ys) p q on back = absurd (back y (inl refl))
one_climb X lt o (x ∷ xs) [] p q on back = absurd (on x (inl refl))
one_climb X lt o (x ∷ xs) (y ∷ ys) p q on back =
    let e : x ≡ y = first_climbs X lt o x y xs ys p q (on x (inl refl)) (back y (inl refl)) in
    let q' : Climbs X lt (x ∷ ys) = subst (λ z. Climbs X lt (z ∷ ys)) (sym e) q in
    let on' : (z : X) → In z (x ∷ xs) → In z (x ∷ ys) = subst (λ w. (z : X) → In z (x ∷ xs) → In z (w ∷ ys)) (sym e) on in
    let back' : (z : X) → In z (x ∷ ys) → In z (x ∷ xs) = subst (λ w. (z : X) → In z (w ∷ ys) → In z (x ∷ xs)) (sym e) back in
    λ i. e i ∷ one_climb X lt o xs ys p.1 q.1 (rest_climbs X lt o x xs ys p on') (rest_climbs X lt o x ys xs q' back') i
