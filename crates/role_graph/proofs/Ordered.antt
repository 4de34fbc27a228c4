-- A stable sort gives what insertion gives: both ascend, and both keep what ties in the order in which it came.
use Rattle.std.proofs.Common.{◌≡◌, ℕ, suc, ◌<◌, ◌≤◌, Bool, true, false, cond, not, List, [], ◌∷◌, length, get_or, filter, inl, ⊎_elim, refl, sym, ap, ◌∙◌, subst, arith}
use Rattle.std.specs.Cmp.{IsStrictWeakOrder}
use Rattle.std.specs.List.Sorted.{IsSortedBy, IsStableBy, ties}
use Rattle.std.proofs.lemmas.Bool.{false≢true, and_parts, not-true}
use Rattle.std.proofs.lemmas.List.Sorted.{sorted_far}
use Rattle.cry_base.specs.Sets.{In}
use Rattle.cry_base.proofs.Members.{In-filter}
use Rattle.role_graph.specs.Edges.{put_in_order, in_order}
use Rattle.role_graph.proofs.Edging.{put-in}

pub stands_at : (X : Type 0) (xs : List X) (x : X) → In x xs → (k : ℕ) × (k < length xs) × ((d : X) → get_or xs k d ≡ x)
stands_at X [] x i = absurd i
stands_at X (y ∷ ys) x i = ⊎_elim
    (λ s. (0, omega arith, λ d. sym s))
    (λ u. let w = stands_at X ys x u in (suc w.0, omega (arith, w.1), w.2)) i

without_first : (X : Type 0) (b : Bool) (x : X) (xs ys : List X) → cond b (x ∷ xs) xs ≡ cond b (x ∷ ys) ys → xs ≡ ys
without_first X true x xs ys e = cc
without_first X false x xs ys e = e

-- two that aren't both kept may change places
turned : (X : Type 0) (p q : Bool) (x y : X) (l : List X) → (p ≡ true → q ≡ true → ⊥) → cond p (y ∷ cond q (x ∷ l) l) (cond q (x ∷ l) l) ≡ cond q (x ∷ cond p (y ∷ l) l) (cond p (y ∷ l) l)
turned X true true x y l never = absurd (never refl refl)
turned X true false x y l never = refl
turned X false true x y l never = refl
turned X false false x y l never = refl

-- none of them is less than x
abbrev pub NoneBelow : (X : Type 0) → (X → X → Bool) → X → List X → Type 0
NoneBelow X lt x xs = (y : X) → In y xs → lt y x ≡ false

-- none is less than one before it
abbrev pub Rises : (X : Type 0) → (X → X → Bool) → List X → Type 0
Rises X lt [] = Unit {0}
Rises X lt (x ∷ xs) = NoneBelow X lt x xs × Rises X lt xs

not_itself : (X : Type 0) (lt : X → X → Bool) → IsStrictWeakOrder lt → (x : X) → lt x x ≡ false
not_itself X lt o x = (elim (lt x x) as (λ b. lt x x ≡ b → lt x x ≡ false) [
  | true ↦ λ e. o.one_way x x e
  | false ↦ λ e. e
]) refl

tied : (X : Type 0) (lt : X → X → Bool) (x y : X) → lt x y ≡ false → lt y x ≡ false → ties lt x y ≡ true
tied X lt x y a b = rw (a, b) refl

tie_parts : (X : Type 0) (lt : X → X → Bool) (x y : X) → ties lt x y ≡ true → (lt x y ≡ false) × (lt y x ≡ false)
tie_parts X lt x y t = let both = and_parts (not (lt x y)) (not (lt y x)) t in (not-true (lt x y) both.0, not-true (lt y x) both.1)

self_tie : (X : Type 0) (lt : X → X → Bool) → IsStrictWeakOrder lt → (x : X) → ties lt x x ≡ true
self_tie X lt o x = let e = not_itself X lt o x in tied X lt x x e e

-- what ties with one thing is not less than one another
tie_chain : (X : Type 0) (lt : X → X → Bool) → IsStrictWeakOrder lt → (w x y : X) → ties lt w y ≡ true → ties lt w x ≡ true → lt y x ≡ false
tie_chain X lt o w x y p q = o.chain y w x (tie_parts X lt w y p).1 (tie_parts X lt w x q).0

put_rises : (X : Type 0) (lt : X → X → Bool) → IsStrictWeakOrder lt → (x : X) (ys : List X) → Rises X lt ys → Rises X lt (put_in_order lt x ys)
unfolding put_in_order
put_rises X lt o x [] r = (λ y i. absurd i, tt)
put_rises X lt o x (y ∷ ys) r = (elim (lt y x) as (λ b. lt y x ≡ b → Rises X lt (cond b (y ∷ put_in_order lt x ys) (x ∷ y ∷ ys))) [
  | true ↦ λ e. (
    λ z i. ⊎_elim (λ (s : z ≡ x). subst (λ u. lt u y ≡ false) (sym s) (o.one_way y x e)) (λ u. r.0 z u) ((put-in X lt x z ys).0 i),
    put_rises X lt o x ys r.1,
  )
  | false ↦ λ e. (
    λ z i. ⊎_elim (λ (s : z ≡ y). subst (λ u. lt u x ≡ false) (sym s) e) (λ u. o.chain z y x (r.0 z u) e) i,
    r,
  )
]) refl

put_keeps : (X : Type 0) (lt : X → X → Bool) → IsStrictWeakOrder lt → (w x : X) (ys : List X) → filter (ties lt w) (put_in_order lt x ys) ≡ filter (ties lt w) (x ∷ ys)
unfolding put_in_order
put_keeps X lt o w x [] = refl
put_keeps X lt o w x (y ∷ ys) = (elim (lt y x) as (λ b. lt y x ≡ b → filter (ties lt w) (cond b (y ∷ put_in_order lt x ys) (x ∷ y ∷ ys)) ≡ filter (ties lt w) (x ∷ y ∷ ys)) [
  | true ↦ λ e.
      ap (λ (l : List X). cond (ties lt w y) (y ∷ l) l) (put_keeps X lt o w x ys)
      ∙ turned X (ties lt w y) (ties lt w x) x y (filter (ties lt w) ys) (λ p q. false≢true (sym (tie_chain X lt o w x y p q) ∙ e))
  | false ↦ λ e. refl
]) refl

pub order_rises : (X : Type 0) (lt : X → X → Bool) → IsStrictWeakOrder lt → (xs : List X) → Rises X lt (in_order lt xs)
unfolding in_order
order_rises X lt o [] = tt
order_rises X lt o (x ∷ xs) = put_rises X lt o x (in_order lt xs) (order_rises X lt o xs)

pub order_keeps : (X : Type 0) (lt : X → X → Bool) → IsStrictWeakOrder lt → (w : X) (xs : List X) → filter (ties lt w) (in_order lt xs) ≡ filter (ties lt w) xs
unfolding in_order
order_keeps X lt o w [] = refl
order_keeps X lt o w (x ∷ xs) = put_keeps X lt o w x (in_order lt xs) ∙ ap (λ (l : List X). cond (ties lt w x) (x ∷ l) l) (order_keeps X lt o w xs)

sorted_rises : (X : Type 0) (lt : X → X → Bool) (xs : List X) → ((i j : ℕ) (d : X) → i ≤ j → j < length xs → lt (get_or xs j d) (get_or xs i d) ≡ false) → Rises X lt xs
sorted_rises X lt [] far = tt
sorted_rises X lt (x ∷ xs) far = (
  λ y i. let w = stands_at X xs y i in subst (λ z. lt z x ≡ false) (w.2 x) (far 0 (suc w.0) x (omega arith) (omega (arith, w.1))),
  sorted_rises X lt xs (λ i j d p q. far (suc i) (suc j) d (omega arith) (omega arith)),
)

-- the first of one list isn't less than the first of the other
first_stands : (X : Type 0) (lt : X → X → Bool) → IsStrictWeakOrder lt → (a : X) (xs ys : List X) → ((w : X) → filter (ties lt w) (a ∷ xs) ≡ filter (ties lt w) ys) → In a ys
first_stands X lt o a xs ys same =
    let here : In a (cond (ties lt a a) (a ∷ filter (ties lt a) xs) (filter (ties lt a) xs)) = subst (λ b. In a (cond b (a ∷ filter (ties lt a) xs) (filter (ties lt a) xs))) (sym (self_tie X lt o a)) (inl refl) in
    (In-filter X (ties lt a) a ys (subst (λ l. In a l) (same a) here)).0

not_less : (X : Type 0) (lt : X → X → Bool) → IsStrictWeakOrder lt → (a b : X) (ys : List X) → NoneBelow X lt b ys → In a (b ∷ ys) → lt a b ≡ false
not_less X lt o a b ys none i = ⊎_elim (λ (e : a ≡ b). subst (λ z. lt z b ≡ false) (sym e) (not_itself X lt o b)) (λ u. none a u) i

first_same : (X : Type 0) (a b : X) (p q : Bool) (xs ys : List X) → p ≡ true → q ≡ true → cond p (a ∷ xs) xs ≡ cond q (b ∷ ys) ys → a ≡ b
first_same X a b true true xs ys s t e = cc
first_same X a b true false xs ys s t e = absurd (false≢true t)
first_same X a b false q xs ys s t e = absurd (false≢true s)

pub one_order : (X : Type 0) (lt : X → X → Bool) → IsStrictWeakOrder lt → (xs ys : List X) → Rises X lt xs → Rises X lt ys → ((w : X) → filter (ties lt w) xs ≡ filter (ties lt w) ys) → xs ≡ ys
one_order X lt o [] [] r s same = refl
one_order X lt o [] (b ∷ ys) r s same = absurd (first_stands X lt o b ys [] (λ w. sym (same w)))
one_order X lt o (a ∷ xs) [] r s same = absurd (first_stands X lt o a xs [] same)
one_order X lt o (a ∷ xs) (b ∷ ys) r s same =
    let up : lt a b ≡ false = not_less X lt o a b ys s.0 (first_stands X lt o a xs (b ∷ ys) same) in
    let down : lt b a ≡ false = not_less X lt o b a xs r.0 (first_stands X lt o b ys (a ∷ xs) (λ w. sym (same w))) in
    let first : a ≡ b = first_same X a b (ties lt a a) (ties lt a b) (filter (ties lt a) xs) (filter (ties lt a) ys) (self_tie X lt o a) (tied X lt a b up down) (same a) in
    let again : (w : X) → filter (ties lt w) (a ∷ xs) ≡ filter (ties lt w) (a ∷ ys) = λ w. same w ∙ ap (λ (z : X). filter (ties lt w) (z ∷ ys)) (sym first) in
    let rest : xs ≡ ys = one_order X lt o xs ys r.1 s.1 (λ w. without_first X (ties lt w a) a (filter (ties lt w) xs) (filter (ties lt w) ys) (again w)) in
    ap (λ (z : X). z ∷ xs) first ∙ ap (λ (l : List X). b ∷ l) rest

pub stable_is_in_order : (X : Type 0) (lt : X → X → Bool) → IsStrictWeakOrder lt → (xs ys : List X) → IsSortedBy lt ys → IsStableBy lt xs ys → ys ≡ in_order lt xs
stable_is_in_order X lt o xs ys up stable =
    one_order X lt o ys (in_order lt xs) (sorted_rises X lt ys (sorted_far lt o ys up)) (order_rises X lt o xs) (λ w. stable w ∙ sym (order_keeps X lt o w xs))
