-- What stands in lists that are joined, mapped or filtered.
use Rattle.std.proofs.Common.{◌≡◌, Bool, true, false, cond, ◌⊎◌, ◌↔◌, List, [], ◌∷◌, ◌++◌, map, filter, IsTrue, refl, sym, ap, ◌∙◌, subst, inl, inr, ⊎_elim}
use Rattle.std.specs.List.{flat_map, list_any}
use Rattle.std.proofs.lemmas.Bool.{false≢true, or_cases, or_left, or_right}
use Rattle.cry_base.specs.Sets.{In}

pub In-append : (X : Type 0) (r : X) (xs ys : List X) → In r (xs ++ ys) ↔ (In r xs ⊎ In r ys)
In-append X r [] ys = (λ i. inr i, λ e. ⊎_elim (λ n. absurd n) (λ i. i) e)
In-append X r (x ∷ xs) ys = (
  λ i. ⊎_elim (λ e. inl (inl e)) (λ t. ⊎_elim (λ a. inl (inr a)) (λ b. inr b) ((In-append X r xs ys).0 t)) i,
  λ e. ⊎_elim (λ f. ⊎_elim (λ s. inl s) (λ a. inr ((In-append X r xs ys).1 (inl a))) f) (λ b. inr ((In-append X r xs ys).1 (inr b))) e,
)

pub In-map : (X Y : Type 0) (f : X → Y) (y : Y) (xs : List X) → In y (map f xs) ↔ ((x : X) × In x xs × (y ≡ f x))
In-map X Y f y [] = (λ i. absurd i, λ w. absurd w.1)
In-map X Y f y (x ∷ xs) = (
  λ i. ⊎_elim (λ e. (x, inl refl, e)) (λ r. let w = (In-map X Y f y xs).0 r in (w.0, inr w.1, w.2)) i,
  λ w. ⊎_elim (λ (e : w.0 ≡ x). inl (w.2 ∙ ap f e)) (λ i. inr ((In-map X Y f y xs).1 (w.0, i, w.2))) w.1,
)

pub In-flat_map : (X Y : Type 0) (f : X → List Y) (y : Y) (xs : List X) → In y (flat_map f xs) ↔ ((x : X) × In x xs × In y (f x))
In-flat_map X Y f y [] = (λ i. absurd i, λ w. absurd w.1)
In-flat_map X Y f y (x ∷ xs) = (
  λ i. ⊎_elim (λ l. (x, inl refl, l)) (λ r. let w = (In-flat_map X Y f y xs).0 r in (w.0, inr w.1, w.2)) ((In-append Y y (f x) (flat_map f xs)).0 i),
  λ w. (In-append Y y (f x) (flat_map f xs)).1 (⊎_elim
      (λ (e : w.0 ≡ x). inl (subst (λ z. In y (f z)) e w.2))
      (λ i. inr ((In-flat_map X Y f y xs).1 (w.0, i, w.2))) w.1),
)

pub In-filter : (X : Type 0) (p : X → Bool) (r : X) (xs : List X) → In r (filter p xs) → In r xs × IsTrue (p r)
In-filter X p r [] = λ i. absurd i
In-filter X p r (x ∷ xs) =
    (elim (p x) as (λ b. p x ≡ b → In r (cond b (x ∷ filter p xs) (filter p xs)) → In r (x ∷ xs) × IsTrue (p r)) [
      | true ↦ λ t i. ⊎_elim
          (λ (e : r ≡ x). (inl e, subst (λ z. p z ≡ true) (sym e) t))
          (λ u. let told = In-filter X p r xs u in (inr told.0, told.1)) i
      | false ↦ λ t i. let told = In-filter X p r xs i in (inr told.0, told.1)
    ]) refl

pub filter-In : (X : Type 0) (p : X → Bool) (r : X) (xs : List X) → In r xs → IsTrue (p r) → In r (filter p xs)
filter-In X p r [] = λ i h. i
filter-In X p r (x ∷ xs) = λ i h.
    (elim (p x) as (λ b. p x ≡ b → In r (cond b (x ∷ filter p xs) (filter p xs))) [
      | true ↦ λ t. ⊎_elim (λ (e : r ≡ x). inl e) (λ u. inr (filter-In X p r xs u h)) i
      | false ↦ λ t. ⊎_elim
          (λ (e : r ≡ x). absurd (false≢true (sym t ∙ subst (λ z. p z ≡ true) e h)))
          (λ u. filter-In X p r xs u h) i
    ]) refl

pub In-any : (X : Type 0) (test : X → Bool) (P : X → Type 0) → ((x : X) → IsTrue (test x) ↔ P x) → (xs : List X) → IsTrue (list_any test xs) ↔ ((x : X) × In x xs × P x)
In-any X test P told [] = (λ t. absurd (false≢true t), λ w. absurd w.1)
In-any X test P told (x ∷ xs) = (
  λ t. ⊎_elim (λ l. (x, inl refl, (told x).0 l)) (λ r. let w = (In-any X test P told xs).0 r in (w.0, inr w.1, w.2)) (or_cases (test x) (list_any test xs) t),
  λ w. ⊎_elim
      (λ (e : w.0 ≡ x). or_left (test x) (list_any test xs) ((told x).1 (subst P e w.2)))
      (λ i. or_right (test x) (list_any test xs) ((In-any X test P told xs).1 (w.0, i, w.2))) w.1,
)
