-- Look-ups in lists that grow, shrink or change in one place.
use Rattle.std.proofs.Common.{◌≡◌, suc, ◌||◌, Bool, true, false, cond, List, [], ◌∷◌, ◌++◌, map, filter, find, Some, None, refl, sym, ap, ◌∙◌, subst}
use Rattle.std.proofs.Common.{arith}
use Rattle.std.specs.Option.{option_map}
use Rattle.std.specs.List.{All, AllPairs, list_any}
use Rattle.std.proofs.lemmas.Bool.{false≢true}
use Rattle.std.proofs.lemmas.List.Elements.{All-nil, All-cons, All-head, All-tail, All-append, All-map, All-weaker}
use Rattle.std.proofs.lemmas.List.Kept.{AllPairs-cons}

-- a look-up behind a change of each element
pub find-map : (X Y : Type 0) (g : X → Y) (p : Y → Bool) (xs : List X) → find p (map g xs) ≡ option_map g (find (λ x. p (g x)) xs)
find-map X Y g p [] = refl
find-map X Y g p (x ∷ xs) =
    elim (p (g x)) as (λ b. cond b (Some (g x)) (find p (map g xs)) ≡ option_map g (cond b (Some x) (find (λ x. p (g x)) xs))) [
      | true ↦ refl
      | false ↦ find-map X Y g p xs
    ]

pub filter-map : (X Y : Type 0) (g : X → Y) (p : Y → Bool) (xs : List X) → filter p (map g xs) ≡ map g (filter (λ x. p (g x)) xs)
filter-map X Y g p [] = refl
filter-map X Y g p (x ∷ xs) =
    elim (p (g x)) as (λ b. cond b (g x ∷ filter p (map g xs)) (filter p (map g xs)) ≡ map g (cond b (x ∷ filter (λ x. p (g x)) xs) (filter (λ x. p (g x)) xs))) [
      | true ↦ ap (λ l. g x ∷ l) (filter-map X Y g p xs)
      | false ↦ filter-map X Y g p xs
    ]

-- what is found in front stays found, and else the look-up goes on behind
-- tests that agree find the same
pub find_alike : (X : Type 0) (p q : X → Bool) → ((x : X) → p x ≡ q x) → (xs : List X) → find p xs ≡ find q xs
find_alike X p q same [] = refl
find_alike X p q same (x ∷ xs) = ap (λ b. cond b (Some x) (find p xs)) (same x) ∙ ap (cond (q x) (Some x)) (find_alike X p q same xs)

pub find-append : (X : Type 0) (p : X → Bool) (xs ys : List X) → find p xs ≡ None → find p (xs ++ ys) ≡ find p ys
find-append X p [] ys e = refl
find-append X p (x ∷ xs) ys e =
    (elim (p x) as (λ b. cond b (Some x) (find p xs) ≡ None → cond b (Some x) (find p (xs ++ ys)) ≡ find p ys) [
      | true ↦ λ q. absurd (cc)
      | false ↦ λ q. find-append X p xs ys q
    ]) e

pub find-front : (X : Type 0) (p : X → Bool) (xs ys : List X) (y : X) → find p xs ≡ Some y → find p (xs ++ ys) ≡ Some y
find-front X p [] ys y e = absurd (cc)
find-front X p (x ∷ xs) ys y e =
    (elim (p x) as (λ b. cond b (Some x) (find p xs) ≡ Some y → cond b (Some x) (find p (xs ++ ys)) ≡ Some y) [
      | true ↦ λ q. q
      | false ↦ λ q. find-front X p xs ys y q
    ]) e

-- what is found has what all have
pub All-found : (X : Type 0) (P : X → Type 0) (p : X → Bool) (xs : List X) (y : X) → All P xs → find p xs ≡ Some y → P y
All-found X P p [] y all e = absurd (cc)
All-found X P p (x ∷ xs) y all e =
    (elim (p x) as (λ b. cond b (Some x) (find p xs) ≡ Some y → P y) [
      | true ↦ λ q. let same : x ≡ y = cc in subst P same (All-head P x xs all)
      | false ↦ λ q. All-found X P p xs y (All-tail P x xs all) q
    ]) e

pub All-kept : (X : Type 0) (P : X → Type 0) (p : X → Bool) (xs : List X) → All P xs → All P (filter p xs)
All-kept X P p [] all = All-nil P
All-kept X P p (x ∷ xs) all =
    elim (p x) as (λ b. All P (cond b (x ∷ filter p xs) (filter p xs))) [
      | true ↦ All-cons P x (filter p xs) (All-head P x xs all) (All-kept X P p xs (All-tail P x xs all))
      | false ↦ All-kept X P p xs (All-tail P x xs all)
    ]

-- what is kept passes the test too
pub All-passed : (X : Type 0) (P : X → Type 0) (p : X → Bool) (xs : List X) → All P xs → All (λ x. P x × (p x ≡ true)) (filter p xs)
All-passed X P p [] all = All-nil (λ x. P x × (p x ≡ true))
All-passed X P p (x ∷ xs) all =
    (elim (p x) as (λ b. p x ≡ b → All (λ x. P x × (p x ≡ true)) (cond b (x ∷ filter p xs) (filter p xs))) [
      | true ↦ λ t. All-cons (λ x. P x × (p x ≡ true)) x (filter p xs) (All-head P x xs all, t) (All-passed X P p xs (All-tail P x xs all))
      | false ↦ λ t. All-passed X P p xs (All-tail P x xs all)
    ]) refl

pub All-push : (X : Type 0) (P : X → Type 0) (xs : List X) (y : X) → All P xs → P y → All P (xs ++ y ∷ [])
All-push X P xs y all here = All-append P xs (y ∷ []) all (All-cons P y [] here (All-nil P))

-- none passes where the test for any fails
pub All-none : (X : Type 0) (p : X → Bool) (xs : List X) → list_any p xs ≡ false → All (λ x. p x ≡ false) xs
All-none X p [] e = All-nil (λ x. p x ≡ false)
All-none X p (x ∷ xs) e =
    (elim (p x) as (λ b. p x ≡ b → (b || list_any p xs) ≡ false → All (λ x. p x ≡ false) (x ∷ xs)) [
      | true ↦ λ t q. absurd (false≢true (sym q))
      | false ↦ λ t q. All-cons (λ x. p x ≡ false) x xs t (All-none X p xs q)
    ]) refl e

pub pairs_push : (X : Type 0) (R : X → X → Type 0) (xs : List X) (y : X) → AllPairs R xs → All (λ x. R x y) xs → AllPairs R (xs ++ y ∷ [])
pairs_push X R [] y pairs all = AllPairs-cons R y [] (All-nil (R y)) (λ i j d lt within. absurd (omega arith))
pairs_push X R (x ∷ xs) y pairs all =
    AllPairs-cons R x (xs ++ y ∷ [])
    (All-push X (R x) xs y (λ k d within. pairs 0 (suc k) d (omega arith) (omega arith)) (All-head (λ z. R z y) x xs all))
    (pairs_push X R xs y (λ i j d lt within. pairs (suc i) (suc j) d (omega arith) (omega arith)) (All-tail (λ z. R z y) x xs all))

-- a change of elements that keeps their order
pub pairs_map : (X : Type 0) (R : X → X → Type 0) (h : X → X) → ((x y : X) → R x y → R (h x) (h y)) → (xs : List X) → AllPairs R xs → AllPairs R (map h xs)
pairs_map X R h keeps [] pairs = λ i j d lt within. absurd (omega arith)
pairs_map X R h keeps (x ∷ xs) pairs =
    AllPairs-cons R (h x) (map h xs)
    (All-map (R (h x)) h xs (All-weaker (R x) (λ y. R (h x) (h y)) (λ y r. keeps x y r) xs (λ k d within. pairs 0 (suc k) d (omega arith) (omega arith))))
    (pairs_map X R h keeps xs (λ i j d lt within. pairs (suc i) (suc j) d (omega arith) (omega arith)))
