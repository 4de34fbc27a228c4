-- What is found first in ascending lists.
use Rattle.std.proofs.Common.{◌≡◌, ℕ, suc, ◌<◌, ◌≤◌, Bool, true, false, cond, List, [], ◌∷◌, find, map, length, get_or, Some, None, refl, sym, ap, ◌∙◌, subst, inl, inr, ⊎_elim, arith}
use Rattle.std.specs.List.{All, list_any}
use Rattle.std.proofs.lemmas.Bool.{false≢true}
use Rattle.std.proofs.lemmas.List.Elements.{All-nil, All-cons, All-head, All-tail, All-map}
use Rattle.std.proofs.lemmas.List.Kept.{AllPairs-cons}
use Rattle.std.proofs.lemmas.List.{length-map}
use Rattle.std.proofs.Math.ListN.{get_or-map}
use Rattle.cry_base.specs.Sets.{In}
use Rattle.cry_base.proofs.Finding.{find-found, found-find}
use Rattle.cry_base.proofs.Members.{In-any}
use Rattle.sorted_table.specs.Rows.{IsRising}

pub All-in : (X : Type 0) (P : X → Type 0) (xs : List X) (x : X) → All P xs → In x xs → P x
All-in X P [] x all i = absurd i
All-in X P (y ∷ xs) x all i = ⊎_elim (λ (e : x ≡ y). subst P (sym e) (All-head P y xs all)) (λ r. All-in X P xs x (All-tail P y xs all) r) i

pub in-All : (X : Type 0) (P : X → Type 0) (xs : List X) → ((x : X) → In x xs → P x) → All P xs
in-All X P [] here = All-nil P
in-All X P (y ∷ xs) here = All-cons P y xs (here y (inl refl)) (in-All X P xs (λ x i. here x (inr i)))

pub head_below : (X : Type 0) (rank : X → ℕ) (x : X) (xs : List X) → IsRising rank (x ∷ xs) → All (λ y. rank x < rank y) xs
head_below X rank x xs rising = λ k d within. rising 0 (suc k) d (omega arith) (omega arith)

pub rest_rising : (X : Type 0) (rank : X → ℕ) (x : X) (xs : List X) → IsRising rank (x ∷ xs) → IsRising rank xs
rest_rising X rank x xs rising = λ i j d lt within. rising (suc i) (suc j) d (omega arith) (omega arith)

-- two of one rank are one
pub same_ranked : (X : Type 0) (rank : X → ℕ) (xs : List X) → IsRising rank xs → (x y : X) → In x xs → In y xs → rank x ≡ rank y → x ≡ y
same_ranked X rank [] rising x y i j e = absurd i
same_ranked X rank (z ∷ xs) rising x y i j e =
    ⊎_elim
    (λ (a : x ≡ z). ⊎_elim
    (λ (b : y ≡ z). a ∙ sym b)
    (λ r. absurd (let up : rank z < rank y = All-in X (λ w. rank z < rank w) xs y (head_below X rank z xs rising) r in let at : rank x ≡ rank z = ap rank a in omega (arith, up, at, e)))
    j)
    (λ r. ⊎_elim
    (λ (b : y ≡ z). absurd (let up : rank z < rank x = All-in X (λ w. rank z < rank w) xs x (head_below X rank z xs rising) r in let at : rank y ≡ rank z = ap rank b in omega (arith, up, at, e)))
    (λ s. same_ranked X rank xs (rest_rising X rank z xs rising) x y r s e)
    j)
    i

-- the first that passes is the least
pub least : (p : ℕ → Bool) (xs : List ℕ) (a k : ℕ) → IsRising (λ n. n) xs → find p xs ≡ Some a → In k xs → p k ≡ true → a ≤ k
least p [] a k rising e i t = absurd i
least p (x ∷ xs) a k rising e i t =
    (elim (p x) as (λ b. p x ≡ b → cond b (Some x) (find p xs) ≡ Some a → a ≤ k) [
      | true ↦ λ s q.
          let same : x ≡ a = cc in
          ⊎_elim
          (λ (here : k ≡ x). omega (arith, same, here))
          (λ r. let up : x < k = All-in ℕ (λ n. x < n) xs k (head_below ℕ (λ n. n) x xs rising) r in omega (arith, same, up)) i
      | false ↦ λ s q.
          ⊎_elim
          (λ (here : k ≡ x). absurd (false≢true (sym s ∙ ap p (sym here) ∙ t)))
          (λ r. least p xs a k (rest_rising ℕ (λ n. n) x xs rising) q r t) i
    ]) refl e

-- two tests that pass the same numbers find the same number first
pub same_first : (p q : ℕ → Bool) (xs ys : List ℕ) → IsRising (λ n. n) xs → IsRising (λ n. n) ys → ((k : ℕ) → In k xs → p k ≡ true → In k ys × (q k ≡ true)) → ((k : ℕ) → In k ys → q k ≡ true → In k xs × (p k ≡ true)) → find p xs ≡ find q ys
same_first p q xs ys up down go back =
    (elim (find p xs) as (λ o. find p xs ≡ o → o ≡ find q ys) [
      | Some a ↦ λ e.
          let here = find-found ℕ p xs a e in
          let there = go a here.0 here.1 in
          let other = found-find ℕ q a ys there.0 there.1 in
          let found = find-found ℕ q ys other.0 other.1 in
          let home = back other.0 found.0 found.1 in
          let low : a ≤ other.0 = least p xs a other.0 up e home.0 home.1 in
          let high : other.0 ≤ a = least q ys other.0 a down other.1 there.0 there.1 in
          let same : a ≡ other.0 = omega (arith, low, high) in
          ap (λ k. Some k) same ∙ sym other.1
      | None ↦ λ e.
          (elim (find q ys) as (λ o. find q ys ≡ o → None ≡ o) [
            | None ↦ λ f. refl
            | Some b ↦ λ f.
                let found = find-found ℕ q ys b f in
                let home = back b found.0 found.1 in
                let other = found-find ℕ p b xs home.0 home.1 in
                absurd (cc)
          ]) refl
    ]) refl

-- two tests that pass the same of two lists agree whether any passes
pub same_any : (X : Type 0) (Y : Type 0) (p : X → Bool) (q : Y → Bool) (xs : List X) (ys : List Y) → ((x : X) → In x xs → p x ≡ true → (y : Y) × In y ys × (q y ≡ true)) → ((y : Y) → In y ys → q y ≡ true → (x : X) × In x xs × (p x ≡ true)) → list_any p xs ≡ list_any q ys
same_any X Y p q xs ys go back =
    (elim (list_any p xs) as (λ b. list_any p xs ≡ b → b ≡ list_any q ys) [
      | true ↦ λ e.
          let here = (In-any X p (λ x. p x ≡ true) (λ x. (λ t. t, λ t. t)) xs).0 e in
          sym ((In-any Y q (λ y. q y ≡ true) (λ y. (λ t. t, λ t. t)) ys).1 (go here.0 here.1 here.2))
      | false ↦ λ e.
          (elim (list_any q ys) as (λ b. list_any q ys ≡ b → false ≡ b) [
            | false ↦ λ f. refl
            | true ↦ λ f.
                let there = (In-any Y q (λ y. q y ≡ true) (λ y. (λ t. t, λ t. t)) ys).0 f in
                absurd (false≢true (sym e ∙ (In-any X p (λ x. p x ≡ true) (λ x. (λ t. t, λ t. t)) xs).1 (back there.0 there.1 there.2)))
          ]) refl
    ]) refl

-- what rises by a number that a map keeps rises behind the map, and the other way round
pub rising_through : (X Y : Type 0) (h : X → Y) (rank : Y → ℕ) (xs : List X) → IsRising (λ x. rank (h x)) xs → IsRising rank (map h xs)
rising_through X Y h rank [] rising = λ i j d lt within. absurd (omega arith)
rising_through X Y h rank (x ∷ xs) rising =
    AllPairs-cons (λ (a b : Y). rank a < rank b) (h x) (map h xs)
    (All-map (λ y. rank (h x) < rank y) h xs (head_below X (λ z. rank (h z)) x xs rising))
    (rising_through X Y h rank xs (rest_rising X (λ z. rank (h z)) x xs rising))

pub rising_before : (X Y : Type 0) (h : X → Y) (rank : Y → ℕ) (xs : List X) → IsRising rank (map h xs) → IsRising (λ x. rank (h x)) xs
rising_before X Y h rank xs rising = λ i j d lt within.
    let long : length (map h xs) ≡ length xs = simp length-map in
    let up : rank (get_or (map h xs) i (h d)) < rank (get_or (map h xs) j (h d)) = rising i j (h d) lt (omega (arith, long, within)) in
    let one : rank (get_or (map h xs) i (h d)) ≡ rank (h (get_or xs i d)) = ap rank (get_or-map h xs i d) in
    let two : rank (get_or (map h xs) j (h d)) ≡ rank (h (get_or xs j d)) = ap rank (get_or-map h xs j d) in
    omega (arith, up, one, two)

-- numbers of what rises rise
pub map_rising : (X : Type 0) (rank : X → ℕ) (xs : List X) → IsRising rank xs → IsRising (λ n. n) (map rank xs)
map_rising X rank xs rising = rising_through X ℕ rank (λ n. n) xs rising
