-- What is reached by computing is what paths lead to.
use Rattle.std.proofs.Common.{◌≡◌, Bool, true, false, not, ◌↔◌, List, [], ◌∷◌, refl, sym, ap, ◌∙◌, subst, inl, inr, ⊎_elim}
use Rattle.std.specs.List.{list_any}
use Rattle.std.proofs.lemmas.Bool.{false≢true, or_cases, or_left, or_right, and_parts, and_cases, not-false}
use Rattle.cry_base.specs.Sets.{In, Path, Tells, has, leads_out, grown, reach}
use Rattle.cry_base.specs.Sets.Path.{Here, On}

pub has-in : (X : Type 0) (same : X → X → Bool) → Tells same → (xs : List X) (x : X) → has same xs x ≡ true → In x xs
unfolding has
has-in X same tells [] x h = absurd (false≢true h)
has-in X same tells (y ∷ ys) x h =
    ⊎_elim (λ e. inl ((tells x y).0 e)) (λ r. inr (has-in X same tells ys x r)) (or_cases (same x y) (list_any (same x) ys) h)

pub in-has : (X : Type 0) (same : X → X → Bool) → Tells same → (xs : List X) (x : X) → In x xs → has same xs x ≡ true
unfolding has
in-has X same tells [] x i = absurd i
in-has X same tells (y ∷ ys) x i =
    ⊎_elim (λ e. or_left (same x y) (list_any (same x) ys) ((tells x y).1 e))
    (λ r. or_right (same x y) (list_any (same x) ys) (in-has X same tells ys x r)) i

-- a way goes on along more pairs
pub Path-more : {X : Type 0} {pairs : List (X × X)} {a c : X} (p : X × X) → Path pairs a c → Path (p ∷ pairs) a c
Path-more p Here = Here
Path-more p (On way step) = On (Path-more p way) (inr step)

-- one way after another
pub Path-on : {X : Type 0} {pairs : List (X × X)} {a b c : X} → Path pairs a b → Path pairs b c → Path pairs a c
Path-on first Here = first
Path-on first (On way step) = On (Path-on first way) step

grown-keeps : (X : Type 0) (same : X → X → Bool) (p : X × X) (close : List X → List X) → ((ys : List X) (y : X) → In y ys → In y (close ys)) → (xs : List X) (x : X) → In x xs → In x (grown same p close xs)
unfolding grown
grown-keeps X same p close keeps xs x i =
    elim (leads_out same p xs) as (λ b. In x (elim b [ true ↦ close (p.1 ∷ xs) | false ↦ xs ])) [ true ↦ keeps (p.1 ∷ xs) x (inr i) | false ↦ i ]

-- the set stays in what is reached from it
pub reach-keeps : (X : Type 0) (same : X → X → Bool) (pairs : List (X × X)) (xs : List X) (x : X) → In x xs → In x (reach same pairs xs)
unfolding reach
reach-keeps X same [] xs x i = i
reach-keeps X same (p ∷ pairs) xs x i =
    grown-keeps X same p (reach same pairs) (λ ys y. reach-keeps X same pairs ys y) (reach same pairs xs) x (reach-keeps X same pairs xs x i)

-- no pair leads out of the set
abbrev Closed : {X : Type 0} → List (X × X) → List X → Type 0
Closed {X} pairs xs = (q : X × X) → In q pairs → In q.0 xs → In q.1 xs

grown-closed : (X : Type 0) (same : X → X → Bool) → Tells same → (p : X × X) (pairs : List (X × X)) (close : List X → List X) → ((ys : List X) (y : X) → In y ys → In y (close ys)) → ((ys : List X) → Closed pairs (close ys)) → (xs : List X) → Closed pairs xs → Closed (p ∷ pairs) (grown same p close xs)
unfolding grown leads_out
grown-closed X same tells p pairs close keeps closes xs closed =
    elim (leads_out same p xs) as (λ b. leads_out same p xs ≡ b → Closed (p ∷ pairs) (elim b [ true ↦ close (p.1 ∷ xs) | false ↦ xs ])) [
      | true ↦ λ e q i from. ⊎_elim (λ (s : q ≡ p). keeps (p.1 ∷ xs) q.1 (inl (ap (λ (r : X × X). r.1) s))) (λ r. closes (p.1 ∷ xs) q r from) i
      | false ↦ λ e q i from. ⊎_elim
          (λ (s : q ≡ p). ⊎_elim
          (λ (out : has same xs p.0 ≡ false). absurd (false≢true (sym out ∙ in-has X same tells xs p.0 (subst (λ (r : X × X). In r.0 xs) s from))))
          (λ (there : not (has same xs p.1) ≡ false). subst (λ (r : X × X). In r.1 xs) (sym s) (has-in X same tells xs p.1 (not-false (has same xs p.1) there)))
          (and_cases (has same xs p.0) (not (has same xs p.1)) e))
          (λ r. closed q r from) i
    ] refl

pub reach-closed : (X : Type 0) (same : X → X → Bool) → Tells same → (pairs : List (X × X)) (xs : List X) → Closed pairs (reach same pairs xs)
unfolding reach
reach-closed X same tells [] xs = λ q i from. absurd i
reach-closed X same tells (p ∷ pairs) xs =
    grown-closed X same tells p pairs (reach same pairs) (reach-keeps X same pairs) (reach-closed X same tells pairs) (reach same pairs xs) (reach-closed X same tells pairs xs)

-- what is reached from a set along pairs has a way from one of the set
abbrev pub FromSet : {X : Type 0} → List (X × X) → List X → X → Type 0
FromSet {X} pairs xs x = (a : X) × In a xs × Path pairs a x

grown-sound : (X : Type 0) (same : X → X → Bool) → Tells same → (p : X × X) (pairs : List (X × X)) (close : List X → List X) → ((ys : List X) (y : X) → In y (close ys) → FromSet pairs ys y) → (zs xs : List X) → ((y : X) → In y xs → FromSet pairs zs y) → (x : X) → In x (grown same p close xs) → FromSet (p ∷ pairs) zs x
unfolding grown leads_out
grown-sound X same tells p pairs close sound zs xs before x =
    elim (leads_out same p xs) as (λ b. leads_out same p xs ≡ b → In x (elim b [ true ↦ close (p.1 ∷ xs) | false ↦ xs ]) → FromSet (p ∷ pairs) zs x) [
      | true ↦ λ e i.
          let told : FromSet pairs (p.1 ∷ xs) x = sound (p.1 ∷ xs) x i in
          ⊎_elim
          (λ (s : told.0 ≡ p.1).
          let start : FromSet pairs zs p.0 = before p.0 (has-in X same tells xs p.0 (and_parts (has same xs p.0) (not (has same xs p.1)) e).0) in
          let rest : Path pairs p.1 x = subst (λ a. Path pairs a x) s told.2 in
          (start.0, start.1, Path-on (On (Path-more p start.2) (inl refl)) (Path-more p rest)))
          (λ r.
          let start : FromSet pairs zs told.0 = before told.0 r in
          (start.0, start.1, Path-more p (Path-on start.2 told.2)))
          told.1
      | false ↦ λ e i. let told : FromSet pairs zs x = before x i in (told.0, told.1, Path-more p told.2)
    ] refl

pub reach-sound : (X : Type 0) (same : X → X → Bool) → Tells same → (pairs : List (X × X)) (xs : List X) (x : X) → In x (reach same pairs xs) → FromSet pairs xs x
unfolding reach
reach-sound X same tells [] xs x i = (x, i, Here)
reach-sound X same tells (p ∷ pairs) xs x i =
    grown-sound X same tells p pairs (reach same pairs) (reach-sound X same tells pairs) xs (reach same pairs xs) (reach-sound X same tells pairs xs) x i

-- a closed set has all that ways from it lead to
pub Closed-path : (X : Type 0) {pairs : List (X × X)} {a c : X} (xs : List X) → Closed pairs xs → In a xs → Path pairs a c → In c xs
Closed-path X xs closed i Here = i
Closed-path X xs closed i (On {b = b} {c = c} way step) = closed (b, c) step (Closed-path X xs closed i way)

pub reach_told : (X : Type 0) (same : X → X → Bool) → Tells same → (pairs : List (X × X)) (xs : List X) (x : X) → In x (reach same pairs xs) ↔ FromSet pairs xs x
reach_told X same tells pairs xs x = (
  reach-sound X same tells pairs xs x,
  λ told. Closed-path X (reach same pairs xs) (reach-closed X same tells pairs xs) (reach-keeps X same pairs xs told.0 told.1) told.2,
)
