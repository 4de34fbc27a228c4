-- Lists that are filtered, searched and mapped.
use Rattle.std.proofs.Common.{◌≡◌, ℕ, zero, suc, ◌<◌, Bool, true, false, cond, ◌||◌, List, [], ◌∷◌, map, filter, length, get_or, Option, Some, None, is_some, Bor, refl, ap, ◌∙◌, inl, inr, arith}
use Rattle.std.specs.List.{All, AllPairs, find, list_any}
use Rattle.std.specs.Option.{option_copied}
use Rattle.std.proofs.lemmas.List.Elements.{All-nil, All-cons, All-head, All-tail, All-map}
use Rattle.std.proofs.lemmas.List.Kept.{AllPairs-cons}
use Rattle.cry_base.specs.Sets.{In}

-- an element at a place stands in the list
pub In-get_or : (X : Type 0) (xs : List X) (i : ℕ) (d : X) → i < length xs → In (get_or xs i d) xs
In-get_or X [] i d within = absurd (omega arith)
In-get_or X (x ∷ xs) zero d within = inl refl
In-get_or X (x ∷ xs) (suc i) d within = inr (In-get_or X xs i d (omega arith))

-- two tests that agree on what stands in the list
pub filter_same : (X : Type 0) (p q : X → Bool) (xs : List X) → ((x : X) → In x xs → p x ≡ q x) → filter p xs ≡ filter q xs
filter_same X p q [] agree = refl
filter_same X p q (x ∷ xs) agree =
    ap (λ b. cond b (x ∷ filter p xs) (filter p xs)) (agree x (inl refl))
    ∙ ap (λ ys. cond (q x) (x ∷ ys) ys) (filter_same X p q xs (λ y i. agree y (inr i)))

pub list_any_same : (X : Type 0) (p q : X → Bool) (xs : List X) → ((x : X) → In x xs → p x ≡ q x) → list_any p xs ≡ list_any q xs
list_any_same X p q [] agree = refl
list_any_same X p q (x ∷ xs) agree = grind (arith, agree x (inl refl), list_any_same X p q xs (λ y i. agree y (inr i)))

-- a search finds something just where something passes
pub is_some-find : (X : Type 0) (p : X → Bool) (xs : List X) → is_some (find p xs) ≡ list_any p xs
is_some-find X p [] = refl
is_some-find X p (x ∷ xs) =
    (elim (p x) as (λ b. is_some (cond b (Some x) (find p xs)) ≡ (b || list_any p xs)) [
      | true ↦ refl
      | false ↦ is_some-find X p xs
    ])

-- what is made of ordered elements is ordered
pub AllPairs-map : (X Y : Type 0) (R : X → X → Type 0) (S : Y → Y → Type 0) (P : X → Type 0) (f : X → Y) → ((a b : X) → P a → P b → R a b → S (f a) (f b)) → (xs : List X) → All P xs → AllPairs R xs → AllPairs S (map f xs)
AllPairs-map X Y R S P f keeps [] all pairs = λ i j d lt within. absurd (omega arith)
AllPairs-map X Y R S P f keeps (x ∷ xs) all pairs =
    AllPairs-cons S (f x) (map f xs)
    (All-map (S (f x)) f xs (λ k d within. keeps x (get_or xs k d) (All-head P x xs all) (All-tail P x xs all k d within) (pairs 0 (suc k) d (omega arith) (omega arith))))
    (AllPairs-map X Y R S P f keeps xs (All-tail P x xs all) (λ i j d lt within. pairs (suc i) (suc j) d (omega arith) (omega arith)))

pub All-filter : (X : Type 0) (p : X → Bool) (P : X → Type 0) → ((x : X) → p x ≡ true → P x) → (xs : List X) → All P (filter p xs)
All-filter X p P tells [] = All-nil P
All-filter X p P tells (x ∷ xs) =
    (elim (p x) as (λ b. p x ≡ b → All P (cond b (x ∷ filter p xs) (filter p xs))) [
      | true ↦ λ told. All-cons P x (filter p xs) (tells x told) (All-filter X p P tells xs)
      | false ↦ λ told. All-filter X p P tells xs
    ]) refl

-- a copy of what a reference points to is there just where the reference is
pub is_some-copied : (X : Type 0) (o : Option (Bor X)) → is_some (option_copied o) ≡ is_some o
is_some-copied X None = refl
is_some-copied X (Some x) = refl
