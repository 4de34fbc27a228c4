-- Sets as lists, and what is reached along pairs.
use Rattle.std.specs.Prelude.{◌≡◌, Bool, true, false, not, ◌&&◌, ◌⊎◌, ◌↔◌, List, [], ◌∷◌, IsTrue}
use Rattle.std.specs.List.{list_any}

-- x stands in the list
abbrev pub In : {X : Type 0} → X → List X → Type 0
In x [] = ⊥
In x (y ∷ ys) = (x ≡ y) ⊎ In x ys

-- a way along the pairs, from a to here: none at all, or a way and one pair more
pub data Path {X : Type 0} (pairs : List (X × X)) (a : X) : X → Type 0 where
  Here : Path pairs a a
  On : {b c : X} → Path pairs a b → In {X = X × X} (b, c) pairs → Path pairs a c

-- the test says whether two are one
abbrev pub Tells : {X : Type 0} → (X → X → Bool) → Type 0
Tells {X} same = (a b : X) → IsTrue (same a b) ↔ (a ≡ b)

-- whether x stands in the list
unfoldable pub has : {X : Type 0} → (X → X → Bool) → List X → X → Bool
has same xs x = list_any (same x) xs

-- whether the pair leads from the set to something that isn't in it
unfoldable pub leads_out : {X : Type 0} → (X → X → Bool) → X × X → List X → Bool
leads_out same pair xs = has same xs pair.0 && not (has same xs pair.1)

-- the set, with the pair's end and all that the rest leads to from there, where the pair leads out
unfoldable pub grown : {X : Type 0} → (X → X → Bool) → X × X → (List X → List X) → List X → List X
grown same pair close xs = elim (leads_out same pair xs) [ true ↦ close (pair.1 ∷ xs) | false ↦ xs ]

-- all that the pairs lead to from the set, the set included
unfoldable pub reach : {X : Type 0} → (X → X → Bool) → List (X × X) → List X → List X
reach same [] xs = xs
reach same (pair ∷ pairs) xs = grown same pair (reach same pairs) (reach same pairs xs)
