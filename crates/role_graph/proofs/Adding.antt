-- Lists that grow by what one row more gives.
use Rattle.std.proofs.Common.{◌≡◌, List, [], ◌∷◌, ◌++◌, map, refl, sym, ap, ◌∙◌}
use Rattle.std.specs.List.{flat_map}
use Rattle.std.proofs.lemmas.List.{append_assoc, append-nil, map-append}

flat-more : (X Y : Type 0) (g : X → List Y) (xs : List X) (x : X) → flat_map g (xs ++ x ∷ []) ≡ flat_map g xs ++ g x
flat-more X Y g [] x = append-nil (g x)
flat-more X Y g (y ∷ ys) x = ap (λ l. g y ++ l) (flat-more X Y g ys x) ∙ sym (append_assoc (g y) (flat_map g ys) (g x))

pub flat_added : (X Y : Type 0) (g : X → List Y) (old : List Y) (xs : List X) (x : X) → (old ++ flat_map g xs) ++ g x ≡ old ++ flat_map g (xs ++ x ∷ [])
flat_added X Y g old xs x = append_assoc old (flat_map g xs) (g x) ∙ ap (λ l. old ++ l) (sym (flat-more X Y g xs x))

pub map_added : (X Y : Type 0) (g : X → Y) (old : List Y) (xs : List X) (x : X) → (old ++ map g xs) ++ g x ∷ [] ≡ old ++ map g (xs ++ x ∷ [])
map_added X Y g old xs x = append_assoc old (map g xs) (g x ∷ []) ∙ ap (λ l. old ++ l) (sym (map-append g xs (x ∷ [])))

pub flat_map_map : (X Y Z : Type 0) (g : Y → List Z) (h : X → Y) (xs : List X) → flat_map g (map h xs) ≡ flat_map (λ x. g (h x)) xs
flat_map_map X Y Z g h [] = refl
flat_map_map X Y Z g h (x ∷ xs) = ap (λ l. g (h x) ++ l) (flat_map_map X Y Z g h xs)

pub map_map : (X Y Z : Type 0) (g : Y → Z) (h : X → Y) (xs : List X) → map g (map h xs) ≡ map (λ x. g (h x)) xs
map_map X Y Z g h [] = refl
map_map X Y Z g h (x ∷ xs) = ap (λ l. g (h x) ∷ l) (map_map X Y Z g h xs)
