-- The deepest node of a folder, and lists that are mapped.
use Rattle.std.proofs.Common.{◌≡◌, ℕ, ◌≤◌, ◌||◌, List, [], ◌∷◌, map, Some, refl, ap, ◌∙◌}
use Rattle.std.specs.List.{All}
use Rattle.std.proofs.lemmas.Bool.{eq-eqb}
use Rattle.std.proofs.lemmas.List.Elements.{All-head, All-tail}
use Rattle.cry_base.specs.Refusing.{deepest}
use Rattle.cry_base.specs.Store.{Store, FolderEntry, folder_entry, folder_node, depth_of, is_within}
use Rattle.folder_nodes.specs.Trees.{IsTree}
use Rattle.folder_nodes.proofs.Moved.{folder_below}
use Rattle.folder_nodes.proofs.Treed.{within_on}
use Rattle.folder_nodes.proofs.Upward.{at_id}

pub map_twice : (X Y Z : Type 0) (v : Y → Z) (h : X → Y) (xs : List X) → map v (map h xs) ≡ map (λ x. v (h x)) xs
map_twice X Y Z v h [] = refl
map_twice X Y Z v h (x ∷ xs) = ap (λ l. v (h x) ∷ l) (map_twice X Y Z v h xs)

pub map_same : (X Z : Type 0) (v w : X → Z) (xs : List X) → All (λ x. v x ≡ w x) xs → map v xs ≡ map w xs
map_same X Z v w [] all = refl
map_same X Z v w (x ∷ xs) all = ap (λ z. z ∷ map v xs) (All-head (λ x. v x ≡ w x) x xs all) ∙ ap (λ l. w x ∷ l) (map_same X Z v w xs (All-tail (λ x. v x ≡ w x) x xs all))

-- a folder isn't deeper than its deepest node
pub depth_below : (s : Store) → IsTree s → (f : ℕ) (e : FolderEntry) → folder_entry s f ≡ Some e → depth_of s (folder_node f) ≤ deepest s f
unfolding folder_entry
depth_below s tree f e p =
    folder_below s f f e p (within_on s tree f f e p ∙ ap (λ b. b || is_within s e.parent f) (eq-eqb e.id f (at_id s.folders f e p)))
