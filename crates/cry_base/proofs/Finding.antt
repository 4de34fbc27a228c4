-- A path finds a node that has it, where one has.
use Rattle.std.proofs.Common.{◌≡◌, ℕ, Bool, true, false, cond, ◌↔◌, List, [], ◌∷◌, Some, IsTrue, inl, inr, ⊎_elim, refl, sym, ap, ◌∙◌, subst}
use Rattle.std.specs.List.{find}
use Rattle.std.specs.Prelude.{bytes_eq}
use Rattle.std.proofs.lemmas.Bool.{eqb-true, eq-eqb, false≢true}
use lib.Pointwise.{pointwise_decides}
use Rattle.cry_base.specs.Sets.{In}
use Rattle.cry_base.specs.Store.{Store, nodes_of, node_at, path_of}
use Rattle.cry_base.specs.declared.roles.Node.{Node}

-- what a search finds stands there and passes
pub find-found : (X : Type 0) (p : X → Bool) (xs : List X) (y : X) → find p xs ≡ Some y → In y xs × IsTrue (p y)
find-found X p [] y = λ e. absurd (cc)
find-found X p (x ∷ xs) y =
    (elim (p x) as (λ b. p x ≡ b → cond b (Some x) (find p xs) ≡ Some y → In y (x ∷ xs) × IsTrue (p y)) [
      | true ↦ λ t e. let same : x ≡ y = cc in (inl (sym same), subst (λ z. p z ≡ true) same t)
      | false ↦ λ t e. let told = find-found X p xs y e in (inr told.0, told.1)
    ]) refl

-- what stands there and passes is found, or something before it
pub found-find : (X : Type 0) (p : X → Bool) (x : X) (xs : List X) → In x xs → IsTrue (p x) → (y : X) × (find p xs ≡ Some y)
found-find X p x [] = λ i t. absurd i
found-find X p x (z ∷ zs) = λ i t.
    (elim (p z) as (λ b. p z ≡ b → (y : X) × (cond b (Some z) (find p zs) ≡ Some y)) [
      | true ↦ λ s. (z, refl)
      | false ↦ λ s. ⊎_elim
          (λ (e : x ≡ z). absurd (false≢true (sym s ∙ ap p (sym e) ∙ t)))
          (λ r. found-find X p x zs r t) i
    ]) refl

bytes_told : (a b : List ℕ) → IsTrue (bytes_eq a b) ↔ (a ≡ b)
bytes_told a b = let told = pointwise_decides (λ x y. (eqb-true x y, eq-eqb x y)) a b in (told.0, told.1)

pub node_found : (s : Store) (path : List ℕ) (node : Node) → node_at s path ≡ Some node → In node (nodes_of s) × (path_of s node ≡ path)
unfolding node_at
node_found s path node e =
    let told = find-found Node (λ n. bytes_eq (path_of s n) path) (nodes_of s) node e in
    (told.0, (bytes_told (path_of s node) path).0 told.1)

pub node_finds : (s : Store) (node : Node) → In node (nodes_of s) → (other : Node) × (node_at s (path_of s node) ≡ Some other)
unfolding node_at
node_finds s node i = found-find Node (λ n. bytes_eq (path_of s n) (path_of s node)) node (nodes_of s) i ((bytes_told (path_of s node) (path_of s node)).1 refl)
