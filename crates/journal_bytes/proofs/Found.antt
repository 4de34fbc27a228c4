-- What is looked up in a store once a node was added or changed, and what a path that finds a file tells of its name.
use Rattle.std.proofs.Common.{◌≡◌, ℕ, ◌+◌, ◌≤◌, Bool, true, false, cond, ◌==◌, List, [], ◌∷◌, ◌++◌, map, Some, None, inl, inr, refl, sym, ap, ◌∙◌, arith}
use Rattle.std.specs.Prelude.{find, option_map}
use Rattle.std.proofs.lemmas.Bool.{eq-eqb, ne_eqb}
use Rattle.cry_base.specs.Naming.{last_name, names_of}
use Rattle.cry_base.specs.Sets.{In}
use Rattle.cry_base.specs.Store.{Store, FileEntry, file_entry, file_names, file_node, node_at}
use Rattle.cry_base.specs.declared.ids.FileId.{FileId}
use Rattle.cry_base.specs.declared.roles.Node.TheVariants.{File}
use Rattle.folder_nodes.proofs.Downward.{file_id}
use Rattle.folder_nodes.proofs.Located.{file_in}
use Rattle.folder_nodes.proofs.Lookups.{find-append}
use Rattle.public_fold.proofs.Treeing.{IsTree, file_node_names, found_names}

none_there : (X : Type 0) (p : X → Bool) (xs : List X) → ((x : X) → In x xs → p x ≡ false) → find p xs ≡ None
none_there X p [] out = refl
none_there X p (x ∷ xs) out = ap (λ b. cond b (Some x) (find p xs)) (out x (inl refl)) ∙ none_there X p xs (λ y i. out y (inr i))

-- what comes with the next number is found by it
pub found_new : (X : Type 0) (id : X → ℕ) (n : ℕ) (xs : List X) (new : X) → ((x : X) → In x xs → id x ≤ n) → id new ≡ n + 1 → find (λ x. id x == n + 1) (xs ++ new ∷ []) ≡ Some new
found_new X id n xs new below same =
    find-append X (λ x. id x == n + 1) xs (new ∷ []) (none_there X (λ x. id x == n + 1) xs (λ x i. let low : id x ≤ n = below x i in ne_eqb (id x) (n + 1) (λ e. omega (arith, e, low))))
    ∙ ap (λ b. cond b (Some new) None) (eq-eqb (id new) (n + 1) same)

-- what was changed is found under its number
pub found_changed : (X : Type 0) (id : X → ℕ) (n : ℕ) (change : X → X) → ((x : X) → id (change x) ≡ id x) → (xs : List X) → find (λ x. id x == n) (map (λ x. cond (id x == n) (change x) x) xs) ≡ option_map change (find (λ x. id x == n) xs)
found_changed X id n change keeps [] = refl
found_changed X id n change keeps (x ∷ xs) =
    (elim (id x == n) as (λ b. id x == n ≡ b → cond (id (cond b (change x) x) == n) (Some (cond b (change x) x)) (find (λ x. id x == n) (map (λ x. cond (id x == n) (change x) x) xs)) ≡ option_map change (cond b (Some x) (find (λ x. id x == n) xs))) [
      | true ↦ λ t. ap (λ b. cond b (Some (change x)) (find (λ x. id x == n) (map (λ x. cond (id x == n) (change x) x) xs))) (ap (λ k. k == n) (keeps x) ∙ t)
      | false ↦ λ t. ap (λ b. cond b (Some x) (find (λ x. id x == n) (map (λ x. cond (id x == n) (change x) x) xs))) t ∙ found_changed X id n change keeps xs
    ]) refl

last_end : (xs : List (List ℕ)) (y : List ℕ) → last_name (xs ++ y ∷ []) ≡ y
unfolding last_name
last_end [] y = refl
last_end (x ∷ []) y = refl
last_end (x ∷ z ∷ zs) y = last_end (z ∷ zs) y

-- the file that a path finds has the path's last name
pub file_name_found : (s : Store) (path : List ℕ) (x : FileId) (e : FileEntry) → IsTree s.folders s.files → node_at s path ≡ Some (File x) → file_entry s x.0 ≡ Some e → e.name ≡ last_name (names_of path)
unfolding file_names file_node
file_name_found s path x e ok found there =
    sym (ap last_name (sym (found_names s path (File x) ok found) ∙ file_node_names s e x.0 ok (file_in s x.0 e there) (file_id s x.0 e there)) ∙ last_end _ e.name)
