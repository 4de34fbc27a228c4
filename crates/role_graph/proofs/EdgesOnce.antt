-- No edge stands twice among those of a store, and no two of them tie in their order.
use Rattle.std.proofs.Common.{◌≡◌, ℕ, Bool, true, false, cond, ◌==◌, ◌&&◌, ◌||◌, List, [], ◌∷◌, ◌++◌, map, ⊎_elim, refl, sym, ap, ◌∙◌, subst, arith}
use Rattle.std.specs.Prelude.{◌<◌, nat_lt, nat_le, IsTrue}
use Rattle.std.specs.List.{flat_map}
use Rattle.std.proofs.lemmas.Bool.{lt-leb, le-leb}
use Rattle.std.proofs.lemmas.Bool.Decides.{nat_tests}
use Rattle.cry_base.specs.Clearances.{clear_base, clear_number}
use Rattle.cry_base.specs.Sets.{In}
use Rattle.cry_base.specs.Store.{Store, FolderEntry, FileEntry, GrantEntry}
use Rattle.cry_base.specs.declared.roles.Edge.{Edge}
use Rattle.cry_base.specs.declared.roles.Role.TheVariants.{Owner}
use Rattle.cry_base.proofs.Members.{In-append, In-flat_map, In-map}
use Rattle.folder_nodes.specs.Trees.{IsTree}
use Rattle.grant_book.specs.Granted.{AreOrdered, is_before}
use Rattle.role_graph.specs.Edges.{IsClearanceEdge, IsEdge, IsFileEdge, IsGrantEdge, IsOwnEdge, IsParentEdge, clearance_edges, edge, edge_before, edges, file_edge}
use Rattle.role_graph.specs.Edges.{folder_edges, grant_edge, has_grants, parent_edges, unordered}
use Rattle.role_graph.specs.PublicStore.{FoldersBelow}
use Rattle.role_graph.specs.Roles.{back_of, clear_of, data_of, file_role, files_of, holder_role, role_id, sub_of}
use Rattle.role_graph.proofs.AtRoles.{of_file, of_grant, with_parent}
use Rattle.role_graph.proofs.Edging.{edges_told}
use Rattle.role_graph.proofs.Once.{AreOnce, NoneTie, is_once, once_append, once_flat, once_map, once_of_map, once_pairs, once_rows, once_told, own_row}

-- ---- the five parts of the edges, told by kind, and those of kind 1 by the number that they lead to

-- whether it is at a file's clearance
is_cleared : Edge → Bool
is_cleared e = e.kind == 10 || (e.kind == 11 || (e.kind == 1 && nat_le clear_base (role_id e.to)))

part_of : Edge → ℕ
part_of e = cond (is_cleared e) 4 (cond (e.kind == 9) 3 (cond (e.kind == 2) 2 (cond (e.kind == 6 || e.kind == 8) 1 0)))

abbrev last_or_first : Bool → ℕ
last_or_first b = cond b 4 0

own_part : (f : ℕ) → f < clear_base → (e : Edge) → In e (folder_edges f) → (part_of e ≡ 0) × (role_id e.to ≡ f)
unfolding folder_edges edge part_of is_cleared role_id clear_of sub_of back_of files_of data_of
own_part f low e i =
    let P : Edge → Type 0 = λ x. (part_of x ≡ 0) × (role_id x.to ≡ f) in ⊎_elim
    (λ s. subst P (sym s) (ap last_or_first (lt-leb clear_base f low), refl))
    (λ a. ⊎_elim (λ s. subst P (sym s) (refl, refl))
    (λ b. ⊎_elim (λ s. subst P (sym s) (refl, refl))
    (λ c. ⊎_elim (λ s. subst P (sym s) (refl, refl))
    (λ d. ⊎_elim (λ s. subst P (sym s) (refl, refl)) (λ n. absurd n) d) c) b) a) i

-- the folder whose edge it is, of an edge between a folder and its parent
lower : Edge → ℕ
lower e = cond (e.kind == 6) (role_id e.to) (role_id e.from)

up_part : (f p : ℕ) (e : Edge) → In e (parent_edges f p) → (part_of e ≡ 1) × (lower e ≡ f)
unfolding parent_edges edge part_of is_cleared lower role_id sub_of back_of
up_part f p e i =
    let P : Edge → Type 0 = λ x. (part_of x ≡ 1) × (lower x ≡ f) in ⊎_elim
    (λ s. subst P (sym s) (refl, refl))
    (λ a. ⊎_elim (λ s. subst P (sym s) (refl, refl)) (λ n. absurd n) a) i

grant_part : (g : GrantEntry) → part_of (of_grant g) ≡ 2
unfolding grant_edge edge part_of is_cleared
grant_part g = refl

file_part : (x : FileEntry) → part_of (of_file x) ≡ 3
unfolding file_edge edge part_of is_cleared
file_part x = refl

-- the clearance that it is at
cleared_at : Edge → ℕ
cleared_at e = cond (e.kind == 1) (role_id e.to) (role_id e.from)

cleared_part : (f x : ℕ) (e : Edge) → In e (clearance_edges f x) → (part_of e ≡ 4) × (cleared_at e ≡ clear_number x)
unfolding clearance_edges edge part_of is_cleared cleared_at role_id clear_of back_of file_role
cleared_part f x e i =
    let P : Edge → Type 0 = λ y. (part_of y ≡ 4) × (cleared_at y ≡ clear_number x) in ⊎_elim
    (λ s. subst P (sym s) (ap last_or_first (le-leb clear_base (clear_number x) (omega arith)), refl))
    (λ a. ⊎_elim (λ s. subst P (sym s) (refl, refl))
    (λ b. ⊎_elim (λ s. subst P (sym s) (refl, refl)) (λ n. absurd n) b) a) i

cleared_once : (f x : ℕ) → AreOnce Edge (clearance_edges f x)
unfolding clearance_edges edge is_once
cleared_once f x = once_of_map Edge ℕ (λ e. e.kind) (clearance_edges f x) (once_told (1 ∷ 10 ∷ 11 ∷ []) refl)

same_file : (x y : ℕ) → clear_number x ≡ clear_number y → x ≡ y
same_file x y e = omega (arith, e)

own_once : (f : ℕ) → AreOnce Edge (folder_edges f)
unfolding folder_edges edge is_once
own_once f = once_of_map Edge ℕ (λ e. e.kind) (folder_edges f) (once_told (1 ∷ 3 ∷ 4 ∷ 5 ∷ 7 ∷ []) refl)

up_once : (f p : ℕ) → AreOnce Edge (parent_edges f p)
unfolding parent_edges edge is_once
up_once f p = once_of_map Edge ℕ (λ e. e.kind) (parent_edges f p) (once_told (6 ∷ 8 ∷ []) refl)

none_once : (b : Bool) (l : List Edge) → AreOnce Edge l → AreOnce Edge (cond b [] l)
none_once b l once = elim b as (λ c. AreOnce Edge (cond c [] l)) [ true ↦ tt | false ↦ once ]

some_once : (b : Bool) (l : List Edge) → AreOnce Edge l → AreOnce Edge (cond b l [])
some_once b l once = elim b as (λ c. AreOnce Edge (cond c l [])) [ true ↦ once | false ↦ tt ]

some_in : (b : Bool) (l : List Edge) (e : Edge) → In e (cond b l []) → In e l
some_in b l e = elim b as (λ c. In e (cond c l []) → In e l) [ true ↦ λ i. i | false ↦ λ i. absurd i ]

none_in : (b : Bool) (l : List Edge) (e : Edge) → In e (cond b [] l) → In e l
none_in b l e = elim b as (λ c. In e (cond c [] l) → In e l) [ true ↦ λ i. absurd i | false ↦ λ i. i ]

grant_told : (g h : GrantEntry) → of_grant g ≡ of_grant h → g ≡ h
unfolding grant_edge edge holder_role clear_of role_id
grant_told g h e =
    let holder : g.holder ≡ h.holder = ap (λ (z : Edge). role_id z.from) e in
    let folder : g.folder ≡ h.folder = ap (λ (z : Edge). role_id z.to) e in
    λ i. record { holder = holder i; folder = folder i }

file_told : (x y : FileEntry) → of_file x ≡ of_file y → x.id ≡ y.id
unfolding file_edge edge file_role role_id
file_told x y e = ap (λ (z : Edge). role_id z.to) e

not_before_itself : (g : GrantEntry) → IsTrue (is_before g g) → ⊥
not_before_itself g t = let same : nat_lt g.holder g.holder || (g.holder == g.holder && nat_lt g.folder g.folder) ≡ true = t in grind (arith, nat_tests, same)

module _ (s : Store) (tree : IsTree s) (below : FoldersBelow s) (ordered : AreOrdered s.grants) where
  owns : List Edge
  owns = flat_map (λ (e : FolderEntry). folder_edges e.id) s.folders

  ups : List Edge
  ups = flat_map with_parent s.folders

  grants : List Edge
  grants = map of_grant s.grants

  files : List Edge
  files = map of_file s.files

  with_clearance : FileEntry → List Edge
  with_clearance x = cond (has_grants s (clear_number x.id)) (clearance_edges x.folder x.id) []

  cleared : List Edge
  cleared = flat_map with_clearance s.files

  owns_told : (e : Edge) → In e owns → part_of e ≡ 0
  unfolding owns
  owns_told e i = let w = (In-flat_map FolderEntry Edge (λ f. folder_edges f.id) e s.folders).0 i in (own_part w.0.id (below w.0 w.1) e w.2).0

  ups_told : (e : Edge) → In e ups → part_of e ≡ 1
  unfolding ups
  ups_told e i =
      let w = (In-flat_map FolderEntry Edge with_parent e s.folders).0 i in
      (up_part w.0.id w.0.parent e (none_in (w.0.parent == 0) (parent_edges w.0.id w.0.parent) e w.2)).0

  grants_told : (e : Edge) → In e grants → part_of e ≡ 2
  unfolding grants
  grants_told e i = let w = (In-map GrantEntry Edge of_grant e s.grants).0 i in ap part_of w.2 ∙ grant_part w.0

  files_told : (e : Edge) → In e files → part_of e ≡ 3
  unfolding files
  files_told e i = let w = (In-map FileEntry Edge of_file e s.files).0 i in ap part_of w.2 ∙ file_part w.0

  cleared_told : (e : Edge) → In e cleared → part_of e ≡ 4
  unfolding cleared with_clearance
  cleared_told e i =
      let w = (In-flat_map FileEntry Edge with_clearance e s.files).0 i in
      (cleared_part w.0.folder w.0.id e (some_in (has_grants s (clear_number w.0.id)) (clearance_edges w.0.folder w.0.id) e w.2)).0

  owns_once : AreOnce Edge owns
  unfolding owns
  owns_once = once_flat FolderEntry Edge (λ f. folder_edges f.id) s.folders (once_rows FolderEntry (λ f. f.id) s.folders tree.folders_ascend)
      (λ f i. own_once f.id)
      (λ f g e i j a b. own_row FolderEntry (λ x. x.id) s.folders tree.folders_ascend f g i j (sym (own_part f.id (below f i) e a).1 ∙ (own_part g.id (below g j) e b).1))

  ups_once : AreOnce Edge ups
  unfolding ups
  ups_once = once_flat FolderEntry Edge with_parent s.folders (once_rows FolderEntry (λ f. f.id) s.folders tree.folders_ascend)
      (λ f i. none_once (f.parent == 0) (parent_edges f.id f.parent) (up_once f.id f.parent))
      (λ f g e i j a b. own_row FolderEntry (λ x. x.id) s.folders tree.folders_ascend f g i j
      (sym (up_part f.id f.parent e (none_in (f.parent == 0) (parent_edges f.id f.parent) e a)).1
      ∙ (up_part g.id g.parent e (none_in (g.parent == 0) (parent_edges g.id g.parent) e b)).1))

  grants_once : AreOnce Edge grants
  unfolding grants
  grants_once = once_map GrantEntry Edge of_grant s.grants (once_pairs GrantEntry (λ a b. IsTrue (is_before a b)) not_before_itself s.grants ordered)
      (λ g h i j e. grant_told g h e)

  files_once : AreOnce Edge files
  unfolding files
  files_once = once_map FileEntry Edge of_file s.files (once_rows FileEntry (λ x. x.id) s.files tree.files_ascend)
      (λ x y i j e. own_row FileEntry (λ z. z.id) s.files tree.files_ascend x y i j (file_told x y e))

  clears_once : AreOnce Edge cleared
  unfolding cleared with_clearance
  clears_once = once_flat FileEntry Edge with_clearance s.files (once_rows FileEntry (λ x. x.id) s.files tree.files_ascend)
      (λ x i. some_once (has_grants s (clear_number x.id)) (clearance_edges x.folder x.id) (cleared_once x.folder x.id))
      (λ x y e i j a b. own_row FileEntry (λ z. z.id) s.files tree.files_ascend x y i j (same_file x.id y.id
      (sym (cleared_part x.folder x.id e (some_in (has_grants s (clear_number x.id)) (clearance_edges x.folder x.id) e a)).1
      ∙ (cleared_part y.folder y.id e (some_in (has_grants s (clear_number y.id)) (clearance_edges y.folder y.id) e b)).1)))

  pub edges_once : AreOnce Edge (unordered s)
  unfolding unordered owns ups grants files cleared with_clearance
  edges_once =
      let two = once_append Edge owns ups owns_once ups_once (λ e i j. apart e 0 1 (owns_told e i) (ups_told e j) (λ q. absurd (omega (arith, q)))) in
      let three = once_append Edge (owns ++ ups) grants two grants_once (λ e i j. ⊎_elim
      (λ a. apart e 0 2 (owns_told e a) (grants_told e j) (λ q. absurd (omega (arith, q))))
      (λ b. apart e 1 2 (ups_told e b) (grants_told e j) (λ q. absurd (omega (arith, q))))
      ((In-append Edge e owns ups).0 i)) in
      let four = once_append Edge ((owns ++ ups) ++ grants) files three files_once (λ e i j. ⊎_elim
      (λ a. ⊎_elim
      (λ b. apart e 0 3 (owns_told e b) (files_told e j) (λ q. absurd (omega (arith, q))))
      (λ b. apart e 1 3 (ups_told e b) (files_told e j) (λ q. absurd (omega (arith, q))))
      ((In-append Edge e owns ups).0 a))
      (λ b. apart e 2 3 (grants_told e b) (files_told e j) (λ q. absurd (omega (arith, q))))
      ((In-append Edge e (owns ++ ups) grants).0 i)) in
      once_append Edge (((owns ++ ups) ++ grants) ++ files) cleared four clears_once (λ e i j. ⊎_elim
      (λ z. ⊎_elim
      (λ a. ⊎_elim
      (λ b. apart e 0 4 (owns_told e b) (cleared_told e j) (λ q. absurd (omega (arith, q))))
      (λ b. apart e 1 4 (ups_told e b) (cleared_told e j) (λ q. absurd (omega (arith, q))))
      ((In-append Edge e owns ups).0 a))
      (λ b. apart e 2 4 (grants_told e b) (cleared_told e j) (λ q. absurd (omega (arith, q))))
      ((In-append Edge e (owns ++ ups) grants).0 z))
      (λ b. apart e 3 4 (files_told e b) (cleared_told e j) (λ q. absurd (omega (arith, q))))
      ((In-append Edge e ((owns ++ ups) ++ grants) files).0 i))
    where
      apart : (e : Edge) (m n : ℕ) → part_of e ≡ m → part_of e ≡ n → (m ≡ n → ⊥) → ⊥
      apart e m n p q never = never (sym p ∙ q)

-- ---- an edge is told by its kind and its numbers

rebuilt : ℕ → ℕ → ℕ → Edge
rebuilt k m n =
    cond (k == 1) (edge 1 Owner (clear_of n)) (cond (k == 2) (edge 2 (holder_role m) (clear_of n)) (cond (k == 3) (edge 3 (clear_of m) (sub_of n))
    (cond (k == 4) (edge 4 (sub_of m) (back_of n)) (cond (k == 5) (edge 5 (sub_of m) (files_of n)) (cond (k == 6) (edge 6 (sub_of m) (sub_of n))
    (cond (k == 7) (edge 7 (back_of m) (data_of n)) (cond (k == 8) (edge 8 (back_of m) (back_of n)) (cond (k == 9) (edge 9 (files_of m) (file_role n))
    (cond (k == 10) (edge 10 (clear_of m) (file_role n)) (edge 11 (clear_of m) (back_of n)))))))))))

IsTold : Edge → Type 0
IsTold e = rebuilt e.kind (role_id e.from) (role_id e.to) ≡ e

own_is : (f : ℕ) (e : Edge) → In e (folder_edges f) → IsTold e
unfolding IsTold folder_edges edge rebuilt role_id clear_of sub_of back_of files_of data_of
own_is f e i = ⊎_elim
    (λ s. subst IsTold (sym s) refl)
    (λ a. ⊎_elim (λ s. subst IsTold (sym s) refl)
    (λ b. ⊎_elim (λ s. subst IsTold (sym s) refl)
    (λ c. ⊎_elim (λ s. subst IsTold (sym s) refl)
    (λ d. ⊎_elim (λ s. subst IsTold (sym s) refl) (λ n. absurd n) d) c) b) a) i

up_is : (f p : ℕ) (e : Edge) → In e (parent_edges f p) → IsTold e
unfolding IsTold parent_edges edge rebuilt role_id sub_of back_of
up_is f p e i = ⊎_elim
    (λ s. subst IsTold (sym s) refl)
    (λ a. ⊎_elim (λ s. subst IsTold (sym s) refl) (λ n. absurd n) a) i

grant_is : (h f : ℕ) (e : Edge) → e ≡ grant_edge h f → IsTold e
unfolding IsTold grant_edge edge rebuilt role_id holder_role clear_of
grant_is h f e s = subst IsTold (sym s) refl

file_is : (f x : ℕ) (e : Edge) → e ≡ file_edge f x → IsTold e
unfolding IsTold file_edge edge rebuilt role_id files_of file_role
file_is f x e s = subst IsTold (sym s) refl

cleared_is : (f x : ℕ) (e : Edge) → In e (clearance_edges f x) → IsTold e
unfolding IsTold clearance_edges edge rebuilt role_id clear_of back_of file_role
cleared_is f x e i = ⊎_elim
    (λ s. subst IsTold (sym s) refl)
    (λ a. ⊎_elim (λ s. subst IsTold (sym s) refl)
    (λ b. ⊎_elim (λ s. subst IsTold (sym s) refl) (λ n. absurd n) b) a) i

edge_is : (s : Store) (e : Edge) → IsEdge s e → IsTold e
edge_is s e w = ⊎_elim
    (λ (o : IsOwnEdge s e). own_is o.0.id e o.2)
    (λ v. ⊎_elim
    (λ (p : IsParentEdge s e). up_is p.0.id p.0.parent e p.3)
    (λ u. ⊎_elim
    (λ (g : IsGrantEdge s e). grant_is g.0.holder g.0.folder e g.2)
    (λ t. ⊎_elim
    (λ (x : IsFileEdge s e). file_is x.0.folder x.0.id e x.2)
    (λ (x : IsClearanceEdge s e). cleared_is x.0.folder x.0.id e x.3) t) u) v) w

abbrev Below : ℕ → ℕ → ℕ → ℕ → ℕ → ℕ → Bool
Below j m n k p q = nat_lt j k || (j == k && (nat_lt m p || (m == p && nat_lt n q)))

tied_kind : (j m n k p q : ℕ) → Below j m n k p q ≡ false → Below k p q j m n ≡ false → j ≡ k
tied_kind j m n k p q a b = grind (arith, nat_tests)

tied_from : (j m n k p q : ℕ) → Below j m n k p q ≡ false → Below k p q j m n ≡ false → m ≡ p
tied_from j m n k p q a b = grind (arith, nat_tests)

tied_to : (j m n k p q : ℕ) → Below j m n k p q ≡ false → Below k p q j m n ≡ false → n ≡ q
tied_to j m n k p q a b = grind (arith, nat_tests)

tied_are_one : (d e : Edge) → IsTold d → IsTold e → edge_before d e ≡ false → edge_before e d ≡ false → d ≡ e
unfolding edge_before IsTold
tied_are_one d e p q a b =
    let kind = tied_kind d.kind (role_id d.from) (role_id d.to) e.kind (role_id e.from) (role_id e.to) a b in
    let from = tied_from d.kind (role_id d.from) (role_id d.to) e.kind (role_id e.from) (role_id e.to) a b in
    let to = tied_to d.kind (role_id d.from) (role_id d.to) e.kind (role_id e.from) (role_id e.to) a b in
    sym p ∙ (λ i. rebuilt (kind i) (from i) (to i)) ∙ q

-- so no two of a store's edges tie
pub none_tie : (s : Store) (es : List Edge) → ((e : Edge) → In e es → In e (edges s)) → NoneTie Edge edge_before es
none_tie s es all d e i j a b = tied_are_one d e (edge_is s d ((edges_told s d).0 (all d i))) (edge_is s e ((edges_told s e).0 (all e j))) a b
