-- The computed edges are those that the store's rows tell.
use Rattle.std.proofs.Common.{◌≡◌, ◌≢◌, Bool, true, false, cond, ◌==◌, ◌↔◌, ◌⊎◌, List, [], ◌∷◌, ◌++◌, map, inl, inr, ⊎_elim, refl}
use Rattle.std.proofs.lemmas.Bool.{eqb-true, eqb-false, false≢true}
use Rattle.cry_base.specs.Clearances.{clear_number}
use Rattle.cry_base.specs.Sets.{In}
use Rattle.cry_base.specs.Store.{Store, FolderEntry, FileEntry, GrantEntry}
use Rattle.cry_base.specs.declared.roles.Edge.{Edge}
use Rattle.cry_base.proofs.Members.{In-append, In-map, In-flat_map}
use Rattle.std.specs.List.{flat_map}
use Rattle.role_graph.specs.Edges.{edge_before, put_in_order, in_order, folder_edges, parent_edges, grant_edge, file_edge, clearance_edges, has_grants, edges}
use Rattle.role_graph.specs.Edges.{IsParentEdge, IsClearanceEdge, IsEdge}

pub put-in : (X : Type 0) (before : X → X → Bool) (x y : X) (xs : List X) → In y (put_in_order before x xs) ↔ ((y ≡ x) ⊎ In y xs)
unfolding put_in_order
put-in X before x y [] = (λ i. i, λ e. e)
put-in X before x y (z ∷ zs) =
    elim (before z x) as (λ b. In y (cond b (z ∷ put_in_order before x zs) (x ∷ z ∷ zs)) ↔ ((y ≡ x) ⊎ In y (z ∷ zs))) [
      | true ↦ (
        λ i. ⊎_elim (λ e. inr (inl e)) (λ r. ⊎_elim (λ e. inl e) (λ t. inr (inr t)) ((put-in X before x y zs).0 r)) i,
        λ e. ⊎_elim (λ s. inr ((put-in X before x y zs).1 (inl s))) (λ r. ⊎_elim (λ s. inl s) (λ t. inr ((put-in X before x y zs).1 (inr t))) r) e,
      )
      | false ↦ (λ i. i, λ e. e)
    ]

pub In-order : (X : Type 0) (before : X → X → Bool) (y : X) (xs : List X) → In y (in_order before xs) ↔ In y xs
unfolding in_order
In-order X before y [] = (λ i. i, λ i. i)
In-order X before y (x ∷ xs) = (
  λ i. ⊎_elim (λ e. inl e) (λ r. inr ((In-order X before y xs).0 r)) ((put-in X before x y (in_order before xs)).0 i),
  λ i. (put-in X before x y (in_order before xs)).1 (⊎_elim (λ e. inl e) (λ r. inr ((In-order X before y xs).1 r)) i),
)

-- a folder's edges to its parent stand where it has one
parented : (f : FolderEntry) (e : Edge) → In e (cond (f.parent == 0) [] (parent_edges f.id f.parent)) ↔ ((f.parent ≢ 0) × In e (parent_edges f.id f.parent))
parented f e =
    (elim (f.parent == 0) as (λ b. f.parent == 0 ≡ b → In e (cond b [] (parent_edges f.id f.parent)) ↔ ((f.parent ≢ 0) × In e (parent_edges f.id f.parent))) [
      | true ↦ λ t. (λ i. absurd i, λ w. absurd (w.0 (eqb-true f.parent 0 t)))
      | false ↦ λ t. (λ i. (eqb-false f.parent 0 t, i), λ w. w.1)
    ]) refl

parents_told : (s : Store) (e : Edge) → In e (flat_map (λ f. cond (f.parent == 0) [] (parent_edges f.id f.parent)) s.folders) ↔ IsParentEdge s e
parents_told s e =
    let each = In-flat_map FolderEntry Edge (λ f. cond (f.parent == 0) [] (parent_edges f.id f.parent)) e s.folders in (
      λ i. let w = each.0 i in let p = (parented w.0 e).0 w.2 in (w.0, w.1, p.0, p.1),
      λ w. each.1 (w.0, w.1, (parented w.0 e).1 (w.2, w.3)),
    )

-- the edges at a file's clearance stand where the file has a grant
cleared : (b : Bool) (l : List Edge) (e : Edge) → In e (cond b l []) ↔ ((b ≡ true) × In e l)
cleared true l e = (λ i. (refl, i), λ w. w.1)
cleared false l e = (λ i. absurd i, λ w. absurd (false≢true w.0))

clearances_told : (s : Store) (e : Edge) → In e (flat_map (λ x. cond (has_grants s (clear_number x.id)) (clearance_edges x.folder x.id) []) s.files) ↔ IsClearanceEdge s e
clearances_told s e =
    let each = In-flat_map FileEntry Edge (λ x. cond (has_grants s (clear_number x.id)) (clearance_edges x.folder x.id) []) e s.files in
    let at = λ (x : FileEntry). cleared (has_grants s (clear_number x.id)) (clearance_edges x.folder x.id) e in (
      λ i. let w = each.0 i in let c = (at w.0).0 w.2 in (w.0, w.1, c.0, c.1),
      λ w. each.1 (w.0, w.1, (at w.0).1 (w.2, w.3)),
    )

pub edges_told : (s : Store) (e : Edge) → In e (edges s) ↔ IsEdge s e
unfolding edges
edges_told s e =
    let own = flat_map (λ (f : FolderEntry). folder_edges f.id) s.folders in
    let parents = flat_map (λ (f : FolderEntry). cond (f.parent == 0) [] (parent_edges f.id f.parent)) s.folders in
    let grants = map (λ (g : GrantEntry). grant_edge g.holder g.folder) s.grants in
    let files = map (λ (x : FileEntry). file_edge x.folder x.id) s.files in
    let cleared = flat_map (λ (x : FileEntry). cond (has_grants s (clear_number x.id)) (clearance_edges x.folder x.id) []) s.files in
    let sorted = In-order Edge edge_before e ((((own ++ parents) ++ grants) ++ files) ++ cleared) in
    let zero = In-append Edge e (((own ++ parents) ++ grants) ++ files) cleared in
    let one = In-append Edge e ((own ++ parents) ++ grants) files in
    let two = In-append Edge e (own ++ parents) grants in
    let three = In-append Edge e own parents in
    let o = In-flat_map FolderEntry Edge (λ f. folder_edges f.id) e s.folders in
    let g = In-map GrantEntry Edge (λ g. grant_edge g.holder g.folder) e s.grants in
    let x = In-map FileEntry Edge (λ x. file_edge x.folder x.id) e s.files in (
      λ i. ⊎_elim
          (λ z. ⊎_elim
          (λ a. ⊎_elim
          (λ b. ⊎_elim (λ c. inl (o.0 c)) (λ c. inr (inl ((parents_told s e).0 c))) (three.0 b))
          (λ b. inr (inr (inl (g.0 b)))) (two.0 a))
          (λ a. inr (inr (inr (inl (x.0 a))))) (one.0 z))
          (λ z. inr (inr (inr (inr ((clearances_told s e).0 z))))) (zero.0 (sorted.0 i)),
      λ w. sorted.1 (zero.1 (⊎_elim
          (λ c. inl (one.1 (inl (two.1 (inl (three.1 (inl (o.1 c))))))))
          (λ v. ⊎_elim
          (λ c. inl (one.1 (inl (two.1 (inl (three.1 (inr ((parents_told s e).1 c))))))))
          (λ u. ⊎_elim
          (λ c. inl (one.1 (inl (two.1 (inr (g.1 c))))))
          (λ t. ⊎_elim (λ c. inl (one.1 (inr (x.1 c)))) (λ c. inr ((clearances_told s e).1 c)) t) u) v) w)),
    )
