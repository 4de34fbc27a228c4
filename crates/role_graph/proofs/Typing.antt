-- Which edges there are by their kinds, what the owner reaches, and what the owner is shown.
use Rattle.std.proofs.Common.{◌≡◌, ℕ, Bool, true, false, not, ◌&&◌, ◌||◌, ◌==◌, map, inl, inr, ⊎_elim, refl, sym, ap, ◌∙◌, subst}
use Rattle.std.proofs.lemmas.Bool.{eq-eqb, false≢true, and_parts, or_cases, not-true}
use Rattle.cry_base.specs.Clearances.{clear_number}
use Rattle.cry_base.specs.Sets.{In}
use Rattle.cry_base.specs.Sets.Path.{Here, On}
use Rattle.cry_base.specs.Store.{Store, FolderEntry, FileEntry, folder_node, file_node, folder_entry, file_entry, nodes_of}
use Rattle.cry_base.specs.declared.roles.Edge.{Edge}
use Rattle.cry_base.specs.declared.roles.Node.{Node}
use Rattle.cry_base.specs.declared.roles.Role.{Role}
use Rattle.cry_base.specs.declared.roles.Role.TheVariants.{Owner}
use Rattle.role_graph.specs.Roles.{holder_role, clear_of, sub_of, back_of, files_of, data_of, file_role, variant_of, is_root_role, is_sealing_role, is_clear_role, folder_roles}
use Rattle.role_graph.specs.Edges.{edge, folder_edges, parent_edges, grant_edge, file_edge, clearance_edges, has_grants, edges, pairs_of, Reaches}
use Rattle.role_graph.specs.Edges.{IsOwnEdge, IsParentEdge, IsGrantEdge, IsFileEdge, IsClearanceEdge, IsEdge}
use Rattle.role_graph.specs.Rights.{IsShown}
use Rattle.role_graph.specs.RightsByReach.{IsClearance}
use Rattle.role_graph.specs.Rights.Who.{TheOwner}
use Rattle.cry_base.proofs.Finding.{found-find}
use Rattle.cry_base.proofs.Members.{In-append, In-map}
use Rattle.role_graph.proofs.Edging.{edges_told}

-- the three tests of an edge at once
is_typed : Edge → Bool
is_typed e = not (is_root_role e.to) && (not (is_sealing_role e.from) && (not (is_clear_role e.to) || is_root_role e.from))

own_typed : (f : ℕ) (e : Edge) → In e (folder_edges f) → is_typed e ≡ true
unfolding is_typed folder_edges edge is_root_role is_sealing_role is_clear_role variant_of clear_of sub_of back_of files_of data_of
own_typed f e i = ⊎_elim
    (λ s. ap is_typed s)
    (λ a. ⊎_elim (λ s. ap is_typed s)
    (λ b. ⊎_elim (λ s. ap is_typed s)
    (λ c. ⊎_elim (λ s. ap is_typed s)
    (λ d. ⊎_elim (λ s. ap is_typed s) (λ n. absurd n) d) c) b) a) i

parent_typed : (f p : ℕ) (e : Edge) → In e (parent_edges f p) → is_typed e ≡ true
unfolding is_typed parent_edges edge is_root_role is_sealing_role is_clear_role variant_of sub_of back_of
parent_typed f p e i = ⊎_elim (λ s. ap is_typed s) (λ a. ⊎_elim (λ s. ap is_typed s) (λ n. absurd n) a) i

grant_typed : (h f : ℕ) (e : Edge) → e ≡ grant_edge h f → is_typed e ≡ true
unfolding is_typed grant_edge edge is_root_role is_sealing_role is_clear_role variant_of holder_role clear_of
grant_typed h f e s = ap is_typed s

file_typed : (f x : ℕ) (e : Edge) → e ≡ file_edge f x → is_typed e ≡ true
unfolding is_typed file_edge edge is_root_role is_sealing_role is_clear_role variant_of files_of file_role
file_typed f x e s = ap is_typed s

clearance_typed : (f x : ℕ) (e : Edge) → In e (clearance_edges f x) → is_typed e ≡ true
unfolding is_typed clearance_edges edge is_root_role is_sealing_role is_clear_role variant_of clear_of back_of file_role
clearance_typed f x e i = ⊎_elim
    (λ s. ap is_typed s)
    (λ a. ⊎_elim (λ s. ap is_typed s) (λ b. ⊎_elim (λ s. ap is_typed s) (λ n. absurd n) b) a) i

edge_typed : (s : Store) (e : Edge) → IsEdge s e → is_typed e ≡ true
edge_typed s e w = ⊎_elim
    (λ (o : IsOwnEdge s e). own_typed o.0.id e o.2)
    (λ v. ⊎_elim
    (λ (p : IsParentEdge s e). parent_typed p.0.id p.0.parent e p.3)
    (λ u. ⊎_elim
    (λ (g : IsGrantEdge s e). grant_typed g.0.holder g.0.folder e g.2)
    (λ t. ⊎_elim (λ (x : IsFileEdge s e). file_typed x.0.folder x.0.id e x.2) (λ (x : IsClearanceEdge s e). clearance_typed x.0.folder x.0.id e x.3) t) u) v) w

parts : (e : Edge) → is_typed e ≡ true → (is_root_role e.to ≡ false) × (is_sealing_role e.from ≡ false) × (is_clear_role e.to ≡ true → is_root_role e.from ≡ true)
unfolding is_typed
parts e t =
    let one = and_parts (not (is_root_role e.to)) (not (is_sealing_role e.from) && (not (is_clear_role e.to) || is_root_role e.from)) t in
    let two = and_parts (not (is_sealing_role e.from)) (not (is_clear_role e.to) || is_root_role e.from) one.1 in (
      not-true (is_root_role e.to) one.0,
      not-true (is_sealing_role e.from) two.0,
      λ clear. ⊎_elim
          (λ n. absurd (false≢true (sym (not-true (is_clear_role e.to) n) ∙ clear)))
          (λ r. r) (or_cases (not (is_clear_role e.to)) (is_root_role e.from) two.1),
    )

pub typed : (s : Store) (e : Edge) → In e (edges s) → (is_root_role e.to ≡ false) × (is_sealing_role e.from ≡ false) × (is_clear_role e.to ≡ true → is_root_role e.from ≡ true)
typed s e i = parts e (edge_typed s e ((edges_told s e).0 i))

-- an edge that stands is a pair that paths take
stands : (s : Store) (e : Edge) → IsEdge s e → In (e.from, e.to) (pairs_of (edges s))
unfolding pairs_of
stands s e w = (In-map Edge (Role × Role) (λ x. (x.from, x.to)) (e.from, e.to) (edges s)).1 (e, (edges_told s e).1 w, refl)

own : (s : Store) (f : FolderEntry) → In f s.folders → (kind : ℕ) (a b : Role) → In (edge kind a b) (folder_edges f.id) → In (a, b) (pairs_of (edges s))
unfolding edge
own s f i kind a b place = stands s (edge kind a b) (inl (f, i, place))

to_clear : (s : Store) (f : FolderEntry) → In f s.folders → Reaches (edges s) Owner (clear_of f.id)
unfolding folder_edges
to_clear s f i = On Here (own s f i 1 Owner (clear_of f.id) (inl refl))

to_sub : (s : Store) (f : FolderEntry) → In f s.folders → Reaches (edges s) Owner (sub_of f.id)
unfolding folder_edges
to_sub s f i = On (to_clear s f i) (own s f i 3 (clear_of f.id) (sub_of f.id) (inr (inl refl)))

to_back : (s : Store) (f : FolderEntry) → In f s.folders → Reaches (edges s) Owner (back_of f.id)
unfolding folder_edges
to_back s f i = On (to_sub s f i) (own s f i 4 (sub_of f.id) (back_of f.id) (inr (inr (inl refl))))

to_files : (s : Store) (f : FolderEntry) → In f s.folders → Reaches (edges s) Owner (files_of f.id)
unfolding folder_edges
to_files s f i = On (to_sub s f i) (own s f i 5 (sub_of f.id) (files_of f.id) (inr (inr (inr (inl refl)))))

to_data : (s : Store) (f : FolderEntry) → In f s.folders → Reaches (edges s) Owner (data_of f.id)
unfolding folder_edges
to_data s f i = On (to_back s f i) (own s f i 7 (back_of f.id) (data_of f.id) (inr (inr (inr (inr (inl refl))))))

pub folder_reached : (s : Store) (f : FolderEntry) (r : Role) → In f s.folders → In r (folder_roles f.id) → Reaches (edges s) Owner r
unfolding folder_roles
folder_reached s f r i j =
    let P : Role → Type 0 = λ x. Reaches (edges s) Owner x in ⊎_elim
    (λ e. subst P (sym e) (to_clear s f i))
    (λ a. ⊎_elim (λ e. subst P (sym e) (to_sub s f i))
    (λ b. ⊎_elim (λ e. subst P (sym e) (to_back s f i))
    (λ c. ⊎_elim (λ e. subst P (sym e) (to_files s f i))
    (λ d. ⊎_elim (λ e. subst P (sym e) (to_data s f i)) (λ n. absurd n) d) c) b) a) j

pub file_reached : (s : Store) (f : FolderEntry) (x : FileEntry) → In f s.folders → In x s.files → x.folder ≡ f.id → Reaches (edges s) Owner (file_role x.id)
unfolding file_edge edge
file_reached s f x i j e =
    let P : ℕ → Type 0 = λ n. Reaches (edges s) Owner (files_of n) in
    On (subst P (sym e) (to_files s f i)) (stands s (file_edge x.folder x.id) (inr (inr (inr (inl (x, j, refl))))))

pub clearance_reached : (s : Store) (c : ℕ) → IsClearance s c → Reaches (edges s) Owner (clear_of c)
unfolding clearance_edges edge
clearance_reached s c w =
    let x = w.0.0 in
    let P : ℕ → Type 0 = λ n. Reaches (edges s) Owner (clear_of n) in
    let granted = subst (λ n. has_grants s n ≡ true) (sym w.0.2) w.1 in
    subst P w.0.2 (On Here (stands s (edge 1 Owner (clear_of (clear_number x.id))) (inr (inr (inr (inr (x, w.0.1, granted, inl refl)))))))

pub owner_shown : (s : Store) (node : Node) → In node (nodes_of s) → IsShown s TheOwner node
unfolding nodes_of folder_node file_node folder_entry file_entry
owner_shown s node i = ⊎_elim
    (λ a. let w = (In-map FolderEntry Node (λ e. folder_node e.id) node s.folders).0 a in
    let told = found-find FolderEntry (λ e. e.id == w.0.id) w.0 s.folders w.1 (eq-eqb w.0.id w.0.id refl) in
    subst (λ n. IsShown s TheOwner n) (sym w.2) (told.0, told.1, tt))
    (λ a. let w = (In-map FileEntry Node (λ e. file_node e.id) node s.files).0 a in
    let told = found-find FileEntry (λ e. e.id == w.0.id) w.0 s.files w.1 (eq-eqb w.0.id w.0.id refl) in
    subst (λ n. IsShown s TheOwner n) (sym w.2) (told.0, told.1, tt))
    ((In-append Node node (map (λ e. folder_node e.id) s.folders) (map (λ e. file_node e.id) s.files)).0 i)
