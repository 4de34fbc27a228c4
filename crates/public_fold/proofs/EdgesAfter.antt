-- The edges after each note are those that its row leaves and adds.
use Rattle.std.proofs.Common.{◌≡◌, ◌≢◌, ℕ, ◌+◌, Bool, true, false, cond, not, ◌==◌, ◌&&◌, ◌||◌, ◌⊎◌, ◌↔◌, List, [], ◌∷◌, ◌++◌, map, filter, Some, None, inl, inr, ⊎_elim, refl, sym, ap, ◌∙◌, subst, arith}
use Rattle.std.proofs.lemmas.Bool.{and_parts, and_from, eqb-true, eqb-false, eq-eqb, ne_eqb, not-true, not_from_false, false≢true, cases_Bool, cases_eq}
use Rattle.cry_base.specs.Clearances.{clear_number}
use Rattle.cry_base.specs.Sets.{In}
use Rattle.cry_base.specs.Store.{Store, FolderEntry, FileEntry, GrantEntry}
use Rattle.cry_base.specs.Stepping.{with_file, with_folder, without_file, without_folder, without_grant}
use Rattle.cry_base.specs.declared.roles.Edge.{Edge}
use Rattle.cry_base.specs.declared.roles.Role.{Role}
use Rattle.cry_base.proofs.Members.{In-append, In-map, In-filter, filter-In}
use Rattle.role_graph.specs.Edges.{edge, edge_before, in_order, folder_edges, parent_edges, grant_edge, file_edge, clearance_edges, has_grants}
use Rattle.role_graph.specs.Edges.{IsEdge}
use Rattle.role_graph.specs.Roles.{back_of, clear_of, file_role, files_of, folder_roles, role_id}
use Rattle.role_graph.proofs.Edging.{In-order, edges_told}
use Rattle.move_plan.specs.Change.{Change, clearance_in, edge_back, edges_with_file, folder_of_file, no_change, roles_of_file, without_roles}
use Rattle.public_fold.specs.Keyed.{HasRole}
use Rattle.public_fold.proofs.Levels.{earlier, last_in, last_or}
use Rattle.public_fold.proofs.Treeing.{file_alone}
use Rattle.public_fold.proofs.Shifting.{folder_cases}
use Rattle.public_fold.proofs.EdgesThen.{IsThen, edges_along, at_told, Touches, edge_cases, own_is, parent_is, grant_is, file_is, clear_is, grants_on, grants_told, is_kind, is_parent_kind, own_no_grant, own_no_parent, parent_kind, parent_no_grant, file_kind, grant_kind, clear_kind, apart, file_edge-id, grant_edge-ids, parent_child, own_touches, parent_touches, grant_touches, clear_touches, grant_end, file_end}

-- a change whose step leaves and adds the edges of t
abbrev pub Leads : Store → Change → Store → Type 0
Leads s c t = (e : Edge) → IsThen s c e ↔ IsEdge t e

-- nothing removed or added
pub unchanged : (s t : Store) (c : Change) → c.removed ≡ [] → c.added ≡ [] → ((e : Edge) → IsEdge s e ↔ IsEdge t e) → Leads s c t
unchanged s t c r a same e = (
  λ w. ⊎_elim (λ u. (same e).0 u.0) (λ i. absurd (subst (In e) a i)) w,
  λ w. inl ((same e).1 w, λ i. subst (In e) r i),
)

-- edges come: all that stood stay, and each that stands then stood or comes
comes : (s t : Store) (c : Change) → c.removed ≡ [] → ((e : Edge) → IsEdge s e → IsEdge t e) → ((e : Edge) → In e c.added → IsEdge t e) → ((e : Edge) → IsEdge t e → IsEdge s e ⊎ In e c.added) → Leads s c t
comes s t c r stay come stood e = (
  λ w. ⊎_elim (λ u. stay e u.0) (λ i. come e i) w,
  λ w. ⊎_elim (λ u. inl (u, λ i. subst (In e) r i)) (λ i. inr i) (stood e w),
)

-- edges go
goes : (s t : Store) (c : Change) → c.added ≡ [] → ((e : Edge) → IsEdge s e → (In e c.removed → ⊥) → IsEdge t e) → ((e : Edge) → IsEdge t e → IsEdge s e × (In e c.removed → ⊥)) → Leads s c t
goes s t c a stay stood e = (
  λ w. ⊎_elim (λ u. stay e u.0 u.1) (λ i. absurd (subst (In e) a i)) w,
  λ w. inl (stood e w),
)

-- roles go, and each edge with one of them at an end
pub drops : (s t : Store) (roles : List Role) → ((e : Edge) → IsEdge t e → IsEdge s e) → ((r : Role) → HasRole t r → In r roles → ⊥)
    → ((e : Edge) → IsEdge t e → HasRole t e.from × HasRole t e.to) → ((e : Edge) → IsEdge s e → (Touches roles e → ⊥) → IsEdge t e) → Leads s (without_roles s roles) t
unfolding without_roles no_change
drops s t roles sub out ends stay = goes s t (without_roles s roles) refl
    (λ e w n. stay e w (λ x. n ((at_told s roles e).1 ((edges_told s e).1 w, x))))
    (λ e w. (sub e w, λ i. let h = ends e w in ⊎_elim (λ a. out e.from h.0 a) (λ b. out e.to h.1 b) ((at_told s roles e).0 i).1))

-- a file or folder that is mapped, and the one that it comes from
pub file_pick : (x : ℕ) (change : FileEntry → FileEntry) (e : FileEntry) → ((e.id ≡ x) × (cond (e.id == x) (change e) e ≡ change e)) ⊎ ((e.id ≢ x) × (cond (e.id == x) (change e) e ≡ e))
file_pick x change e = (elim (e.id == x) as (λ t. e.id == x ≡ t → ((e.id ≡ x) × (cond t (change e) e ≡ change e)) ⊎ ((e.id ≢ x) × (cond t (change e) e ≡ e))) [
  | true ↦ λ h. inl (eqb-true e.id x h, refl)
  | false ↦ λ h. inr (eqb-false e.id x h, refl)
]) refl

-- a new folder
pub new_folder_edges : (s : Store) (n : FolderEntry) (t : Store) (c : Change) → n.parent ≢ 0 → t ≡ record s { folders = s.folders ++ n ∷ []; folders_made = s.folders_made + 1 } → c.removed ≡ [] → c.added ≡ in_order edge_before (folder_edges n.id ++ parent_edges n.id n.parent) → Leads s c t
unfolding has_grants
new_folder_edges s n t c some is r a =
    let new : Store = record s { folders = s.folders ++ n ∷ []; folders_made = s.folders_made + 1 } in
    let there : In n (s.folders ++ n ∷ []) = last_in FolderEntry n s.folders in
    let adds = λ (e : Edge) (i : In e (folder_edges n.id ++ parent_edges n.id n.parent)). subst (In e) (sym a) ((In-order Edge edge_before e (folder_edges n.id ++ parent_edges n.id n.parent)).1 i) in
    subst (Leads s c) (sym is) (comes s new c r
    (λ e w. edges_along s new (λ f i. (f, earlier FolderEntry f n s.folders i, refl, refl)) (λ g i. i) (λ y i. (y, i, refl, refl)) e w)
    (λ e i. ⊎_elim
    (λ o. own_is new e (n, there, o))
    (λ p. parent_is new e (n, there, some, p))
    ((In-append Edge e (folder_edges n.id) (parent_edges n.id n.parent)).0 ((In-order Edge edge_before e (folder_edges n.id ++ parent_edges n.id n.parent)).0 (subst (In e) a i))))
    (λ e w. edge_cases (IsEdge s e ⊎ In e c.added) new e
    (λ o. ⊎_elim
    (λ i. inl (own_is s e (o.0, i, o.2)))
    (λ q. inr (adds e ((In-append Edge e (folder_edges n.id) (parent_edges n.id n.parent)).1 (inl (subst (λ (f : FolderEntry). In e (folder_edges f.id)) q o.2)))))
    (last_or FolderEntry o.0 n s.folders o.1))
    (λ p. ⊎_elim
    (λ i. inl (parent_is s e (p.0, i, p.2, p.3)))
    (λ q. inr (adds e ((In-append Edge e (folder_edges n.id) (parent_edges n.id n.parent)).1 (inr (subst (λ (f : FolderEntry). In e (parent_edges f.id f.parent)) q p.3)))))
    (last_or FolderEntry p.0 n s.folders p.1))
    (λ g. inl (grant_is s e g))
    (λ y. inl (file_is s e y))
    (λ y. inl (clear_is s e y))
    w))

-- a new file, which nobody has a grant on
pub new_file_edges : (s : Store) (n : FileEntry) (t : Store) (c : Change) → has_grants s (clear_number n.id) ≡ false → t ≡ record s { files = s.files ++ n ∷ []; files_made = s.files_made + 1 } → c.removed ≡ [] → c.added ≡ file_edge n.folder n.id ∷ [] → Leads s c t
unfolding has_grants
new_file_edges s n t c none is r a =
    let new : Store = record s { files = s.files ++ n ∷ []; files_made = s.files_made + 1 } in
    subst (Leads s c) (sym is) (comes s new c r
    (λ e w. edges_along s new (λ f i. (f, i, refl, refl)) (λ g i. i) (λ y i. (y, earlier FileEntry y n s.files i, refl, refl)) e w)
    (λ e i. ⊎_elim (λ q. file_is new e (n, last_in FileEntry n s.files, q)) (λ z. absurd z) (subst (In e) a i))
    (λ e w. edge_cases (IsEdge s e ⊎ In e c.added) new e
    (λ o. inl (own_is s e o))
    (λ p. inl (parent_is s e p))
    (λ g. inl (grant_is s e g))
    (λ y. ⊎_elim
    (λ i. inl (file_is s e (y.0, i, y.2)))
    (λ q. inr (subst (In e) (sym a) (inl (y.2 ∙ ap (λ (z : FileEntry). file_edge z.folder z.id) q))))
    (last_or FileEntry y.0 n s.files y.1))
    (λ y. ⊎_elim
    (λ i. inl (clear_is s e (y.0, i, y.2, y.3)))
    (λ q. absurd (false≢true (sym none ∙ subst (λ (z : FileEntry). has_grants s (clear_number z.id) ≡ true) q y.2)))
    (last_or FileEntry y.0 n s.files y.1))
    w))

-- who has a grant once one more is there
pub more_granted : (s : Store) (n : GrantEntry) (c : ℕ) → has_grants (record s { grants = s.grants ++ n ∷ [] }) c ≡ true → (has_grants s c ≡ true) ⊎ (n.folder ≡ c)
more_granted s n c t =
    let w = (grants_told (record s { grants = s.grants ++ n ∷ [] }) c).0 t in ⊎_elim
    (λ i. inl ((grants_told s c).1 (w.0, i, w.2)))
    (λ q. inr (sym (ap (λ (z : GrantEntry). z.folder) q) ∙ w.2))
    (last_or GrantEntry w.0 n s.grants w.1)

-- a new grant, on what is no file's clearance number but that of a file with a grant
pub new_grant_edges : (s : Store) (n : GrantEntry) (c : Change) → ((x : FileEntry) → In x s.files → n.folder ≡ clear_number x.id → has_grants s n.folder ≡ true) → c.removed ≡ [] → c.added ≡ grant_edge n.holder n.folder ∷ [] → Leads s c (record s { grants = s.grants ++ n ∷ [] })
new_grant_edges s n c again r a =
    let new : Store = record s { grants = s.grants ++ n ∷ [] } in
    comes s new c r
    (λ e w. edges_along s new (λ f i. (f, i, refl, refl)) (λ g i. earlier GrantEntry g n s.grants i) (λ y i. (y, i, refl, refl)) e w)
    (λ e i. ⊎_elim (λ q. grant_is new e (n, last_in GrantEntry n s.grants, q)) (λ z. absurd z) (subst (In e) a i))
    (λ e w. edge_cases (IsEdge s e ⊎ In e c.added) new e
    (λ o. inl (own_is s e o))
    (λ p. inl (parent_is s e p))
    (λ g. ⊎_elim
    (λ i. inl (grant_is s e (g.0, i, g.2)))
    (λ q. inr (subst (In e) (sym a) (inl (g.2 ∙ ap (λ (z : GrantEntry). grant_edge z.holder z.folder) q))))
    (last_or GrantEntry g.0 n s.grants g.1))
    (λ y. inl (file_is s e y))
    (λ y. inl (clear_is s e (y.0, y.1, ⊎_elim (λ t. t) (λ q. subst (λ k. has_grants s k ≡ true) q (again y.0 y.1 q)) (more_granted s n (clear_number y.0.id) y.2), y.3)))
    w)

-- the folder of a file that stands
pub folder_told : (s : Store) (x : ℕ) (w : FileEntry) → ((a b : FileEntry) → In a s.files → In b s.files → a.id ≡ b.id → a ≡ b) → In w s.files → w.id ≡ x → folder_of_file s x ≡ w.folder
unfolding folder_of_file
folder_told s x w own i q = ap (λ o. elim o as (λ z. ℕ) [ None ↦ 0 | Some e ↦ e.folder ]) (file_alone s w x own i q)

pub number_same : (m n : ℕ) → clear_number m ≡ clear_number n → m ≡ n
number_same m n e = omega (arith, e)

-- the first grant of a file
pub first_grant_edges : (s : Store) (h : ℕ) (x : FileEntry) (c : Change) → In x s.files → ((y : FileEntry) → In y s.files → y.id ≡ x.id → y ≡ x) → c.removed ≡ []
    → c.added ≡ in_order edge_before (grant_edge h (clear_number x.id) ∷ clearance_edges x.folder x.id) → Leads s c (record s { grants = s.grants ++ record { holder = h; folder = clear_number x.id } ∷ [] })
first_grant_edges s h x c there own r a =
    let n : GrantEntry = record { holder = h; folder = clear_number x.id } in
    let new : Store = record s { grants = s.grants ++ n ∷ [] } in
    let come = λ (e : Edge). In-order Edge edge_before e (grant_edge h (clear_number x.id) ∷ clearance_edges x.folder x.id) in
    let adds = λ (e : Edge) (i : In e (grant_edge h (clear_number x.id) ∷ clearance_edges x.folder x.id)). subst (In e) (sym a) ((come e).1 i) in
    let granted : has_grants new (clear_number x.id) ≡ true = (grants_told new (clear_number x.id)).1 (n, last_in GrantEntry n s.grants, refl) in
    comes s new c r
    (λ e w. edges_along s new (λ f i. (f, i, refl, refl)) (λ g i. earlier GrantEntry g n s.grants i) (λ y i. (y, i, refl, refl)) e w)
    (λ e i. ⊎_elim
    (λ q. grant_is new e (n, last_in GrantEntry n s.grants, q))
    (λ k. clear_is new e (x, there, granted, k))
    ((come e).0 (subst (In e) a i)))
    (λ e w. edge_cases (IsEdge s e ⊎ In e c.added) new e
    (λ o. inl (own_is s e o))
    (λ p. inl (parent_is s e p))
    (λ g. ⊎_elim
    (λ i. inl (grant_is s e (g.0, i, g.2)))
    (λ q. inr (adds e (inl (g.2 ∙ ap (λ (z : GrantEntry). grant_edge z.holder z.folder) q))))
    (last_or GrantEntry g.0 n s.grants g.1))
    (λ y. inl (file_is s e y))
    (λ y. ⊎_elim
    (λ t. inl (clear_is s e (y.0, y.1, t, y.3)))
    (λ q. inr (adds e (inr (subst (λ (z : FileEntry). In e (clearance_edges z.folder z.id)) (own y.0 y.1 (number_same y.0.id x.id (sym q))) y.3))))
    (more_granted s n (clear_number y.0.id) y.2))
    w)

-- a list of one edge
one_is : (e d : Edge) → In e (d ∷ []) → e ≡ d
one_is e d i = ⊎_elim (λ q. q) (λ z. absurd z) i

-- who has a grant once one is taken back
pub less_granted : (s : Store) (h f c : ℕ) → has_grants s c ≡ true → (c ≢ f) → has_grants (without_grant s h f) c ≡ true
unfolding without_grant
less_granted s h f c t other =
    let w = (grants_told s c).0 t in
    let apart : (w.0.holder == h && w.0.folder == f) ≡ false = ⊎_elim
    (λ q. absurd (other (sym w.2 ∙ eqb-true w.0.folder f (and_parts (w.0.holder == h) (w.0.folder == f) q).1)))
    (λ q. q) (cases_Bool (w.0.holder == h && w.0.folder == f)) in
    (grants_told (record s { grants = filter (λ (g : GrantEntry). not (g.holder == h && g.folder == f)) s.grants }) c).1
    (w.0, filter-In GrantEntry (λ g. not (g.holder == h && g.folder == f)) w.0 s.grants w.1 (not_from_false (w.0.holder == h && w.0.folder == f) apart), w.2)

pub were_granted : (s : Store) (h f c : ℕ) → has_grants (without_grant s h f) c ≡ true → has_grants s c ≡ true
unfolding without_grant
were_granted s h f c t =
    grants_on (record s { grants = filter (λ (g : GrantEntry). not (g.holder == h && g.folder == f)) s.grants }) s c (λ g i. (In-filter GrantEntry (λ g. not (g.holder == h && g.folder == f)) g s.grants i).0) t

-- a grant goes, and where it is on a file another one stays
pub no_grant_edges : (s : Store) (h f : ℕ) (c : Change) → ((x : FileEntry) → In x s.files → clear_number x.id ≡ f → has_grants (without_grant s h f) f ≡ true) → c.removed ≡ grant_edge h f ∷ [] → c.added ≡ [] → Leads s c (without_grant s h f)
unfolding without_grant
no_grant_edges s h f c left r a =
    let test : GrantEntry → Bool = λ g. not (g.holder == h && g.folder == f) in
    let t : Store = record s { grants = filter test s.grants } in
    let gone = λ (e : Edge) (i : In e c.removed). one_is e (grant_edge h f) (subst (In e) r i) in
    let gone_kind = λ (e : Edge) (i : In e c.removed). (grant_kind h f e (gone e i)).0 in
    goes s t c a
    (λ e k other. edge_cases (IsEdge t e) s e
    (λ o. own_is t e o)
    (λ p. parent_is t e p)
    (λ g. ⊎_elim
    (λ q. let both = and_parts (g.0.holder == h) (g.0.folder == f) q in
    absurd (other (subst (In e) (sym r) (inl (g.2 ∙ ap (λ n. grant_edge n g.0.folder) (eqb-true g.0.holder h both.0) ∙ ap (grant_edge h) (eqb-true g.0.folder f both.1))))))
    (λ q. grant_is t e (g.0, filter-In GrantEntry test g.0 s.grants g.1 (not_from_false (g.0.holder == h && g.0.folder == f) q), g.2))
    (cases_Bool (g.0.holder == h && g.0.folder == f)))
    (λ y. file_is t e y)
    (λ y. clear_is t e (
      y.0,
      y.1,
      ⊎_elim
          (λ q. subst (λ n. has_grants t n ≡ true) (sym q) (left y.0 y.1 q))
          (λ n. less_granted s h f (clear_number y.0.id) y.2 n)
          (cases_eq (clear_number y.0.id) f),
      y.3,
    ))
    k)
    (λ e w. edge_cases (IsEdge s e × (In e c.removed → ⊥)) t e
    (λ o. (own_is s e o, λ i. apart (is_kind 2 e) (own_no_grant o.0.id e o.2) (gone_kind e i)))
    (λ p. (parent_is s e p, λ i. apart (is_kind 2 e) (parent_no_grant p.0.id p.0.parent e p.3) (gone_kind e i)))
    (λ g. let was = In-filter GrantEntry test g.0 s.grants g.1 in (
      grant_is s e (g.0, was.0, g.2),
      λ i. let ids = grant_edge-ids g.0.holder h g.0.folder f (sym g.2 ∙ gone e i) in
          apart (g.0.holder == h && g.0.folder == f) (not-true (g.0.holder == h && g.0.folder == f) was.1) (and_from (g.0.holder == h) (g.0.folder == f) (eq-eqb g.0.holder h ids.0) (eq-eqb g.0.folder f ids.1)),
    ))
    (λ y. (file_is s e y, λ i. apart (is_kind 2 e) (file_kind y.0.folder y.0.id e y.2).1 (gone_kind e i)))
    (λ y. (clear_is s e (y.0, y.1, were_granted s h f (clear_number y.0.id) y.2, y.3), λ i. apart (is_kind 2 e) (clear_kind y.0.folder y.0.id e y.3).1 (gone_kind e i)))
    w)

-- what stays when roles go: the edges without one of them at an end. A file's last grant
pub last_grant_stays : (s : Store) (h f : ℕ) (e : Edge) → IsEdge s e → (Touches (clear_of f ∷ []) e → ⊥) → IsEdge (without_grant s h f) e
unfolding without_grant
last_grant_stays s h f e w other =
    let test : GrantEntry → Bool = λ g. not (g.holder == h && g.folder == f) in
    let t : Store = record s { grants = filter test s.grants } in edge_cases (IsEdge t e) s e
    (λ o. own_is t e o)
    (λ p. parent_is t e p)
    (λ g. ⊎_elim
    (λ q. absurd (other (inr (inl (grant_end g.0.holder g.0.folder e g.2 ∙ ap clear_of (eqb-true g.0.folder f (and_parts (g.0.holder == h) (g.0.folder == f) q).1))))))
    (λ q. grant_is t e (g.0, filter-In GrantEntry test g.0 s.grants g.1 (not_from_false (g.0.holder == h && g.0.folder == f) q), g.2))
    (cases_Bool (g.0.holder == h && g.0.folder == f)))
    (λ y. file_is t e y)
    (λ y. ⊎_elim
    (λ q. absurd (⊎_elim (λ u. other (inl (inl (u ∙ ap clear_of q)))) (λ u. other (inr (inl (u ∙ ap clear_of q)))) (clear_touches y.0.folder y.0.id e y.3)))
    (λ n. clear_is t e (y.0, y.1, less_granted s h f (clear_number y.0.id) y.2 n, y.3))
    (cases_eq (clear_number y.0.id) f))
    w

pub last_grant_stood : (s : Store) (h f : ℕ) (e : Edge) → IsEdge (without_grant s h f) e → IsEdge s e
unfolding without_grant
last_grant_stood s h f e w =
    edges_along (record s { grants = filter (λ (g : GrantEntry). not (g.holder == h && g.folder == f)) s.grants }) s (λ y i. (y, i, refl, refl)) (λ g i. (In-filter GrantEntry (λ g. not (g.holder == h && g.folder == f)) g s.grants i).0) (λ y i. (y, i, refl, refl)) e w

-- grants on one number go
pub off_granted : (gs : List GrantEntry) (s t : Store) (f c : ℕ) → s.grants ≡ gs → t.grants ≡ filter (λ (g : GrantEntry). not (g.folder == f)) gs → has_grants s c ≡ true → c ≢ f → has_grants t c ≡ true
off_granted gs s t f c before after has other =
    let w = (grants_told s c).0 has in
    (grants_told t c).1 (w.0, subst (In w.0) (sym after) (filter-In GrantEntry (λ g. not (g.folder == f)) w.0 gs (subst (In w.0) before w.1) (not_from_false (w.0.folder == f) (ne_eqb w.0.folder f (λ q. other (sym w.2 ∙ q))))), w.2)

-- a file, with the grants on it
pub in_roles : (s : Store) (x : ℕ) (r : Role) → r ≡ file_role x → In r (roles_of_file s x)
unfolding roles_of_file
in_roles s x r q = (In-append Role r (clearance_in s x) (file_role x ∷ [])).1 (inr (inl q))

pub clear_in_roles : (s : Store) (x : ℕ) (r : Role) → has_grants s (clear_number x) ≡ true → r ≡ clear_of (clear_number x) → In r (roles_of_file s x)
unfolding roles_of_file clearance_in
clear_in_roles s x r has q = (In-append Role r (cond (has_grants s (clear_number x)) (clear_of (clear_number x) ∷ []) []) (file_role x ∷ [])).1
    (inl (subst (λ b. In r (cond b (clear_of (clear_number x) ∷ []) [])) (sym has) (inl q)))

pub no_file_stays : (s : Store) (x : ℕ) (e : Edge) → IsEdge s e → (Touches (roles_of_file s x) e → ⊥) → IsEdge (without_file s x) e
unfolding without_file
no_file_stays s x e w other =
    let kept : FileEntry → Bool = λ y. not (y.id == x) in
    let granted : GrantEntry → Bool = λ g. not (g.folder == clear_number x) in
    let t : Store = record s { files = filter kept s.files; grants = filter granted s.grants } in edge_cases (IsEdge t e) s e
    (λ o. own_is t e o)
    (λ p. parent_is t e p)
    (λ g. ⊎_elim
    (λ q. absurd (other (inr (clear_in_roles s x e.to ((grants_told s (clear_number x)).1 (g.0, g.1, q)) (grant_end g.0.holder g.0.folder e g.2 ∙ ap clear_of q)))))
    (λ n. grant_is t e (g.0, filter-In GrantEntry granted g.0 s.grants g.1 (not_from_false (g.0.folder == clear_number x) (ne_eqb g.0.folder (clear_number x) n)), g.2))
    (cases_eq g.0.folder (clear_number x)))
    (λ y. ⊎_elim
    (λ q. absurd (other (inr (in_roles s x e.to (file_end y.0.folder y.0.id e y.2 ∙ ap file_role q)))))
    (λ n. file_is t e (y.0, filter-In FileEntry kept y.0 s.files y.1 (not_from_false (y.0.id == x) (ne_eqb y.0.id x n)), y.2))
    (cases_eq y.0.id x))
    (λ y. ⊎_elim
    (λ q. let has = subst (λ n. has_grants s (clear_number n) ≡ true) q y.2 in
    let same = ap (λ n. clear_of (clear_number n)) q in
    absurd (⊎_elim (λ u. other (inl (clear_in_roles s x e.from has (u ∙ same)))) (λ u. other (inr (clear_in_roles s x e.to has (u ∙ same)))) (clear_touches y.0.folder y.0.id e y.3)))
    (λ n. clear_is t e (
      y.0,
      filter-In FileEntry kept y.0 s.files y.1 (not_from_false (y.0.id == x) (ne_eqb y.0.id x n)),
      off_granted s.grants s t (clear_number x) (clear_number y.0.id) refl refl y.2 (λ q. n (number_same y.0.id x q)),
      y.3,
    ))
    (cases_eq y.0.id x))
    w

pub no_file_stood : (s : Store) (x : ℕ) (e : Edge) → IsEdge (without_file s x) e → IsEdge s e
unfolding without_file
no_file_stood s x e w =
    edges_along (record s { files = filter (λ (y : FileEntry). not (y.id == x)) s.files; grants = filter (λ (g : GrantEntry). not (g.folder == clear_number x)) s.grants }) s
    (λ y i. (y, i, refl, refl)) (λ g i. (In-filter GrantEntry (λ g. not (g.folder == clear_number x)) g s.grants i).0) (λ y i. (y, (In-filter FileEntry (λ y. not (y.id == x)) y s.files i).0, refl, refl)) e w

-- a folder without a child, which is no file's clearance number
pub no_folder_stays : (s : Store) (f : ℕ) (e : Edge) → ((y : FileEntry) → clear_number y.id ≢ f) → IsEdge s e → (Touches (folder_roles f) e → ⊥) → IsEdge (without_folder s f) e
unfolding without_folder
no_folder_stays s f e plain w other =
    let kept : FolderEntry → Bool = λ y. not (y.id == f) in
    let granted : GrantEntry → Bool = λ g. not (g.folder == f) in
    let t : Store = record s { folders = filter kept s.folders; grants = filter granted s.grants } in edge_cases (IsEdge t e) s e
    (λ o. ⊎_elim
    (λ q. absurd (other (subst (λ n. Touches (folder_roles n) e) q (own_touches o.0.id e o.2))))
    (λ n. own_is t e (o.0, filter-In FolderEntry kept o.0 s.folders o.1 (not_from_false (o.0.id == f) (ne_eqb o.0.id f n)), o.2))
    (cases_eq o.0.id f))
    (λ p. ⊎_elim
    (λ q. absurd (other (subst (λ n. Touches (folder_roles n) e) q (parent_touches p.0.id p.0.parent e p.3))))
    (λ n. parent_is t e (p.0, filter-In FolderEntry kept p.0 s.folders p.1 (not_from_false (p.0.id == f) (ne_eqb p.0.id f n)), p.2, p.3))
    (cases_eq p.0.id f))
    (λ g. ⊎_elim
    (λ q. absurd (other (subst (λ n. Touches (folder_roles n) e) q (grant_touches g.0.holder g.0.folder e g.2))))
    (λ n. grant_is t e (g.0, filter-In GrantEntry granted g.0 s.grants g.1 (not_from_false (g.0.folder == f) (ne_eqb g.0.folder f n)), g.2))
    (cases_eq g.0.folder f))
    (λ y. file_is t e y)
    (λ y. clear_is t e (y.0, y.1, off_granted s.grants s t f (clear_number y.0.id) refl refl y.2 (plain y.0), y.3))
    w

pub no_folder_stood : (s : Store) (f : ℕ) (e : Edge) → IsEdge (without_folder s f) e → IsEdge s e
unfolding without_folder
no_folder_stood s f e w =
    edges_along (record s { folders = filter (λ (y : FolderEntry). not (y.id == f)) s.folders; grants = filter (λ (g : GrantEntry). not (g.folder == f)) s.grants }) s
    (λ y i. (y, (In-filter FolderEntry (λ y. not (y.id == f)) y s.folders i).0, refl, refl)) (λ g i. (In-filter GrantEntry (λ g. not (g.folder == f)) g s.grants i).0) (λ y i. (y, i, refl, refl)) e w

-- ---- a file moves

-- an edge that a file's move takes along
unfoldable pub is_taken : Edge → Bool
is_taken e = is_kind 9 e || is_kind 11 e

own_not_taken : (f : ℕ) (e : Edge) → In e (folder_edges f) → is_taken e ≡ false
unfolding folder_edges edge is_kind is_taken
own_not_taken f e i = ⊎_elim (λ s. ap is_taken s)
    (λ a. ⊎_elim (λ s. ap is_taken s)
    (λ b. ⊎_elim (λ s. ap is_taken s)
    (λ c. ⊎_elim (λ s. ap is_taken s)
    (λ d. ⊎_elim (λ s. ap is_taken s) (λ n. absurd n) d) c) b) a) i

parent_not_taken : (f p : ℕ) (e : Edge) → In e (parent_edges f p) → is_taken e ≡ false
unfolding parent_edges edge is_kind is_taken
parent_not_taken f p e i = ⊎_elim (λ s. ap is_taken s) (λ a. ⊎_elim (λ s. ap is_taken s) (λ n. absurd n) a) i

grant_not_taken : (h f : ℕ) (e : Edge) → e ≡ grant_edge h f → is_taken e ≡ false
unfolding grant_edge edge is_kind is_taken
grant_not_taken h f e s = ap is_taken s

file_taken : (f x : ℕ) (e : Edge) → e ≡ file_edge f x → (is_taken e ≡ true) × (is_kind 11 e ≡ false)
unfolding file_edge edge is_kind is_taken
file_taken f x e s = (ap is_taken s, ap (is_kind 11) s)

back_taken : (f x : ℕ) (e : Edge) → e ≡ edge_back f x → (is_taken e ≡ true) × (is_kind 11 e ≡ true)
unfolding edge_back edge is_kind is_taken
back_taken f x e s = (ap is_taken s, ap (is_kind 11) s)

edge_back-id : (f g x y : ℕ) → edge_back f x ≡ edge_back g y → x ≡ y
unfolding edge_back edge clear_of role_id
edge_back-id f g x y e = number_same x y (ap (λ (z : Edge). role_id z.from) e)

-- the edges that are taken along
abbrev IsTaken : Store → ℕ → ℕ → Edge → Type 0
IsTaken s f x e = (e ≡ file_edge f x) ⊎ ((has_grants s (clear_number x) ≡ true) × (e ≡ edge_back f x))

taken_told : (s : Store) (f x : ℕ) (e : Edge) → In e (edges_with_file s f x) ↔ IsTaken s f x e
unfolding edges_with_file
taken_told s f x e = by (has_grants s (clear_number x))
  where
    by : (b : Bool) → In e (file_edge f x ∷ cond b (edge_back f x ∷ []) []) ↔ ((e ≡ file_edge f x) ⊎ ((b ≡ true) × (e ≡ edge_back f x)))
    by true = (λ i. ⊎_elim (λ q. inl q) (λ u. inr (refl, one_is e (edge_back f x) u)) i, λ w. ⊎_elim (λ q. inl q) (λ u. inr (inl u.1)) w)
    by false = (λ i. ⊎_elim (λ q. inl q) (λ z. absurd z) i, λ w. ⊎_elim (λ q. inl q) (λ u. absurd (false≢true u.0)) w)

pub taken_kinds : (s : Store) (f x : ℕ) (e : Edge) → In e (edges_with_file s f x) → is_taken e ≡ true
taken_kinds s f x e i = ⊎_elim (λ q. (file_taken f x e q).0) (λ u. (back_taken f x e u.1).0) ((taken_told s f x e).0 i)

-- of the edges at a clearance one hangs on the folder
clear_parts : (f x : ℕ) (e : Edge) → In e (clearance_edges f x) → ((is_kind 11 e ≡ false) × ((g : ℕ) → In e (clearance_edges g x))) ⊎ (e ≡ edge_back f x)
unfolding clearance_edges edge_back edge is_kind
clear_parts f x e i = ⊎_elim (λ s. inl (ap (is_kind 11) s, λ g. inl s))
    (λ a. ⊎_elim (λ s. inl (ap (is_kind 11) s, λ g. inr (inl s)))
    (λ b. ⊎_elim (λ s. inr s) (λ n. absurd n) b) a) i

back_in : (f x : ℕ) (e : Edge) → e ≡ edge_back f x → In e (clearance_edges f x)
unfolding clearance_edges edge_back
back_in f x e q = inr (inr (inl q))

-- what is taken is what the file's row tells
pub taken_stood : (s : Store) (x : FileEntry) (e : Edge) → In x s.files → In e (edges_with_file s x.folder x.id) → IsEdge s e
taken_stood s x e there i = ⊎_elim
    (λ q. file_is s e (x, there, q))
    (λ u. clear_is s e (x, there, u.0, back_in x.folder x.id e u.1))
    ((taken_told s x.folder x.id e).0 i)

-- what is taken from a folder that the file isn't in didn't stand
pub taken_elsewhere : (s : Store) (x : FileEntry) (g : ℕ) (e : Edge) → In x s.files → ((y : FileEntry) → In y s.files → y.id ≡ x.id → y ≡ x) → x.folder ≢ g → In e (edges_with_file s g x.id) → IsEdge s e → ⊥
unfolding file_edge edge_back edge files_of back_of role_id
taken_elsewhere s x g e there own other i w =
    let t = taken_kinds s g x.id e i in edge_cases ⊥ s e
    (λ o. apart (is_taken e) (own_not_taken o.0.id e o.2) t)
    (λ p. apart (is_taken e) (parent_not_taken p.0.id p.0.parent e p.3) t)
    (λ k. apart (is_taken e) (grant_not_taken k.0.holder k.0.folder e k.2) t)
    (λ y. ⊎_elim
    (λ q. let same = own y.0 y.1 (file_edge-id y.0.folder g y.0.id x.id (sym y.2 ∙ q)) in
    other (sym (ap (λ (z : FileEntry). z.folder) same) ∙ ap (λ (z : Edge). role_id z.from) (sym y.2 ∙ q)))
    (λ u. apart (is_kind 11 e) (file_taken y.0.folder y.0.id e y.2).1 (back_taken g x.id e u.1).1)
    ((taken_told s g x.id e).0 i))
    (λ y. ⊎_elim
    (λ q. apart (is_kind 9 e) (clear_kind y.0.folder y.0.id e y.3).0 (file_kind g x.id e q).0)
    (λ u. ⊎_elim
    (λ k. apart (is_kind 11 e) k.0 (back_taken g x.id e u.1).1)
    (λ q. let same = own y.0 y.1 (edge_back-id y.0.folder g y.0.id x.id (sym q ∙ u.1)) in
    other (sym (ap (λ (z : FileEntry). z.folder) same) ∙ ap (λ (z : Edge). role_id z.to) (sym q ∙ u.1)))
    (clear_parts y.0.folder y.0.id e y.3))
    ((taken_told s g x.id e).0 i))
    w

module _ (s : Store) (x : FileEntry) (q : ℕ) (c : Change) (there : In x s.files) (own : (y : FileEntry) → In y s.files → y.id ≡ x.id → y ≡ x)
    (r : c.removed ≡ edges_with_file s x.folder x.id) (a : c.added ≡ edges_with_file s q x.id) where
  put : FileEntry → FileEntry
  put y = record y { folder = q }

  pick : FileEntry → FileEntry
  pick y = cond (y.id == x.id) (put y) y

  shifted : Store
  shifted = record s { files = map pick s.files }

  in_new : (y z : FileEntry) → In y s.files → pick y ≡ z → In z shifted.files
  unfolding shifted
  in_new y z i p = (In-map FileEntry FileEntry pick z s.files).1 (y, i, sym p)

  the_new : In (put x) shifted.files
  unfolding pick
  the_new = in_new x (put x) there (⊎_elim (λ h. h.1) (λ h. absurd (h.0 refl)) (file_pick x.id put x))

  takes : (e : Edge) → IsTaken s x.folder x.id e → In e c.removed
  takes e w = subst (In e) (sym r) ((taken_told s x.folder x.id e).1 w)

  brings : (e : Edge) → IsTaken s q x.id e → In e c.added
  brings e w = subst (In e) (sym a) ((taken_told s q x.id e).1 w)

  taken : (e : Edge) → In e c.removed → IsTaken s x.folder x.id e
  taken e i = (taken_told s x.folder x.id e).0 (subst (In e) r i)

  -- what isn't of its kind isn't taken
  untaken : (e : Edge) → is_taken e ≡ false → In e c.removed → ⊥
  untaken e t i = apart (is_taken e) t (taken_kinds s x.folder x.id e (subst (In e) r i))

  shift_on : (e : Edge) → IsThen s c e → IsEdge shifted e
  unfolding shifted put pick has_grants
  shift_on e w = ⊎_elim
      (λ k. edge_cases (IsEdge shifted e) s e
      (λ o. own_is shifted e o)
      (λ p. parent_is shifted e p)
      (λ g. grant_is shifted e g)
      (λ y. ⊎_elim
      (λ h. absurd (k.1 (takes e (inl (y.2 ∙ ap (λ (z : FileEntry). file_edge z.folder z.id) (own y.0 y.1 h.0))))))
      (λ h. file_is shifted e (y.0, in_new y.0 y.0 y.1 h.1, y.2))
      (file_pick x.id put y.0))
      (λ y. ⊎_elim
      (λ h. let same = own y.0 y.1 h.0 in
      let has = subst (λ (z : FileEntry). has_grants s (clear_number z.id) ≡ true) same y.2 in ⊎_elim
      (λ u. clear_is shifted e (put x, the_new, has, u.1 q))
      (λ u. absurd (k.1 (takes e (inr (has, u)))))
      (clear_parts x.folder x.id e (subst (λ (z : FileEntry). In e (clearance_edges z.folder z.id)) same y.3)))
      (λ h. clear_is shifted e (y.0, in_new y.0 y.0 y.1 h.1, y.2, y.3))
      (file_pick x.id put y.0))
      k.0)
      (λ i. ⊎_elim
      (λ u. file_is shifted e (put x, the_new, u))
      (λ u. clear_is shifted e (put x, the_new, u.0, back_in q x.id e u.1))
      ((taken_told s q x.id e).0 (subst (In e) a i)))
      w

  shift_back : (e : Edge) → IsEdge shifted e → IsThen s c e
  unfolding shifted put pick has_grants
  shift_back e w = edge_cases (IsThen s c e) shifted e
      (λ o. inl (own_is s e o, untaken e (own_not_taken o.0.id e o.2)))
      (λ p. inl (parent_is s e p, untaken e (parent_not_taken p.0.id p.0.parent e p.3)))
      (λ g. inl (grant_is s e g, untaken e (grant_not_taken g.0.holder g.0.folder e g.2)))
      (λ y. let was = (In-map FileEntry FileEntry pick y.0 s.files).0 y.1 in ⊎_elim
      (λ h. inr (brings e (inl (y.2 ∙ ap (λ (z : FileEntry). file_edge z.folder z.id) (was.2 ∙ h.1) ∙ ap (file_edge q) h.0))))
      (λ h. let told = y.2 ∙ ap (λ (z : FileEntry). file_edge z.folder z.id) (was.2 ∙ h.1) in inl (
        file_is s e (was.0, was.1, told),
        λ i. ⊎_elim
            (λ u. h.0 (file_edge-id was.0.folder x.folder was.0.id x.id (sym told ∙ u)))
            (λ u. apart (is_kind 11 e) (file_taken was.0.folder was.0.id e told).1 (back_taken x.folder x.id e u.1).1)
            (taken e i),
      ))
      (file_pick x.id put was.0))
      (λ y. let was = (In-map FileEntry FileEntry pick y.0 s.files).0 y.1 in ⊎_elim
      (λ h. let has = subst (λ n. has_grants s (clear_number n) ≡ true) (ap (λ (z : FileEntry). z.id) (was.2 ∙ h.1) ∙ h.0) y.2 in
      let here = subst (λ n. In e (clearance_edges q n)) h.0 (subst (λ (z : FileEntry). In e (clearance_edges z.folder z.id)) (was.2 ∙ h.1) y.3) in ⊎_elim
      (λ u. inl (
        clear_is s e (x, there, has, u.1 x.folder),
        λ i. ⊎_elim
            (λ v. apart (is_kind 9 e) (clear_kind q x.id e here).0 (file_kind x.folder x.id e v).0)
            (λ v. apart (is_kind 11 e) u.0 (back_taken x.folder x.id e v.1).1)
            (taken e i),
      ))
      (λ u. inr (brings e (inr (has, u))))
      (clear_parts q x.id e here))
      (λ h. let has = subst (λ n. has_grants s (clear_number n) ≡ true) (ap (λ (z : FileEntry). z.id) (was.2 ∙ h.1)) y.2 in
      let here = subst (λ (z : FileEntry). In e (clearance_edges z.folder z.id)) (was.2 ∙ h.1) y.3 in inl (
        clear_is s e (was.0, was.1, has, here),
        λ i. ⊎_elim
            (λ v. apart (is_kind 9 e) (clear_kind was.0.folder was.0.id e here).0 (file_kind x.folder x.id e v).0)
            (λ v. ⊎_elim
            (λ u. apart (is_kind 11 e) u.0 (back_taken x.folder x.id e v.1).1)
            (λ u. h.0 (edge_back-id was.0.folder x.folder was.0.id x.id (sym u ∙ v.1)))
            (clear_parts was.0.folder was.0.id e here))
            (taken e i),
      ))
      (file_pick x.id put was.0))
      w

  pub shift_file_edges : Leads s c (with_file s x.id (λ (y : FileEntry). record y { folder = q }))
  unfolding with_file shifted put pick
  shift_file_edges e = (shift_on e, shift_back e)

-- a folder moves
pub shift_folder_edges : (s : Store) (x : FolderEntry) (q : ℕ) (c : Change) → In x s.folders → ((y : FolderEntry) → In y s.folders → y.id ≡ x.id → y ≡ x) → q ≢ 0 → c.removed ≡ parent_edges x.id x.parent → c.added ≡ parent_edges x.id q
    → Leads s c (with_folder s x.id (λ (y : FolderEntry). record y { parent = q }))
unfolding with_folder has_grants
shift_folder_edges s x q c there own some r a e =
    let put : FolderEntry → FolderEntry = λ y. record y { parent = q } in
    let pick : FolderEntry → FolderEntry = λ y. cond (y.id == x.id) (put y) y in
    let t : Store = record s { folders = map pick s.folders } in
    let gone : In e c.removed → In e (parent_edges x.id x.parent) = λ i. subst (In e) r i in
    let gone_kind : In e c.removed → is_parent_kind e ≡ true = λ i. parent_kind x.id x.parent e (gone i) in
    let in_new = λ (y z : FolderEntry) (i : In y s.folders) (p : pick y ≡ z). (In-map FolderEntry FolderEntry pick z s.folders).1 (y, i, sym p) in (
      λ w. ⊎_elim
          (λ k. edge_cases (IsEdge t e) s e
          (λ o. own_is t e (pick o.0, in_new o.0 (pick o.0) o.1 refl, subst (λ n. In e (folder_edges n)) (sym (⊎_elim (λ h. ap (λ (z : FolderEntry). z.id) h.1) (λ h. ap (λ (z : FolderEntry). z.id) h.1) (folder_cases x.id put o.0))) o.2))
          (λ p. ⊎_elim
          (λ h. absurd (k.1 (subst (In e) (sym r) (subst (λ (z : FolderEntry). In e (parent_edges z.id z.parent)) (own p.0 p.1 h.0) p.3))))
          (λ h. parent_is t e (p.0, in_new p.0 p.0 p.1 h.1, p.2, p.3))
          (folder_cases x.id put p.0))
          (λ g. grant_is t e g)
          (λ y. file_is t e y)
          (λ y. clear_is t e y)
          k.0)
          (λ i. parent_is t e (put x, in_new x (put x) there (⊎_elim (λ h. h.1) (λ h. absurd (h.0 refl)) (folder_cases x.id put x)), some, subst (In e) a i)) w,
      λ w. edge_cases (IsThen s c e) t e
          (λ o. let was = (In-map FolderEntry FolderEntry pick o.0 s.folders).0 o.1 in
          let id : o.0.id ≡ was.0.id = ap (λ (z : FolderEntry). z.id) was.2 ∙ ⊎_elim (λ h. ap (λ (z : FolderEntry). z.id) h.1) (λ h. ap (λ (z : FolderEntry). z.id) h.1) (folder_cases x.id put was.0) in
          inl (own_is s e (was.0, was.1, subst (λ n. In e (folder_edges n)) id o.2), λ i. apart (is_parent_kind e) (own_no_parent o.0.id e o.2) (gone_kind i)))
          (λ p. let was = (In-map FolderEntry FolderEntry pick p.0 s.folders).0 p.1 in ⊎_elim
          (λ h. inr (subst (In e) (sym a) (subst (λ n. In e (parent_edges n q)) h.0 (subst (λ (z : FolderEntry). In e (parent_edges z.id z.parent)) (was.2 ∙ h.1) p.3))))
          (λ h. inl (
            parent_is s e (was.0, was.1, (λ z. p.2 (ap (λ (y : FolderEntry). y.parent) (was.2 ∙ h.1) ∙ z)), subst (λ (z : FolderEntry). In e (parent_edges z.id z.parent)) (was.2 ∙ h.1) p.3),
            λ i. h.0 (sym (parent_child was.0.id was.0.parent e (subst (λ (z : FolderEntry). In e (parent_edges z.id z.parent)) (was.2 ∙ h.1) p.3)) ∙ parent_child x.id x.parent e (gone i)),
          ))
          (folder_cases x.id put was.0))
          (λ g. inl (grant_is s e g, λ i. apart (is_parent_kind e) (grant_kind g.0.holder g.0.folder e g.2).2 (gone_kind i)))
          (λ y. inl (file_is s e y, λ i. apart (is_parent_kind e) (file_kind y.0.folder y.0.id e y.2).2 (gone_kind i)))
          (λ y. inl (clear_is s e y, λ i. apart (is_parent_kind e) (clear_kind y.0.folder y.0.id e y.3).2 (gone_kind i)))
          w,
    )
