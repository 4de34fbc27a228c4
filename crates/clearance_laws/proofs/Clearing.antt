-- An edge leads into the clearance key of a file only where somebody has a grant on the file.
use Rattle.std.proofs.Common.{◌≡◌, ℕ, ◌<◌, true, false, ◌==◌, ◌↔◌, IsTrue, inr, ⊎_elim, refl, sym, ap, ◌∙◌, subst}
use Rattle.std.proofs.lemmas.Bool.{eqb-true, eq-eqb, false≢true}
use Rattle.cry_base.specs.Clearances.{clear_base, clear_number}
use Rattle.cry_base.specs.Sets.{In}
use Rattle.cry_base.specs.Sets.Path.{Here, On}
use Rattle.cry_base.specs.Store.{Store, FileEntry, GrantEntry}
use Rattle.cry_base.specs.declared.roles.Edge.{Edge}
use Rattle.cry_base.specs.declared.roles.Role.{Role}
use Rattle.cry_base.specs.declared.roles.Role.TheVariants.{Owner}
use Rattle.cry_base.proofs.Members.{In-any, In-map}
use Rattle.role_graph.specs.Roles.{holder_role, clear_of, sub_of, back_of, files_of, data_of, file_role, variant_of, role_id, is_clear_role}
use Rattle.role_graph.specs.Edges.{edge, folder_edges, parent_edges, grant_edge, file_edge, clearance_edges, has_grants, edges, pairs_of, Reaches}
use Rattle.role_graph.specs.Edges.{IsOwnEdge, IsParentEdge, IsGrantEdge, IsFileEdge, IsClearanceEdge, IsEdge}
use Rattle.role_graph.specs.Rights.{IsGranted}
use Rattle.role_graph.specs.RightsByReach.{IsSettled}
use Rattle.role_graph.proofs.Edging.{edges_told}
use Rattle.role_graph.proofs.Rightful.{not_both, rights_by_reach}
use Rattle.role_graph.proofs.Typing.{clearance_reached}

granted_there : (s : Store) (g : GrantEntry) (c : ℕ) → In g s.grants → g.folder ≡ c → has_grants s c ≡ true
unfolding has_grants
granted_there s g c i same =
    (In-any GrantEntry (λ e. e.folder == c) (λ e. e.folder ≡ c) (λ e. (λ t. eqb-true e.folder c t, λ q. eq-eqb e.folder c q)) s.grants).1 (g, i, same)

-- a role that is no clearance, and the number of one that is
no_clearance : (r : Role) (c : ℕ) → is_clear_role r ≡ false → r ≡ clear_of c → ⊥
unfolding is_clear_role variant_of clear_of
no_clearance r c none same = false≢true (sym none ∙ ap is_clear_role same)

same_number : (a c : ℕ) → clear_of a ≡ clear_of c → a ≡ c
unfolding role_id clear_of
same_number a c same = ap role_id same

-- where the edge ends in the clearance with this number, somebody has a grant on it
abbrev IsByGrant : Store → ℕ → Edge → Type 0
IsByGrant s c e = e.to ≡ clear_of c → has_grants s c ≡ true

elsewhere : (s : Store) (c : ℕ) (r : Role) → is_clear_role r ≡ false → r ≡ clear_of c → has_grants s c ≡ true
elsewhere s c r none same = absurd (no_clearance r c none same)

own_edge : (s : Store) (x f : ℕ) → f < clear_base → (e : Edge) → In e (folder_edges f) → IsByGrant s (clear_number x) e
unfolding folder_edges edge is_clear_role variant_of sub_of back_of files_of data_of
own_edge s x f low e i =
    let c = clear_number x in
    let P : Edge → Type 0 = λ z. IsByGrant s c z in ⊎_elim
    (λ q. subst P (sym q) (λ same. absurd (not_both f x (sym (same_number f c same)) low)))
    (λ a. ⊎_elim (λ q. subst P (sym q) (elsewhere s c (sub_of f) refl))
    (λ b. ⊎_elim (λ q. subst P (sym q) (elsewhere s c (back_of f) refl))
    (λ d. ⊎_elim (λ q. subst P (sym q) (elsewhere s c (files_of f) refl))
    (λ g. ⊎_elim (λ q. subst P (sym q) (elsewhere s c (data_of f) refl)) (λ n. absurd n) g) d) b) a) i

parent_edge : (s : Store) (c f p : ℕ) (e : Edge) → In e (parent_edges f p) → IsByGrant s c e
unfolding parent_edges edge is_clear_role variant_of sub_of back_of
parent_edge s c f p e i =
    let P : Edge → Type 0 = λ z. IsByGrant s c z in ⊎_elim
    (λ q. subst P (sym q) (elsewhere s c (sub_of f) refl))
    (λ a. ⊎_elim (λ q. subst P (sym q) (elsewhere s c (back_of p) refl)) (λ n. absurd n) a) i

grants_edge : (s : Store) (c : ℕ) (g : GrantEntry) → In g s.grants → (e : Edge) → e ≡ grant_edge g.holder g.folder → IsByGrant s c e
unfolding grant_edge edge
grants_edge s c g j e q =
    let P : Edge → Type 0 = λ z. IsByGrant s c z in
    subst P (sym q) (λ same. granted_there s g c j (same_number g.folder c same))

files_edge : (s : Store) (c f x : ℕ) (e : Edge) → e ≡ file_edge f x → IsByGrant s c e
unfolding file_edge edge is_clear_role variant_of file_role
files_edge s c f x e q =
    let P : Edge → Type 0 = λ z. IsByGrant s c z in
    subst P (sym q) (elsewhere s c (file_role x) refl)

clearance_edge : (s : Store) (c f x : ℕ) → has_grants s (clear_number x) ≡ true → (e : Edge) → In e (clearance_edges f x) → IsByGrant s c e
unfolding clearance_edges edge is_clear_role variant_of back_of file_role
clearance_edge s c f x granted e i =
    let P : Edge → Type 0 = λ z. IsByGrant s c z in ⊎_elim
    (λ q. subst P (sym q) (λ same. subst (λ n. has_grants s n ≡ true) (same_number (clear_number x) c same) granted))
    (λ a. ⊎_elim (λ q. subst P (sym q) (elsewhere s c (file_role x) refl))
    (λ b. ⊎_elim (λ q. subst P (sym q) (elsewhere s c (back_of f) refl)) (λ n. absurd n) b) a) i

edge_by_grant : (s : Store) → IsSettled s → (x : ℕ) (e : Edge) → IsEdge s e → IsByGrant s (clear_number x) e
edge_by_grant s ok x e w = ⊎_elim
    (λ (o : IsOwnEdge s e). own_edge s x o.0.id (ok.folders_below o.0 o.1).0 e o.2)
    (λ v. ⊎_elim
    (λ (p : IsParentEdge s e). parent_edge s (clear_number x) p.0.id p.0.parent e p.3)
    (λ u. ⊎_elim
    (λ (g : IsGrantEdge s e). grants_edge s (clear_number x) g.0 g.1 e g.2)
    (λ t. ⊎_elim
    (λ (y : IsFileEdge s e). files_edge s (clear_number x) y.0.folder y.0.id e y.2)
    (λ (y : IsClearanceEdge s e). clearance_edge s (clear_number x) y.0.folder y.0.id y.2 e y.3) t) u) v) w

pair_by_grant : (s : Store) → IsSettled s → (x : ℕ) (b c : Role) → In (b, c) (pairs_of (edges s)) → c ≡ clear_of (clear_number x) → has_grants s (clear_number x) ≡ true
unfolding pairs_of
pair_by_grant s ok x b c i same =
    let w = (In-map Edge (Role × Role) (λ e. (e.from, e.to)) (b, c) (edges s)).0 i in
    let to : c ≡ w.0.to = ap (λ (q : Role × Role). q.1) w.2 in
    edge_by_grant s ok x w.0 ((edges_told s w.0).0 w.1) (sym to ∙ same)

-- so what leads there from elsewhere does so only where somebody has a grant
reached_by_grant : (s : Store) → IsSettled s → (x : ℕ) (a : Role) → is_clear_role a ≡ false → {r : Role} → Reaches (edges s) a r → r ≡ clear_of (clear_number x) → has_grants s (clear_number x) ≡ true
reached_by_grant s ok x a none Here same = elsewhere s (clear_number x) a none same
reached_by_grant s ok x a none (On {b = b} {c = c} way step) same = pair_by_grant s ok x b c step same

holder_reached : (s : Store) → IsSettled s → (h x : ℕ) → Reaches (edges s) (holder_role h) (clear_of (clear_number x)) → has_grants s (clear_number x) ≡ true
unfolding is_clear_role variant_of holder_role
holder_reached s ok h x way = reached_by_grant s ok x (holder_role h) refl way refl

owner_reached : (s : Store) → IsSettled s → (x : ℕ) → Reaches (edges s) Owner (clear_of (clear_number x)) → has_grants s (clear_number x) ≡ true
unfolding is_clear_role variant_of
owner_reached s ok x way = reached_by_grant s ok x Owner refl way refl

granted_right : (s : Store) → IsSettled s → (h : ℕ) (e : FileEntry) → In e s.files → has_grants s (clear_number e.id) ≡ true
    → Reaches (edges s) (holder_role h) (clear_of (clear_number e.id)) ↔ IsGranted s h (clear_number e.id)
unfolding clear_of
granted_right s ok h e i granted = rights_by_reach s ok h (clear_of (clear_number e.id)) (inr ((e, i, refl), granted))

pub holder_reaches : (s : Store) → IsSettled s → (h : ℕ) (e : FileEntry) → In e s.files → Reaches (edges s) (holder_role h) (clear_of (clear_number e.id)) ↔ IsGranted s h (clear_number e.id)
holder_reaches s ok h e i = (
  λ way. (granted_right s ok h e i (holder_reached s ok h e.id way)).0 way,
  λ granted. (granted_right s ok h e i (granted_there s (record { holder = h; folder = clear_number e.id }) (clear_number e.id) granted refl)).1 granted,
)

pub owner_reaches : (s : Store) → IsSettled s → (e : FileEntry) → In e s.files → Reaches (edges s) Owner (clear_of (clear_number e.id)) ↔ IsTrue (has_grants s (clear_number e.id))
owner_reaches s ok e i = (owner_reached s ok e.id, λ granted. clearance_reached s (clear_number e.id) ((e, i, refl), granted))
