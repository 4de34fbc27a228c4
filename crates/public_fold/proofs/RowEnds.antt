-- What holds of both ends of edges, of where the edges that come begin, and of new roles.
use Rattle.std.proofs.Common.{◌≡◌, ◌≢◌, ℕ, zero, suc, ◌+◌, ◌<◌, ◌≤◌, Bool, true, false, cond, ◌==◌, ◌&&◌, ◌⊎◌, ◌↔◌, [], ◌∷◌, Option, Some, None, inl, inr, ⊎_elim, refl, sym, ap, ◌∙◌, subst, arith}
use Rattle.std.proofs.lemmas.Bool.{and_parts, and_from, eqb-true, eq-eqb, false_from_ne_true}
use Rattle.cry_base.specs.Clearances.{clear_base, clear_number}
use Rattle.cry_base.specs.Sets.{In}
use Rattle.cry_base.specs.Stepping.{without_grant}
use Rattle.cry_base.specs.Store.{Store, FolderEntry, FileEntry, GrantEntry, no_store, has_grant}
use Rattle.cry_base.specs.declared.roles.Edge.{Edge}
use Rattle.cry_base.specs.declared.roles.Role.{Role}
use Rattle.cry_base.specs.declared.roles.Role.TheVariants.{Holder, File}
use Rattle.cry_base.proofs.Members.{In-any}
use Rattle.role_graph.specs.Roles.{holder_role, clear_of, sub_of, back_of, files_of, data_of, file_role, folder_roles, is_root_role, variant_of}
use Rattle.role_graph.specs.Edges.{edge, folder_edges, parent_edges, grant_edge, file_edge, clearance_edges, has_grants, IsEdge}
use Rattle.role_graph.specs.RightsByReach.{HasFolder, IsClearance, MayBeGranted}
use Rattle.move_plan.specs.Change.{Change, clearance_in, edge_back, edges_at, edges_of_first, edges_with_file, given_on, no_change, taken_from, without_roles}
use Rattle.public_fold.specs.Counted.{AreCounted}
use Rattle.public_fold.specs.Keyed.{HasRole}
use Rattle.public_fold.specs.Rooted.{IsRooted}
use Rattle.public_fold.specs.Tree.{AtLevel}
use Rattle.public_fold.proofs.EdgesThen.{edge_cases, grant_is, grants_told}
use Rattle.public_fold.proofs.Levels.{level_stands}
use Rattle.public_fold.proofs.RolesAfter.{HasHolder, no_clear_folder, role_has_folder}

-- both ends of an edge stand
pub parent_stands : (s : Store) (f : FolderEntry) → IsRooted s → In f s.folders → f.parent ≢ 0 → HasFolder s f.parent
parent_stands s f ok i p = let l = ok.folder_level f i in by_level l.0 l.1
  where
    by_level : (n : ℕ) → AtLevel n s.folders f.id → HasFolder s f.parent
    by_level zero l = absurd (p (ap (λ (x : FolderEntry). x.parent) (ok.numbered.own f l.0 i l.1 (sym l.2)) ∙ l.3))
    by_level (suc n) l = subst (HasFolder s) (ap (λ (x : FolderEntry). x.parent) (ok.numbered.own l.0 f l.1 i l.2)) (level_stands n s.folders l.0.parent l.4)

own_ends : (s : Store) (f : ℕ) (e : Edge) → HasFolder s f → In e (folder_edges f) → HasRole s e.from × HasRole s e.to
unfolding folder_edges edge clear_of sub_of back_of files_of data_of
own_ends s f e w i =
    let P : Edge → Type 0 = λ x. HasRole s x.from × HasRole s x.to in ⊎_elim
    (λ q. subst P (sym q) (tt, inl w))
    (λ a. ⊎_elim (λ q. subst P (sym q) (inl w, w))
    (λ b. ⊎_elim (λ q. subst P (sym q) (w, w))
    (λ c. ⊎_elim (λ q. subst P (sym q) (w, w))
    (λ d. ⊎_elim (λ q. subst P (sym q) (w, w)) (λ n. absurd n) d) c) b) a) i

parent_ends : (s : Store) (f p : ℕ) (e : Edge) → HasFolder s f → HasFolder s p → In e (parent_edges f p) → HasRole s e.from × HasRole s e.to
unfolding parent_edges edge sub_of back_of
parent_ends s f p e w v i =
    let P : Edge → Type 0 = λ x. HasRole s x.from × HasRole s x.to in ⊎_elim
    (λ q. subst P (sym q) (v, w))
    (λ a. ⊎_elim (λ q. subst P (sym q) (w, v)) (λ n. absurd n) a) i

grant_ends : (s : Store) (g : GrantEntry) (e : Edge) → In g s.grants → HasHolder s g.holder → MayBeGranted s g.folder → e ≡ grant_edge g.holder g.folder → HasRole s e.from × HasRole s e.to
unfolding grant_edge edge holder_role clear_of
grant_ends s g e i w v q = subst (λ (x : Edge). HasRole s x.from × HasRole s x.to) (sym q)
    (w, ⊎_elim (λ u. inl u) (λ u. inr (u, (grants_told s g.folder).1 (g, i, refl))) v)

file_ends : (s : Store) (x : FileEntry) (e : Edge) → In x s.files → HasFolder s x.folder → e ≡ file_edge x.folder x.id → HasRole s e.from × HasRole s e.to
unfolding file_edge edge files_of file_role
file_ends s x e i v q = subst (λ (x : Edge). HasRole s x.from × HasRole s x.to) (sym q) (v, (x, i, refl))

clear_ends : (s : Store) (x : FileEntry) (e : Edge) → In x s.files → HasFolder s x.folder → has_grants s (clear_number x.id) ≡ true → In e (clearance_edges x.folder x.id) → HasRole s e.from × HasRole s e.to
unfolding clearance_edges edge clear_of back_of file_role
clear_ends s x e i v t j =
    let P : Edge → Type 0 = λ z. HasRole s z.from × HasRole s z.to in
    let clear : HasFolder s (clear_number x.id) ⊎ IsClearance s (clear_number x.id) = inr ((x, i, refl), t) in ⊎_elim
    (λ q. subst P (sym q) (tt, clear))
    (λ a. ⊎_elim (λ q. subst P (sym q) (clear, (x, i, refl)))
    (λ b. ⊎_elim (λ q. subst P (sym q) (clear, v)) (λ n. absurd n) b) a) j

pub ends : (s : Store) → IsRooted s → (e : Edge) → IsEdge s e → HasRole s e.from × HasRole s e.to
ends s ok e w = edge_cases (HasRole s e.from × HasRole s e.to) s e
    (λ o. own_ends s o.0.id e (o.0, o.1, refl) o.2)
    (λ p. parent_ends s p.0.id p.0.parent e (p.0, p.1, refl) (parent_stands s p.0 ok p.1 p.2) p.3)
    (λ g. grant_ends s g.0 e g.1 (ok.held g.0 g.1) (ok.granted_stands g.0 g.1) g.2)
    (λ x. file_ends s x.0 e x.1 (ok.file_folder x.0 x.1) x.2)
    (λ x. clear_ends s x.0 e x.1 (ok.file_folder x.0 x.1) x.2 x.3)
    w

-- nothing stands before the first note
pub no_edge : (e : Edge) → IsEdge no_store e → ⊥
unfolding no_store
no_edge e w = edge_cases ⊥ no_store e (λ o. o.1) (λ p. p.1) (λ g. g.1) (λ x. x.1) (λ x. x.1) w

-- what a note adds leaves a root's key, one that must be clean, or a new one
abbrev pub IsSource : Change → Role → Type 0
IsSource c r = (is_root_role r ≡ true) ⊎ (In r c.wanted ⊎ In r c.fresh)

pub own_sources : (f : ℕ) (e : Edge) → In e (folder_edges f) → (is_root_role e.from ≡ true) ⊎ In e.from (folder_roles f)
unfolding folder_edges edge folder_roles is_root_role variant_of
own_sources f e i =
    let P : Edge → Type 0 = λ x. (is_root_role x.from ≡ true) ⊎ In x.from (folder_roles f) in ⊎_elim
    (λ q. subst P (sym q) (inl refl))
    (λ a. ⊎_elim (λ q. subst P (sym q) (inr (inl refl)))
    (λ b. ⊎_elim (λ q. subst P (sym q) (inr (inr (inl refl))))
    (λ c. ⊎_elim (λ q. subst P (sym q) (inr (inr (inl refl))))
    (λ d. ⊎_elim (λ q. subst P (sym q) (inr (inr (inr (inl refl))))) (λ n. absurd n) d) c) b) a) i

pub parent_sources : (f p : ℕ) (e : Edge) → In e (parent_edges f p) → (e.from ≡ sub_of p) ⊎ (e.from ≡ back_of f)
unfolding parent_edges edge
parent_sources f p e i = ⊎_elim (λ q. inl (ap (λ (x : Edge). x.from) q)) (λ a. ⊎_elim (λ q. inr (ap (λ (x : Edge). x.from) q)) (λ n. absurd n) a) i

pub one_source : (h f : ℕ) (e : Edge) → In e (file_edge f h ∷ []) → e.from ≡ files_of f
unfolding file_edge edge
one_source h f e i = ⊎_elim (λ q. ap (λ (x : Edge). x.from) q) (λ n. absurd n) i

pub grant_source : (h f : ℕ) (e : Edge) → In e (grant_edge h f ∷ []) → is_root_role e.from ≡ true
unfolding grant_edge edge holder_role is_root_role variant_of
grant_source h f e i = ⊎_elim (λ q. ap (λ (x : Edge). is_root_role x.from) q) (λ n. absurd n) i

pub back_is_role : (f : ℕ) (r : Role) → r ≡ back_of f → In r (folder_roles f)
unfolding folder_roles
back_is_role f r q = inr (inr (inl q))

-- of a file's clearance
pub clear_sources : (f x : ℕ) (e : Edge) → In e (clearance_edges f x) → (is_root_role e.from ≡ true) ⊎ (e.from ≡ clear_of (clear_number x))
unfolding clearance_edges edge is_root_role variant_of
clear_sources f x e i = ⊎_elim (λ q. inl (ap (λ (z : Edge). is_root_role z.from) q))
    (λ a. ⊎_elim (λ q. inr (ap (λ (z : Edge). z.from) q))
    (λ b. ⊎_elim (λ q. inr (ap (λ (z : Edge). z.from) q)) (λ n. absurd n) b) a) i

-- and of a file that moves
pub file_sources : (s : Store) (f x : ℕ) (e : Edge) → In e (edges_with_file s f x) → In e.from (files_of f ∷ clearance_in s x)
unfolding edges_with_file clearance_in file_edge edge_back edge
file_sources s f x e i = ⊎_elim (λ q. inl (ap (λ (z : Edge). z.from) q)) (λ u. inr (by (has_grants s (clear_number x)) u)) i
  where
    by : (b : Bool) → In e (cond b (edge_back f x ∷ []) []) → In e.from (cond b (clear_of (clear_number x) ∷ []) [])
    by true u = ⊎_elim (λ q. inl (ap (λ (z : Edge). z.from) q)) (λ n. absurd n) u
    by false u = absurd u

-- new roles are of numbers that were never given
pub new_holder : (s : Store) (r : Role) → AreCounted s → In r (holder_role (s.holders_made + 1) ∷ []) → HasRole s r → ⊥
unfolding holder_role
new_holder s r c i h =
    let q : r ≡ Holder (record { 0 = s.holders_made + 1 }) = ⊎_elim (λ q. q) (λ z. absurd z) i in
    let w : HasHolder s (s.holders_made + 1) = subst (HasRole s) q h in
    let low : w.0.number ≤ s.holders_made = c.each_holder w.0 w.1 in let same : w.0.number ≡ s.holders_made + 1 = w.2 in omega arith

pub new_folder : (s : Store) (r : Role) → AreCounted s → s.folders_made + 1 < clear_base → In r (folder_roles (s.folders_made + 1)) → HasRole s r → ⊥
new_folder s r c few i h = ⊎_elim
    (λ w. let low : w.0.id ≤ s.folders_made = c.each_folder w.0 w.1 in let same : w.0.id ≡ s.folders_made + 1 = w.2 in omega arith)
    (λ w. let same : clear_number w.0.0.id ≡ s.folders_made + 1 = w.0.2 in omega (arith, few, same))
    (role_has_folder s (s.folders_made + 1) r i h)

pub new_file : (s : Store) (r : Role) → AreCounted s → In r (file_role (s.files_made + 1) ∷ []) → HasRole s r → ⊥
unfolding file_role
new_file s r c i h =
    let q : r ≡ File (record { 0 = s.files_made + 1 }) = ⊎_elim (λ q. q) (λ z. absurd z) i in
    let w : (e : FileEntry) × In e s.files × (e.id ≡ s.files_made + 1) = subst (HasRole s) q h in
    let low : w.0.id ≤ s.files_made = c.each_file w.0 w.1 in let same : w.0.id ≡ s.files_made + 1 = w.2 in omega arith

-- nobody has a grant on a file that wasn't made
pub unknown_file : (s : Store) → IsRooted s → has_grants s (clear_number (s.files_made + 1)) ≡ false
unknown_file s ok = false_from_ne_true (has_grants s (clear_number (s.files_made + 1))) (λ t.
    let g = (grants_told s (clear_number (s.files_made + 1))).0 t in ⊎_elim
    (λ w. no_clear_folder s (s.files_made + 1) ok (w.0, w.1, w.2 ∙ g.2))
    (λ w. let low : w.0.id ≤ s.files_made = ok.counted.each_file w.0 w.1 in
    let same : clear_number w.0.id ≡ clear_number (s.files_made + 1) = w.2 ∙ g.2 in omega (arith, low, same))
    (ok.granted_stands g.0 g.1))

-- the edge of a grant that is taken back stood
pub grant_stands : (s : Store) (h f : ℕ) → has_grant s h f ≡ true → (g : GrantEntry) × In g s.grants × ((g.holder ≡ h) × (g.folder ≡ f))
unfolding has_grant
grant_stands s h f t =
    let P : GrantEntry → Type 0 = λ g. (g.holder ≡ h) × (g.folder ≡ f) in
    let told = λ (g : GrantEntry). let both : ((g.holder == h && g.folder == f) ≡ true) ↔ P g = (
      (λ u. let b = and_parts (g.holder == h) (g.folder == f) u in (eqb-true g.holder h b.0, eqb-true g.folder f b.1)),
      (λ u. and_from (g.holder == h) (g.folder == f) (eq-eqb g.holder h u.0) (eq-eqb g.folder f u.1)),
    ) in both in
    (In-any GrantEntry (λ g. g.holder == h && g.folder == f) P told s.grants).0 t

pub revoked_stood : (s : Store) (h f : ℕ) (e : Edge) → has_grant s h f ≡ true → In e (grant_edge h f ∷ []) → IsEdge s e
revoked_stood s h f e t i =
    let w = grant_stands s h f t in
    grant_is s e (w.0, w.1, ⊎_elim (λ q. q) (λ z. absurd z) i ∙ ap (λ n. grant_edge n f) (sym w.2.0) ∙ ap (grant_edge w.0.holder) (sym w.2.1))

-- which roles come with a grant
pub given_fresh : (s : Store) (h f : ℕ) (o : Option ℕ) (r : Role) → In r (given_on s h f o).fresh → r ≡ clear_of f
unfolding given_on no_change
given_fresh s h f None r i = absurd i
given_fresh s h f (Some x) r i = by (has_grants s f) i
  where
    by : (b : Bool) → In r (cond b (record no_change { added = grant_edge h f ∷ [] }) (record no_change { fresh = clear_of f ∷ []; added = edges_of_first s h x })).fresh → r ≡ clear_of f
    by true j = absurd j
    by false j = ⊎_elim (λ q. q) (λ z. absurd z) j

pub taken_fresh : (s : Store) (h f : ℕ) (o : Option ℕ) (r : Role) → In r (taken_from s h f o).fresh → ⊥
unfolding taken_from without_roles no_change
taken_fresh s h f None r i = i
taken_fresh s h f (Some x) r i = by (has_grants (without_grant s h f) f) i
  where
    by : (b : Bool) → In r (cond b (record no_change { removed = grant_edge h f ∷ []; wanted = clear_of f ∷ [] }) (record no_change { removed = edges_at s (clear_of f ∷ []); gone = clear_of f ∷ [] })).fresh → ⊥
    by true j = j
    by false j = j
