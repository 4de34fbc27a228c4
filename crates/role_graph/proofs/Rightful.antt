-- A holder's key leads to a role exactly where the holder has the right that it stands for.
use Rattle.std.proofs.Common.{◌≡◌, ◌≢◌, ℕ, ◌<◌, true, ◌==◌, ◌⊎◌, ◌↔◌, map, inl, inr, ⊎_elim, refl, sym, ap, ◌∙◌, subst, arith}
use Rattle.std.proofs.lemmas.Bool.{eqb-true, eq-eqb}
use Rattle.cry_base.specs.Clearances.{clear_base, clear_number}
use Rattle.cry_base.specs.Sets.{In, Path}
use Rattle.cry_base.specs.Sets.Path.{Here, On}
use Rattle.cry_base.specs.Store.{Store, FolderEntry, FileEntry, GrantEntry}
use Rattle.cry_base.specs.declared.roles.Edge.{Edge}
use Rattle.cry_base.specs.declared.roles.Role.{Role}
use Rattle.cry_base.specs.declared.roles.Role.TheVariants.{Owner, Holder, Clear, Sub, Back, Files, Data, File}
use Rattle.cry_base.proofs.Members.{In-any, In-append, In-map}
use Rattle.role_graph.specs.Roles.{holder_role, clear_of, sub_of, back_of, files_of, data_of, file_role}
use Rattle.role_graph.specs.Edges.{edge, folder_edges, parent_edges, grant_edge, file_edge, clearance_edges, has_grants, edges, pairs_of, Reaches}
use Rattle.role_graph.specs.Edges.{IsOwnEdge, IsParentEdge, IsGrantEdge, IsFileEdge, IsClearanceEdge, IsEdge}
use Rattle.role_graph.specs.Rights.{downs, ups, IsGranted, IsAllowed, IsFileAllowed, IsNamed}
use Rattle.role_graph.specs.RightsByReach.{HasFolder, IsRightful, IsStandingRole, IsSettled}
use Rattle.role_graph.proofs.Edging.{edges_told}

-- a pair of parent and child is a folder's
down_told : (s : Store) (p f : ℕ) → In (p, f) (downs s) → (e : FolderEntry) × In e s.folders × (e.parent ≡ p) × (e.id ≡ f)
unfolding downs
down_told s p f i =
    let w = (In-map FolderEntry (ℕ × ℕ) (λ e. (e.parent, e.id)) (p, f) s.folders).0 i in
    (w.0, w.1, sym (ap (λ (q : ℕ × ℕ). q.0) w.2), sym (ap (λ (q : ℕ × ℕ). q.1) w.2))

abbrev pub folder_up : FolderEntry → ℕ × ℕ
folder_up e = (e.id, e.parent)

abbrev pub file_up : FileEntry → ℕ × ℕ
file_up e = (clear_number e.id, e.folder)

-- a pair that leads up is a folder's or a file's
abbrev pub IsFolderUp : Store → ℕ → ℕ → Type 0
IsFolderUp s f p = (e : FolderEntry) × In e s.folders × (e.id ≡ f) × (e.parent ≡ p)

abbrev pub IsFileUp : Store → ℕ → ℕ → Type 0
IsFileUp s c p = (e : FileEntry) × In e s.files × (clear_number e.id ≡ c) × (e.folder ≡ p)

pub up_told : (s : Store) (f p : ℕ) → In {X = ℕ × ℕ} (f, p) (ups s) → IsFolderUp s f p ⊎ IsFileUp s f p
unfolding ups
up_told s f p i = ⊎_elim
    (λ a. let w = (In-map FolderEntry (ℕ × ℕ) folder_up (f, p) s.folders).0 a in
    inl (w.0, w.1, sym (ap (λ (q : ℕ × ℕ). q.0) w.2), sym (ap (λ (q : ℕ × ℕ). q.1) w.2)))
    (λ b. let w = (In-map FileEntry (ℕ × ℕ) file_up (f, p) s.files).0 b in
    inr (w.0, w.1, sym (ap (λ (q : ℕ × ℕ). q.0) w.2), sym (ap (λ (q : ℕ × ℕ). q.1) w.2)))
    ((In-append (ℕ × ℕ) (f, p) (map folder_up s.folders) (map file_up s.files)).0 i)

down_of : (s : Store) (e : FolderEntry) → In e s.folders → In (e.parent, e.id) (downs s)
unfolding downs
down_of s e i = (In-map FolderEntry (ℕ × ℕ) (λ x. (x.parent, x.id)) (e.parent, e.id) s.folders).1 (e, i, refl)

up_of : (s : Store) (e : FolderEntry) → In e s.folders → In {X = ℕ × ℕ} (e.id, e.parent) (ups s)
unfolding ups
up_of s e i = (In-append (ℕ × ℕ) (e.id, e.parent) (map folder_up s.folders) (map file_up s.files)).1
    (inl ((In-map FolderEntry (ℕ × ℕ) folder_up (e.id, e.parent) s.folders).1 (e, i, refl)))

pub up_of_file : (s : Store) (e : FileEntry) → In e s.files → In {X = ℕ × ℕ} (clear_number e.id, e.folder) (ups s)
unfolding ups
up_of_file s e i = (In-append (ℕ × ℕ) (clear_number e.id, e.folder) (map folder_up s.folders) (map file_up s.files)).1
    (inr ((In-map FileEntry (ℕ × ℕ) file_up (clear_number e.id, e.folder) s.files).1 (e, i, refl)))

-- the parent of a named folder is named
named_up : (s : Store) → IsSettled s → (h : ℕ) (e : FolderEntry) → In e s.folders → IsNamed s h e.id → IsNamed s h e.parent
named_up s ok h e i n = ⊎_elim
    (λ (a : IsAllowed s h e.id). from_allowed a.0 a.1 e.id a.2 refl)
    (λ b. inr (b.0, b.1, On b.2 (up_of s e i))) n
  where
    from_allowed : (g : ℕ) → IsGranted s h g → (f : ℕ) → Path (downs s) g f → f ≡ e.id → IsNamed s h e.parent
    from_allowed g granted f Here same = inr (e.id, subst (λ z. IsGranted s h z) same granted, On Here (up_of s e i))
    from_allowed g granted f (On {b = b} way step) same =
        let w = down_told s b f step in
        let one : w.0.parent ≡ e.parent = ok.own_parent w.0 e w.1 i (w.3 ∙ same) in
        inl (g, granted, subst (λ z. Path (downs s) g z) (sym w.2 ∙ one) way)

-- along each edge rights lead to rights
own_leads : (s : Store) (h f : ℕ) (e : Edge) → In e (folder_edges f) → IsRightful s h e.from → IsRightful s h e.to
unfolding folder_edges edge clear_of sub_of back_of files_of data_of
own_leads s h f e i =
    let P : Edge → Type 0 = λ x. IsRightful s h x.from → IsRightful s h x.to in ⊎_elim
    (λ q. subst P (sym q) (λ n. absurd n))
    (λ a. ⊎_elim (λ q. subst P (sym q) (λ g. (f, g, Here)))
    (λ b. ⊎_elim (λ q. subst P (sym q) (λ r. inl r))
    (λ c. ⊎_elim (λ q. subst P (sym q) (λ r. r))
    (λ d. ⊎_elim (λ q. subst P (sym q) (λ r. r)) (λ n. absurd n) d) c) b) a) i

parent_leads : (s : Store) → IsSettled s → (h : ℕ) (x : FolderEntry) → In x s.folders → (e : Edge) → In e (parent_edges x.id x.parent) → IsRightful s h e.from → IsRightful s h e.to
unfolding parent_edges edge sub_of back_of
parent_leads s ok h x j e i =
    let P : Edge → Type 0 = λ y. IsRightful s h y.from → IsRightful s h y.to in ⊎_elim
    (λ q. subst P (sym q) (λ r. (r.0, r.1, On r.2 (down_of s x j))))
    (λ a. ⊎_elim (λ q. subst P (sym q) (named_up s ok h x j)) (λ n. absurd n) a) i

grant_leads : (s : Store) (h : ℕ) (g : GrantEntry) → In g s.grants → (e : Edge) → e ≡ grant_edge g.holder g.folder → IsRightful s h e.from → IsRightful s h e.to
unfolding grant_edge edge holder_role clear_of
grant_leads s h g j e q =
    let P : Edge → Type 0 = λ y. IsRightful s h y.from → IsRightful s h y.to in
    let mine : g.holder ≡ h → IsGranted s h g.folder = λ k. subst (λ z. IsGranted s z g.folder) k j in
    subst P (sym q) mine

file_leads : (s : Store) (h : ℕ) (x : FileEntry) → In x s.files → (e : Edge) → e ≡ file_edge x.folder x.id → IsRightful s h e.from → IsRightful s h e.to
unfolding file_edge edge files_of file_role
file_leads s h x j e q =
    let P : Edge → Type 0 = λ y. IsRightful s h y.from → IsRightful s h y.to in
    subst P (sym q) (λ r. (x, j, refl, inl r))

clearance_leads : (s : Store) (h : ℕ) (x : FileEntry) → In x s.files → (e : Edge) → In e (clearance_edges x.folder x.id) → IsRightful s h e.from → IsRightful s h e.to
unfolding clearance_edges edge clear_of back_of file_role
clearance_leads s h x j e i =
    let P : Edge → Type 0 = λ y. IsRightful s h y.from → IsRightful s h y.to in ⊎_elim
    (λ q. subst P (sym q) (λ n. absurd n))
    (λ a. ⊎_elim (λ q. subst P (sym q) (λ g. (x, j, refl, inr g)))
    (λ b. ⊎_elim (λ q. subst P (sym q) (λ g. inr (clear_number x.id, g, On Here (up_of_file s x j)))) (λ n. absurd n) b) a) i

edge_leads : (s : Store) → IsSettled s → (h : ℕ) (e : Edge) → IsEdge s e → IsRightful s h e.from → IsRightful s h e.to
edge_leads s ok h e w = ⊎_elim
    (λ (o : IsOwnEdge s e). own_leads s h o.0.id e o.2)
    (λ v. ⊎_elim
    (λ (p : IsParentEdge s e). parent_leads s ok h p.0 p.1 e p.3)
    (λ u. ⊎_elim
    (λ (g : IsGrantEdge s e). grant_leads s h g.0 g.1 e g.2)
    (λ t. ⊎_elim (λ (x : IsFileEdge s e). file_leads s h x.0 x.1 e x.2) (λ (x : IsClearanceEdge s e). clearance_leads s h x.0 x.1 e x.3) t) u) v) w

pair_leads : (s : Store) → IsSettled s → (h : ℕ) (b c : Role) → In (b, c) (pairs_of (edges s)) → IsRightful s h b → IsRightful s h c
unfolding pairs_of
pair_leads s ok h b c i r =
    let w = (In-map Edge (Role × Role) (λ x. (x.from, x.to)) (b, c) (edges s)).0 i in
    let from : b ≡ w.0.from = ap (λ (q : Role × Role). q.0) w.2 in
    let to : c ≡ w.0.to = ap (λ (q : Role × Role). q.1) w.2 in
    subst (λ z. IsRightful s h z) (sym to) (edge_leads s ok h w.0 ((edges_told s w.0).0 w.1) (subst (λ z. IsRightful s h z) from r))

reached_rightful : (s : Store) → IsSettled s → (h : ℕ) {r : Role} → Reaches (edges s) (holder_role h) r → IsRightful s h r
unfolding holder_role
reached_rightful s ok h Here = refl
reached_rightful s ok h (On {b = b} {c = c} way step) = pair_leads s ok h b c step (reached_rightful s ok h way)

-- an edge that stands is a pair that paths take
takes : (s : Store) (kind : ℕ) (a b : Role) → IsEdge s (edge kind a b) → In (a, b) (pairs_of (edges s))
unfolding pairs_of edge
takes s kind a b w = (In-map Edge (Role × Role) (λ x. (x.from, x.to)) (a, b) (edges s)).1 (edge kind a b, (edges_told s (edge kind a b)).1 w, refl)

to_clear : (s : Store) (h f : ℕ) → IsGranted s h f → Reaches (edges s) (holder_role h) (clear_of f)
unfolding grant_edge
to_clear s h f g = On Here (takes s 2 (holder_role h) (clear_of f) (inr (inr (inl (record { holder = h; folder = f }, g, refl)))))

-- ---- no folder has a clearance number

pub not_both : (f x : ℕ) → clear_number x ≡ f → f < clear_base → ⊥
not_both f x e low = omega (arith, e, low)

low_folder : (s : Store) → IsSettled s → (f : ℕ) → HasFolder s f → f < clear_base
low_folder s ok f w = subst (λ n. n < clear_base) w.2 (ok.folders_below w.0 w.1).0

-- what leads down to a folder is a folder
low_start : (s : Store) → IsSettled s → (g : ℕ) {f : ℕ} → Path (downs s) g f → f < clear_base → g < clear_base
low_start s ok g Here low = low
low_start s ok g (On {b = b} {c = c} way step) low =
    let w = down_told s b c step in
    low_start s ok g way (subst (λ n. n < clear_base) w.2 (ok.folders_below w.0 w.1).1)

granted_folder : (s : Store) → IsSettled s → (h g : ℕ) → IsGranted s h g → g < clear_base → HasFolder s g
granted_folder s ok h g granted low = ⊎_elim (λ f. f) (λ c. absurd (not_both g c.0.id c.2 low)) (ok.granted_stands (record { holder = h; folder = g }) granted)

allowed_from : (s : Store) → IsSettled s → (h f : ℕ) → (a : IsAllowed s h f) → f < clear_base → HasFolder s a.0
allowed_from s ok h f a low = granted_folder s ok h a.0 a.1 (low_start s ok a.0 a.2 low)

-- what leads down from a folder that stands stands
below_stands : (s : Store) (g : ℕ) → HasFolder s g → {f : ℕ} → Path (downs s) g f → HasFolder s f
below_stands s g stands Here = stands
below_stands s g stands (On {b = b} {c = c} way step) = let w = down_told s b c step in (w.0, w.1, w.3)

-- nothing leads up to a clearance number
no_entry : (s : Store) → IsSettled s → (g x : ℕ) {b : ℕ} → Path (ups s) g b → clear_number x ≡ b → g ≡ b
no_entry s ok g x Here e = refl
no_entry s ok g x (On {b = b} {c = c} way step) e = absurd (⊎_elim
    (λ (w : IsFolderUp s b c). not_both c x e (subst (λ n. n < clear_base) w.3 (ok.folders_below w.0 w.1).1))
    (λ (w : IsFileUp s b c). not_both c x e (subst (λ n. n < clear_base) w.3 (ok.files_below w.0 w.1)))
    (up_told s b c step))

grants_there : (s : Store) (h c : ℕ) → IsGranted s h c → has_grants s c ≡ true
unfolding has_grants
grants_there s h c g =
    (In-any GrantEntry (λ e. e.folder == c) (λ e. e.folder ≡ c) (λ e. (λ t. eqb-true e.folder c t, λ q. eq-eqb e.folder c q)) s.grants).1
    (record { holder = h; folder = c }, g, refl)

stands_not_zero : (s : Store) → IsSettled s → (f : ℕ) → HasFolder s f → f ≢ 0
stands_not_zero s ok f w = λ z. ok.no_zero w.0 w.1 (w.2 ∙ z)

own_pair : (s : Store) (f : ℕ) → HasFolder s f → (kind : ℕ) (a b : Role) → In (edge kind a b) (folder_edges f) → In (a, b) (pairs_of (edges s))
own_pair s f w kind a b place = takes s kind a b (inl (w.0, w.1, subst (λ z. In (edge kind a b) (folder_edges z)) (sym w.2) place))

to_sub : (s : Store) → IsSettled s → (h g : ℕ) → HasFolder s g → {f : ℕ} → IsGranted s h g → Path (downs s) g f → Reaches (edges s) (holder_role h) (sub_of f)
unfolding folder_edges parent_edges
to_sub s ok h g stands granted Here = On (to_clear s h g granted) (own_pair s g stands 3 (clear_of g) (sub_of g) (inr (inl refl)))
to_sub s ok h g stands granted (On {b = b} {c = c} way step) =
    let w = down_told s b c step in
    let some : w.0.parent ≢ 0 = λ z. stands_not_zero s ok b (below_stands s g stands way) (sym w.2 ∙ z) in
    let pair : In (sub_of w.0.parent, sub_of w.0.id) (pairs_of (edges s)) = takes s 6 (sub_of w.0.parent) (sub_of w.0.id) (inr (inl (w.0, w.1, some, inl refl))) in
    On (to_sub s ok h g stands granted way) (subst (λ z. In (sub_of b, sub_of z) (pairs_of (edges s))) w.3 (subst (λ z. In (sub_of z, sub_of w.0.id) (pairs_of (edges s))) w.2 pair))

allowed_sub : (s : Store) → IsSettled s → (h f : ℕ) → f < clear_base → IsAllowed s h f → Reaches (edges s) (holder_role h) (sub_of f)
allowed_sub s ok h f low a = to_sub s ok h a.0 (allowed_from s ok h f a low) a.1 a.2

allowed_pair : (s : Store) → IsSettled s → (h f : ℕ) → f < clear_base → IsAllowed s h f → (kind : ℕ) (a b : Role) → In (edge kind a b) (folder_edges f) → In (a, b) (pairs_of (edges s))
allowed_pair s ok h f low w kind a b place = own_pair s f (below_stands s w.0 (allowed_from s ok h f w low) w.2) kind a b place

allowed_back : (s : Store) → IsSettled s → (h f : ℕ) → f < clear_base → IsAllowed s h f → Reaches (edges s) (holder_role h) (back_of f)
unfolding folder_edges
allowed_back s ok h f low a = On (allowed_sub s ok h f low a) (allowed_pair s ok h f low a 4 (sub_of f) (back_of f) (inr (inr (inl refl))))

-- from a file's clearance to the folder that the file is in
clearance_back : (s : Store) (h : ℕ) (x : FileEntry) → In x s.files → IsGranted s h (clear_number x.id) → Reaches (edges s) (holder_role h) (back_of x.folder)
unfolding clearance_edges
clearance_back s h x i granted =
    On (to_clear s h (clear_number x.id) granted)
    (takes s 11 (clear_of (clear_number x.id)) (back_of x.folder) (inr (inr (inr (inr (x, i, grants_there s h (clear_number x.id) granted, inr (inr (inl refl))))))))

to_back : (s : Store) → IsSettled s → (h g : ℕ) {f : ℕ} → IsGranted s h g → Path (ups s) g f → HasFolder s f → Reaches (edges s) (holder_role h) (back_of f)
unfolding parent_edges
to_back s ok h g granted Here stands = allowed_back s ok h g (low_folder s ok g stands) (g, granted, Here)
to_back s ok h g granted (On {b = b} {c = c} way step) stands = ⊎_elim
    (λ (w : IsFolderUp s b c).
    let some : w.0.parent ≢ 0 = λ z. stands_not_zero s ok c stands (sym w.3 ∙ z) in
    let pair : In (back_of w.0.id, back_of w.0.parent) (pairs_of (edges s)) = takes s 8 (back_of w.0.id) (back_of w.0.parent) (inr (inl (w.0, w.1, some, inr (inl refl)))) in
    On (to_back s ok h g granted way (w.0, w.1, w.2)) (subst (λ z. In (back_of b, back_of z) (pairs_of (edges s))) w.3 (subst (λ z. In (back_of z, back_of w.0.parent) (pairs_of (edges s))) w.2 pair)))
    (λ (w : IsFileUp s b c).
    let from : g ≡ clear_number w.0.id = no_entry s ok g w.0.id way w.2 ∙ sym w.2 in
    subst (λ n. Reaches (edges s) (holder_role h) (back_of n)) w.3 (clearance_back s h w.0 w.1 (subst (λ n. IsGranted s h n) from granted)))
    (up_told s b c step)

named_back : (s : Store) → IsSettled s → (h f : ℕ) → HasFolder s f → IsNamed s h f → Reaches (edges s) (holder_role h) (back_of f)
named_back s ok h f stands n = ⊎_elim (allowed_back s ok h f (low_folder s ok f stands)) (λ b. to_back s ok h b.0 b.1 b.2 stands) n

to_files : (s : Store) → IsSettled s → (h f : ℕ) → f < clear_base → IsAllowed s h f → Reaches (edges s) (holder_role h) (files_of f)
unfolding folder_edges
to_files s ok h f low a = On (allowed_sub s ok h f low a) (allowed_pair s ok h f low a 5 (sub_of f) (files_of f) (inr (inr (inr (inl refl)))))

to_file : (s : Store) → IsSettled s → (h : ℕ) (x : FileEntry) → In x s.files → IsFileAllowed s h x → Reaches (edges s) (holder_role h) (file_role x.id)
unfolding file_edge clearance_edges
to_file s ok h x i r = ⊎_elim
    (λ a. On (to_files s ok h x.folder (ok.files_below x i) a) (takes s 9 (files_of x.folder) (file_role x.id) (inr (inr (inr (inl (x, i, refl)))))))
    (λ g. On (to_clear s h (clear_number x.id) g)
    (takes s 10 (clear_of (clear_number x.id)) (file_role x.id) (inr (inr (inr (inr (x, i, grants_there s h (clear_number x.id) g, inr (inl refl)))))))) r

rightful_reached : (s : Store) → IsSettled s → (h : ℕ) (r : Role) → IsStandingRole s r → IsRightful s h r → Reaches (edges s) (holder_role h) r
unfolding holder_role clear_of sub_of back_of files_of data_of file_role folder_edges
rightful_reached s ok h Owner stands r = absurd r
rightful_reached s ok h (Holder k) stands r = let P : ℕ → Type 0 = λ z. Reaches (edges s) (holder_role h) (Holder (record { 0 = z })) in subst P (sym r) Here
rightful_reached s ok h (Clear f) stands r = to_clear s h f.0 r
rightful_reached s ok h (Sub f) stands r = allowed_sub s ok h f.0 (low_folder s ok f.0 stands) r
rightful_reached s ok h (Back f) stands r = named_back s ok h f.0 stands r
rightful_reached s ok h (Files f) stands r = to_files s ok h f.0 (low_folder s ok f.0 stands) r
rightful_reached s ok h (Data f) stands r =
    On (named_back s ok h f.0 stands r) (own_pair s f.0 stands 7 (back_of f.0) (data_of f.0) (inr (inr (inr (inr (inl refl))))))
rightful_reached s ok h (File x) stands r =
    let P : ℕ → Type 0 = λ z. Reaches (edges s) (holder_role h) (file_role z) in
    subst P r.2 (to_file s ok h r.0 r.1 r.3)

pub rights_by_reach : (s : Store) → IsSettled s → (h : ℕ) (r : Role) → IsStandingRole s r → Reaches (edges s) (holder_role h) r ↔ IsRightful s h r
rights_by_reach s ok h r stands = (reached_rightful s ok h, rightful_reached s ok h r stands)
