-- The edge that is looked up by the numbers of its ends is one of the store's.
use Rattle.std.proofs.Common.{◌≡◌, ◌≢◌, ℕ, Bool, true, false, cond, ◌==◌, ◌&&◌, ◌||◌, ◌↔◌, List, Option, Some, None, option_map, is_some, IsTrue, inl, inr, ⊎_elim, refl, sym, ap, ◌∙◌, subst}
use Rattle.std.specs.List.{list_any}
use Rattle.std.proofs.lemmas.Bool.{false≢true, and_parts, and_from, or_left, or_right, eqb-true, eqb-false, eq-eqb}
use Rattle.cry_base.specs.Clearances.{clear_number, file_of}
use Rattle.cry_base.proofs.Versions.{file_number, file_of_number}
use Rattle.cry_base.specs.Sets.{In}
use Rattle.cry_base.specs.Store.{Store, FolderEntry, FileEntry, GrantEntry, folder_entry, file_entry}
use Rattle.cry_base.specs.declared.ids.FileId.{FileId}
use Rattle.cry_base.specs.declared.ids.FolderId.{FolderId}
use Rattle.cry_base.specs.declared.roles.Edge.{Edge}
use Rattle.cry_base.specs.declared.roles.Role.{Role}
use Rattle.cry_base.specs.declared.roles.Role.TheVariants.{Owner}
use Rattle.cry_base.proofs.Finding.{find-found}
use Rattle.cry_base.proofs.Members.{In-any}
use Rattle.folder_nodes.specs.Looking.{parent_id, folder_id_of, some_folder}
use Rattle.folder_nodes.specs.Trees.{IsTree}
use Rattle.folder_nodes.proofs.Moved.{files_found}
use Rattle.grant_book.specs.Cleared.{as_file}
use Rattle.grant_book.specs.Granted.{is_grant}
use Rattle.role_graph.specs.Edges.{edge, folder_edges, parent_edges, grant_edge, file_edge, clearance_edges, has_grants}
use Rattle.role_graph.specs.Edges.{IsOwnEdge, IsParentEdge, IsGrantEdge, IsFileEdge, IsClearanceEdge, IsEdge}
use Rattle.role_graph.specs.Joined.{HasEdge, joins, are_joined, is_within, joins_parent, is_between, is_granted, joins_file, is_into_file, is_found}
use Rattle.role_graph.specs.Joined.{is_at_clearance, joins_at_file, joins_clearance}
use Rattle.role_graph.specs.PublicStore.{public_store}
use Rattle.role_graph.specs.Roles.{same_role, holder_role, clear_of, sub_of, back_of, files_of, data_of, file_role, role_id}
use Rattle.role_graph.proofs.Comparing.{same_role_tells}
use Rattle.role_graph.proofs.Edging.{edges_told}
use Rattle.role_graph.proofs.Ordered.{stands_at}
use Rattle.role_graph.proofs.Standing.{found_row}

-- the edge leads from a to b
abbrev Leads : Role → Role → Edge → Type 0
Leads a b e = (e.from ≡ a) × (e.to ≡ b)

joins_told : (a b : Role) (e : Edge) → IsTrue (joins a b e) ↔ Leads a b e
unfolding joins
joins_told a b e = (
  λ t. let both = and_parts (same_role e.from a) (same_role e.to b) t in ((same_role_tells e.from a).0 both.0, (same_role_tells e.to b).0 both.1),
  λ w. and_from (same_role e.from a) (same_role e.to b) ((same_role_tells e.from a).1 w.0) ((same_role_tells e.to b).1 w.1),
)

joined_told : (es : List Edge) (a b : Role) → IsTrue (are_joined es a b) ↔ ((e : Edge) × In e es × Leads a b e)
unfolding are_joined
joined_told es a b = In-any Edge (joins a b) (Leads a b) (joins_told a b) es

-- such an edge of the store
abbrev Has : Store → Role → Role → Type 0
Has s a b = (e : Edge) × IsEdge s e × Leads a b e

some_told : (X : Type 0) (o : Option X) → is_some o ≡ true → (x : X) × (o ≡ Some x)
some_told X None t = absurd (false≢true t)
some_told X (Some x) t = (x, refl)

pub entry_in : (s : Store) (f : ℕ) (e : FolderEntry) → folder_entry s f ≡ Some e → In e s.folders × (e.id ≡ f)
unfolding folder_entry
entry_in s f e p = let w = find-found FolderEntry (λ (z : FolderEntry). z.id == f) s.folders e p in (w.0, eqb-true e.id f w.1)

file_in : (s : Store) (x : ℕ) (e : FileEntry) → file_entry s x ≡ Some e → In e s.files × (e.id ≡ x)
unfolding file_entry
file_in s x e p = let w = find-found FileEntry (λ (z : FileEntry). z.id == x) s.files e p in (w.0, eqb-true e.id x w.1)

within_sound : (t : Store) (gs : List GrantEntry) (f : ℕ) (a b : Role) → is_within t f a b ≡ true → Has (public_store t gs) a b
unfolding is_within
within_sound t gs f a b h =
    let both = and_parts (is_some (folder_entry t f)) (are_joined (folder_edges f) a b) h in
    let w = some_told FolderEntry (folder_entry t f) both.0 in
    let stands = entry_in t f w.0 w.1 in
    let j = (joined_told (folder_edges f) a b).0 both.1 in
    (j.0, inl (w.0, stands.0, subst (λ n. In j.0 (folder_edges n)) (sym stands.1) j.1), j.2)

-- the number as a folder's, by whether it is 0
abbrev number_of : ℕ → Bool → Option FolderId
number_of n b = cond b None (Some (record { 0 = n }))

some_number : (n : ℕ) (p : FolderId) → some_folder n ≡ Some p → (n ≢ 0) × (p.0 ≡ n)
some_number n p e = (elim (n == 0) as (λ b. n == 0 ≡ b → some_folder n ≡ Some p → (n ≢ 0) × (p.0 ≡ n)) [
  | true ↦ λ t q. absurd (let none : some_folder n ≡ None = ap (number_of n) t in cc)
  | false ↦ λ t q. (eqb-false n 0 t, let same : some_folder n ≡ Some (record { 0 = n }) = ap (number_of n) t in let id : p ≡ record { 0 = n } = cc in ap (λ (z : FolderId). z.0) id)
]) refl e

parent_told : (o : Option FolderEntry) (p : FolderId) → parent_id o ≡ Some p → (e : FolderEntry) × (o ≡ Some e) × (e.parent ≢ 0) × (p.0 ≡ e.parent)
parent_told None p q = absurd cc
parent_told (Some e) p q = let w = some_number e.parent p q in (e, refl, w.0, w.1)

between_sound : (t : Store) (gs : List GrantEntry) (f : ℕ) (a b : Role) → is_between t f a b ≡ true → Has (public_store t gs) a b
unfolding is_between
between_sound t gs f a b h =
    (elim (parent_id (folder_entry t f)) as (λ o. parent_id (folder_entry t f) ≡ o → joins_parent f a b o ≡ true → Has (public_store t gs) a b) [
      | None ↦ λ p t. absurd (false≢true t)
      | Some up ↦ λ p j.
          let w = parent_told (folder_entry t f) up p in
          let stands = entry_in t f w.0 w.1 in
          let found = (joined_told (parent_edges f up.0) a b).0 j in
          let moved : In found.0 (parent_edges w.0.id w.0.parent) = subst (λ n. In found.0 (parent_edges n w.0.parent)) (sym stands.1) (subst (λ n. In found.0 (parent_edges f n)) w.3 found.1) in
          (found.0, inr (inl (w.0, stands.0, w.2, moved)), found.2)
    ]) refl h

-- the grant is the holder's on the folder
abbrev IsOf : ℕ → ℕ → GrantEntry → Type 0
IsOf h f g = (g.holder ≡ h) × (g.folder ≡ f)

grant_told : (gs : List GrantEntry) (h f : ℕ) → IsTrue (list_any (is_grant h f) gs) ↔ ((g : GrantEntry) × In g gs × IsOf h f g)
grant_told gs h f = In-any GrantEntry (is_grant h f) (IsOf h f) (λ g. (
  λ t. let both = and_parts (g.holder == h) (g.folder == f) t in (eqb-true g.holder h both.0, eqb-true g.folder f both.1),
  λ w. and_from (g.holder == h) (g.folder == f) (eq-eqb g.holder h w.0) (eq-eqb g.folder f w.1),
)) gs

granted_sound : (t : Store) (gs : List GrantEntry) (h f : ℕ) (a b : Role) → is_granted gs h f a b ≡ true → Has (public_store t gs) a b
unfolding is_granted
granted_sound t gs h f a b told =
    let both = and_parts (list_any (is_grant h f) gs) (joins a b (grant_edge h f)) told in
    let w = (grant_told gs h f).0 both.0 in
    let same : grant_edge h f ≡ grant_edge w.0.holder w.0.folder = λ i. grant_edge (sym w.2.0 i) (sym w.2.1 i) in
    (grant_edge h f, inr (inr (inl (w.0, w.1, same))), (joins_told a b (grant_edge h f)).0 both.1)

folder_told : (o : Option FileEntry) (p : FolderId) → folder_id_of o ≡ Some p → (e : FileEntry) × (o ≡ Some e) × (p.0 ≡ e.folder)
folder_told None p q = absurd cc
folder_told (Some e) p q = let same : record { 0 = e.folder } ≡ p = cc in (e, refl, ap (λ (z : FolderId). z.0) (sym same))

file_sound : (t : Store) (gs : List GrantEntry) (x : ℕ) (a b : Role) → is_into_file t x a b ≡ true → Has (public_store t gs) a b
unfolding is_into_file
file_sound t gs x a b h =
    (elim (folder_id_of (file_entry t x)) as (λ o. folder_id_of (file_entry t x) ≡ o → joins_file x a b o ≡ true → Has (public_store t gs) a b) [
      | None ↦ λ p t. absurd (false≢true t)
      | Some f ↦ λ p j.
          let w = folder_told (file_entry t x) f p in
          let stands = file_in t x w.0 w.1 in
          let same : file_edge f.0 x ≡ file_edge w.0.folder w.0.id = λ i. file_edge (w.2 i) (sym stands.1 i) in
          (file_edge f.0 x, inr (inr (inr (inl (w.0, stands.0, same)))), (joins_told a b (file_edge f.0 x)).0 j)
    ]) refl h

clearance_sound : (t : Store) (gs : List GrantEntry) (c : ℕ) (a b : Role) → is_at_clearance t gs c a b ≡ true → Has (public_store t gs) a b
unfolding is_at_clearance has_grants
clearance_sound t gs c a b h =
    let both = and_parts (list_any (λ (g : GrantEntry). g.folder == c) gs) (joins_at_file t a b (file_of c)) h in
    (elim (file_of c) as (λ o. file_of c ≡ o → joins_at_file t a b o ≡ true → Has (public_store t gs) a b) [
      | None ↦ λ p j. absurd (false≢true j)
      | Some x ↦ λ p j. at_file x p (folder_id_of (file_entry t x)) refl j both.0
    ]) refl both.1
  where
    at_file : (x : ℕ) → file_of c ≡ Some x → (o : Option FolderId) → folder_id_of (file_entry t x) ≡ o → joins_clearance x a b o ≡ true
        → list_any (λ (g : GrantEntry). g.folder == c) gs ≡ true → Has (public_store t gs) a b
    at_file x p None q j granted = absurd (false≢true j)
    at_file x p (Some f) q j granted =
        let w = folder_told (file_entry t x) f q in
        let stands = file_in t x w.0 w.1 in
        let found = (joined_told (clearance_edges f.0 x) a b).0 j in
        let moved : In found.0 (clearance_edges w.0.folder w.0.id) = subst (λ n. In found.0 (clearance_edges w.0.folder n)) (sym stands.1) (subst (λ n. In found.0 (clearance_edges n x)) w.2 found.1) in
        let numbers : c ≡ clear_number w.0.id = file_number c x p ∙ ap (λ n. clear_number n) (sym stands.1) in
        (found.0, inr (inr (inr (inr (w.0, stands.0, subst (λ n. list_any (λ (g : GrantEntry). g.folder == n) gs ≡ true) numbers granted, moved)))), found.2)

five_cases : (v w x y z : Bool) → v || (w || (x || (y || z))) ≡ true → (P : Type 0) → (v ≡ true → P) → (w ≡ true → P) → (x ≡ true → P) → (y ≡ true → P) → (z ≡ true → P) → P
five_cases true w x y z t P a b c d e = a refl
five_cases false true x y z t P a b c d e = b refl
five_cases false false true y z t P a b c d e = c refl
five_cases false false false true z t P a b c d e = d refl
five_cases false false false false z t P a b c d e = e t

-- the last of them may be one of three
three_cases : (x y z : Bool) → x || (y || z) ≡ true → (P : Type 0) → (x ≡ true → P) → (y ≡ true → P) → (z ≡ true → P) → P
three_cases true y z t P a b c = a refl
three_cases false true z t P a b c = b refl
three_cases false false z t P a b c = c t

found_sound : (t : Store) (gs : List GrantEntry) (m n : ℕ) (a b : Role) → is_found t gs m n a b ≡ true → Has (public_store t gs) a b
unfolding is_found
found_sound t gs m n a b h =
    five_cases (is_within t n a b) (is_between t n a b) (is_between t m a b) (is_granted gs m n a b)
    (is_into_file t n a b || (is_at_clearance t gs m a b || is_at_clearance t gs n a b)) h (Has (public_store t gs) a b)
    (within_sound t gs n a b) (between_sound t gs n a b) (between_sound t gs m a b) (granted_sound t gs m n a b)
    (λ last. three_cases (is_into_file t n a b) (is_at_clearance t gs m a b) (is_at_clearance t gs n a b) last (Has (public_store t gs) a b)
    (file_sound t gs n a b) (clearance_sound t gs m a b) (clearance_sound t gs n a b))

-- the numbers of the ends of each edge
own_number : (f : ℕ) (e : Edge) → In e (folder_edges f) → role_id e.to ≡ f
unfolding folder_edges edge role_id clear_of sub_of back_of files_of data_of
own_number f e i =
    let to : (q : Edge) → role_id q.to ≡ f → e ≡ q → role_id e.to ≡ f = λ q told same. ap (λ (z : Edge). role_id z.to) same ∙ told in
    ⊎_elim (to (edge 1 Owner (clear_of f)) refl)
    (λ a. ⊎_elim (to (edge 3 (clear_of f) (sub_of f)) refl)
    (λ b. ⊎_elim (to (edge 4 (sub_of f) (back_of f)) refl)
    (λ c. ⊎_elim (to (edge 5 (sub_of f) (files_of f)) refl)
    (λ d. ⊎_elim (to (edge 7 (back_of f) (data_of f)) refl) (λ n. absurd n) d) c) b) a) i

parent_number : (f p : ℕ) (e : Edge) → In e (parent_edges f p) → (P : Type 0) → (role_id e.to ≡ f → P) → (role_id e.from ≡ f → P) → P
unfolding parent_edges edge role_id sub_of back_of
parent_number f p e i P to from = ⊎_elim
    (λ same. to (ap (λ (z : Edge). role_id z.to) same))
    (λ a. ⊎_elim (λ same. from (ap (λ (z : Edge). role_id z.from) same)) (λ n. absurd n) a) i

grant_numbers : (h f : ℕ) (e : Edge) → e ≡ grant_edge h f → (role_id e.from ≡ h) × (role_id e.to ≡ f)
unfolding grant_edge edge role_id holder_role clear_of
grant_numbers h f e same = (ap (λ (z : Edge). role_id z.from) same, ap (λ (z : Edge). role_id z.to) same)

into_number : (f x : ℕ) (e : Edge) → e ≡ file_edge f x → role_id e.to ≡ x
unfolding file_edge edge role_id files_of file_role
into_number f x e same = ap (λ (z : Edge). role_id z.to) same

clearance_numbers : (f x : ℕ) (e : Edge) → In e (clearance_edges f x) → (P : Type 0) → (role_id e.to ≡ clear_number x → P) → (role_id e.from ≡ clear_number x → P) → P
unfolding clearance_edges edge role_id clear_of back_of file_role
clearance_numbers f x e i P to from = ⊎_elim
    (λ same. to (ap (λ (z : Edge). role_id z.to) same))
    (λ a. ⊎_elim (λ same. from (ap (λ (z : Edge). role_id z.from) same))
    (λ b. ⊎_elim (λ same. from (ap (λ (z : Edge). role_id z.from) same)) (λ n. absurd n) b) a) i

pub folder_found : (t : Store) → IsTree t → (e : FolderEntry) → In e t.folders → folder_entry t e.id ≡ Some e
unfolding folder_entry
folder_found t tree e i = found_row t.folders tree.folders_ascend e i

within_found : (t : Store) → IsTree t → (f : FolderEntry) → In f t.folders → (e : Edge) → In e (folder_edges f.id) → (a b : Role) → Leads a b e → is_within t f.id a b ≡ true
unfolding is_within
within_found t tree f i e j a b w =
    and_from (is_some (folder_entry t f.id)) (are_joined (folder_edges f.id) a b) (ap is_some (folder_found t tree f i)) ((joined_told (folder_edges f.id) a b).1 (e, j, w))

not_zero : (n : ℕ) → n ≢ 0 → some_folder n ≡ Some (record { 0 = n })
not_zero n ne = (elim (n == 0) as (λ b. n == 0 ≡ b → some_folder n ≡ Some (record { 0 = n })) [
  | true ↦ λ t. absurd (ne (eqb-true n 0 t))
  | false ↦ λ t. ap (number_of n) t
]) refl

between_found : (t : Store) → IsTree t → (f : FolderEntry) → In f t.folders → f.parent ≢ 0 → (e : Edge) → In e (parent_edges f.id f.parent) → (a b : Role) → Leads a b e → is_between t f.id a b ≡ true
unfolding is_between
between_found t tree f i ne e j a b w =
    ap (joins_parent f.id a b) (ap parent_id (folder_found t tree f i) ∙ not_zero f.parent ne) ∙ (joined_told (parent_edges f.id f.parent) a b).1 (e, j, w)

file_stands : (t : Store) → IsTree t → (e : FileEntry) → In e t.files → file_entry t e.id ≡ Some e
unfolding file_entry
file_stands t tree e i =
    let w = stands_at FileEntry t.files e i in
    subst (λ (z : FileEntry). file_entry t z.id ≡ Some z) (w.2 e) (files_found t.files tree.files_ascend w.0 e w.1)

file_found : (t : Store) → IsTree t → (x : FileEntry) → In x t.files → (a b : Role) → Leads a b (file_edge x.folder x.id) → is_into_file t x.id a b ≡ true
unfolding is_into_file
file_found t tree x i a b w = ap (joins_file x.id a b) (ap folder_id_of (file_stands t tree x i)) ∙ (joins_told a b (file_edge x.folder x.id)).1 w

granted_found : (gs : List GrantEntry) (g : GrantEntry) → In g gs → (a b : Role) → Leads a b (grant_edge g.holder g.folder) → is_granted gs g.holder g.folder a b ≡ true
unfolding is_granted
granted_found gs g i a b w =
    and_from (list_any (is_grant g.holder g.folder) gs) (joins a b (grant_edge g.holder g.folder)) ((grant_told gs g.holder g.folder).1 (g, i, (refl, refl))) ((joins_told a b (grant_edge g.holder g.folder)).1 w)

clearance_found : (t : Store) (gs : List GrantEntry) → IsTree t → (x : FileEntry) → In x t.files → has_grants (public_store t gs) (clear_number x.id) ≡ true
    → (e : Edge) → In e (clearance_edges x.folder x.id) → (a b : Role) → Leads a b e → is_at_clearance t gs (clear_number x.id) a b ≡ true
unfolding is_at_clearance has_grants
clearance_found t gs tree x i granted e j a b w =
    and_from (list_any (λ (g : GrantEntry). g.folder == clear_number x.id) gs) (joins_at_file t a b (file_of (clear_number x.id))) granted
    (ap (joins_at_file t a b) (file_of_number x.id) ∙ ap (λ o. joins_clearance x.id a b (folder_id_of o)) (file_stands t tree x i)
    ∙ (joined_told (clearance_edges x.folder x.id) a b).1 (e, j, w))

found_all : (t : Store) (gs : List GrantEntry) → IsTree t → (a b : Role) → Has (public_store t gs) a b → is_found t gs (role_id a) (role_id b) a b ≡ true
unfolding is_found
found_all t gs tree a b w =
    let e = w.0 in
    let m = role_id a in
    let n = role_id b in
    let up = is_between t n a b in
    let down = is_between t m a b in
    let given = is_granted gs m n a b in
    let into = is_into_file t n a b || (is_at_clearance t gs m a b || is_at_clearance t gs n a b) in
    let fifth : into ≡ true → is_within t n a b || (up || (down || (given || into))) ≡ true = λ h. or_right (is_within t n a b) _ (or_right up _ (or_right down _ (or_right given _ h))) in
    let second : is_between t n a b ≡ true → is_within t n a b || (up || (down || (given || into))) ≡ true = λ h. or_right (is_within t n a b) _ (or_left up _ h) in
    let third : is_between t m a b ≡ true → is_within t n a b || (up || (down || (given || into))) ≡ true = λ h. or_right (is_within t n a b) _ (or_right up _ (or_left down _ h)) in
    ⊎_elim
    (λ (o : IsOwnEdge (public_store t gs) e).
    or_left (is_within t n a b) _ (subst (λ k. is_within t k a b ≡ true) (sym (own_number o.0.id e o.2) ∙ ap role_id w.2.1) (within_found t tree o.0 o.1 e o.2 a b w.2)))
    (λ v. ⊎_elim
    (λ (p : IsParentEdge (public_store t gs) e).
    let found = between_found t tree p.0 p.1 p.2 e p.3 a b w.2 in
    parent_number p.0.id p.0.parent e p.3 (is_within t n a b || (up || (down || (given || into))) ≡ true)
    (λ to. second (subst (λ k. is_between t k a b ≡ true) (sym to ∙ ap role_id w.2.1) found))
    (λ from. third (subst (λ k. is_between t k a b ≡ true) (sym from ∙ ap role_id w.2.0) found)))
    (λ u. ⊎_elim
    (λ (g : IsGrantEdge (public_store t gs) e).
    let told = grant_numbers g.0.holder g.0.folder e g.2 in
    let leads : Leads a b (grant_edge g.0.holder g.0.folder) = subst (Leads a b) g.2 w.2 in
    let found = granted_found gs g.0 g.1 a b leads in
    let here : given ≡ true = subst (λ k. is_granted gs m k a b ≡ true) (sym told.1 ∙ ap role_id w.2.1) (subst (λ k. is_granted gs k g.0.folder a b ≡ true) (sym told.0 ∙ ap role_id w.2.0) found) in
    or_right (is_within t n a b) _ (or_right up _ (or_right down _ (or_left given _ here))))
    (λ z. ⊎_elim
    (λ (x : IsFileEdge (public_store t gs) e).
    let leads : Leads a b (file_edge x.0.folder x.0.id) = subst (Leads a b) x.2 w.2 in
    let here = subst (λ k. is_into_file t k a b ≡ true) (sym (into_number x.0.folder x.0.id e x.2) ∙ ap role_id w.2.1) (file_found t tree x.0 x.1 a b leads) in
    fifth (or_left (is_into_file t n a b) _ here))
    (λ (x : IsClearanceEdge (public_store t gs) e).
    let here = clearance_found t gs tree x.0 x.1 x.2 e x.3 a b w.2 in
    fifth (or_right (is_into_file t n a b) _ (clearance_numbers x.0.folder x.0.id e x.3 (is_at_clearance t gs m a b || is_at_clearance t gs n a b ≡ true)
    (λ to. or_right (is_at_clearance t gs m a b) _ (subst (λ k. is_at_clearance t gs k a b ≡ true) (sym to ∙ ap role_id w.2.1) here))
    (λ from. or_left (is_at_clearance t gs m a b) _ (subst (λ k. is_at_clearance t gs k a b ≡ true) (sym from ∙ ap role_id w.2.0) here))))) z) u) v) w.1

pub looked_up : (t : Store) (gs : List GrantEntry) → IsTree t → (a b : Role) (m n : ℕ) (r : Bool) → m ≡ role_id a → n ≡ role_id b → r ≡ is_found t gs m n a b → IsTrue r ↔ HasEdge (public_store t gs) a b
looked_up t gs tree a b m n r from to e =
    let same : r ≡ is_found t gs (role_id a) (role_id b) a b = e ∙ (λ i. is_found t gs (from i) (to i) a b) in (
      λ h. let w = found_sound t gs (role_id a) (role_id b) a b (sym same ∙ h) in (w.0, (edges_told (public_store t gs) w.0).1 w.1, w.2.0, w.2.1),
      λ w. same ∙ found_all t gs tree a b (w.0, (edges_told (public_store t gs) w.0).0 w.1, (w.2, w.3)),
    )

-- ---- what a look-up by clearance number finds

file_told : (o : Option ℕ) (x : FileId) → Some x ≡ option_map as_file o → o ≡ Some x.0
file_told None x e = absurd cc
file_told (Some n) x e = let same : x ≡ as_file n = cc in ap (λ (z : FileId). Some z.0) (sym same)

folder_number : (o : Option ℕ) → None ≡ option_map as_file o → o ≡ None
folder_number None e = refl
folder_number (Some n) e = absurd cc

abbrev granted_at : List GrantEntry → ℕ → Bool
granted_at gs c = list_any (λ (g : GrantEntry). g.folder == c) gs

pub clearance_none : (t : Store) (gs : List GrantEntry) (c : ℕ) (a b : Role) → granted_at gs c ≡ false → false ≡ is_at_clearance t gs c a b
unfolding is_at_clearance
clearance_none t gs c a b none = sym (ap (λ z. z && joins_at_file t a b (file_of c)) none)

pub clearance_folder : (t : Store) (gs : List GrantEntry) (c : ℕ) (a b : Role) → granted_at gs c ≡ true → None ≡ option_map as_file (file_of c) → false ≡ is_at_clearance t gs c a b
unfolding is_at_clearance
clearance_folder t gs c a b granted e = sym (ap (λ z. z && joins_at_file t a b (file_of c)) granted ∙ ap (joins_at_file t a b) (folder_number (file_of c) e))

pub clearance_joined : (t : Store) (gs : List GrantEntry) (c : ℕ) (x : FileId) (a b : Role) → granted_at gs c ≡ true → Some x ≡ option_map as_file (file_of c)
    → joins_clearance x.0 a b (folder_id_of (file_entry t x.0)) ≡ is_at_clearance t gs c a b
unfolding is_at_clearance
clearance_joined t gs c x a b granted e = sym (ap (λ z. z && joins_at_file t a b (file_of c)) granted ∙ ap (joins_at_file t a b) (file_told (file_of c) x e))
