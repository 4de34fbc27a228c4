-- What the code lists of a role's edges is what the store has of them.
use Rattle.std.proofs.Common.{◌≡◌, ℕ, Bool, true, false, cond, ◌==◌, List, [], ◌∷◌, ◌++◌, map, filter, find, Option, Some, None, refl, sym, ap, ◌∙◌, append-nil, append_assoc}
use Rattle.std.specs.List.{flat_map}
use Rattle.std.proofs.lemmas.Bool.{eqb-true}
use Rattle.cry_base.specs.Store.{Store, FolderEntry, FileEntry, GrantEntry, folder_entry, file_entry}
use Rattle.cry_base.specs.declared.roles.Edge.{Edge}
use Rattle.cry_base.specs.declared.roles.Role.TheVariants.{Owner, Holder, Clear, Sub, Back, Files, Data, File}
use Rattle.cry_base.specs.declared.ids.FolderId.{FolderId}
use Rattle.cry_base.specs.declared.ids.FileId.{FileId}
use Rattle.cry_base.specs.declared.ids.HolderId.{HolderId}
use Rattle.cry_base.proofs.Finding.{find-found}
use Rattle.folder_nodes.specs.Bare.{folder_of_row}
use Rattle.folder_nodes.specs.Inside.{AreListed, is_file_of}
use Rattle.folder_nodes.specs.Looking.{parent_id, folder_id_of, some_folder}
use Rattle.folder_nodes.specs.Trees.{IsTree}
use Rattle.folder_nodes.specs.declared.rows.FolderRow.{FolderRow}
use Rattle.grant_book.specs.Granted.{holders_on, folders_of}
use Rattle.role_graph.specs.Adjacent.{AreChildren, into, out_of, plain_edges, where_stands}
use Rattle.role_graph.specs.Edges.{edge, folder_edges, parent_edges, grant_edge, file_edge}
use Rattle.role_graph.specs.PublicStore.{public_store}
use Rattle.role_graph.specs.Roles.{same_role, variant_of, role_id, holder_role, clear_of, sub_of, back_of, files_of, data_of, file_role}
use Rattle.role_graph.proofs.Adding.{map_map}
use Rattle.role_graph.proofs.AtRoles.{files_listed, flat_alike, flat_kept, flat_none, flat_one, given, map_kept, no_edges, no_files, no_folders, no_grants, of_file, of_grant, only, own_part, parts, with_parent}

-- what is added in two steps
pub added_twice : (old a b all one two : List Edge) → one ≡ old ++ a → two ≡ one ++ b → a ++ b ≡ all → two ≡ old ++ all
added_twice old a b all one two first second both = second ∙ ap (λ l. l ++ b) first ∙ append_assoc old a b ∙ ap (λ l. old ++ l) both

alone : (a : List Edge) → ((a ++ []) ++ []) ++ [] ≡ a
alone a = append-nil ((a ++ []) ++ []) ∙ append-nil (a ++ []) ∙ append-nil a

with_up : (a b : List Edge) → ((a ++ b) ++ []) ++ [] ≡ a ++ b
with_up a b = append-nil ((a ++ b) ++ []) ∙ append-nil (a ++ b)

with_given : (a c : List Edge) → ((a ++ []) ++ c) ++ [] ≡ a ++ c
with_given a c = append-nil ((a ++ []) ++ c) ∙ ap (λ l. l ++ c) (append-nil a)

-- none of the edges to a parent
none_up : (p : Edge → Bool) (e : FolderEntry) → filter p (parent_edges e.id e.parent) ≡ [] → filter p (with_parent e) ≡ []
none_up p e none = elim (e.parent == 0) as (λ b. filter p (cond b [] (parent_edges e.id e.parent)) ≡ []) [ true ↦ refl | false ↦ none ]

-- what is behind the look-up of a parent
abbrev pub beyond : (FolderId → Edge) → Option FolderId → List Edge
beyond k None = []
beyond k (Some p) = k p ∷ []

-- no folder is in the number 0
up_from : (n g : ℕ) (x y : Edge) → (n == g ≡ true → x ≡ y) → cond (n == 0) [] (cond (n == g) (x ∷ []) []) ≡ cond (g == 0) [] (cond (n == g) (y ∷ []) [])
up_from n g x y same = (elim (n == g) as (λ b. n == g ≡ b → cond (n == 0) [] (cond b (x ∷ []) []) ≡ cond (g == 0) [] (cond b (y ∷ []) [])) [
  | true ↦ λ t i. cond (eqb-true n g t i == 0) [] (same t i ∷ [])
  | false ↦ λ t. none (n == 0) (g == 0)
]) refl
  where
    none : (a b : Bool) → cond a no_edges no_edges ≡ cond b no_edges no_edges
    none true true = refl
    none true false = refl
    none false true = refl
    none false false = refl

children_part : (s : Store) (f : ℕ) (ids : List FolderId) (p : Edge → Bool) (k : ℕ → Edge) → AreChildren s f (map (λ (g : FolderId). g.0) ids)
    → ((e : FolderEntry) → filter p (with_parent e) ≡ cond (f == 0) [] (cond (e.parent == f) (k e.id ∷ []) []))
    → flat_map (λ (e : FolderEntry). filter p (with_parent e)) s.folders ≡ map (λ (g : FolderId). k g.0) ids
children_part s f ids p k are is =
    flat_alike FolderEntry (λ e. filter p (with_parent e)) (λ e. cond (f == 0) [] (cond (e.parent == f) (k e.id ∷ []) [])) is s.folders
    ∙ listed (f == 0)
    ∙ sym (map_map FolderEntry ℕ Edge k (λ (e : FolderEntry). e.id) (cond (f == 0) [] (filter (λ (e : FolderEntry). e.parent == f) s.folders)))
    ∙ ap (map k) (sym are)
    ∙ map_map FolderId ℕ Edge k (λ (g : FolderId). g.0) ids
  where
    listed : (b : Bool) → flat_map (λ (e : FolderEntry). cond b [] (cond (e.parent == f) (k e.id ∷ []) [])) s.folders ≡ map (λ (e : FolderEntry). k e.id) (cond b [] (filter (λ (e : FolderEntry). e.parent == f) s.folders))
    listed true = flat_none FolderEntry s.folders
    listed false = flat_kept FolderEntry (λ e. e.parent == f) (λ e. k e.id) s.folders

parent_part : (s : Store) → IsTree s → (f : ℕ) (p : Edge → Bool) (k : FolderId → Edge)
    → ((e : FolderEntry) → filter p (with_parent e) ≡ cond (e.id == f) (beyond k (some_folder e.parent)) [])
    → flat_map (λ (e : FolderEntry). filter p (with_parent e)) s.folders ≡ beyond k (parent_id (folder_entry s f))
unfolding folder_entry
parent_part s tree f p k is =
    flat_alike FolderEntry (λ e. filter p (with_parent e)) (λ e. cond (e.id == f) (beyond k (some_folder e.parent)) []) is s.folders
    ∙ only FolderEntry (λ e. e.id) (λ e. beyond k (some_folder e.parent)) f s.folders tree.folders_ascend
    ∙ looked (find (λ e. e.id == f) s.folders)
  where
    looked : (o : Option FolderEntry) → given FolderEntry (λ e. beyond k (some_folder e.parent)) o ≡ beyond k (parent_id o)
    looked None = refl
    looked (Some e) = refl

-- the edge up or down between a folder and its parent
own_up : (n m f : ℕ) (k : FolderId → Edge) (x : Edge) → x ≡ k (record { 0 = m }) → cond (m == 0) [] (cond (n == f) (x ∷ []) []) ≡ cond (n == f) (beyond k (some_folder m)) []
own_up n m f k x same = (elim (m == 0) as (λ b. cond b [] (cond (n == f) (x ∷ []) []) ≡ cond (n == f) (beyond k (cond b None (Some (record { 0 = m })))) []) [
  | true ↦ elim (n == f) as (λ c. no_edges ≡ cond c no_edges no_edges) [ true ↦ refl | false ↦ refl ]
  | false ↦ ap (λ z. cond (n == f) (z ∷ []) []) same
])

filter_up : (p : Edge → Bool) (e : FolderEntry) (l : List Edge) → filter p (parent_edges e.id e.parent) ≡ l → filter p (with_parent e) ≡ cond (e.parent == 0) [] l
filter_up p e l is = elim (e.parent == 0) as (λ b. filter p (cond b [] (parent_edges e.id e.parent)) ≡ cond b [] l) [ true ↦ refl | false ↦ is ]

two : (b : Bool) (x y : Edge) → cond b (x ∷ cond b (y ∷ []) []) (cond b (y ∷ []) []) ≡ cond b (x ∷ y ∷ []) []
two true x y = refl
two false x y = refl

pub where_public : (tree : Store) (pairs : List GrantEntry) (f : ℕ) (es : List Edge) → where_stands tree f es ≡ where_stands (public_store tree pairs) f es
unfolding where_stands folder_entry
where_public tree pairs f es = refl

pub entry_public : (tree : Store) (pairs : List GrantEntry) (f : ℕ) → folder_entry tree f ≡ folder_entry (public_store tree pairs) f
unfolding folder_entry
entry_public tree pairs f = refl

pub file_public : (tree : Store) (pairs : List GrantEntry) (x : ℕ) → file_entry tree x ≡ file_entry (public_store tree pairs) x
unfolding file_entry
file_public tree pairs x = refl

-- the number of the folder itself may stand for it
own_moved : (n f : ℕ) (k : ℕ → Edge) (m : ℕ) → cond (m == 0) [] (cond (n == f) (k n ∷ []) []) ≡ cond (m == 0) [] (cond (n == f) (k f ∷ []) [])
own_moved n f k m = ap (cond (m == 0) []) ((elim (n == f) as (λ b. n == f ≡ b → cond b (k n ∷ []) [] ≡ cond b (k f ∷ []) []) [
  | true ↦ λ t. ap (λ z. k z ∷ []) (eqb-true n f t)
  | false ↦ λ t. refl
]) refl)

own_file : (s : Store) → IsTree s → (x : FileId) → map of_file (filter (λ (e : FileEntry). e.id == x.0) s.files) ≡ beyond (λ f. edge 9 (files_of f.0) (file_role x.0)) (folder_id_of (file_entry s x.0))
unfolding file_entry file_edge
own_file s tree x =
    sym (flat_kept FileEntry (λ e. e.id == x.0) of_file s.files)
    ∙ only FileEntry (λ e. e.id) (λ e. of_file e ∷ []) x.0 s.files tree.files_ascend
    ∙ looked (find (λ e. e.id == x.0) s.files) refl
  where
    looked : (o : Option FileEntry) → find (λ (e : FileEntry). e.id == x.0) s.files ≡ o → given FileEntry (λ e. of_file e ∷ []) o ≡ beyond (λ f. edge 9 (files_of f.0) (file_role x.0)) (folder_id_of o)
    looked None p = refl
    looked (Some e) p = ap (λ n. edge 9 (files_of e.folder) (file_role n) ∷ []) (eqb-true e.id x.0 (find-found FileEntry (λ y. y.id == x.0) s.files e p).1)

pub owner_from : (s : Store) → IsTree s → (rows : List FolderRow) → map folder_of_row rows ≡ s.folders → map (λ (r : FolderRow). edge 1 Owner (clear_of r.id.0)) rows ≡ out_of (plain_edges s) Owner
unfolding out_of into folder_edges parent_edges grant_edge file_edge edge same_role variant_of role_id holder_role clear_of sub_of back_of files_of data_of file_role
owner_from s tree rows rows_are =
    sym (parts (λ (e : Edge). same_role e.from Owner) s (map (λ (r : FolderRow). edge 1 Owner (clear_of r.id.0)) rows) ([]) ([]) ([])
    (flat_one FolderEntry (λ e. edge 1 Owner (clear_of e.id)) s.folders ∙ ap (map (λ (e : FolderEntry). edge 1 Owner (clear_of e.id))) (sym rows_are) ∙ map_map FolderRow FolderEntry Edge (λ e. edge 1 Owner (clear_of e.id)) folder_of_row rows)
    (no_folders (λ e. filter (λ (e : Edge). same_role e.from Owner) (with_parent e)) s (λ e. none_up (λ (e : Edge). same_role e.from Owner) e refl))
    (no_grants (λ (e : Edge). same_role e.from Owner) s (λ g. refl))
    (no_files (λ (e : Edge). same_role e.from Owner) s (λ e. refl))
    ∙ alone (map (λ (r : FolderRow). edge 1 Owner (clear_of r.id.0)) rows))

pub holder_from : (s : Store) → IsTree s → (h : HolderId) → map (λ (f : FolderId). grant_edge h.0 f.0) (folders_of s.grants h.0) ≡ out_of (plain_edges s) (Holder h)
unfolding out_of into folder_edges parent_edges grant_edge file_edge edge same_role variant_of role_id holder_role clear_of sub_of back_of files_of data_of file_role
holder_from s tree h =
    sym (parts (λ (e : Edge). same_role e.from (Holder h)) s ([]) ([]) (map (λ (f : FolderId). grant_edge h.0 f.0) (folders_of s.grants h.0)) ([])
    (no_folders (λ e. filter (λ (e : Edge). same_role e.from (Holder h)) (folder_edges e.id)) s (λ e. refl))
    (no_folders (λ e. filter (λ (e : Edge). same_role e.from (Holder h)) (with_parent e)) s (λ e. none_up (λ (e : Edge). same_role e.from (Holder h)) e refl))
    (map_kept GrantEntry Edge (λ g. g.holder == h.0) of_grant (λ g. grant_edge h.0 g.folder) (λ g t. ap (λ n. grant_edge n g.folder) (eqb-true g.holder h.0 t)) s.grants ∙ sym (map_map GrantEntry FolderId Edge (λ (f : FolderId). grant_edge h.0 f.0) (λ (g : GrantEntry). record { 0 = g.folder }) (filter (λ (g : GrantEntry). g.holder == h.0) s.grants)))
    (no_files (λ (e : Edge). same_role e.from (Holder h)) s (λ e. refl))
    ∙ append-nil (map (λ (f : FolderId). grant_edge h.0 f.0) (folders_of s.grants h.0)))

pub clear_from : (s : Store) → IsTree s → (f : FolderId) → where_stands s f.0 (edge 3 (clear_of f.0) (sub_of f.0) ∷ []) ≡ out_of (plain_edges s) (Clear f)
unfolding out_of into folder_edges parent_edges grant_edge file_edge edge same_role variant_of role_id holder_role clear_of sub_of back_of files_of data_of file_role
clear_from s tree f =
    sym (parts (λ (e : Edge). same_role e.from (Clear f)) s (where_stands s f.0 (edge 3 (clear_of f.0) (sub_of f.0) ∷ [])) ([]) ([]) ([])
    (own_part s tree (λ e. filter (λ (e : Edge). same_role e.from (Clear f)) (folder_edges e.id)) (λ n. edge 3 (clear_of n) (sub_of n) ∷ []) f.0 (λ e. refl))
    (no_folders (λ e. filter (λ (e : Edge). same_role e.from (Clear f)) (with_parent e)) s (λ e. none_up (λ (e : Edge). same_role e.from (Clear f)) e refl))
    (no_grants (λ (e : Edge). same_role e.from (Clear f)) s (λ g. refl))
    (no_files (λ (e : Edge). same_role e.from (Clear f)) s (λ e. refl))
    ∙ alone (where_stands s f.0 (edge 3 (clear_of f.0) (sub_of f.0) ∷ [])))

pub sub_from : (s : Store) → IsTree s → (f : FolderId) (ids : List FolderId) → AreChildren s f.0 (map (λ (g : FolderId). g.0) ids) → where_stands s f.0 (edge 4 (sub_of f.0) (back_of f.0) ∷ edge 5 (sub_of f.0) (files_of f.0) ∷ []) ++ map (λ (g : FolderId). edge 6 (sub_of f.0) (sub_of g.0)) ids ≡ out_of (plain_edges s) (Sub f)
unfolding out_of into folder_edges parent_edges grant_edge file_edge edge same_role variant_of role_id holder_role clear_of sub_of back_of files_of data_of file_role
sub_from s tree f ids are =
    sym (parts (λ (e : Edge). same_role e.from (Sub f)) s (where_stands s f.0 (edge 4 (sub_of f.0) (back_of f.0) ∷ edge 5 (sub_of f.0) (files_of f.0) ∷ [])) (map (λ (g : FolderId). edge 6 (sub_of f.0) (sub_of g.0)) ids) ([]) ([])
    (own_part s tree (λ e. filter (λ (e : Edge). same_role e.from (Sub f)) (folder_edges e.id)) (λ n. edge 4 (sub_of n) (back_of n) ∷ edge 5 (sub_of n) (files_of n) ∷ []) f.0 (λ e. two (e.id == f.0) (edge 4 (sub_of e.id) (back_of e.id)) (edge 5 (sub_of e.id) (files_of e.id))))
    (children_part s f.0 ids (λ (e : Edge). same_role e.from (Sub f)) (λ n. edge 6 (sub_of f.0) (sub_of n)) are (λ e. filter_up (λ (e : Edge). same_role e.from (Sub f)) e (cond (e.parent == f.0) (edge 6 (sub_of e.parent) (sub_of e.id) ∷ []) []) refl ∙ up_from e.parent f.0 (edge 6 (sub_of e.parent) (sub_of e.id)) (edge 6 (sub_of f.0) (sub_of e.id)) (λ t. ap (λ n. edge 6 (sub_of n) (sub_of e.id)) (eqb-true e.parent f.0 t))))
    (no_grants (λ (e : Edge). same_role e.from (Sub f)) s (λ g. refl))
    (no_files (λ (e : Edge). same_role e.from (Sub f)) s (λ e. refl))
    ∙ with_up (where_stands s f.0 (edge 4 (sub_of f.0) (back_of f.0) ∷ edge 5 (sub_of f.0) (files_of f.0) ∷ [])) (map (λ (g : FolderId). edge 6 (sub_of f.0) (sub_of g.0)) ids))

pub back_from : (s : Store) → IsTree s → (f : FolderId) → where_stands s f.0 (edge 7 (back_of f.0) (data_of f.0) ∷ []) ++ beyond (λ p. edge 8 (back_of f.0) (back_of p.0)) (parent_id (folder_entry s f.0)) ≡ out_of (plain_edges s) (Back f)
unfolding out_of into folder_edges parent_edges grant_edge file_edge edge same_role variant_of role_id holder_role clear_of sub_of back_of files_of data_of file_role
back_from s tree f =
    sym (parts (λ (e : Edge). same_role e.from (Back f)) s (where_stands s f.0 (edge 7 (back_of f.0) (data_of f.0) ∷ [])) (beyond (λ p. edge 8 (back_of f.0) (back_of p.0)) (parent_id (folder_entry s f.0))) ([]) ([])
    (own_part s tree (λ e. filter (λ (e : Edge). same_role e.from (Back f)) (folder_edges e.id)) (λ n. edge 7 (back_of n) (data_of n) ∷ []) f.0 (λ e. refl))
    (parent_part s tree f.0 (λ (e : Edge). same_role e.from (Back f)) (λ p. edge 8 (back_of f.0) (back_of p.0)) (λ e. filter_up (λ (e : Edge). same_role e.from (Back f)) e (cond (e.id == f.0) (edge 8 (back_of e.id) (back_of e.parent) ∷ []) []) refl ∙ own_moved e.id f.0 (λ n. edge 8 (back_of n) (back_of e.parent)) e.parent ∙ own_up e.id e.parent f.0 (λ p. edge 8 (back_of f.0) (back_of p.0)) (edge 8 (back_of f.0) (back_of e.parent)) refl))
    (no_grants (λ (e : Edge). same_role e.from (Back f)) s (λ g. refl))
    (no_files (λ (e : Edge). same_role e.from (Back f)) s (λ e. refl))
    ∙ with_up (where_stands s f.0 (edge 7 (back_of f.0) (data_of f.0) ∷ [])) (beyond (λ p. edge 8 (back_of f.0) (back_of p.0)) (parent_id (folder_entry s f.0))))

pub files_from : (s : Store) → IsTree s → (f : FolderId) (ids : List FileId) → AreListed (λ x. is_file_of f.0 (file_entry s x)) (map (λ (x : FileId). x.0) ids) → map (λ (x : FileId). file_edge f.0 x.0) ids ≡ out_of (plain_edges s) (Files f)
unfolding out_of into folder_edges parent_edges grant_edge file_edge edge same_role variant_of role_id holder_role clear_of sub_of back_of files_of data_of file_role
files_from s tree f ids are =
    sym (parts (λ (e : Edge). same_role e.from (Files f)) s ([]) ([]) ([]) (map (λ (x : FileId). file_edge f.0 x.0) ids)
    (no_folders (λ e. filter (λ (e : Edge). same_role e.from (Files f)) (folder_edges e.id)) s (λ e. refl))
    (no_folders (λ e. filter (λ (e : Edge). same_role e.from (Files f)) (with_parent e)) s (λ e. none_up (λ (e : Edge). same_role e.from (Files f)) e refl))
    (no_grants (λ (e : Edge). same_role e.from (Files f)) s (λ g. refl))
    (map_kept FileEntry Edge (λ e. e.folder == f.0) of_file (λ e. file_edge f.0 e.id) (λ e t. ap (λ n. file_edge n e.id) (eqb-true e.folder f.0 t)) s.files ∙ sym (map_map FileEntry ℕ Edge (λ n. file_edge f.0 n) (λ (e : FileEntry). e.id) (filter (λ (e : FileEntry). e.folder == f.0) s.files)) ∙ ap (map (λ n. file_edge f.0 n)) (sym (files_listed s tree f.0 (map (λ (x : FileId). x.0) ids) are)) ∙ map_map FileId ℕ Edge (λ n. file_edge f.0 n) (λ (x : FileId). x.0) ids)
    ∙ refl)

pub data_from : (s : Store) → IsTree s → (f : FolderId) → [] ≡ out_of (plain_edges s) (Data f)
unfolding out_of into folder_edges parent_edges grant_edge file_edge edge same_role variant_of role_id holder_role clear_of sub_of back_of files_of data_of file_role
data_from s tree f =
    sym (parts (λ (e : Edge). same_role e.from (Data f)) s ([]) ([]) ([]) ([])
    (no_folders (λ e. filter (λ (e : Edge). same_role e.from (Data f)) (folder_edges e.id)) s (λ e. refl))
    (no_folders (λ e. filter (λ (e : Edge). same_role e.from (Data f)) (with_parent e)) s (λ e. none_up (λ (e : Edge). same_role e.from (Data f)) e refl))
    (no_grants (λ (e : Edge). same_role e.from (Data f)) s (λ g. refl))
    (no_files (λ (e : Edge). same_role e.from (Data f)) s (λ e. refl))
    ∙ refl)

pub file_from : (s : Store) → IsTree s → (x : FileId) → [] ≡ out_of (plain_edges s) (File x)
unfolding out_of into folder_edges parent_edges grant_edge file_edge edge same_role variant_of role_id holder_role clear_of sub_of back_of files_of data_of file_role
file_from s tree x =
    sym (parts (λ (e : Edge). same_role e.from (File x)) s ([]) ([]) ([]) ([])
    (no_folders (λ e. filter (λ (e : Edge). same_role e.from (File x)) (folder_edges e.id)) s (λ e. refl))
    (no_folders (λ e. filter (λ (e : Edge). same_role e.from (File x)) (with_parent e)) s (λ e. none_up (λ (e : Edge). same_role e.from (File x)) e refl))
    (no_grants (λ (e : Edge). same_role e.from (File x)) s (λ g. refl))
    (no_files (λ (e : Edge). same_role e.from (File x)) s (λ e. refl))
    ∙ refl)

pub owner_into : (s : Store) → IsTree s → [] ≡ into (plain_edges s) Owner
unfolding out_of into folder_edges parent_edges grant_edge file_edge edge same_role variant_of role_id holder_role clear_of sub_of back_of files_of data_of file_role
owner_into s tree =
    sym (parts (λ (e : Edge). same_role e.to Owner) s ([]) ([]) ([]) ([])
    (no_folders (λ e. filter (λ (e : Edge). same_role e.to Owner) (folder_edges e.id)) s (λ e. refl))
    (no_folders (λ e. filter (λ (e : Edge). same_role e.to Owner) (with_parent e)) s (λ e. none_up (λ (e : Edge). same_role e.to Owner) e refl))
    (no_grants (λ (e : Edge). same_role e.to Owner) s (λ g. refl))
    (no_files (λ (e : Edge). same_role e.to Owner) s (λ e. refl))
    ∙ refl)

pub holder_into : (s : Store) → IsTree s → (h : HolderId) → [] ≡ into (plain_edges s) (Holder h)
unfolding out_of into folder_edges parent_edges grant_edge file_edge edge same_role variant_of role_id holder_role clear_of sub_of back_of files_of data_of file_role
holder_into s tree h =
    sym (parts (λ (e : Edge). same_role e.to (Holder h)) s ([]) ([]) ([]) ([])
    (no_folders (λ e. filter (λ (e : Edge). same_role e.to (Holder h)) (folder_edges e.id)) s (λ e. refl))
    (no_folders (λ e. filter (λ (e : Edge). same_role e.to (Holder h)) (with_parent e)) s (λ e. none_up (λ (e : Edge). same_role e.to (Holder h)) e refl))
    (no_grants (λ (e : Edge). same_role e.to (Holder h)) s (λ g. refl))
    (no_files (λ (e : Edge). same_role e.to (Holder h)) s (λ e. refl))
    ∙ refl)

pub clear_into : (s : Store) → IsTree s → (f : FolderId) → where_stands s f.0 (edge 1 Owner (clear_of f.0) ∷ []) ++ map (λ (h : HolderId). grant_edge h.0 f.0) (holders_on s.grants f.0) ≡ into (plain_edges s) (Clear f)
unfolding out_of into folder_edges parent_edges grant_edge file_edge edge same_role variant_of role_id holder_role clear_of sub_of back_of files_of data_of file_role
clear_into s tree f =
    sym (parts (λ (e : Edge). same_role e.to (Clear f)) s (where_stands s f.0 (edge 1 Owner (clear_of f.0) ∷ [])) ([]) (map (λ (h : HolderId). grant_edge h.0 f.0) (holders_on s.grants f.0)) ([])
    (own_part s tree (λ e. filter (λ (e : Edge). same_role e.to (Clear f)) (folder_edges e.id)) (λ n. edge 1 Owner (clear_of n) ∷ []) f.0 (λ e. refl))
    (no_folders (λ e. filter (λ (e : Edge). same_role e.to (Clear f)) (with_parent e)) s (λ e. none_up (λ (e : Edge). same_role e.to (Clear f)) e refl))
    (map_kept GrantEntry Edge (λ g. g.folder == f.0) of_grant (λ g. grant_edge g.holder f.0) (λ g t. ap (λ n. grant_edge g.holder n) (eqb-true g.folder f.0 t)) s.grants ∙ sym (map_map GrantEntry HolderId Edge (λ (h : HolderId). grant_edge h.0 f.0) (λ (g : GrantEntry). record { 0 = g.holder }) (filter (λ (g : GrantEntry). g.folder == f.0) s.grants)))
    (no_files (λ (e : Edge). same_role e.to (Clear f)) s (λ e. refl))
    ∙ with_given (where_stands s f.0 (edge 1 Owner (clear_of f.0) ∷ [])) (map (λ (h : HolderId). grant_edge h.0 f.0) (holders_on s.grants f.0)))

pub sub_into : (s : Store) → IsTree s → (f : FolderId) → where_stands s f.0 (edge 3 (clear_of f.0) (sub_of f.0) ∷ []) ++ beyond (λ p. edge 6 (sub_of p.0) (sub_of f.0)) (parent_id (folder_entry s f.0)) ≡ into (plain_edges s) (Sub f)
unfolding out_of into folder_edges parent_edges grant_edge file_edge edge same_role variant_of role_id holder_role clear_of sub_of back_of files_of data_of file_role
sub_into s tree f =
    sym (parts (λ (e : Edge). same_role e.to (Sub f)) s (where_stands s f.0 (edge 3 (clear_of f.0) (sub_of f.0) ∷ [])) (beyond (λ p. edge 6 (sub_of p.0) (sub_of f.0)) (parent_id (folder_entry s f.0))) ([]) ([])
    (own_part s tree (λ e. filter (λ (e : Edge). same_role e.to (Sub f)) (folder_edges e.id)) (λ n. edge 3 (clear_of n) (sub_of n) ∷ []) f.0 (λ e. refl))
    (parent_part s tree f.0 (λ (e : Edge). same_role e.to (Sub f)) (λ p. edge 6 (sub_of p.0) (sub_of f.0)) (λ e. filter_up (λ (e : Edge). same_role e.to (Sub f)) e (cond (e.id == f.0) (edge 6 (sub_of e.parent) (sub_of e.id) ∷ []) []) refl ∙ own_moved e.id f.0 (λ n. edge 6 (sub_of e.parent) (sub_of n)) e.parent ∙ own_up e.id e.parent f.0 (λ p. edge 6 (sub_of p.0) (sub_of f.0)) (edge 6 (sub_of e.parent) (sub_of f.0)) refl))
    (no_grants (λ (e : Edge). same_role e.to (Sub f)) s (λ g. refl))
    (no_files (λ (e : Edge). same_role e.to (Sub f)) s (λ e. refl))
    ∙ with_up (where_stands s f.0 (edge 3 (clear_of f.0) (sub_of f.0) ∷ [])) (beyond (λ p. edge 6 (sub_of p.0) (sub_of f.0)) (parent_id (folder_entry s f.0))))

pub back_into : (s : Store) → IsTree s → (f : FolderId) (ids : List FolderId) → AreChildren s f.0 (map (λ (g : FolderId). g.0) ids) → where_stands s f.0 (edge 4 (sub_of f.0) (back_of f.0) ∷ []) ++ map (λ (g : FolderId). edge 8 (back_of g.0) (back_of f.0)) ids ≡ into (plain_edges s) (Back f)
unfolding out_of into folder_edges parent_edges grant_edge file_edge edge same_role variant_of role_id holder_role clear_of sub_of back_of files_of data_of file_role
back_into s tree f ids are =
    sym (parts (λ (e : Edge). same_role e.to (Back f)) s (where_stands s f.0 (edge 4 (sub_of f.0) (back_of f.0) ∷ [])) (map (λ (g : FolderId). edge 8 (back_of g.0) (back_of f.0)) ids) ([]) ([])
    (own_part s tree (λ e. filter (λ (e : Edge). same_role e.to (Back f)) (folder_edges e.id)) (λ n. edge 4 (sub_of n) (back_of n) ∷ []) f.0 (λ e. refl))
    (children_part s f.0 ids (λ (e : Edge). same_role e.to (Back f)) (λ n. edge 8 (back_of n) (back_of f.0)) are (λ e. filter_up (λ (e : Edge). same_role e.to (Back f)) e (cond (e.parent == f.0) (edge 8 (back_of e.id) (back_of e.parent) ∷ []) []) refl ∙ up_from e.parent f.0 (edge 8 (back_of e.id) (back_of e.parent)) (edge 8 (back_of e.id) (back_of f.0)) (λ t. ap (λ n. edge 8 (back_of e.id) (back_of n)) (eqb-true e.parent f.0 t))))
    (no_grants (λ (e : Edge). same_role e.to (Back f)) s (λ g. refl))
    (no_files (λ (e : Edge). same_role e.to (Back f)) s (λ e. refl))
    ∙ with_up (where_stands s f.0 (edge 4 (sub_of f.0) (back_of f.0) ∷ [])) (map (λ (g : FolderId). edge 8 (back_of g.0) (back_of f.0)) ids))

pub files_into : (s : Store) → IsTree s → (f : FolderId) → where_stands s f.0 (edge 5 (sub_of f.0) (files_of f.0) ∷ []) ≡ into (plain_edges s) (Files f)
unfolding out_of into folder_edges parent_edges grant_edge file_edge edge same_role variant_of role_id holder_role clear_of sub_of back_of files_of data_of file_role
files_into s tree f =
    sym (parts (λ (e : Edge). same_role e.to (Files f)) s (where_stands s f.0 (edge 5 (sub_of f.0) (files_of f.0) ∷ [])) ([]) ([]) ([])
    (own_part s tree (λ e. filter (λ (e : Edge). same_role e.to (Files f)) (folder_edges e.id)) (λ n. edge 5 (sub_of n) (files_of n) ∷ []) f.0 (λ e. refl))
    (no_folders (λ e. filter (λ (e : Edge). same_role e.to (Files f)) (with_parent e)) s (λ e. none_up (λ (e : Edge). same_role e.to (Files f)) e refl))
    (no_grants (λ (e : Edge). same_role e.to (Files f)) s (λ g. refl))
    (no_files (λ (e : Edge). same_role e.to (Files f)) s (λ e. refl))
    ∙ alone (where_stands s f.0 (edge 5 (sub_of f.0) (files_of f.0) ∷ [])))

pub data_into : (s : Store) → IsTree s → (f : FolderId) → where_stands s f.0 (edge 7 (back_of f.0) (data_of f.0) ∷ []) ≡ into (plain_edges s) (Data f)
unfolding out_of into folder_edges parent_edges grant_edge file_edge edge same_role variant_of role_id holder_role clear_of sub_of back_of files_of data_of file_role
data_into s tree f =
    sym (parts (λ (e : Edge). same_role e.to (Data f)) s (where_stands s f.0 (edge 7 (back_of f.0) (data_of f.0) ∷ [])) ([]) ([]) ([])
    (own_part s tree (λ e. filter (λ (e : Edge). same_role e.to (Data f)) (folder_edges e.id)) (λ n. edge 7 (back_of n) (data_of n) ∷ []) f.0 (λ e. refl))
    (no_folders (λ e. filter (λ (e : Edge). same_role e.to (Data f)) (with_parent e)) s (λ e. none_up (λ (e : Edge). same_role e.to (Data f)) e refl))
    (no_grants (λ (e : Edge). same_role e.to (Data f)) s (λ g. refl))
    (no_files (λ (e : Edge). same_role e.to (Data f)) s (λ e. refl))
    ∙ alone (where_stands s f.0 (edge 7 (back_of f.0) (data_of f.0) ∷ [])))

pub file_into : (s : Store) → IsTree s → (x : FileId) → beyond (λ f. edge 9 (files_of f.0) (file_role x.0)) (folder_id_of (file_entry s x.0)) ≡ into (plain_edges s) (File x)
unfolding out_of into folder_edges parent_edges grant_edge file_edge edge same_role variant_of role_id holder_role clear_of sub_of back_of files_of data_of file_role
file_into s tree x =
    sym (parts (λ (e : Edge). same_role e.to (File x)) s ([]) ([]) ([]) (beyond (λ f. edge 9 (files_of f.0) (file_role x.0)) (folder_id_of (file_entry s x.0)))
    (no_folders (λ e. filter (λ (e : Edge). same_role e.to (File x)) (folder_edges e.id)) s (λ e. refl))
    (no_folders (λ e. filter (λ (e : Edge). same_role e.to (File x)) (with_parent e)) s (λ e. none_up (λ (e : Edge). same_role e.to (File x)) e refl))
    (no_grants (λ (e : Edge). same_role e.to (File x)) s (λ g. refl))
    (own_file s tree x)
    ∙ refl)
