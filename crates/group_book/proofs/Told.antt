-- What an owner's tree, names and grants tell of a replacement is what stands in the store.
use Rattle.std.proofs.Common.{◌≡◌, ℕ, ◌+◌, ◌<◌, false, ◌==◌, List, [], ◌∷◌, ◌++◌, length, filter, map, Option, None, Some, refl, sym, ap, ◌∙◌, subst, arith}
use Rattle.std.specs.Prelude.{not, is_none, AllPairs, codes}
use Rattle.std.specs.Option.{option_map, unwrap_or}
use Rattle.cry_base.specs.Clearances.{file_of}
use Rattle.cry_base.specs.Requests.{Request, request_of}
use Rattle.cry_base.specs.Requests.Request.{AddHolder, Grant, Revoke}
use Rattle.cry_base.specs.declared.commands.Command.{Command}
use Rattle.cry_base.specs.declared.commands.Command.TheVariants as command
use Rattle.cry_base.specs.declared.ids.FileId.{FileId}
use Rattle.grant_book.specs.Cleared.{as_file}
use Rattle.cry_base.specs.Naming.{spell_path}
use Rattle.cry_base.specs.Sets.{In}
use Rattle.cry_base.specs.Store.{Store, FileEntry, FolderEntry, GrantEntry, HolderEntry, file_entry, file_names, file_node, folder_names, folder_node, holder_entry, no_store, node_names, path_of, way_to_root}
use Rattle.cry_base.specs.declared.roles.Node.{Node}
use Rattle.cry_base.proofs.Members.{In-map, In-filter, filter-In}
use Rattle.folder_nodes.specs.Looking.{folder_id_of}
use Rattle.folder_nodes.specs.Spelling.{joined}
use Rattle.log_visits.proofs.WayDown.{file_built}
use Rattle.folder_nodes.specs.Titles.{Titles, name_in, title_at, tree_store}
use Rattle.folder_nodes.proofs.Named.{file_named, named_file}
use Rattle.cry_base.proofs.Finding.{find-found}
use Rattle.std.proofs.lemmas.Bool.{and_from, eqb-true, le-leb}
use Rattle.grant_book.specs.Refused.{is_holder}
use Rattle.grant_book.proofs.Matched.{holder_told}
use Rattle.role_graph.proofs.Adding.{map_map}
use Rattle.cry_base.specs.declared.ids.FolderId.{FolderId}
use Rattle.grant_book.specs.Granted.{Granted, IsHolder, folders_of}
use Rattle.grant_book.specs.Matching.{AreGrantsOf}
use Rattle.journal_bytes.specs.Owning.{IsStoreOf, IsTreeOf}
use Rattle.role_graph.specs.Rights.{granted_to}
use Rattle.group_book.specs.Replacing.{ascending, granted_node, granted_paths, node_by, replacement, stands_for, stands_for_entry}
use Rattle.grant_book.proofs.Lists.{AllPairs-map}
use Rattle.folder_nodes.proofs.Ascending.{in-All}
use Rattle.folder_nodes.proofs.Named.{map_alike}
use Rattle.std.proofs.lemmas.Bool.Decides.{nat_tests}
use Rattle.group_book.proofs.Sorted.{rising_rises, sorted}

-- ---- paths

abbrev tree_only : List FolderEntry → List FileEntry → Store
tree_only folders files = record no_store { folders = folders; files = files }

path_only : (s : Store) (node : Node) → path_of s node ≡ path_of (tree_only s.folders s.files) node
unfolding path_of node_names folder_names file_names way_to_root file_entry no_store
path_only s node = refl

pub path_same : (t s : Store) (node : Node) → IsTreeOf t s → path_of t node ≡ path_of s node
path_same t s node is = path_only t node ∙ (λ i. path_of (tree_only (is.folders i) (is.files i)) node) ∙ sym (path_only s node)

pub folder_path_told : (t : Store) (n : Titles) (f : ℕ) → spell_path (folder_names (tree_store t n) f) ≡ path_of (tree_store t n) (folder_node f)
unfolding path_of node_names folder_node
folder_path_told t n f = refl

-- the path of a file that stands, and of one that doesn't
pub file_path_told : (t : Store) (n : Titles) (x : ℕ) (e : FileEntry) → file_entry t x ≡ Some e →
    spell_path (folder_names (tree_store t n) e.folder ++ name_in (title_at n.files x) ∷ []) ≡ path_of (tree_store t n) (file_node x)
unfolding path_of node_names file_node file_names file_entry
file_path_told t n x e is =
    let found = find-found FileEntry (λ (w : FileEntry). w.id == x) t.files e is in
    let id : e.id ≡ x = eqb-true e.id x found.1 in
    ap (λ k. spell_path (folder_names (tree_store t n) e.folder ++ name_in (title_at n.files k) ∷ [])) (sym id)
    ∙ ap (λ o. spell_path (unwrap_or (option_map (file_names (tree_store t n)) o) [])) (sym (file_named t n x ∙ ap (option_map (named_file n)) is))

pub no_file_path : (t : Store) (n : Titles) (x : ℕ) → file_entry t x ≡ None → 47 ∷ [] ≡ path_of (tree_store t n) (file_node x)
unfolding path_of node_names file_node spell_path
no_file_path t n x is = ap (λ o. spell_path (unwrap_or (option_map (file_names (tree_store t n)) o) [])) (sym (file_named t n x ∙ ap (option_map (named_file n)) is))

-- the path as it is built: of a file in a folder, and of one that doesn't stand
pub file_there : (t : Store) (n : Titles) (x : ℕ) (folder : FolderId) (first second third fourth : List ℕ) → Some folder ≡ folder_id_of (file_entry t x) → first ≡ [] →
    second ≡ first ++ joined (folder_names (tree_store t n) folder.0) → third ≡ second ++ 47 ∷ [] → fourth ≡ third ++ name_in (title_at n.files x) → fourth ≡ path_of (tree_store t n) (file_node x)
file_there t n x folder first second third fourth is e1 e2 e3 e4 =
    let w = entry_of (file_entry t x) is in
    file_built (folder_names (tree_store t n) folder.0) (name_in (title_at n.files x)) first second third fourth e1 e2 e3 e4
    ∙ ap (λ k. spell_path (folder_names (tree_store t n) k ++ name_in (title_at n.files x) ∷ [])) w.2
    ∙ file_path_told t n x w.0 w.1
  where
    entry_of : (o : Option FileEntry) → Some folder ≡ folder_id_of o → (e : FileEntry) × (o ≡ Some e) × (folder.0 ≡ e.folder)
    entry_of None q = absurd cc
    entry_of (Some e) q = let same : folder ≡ (let y : FolderId = record { 0 = e.folder } in y) = cc in (e, refl, ap (λ (y : FolderId). y.0) same)

pub file_not_there : (t : Store) (n : Titles) (x : ℕ) (first second : List ℕ) → None ≡ folder_id_of (file_entry t x) → first ≡ [] → second ≡ first ++ 47 ∷ [] → second ≡ path_of (tree_store t n) (file_node x)
file_not_there t n x first second is e1 e2 = e2 ∙ ap (λ l. l ++ 47 ∷ []) e1 ∙ no_file_path t n x (none_of (file_entry t x) is)
  where
    none_of : (o : Option FileEntry) → None ≡ folder_id_of o → o ≡ None
    none_of None q = refl
    none_of (Some e) q = absurd cc

pub folder_node_told : (f : FolderId) → file_of f.0 ≡ None → folder_node f.0 ≡ granted_node f.0
unfolding granted_node node_by
folder_node_told f none = ap (node_by f.0) (sym none)

pub file_node_told : (f x : ℕ) → file_of f ≡ Some x → file_node x ≡ granted_node f
unfolding granted_node node_by
file_node_told f x is = ap (node_by f) (sym is)

-- ---- numbers

abbrev pub number : FolderId → ℕ
number x = x.0

numbers_of : (pairs : List GrantEntry) (h : ℕ) → map number (folders_of pairs h) ≡ map (λ (g : GrantEntry). g.folder) (filter (λ (g : GrantEntry). g.holder == h) pairs)
numbers_of pairs h = map_map GrantEntry FolderId ℕ number (λ (g : GrantEntry). let x : FolderId = record { 0 = g.folder } in x) (filter (λ (g : GrantEntry). g.holder == h) pairs)

-- the same grants in whatever order have the same numbers
numbers_go : (pairs grants : List GrantEntry) (h k : ℕ) → ((e : GrantEntry) → In e pairs → In e grants) →
    In k (map (λ (g : GrantEntry). g.folder) (filter (λ (g : GrantEntry). g.holder == h) pairs)) → In k (map (λ (g : GrantEntry). g.folder) (filter (λ (g : GrantEntry). g.holder == h) grants))
numbers_go pairs grants h k go i =
    let w = (In-map GrantEntry ℕ (λ (g : GrantEntry). g.folder) k (filter (λ (g : GrantEntry). g.holder == h) pairs)).0 i in
    let told = In-filter GrantEntry (λ (g : GrantEntry). g.holder == h) w.0 pairs w.1 in
    (In-map GrantEntry ℕ (λ (g : GrantEntry). g.folder) k (filter (λ (g : GrantEntry). g.holder == h) grants)).1
    (w.0, filter-In GrantEntry (λ (g : GrantEntry). g.holder == h) w.0 grants (go w.0 told.0) told.1, w.2)

-- what the owner lists ascends, and is the store's grants by number
pub numbers_told : (checks : List (List ℕ)) (pairs : List GrantEntry) (s : Store) (h : ℕ) → AreGrantsOf checks pairs s → AllPairs (λ (a b : FolderId). a.0 < b.0) (folders_of pairs h) →
    map number (folders_of pairs h) ≡ ascending (granted_to s h)
unfolding granted_to
numbers_told checks pairs s h are up =
    sorted (map number (folders_of pairs h)) (granted_to s h)
    (rising_rises (map number (folders_of pairs h)) (AllPairs-map FolderId ℕ (λ (a b : FolderId). a.0 < b.0) (λ (a b : ℕ). a < b) (λ _. Unit {0}) number (λ a b _ _ lt. lt) (folders_of pairs h)
    (in-All FolderId (λ _. Unit {0}) (folders_of pairs h) (λ x i. tt)) up))
    (λ k. (
      λ i. numbers_go pairs s.grants h k (λ e. (are.granted e).0) (subst (In k) (numbers_of pairs h) i),
      λ i. subst (In k) (sym (numbers_of pairs h)) (numbers_go s.grants pairs h k (λ e. (are.granted e).1) i),
    ))

-- ---- the commands

made : (checks : List (List ℕ)) (pairs : List GrantEntry) (s : Store) (h : ℕ) → AreGrantsOf checks pairs s → IsHolder checks h → (e : HolderEntry) × (holder_entry s h ≡ Some e)
made checks pairs s h are is = some (holder_entry s h) (holder_told checks pairs s are h ∙ ap not (and_from _ _ (le-leb 1 h is.0) (le-leb h (length checks) is.1)))
  where
    some : (o : Option HolderEntry) → is_none o ≡ false → (e : HolderEntry) × (o ≡ Some e)
    some None t = absurd cc
    some (Some e) t = (e, refl)

not_made : (checks : List (List ℕ)) (pairs : List GrantEntry) (s : Store) (h : ℕ) → AreGrantsOf checks pairs s → ¬ IsHolder checks h → holder_entry s h ≡ None
not_made checks pairs s h are not_is = none (holder_entry s h) (holder_told checks pairs s are h)
  where
    none : (o : Option HolderEntry) → is_none o ≡ not (is_holder checks h) → o ≡ None
    none None t = refl
    none (Some e) t = absurd (not_is (grind (arith, nat_tests)))

pub replaces_told : (t : Store) (names : Titles) (g : Granted) (s : Store) (h : ℕ) → IsHolder g.checks h → AllPairs (λ (a b : FolderId). a.0 < b.0) (folders_of g.pairs h) → IsStoreOf t names g s →
    replacement (length g.checks + 1) h (map (λ (x : FolderId). path_of (tree_store t names) (granted_node x.0)) (folders_of g.pairs h)) ≡ stands_for s h
unfolding stands_for stands_for_entry granted_paths
replaces_told t names g s h holder up is =
    let e = made g.checks g.pairs s h is.grants holder in
    let paths : map (λ (x : FolderId). path_of (tree_store t names) (granted_node x.0)) (folders_of g.pairs h) ≡ granted_paths s h =
    map_alike FolderId (List ℕ) (λ x. path_of (tree_store t names) (granted_node x.0)) (λ x. path_of s (granted_node x.0)) (λ x. path_same (tree_store t names) s (granted_node x.0) is.tree) (folders_of g.pairs h)
    ∙ sym (map_map FolderId ℕ (List ℕ) (λ (k : ℕ). path_of s (granted_node k)) number (folders_of g.pairs h))
    ∙ ap (map (λ (k : ℕ). path_of s (granted_node k))) (numbers_told g.checks g.pairs s h is.grants up)
    in
    (λ i. replacement (sym is.grants.made i + 1) h (paths i)) ∙ ap (stands_for_entry s h) (sym e.1)

pub refused_told : (t : Store) (names : Titles) (g : Granted) (s : Store) (h : ℕ) → ¬ IsHolder g.checks h → IsStoreOf t names g s → Revoke h (codes "/") ∷ [] ≡ stands_for s h
unfolding stands_for stands_for_entry
refused_told t names g s h nobody is = ap (stands_for_entry s h) (sym (not_made g.checks g.pairs s h is.grants nobody))

-- as the commands are put together
pub built : (new old : ℕ) (path : FolderId → List ℕ) (first second third fourth : List Command) (ks given taken : List FolderId) → first ≡ [] → second ≡ first ++ command.AddHolder ∷ [] →
    map request_of third ≡ map request_of second ++ map (λ (x : FolderId). Grant new (path x)) given → map request_of fourth ≡ map request_of third ++ map (λ (x : FolderId). Revoke old (path x)) taken →
    given ≡ ks → taken ≡ ks → map request_of fourth ≡ replacement new old (map path ks)
unfolding replacement
built new old path first second third fourth ks given taken e1 e2 e3 e4 same other =
    let two : map request_of second ≡ AddHolder ∷ [] = ap (map request_of) (e2 ∙ ap (λ (l : List Command). l ++ command.AddHolder ∷ []) e1) in
    let three : map request_of third ≡ AddHolder ∷ map (Grant new) (map path ks) =
    e3 ∙ (λ i. two i ++ map (λ (x : FolderId). Grant new (path x)) (same i)) ∙ ap (λ (l : List Request). AddHolder ∷ l) (sym (map_map FolderId (List ℕ) Request (Grant new) path ks)) in
    e4 ∙ (λ i. three i ++ map (λ (x : FolderId). Revoke old (path x)) (other i))
    ∙ ap (λ (l : List Request). AddHolder ∷ (map (Grant new) (map path ks) ++ l)) (sym (map_map FolderId (List ℕ) Request (Revoke old) path ks))

pub file_is : (f : ℕ) (x : FileId) → Some x ≡ option_map as_file (file_of f) → file_of f ≡ Some x.0
file_is f x is = by_number (file_of f) is
  where
    by_number : (o : Option ℕ) → Some x ≡ option_map as_file o → o ≡ Some x.0
    by_number None q = absurd cc
    by_number (Some y) q = let same : x ≡ (let z : FileId = record { 0 = y } in z) = cc in ap (λ (k : ℕ). Some k) (sym (ap (λ (z : FileId). z.0) same))

pub no_file : (f : ℕ) → None ≡ option_map as_file (file_of f) → file_of f ≡ None
no_file f is = by_number (file_of f) is
  where
    by_number : (o : Option ℕ) → None ≡ option_map as_file o → o ≡ None
    by_number None q = refl
    by_number (Some y) q = absurd cc
