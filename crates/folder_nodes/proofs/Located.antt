-- What has a path is found among those that have its last name.
use Rattle.std.proofs.Common.{◌≡◌, ◌≢◌, ℕ, ◌≤◌, Bool, true, false, cond, ◌==◌, List, [], ◌∷◌, ◌++◌, map, find, Option, Some, None, refl, sym, ap, ◌∙◌, subst, arith}
use Rattle.std.specs.Prelude.{bytes_eq, is_some, IsSome, codes}
use Rattle.std.specs.Option.{option_map}
use Rattle.std.proofs.lemmas.Bool.{eqb-true, eq-eqb, false≢true, and_parts}
use Rattle.cry_base.specs.Naming.{is_name, is_path, is_root_path, names_of, last_name, front, spell_path}
use Rattle.cry_base.specs.Refusing.{name_of}
use Rattle.cry_base.specs.Sets.{In}
use Rattle.cry_base.specs.Store.{Store, FolderEntry, FileEntry, folder_entry, file_entry, folder_node, file_node, folder_names, node_names, nodes_of, node_at, path_of}
use Rattle.cry_base.specs.declared.roles.Node.{Node}
use Rattle.cry_base.specs.declared.roles.Node.TheVariants.{Folder, File}
use Rattle.cry_base.proofs.Finding.{node_found, found-find, find-found}
use Rattle.cry_base.proofs.Members.{In-map}
use Rattle.sorted_table.specs.Rows.{IsRising}
use Rattle.folder_nodes.specs.Spelling.{joined, leads_to_folder, leads_to_file, root_in, as_file}
use Rattle.folder_nodes.specs.Titles.{Titles, Title, MayBeNamed, title_at, name_in, tree_store}
use Rattle.folder_nodes.specs.Trees.{IsTree}
use Rattle.folder_nodes.specs.declared.spots.Spot.{Spot}
use Rattle.folder_nodes.proofs.Added.{parent_cases, stands_made}
use Rattle.folder_nodes.proofs.Ascending.{All-in, same_first, least, map_rising}
use Rattle.folder_nodes.proofs.Checked.{found_stands}
use Rattle.folder_nodes.proofs.Downward.{names_root, folders_found, bytes_told, told_bytes, found_in, entry_id, entry_in, file_id, tree_named}
use Rattle.folder_nodes.proofs.Leading.{entry_named, file_entry_named, names_here, file_names_here, leads_told, leads_file_told, file_stands}
use Rattle.folder_nodes.proofs.Lookups.{find-map, find-append, find-front}
use Rattle.folder_nodes.proofs.Moved.{files_found}
use Rattle.folder_nodes.proofs.Named.{named_folder, named_file, file_named, folder_named_stands, nodes_named}
use Rattle.folder_nodes.proofs.Placed.{name_told}
use Rattle.folder_nodes.proofs.Rowed.{some_of}
use Rattle.folder_nodes.proofs.Slashes.{free, name_free, may_free, name_some, joined_nothing, joined_push, spelled_joined, spelled_root, same_last, path_parts}

-- all titles have names, or the root's
abbrev pub AreNames : List Title → Type 0
AreNames titles = (t : Title) → In t titles → MayBeNamed t.name

-- all titles with the name are among those with the numbers
abbrev pub HasAll : List Title → List ℕ → List ℕ → Type 0
HasAll titles name ids = (t : Title) → In t titles → t.name ≡ name → In t.id ids

-- all numbers that pass are among these
abbrev pub HasPassing : (ℕ → Bool) → List ℕ → Type 0
HasPassing test ids = (k : ℕ) → test k ≡ true → In k ids

-- a title's name has no slash
pub title_free : (titles : List Title) → AreNames titles → (k : ℕ) → free (name_in (title_at titles k)) ≡ true
title_free titles names k =
    (elim (title_at titles k) as (λ o. title_at titles k ≡ o → free (name_in o) ≡ true) [
      | None ↦ λ e. refl
      | Some t ↦ λ e. let there = found_in Title (λ t. t.id == k) titles t e in may_free t.name (names t there.0)
    ]) refl

-- a title with a name that isn't empty is among those with the name
pub title_listed : (titles : List Title) (name : List ℕ) (ids : List ℕ) → HasAll titles name ids → is_name name ≡ true → (k : ℕ) → name_in (title_at titles k) ≡ name → In k ids
title_listed titles name ids all is k same =
    (elim (title_at titles k) as (λ o. title_at titles k ≡ o → name_in o ≡ name → In k ids) [
      | None ↦ λ e none. absurd (name_some name is (sym none))
      | Some t ↦ λ e own. let there = found_in Title (λ t. t.id == k) titles t e in subst (λ z. In z ids) (eqb-true t.id k there.1) (all t there.0 own)
    ]) refl same

-- each entry is found by its number
pub entry_there : (s : Store) → IsTree s → (e : FolderEntry) → In e s.folders → folder_entry s e.id ≡ Some e
unfolding folder_entry
entry_there s tree e i = All-in FolderEntry (λ e. find (λ z. z.id == e.id) s.folders ≡ Some e) s.folders e (folders_found s.folders tree.folders_ascend) i

pub file_there : (s : Store) → IsTree s → (e : FileEntry) → In e s.files → file_entry s e.id ≡ Some e
unfolding file_entry
file_there s tree e i = All-in FileEntry (λ e. find (λ z. z.id == e.id) s.files ≡ Some e) s.files e (files_found s.files tree.files_ascend) i

pub file_in : (s : Store) (x : ℕ) (e : FileEntry) → file_entry s x ≡ Some e → In e s.files
unfolding file_entry
file_in s x e p = (found_in FileEntry (λ z. z.id == x) s.files e p).0

file_named_stands : (s : Store) (n : Titles) (x : ℕ) → is_some (file_entry (tree_store s n) x) ≡ is_some (file_entry s x)
file_named_stands s n x = ap (λ (o : Option FileEntry). is_some o) (file_named s n x) ∙ some_map (file_entry s x)
  where
    some_map : (o : Option FileEntry) → is_some (option_map (named_file n) o) ≡ is_some o
    some_map None = refl
    some_map (Some e) = refl

-- what a search finds among nodes, by numbers
nodes_by : (X : Type 0) (id : X → ℕ) (as_node : ℕ → Node) (test : Node → Bool) (xs : List X) → find test (map (λ x. as_node (id x)) xs) ≡ option_map as_node (find (λ k. test (as_node k)) (map id xs))
nodes_by X id as_node test xs =
    find-map X Node (λ x. as_node (id x)) test xs
    ∙ sym (ap (option_map as_node) (find-map X ℕ id (λ k. test (as_node k)) xs) ∙ map_map (find (λ x. test (as_node (id x))) xs))
  where
    map_map : (o : Option X) → option_map as_node (option_map id o) ≡ option_map (λ x. as_node (id x)) o
    map_map None = refl
    map_map (Some x) = refl

module _ (s : Store) (n : Titles) (tree : IsTree s) (path : List ℕ) (form : is_path path ≡ true) (other : is_root_path path ≡ false) where
  abbrev last : List ℕ
  last = last_name (names_of path)

  -- names that are joined to the path are not none
  some_names : (names : List (List ℕ)) → joined names ≡ path → names ≢ []
  unfolding is_path
  some_names names e none =
      let nothing : path ≡ [] = sym e ∙ ap joined none ∙ joined_nothing in
      absurd (false≢true (sym (ap is_path nothing) ∙ form))

  -- a path is what its names are joined to, in either way of spelling
  spelled_as : (names : List (List ℕ)) → spell_path names ≡ path → joined names ≡ path
  unfolding is_root_path spell_path
  spelled_as [] e = absurd (false≢true (sym other ∙ ap is_root_path (sym e)))
  spelled_as (x ∷ xs) e = sym (spelled_joined (x ∷ xs) (λ none. absurd (cc))) ∙ e

  joined_as : (names : List (List ℕ)) → joined names ≡ path → spell_path names ≡ path
  joined_as names e = spelled_joined names (some_names names e) ∙ e

  -- the last of the names that are joined to the path is the path's
  last_is : (names : List (List ℕ)) (own : List ℕ) → free own ≡ true → joined (names ++ own ∷ []) ≡ path → own ≡ last
  last_is names own clear e =
      let parts = path_parts path form other in
      same_last (joined names) own (joined (front (names_of path))) last clear (name_free last parts.1) (sym (joined_push names own) ∙ e ∙ parts.0)

  -- what has the path has its last name
  folder_own : AreNames n.folders → (k : ℕ) (e : FolderEntry) → folder_entry s k ≡ Some e → joined (folder_names (tree_store s n) k) ≡ path → name_in (title_at n.folders k) ≡ last
  folder_own names k e p spelled =
      let t = tree_store s n in
      let cases = parent_cases s tree k e p in
      (elim (k == 1) as (λ b. k == 1 ≡ b → name_in (title_at n.folders k) ≡ last) [
        | true ↦ λ u.
            let one : k ≡ 1 = eqb-true k 1 u in
            let root : folder_entry t 1 ≡ Some (named_folder n e) = ap (folder_entry t) (sym one) ∙ entry_named s n k e p in
            let none : folder_names t k ≡ [] = ap (folder_names t) one ∙ names_root t (tree_named s n tree) (named_folder n e) root in
            absurd (some_names (folder_names t k) spelled none)
        | false ↦ λ u.
            let up = cases.1 (λ one. false≢true (sym u ∙ eq-eqb k 1 one)) in
            last_is (folder_names t e.parent) (name_in (title_at n.folders k)) (title_free n.folders names k) (ap joined (sym (names_here s n tree k e up.0 p up.1)) ∙ spelled)
      ]) refl

  file_own : AreNames n.files → (x : ℕ) (e : FileEntry) → file_entry s x ≡ Some e → joined (node_names (tree_store s n) (file_node x)) ≡ path → name_in (title_at n.files x) ≡ last
  file_own names x e p spelled =
      last_is (folder_names (tree_store s n) e.folder) (name_in (title_at n.files x)) (title_free n.files names x) (ap joined (sym (file_names_here s n x e p)) ∙ spelled)

  -- the first folder, and the first file, that has the path
  folder_first : (ids : List ℕ) → IsRising (λ k. k) ids → HasPassing (λ k. leads_to_folder (tree_store s n) k path) ids → find (λ k. bytes_eq (path_of (tree_store s n) (folder_node k)) path) (map (λ (e : FolderEntry). e.id) s.folders) ≡ find (λ k. leads_to_folder (tree_store s n) k path) ids
  unfolding path_of node_names folder_node leads_to_folder
  folder_first ids rising all =
      let t = tree_store s n in
      same_first (λ k. bytes_eq (path_of t (folder_node k)) path) (λ k. leads_to_folder t k path) (map (λ (e : FolderEntry). e.id) s.folders) ids
      (map_rising FolderEntry (λ e. e.id) s.folders tree.folders_ascend) rising
      (λ k i pass.
      let w = (In-map FolderEntry ℕ (λ e. e.id) k s.folders).0 i in
      let p : folder_entry s k ≡ Some w.0 = ap (folder_entry s) w.2 ∙ entry_there s tree w.0 w.1 in
      let spelled : joined (folder_names t k) ≡ path = spelled_as (folder_names t k) (bytes_told (spell_path (folder_names t k)) path pass) in
      let leads : leads_to_folder t k path ≡ true = leads_told t k (named_folder n w.0) path (entry_named s n k w.0 p) ∙ told_bytes (joined (folder_names t k)) path spelled in
      (all k leads, leads))
      (λ k i pass.
      let both = and_parts (is_some (folder_entry t k)) (bytes_eq (joined (folder_names t k)) path) pass in
      let w = some_of FolderEntry (folder_entry s k) (sym (folder_named_stands s n k) ∙ both.0) in
      ((In-map FolderEntry ℕ (λ e. e.id) k s.folders).1 (w.0, entry_in s k w.0 w.1, sym (entry_id s k w.0 w.1)), told_bytes (spell_path (folder_names t k)) path (joined_as (folder_names t k) (bytes_told (joined (folder_names t k)) path both.1))))

  file_first : (ids : List ℕ) → IsRising (λ k. k) ids → HasPassing (λ k. leads_to_file (tree_store s n) k path) ids → find (λ k. bytes_eq (path_of (tree_store s n) (file_node k)) path) (map (λ (e : FileEntry). e.id) s.files) ≡ find (λ k. leads_to_file (tree_store s n) k path) ids
  unfolding path_of leads_to_file
  file_first ids rising all =
      let t = tree_store s n in
      same_first (λ k. bytes_eq (path_of t (file_node k)) path) (λ k. leads_to_file t k path) (map (λ (e : FileEntry). e.id) s.files) ids
      (map_rising FileEntry (λ e. e.id) s.files tree.files_ascend) rising
      (λ k i pass.
      let w = (In-map FileEntry ℕ (λ e. e.id) k s.files).0 i in
      let p : file_entry s k ≡ Some w.0 = ap (file_entry s) w.2 ∙ file_there s tree w.0 w.1 in
      let spelled : joined (node_names t (file_node k)) ≡ path = spelled_as (node_names t (file_node k)) (bytes_told (spell_path (node_names t (file_node k))) path pass) in
      let leads : leads_to_file t k path ≡ true = leads_file_told t k (named_file n w.0) path (file_entry_named s n k w.0 p) ∙ told_bytes (joined (node_names t (file_node k))) path spelled in
      (all k leads, leads))
      (λ k i pass.
      let both = and_parts (is_some (file_entry t k)) (bytes_eq (joined (node_names t (file_node k))) path) pass in
      let w = some_of FileEntry (file_entry s k) (sym (file_named_stands s n k) ∙ both.0) in
      ((In-map FileEntry ℕ (λ e. e.id) k s.files).1 (w.0, file_in s k w.0 w.1, sym (file_id s k w.0 w.1)), told_bytes (spell_path (node_names t (file_node k))) path (joined_as (node_names t (file_node k)) (bytes_told (joined (node_names t (file_node k))) path both.1))))

  -- all with the path's last name are all that have the path, and more
  pub folder_led : AreNames n.folders → (ids : List ℕ) → HasAll n.folders (last_name (names_of path)) ids → HasPassing (λ k. leads_to_folder (tree_store s n) k path) ids
  unfolding leads_to_folder
  folder_led names ids all k leads =
      let t = tree_store s n in
      let both = and_parts (is_some (folder_entry t k)) (bytes_eq (joined (folder_names t k)) path) leads in
      let w = some_of FolderEntry (folder_entry s k) (sym (folder_named_stands s n k) ∙ both.0) in
      title_listed n.folders last ids all (path_parts path form other).1 k (folder_own names k w.0 w.1 (bytes_told (joined (folder_names t k)) path both.1))

  pub file_led : AreNames n.files → (ids : List ℕ) → HasAll n.files (last_name (names_of path)) ids → HasPassing (λ k. leads_to_file (tree_store s n) k path) ids
  unfolding leads_to_file
  file_led names ids all k leads =
      let t = tree_store s n in
      let both = and_parts (is_some (file_entry t k)) (bytes_eq (joined (node_names t (file_node k))) path) leads in
      let w = some_of FileEntry (file_entry s k) (sym (file_named_stands s n k) ∙ both.0) in
      title_listed n.files last ids all (path_parts path form other).1 k (file_own names k w.0 w.1 (bytes_told (joined (node_names t (file_node k))) path both.1))

  -- among nodes
  pub folder_located : (spots : List Spot) → IsRising (λ q. q.id) spots → HasPassing (λ k. leads_to_folder (tree_store s n) k path) (map (λ (q : Spot). q.id) spots) → find (λ node. bytes_eq (path_of (tree_store s n) node) path) (map (λ (e : FolderEntry). folder_node e.id) s.folders) ≡ option_map folder_node (option_map (λ (q : Spot). q.id) (find (λ q. leads_to_folder (tree_store s n) q.id path) spots))
  folder_located spots rising all =
      let t = tree_store s n in
      let test : Node → Bool = λ node. bytes_eq (path_of t node) path in
      nodes_by FolderEntry (λ e. e.id) folder_node test s.folders
      ∙ ap (option_map folder_node) (folder_first (map (λ (q : Spot). q.id) spots) (map_rising Spot (λ q. q.id) spots rising) all ∙ find-map Spot ℕ (λ q. q.id) (λ k. leads_to_folder t k path) spots)

  pub file_located : (spots : List Spot) → IsRising (λ q. q.id) spots → HasPassing (λ k. leads_to_file (tree_store s n) k path) (map (λ (q : Spot). q.id) spots) → find (λ node. bytes_eq (path_of (tree_store s n) node) path) (map (λ (e : FileEntry). file_node e.id) s.files) ≡ option_map file_node (option_map (λ (q : Spot). q.id) (find (λ q. leads_to_file (tree_store s n) q.id path) spots))
  file_located spots rising all =
      let t = tree_store s n in
      let test : Node → Bool = λ node. bytes_eq (path_of t node) path in
      nodes_by FileEntry (λ e. e.id) file_node test s.files
      ∙ ap (option_map file_node) (file_first (map (λ (q : Spot). q.id) spots) (map_rising Spot (λ q. q.id) spots rising) all ∙ find-map Spot ℕ (λ q. q.id) (λ k. leads_to_file t k path) spots)

  -- what the code found first is what has the path
  pub folder_told : (spots : List Spot) → IsRising (λ q. q.id) spots → HasPassing (λ k. leads_to_folder (tree_store s n) k path) (map (λ (q : Spot). q.id) spots) → (f : ℕ) → Some f ≡ option_map (λ (q : Spot). q.id) (find (λ q. leads_to_folder (tree_store s n) q.id path) spots) → Some (Folder (record { 0 = f })) ≡ node_at (tree_store s n) path
  unfolding node_at nodes_of folder_node
  folder_told spots rising all f found =
      let test : Node → Bool = λ node. bytes_eq (path_of (tree_store s n) node) path in
      sym (ap (find test) (nodes_named s n)
      ∙ find-front Node test (map (λ (e : FolderEntry). folder_node e.id) s.folders) (map (λ (e : FileEntry). file_node e.id) s.files) (folder_node f) (folder_located spots rising all ∙ ap (option_map folder_node) (sym found)))

  pub file_told : (spots others : List Spot) → IsRising (λ q. q.id) spots → IsRising (λ q. q.id) others → HasPassing (λ k. leads_to_folder (tree_store s n) k path) (map (λ (q : Spot). q.id) spots) → HasPassing (λ k. leads_to_file (tree_store s n) k path) (map (λ (q : Spot). q.id) others) → None ≡ option_map (λ (q : Spot). q.id) (find (λ q. leads_to_folder (tree_store s n) q.id path) spots) → (o : Option ℕ) → o ≡ option_map (λ (q : Spot). q.id) (find (λ q. leads_to_file (tree_store s n) q.id path) others) → option_map as_file o ≡ node_at (tree_store s n) path
  unfolding node_at nodes_of file_node
  file_told spots others rising others_rising all others_all none o found =
      let test : Node → Bool = λ node. bytes_eq (path_of (tree_store s n) node) path in
      sym (ap (find test) (nodes_named s n)
      ∙ find-append Node test (map (λ (e : FolderEntry). folder_node e.id) s.folders) (map (λ (e : FileEntry). file_node e.id) s.files) (folder_located spots rising all ∙ ap (option_map folder_node) (sym none))
      ∙ file_located others others_rising others_all ∙ ap (option_map file_node) (sym found))

  -- the name of what has the path
  pub name_at : AreNames n.folders → AreNames n.files → (node : Node) → node_at (tree_store s n) path ≡ Some node → name_of (tree_store s n) (Some node) ≡ last_name (names_of path)
  unfolding path_of node_names folder_node file_node
  name_at names file_names (Folder f) e =
      let stands = found_stands s n path (Folder f) e in
      let w = some_of FolderEntry (folder_entry s f.0) stands in
      let spelled : spell_path (folder_names (tree_store s n) f.0) ≡ path = (node_found (tree_store s n) path (Folder f) e).1 in
      sym (name_told s n (Folder f) stands) ∙ folder_own names f.0 w.0 w.1 (spelled_as (folder_names (tree_store s n) f.0) spelled)
  name_at names file_names (File x) e =
      let stands = found_stands s n path (File x) e in
      let w = some_of FileEntry (file_entry s x.0) stands in
      let spelled : spell_path (node_names (tree_store s n) (File x)) ≡ path = (node_found (tree_store s n) path (File x) e).1 in
      sym (name_told s n (File x) stands) ∙ file_own file_names x.0 w.0 w.1 (spelled_as (node_names (tree_store s n) (File x)) spelled)

-- and of what is known to be there
pub name_found : (s : Store) (n : Titles) → IsTree s → (path : List ℕ) → is_path path ≡ true → is_root_path path ≡ false → AreNames n.folders → AreNames n.files → IsSome (node_at (tree_store s n) path) → name_of (tree_store s n) (node_at (tree_store s n) path) ≡ last_name (names_of path)
name_found s n tree path form other names file_names some =
    let w = some_of Node (node_at (tree_store s n) path) some in
    ap (name_of (tree_store s n)) w.1 ∙ name_at s n tree path form other names file_names w.0 w.1

-- the root's path
pub root_stands : (s : Store) → IsTree s → (f : ℕ) (e : FolderEntry) → folder_entry s f ≡ Some e → (r : FolderEntry) × (folder_entry s 1 ≡ Some r)
root_stands s tree f e p =
    let made = stands_made s tree f e p in
    let w = tree.root (omega (arith, made.0, made.1)) in
    (w.0, w.1)

nothing_stands : (s : Store) (n : Titles) → IsTree s → folder_entry s 1 ≡ None → (path : List ℕ) (node : Node) → node_at (tree_store s n) path ≡ Some node → ⊥
nothing_stands s n tree none path (Folder f) e =
    let w = some_of FolderEntry (folder_entry s f.0) (found_stands s n path (Folder f) e) in
    let r = root_stands s tree f.0 w.0 w.1 in absurd (cc)
nothing_stands s n tree none path (File x) e =
    let w = some_of FileEntry (file_entry s x.0) (found_stands s n path (File x) e) in
    let q = file_stands s tree x.0 w.0 w.1 in
    let r = root_stands s tree w.0.folder q.0 q.1 in absurd (cc)

root_first : (s : Store) (n : Titles) → IsTree s → (path : List ℕ) → path ≡ 47 ∷ [] → (r : FolderEntry) → folder_entry s 1 ≡ Some r → Some (Folder (record { 0 = 1 })) ≡ node_at (tree_store s n) path
unfolding node_at nodes_of path_of node_names folder_node
root_first s n tree path root r p =
    let t = tree_store s n in
    let test : Node → Bool = λ node. bytes_eq (path_of t node) path in
    let ids : List ℕ = map (λ (e : FolderEntry). e.id) s.folders in
    let names : folder_names t 1 ≡ [] = names_root t (tree_named s n tree) (named_folder n r) (entry_named s n 1 r p) in
    let pass : test (folder_node 1) ≡ true = told_bytes (spell_path (folder_names t 1)) path (ap spell_path names ∙ spelled_root ∙ sym root) in
    let here : In 1 ids = (In-map FolderEntry ℕ (λ e. e.id) 1 s.folders).1 (r, entry_in s 1 r p, sym (entry_id s 1 r p)) in
    let found = found-find ℕ (λ k. test (folder_node k)) 1 ids here pass in
    let there = (In-map FolderEntry ℕ (λ e. e.id) found.0 s.folders).0 (find-found ℕ (λ k. test (folder_node k)) ids found.0 found.1).0 in
    let made = stands_made s tree there.0.id there.0 (entry_there s tree there.0 there.1) in
    let low : found.0 ≤ 1 = least (λ k. test (folder_node k)) ids found.0 1 (map_rising FolderEntry (λ e. e.id) s.folders tree.folders_ascend) found.1 here pass in
    let same : found.0 ≡ 1 = omega (arith, low, made.0, there.2) in
    sym (ap (find test) (nodes_named s n)
    ∙ find-front Node test (map (λ (e : FolderEntry). folder_node e.id) s.folders) (map (λ (e : FileEntry). file_node e.id) s.files) (folder_node 1)
    (nodes_by FolderEntry (λ e. e.id) folder_node test s.folders ∙ ap (option_map folder_node) (found.1 ∙ ap (λ k. Some k) same)))

pub root_told : (s : Store) (n : Titles) → IsTree s → (path : List ℕ) → is_root_path path ≡ true → root_in s ≡ node_at (tree_store s n) path
unfolding is_root_path
root_told s n tree path root =
    let slash : path ≡ 47 ∷ [] = bytes_told path (codes "/") root in
    (elim (folder_entry s 1) as (λ o. folder_entry s 1 ≡ o → cond (is_some o) (Some (Folder (record { 0 = 1 }))) None ≡ node_at (tree_store s n) path) [
      | None ↦ λ p.
          (elim (node_at (tree_store s n) path) as (λ o. node_at (tree_store s n) path ≡ o → None ≡ o) [
            | None ↦ λ e. refl
            | Some node ↦ λ e. absurd (nothing_stands s n tree p path node e)
          ]) refl
      | Some r ↦ λ p. root_first s n tree path slash r p
    ]) refl
