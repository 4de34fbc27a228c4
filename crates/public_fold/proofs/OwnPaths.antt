-- Two nodes of a tree with one path are one, and no path has more than 64 names.
use Rattle.std.proofs.Common.{◌≡◌, ℕ, zero, suc, ◌≤◌, List, [], ◌∷◌, ◌++◌, length, Some, sym, ap, ◌∙◌, subst, arith}
use Rattle.cry_base.specs.Sets.{In}
use Rattle.cry_base.specs.Naming.{names_of}
use Rattle.cry_base.specs.Store.{Store, FolderEntry, FileEntry, way_to_root, folder_names, file_names, node_names, path_of, depth_of, node_at, nodes_of, folder_node, file_node}
use Rattle.cry_base.specs.declared.roles.Node.{Node}
use Rattle.cry_base.specs.declared.roles.Node.TheVariants.{Folder, File}
use Rattle.cry_base.proofs.Finding.{node_found, node_finds}
use Rattle.cry_base.proofs.Paths.{names_told}
use Rattle.public_fold.specs.Journal.{Journal, store_of}
use Rattle.public_fold.specs.Tree.{AtLevel, HaveOwnNames, LeadsUp}
use Rattle.public_fold.specs.Valid.{IsValid}
use Rattle.public_fold.proofs.Levels.{way_leads}
use Rattle.public_fold.proofs.Treeing.{Stands, node_stands, node_is_named, same_end, same_folder, root_names, next_names, names_length, file_length, file_node_names}
use Rattle.public_fold.proofs.Keeping.{HasTree, journal_tree, folder_depth, file_depth}

-- the names down to a node are those of its path
path_names : (s : Store) (node : Node) → HasTree s → In node (nodes_of s) → names_of (path_of s node) ≡ node_names s node
unfolding path_of
path_names s node ok i = names_told (node_names s node) (node_is_named s node ok (node_stands s node i))

-- no folder has the names of a file
folder_no_file : (n : ℕ) (s : Store) (f : ℕ) (x : FileEntry) → HasTree s → AtLevel n s.folders f → In x s.files → folder_names s f ≡ file_names s x → ⊥
unfolding file_names
folder_no_file zero s f x ok l j e =
    let none : [] ≡ folder_names s x.folder ++ x.name ∷ [] = sym (root_names s f ok.numbered l) ∙ e in
    let w = ok.file_level x j in
    let long : length (folder_names s x.folder ++ x.name ∷ []) ≡ suc w.0 = file_length s x w.0 ok w.1 in
    let short : length (folder_names s x.folder ++ x.name ∷ []) ≡ 0 = sym (ap length none) in absurd (omega arith)
folder_no_file (suc n) s f x ok l j e =
    let ends = same_end (List ℕ) (folder_names s l.0.parent) (folder_names s x.folder) l.0.name x.name (sym (next_names n s f ok.numbered l) ∙ e) in
    let w = ok.file_level x j in
    let up : length (folder_names s l.0.parent) ≡ n = names_length n s l.0.parent ok.numbered l.4 in
    let on : length (folder_names s x.folder) ≡ w.0 = names_length w.0 s x.folder ok.numbered w.1 in
    let level : w.0 ≡ n = sym on ∙ sym (ap length ends.0) ∙ up in
    ok.folder_and_file l.0 x l.1 j (same_folder n s l.0.parent x.folder ok l.4 (subst (λ k. AtLevel k s.folders x.folder) level w.1) ends.0) ends.1

two_folders : (s : Store) (f g : ℕ) (a b : FolderEntry) → HasTree s → In a s.folders → a.id ≡ f → In b s.folders → b.id ≡ g → folder_names s f ≡ folder_names s g → f ≡ g
two_folders s f g a b ok i p j q e =
    let u = ok.folder_level a i in let v = ok.folder_level b j in
    let at : AtLevel u.0 s.folders f = subst (AtLevel u.0 s.folders) p u.1 in
    let on : AtLevel v.0 s.folders g = subst (AtLevel v.0 s.folders) q v.1 in
    let level : v.0 ≡ u.0 = sym (names_length v.0 s g ok.numbered on) ∙ sym (ap length e) ∙ names_length u.0 s f ok.numbered at in
    same_folder u.0 s f g ok at (subst (λ k. AtLevel k s.folders g) level on) e

two_files : (s : Store) (a b : FileEntry) → HasTree s → In a s.files → In b s.files → file_names s a ≡ file_names s b → a.id ≡ b.id
unfolding file_names
two_files s a b ok i j e =
    let ends = same_end (List ℕ) (folder_names s a.folder) (folder_names s b.folder) a.name b.name e in
    let u = ok.file_level a i in let v = ok.file_level b j in
    let level : v.0 ≡ u.0 = sym (names_length v.0 s b.folder ok.numbered v.1) ∙ sym (ap length ends.0) ∙ names_length u.0 s a.folder ok.numbered u.1 in
    ok.two_files a b i j (same_folder u.0 s a.folder b.folder ok u.1 (subst (λ k. AtLevel k s.folders b.folder) level v.1) ends.0) ends.1

same_node : (s : Store) (a b : Node) → HasTree s → Stands s a → Stands s b → node_names s a ≡ node_names s b → a ≡ b
unfolding node_names folder_node file_node
same_node s (Folder f) (Folder g) ok u v e = ap folder_node (two_folders s f.0 g.0 u.0 v.0 ok u.1 u.2 v.1 v.2 e)
same_node s (Folder f) (File x) ok u v e =
    let l = ok.folder_level u.0 u.1 in
    absurd (folder_no_file l.0 s f.0 v.0 ok (subst (AtLevel l.0 s.folders) u.2 l.1) v.1 (e ∙ file_node_names s v.0 x.0 ok v.1 v.2))
same_node s (File x) (Folder f) ok u v e =
    let l = ok.folder_level v.0 v.1 in
    absurd (folder_no_file l.0 s f.0 u.0 ok (subst (AtLevel l.0 s.folders) v.2 l.1) u.1 (sym e ∙ file_node_names s u.0 x.0 ok u.1 u.2))
same_node s (File x) (File y) ok u v e =
    ap file_node (sym u.2 ∙ two_files s u.0 v.0 ok u.1 v.1 (sym (file_node_names s u.0 x.0 ok u.1 u.2) ∙ e ∙ file_node_names s v.0 y.0 ok v.1 v.2) ∙ v.2)

own_path : (s : Store) (a b : Node) → HasTree s → In a (nodes_of s) → In b (nodes_of s) → path_of s a ≡ path_of s b → a ≡ b
own_path s a b ok i j e = same_node s a b ok (node_stands s a i) (node_stands s b j) (sym (path_names s a ok i) ∙ ap names_of e ∙ path_names s b ok j)

depth_low : (s : Store) (node : Node) → HasTree s → Stands s node → depth_of s node ≤ 64
unfolding folder_node file_node
depth_low s (Folder f) ok w =
    let l = ok.folder_level w.0 w.1 in
    let low : l.0 ≤ 64 = l.2 in
    let depth : depth_of s (Folder f) ≡ l.0 = folder_depth s f.0 l.0 ok.numbered (subst (AtLevel l.0 s.folders) w.2 l.1) in omega arith
depth_low s (File x) ok w =
    let l = ok.file_level w.0 w.1 in
    let low : suc l.0 ≤ 64 = l.2 in
    let depth : depth_of s (File x) ≡ suc l.0 = ap (λ n. depth_of s (file_node n)) (sym w.2) ∙ file_depth s w.0 l.0 ok w.1 l.1 in omega arith

pub depth_bound : (m : Journal) → IsValid m → (node : Node) → In node (nodes_of (store_of m)) → depth_of (store_of m) node ≤ 64
depth_bound m v node i = depth_low (store_of m) node (journal_tree m v) (node_stands (store_of m) node i)

pub depth_names : (m : Journal) → IsValid m → (node : Node) → In node (nodes_of (store_of m)) → depth_of (store_of m) node ≡ length (names_of (path_of (store_of m) node))
unfolding depth_of
depth_names m v node i = sym (ap length (path_names (store_of m) node (journal_tree m v) i))

pub folder_leads : (m : Journal) → IsValid m → (e : FolderEntry) → In e (store_of m).folders → LeadsUp (way_to_root (store_of m) e.id) e.id
unfolding way_to_root
folder_leads m v e i = let ok = journal_tree m v in let l = ok.folder_level e i in way_leads l.0 (store_of m).folders e.id ok.numbered l.1

pub file_leads : (m : Journal) → IsValid m → (x : FileEntry) → In x (store_of m).files → LeadsUp (way_to_root (store_of m) x.folder) x.folder
unfolding way_to_root
file_leads m v x i = let ok = journal_tree m v in let l = ok.file_level x i in way_leads l.0 (store_of m).folders x.folder ok.numbered l.1

pub names_differ : (m : Journal) → IsValid m → HaveOwnNames (store_of m)
names_differ m v =
    let ok = journal_tree m v in record {
      two_folders = λ a b i j p n. ok.numbered.own a b i j (ok.two_folders a b i j p n);
      two_files = λ a b i j p n. ok.own_file a b i j (ok.two_files a b i j p n);
      folder_and_file = ok.folder_and_file;
      folder_name = ok.folder_name;
      file_name = ok.file_name;
    }

pub paths_differ : (m : Journal) → IsValid m → (a b : Node) → In a (nodes_of (store_of m)) → In b (nodes_of (store_of m)) → path_of (store_of m) a ≡ path_of (store_of m) b → a ≡ b
paths_differ m v a b i j e = own_path (store_of m) a b (journal_tree m v) i j e

pub path_finds : (m : Journal) → IsValid m → (node : Node) → In node (nodes_of (store_of m)) → node_at (store_of m) (path_of (store_of m) node) ≡ Some node
path_finds m v node i =
    let told = node_finds (store_of m) node i in
    let back = node_found (store_of m) (path_of (store_of m) node) told.0 told.1 in
    told.1 ∙ ap (λ n. Some n) (own_path (store_of m) told.0 node (journal_tree m v) back.0 i back.1)
