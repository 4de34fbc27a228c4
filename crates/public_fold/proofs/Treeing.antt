-- The tree of folders and files, and the names down to what stands in it.
use Rattle.std.proofs.Common.{◌≡◌, ◌≢◌, ℕ, zero, suc, ◌≤◌, Bool, true, ◌==◌, List, [], ◌∷◌, ◌++◌, map, drop, length, Some, ⊎_elim, refl, sym, ap, ◌∙◌, subst, arith, length-append}
use Rattle.std.specs.Prelude.{option_map, unwrap_or}
use Rattle.std.proofs.lemmas.List.{length-map}
use Rattle.std.specs.List.{list_all}
use Rattle.std.proofs.lemmas.Bool.{eqb-true, eq-eqb, and_parts, and_from}
use Rattle.cry_base.specs.Sets.{In}
use Rattle.cry_base.specs.Naming.{is_name, spell_path, names_of, is_path}
use Rattle.cry_base.specs.Store.{Store, FolderEntry, FileEntry, way_to_root, way_up, backwards, folder_names, file_names, node_names, path_of, node_at, nodes_of, folder_node, file_node, file_entry, folder_entry}
use Rattle.cry_base.specs.declared.roles.Node.{Node}
use Rattle.cry_base.specs.declared.roles.Node.TheVariants.{Folder, File}
use Rattle.cry_base.proofs.Finding.{find-found, found-find, node_found}
use Rattle.cry_base.proofs.Members.{In-append, In-map}
use Rattle.cry_base.proofs.Paths.{names_told, path_told}
use Rattle.public_fold.specs.Tree.{AreNumbered, AtLevel}
use Rattle.public_fold.proofs.Levels.{root_way, next_way, way_length, find_own}

-- what holds of the tree after each command
pub record IsTree (fs : List FolderEntry) (xs : List FileEntry) : Type 0 where
  pub numbered : AreNumbered fs
  pub own_file : (a b : FileEntry) → In a xs → In b xs → a.id ≡ b.id → a ≡ b
  pub root_stands : AtLevel 0 fs 1
  pub folder_level : (e : FolderEntry) → In e fs → (n : ℕ) × AtLevel n fs e.id × (n ≤ 64)
  pub file_level : (x : FileEntry) → In x xs → (n : ℕ) × AtLevel n fs x.folder × (suc n ≤ 64)
  pub two_folders : (a b : FolderEntry) → In a fs → In b fs → a.parent ≡ b.parent → a.name ≡ b.name → a.id ≡ b.id
  pub two_files : (a b : FileEntry) → In a xs → In b xs → a.folder ≡ b.folder → a.name ≡ b.name → a.id ≡ b.id
  pub folder_and_file : (a : FolderEntry) (b : FileEntry) → In a fs → In b xs → a.parent ≡ b.folder → a.name ≡ b.name → ⊥
  pub folder_name : (a : FolderEntry) → In a fs → a.parent ≢ 0 → is_name a.name ≡ true
  pub file_name : (b : FileEntry) → In b xs → is_name b.name ≡ true

drop_on : (X : Type 0) (l m : List X) → 1 ≤ length l → drop 1 (l ++ m) ≡ drop 1 l ++ m
drop_on X [] m h = absurd (omega arith)
drop_on X (x ∷ l) m h = refl

length-backwards : (X : Type 0) (l : List X) → length (backwards l) ≡ length l
unfolding backwards
length-backwards X [] = refl
length-backwards X (x ∷ l) = length-append (backwards l) (x ∷ []) ∙ let h : length (backwards l) ≡ length l = length-backwards X l in omega arith

-- the root has no name in its path; another folder has its parent's names and its own
pub root_names : (s : Store) (f : ℕ) → AreNumbered s.folders → AtLevel 0 s.folders f → folder_names s f ≡ []
unfolding folder_names way_to_root backwards
root_names s f ok l = ap (λ w. drop 1 (backwards (map (λ (e : FolderEntry). e.name) w))) (root_way s.folders f ok l)

pub next_names : (n : ℕ) (s : Store) (f : ℕ) → AreNumbered s.folders → (l : AtLevel (suc n) s.folders f) → folder_names s f ≡ folder_names s l.0.parent ++ l.0.name ∷ []
unfolding folder_names way_to_root backwards
next_names n s f ok l =
    let w : List FolderEntry = way_up (length s.folders) s.folders l.0.parent in
    let names : List (List ℕ) = map (λ (e : FolderEntry). e.name) w in
    let long : length (backwards names) ≡ suc n = length-backwards (List ℕ) names ∙ length-map w (λ (e : FolderEntry). e.name) ∙ way_length n s.folders l.0.parent ok l.4 in
    ap (λ w. drop 1 (backwards (map (λ (e : FolderEntry). e.name) w))) (next_way n s.folders f ok l) ∙ drop_on (List ℕ) (backwards names) (l.0.name ∷ []) (omega arith)

pub names_length : (n : ℕ) (s : Store) (f : ℕ) → AreNumbered s.folders → AtLevel n s.folders f → length (folder_names s f) ≡ n
names_length zero s f ok l = ap length (root_names s f ok l)
names_length (suc n) s f ok l =
    let up : length (folder_names s l.0.parent) ≡ n = names_length n s l.0.parent ok l.4 in
    ap length (next_names n s f ok l) ∙ length-append (folder_names s l.0.parent) (l.0.name ∷ []) ∙ omega arith

pub all-append : (X : Type 0) (p : X → Bool) (xs ys : List X) → list_all p xs ≡ true → list_all p ys ≡ true → list_all p (xs ++ ys) ≡ true
all-append X p [] ys a b = b
all-append X p (x ∷ xs) ys a b =
    let both = and_parts (p x) (list_all p xs) a in and_from (p x) (list_all p (xs ++ ys)) both.0 (all-append X p xs ys both.1 b)

pub folder_is_named : (n : ℕ) (s : Store) (f : ℕ) → IsTree s.folders s.files → AtLevel n s.folders f → list_all is_name (folder_names s f) ≡ true
folder_is_named zero s f ok l = ap (list_all is_name) (root_names s f ok.numbered l)
folder_is_named (suc n) s f ok l =
    ap (list_all is_name) (next_names n s f ok.numbered l)
    ∙ all-append (List ℕ) is_name (folder_names s l.0.parent) (l.0.name ∷ []) (folder_is_named n s l.0.parent ok l.4) (and_from (is_name l.0.name) true (ok.folder_name l.0 l.1 l.3) refl)

pub file_is_named : (s : Store) (x : FileEntry) → IsTree s.folders s.files → In x s.files → list_all is_name (file_names s x) ≡ true
unfolding file_names
file_is_named s x ok i =
    let l = ok.file_level x i in
    all-append (List ℕ) is_name (folder_names s x.folder) (x.name ∷ []) (folder_is_named l.0 s x.folder ok l.1) (and_from (is_name x.name) true (ok.file_name x i) refl)

pub file_length : (s : Store) (x : FileEntry) → (n : ℕ) → IsTree s.folders s.files → AtLevel n s.folders x.folder → length (file_names s x) ≡ suc n
unfolding file_names
file_length s x n ok l =
    let h : length (folder_names s x.folder) ≡ n = names_length n s x.folder ok.numbered l in
    length-append (folder_names s x.folder) (x.name ∷ []) ∙ omega arith

-- a joined end tells both of its parts
pub same_end : (X : Type 0) (xs ys : List X) (x y : X) → xs ++ x ∷ [] ≡ ys ++ y ∷ [] → (xs ≡ ys) × (x ≡ y)
same_end X [] [] x y e = (refl, cc)
same_end X [] (b ∷ []) x y e = absurd cc
same_end X [] (b ∷ c ∷ ys) x y e = absurd cc
same_end X (a ∷ []) [] x y e = absurd cc
same_end X (a ∷ c ∷ xs) [] x y e = absurd cc
same_end X (a ∷ xs) (b ∷ ys) x y e =
    let first : a ≡ b = cc in
    let rest : xs ++ x ∷ [] ≡ ys ++ y ∷ [] = cc in
    let told = same_end X xs ys x y rest in
    let tails : xs ≡ ys = told.0 in (cc, told.1)

-- folders with the same names down to them are one
pub same_folder : (n : ℕ) (s : Store) (f g : ℕ) → IsTree s.folders s.files → AtLevel n s.folders f → AtLevel n s.folders g → folder_names s f ≡ folder_names s g → f ≡ g
same_folder zero s f g ok a b e = sym a.2 ∙ ok.numbered.one_root a.0 a.1 a.3 ∙ sym (ok.numbered.one_root b.0 b.1 b.3) ∙ b.2
same_folder (suc n) s f g ok a b e =
    let ends = same_end (List ℕ) (folder_names s a.0.parent) (folder_names s b.0.parent) a.0.name b.0.name (sym (next_names n s f ok.numbered a) ∙ e ∙ next_names n s g ok.numbered b) in
    sym a.2 ∙ ok.two_folders a.0 b.0 a.1 b.1 (same_folder n s a.0.parent b.0.parent ok a.4 b.4 ends.0) ends.1 ∙ b.2

-- the search for a file by its number finds it
pub file_alone : (s : Store) (x : FileEntry) (n : ℕ) → ((a b : FileEntry) → In a s.files → In b s.files → a.id ≡ b.id → a ≡ b) → In x s.files → x.id ≡ n → file_entry s n ≡ Some x
unfolding file_entry
file_alone s x n own i q =
    let w = found-find FileEntry (λ e. e.id == n) x s.files i (eq-eqb x.id n q) in
    let told = find-found FileEntry (λ e. e.id == n) s.files w.0 w.1 in
    w.1 ∙ ap (λ e. Some e) (own w.0 x told.0 i (eqb-true w.0.id n told.1 ∙ sym q))

pub file_own : (s : Store) (x : FileEntry) (n : ℕ) → IsTree s.folders s.files → In x s.files → x.id ≡ n → file_entry s n ≡ Some x
file_own s x n ok i q = file_alone s x n ok.own_file i q

pub folder_own : (s : Store) (e : FolderEntry) (f : ℕ) → IsTree s.folders s.files → In e s.folders → e.id ≡ f → folder_entry s f ≡ Some e
unfolding folder_entry
folder_own s e f ok i q = find_own s.folders e f ok.numbered i q

-- the names down to a file that stands
pub file_node_names : (s : Store) (x : FileEntry) (n : ℕ) → IsTree s.folders s.files → In x s.files → x.id ≡ n → node_names s (file_node n) ≡ file_names s x
unfolding node_names file_node
file_node_names s x n ok i q = ap (λ o. unwrap_or (option_map (file_names s) o) []) (file_own s x n ok i q)

pub folder_node_names : (s : Store) (f : ℕ) → node_names s (folder_node f) ≡ folder_names s f
unfolding node_names folder_node
folder_node_names s f = refl

-- a node that stands is a folder or a file that does
abbrev pub Stands : Store → Node → Type 0
Stands s (Folder f) = (e : FolderEntry) × In e s.folders × (e.id ≡ f.0)
Stands s (File x) = (e : FileEntry) × In e s.files × (e.id ≡ x.0)

pub node_stands : (s : Store) (node : Node) → In node (nodes_of s) → Stands s node
unfolding nodes_of folder_node file_node
node_stands s node i = ⊎_elim
    (λ a. let w = (In-map FolderEntry Node (λ e. folder_node e.id) node s.folders).0 a in subst (Stands s) (sym w.2) (w.0, w.1, refl))
    (λ a. let w = (In-map FileEntry Node (λ e. file_node e.id) node s.files).0 a in subst (Stands s) (sym w.2) (w.0, w.1, refl))
    ((In-append Node node (map (λ e. folder_node e.id) s.folders) (map (λ e. file_node e.id) s.files)).0 i)

pub node_is_named : (s : Store) (node : Node) → IsTree s.folders s.files → Stands s node → list_all is_name (node_names s node) ≡ true
unfolding folder_node file_node
node_is_named s (Folder f) ok w =
    let l = ok.folder_level w.0 w.1 in
    ap (list_all is_name) (folder_node_names s f.0) ∙ folder_is_named l.0 s f.0 ok (subst (AtLevel l.0 s.folders) w.2 l.1)
node_is_named s (File x) ok w = ap (list_all is_name) (file_node_names s w.0 x.0 ok w.1 w.2) ∙ file_is_named s w.0 ok w.1

-- what a path finds has its names
pub found_names : (s : Store) (path : List ℕ) (node : Node) → IsTree s.folders s.files → node_at s path ≡ Some node → node_names s node ≡ names_of path
unfolding path_of
found_names s path node ok e =
    let told = node_found s path node e in
    sym (names_told (node_names s node) (node_is_named s node ok (node_stands s node told.0))) ∙ ap names_of told.1

-- a path's names spell it
pub path_names : (path : List ℕ) → is_path path ≡ true → (list_all is_name (names_of path) ≡ true) × (spell_path (names_of path) ≡ path)
path_names path t =
    let w = (path_told path).0 t in
    let same : names_of path ≡ w.0 = ap names_of w.2 ∙ names_told w.0 w.1 in
    (ap (list_all is_name) same ∙ w.1, ap spell_path same ∙ sym w.2)
