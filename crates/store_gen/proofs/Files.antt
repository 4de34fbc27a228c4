-- The files of a store that stands, by their paths.
use Rattle.std.proofs.Common.{◌≡◌, ℕ, ◌+◌, ◌<◌, false, List, [], ◌∷◌, ◌++◌, map, Option, Some, refl, ap, sym, ◌∙◌, inl, inr, ⊎_elim, append-nil, get_or, arith}
use Rattle.std.specs.Prelude.{◌==◌, unwrap_or, option_map}
use Rattle.std.proofs.lemmas.Bool.{eqb-true, eq-eqb, false≢true}
use Rattle.cry_base.specs.Naming.{spell_path}
use Rattle.cry_base.specs.Sets.{In}
use Rattle.cry_base.specs.Store.{Store, FileEntry, FolderEntry, folder_node, file_node, file_entry, folder_names, file_names, node_names, path_of, nodes_of, node_at}
use Rattle.cry_base.specs.Refusing.{is_folder}
use Rattle.cry_base.specs.declared.roles.Node.{Node}
use Rattle.cry_base.specs.declared.roles.Node.TheVariants.{Folder, File}
use Rattle.cry_base.proofs.Finding.{find-found, found-find, node_found, node_finds}
use Rattle.cry_base.proofs.Members.{In-append, In-map}
use Rattle.store_gen.specs.Rule.{folder_path, moved_path, home_of}
use Rattle.store_gen.specs.Standing.{the_folders, IsFile, Stands}
use Rattle.store_gen.specs.declared.generator.Generator.{Generator}
use Rattle.store_gen.proofs.Folders.{names_in_folder, no_folder_found}

-- a file's number finds an entry with that number
pub entry_found : (s : Store) (e : FileEntry) → In e s.files → (f : FileEntry) × (file_entry s e.id ≡ Some f) × In f s.files × (f.id ≡ e.id)
unfolding file_entry
entry_found s e i =
    let found = found-find FileEntry (λ x. x.id == e.id) e s.files i (eq-eqb e.id e.id refl) in
    let told = find-found FileEntry (λ x. x.id == e.id) s.files found.0 found.1 in
    (found.0, found.1, told.0, eqb-true found.0.id e.id told.1)

-- the path of a file in a folder
pub path_in_folder : (s : Store) → s.folders ≡ the_folders → (e f : FileEntry) (m : ℕ) → m < 8 → file_entry s e.id ≡ Some f → f.folder ≡ m + 2
    → path_of s (file_node e.id) ≡ folder_path m ++ 47 ∷ f.name
unfolding path_of node_names file_names file_node spell_path
path_in_folder s is e f m h found «in» =
    ap (λ (o : Option FileEntry). spell_path (unwrap_or (option_map (file_names s) o) [])) found
    ∙ ap (λ (n : ℕ). spell_path (folder_names s n ++ f.name ∷ [])) «in»
    ∙ ap (λ (ns : List (List ℕ)). spell_path (ns ++ f.name ∷ [])) (names_in_folder s is m h)
    ∙ simp (append-nil) refl

module _ (g : Generator) (s : Store) (stands : Stands g s) where
  -- a file that has the path of a moved one is that one
  same_file : (c n : ℕ) (e f : FileEntry) → file_entry s e.id ≡ Some f → f.id ≡ e.id → IsFile g f → path_of s (file_node e.id) ≡ moved_path c n → e.id ≡ n + 1
  same_file c n e f found same (inl moved) path =
      let k : ℕ = moved.0 in
      let spelled = path_in_folder s stands.folders e f (home_of g k) (stands.ready.within k moved.1.below) found moved.1.folder in
      let name : folder_path (home_of g k) ++ 47 ∷ f.name ≡ moved_path c n = sym spelled ∙ path in
      let is : f.name ≡ 116 ∷ (48 + n) ∷ [] = cc in
      let digits : 48 + k ≡ 48 + n = cc (moved.1.name, is) in
      let id : f.id ≡ k + 1 = moved.1.id in
      omega arith
  same_file c n e f found same (inr written) path =
      let spelled = path_in_folder s stands.folders e f written.m written.below found written.folder in
      let name : folder_path written.m ++ 47 ∷ f.name ≡ moved_path c n = sym spelled ∙ path in
      let is : f.name ≡ 116 ∷ (48 + n) ∷ [] = cc in
      let letters : ◌≡◌ {A = ℕ} 102 116 = ap (λ (l : List ℕ). get_or l 0 0) (sym written.name ∙ is) in
      absurd (omega arith)

  file_with : (c n : ℕ) (other : Node) → is_folder (Some other) ≡ false → In other (nodes_of s) → path_of s other ≡ moved_path c n → other ≡ file_node (n + 1)
  unfolding is_folder nodes_of folder_node file_node
  file_with c n (Folder f) not_folder there path = absurd (false≢true (sym not_folder))
  file_with c n (File x) not_folder there path =
      let P : Type 0 = File x ≡ file_node (n + 1) in
      ⊎_elim
      (λ i. let w = (In-map FolderEntry Node (λ e. folder_node e.id) (File x) s.folders).0 i in let e = w.2 in cc)
      (λ i.
      let w = (In-map FileEntry Node (λ e. file_node e.id) (File x) s.files).0 i in
      let found = entry_found s w.0 w.1 in
      let id = same_file c n w.0 found.0 found.1 found.3 (stands.all found.0 found.2) (ap (path_of s) (sym w.2) ∙ path) in
      w.2 ∙ ap (λ (k : ℕ). file_node k) id)
      ((In-append Node (File x) (map (λ (e : FolderEntry). folder_node e.id) s.folders) (map (λ (e : FileEntry). file_node e.id) s.files)).0 there)

  moved_path_of : (n : ℕ) → n < 8 → (e f : FileEntry) → file_entry s e.id ≡ Some f → f.id ≡ n + 1 → IsFile g f → path_of s (file_node e.id) ≡ moved_path (home_of g n) n
  moved_path_of n h e f found id (inl moved) =
      let k : ℕ = moved.0 in
      let is : f.id ≡ k + 1 = moved.1.id in
      let same : k ≡ n = omega arith in
      path_in_folder s stands.folders e f (home_of g k) (stands.ready.within k moved.1.below) found moved.1.folder
      ∙ ap (λ (l : List ℕ). folder_path (home_of g k) ++ 47 ∷ l) moved.1.name
      ∙ ap (λ (j : ℕ). moved_path (home_of g j) j) same
  moved_path_of n h e f found id (inr written) = let nine = written.from_nine in absurd (omega arith)

  -- the path of a moved file finds it
  pub moved_found : (n : ℕ) → n < 8 → node_at s (moved_path (home_of g n) n) ≡ Some (file_node (n + 1))
  unfolding nodes_of
  moved_found n h =
      let home : ℕ = home_of g n in
      let within : home < 8 = stands.ready.within n h in
      let mine = stands.each n h in
      let found = entry_found s mine.0 mine.1 in
      let path : path_of s (file_node mine.0.id) ≡ moved_path home n = moved_path_of n h mine.0 found.0 found.1 (found.3 ∙ mine.2) (stands.all found.0 found.2) in
      let there : In (file_node mine.0.id) (nodes_of s) =
      (In-append Node (file_node mine.0.id) (map (λ (e : FolderEntry). folder_node e.id) s.folders) (map (λ (e : FileEntry). file_node e.id) s.files)).1
      (inr ((In-map FileEntry Node (λ e. file_node e.id) (file_node mine.0.id) s.files).1 (mine.0, mine.1, refl))) in
      let other = node_finds s (file_node mine.0.id) there in
      let at : node_at s (moved_path home n) ≡ Some other.0 = ap (node_at s) (sym path) ∙ other.1 in
      let told = node_found s (moved_path home n) other.0 at in
      let no_folder : is_folder (Some other.0) ≡ false = ap is_folder (sym at) ∙ no_folder_found s stands.folders 116 n home within in
      at ∙ ap (λ (x : Node). Some x) (file_with home n other.0 no_folder told.0 told.1)
