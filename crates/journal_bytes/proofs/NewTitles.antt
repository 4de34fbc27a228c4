-- A new node beside a tree in which no node has its number: with its title it is the plain store's.
use Rattle.std.proofs.Common.{◌≡◌, inl, inr, ℕ, ◌+◌, ◌≤◌, cond, ◌==◌, List, [], ◌∷◌, ◌++◌, map, Option, Some, refl, ap, ◌∙◌, arith}
use Rattle.std.proofs.lemmas.Bool.{eq-eqb, ne_eqb}
use Rattle.std.proofs.lemmas.List.{map-append}
use Rattle.cry_base.specs.Sets.{In}
use Rattle.cry_base.specs.Stepping.{with_new_folder, with_new_file}
use Rattle.cry_base.specs.Store.{Store, FolderEntry, FileEntry, folder_node, file_node}
use Rattle.cry_base.specs.declared.roles.Node.TheVariants.{Folder, File}
use Rattle.folder_nodes.specs.Joining.{IsSet}
use Rattle.folder_nodes.specs.Titles.{Title, Titles, title_at, name_in, bytes_in, tree_store}
use Rattle.folder_nodes.specs.Trees.{IsTree}
use Rattle.folder_nodes.proofs.Ascending.{All-in}
use Rattle.folder_nodes.proofs.Named.{named_folder, named_file}

-- no number that stands is above the count ever made
pub record AreBelow (t : Store) : Type 0 where
  pub folders : (e : FolderEntry) → In e t.folders → e.id ≤ t.folders_made
  pub files : (e : FileEntry) → In e t.files → e.id ≤ t.files_made

pub tree_below : (t : Store) → IsTree t → AreBelow t
tree_below t tree = record {
  folders = λ e i. (All-in FolderEntry (λ (e : FolderEntry). (1 ≤ e.id) × (e.id ≤ t.folders_made)) t.folders e tree.folders_made i).1;
  files = λ e i. (All-in FileEntry (λ (e : FileEntry). (1 ≤ e.id) × (e.id ≤ t.files_made)) t.files e tree.files_made i).1;
}

-- a title that isn't the new node's
apart : (a b : ℕ) (t : Option Title) (o n : Option Title) → a ≤ b → n ≡ cond (b + 1 == a) t o → n ≡ o
apart a b t o n le e = e ∙ ap (λ k. cond k t o) (ne_eqb (b + 1) a (λ same. omega (arith, le, same)))

folders_below : (old new : List Title) (made : ℕ) (t : Option Title) (xs : List FolderEntry) → ((e : FolderEntry) → In e xs → e.id ≤ made)
    → ((x : ℕ) → title_at new x ≡ cond (made + 1 == x) t (title_at old x))
    → map (λ (e : FolderEntry). record e { name = name_in (title_at new e.id) }) xs ≡ map (λ (e : FolderEntry). record e { name = name_in (title_at old e.id) }) xs
folders_below old new made t [] below set = refl
folders_below old new made t (e ∷ xs) below set =
    ap (λ o. record e { name = name_in o } ∷ map (λ (e : FolderEntry). record e { name = name_in (title_at new e.id) }) xs)
    (apart e.id made t (title_at old e.id) (title_at new e.id) (below e (inl refl)) (set e.id))
    ∙ ap (λ l. record e { name = name_in (title_at old e.id) } ∷ l) (folders_below old new made t xs (λ x i. below x (inr i)) set)

files_below : (old new : List Title) (made : ℕ) (t : Option Title) (xs : List FileEntry) → ((e : FileEntry) → In e xs → e.id ≤ made)
    → ((x : ℕ) → title_at new x ≡ cond (made + 1 == x) t (title_at old x))
    → map (λ (e : FileEntry). record e { name = name_in (title_at new e.id); bytes = bytes_in (title_at new e.id) }) xs
    ≡ map (λ (e : FileEntry). record e { name = name_in (title_at old e.id); bytes = bytes_in (title_at old e.id) }) xs
files_below old new made t [] below set = refl
files_below old new made t (e ∷ xs) below set =
    ap (λ o. record e { name = name_in o; bytes = bytes_in o } ∷ map (λ (e : FileEntry). record e { name = name_in (title_at new e.id); bytes = bytes_in (title_at new e.id) }) xs)
    (apart e.id made t (title_at old e.id) (title_at new e.id) (below e (inl refl)) (set e.id))
    ∙ ap (λ l. record e { name = name_in (title_at old e.id); bytes = bytes_in (title_at old e.id) } ∷ l) (files_below old new made t xs (λ x i. below x (inr i)) set)

folders_same : (old new : List Title) (xs : List FolderEntry) → ((x : ℕ) → title_at new x ≡ title_at old x)
    → map (λ (e : FolderEntry). record e { name = name_in (title_at new e.id) }) xs ≡ map (λ (e : FolderEntry). record e { name = name_in (title_at old e.id) }) xs
folders_same old new [] same = refl
folders_same old new (e ∷ xs) same = λ i. record e { name = name_in (same e.id i) } ∷ folders_same old new xs same i

files_same : (old new : List Title) (xs : List FileEntry) → ((x : ℕ) → title_at new x ≡ title_at old x)
    → map (λ (e : FileEntry). record e { name = name_in (title_at new e.id); bytes = bytes_in (title_at new e.id) }) xs
    ≡ map (λ (e : FileEntry). record e { name = name_in (title_at old e.id); bytes = bytes_in (title_at old e.id) }) xs
files_same old new [] same = refl
files_same old new (e ∷ xs) same = λ i. record e { name = name_in (same e.id i); bytes = bytes_in (same e.id i) } ∷ files_same old new xs same i

parts : (s : Store) (a b : List FolderEntry) (c d : List FileEntry) → a ≡ b → c ≡ d → ◌≡◌ {A = Store} (record s { folders = a; files = c }) (record s { folders = b; files = d })
parts s a b c d p q = λ i. record s { folders = p i; files = q i }

pub folder_joins : (s : Store) (old new : Titles) (parent : ℕ) (name bytes : List ℕ) → AreBelow s → IsSet old new (folder_node (s.folders_made + 1)) name bytes
    → tree_store (with_new_folder s parent []) new ≡ with_new_folder (tree_store s old) parent name
unfolding tree_store with_new_folder folder_node
folder_joins s old new parent name bytes below set =
    let made : ℕ = s.folders_made + 1 in
    let t : Title = record { id = made; name = name; bytes = bytes } in
    let e : FolderEntry = record { id = made; parent = parent; name = [] } in
    let own : title_at new.folders made ≡ Some t = set (Folder (record { 0 = made })) ∙ ap (λ k. cond k (Some t) (title_at old.folders made)) (eq-eqb made made refl) in
    parts (record s { folders_made = made })
    (map (named_folder new) (s.folders ++ e ∷ []))
    (map (named_folder old) s.folders ++ record { id = made; parent = parent; name = name } ∷ [])
    (map (named_file new) s.files) (map (named_file old) s.files)
    (map-append (named_folder new) s.folders (e ∷ [])
    ∙ ap (λ l. l ++ named_folder new e ∷ []) (folders_below old.folders new.folders s.folders_made (Some t) s.folders below.folders (λ x. set (Folder (record { 0 = x }))))
    ∙ ap (λ o. map (named_folder old) s.folders ++ record { id = made; parent = parent; name = name_in o } ∷ []) own)
    (files_same old.files new.files s.files (λ x. set (File (record { 0 = x }))))

pub file_joins : (s : Store) (old new : Titles) (folder : ℕ) (name bytes : List ℕ) → AreBelow s → IsSet old new (file_node (s.files_made + 1)) name bytes
    → tree_store (with_new_file s folder [] []) new ≡ with_new_file (tree_store s old) folder name bytes
unfolding tree_store with_new_file file_node
file_joins s old new folder name bytes below set =
    let made : ℕ = s.files_made + 1 in
    let t : Title = record { id = made; name = name; bytes = bytes } in
    let e : FileEntry = record { id = made; folder = folder; name = []; bytes = [] } in
    let own : title_at new.files made ≡ Some t = set (File (record { 0 = made })) ∙ ap (λ k. cond k (Some t) (title_at old.files made)) (eq-eqb made made refl) in
    parts (record s { files_made = made })
    (map (named_folder new) s.folders) (map (named_folder old) s.folders)
    (map (named_file new) (s.files ++ e ∷ []))
    (map (named_file old) s.files ++ record { id = made; folder = folder; name = name; bytes = bytes } ∷ [])
    (folders_same old.folders new.folders s.folders (λ x. set (Folder (record { 0 = x }))))
    (map-append (named_file new) s.files (e ∷ [])
    ∙ ap (λ l. l ++ named_file new e ∷ []) (files_below old.files new.files s.files_made (Some t) s.files below.files (λ x. set (File (record { 0 = x }))))
    ∙ ap (λ o. map (named_file old) s.files ++ record { id = made; folder = folder; name = name_in o; bytes = bytes_in o } ∷ []) own)
