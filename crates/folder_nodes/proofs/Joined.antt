-- A change of the tree with its change of names is the plain store's change.
use Rattle.std.proofs.Common.{◌≡◌, ℕ, ◌+◌, ◌≤◌, Bool, true, false, cond, not, ◌==◌, List, [], ◌∷◌, ◌++◌, map, filter, Option, Some, None, refl, sym, ap, ◌∙◌, arith}
use Rattle.std.specs.List.{All}
use Rattle.std.proofs.lemmas.Bool.{eqb-true, eq-eqb, ne_eqb}
use Rattle.std.proofs.lemmas.List.Elements.{All-weaker}
use Rattle.cry_base.specs.Clearances.{clear_number}
use Rattle.cry_base.specs.Stepping.{with_new_folder, with_new_file, with_folder, with_file, without_folder, without_file, without_node, with_name, moved}
use Rattle.cry_base.specs.Store.{Store, FolderEntry, FileEntry, GrantEntry, folder_node, file_node}
use Rattle.cry_base.specs.declared.roles.Node.{Node}
use Rattle.cry_base.specs.declared.roles.Node.TheVariants.{Folder, File}
use Rattle.folder_nodes.specs.Joining.{IsSet, IsForgotten}
use Rattle.folder_nodes.specs.Titles.{Titles, Title, title_at, title_of, name_in, bytes_in, tree_store}
use Rattle.folder_nodes.specs.Trees.{IsTree}
use Rattle.folder_nodes.proofs.Heights.{map_twice, map_same}
use Rattle.folder_nodes.proofs.Lookups.{filter-map, All-passed}
use Rattle.folder_nodes.proofs.Named.{named_folder, named_file, map_alike}

parts : (s : Store) (a b : List FolderEntry) (c d : List FileEntry) → a ≡ b → c ≡ d → ◌≡◌ {A = Store} (record s { folders = a; files = c }) (record s { folders = b; files = d })
parts s a b c d p q = ap (λ l. record s { folders = l; files = c }) p ∙ ap (λ l. record s { folders = b; files = l }) q

pub eq_turned : (a b : ℕ) → (a == b) ≡ (b == a)
eq_turned a b =
    (elim (b == a) as (λ k. b == a ≡ k → (a == b) ≡ k) [
      | true ↦ λ t. eq-eqb a b (sym (eqb-true b a t))
      | false ↦ λ t. ne_eqb a b (λ e. absurd (let u : b == a ≡ true = eq-eqb b a (sym e) in cc))
    ]) refl

map-push : (X Y : Type 0) (g : X → Y) (xs : List X) (y : X) → map g (xs ++ y ∷ []) ≡ map g xs ++ g y ∷ []
map-push X Y g [] y = refl
map-push X Y g (x ∷ xs) y = ap (λ l. g x ∷ l) (map-push X Y g xs y)

-- an entry by its title before and after
folder_retitled : (e : FolderEntry) (a b : Option Title) (t : Title) (k : Bool) → a ≡ cond k (Some t) b → ◌≡◌ {A = FolderEntry} (record e { name = name_in a }) (cond k (record e { name = t.name }) (record e { name = name_in b }))
folder_retitled e a b t true p = ap (λ o. record e { name = name_in o }) p
folder_retitled e a b t false p = ap (λ o. record e { name = name_in o }) p

file_retitled : (e : FileEntry) (a b : Option Title) (t : Title) (k : Bool) → a ≡ cond k (Some t) b → ◌≡◌ {A = FileEntry} (record e { name = name_in a; bytes = bytes_in a }) (cond k (record e { name = t.name; bytes = t.bytes }) (record e { name = name_in b; bytes = bytes_in b }))
file_retitled e a b t true p = ap (λ o. record e { name = name_in o; bytes = bytes_in o }) p
file_retitled e a b t false p = ap (λ o. record e { name = name_in o; bytes = bytes_in o }) p

-- entries whose titles are as before
pub folders_kept : (old new : Titles) (xs : List FolderEntry) → All (λ (e : FolderEntry). title_at new.folders e.id ≡ title_at old.folders e.id) xs → map (named_folder new) xs ≡ map (named_folder old) xs
folders_kept old new xs all =
    map_same FolderEntry FolderEntry (named_folder new) (named_folder old) xs
    (All-weaker (λ (e : FolderEntry). title_at new.folders e.id ≡ title_at old.folders e.id) (λ e. named_folder new e ≡ named_folder old e) (λ e p. ap (λ o. record e { name = name_in o }) p) xs all)

pub files_kept : (old new : Titles) (xs : List FileEntry) → All (λ (e : FileEntry). title_at new.files e.id ≡ title_at old.files e.id) xs → map (named_file new) xs ≡ map (named_file old) xs
files_kept old new xs all =
    map_same FileEntry FileEntry (named_file new) (named_file old) xs
    (All-weaker (λ (e : FileEntry). title_at new.files e.id ≡ title_at old.files e.id) (λ e. named_file new e ≡ named_file old e) (λ e p. ap (λ o. record e { name = name_in o; bytes = bytes_in o }) p) xs all)

all_of : (X : Type 0) (P : X → Type 0) → ((x : X) → P x) → (xs : List X) → All P xs
all_of X P each xs = λ k d within. each _

-- a title that isn't the node's
apart : (a b : ℕ) (t : Option Title) (o n : Option Title) → a ≤ b → n ≡ cond (b + 1 == a) t o → n ≡ o
apart a b t o n le e = e ∙ ap (λ k. cond k t o) (ne_eqb (b + 1) a (λ same. omega (arith, le, same)))

pub new_folder_joins : (s : Store) (old new : Titles) (parent : ℕ) (name bytes : List ℕ) → IsTree s → IsSet old new (folder_node (s.folders_made + 1)) name bytes → tree_store (with_new_folder s parent []) new ≡ with_new_folder (tree_store s old) parent name
unfolding tree_store with_new_folder folder_node
new_folder_joins s old new parent name bytes tree set =
    let made : ℕ = s.folders_made + 1 in
    let own : title_at new.folders made ≡ Some (record { id = made; name = name; bytes = bytes }) =
    set (Folder (record { 0 = made })) ∙ ap (λ k. cond k (Some (record { id = made; name = name; bytes = bytes })) (title_at old.folders made)) (eq-eqb made made refl) in
    parts (record s { folders_made = made })
    (map (named_folder new) (s.folders ++ record { id = made; parent = parent; name = [] } ∷ []))
    (map (named_folder old) s.folders ++ record { id = made; parent = parent; name = name } ∷ [])
    (map (named_file new) s.files) (map (named_file old) s.files)
    (map-push FolderEntry FolderEntry (named_folder new) s.folders (record { id = made; parent = parent; name = [] })
    ∙ ap (λ l. l ++ named_folder new (record { id = made; parent = parent; name = [] }) ∷ []) (folders_kept old new s.folders
    (All-weaker (λ (e : FolderEntry). (1 ≤ e.id) × (e.id ≤ s.folders_made)) (λ e. title_at new.folders e.id ≡ title_at old.folders e.id)
    (λ e w. apart e.id s.folders_made (Some (record { id = made; name = name; bytes = bytes })) (title_at old.folders e.id) (title_at new.folders e.id) w.1 (set (Folder (record { 0 = e.id })))) s.folders tree.folders_made))
    ∙ ap (λ o. map (named_folder old) s.folders ++ record { id = made; parent = parent; name = name_in o } ∷ []) own)
    (files_kept old new s.files (all_of FileEntry (λ e. title_at new.files e.id ≡ title_at old.files e.id) (λ e. set (File (record { 0 = e.id }))) s.files))

pub new_file_joins : (s : Store) (old new : Titles) (folder : ℕ) (name bytes : List ℕ) → IsTree s → IsSet old new (file_node (s.files_made + 1)) name bytes → tree_store (with_new_file s folder [] []) new ≡ with_new_file (tree_store s old) folder name bytes
unfolding tree_store with_new_file file_node
new_file_joins s old new folder name bytes tree set =
    let made : ℕ = s.files_made + 1 in
    let own : title_at new.files made ≡ Some (record { id = made; name = name; bytes = bytes }) =
    set (File (record { 0 = made })) ∙ ap (λ k. cond k (Some (record { id = made; name = name; bytes = bytes })) (title_at old.files made)) (eq-eqb made made refl) in
    parts (record s { files_made = made })
    (map (named_folder new) s.folders) (map (named_folder old) s.folders)
    (map (named_file new) (s.files ++ record { id = made; folder = folder; name = []; bytes = [] } ∷ []))
    (map (named_file old) s.files ++ record { id = made; folder = folder; name = name; bytes = bytes } ∷ [])
    (folders_kept old new s.folders (all_of FolderEntry (λ e. title_at new.folders e.id ≡ title_at old.folders e.id) (λ e. set (Folder (record { 0 = e.id }))) s.folders))
    (map-push FileEntry FileEntry (named_file new) s.files (record { id = made; folder = folder; name = []; bytes = [] })
    ∙ ap (λ l. l ++ named_file new (record { id = made; folder = folder; name = []; bytes = [] }) ∷ []) (files_kept old new s.files
    (All-weaker (λ (e : FileEntry). (1 ≤ e.id) × (e.id ≤ s.files_made)) (λ e. title_at new.files e.id ≡ title_at old.files e.id)
    (λ e w. apart e.id s.files_made (Some (record { id = made; name = name; bytes = bytes })) (title_at old.files e.id) (title_at new.files e.id) w.1 (set (File (record { 0 = e.id })))) s.files tree.files_made))
    ∙ ap (λ o. map (named_file old) s.files ++ record { id = made; folder = folder; name = name_in o; bytes = bytes_in o } ∷ []) own)

-- a folder that gets another name; a file that gets another name and other bytes
pub folder_renamed : (s : Store) (old new : Titles) (f : ℕ) (name bytes : List ℕ) → IsSet old new (folder_node f) name bytes → tree_store s new ≡ with_folder (tree_store s old) f (λ e. record e { name = name })
unfolding tree_store with_folder folder_node
folder_renamed s old new f name bytes set =
    let t : Title = record { id = f; name = name; bytes = bytes } in
    parts s (map (named_folder new) s.folders) (map (λ (e : FolderEntry). cond (e.id == f) (record e { name = name }) e) (map (named_folder old) s.folders))
    (map (named_file new) s.files) (map (named_file old) s.files)
    (map_alike FolderEntry FolderEntry (named_folder new) (λ e. cond (e.id == f) (record e { name = name }) (named_folder old e))
    (λ e. folder_retitled e (title_at new.folders e.id) (title_at old.folders e.id) t (e.id == f)
    (set (Folder (record { 0 = e.id })) ∙ ap (λ k. cond k (Some t) (title_at old.folders e.id)) (eq_turned f e.id))) s.folders
    ∙ sym (map_twice FolderEntry FolderEntry FolderEntry (λ e. cond (e.id == f) (record e { name = name }) e) (named_folder old) s.folders))
    (files_kept old new s.files (all_of FileEntry (λ e. title_at new.files e.id ≡ title_at old.files e.id) (λ e. set (File (record { 0 = e.id }))) s.files))

pub file_set : (s : Store) (old new : Titles) (x : ℕ) (name bytes : List ℕ) → IsSet old new (file_node x) name bytes → tree_store s new ≡ with_file (tree_store s old) x (λ e. record e { name = name; bytes = bytes })
unfolding tree_store with_file file_node
file_set s old new x name bytes set =
    let t : Title = record { id = x; name = name; bytes = bytes } in
    parts s (map (named_folder new) s.folders) (map (named_folder old) s.folders)
    (map (named_file new) s.files) (map (λ (e : FileEntry). cond (e.id == x) (record e { name = name; bytes = bytes }) e) (map (named_file old) s.files))
    (folders_kept old new s.folders (all_of FolderEntry (λ e. title_at new.folders e.id ≡ title_at old.folders e.id) (λ e. set (Folder (record { 0 = e.id }))) s.folders))
    (map_alike FileEntry FileEntry (named_file new) (λ e. cond (e.id == x) (record e { name = name; bytes = bytes }) (named_file old e))
    (λ e. file_retitled e (title_at new.files e.id) (title_at old.files e.id) t (e.id == x)
    (set (File (record { 0 = e.id })) ∙ ap (λ k. cond k (Some t) (title_at old.files e.id)) (eq_turned x e.id))) s.files
    ∙ sym (map_twice FileEntry FileEntry FileEntry (λ e. cond (e.id == x) (record e { name = name; bytes = bytes }) e) (named_file old) s.files))

-- a node that gets another place keeps its name
folder_shifted : (n : Titles) (into : ℕ) (k : Bool) (e : FolderEntry) → named_folder n (cond k (record e { parent = into }) e) ≡ cond k (record (named_folder n e) { parent = into }) (named_folder n e)
folder_shifted n into true e = refl
folder_shifted n into false e = refl

file_shifted : (n : Titles) (into : ℕ) (k : Bool) (e : FileEntry) → named_file n (cond k (record e { folder = into }) e) ≡ cond k (record (named_file n e) { folder = into }) (named_file n e)
file_shifted n into true e = refl
file_shifted n into false e = refl

pub move_joins : (s : Store) (n : Titles) (node : Node) (into : ℕ) → tree_store (moved s (Some node) into) n ≡ moved (tree_store s n) (Some node) into
unfolding tree_store moved with_folder with_file
move_joins s n (Folder f) into =
    ap (λ l. record s { folders = l; files = map (named_file n) s.files })
    (map_twice FolderEntry FolderEntry FolderEntry (named_folder n) (λ e. cond (e.id == f.0) (record e { parent = into }) e) s.folders
    ∙ map_alike FolderEntry FolderEntry (λ e. named_folder n (cond (e.id == f.0) (record e { parent = into }) e)) (λ e. cond (e.id == f.0) (record (named_folder n e) { parent = into }) (named_folder n e)) (λ e. folder_shifted n into (e.id == f.0) e) s.folders
    ∙ sym (map_twice FolderEntry FolderEntry FolderEntry (λ e. cond (e.id == f.0) (record e { parent = into }) e) (named_folder n) s.folders))
move_joins s n (File x) into =
    ap (λ l. record s { folders = map (named_folder n) s.folders; files = l })
    (map_twice FileEntry FileEntry FileEntry (named_file n) (λ e. cond (e.id == x.0) (record e { folder = into }) e) s.files
    ∙ map_alike FileEntry FileEntry (λ e. named_file n (cond (e.id == x.0) (record e { folder = into }) e)) (λ e. cond (e.id == x.0) (record (named_file n e) { folder = into }) (named_file n e)) (λ e. file_shifted n into (e.id == x.0) e) s.files
    ∙ sym (map_twice FileEntry FileEntry FileEntry (λ e. cond (e.id == x.0) (record e { folder = into }) e) (named_file n) s.files))

-- a node that goes takes its name with it
other_title : (f id : ℕ) (o n : Option Title) → n ≡ cond (f == id) None o → not (id == f) ≡ true → n ≡ o
other_title f id o n e t =
    e ∙ ap (λ k. cond k None o) (eq_turned f id)
    ∙ (elim (id == f) as (λ k. not k ≡ true → cond k None o ≡ o) [ true ↦ λ q. absurd (cc) | false ↦ λ q. refl ]) t

pub removal_joins : (s : Store) (old new : Titles) (node : Node) → IsForgotten old new node → tree_store (without_node s (Some node)) new ≡ without_node (tree_store s old) (Some node)
unfolding tree_store without_node without_folder without_file
removal_joins s old new (Folder f) gone =
    parts (record s { grants = filter (λ (g : GrantEntry). not (g.folder == f.0)) s.grants })
    (map (named_folder new) (filter (λ (e : FolderEntry). not (e.id == f.0)) s.folders)) (filter (λ (e : FolderEntry). not (e.id == f.0)) (map (named_folder old) s.folders))
    (map (named_file new) s.files) (map (named_file old) s.files)
    (folders_kept old new (filter (λ (e : FolderEntry). not (e.id == f.0)) s.folders)
    (All-weaker (λ (e : FolderEntry). Unit {0} × (not (e.id == f.0) ≡ true)) (λ e. title_at new.folders e.id ≡ title_at old.folders e.id)
    (λ e w. other_title f.0 e.id (title_at old.folders e.id) (title_at new.folders e.id) (gone (Folder (record { 0 = e.id }))) w.1)
    (filter (λ (e : FolderEntry). not (e.id == f.0)) s.folders)
    (All-passed FolderEntry (λ e. Unit {0}) (λ e. not (e.id == f.0)) s.folders (all_of FolderEntry (λ e. Unit {0}) (λ e. tt) s.folders)))
    ∙ sym (filter-map FolderEntry FolderEntry (named_folder old) (λ e. not (e.id == f.0)) s.folders))
    (files_kept old new s.files (all_of FileEntry (λ e. title_at new.files e.id ≡ title_at old.files e.id) (λ e. gone (File (record { 0 = e.id }))) s.files))
removal_joins s old new (File x) gone =
    parts (record s { grants = filter (λ (g : GrantEntry). not (g.folder == clear_number x.0)) s.grants }) (map (named_folder new) s.folders) (map (named_folder old) s.folders)
    (map (named_file new) (filter (λ (e : FileEntry). not (e.id == x.0)) s.files)) (filter (λ (e : FileEntry). not (e.id == x.0)) (map (named_file old) s.files))
    (folders_kept old new s.folders (all_of FolderEntry (λ e. title_at new.folders e.id ≡ title_at old.folders e.id) (λ e. gone (Folder (record { 0 = e.id }))) s.folders))
    (files_kept old new (filter (λ (e : FileEntry). not (e.id == x.0)) s.files)
    (All-weaker (λ (e : FileEntry). Unit {0} × (not (e.id == x.0) ≡ true)) (λ e. title_at new.files e.id ≡ title_at old.files e.id)
    (λ e w. other_title x.0 e.id (title_at old.files e.id) (title_at new.files e.id) (gone (File (record { 0 = e.id }))) w.1)
    (filter (λ (e : FileEntry). not (e.id == x.0)) s.files)
    (All-passed FileEntry (λ e. Unit {0}) (λ e. not (e.id == x.0)) s.files (all_of FileEntry (λ e. Unit {0}) (λ e. tt) s.files)))
    ∙ sym (filter-map FileEntry FileEntry (named_file old) (λ e. not (e.id == x.0)) s.files))

-- a file keeps what isn't changed
bytes_stay : (n : Titles) (x : ℕ) (name : List ℕ) (e : FileEntry) → ◌≡◌ {A = FileEntry} (cond (e.id == x) (record e { name = name; bytes = bytes_in (title_at n.files x) }) (named_file n e)) (cond (e.id == x) (record (named_file n e) { name = name }) (named_file n e))
bytes_stay n x name e =
    (elim (e.id == x) as (λ k. e.id == x ≡ k → ◌≡◌ {A = FileEntry} (cond k (record e { name = name; bytes = bytes_in (title_at n.files x) }) (named_file n e)) (cond k (record (named_file n e) { name = name }) (named_file n e))) [
      | true ↦ λ t. ap (λ i. record e { name = name; bytes = bytes_in (title_at n.files i) }) (sym (eqb-true e.id x t))
      | false ↦ λ t. refl
    ]) refl

name_stays : (n : Titles) (x : ℕ) (bytes : List ℕ) (e : FileEntry) → ◌≡◌ {A = FileEntry} (cond (e.id == x) (record e { name = name_in (title_at n.files x); bytes = bytes }) (named_file n e)) (cond (e.id == x) (record (named_file n e) { bytes = bytes }) (named_file n e))
name_stays n x bytes e =
    (elim (e.id == x) as (λ k. e.id == x ≡ k → ◌≡◌ {A = FileEntry} (cond k (record e { name = name_in (title_at n.files x); bytes = bytes }) (named_file n e)) (cond k (record (named_file n e) { bytes = bytes }) (named_file n e))) [
      | true ↦ λ t. ap (λ i. record e { name = name_in (title_at n.files i); bytes = bytes }) (sym (eqb-true e.id x t))
      | false ↦ λ t. refl
    ]) refl

abbrev changed : ℕ → (FileEntry → FileEntry) → FileEntry → FileEntry
changed x change e = cond (e.id == x) (change e) e

-- two changes that do the same to each file with its name
changed_alike : (s : Store) (n : Titles) (x : ℕ) (one other : FileEntry → FileEntry) → ((e : FileEntry) → changed x one (named_file n e) ≡ changed x other (named_file n e)) → with_file (tree_store s n) x one ≡ with_file (tree_store s n) x other
unfolding tree_store with_file
changed_alike s n x one other same =
    ap (λ l. record s { folders = map (named_folder n) s.folders; files = l })
    (map_twice FileEntry FileEntry FileEntry (changed x one) (named_file n) s.files
    ∙ map_alike FileEntry FileEntry (λ e. changed x one (named_file n e)) (λ e. changed x other (named_file n e)) same s.files
    ∙ sym (map_twice FileEntry FileEntry FileEntry (changed x other) (named_file n) s.files))

pub file_rewritten : (s : Store) (old new : Titles) (x : ℕ) (bytes : List ℕ) → IsSet old new (file_node x) (name_in (title_at old.files x)) bytes → tree_store s new ≡ with_file (tree_store s old) x (λ e. record e { bytes = bytes })
file_rewritten s old new x bytes set =
    file_set s old new x (name_in (title_at old.files x)) bytes set
    ∙ changed_alike s old x (λ e. record e { name = name_in (title_at old.files x); bytes = bytes }) (λ e. record e { bytes = bytes }) (λ e. name_stays old x bytes e)

pub name_joins : (s : Store) (old new : Titles) (node : Node) (name : List ℕ) → IsSet old new node name (bytes_in (title_of old node)) → tree_store s new ≡ with_name (tree_store s old) (Some node) name
unfolding with_name folder_node file_node
name_joins s old new (Folder f) name set = folder_renamed s old new f.0 name (bytes_in (title_at old.folders f.0)) set
name_joins s old new (File x) name set =
    file_set s old new x.0 name (bytes_in (title_at old.files x.0)) set
    ∙ changed_alike s old x.0 (λ e. record e { name = name; bytes = bytes_in (title_at old.files x.0) }) (λ e. record e { name = name }) (λ e. bytes_stay old x.0 name e)
