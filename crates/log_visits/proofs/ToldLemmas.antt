-- What a note tells of a store is what its command does, as far as everyone may see.
use Rattle.std.proofs.Common.{◌≡◌, ℕ, ◌+◌, Bool, true, false, cond, not, ◌==◌, ◌||◌, List, [], ◌∷◌, ◌++◌, map, Option, Some, None, refl, sym, ap, ◌∙◌}
use Rattle.std.specs.List.{filter}
use Rattle.std.specs.Prelude.{is_none}
use Rattle.std.proofs.lemmas.Bool.{false≢true, or_parts}
use Rattle.cry_base.specs.Clearances.{clear_number}
use Rattle.cry_base.specs.Naming.{parent_path, last_name, names_of}
use Rattle.cry_base.specs.Requests.{Request, paths_of}
use Rattle.cry_base.specs.Requests.Request.{AddHolder, MakeFolder, WriteFile, Remove, Rename, Relocate, Grant, Revoke}
use Rattle.cry_base.specs.Store.{Store, FolderEntry, FileEntry, HolderEntry, node_at}
use Rattle.cry_base.specs.Stepping.{with_new_holder, with_new_folder, with_new_file, with_folder, with_file, without_folder, without_file, without_grant, with_bytes_at, without_node, with_name, moved, effect}
use Rattle.cry_base.specs.Refusing.{granted_id, id_of, is_folder, finds_no_path, writes_folder, refusal_of}
use Rattle.cry_base.specs.declared.roles.Node.{Node}
use Rattle.cry_base.specs.declared.roles.Node.TheVariants.{Folder, File}
use Rattle.move_plan.specs.Fitting.{public_of}
use Rattle.move_plan.specs.Noting.{write_note, remove_note, rename_note, move_note, note_of}
use Rattle.public_fold.proofs.Accepting.{IsAccepted, accepted}
use Rattle.public_fold.specs.Told.{told_store}

-- ---- lists

map_more : {X : Type 0} (f : X → X) (xs : List X) (x : X) → map f (xs ++ x ∷ []) ≡ map f xs ++ f x ∷ []
map_more f [] x = refl
map_more f (y ∷ ys) x = ap (λ l. f y ∷ l) (map_more f ys x)

map_kept : {X : Type 0} (f g : X → X) → ((x : X) → f (g x) ≡ f x) → (xs : List X) → map f (map g xs) ≡ map f xs
map_kept f g same [] = refl
map_kept f g same (x ∷ xs) = λ i. same x i ∷ map_kept f g same xs i

map_swapped : {X : Type 0} (f g : X → X) → ((x : X) → f (g x) ≡ g (f x)) → (xs : List X) → map f (map g xs) ≡ map g (map f xs)
map_swapped f g same [] = refl
map_swapped f g same (x ∷ xs) = λ i. same x i ∷ map_swapped f g same xs i

filtered_x : {X : Type 0} (f : X → X) (x : X) (rest : List X) (rest' : List X) (b : Bool) → map f rest ≡ rest' → map f (cond b (x ∷ rest) rest) ≡ cond b (f x ∷ rest') rest'
filtered_x f x rest rest' true same = ap (λ l. f x ∷ l) same
filtered_x f x rest rest' false same = same

map_filtered : {X : Type 0} (f : X → X) (p : X → Bool) → ((x : X) → p (f x) ≡ p x) → (xs : List X) → map f (filter p xs) ≡ filter p (map f xs)
map_filtered f p same [] = refl
map_filtered f p same (x ∷ xs) =
    filtered_x f x (filter p xs) (filter p (map f xs)) (p x) (map_filtered f p same xs)
    ∙ ap (λ b. cond b (f x ∷ filter p (map f xs)) (filter p (map f xs))) (sym (same x))

-- ---- what everyone may see of an entry

abbrev bare_folder : FolderEntry → FolderEntry
bare_folder e = record e { name = [] }

abbrev bare_file : FileEntry → FileEntry
bare_file e = record e { name = []; bytes = [] }

abbrev bare_holder : HolderEntry → HolderEntry
bare_holder e = record e { key = [] }

chosen_folder : (b : Bool) (e : FolderEntry) (name : List ℕ) → bare_folder (cond b (record e { name = name }) e) ≡ bare_folder e
chosen_folder true e name = refl
chosen_folder false e name = refl

chosen_file : (b : Bool) (e : FileEntry) (name bytes : List ℕ) → bare_file (cond b (record e { name = name; bytes = bytes }) e) ≡ bare_file e
chosen_file true e name bytes = refl
chosen_file false e name bytes = refl

shifted_folder : (b : Bool) (e : FolderEntry) (into : ℕ) → bare_folder (cond b (record e { parent = into }) e) ≡ cond b (record (bare_folder e) { parent = into }) (bare_folder e)
shifted_folder true e into = refl
shifted_folder false e into = refl

shifted_file : (b : Bool) (e : FileEntry) (into : ℕ) → bare_file (cond b (record e { folder = into }) e) ≡ cond b (record (bare_file e) { folder = into }) (bare_file e)
shifted_file true e into = refl
shifted_file false e into = refl

-- ---- what everyone may see of each change

holder_made : (s : Store) (key : List ℕ) → public_of (with_new_holder s key) ≡ with_new_holder (public_of s) []
unfolding public_of with_new_holder
holder_made s key = ap (λ hs. record (public_of s) { holders = hs; holders_made = s.holders_made + 1 }) (map_more bare_holder s.holders (record { number = s.holders_made + 1; key = key }))

folder_made : (s : Store) (parent : ℕ) (name : List ℕ) → public_of (with_new_folder s parent name) ≡ with_new_folder (public_of s) parent []
unfolding public_of with_new_folder
folder_made s parent name =
    ap (λ fs. record (public_of s) { folders = fs; folders_made = s.folders_made + 1 }) (map_more bare_folder s.folders (record { id = s.folders_made + 1; parent = parent; name = name }))

file_made : (s : Store) (folder : ℕ) (name bytes : List ℕ) → public_of (with_new_file s folder name bytes) ≡ with_new_file (public_of s) folder [] []
unfolding public_of with_new_file
file_made s folder name bytes =
    ap (λ xs. record (public_of s) { files = xs; files_made = s.files_made + 1 }) (map_more bare_file s.files (record { id = s.files_made + 1; folder = folder; name = name; bytes = bytes }))

folder_named : (s : Store) (f : ℕ) (name : List ℕ) → public_of (with_folder s f (λ e. record e { name = name })) ≡ public_of s
unfolding public_of with_folder
folder_named s f name =
    ap (λ fs. record (public_of s) { folders = fs })
    (map_kept bare_folder (λ e. cond (e.id == f) (record e { name = name }) e) (λ e. chosen_folder (e.id == f) e name) s.folders)

file_named : (s : Store) (x : ℕ) (name : List ℕ) → public_of (with_file s x (λ e. record e { name = name })) ≡ public_of s
unfolding public_of with_file
file_named s x name =
    ap (λ xs. record (public_of s) { files = xs })
    (map_kept bare_file (λ e. cond (e.id == x) (record e { name = name }) e) (λ e. chosen_file (e.id == x) e name e.bytes) s.files)

file_written : (s : Store) (x : ℕ) (bytes : List ℕ) → public_of (with_file s x (λ e. record e { bytes = bytes })) ≡ public_of s
unfolding public_of with_file
file_written s x bytes =
    ap (λ xs. record (public_of s) { files = xs })
    (map_kept bare_file (λ e. cond (e.id == x) (record e { bytes = bytes }) e) (λ e. chosen_file (e.id == x) e e.name bytes) s.files)

folder_shifted : (s : Store) (f into : ℕ) → public_of (with_folder s f (λ e. record e { parent = into })) ≡ with_folder (public_of s) f (λ e. record e { parent = into })
unfolding public_of with_folder
folder_shifted s f into =
    ap (λ fs. record (public_of s) { folders = fs })
    (map_swapped bare_folder (λ e. cond (e.id == f) (record e { parent = into }) e) (λ e. shifted_folder (e.id == f) e into) s.folders)

file_shifted : (s : Store) (x into : ℕ) → public_of (with_file s x (λ e. record e { folder = into })) ≡ with_file (public_of s) x (λ e. record e { folder = into })
unfolding public_of with_file
file_shifted s x into =
    ap (λ xs. record (public_of s) { files = xs })
    (map_swapped bare_file (λ e. cond (e.id == x) (record e { folder = into }) e) (λ e. shifted_file (e.id == x) e into) s.files)

folder_dropped : (s : Store) (f : ℕ) → public_of (without_folder s f) ≡ without_folder (public_of s) f
unfolding public_of without_folder
folder_dropped s f =
    ap (λ fs. record (public_of s) { folders = fs; grants = filter (λ g. not (g.folder == f)) s.grants })
    (map_filtered bare_folder (λ e. not (e.id == f)) (λ e. refl) s.folders)

file_dropped : (s : Store) (x : ℕ) → public_of (without_file s x) ≡ without_file (public_of s) x
unfolding public_of without_file
file_dropped s x =
    ap (λ xs. record (public_of s) { files = xs; grants = filter (λ g. not (g.folder == clear_number x)) s.grants })
    (map_filtered bare_file (λ e. not (e.id == x)) (λ e. refl) s.files)

grant_dropped : (s : Store) (h f : ℕ) → public_of (without_grant s h f) ≡ without_grant (public_of s) h f
unfolding public_of without_grant
grant_dropped s h f = refl

-- ---- each command

written_told : (s : Store) (path bytes : List ℕ) (o : Option Node) → is_folder o ≡ false →
    public_of (with_bytes_at s o path bytes) ≡ told_store (public_of s) (write_note s o (id_of (node_at s (parent_path path))))
unfolding with_bytes_at write_note told_store is_folder
written_told s path bytes None t = file_made s (id_of (node_at s (parent_path path))) (last_name (names_of path)) bytes
written_told s path bytes (Some (Folder f)) t = absurd (false≢true (sym t))
written_told s path bytes (Some (File x)) t = file_written s x.0 bytes

removed_told : (s : Store) (o : Option Node) → is_none o ≡ false → public_of (without_node s o) ≡ told_store (public_of s) (remove_note o)
unfolding without_node remove_note told_store
removed_told s None some = absurd (false≢true (sym some))
removed_told s (Some (Folder f)) some = folder_dropped s f.0
removed_told s (Some (File x)) some = file_dropped s x.0

renamed_told : (s : Store) (o : Option Node) (name : List ℕ) → is_none o ≡ false → public_of (with_name s o name) ≡ told_store (public_of s) (rename_note o)
unfolding with_name rename_note told_store
renamed_told s None name some = absurd (false≢true (sym some))
renamed_told s (Some (Folder f)) name some = folder_named s f.0 name
renamed_told s (Some (File x)) name some = file_named s x.0 name

moved_told : (s : Store) (o : Option Node) (into : ℕ) → is_none o ≡ false → public_of (moved s o into) ≡ told_store (public_of s) (move_note o into)
unfolding moved move_note told_store
moved_told s None into some = absurd (false≢true (sym some))
moved_told s (Some (Folder f)) into some = folder_shifted s f.0 into
moved_told s (Some (File x)) into some = file_shifted s x.0 into

told_of : (s : Store) (r : Request) (key check : List ℕ) → IsAccepted s r → public_of (effect s r key) ≡ told_store (public_of s) (note_of s r check)
unfolding effect note_of told_store finds_no_path writes_folder paths_of public_of
told_of s AddHolder key check a = holder_made s key
told_of s (MakeFolder path) key check a = folder_made s (id_of (node_at s (parent_path path))) (last_name (names_of path))
told_of s (WriteFile path bytes) key check a = written_told s path bytes (node_at s path) a.writes_file
told_of s (Remove path) key check a = removed_told s (node_at s path) (or_parts (is_none (node_at s path)) false a.finds_path).0
told_of s (Rename path name) key check a = renamed_told s (node_at s path) name (or_parts (is_none (node_at s path)) false a.finds_path).0
told_of s (Relocate path into) key check a = moved_told s (node_at s path) (id_of (node_at s into)) (or_parts (is_none (node_at s path)) (is_none (node_at s into) || false) a.finds_path).0
told_of s (Grant h path) key check a = refl
told_of s (Revoke h path) key check a = grant_dropped s h (granted_id (node_at s path))

pub accepted_told : (s : Store) (r : Request) (key check : List ℕ) (n : ℕ) → refusal_of s r n ≡ None → public_of (effect s r key) ≡ told_store (public_of s) (note_of s r check)
accepted_told s r key check n e = told_of s r key check (accepted s r n e)
