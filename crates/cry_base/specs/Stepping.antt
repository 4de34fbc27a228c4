-- What an accepted command does to the plain store. This project's own, docs/FORMAT.md.
use Rattle.std.specs.Prelude.{ℕ, ◌+◌, cond, not, ◌&&◌, ◌==◌, List, [], ◌∷◌, ◌++◌, map, filter, Option, Some, None, Result, Ok, Err}
use Rattle.cry_base.specs.Clearances.{clear_number}
use Rattle.cry_base.specs.Naming.{parent_path, names_of, last_name}
use Rattle.cry_base.specs.Requests.{Request}
use Rattle.cry_base.specs.Requests.Request.{AddHolder, MakeFolder, WriteFile, Remove, Rename, Relocate, Grant, Revoke}
use Rattle.cry_base.specs.Store.{Store, FolderEntry, FileEntry, node_at}
use Rattle.cry_base.specs.Refusing.{refusal_of, id_of, granted_id}
use Rattle.cry_base.specs.declared.commands.Refusal.{Refusal}
use Rattle.cry_base.specs.declared.roles.Node.{Node}
use Rattle.cry_base.specs.declared.roles.Node.TheVariants.{Folder, File}

-- the next holder
unfoldable pub with_new_holder : Store → List ℕ → Store
with_new_holder s key = record s {
  holders = s.holders ++ record { number = s.holders_made + 1; key = key } ∷ [];
  holders_made = s.holders_made + 1;
}

-- the next folder, in a folder
unfoldable pub with_new_folder : Store → ℕ → List ℕ → Store
with_new_folder s parent name = record s {
  folders = s.folders ++ record { id = s.folders_made + 1; parent = parent; name = name } ∷ [];
  folders_made = s.folders_made + 1;
}

-- the next file, in a folder
unfoldable pub with_new_file : Store → ℕ → List ℕ → List ℕ → Store
with_new_file s folder name bytes = record s {
  files = s.files ++ record { id = s.files_made + 1; folder = folder; name = name; bytes = bytes } ∷ [];
  files_made = s.files_made + 1;
}

-- one folder or file changed, all others as they were
unfoldable pub with_folder : Store → ℕ → (FolderEntry → FolderEntry) → Store
with_folder s f change = record s { folders = map (λ e. cond (e.id == f) (change e) e) s.folders }

unfoldable pub with_file : Store → ℕ → (FileEntry → FileEntry) → Store
with_file s x change = record s { files = map (λ e. cond (e.id == x) (change e) e) s.files }

-- without a folder or a file and the grants on it; without one grant
unfoldable pub without_folder : Store → ℕ → Store
without_folder s f = record s { folders = filter (λ e. not (e.id == f)) s.folders; grants = filter (λ g. not (g.folder == f)) s.grants }

unfoldable pub without_file : Store → ℕ → Store
without_file s x = record s {
  files = filter (λ e. not (e.id == x)) s.files;
  grants = filter (λ g. not (g.folder == clear_number x)) s.grants;
}

unfoldable pub without_grant : Store → ℕ → ℕ → Store
without_grant s h f = record s { grants = filter (λ g. not (g.holder == h && g.folder == f)) s.grants }

-- the file has these bytes: it is made where there is none
unfoldable pub with_bytes_at : Store → Option Node → List ℕ → List ℕ → Store
with_bytes_at s (Some (File x)) path bytes = with_file s x.0 (λ e. record e { bytes = bytes })
with_bytes_at s (Some (Folder f)) path bytes = s
with_bytes_at s None path bytes = with_new_file s (id_of (node_at s (parent_path path))) (last_name (names_of path)) bytes

unfoldable pub without_node : Store → Option Node → Store
without_node s None = s
without_node s (Some (Folder f)) = without_folder s f.0
without_node s (Some (File x)) = without_file s x.0

unfoldable pub with_name : Store → Option Node → List ℕ → Store
with_name s None name = s
with_name s (Some (Folder f)) name = with_folder s f.0 (λ e. record e { name = name })
with_name s (Some (File x)) name = with_file s x.0 (λ e. record e { name = name })

unfoldable pub moved : Store → Option Node → ℕ → Store
moved s None into = s
moved s (Some (Folder f)) into = with_folder s f.0 (λ e. record e { parent = into })
moved s (Some (File x)) into = with_file s x.0 (λ e. record e { folder = into })

-- the effect of a command that is accepted. The key is the new holder's
unfoldable pub effect : Store → Request → List ℕ → Store
effect s AddHolder key = with_new_holder s key
effect s (MakeFolder path) key = with_new_folder s (id_of (node_at s (parent_path path))) (last_name (names_of path))
effect s (WriteFile path bytes) key = with_bytes_at s (node_at s path) path bytes
effect s (Remove path) key = without_node s (node_at s path)
effect s (Rename path name) key = with_name s (node_at s path) name
effect s (Relocate path into) key = moved s (node_at s path) (id_of (node_at s into))
effect s (Grant holder path) key = record s { grants = s.grants ++ record { holder = holder; folder = granted_id (node_at s path) } ∷ [] }
effect s (Revoke holder path) key = without_grant s holder (granted_id (node_at s path))

-- the effect, where no cause for a refusal applies
unfoldable pub accepted : Option Refusal → Store → Result Store Refusal
accepted None s = Ok s
accepted (Some why) s = Err why

-- a command's refusal or the store after it. No file may have more bytes than file_bytes
unfoldable pub step : Store → Request → List ℕ → ℕ → Result Store Refusal
step s r key file_bytes = accepted (refusal_of s r file_bytes) (effect s r key)
