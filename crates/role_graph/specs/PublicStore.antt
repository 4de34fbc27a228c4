-- What a shape and grants tell of a plain store, and whom a grant lets read what.
use Rattle.std.specs.Prelude.{ℕ, ◌<◌, Bool, false, not, ◌&&◌, ◌||◌, ◌==◌, List, Option, None, Some}
use Rattle.cry_base.specs.Clearances.{clear_base, file_of}
use Rattle.cry_base.specs.Sets.{In}
use Rattle.cry_base.specs.Store.{Store, FolderEntry, GrantEntry, file_entry, is_within}
use Rattle.cry_base.specs.declared.ids.FolderId.{FolderId}
use Rattle.folder_nodes.specs.Looking.{folder_id_of}
use Rattle.role_graph.specs.RightsByReach.{MayBeGranted}

-- the plain store without names, bytes and keys: a shape's folders and files, and these grants
abbrev pub public_store : Store → List GrantEntry → Store
public_store tree pairs = record tree { grants = pairs }

-- no folder has a clearance number
abbrev pub FoldersBelow : Store → Type 0
FoldersBelow s = (e : FolderEntry) → In e s.folders → e.id < clear_base

-- each grant is on a folder or a file that stands, and it can be told which
pub record GrantsStand (s : Store) : Type 0 where
  pub granted_stands : (g : GrantEntry) → In g s.grants → MayBeGranted s g.folder
  pub folders_below : FoldersBelow s

-- whether the grant is the holder's, and on the folder or on one above it
unfoldable pub allows : Store → ℕ → ℕ → GrantEntry → Bool
allows s h f g = g.holder == h && (g.folder == f || (not (f == g.folder) && is_within s f g.folder))

-- where a grant with this number is: the folder itself, or the folder that the file is in, where the file stands
abbrev pub place_of : Store → ℕ → Option ℕ → Option FolderId
place_of s n None = Some (record { 0 = n })
place_of s n (Some x) = folder_id_of (file_entry s x)

abbrev pub granted_place : Store → ℕ → Option FolderId
granted_place s n = place_of s n (file_of n)

-- whether that is the folder or one below it
abbrev pub is_at_or_below : Store → ℕ → Option FolderId → Bool
is_at_or_below s f None = false
is_at_or_below s f (Some g) = g.0 == f || (not (g.0 == f) && is_within s g.0 f)

-- whether the grant is the holder's, and on the folder, on one below it, or on a file in one of these
unfoldable pub names : Store → ℕ → ℕ → GrantEntry → Bool
names s h f g = g.holder == h && is_at_or_below s f (granted_place s g.folder)
