-- Who may read what, by the tree and the grants alone. No key is mentioned here.
use Rattle.std.specs.Prelude.{◌≡◌, ℕ, Bool, true, false, ◌||◌, ◌==◌, ◌⊎◌, List, ◌++◌, map, filter, Option, Some, None}
use Rattle.cry_base.specs.Clearances.{clear_number}
use Rattle.cry_base.specs.Sets.{In, Path, has, reach}
use Rattle.cry_base.specs.Store.{Store, GrantEntry, FileEntry, FolderEntry, file_entry, folder_entry, has_grant}
use Rattle.cry_base.specs.declared.roles.Node.{Node}
use Rattle.cry_base.specs.declared.roles.Node.TheVariants.{Folder, File}

-- each folder's parent with the folder; each folder with its parent, and each file's clearance number with its folder
unfoldable pub downs : Store → List (ℕ × ℕ)
downs s = map (λ e. (e.parent, e.id)) s.folders

unfoldable pub ups : Store → List (ℕ × ℕ)
ups s = map (λ e. (e.id, e.parent)) s.folders ++ map (λ e. (clear_number e.id, e.folder)) s.files

-- the holder has a grant on that very folder, or on the file with that clearance number
abbrev pub IsGranted : Store → ℕ → ℕ → Type 0
IsGranted s h g = In (let e : GrantEntry = record { holder = h; folder = g } in e) s.grants

-- the folder is allowed to the holder: a grant stands on it or on a folder above it
abbrev pub IsAllowed : Store → ℕ → ℕ → Type 0
IsAllowed s h f = (g : ℕ) × IsGranted s h g × Path (downs s) g f

-- the folder's name is shown to the holder: it is allowed, or stands above a folder or a file with a grant
abbrev pub IsNamed : Store → ℕ → ℕ → Type 0
IsNamed s h f = IsAllowed s h f ⊎ ((g : ℕ) × IsGranted s h g × Path (ups s) g f)

-- the file is allowed to the holder: its folder is, or a grant stands on the file itself
abbrev pub IsFileAllowed : Store → ℕ → FileEntry → Type 0
IsFileAllowed s h e = IsAllowed s h e.folder ⊎ IsGranted s h (clear_number e.id)

-- who looks: the owner, or a holder by number
pub data Who : Type 0 where
  TheOwner : Who
  TheHolder : (number : ℕ) → Who

-- the same for whoever looks: the owner is allowed everything
abbrev pub IsAllowedTo : Store → Who → ℕ → Type 0
IsAllowedTo s TheOwner f = Unit {0}
IsAllowedTo s (TheHolder h) f = IsAllowed s h f

abbrev pub IsNamedTo : Store → Who → ℕ → Type 0
IsNamedTo s TheOwner f = Unit {0}
IsNamedTo s (TheHolder h) f = IsNamed s h f

abbrev pub IsFileAllowedTo : Store → Who → FileEntry → Type 0
IsFileAllowedTo s TheOwner e = Unit {0}
IsFileAllowedTo s (TheHolder h) e = IsFileAllowed s h e

-- the object stands, and is shown: a folder where it is named, a file where it is allowed
abbrev pub IsShown : Store → Who → Node → Type 0
IsShown s who (Folder f) = (e : FolderEntry) × (folder_entry s f.0 ≡ Some e) × IsNamedTo s who f.0
IsShown s who (File x) = (e : FileEntry) × (file_entry s x.0 ≡ Some e) × IsFileAllowedTo s who e

-- the object stands, and is allowed
abbrev pub IsOpen : Store → Who → Node → Type 0
IsOpen s who (Folder f) = (e : FolderEntry) × (folder_entry s f.0 ≡ Some e) × IsAllowedTo s who f.0
IsOpen s who (File x) = (e : FileEntry) × (file_entry s x.0 ≡ Some e) × IsFileAllowedTo s who e

-- the numbers of the folders and files on which the holder has a grant
unfoldable pub granted_to : Store → ℕ → List ℕ
granted_to s h = map (λ g. g.folder) (filter (λ g. g.holder == h) s.grants)

-- whether the folder is allowed, is named; whether the file is allowed
unfoldable pub allowed : Store → ℕ → ℕ → Bool
allowed s h f = has ◌==◌ (reach ◌==◌ (downs s) (granted_to s h)) f

unfoldable pub named : Store → ℕ → ℕ → Bool
named s h f = allowed s h f || has ◌==◌ (reach ◌==◌ (ups s) (granted_to s h)) f

unfoldable pub file_allowed : Store → ℕ → FileEntry → Bool
file_allowed s h e = allowed s h e.folder || has_grant s h (clear_number e.id)

unfoldable pub allowed_to : Store → Who → ℕ → Bool
allowed_to s TheOwner f = true
allowed_to s (TheHolder h) f = allowed s h f

unfoldable pub named_to : Store → Who → ℕ → Bool
named_to s TheOwner f = true
named_to s (TheHolder h) f = named s h f

unfoldable pub file_allowed_to : Store → Who → FileEntry → Bool
file_allowed_to s TheOwner e = true
file_allowed_to s (TheHolder h) e = file_allowed s h e

-- whether there is one, and it passes
unfoldable pub is_some_and : {X : Type 0} → Option X → (X → Bool) → Bool
is_some_and None test = false
is_some_and (Some x) test = test x

-- whether a standing object is shown, is allowed
unfoldable pub shown : Store → Who → Node → Bool
shown s who (Folder f) = is_some_and (folder_entry s f.0) (λ e. named_to s who f.0)
shown s who (File x) = is_some_and (file_entry s x.0) (file_allowed_to s who)

unfoldable pub node_allowed : Store → Who → Node → Bool
node_allowed s who (Folder f) = is_some_and (folder_entry s f.0) (λ e. allowed_to s who f.0)
node_allowed s who (File x) = is_some_and (file_entry s x.0) (file_allowed_to s who)
