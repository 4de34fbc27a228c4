-- What a holder's key leads to, by the rights that the holder has.
use Rattle.std.specs.Prelude.{◌≡◌, ◌≢◌, ℕ, ◌<◌, ◌⊎◌, IsTrue}
use Rattle.cry_base.specs.Clearances.{clear_base, clear_number}
use Rattle.cry_base.specs.Sets.{In}
use Rattle.cry_base.specs.Store.{Store, FolderEntry, FileEntry, GrantEntry}
use Rattle.cry_base.specs.declared.roles.Role.{Role}
use Rattle.cry_base.specs.declared.roles.Role.TheVariants.{Owner, Holder, Clear, Sub, Back, Files, Data, File}
use Rattle.role_graph.specs.Edges.{has_grants}
use Rattle.role_graph.specs.Rights.{IsGranted, IsAllowed, IsNamed, IsFileAllowed}

-- a folder has this number
abbrev pub HasFolder : Store → ℕ → Type 0
HasFolder s f = (e : FolderEntry) × In e s.folders × (e.id ≡ f)

-- a file has this clearance number; and somebody has a grant on it
abbrev pub HasClearNumber : Store → ℕ → Type 0
HasClearNumber s c = (e : FileEntry) × In e s.files × (clear_number e.id ≡ c)

abbrev pub IsClearance : Store → ℕ → Type 0
IsClearance s c = HasClearNumber s c × IsTrue (has_grants s c)

-- the rights that a role stands for: the very grant, what is allowed, what is named, a file that is allowed
abbrev pub IsRightful : Store → ℕ → Role → Type 0
IsRightful s h Owner = ⊥
IsRightful s h (Holder k) = k.0 ≡ h
IsRightful s h (Clear f) = IsGranted s h f.0
IsRightful s h (Sub f) = IsAllowed s h f.0
IsRightful s h (Back f) = IsNamed s h f.0
IsRightful s h (Files f) = IsAllowed s h f.0
IsRightful s h (Data f) = IsNamed s h f.0
IsRightful s h (File x) = (e : FileEntry) × In e s.files × (e.id ≡ x.0) × IsFileAllowed s h e

-- the role is of a folder or file that stands, the clearance of a file with a grant, or a holder's
abbrev pub IsStandingRole : Store → Role → Type 0
IsStandingRole s Owner = Unit {0}
IsStandingRole s (Holder k) = Unit {0}
IsStandingRole s (Clear f) = HasFolder s f.0 ⊎ IsClearance s f.0
IsStandingRole s (Sub f) = HasFolder s f.0
IsStandingRole s (Back f) = HasFolder s f.0
IsStandingRole s (Files f) = HasFolder s f.0
IsStandingRole s (Data f) = HasFolder s f.0
IsStandingRole s (File x) = (e : FileEntry) × In e s.files × (e.id ≡ x.0)

-- a grant may be on the number: a folder that stands has it, or a file that stands has it as its clearance number
abbrev pub MayBeGranted : Store → ℕ → Type 0
MayBeGranted s n = HasFolder s n ⊎ HasClearNumber s n

-- what the law needs of a store: folders have numbers of their own, none is 0, grants are on what stands, and no number
-- that a folder has or is in, or a file is in, is a clearance number
pub record IsSettled (s : Store) : Type 0 where
  pub own_parent : (a b : FolderEntry) → In a s.folders → In b s.folders → a.id ≡ b.id → a.parent ≡ b.parent
  pub no_zero : (e : FolderEntry) → In e s.folders → e.id ≢ 0
  pub granted_stands : (g : GrantEntry) → In g s.grants → MayBeGranted s g.folder
  pub folders_below : (e : FolderEntry) → In e s.folders → (e.id < clear_base) × (e.parent < clear_base)
  pub files_below : (e : FileEntry) → In e s.files → e.folder < clear_base
