-- When a command is refused. This project's own, docs/FORMAT.md: the causes are tested in this order.
use Rattle.std.specs.Prelude.{ℕ, ◌+◌, ◌-◌, max, Bool, true, false, cond, not, ◌&&◌, ◌||◌, nat_lt, ◌==◌, List, [], ◌∷◌, map, length, find}
use Rattle.std.specs.Prelude.{fold, Option, Some, None, option_map, is_some, is_none, bytes_eq}
use Rattle.std.specs.List.{list_any, list_all}
use Rattle.cry_base.specs.Clearances.{clear_number}
use Rattle.cry_base.specs.Limits.{most_depth}
use Rattle.cry_base.specs.Naming.{is_name, is_path, is_root_path, parent_path, names_of}
use Rattle.cry_base.specs.Requests.{Request, paths_of}
use Rattle.cry_base.specs.Requests.Request.{AddHolder, MakeFolder, WriteFile, Remove, Rename, Relocate, Grant, Revoke}
use Rattle.cry_base.specs.Store.{Store, folder_entry, file_entry, holder_entry, has_grant, depth_of, nodes_of, node_at, is_within}
use Rattle.cry_base.specs.declared.commands.Refusal.{Refusal}
use Rattle.cry_base.specs.declared.commands.Refusal.TheVariants.{BadName, NoPath, IsRoot, NotFolder, IsFolder, Exists, NotEmpty}
use Rattle.cry_base.specs.declared.commands.Refusal.TheVariants.{InsideItself, TooDeep, NoHolder, HasGrant, NoGrant, TooLong}
use Rattle.cry_base.specs.declared.roles.Node.{Node}
use Rattle.cry_base.specs.declared.roles.Node.TheVariants.{Folder, File}

-- what the path finds is a folder, is a file
unfoldable pub is_folder : Option Node → Bool
is_folder None = false
is_folder (Some (Folder f)) = true
is_folder (Some (File x)) = false

unfoldable pub is_file : Option Node → Bool
is_file None = false
is_file (Some (Folder f)) = false
is_file (Some (File x)) = true

-- the number of the folder or file, and 0 where there is none
unfoldable pub id_of : Option Node → ℕ
id_of None = 0
id_of (Some (Folder f)) = f.0
id_of (Some (File x)) = x.0

-- the number by which a grant names it: the folder's, or the file's clearance number
unfoldable pub granted_id : Option Node → ℕ
granted_id None = 0
granted_id (Some (Folder f)) = f.0
granted_id (Some (File x)) = clear_number x.0

-- 1: a path isn't of path form, or the new name isn't a name
unfoldable pub has_bad_name : Request → Bool
has_bad_name (Rename path name) = not (is_path path && is_name name)
has_bad_name r = not (list_all is_path (paths_of r))

-- the path isn't the root's, and nothing is where its node would be put
unfoldable pub has_no_place : Store → List ℕ → Bool
has_no_place s path = not (is_root_path path) && is_none (node_at s (parent_path path))

-- 2: the folder of the new node, or what a path is to find, isn't there
unfoldable pub finds_no_path : Store → Request → Bool
finds_no_path s (MakeFolder path) = has_no_place s path
finds_no_path s (WriteFile path bytes) = has_no_place s path
finds_no_path s r = list_any (λ path. is_none (node_at s path)) (paths_of r)

-- 3: the root is to be made, written, removed, renamed or moved
unfoldable pub changes_root : Request → Bool
changes_root AddHolder = false
changes_root (MakeFolder path) = is_root_path path
changes_root (WriteFile path bytes) = is_root_path path
changes_root (Remove path) = is_root_path path
changes_root (Rename path name) = is_root_path path
changes_root (Relocate path into) = is_root_path path
changes_root (Grant holder path) = false
changes_root (Revoke holder path) = false

-- 4: a file stands where a folder is due
unfoldable pub needs_folder : Store → Request → Bool
needs_folder s AddHolder = false
needs_folder s (MakeFolder path) = is_file (node_at s (parent_path path))
needs_folder s (WriteFile path bytes) = is_file (node_at s (parent_path path))
needs_folder s (Remove path) = false
needs_folder s (Rename path name) = false
needs_folder s (Relocate path into) = is_file (node_at s into)
needs_folder s (Grant holder path) = false
needs_folder s (Revoke holder path) = false

-- a grant on a file is to be given or taken back
unfoldable pub grants_on_file : Store → Request → Bool
grants_on_file s (Grant holder path) = is_file (node_at s path)
grants_on_file s (Revoke holder path) = is_file (node_at s path)
grants_on_file s r = false

-- 5: a folder is to be written
unfoldable pub writes_folder : Store → Request → Bool
writes_folder s (WriteFile path bytes) = is_folder (node_at s path)
writes_folder s r = false

-- whether a folder or file in the folder has the name
unfoldable pub holds_name : Store → ℕ → List ℕ → Bool
holds_name s f name = list_any (λ e. e.parent == f && bytes_eq e.name name) s.folders
    || list_any (λ e. e.folder == f && bytes_eq e.name name) s.files

-- the folder that a node is in, and its name
unfoldable pub parent_of : Store → Option Node → ℕ
parent_of s None = 0
parent_of s (Some (Folder f)) = elim (folder_entry s f.0) [ None ↦ 0 | Some e ↦ e.parent ]
parent_of s (Some (File x)) = elim (file_entry s x.0) [ None ↦ 0 | Some e ↦ e.folder ]

unfoldable pub name_of : Store → Option Node → List ℕ
name_of s None = []
name_of s (Some (Folder f)) = elim (folder_entry s f.0) [ None ↦ [] | Some e ↦ e.name ]
name_of s (Some (File x)) = elim (file_entry s x.0) [ None ↦ [] | Some e ↦ e.name ]

-- 6: the name is taken in the folder where it is due
unfoldable pub finds_name_taken : Store → Request → Bool
finds_name_taken s AddHolder = false
finds_name_taken s (MakeFolder path) = is_some (node_at s path)
finds_name_taken s (WriteFile path bytes) = false
finds_name_taken s (Remove path) = false
finds_name_taken s (Rename path name) = holds_name s (parent_of s (node_at s path)) name
finds_name_taken s (Relocate path into) = holds_name s (id_of (node_at s into)) (name_of s (node_at s path))
finds_name_taken s (Grant holder path) = false
finds_name_taken s (Revoke holder path) = false

-- whether a folder or file is in the folder
unfoldable pub has_child : Store → ℕ → Bool
has_child s f = list_any (λ e. e.parent == f) s.folders || list_any (λ e. e.folder == f) s.files

-- 7: a folder with a child is to be removed
unfoldable pub removes_children : Store → Request → Bool
removes_children s (Remove path) = is_folder (node_at s path) && has_child s (id_of (node_at s path))
removes_children s r = false

-- 8: a folder is to be moved into itself or under itself
unfoldable pub moves_into_itself : Store → Request → Bool
moves_into_itself s (Relocate path into) = is_folder (node_at s path) && is_within s (id_of (node_at s into)) (id_of (node_at s path))
moves_into_itself s r = false

-- the nodes of the folder and of all below it
unfoldable pub is_node_within : Store → ℕ → Node → Bool
is_node_within s f (Folder g) = is_within s g.0 f
is_node_within s f (File x) = elim (file_entry s x.0) [ None ↦ false | Some e ↦ is_within s e.folder f ]

-- the depth of the deepest node of a folder
unfoldable pub deepest : Store → ℕ → ℕ
deepest s f = fold max 0 (map (λ node. cond (is_node_within s f node) (depth_of s node) 0) (nodes_of s))

-- levels from the node down to its deepest one: none below a file
unfoldable pub height_of : Store → Option Node → ℕ
height_of s None = 0
height_of s (Some (Folder f)) = deepest s f.0 - depth_of s (Folder f)
height_of s (Some (File x)) = 0

-- the depth of what the path finds
unfoldable pub depth_at : Store → List ℕ → ℕ
depth_at s path = elim (node_at s path) [ None ↦ 0 | Some node ↦ depth_of s node ]

-- 9: a node would stand more than 64 names below the root
unfoldable pub goes_too_deep : Store → Request → Bool
goes_too_deep s AddHolder = false
goes_too_deep s (MakeFolder path) = nat_lt most_depth (length (names_of path))
goes_too_deep s (WriteFile path bytes) = nat_lt most_depth (length (names_of path))
goes_too_deep s (Remove path) = false
goes_too_deep s (Rename path name) = false
goes_too_deep s (Relocate path into) = nat_lt most_depth (depth_at s into + 1 + height_of s (node_at s path))
goes_too_deep s (Grant holder path) = false
goes_too_deep s (Revoke holder path) = false

-- 10: no holder has the number
unfoldable pub finds_no_holder : Store → Request → Bool
finds_no_holder s (Grant holder path) = is_none (holder_entry s holder)
finds_no_holder s (Revoke holder path) = is_none (holder_entry s holder)
finds_no_holder s r = false

-- 11: the grant stands already
unfoldable pub grants_again : Store → Request → Bool
grants_again s (Grant holder path) = has_grant s holder (granted_id (node_at s path))
grants_again s r = false

-- 12: the grant doesn't stand
unfoldable pub revokes_nothing : Store → Request → Bool
revokes_nothing s (Revoke holder path) = not (has_grant s holder (granted_id (node_at s path)))
revokes_nothing s r = false

-- 13: more bytes than a file may have
unfoldable pub is_too_long : ℕ → Request → Bool
is_too_long file_bytes (WriteFile path bytes) = nat_lt file_bytes (length bytes)
is_too_long file_bytes r = false

-- each cause with whether it applies, in the order in which they are tested; whether the fourth applies is given
abbrev pub causes_with : Bool → Store → Request → ℕ → List (Bool × Refusal)
causes_with lacks_folder s r file_bytes =
    (has_bad_name r, BadName)
    ∷ (finds_no_path s r, NoPath)
    ∷ (changes_root r, IsRoot)
    ∷ (lacks_folder, NotFolder)
    ∷ (writes_folder s r, IsFolder)
    ∷ (finds_name_taken s r, Exists)
    ∷ (removes_children s r, NotEmpty)
    ∷ (moves_into_itself s r, InsideItself)
    ∷ (goes_too_deep s r, TooDeep)
    ∷ (finds_no_holder s r, NoHolder)
    ∷ (grants_again s r, HasGrant)
    ∷ (revokes_nothing s r, NoGrant)
    ∷ (is_too_long file_bytes r, TooLong)
    ∷ []

unfoldable pub causes : Store → Request → ℕ → List (Bool × Refusal)
causes s r file_bytes = causes_with (needs_folder s r) s r file_bytes

-- the first cause that applies
unfoldable pub refusal_of : Store → Request → ℕ → Option Refusal
refusal_of s r file_bytes = option_map (λ cause. cause.1) (find (λ cause. cause.0) (causes s r file_bytes))

-- the causes in a store of version 1, where strict is false: it knows no grant on a file, so a folder is due there
unfoldable pub causes_in : Bool → Store → Request → ℕ → List (Bool × Refusal)
causes_in strict s r file_bytes = causes_with ((grants_on_file s r && not strict) || needs_folder s r) s r file_bytes

-- the first cause that applies in a store of the version
unfoldable pub refusal_in : Bool → Store → Request → ℕ → Option Refusal
refusal_in strict s r file_bytes = option_map (λ cause. cause.1) (find (λ cause. cause.0) (causes_in strict s r file_bytes))
