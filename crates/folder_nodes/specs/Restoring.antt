-- What rows are tested for before they are taken for a tree.
use Rattle.std.specs.Prelude.{ℕ, Bool, cond, ◌&&◌, ◌||◌, ◌==◌, nat_le, List, length, find, is_some}
use Rattle.cry_base.specs.Limits.{most_depth, most_way, way_turns}
use Rattle.cry_base.specs.Store.{FolderEntry, way_up}

-- from 1 up to the count
abbrev pub is_numbered : ℕ → ℕ → Bool
is_numbered made id = nat_le 1 id && nat_le id made

-- a folder has the number
abbrev pub stands_among : List FolderEntry → ℕ → Bool
stands_among folders f = is_some (find (λ (e : FolderEntry). e.id == f) folders)

-- the root stands, where any folder was made
abbrev pub has_root : List FolderEntry → ℕ → Bool
has_root folders made = made == 0 || stands_among folders 1

-- the root has no parent, and another folder has one
abbrev pub has_its_parent : List FolderEntry → FolderEntry → Bool
has_its_parent folders e = cond (e.id == 1) (e.parent == 0) (stands_among folders e.parent)

-- it is so, and at most 65 folders are on the way up
abbrev pub is_placed : List FolderEntry → FolderEntry → Bool
is_placed folders e = has_its_parent folders e && nat_le (length (way_up way_turns folders e.id)) most_way

-- the file's folder stands, and at most 64 folders are on its way up
abbrev pub is_file_placed : List FolderEntry → ℕ → Bool
is_file_placed folders f = stands_among folders f && nat_le (length (way_up way_turns folders f)) most_depth
