-- When a change of a tree may be made.
use Rattle.std.specs.Prelude.{◌≡◌, ◌≢◌, ℕ, ◌+◌, ◌<◌, ◌≤◌, false, Option, Some, None, IsSome}
use Rattle.cry_base.specs.Limits.{most_depth}
use Rattle.cry_base.specs.Refusing.{has_child, height_of}
use Rattle.cry_base.specs.Store.{Store, folder_entry, file_entry, folder_node, depth_of, is_within}
use Rattle.cry_base.specs.declared.ids.FolderId.{FolderId}
use Rattle.cry_base.specs.declared.roles.Node.{Node}
use Rattle.cry_base.specs.declared.roles.Node.TheVariants.{Folder, File}

-- the folder stands, and something may be put into it
abbrev pub HasPlace : Store → ℕ → Type 0
HasPlace s f = IsSome (folder_entry s f) × (depth_of s (folder_node f) < most_depth)

-- a folder may be put there: the root where no folder was ever made
abbrev pub HasPlaceFor : Store → Option FolderId → Type 0
HasPlaceFor s None = s.folders_made ≡ 0
HasPlaceFor s (Some p) = HasPlace s p.0

-- the number of the folder, and 0 where there is none
abbrev pub number_of : Option FolderId → ℕ
number_of None = 0
number_of (Some f) = f.0

-- the node stands, isn't the root, and has no child
abbrev pub CanRemove : Store → Node → Type 0
CanRemove s (Folder f) = IsSome (folder_entry s f.0) × (f.0 ≢ 1) × (has_child s f.0 ≡ false)
CanRemove s (File x) = IsSome (file_entry s x.0)

-- the folder g may go into q: neither is above the other's place, and no node comes to stand too deep
abbrev pub CanShift : Store → ℕ → ℕ → Type 0
CanShift s g q =
    IsSome (folder_entry s g) × (g ≢ 1) × IsSome (folder_entry s q) × (is_within s q g ≡ false)
    × (depth_of s (folder_node q) + 1 + height_of s (Some (folder_node g)) ≤ most_depth)

-- the node may go into the folder
abbrev pub CanMove : Store → Node → ℕ → Type 0
CanMove s (Folder g) q = CanShift s g.0 q
CanMove s (File x) q = IsSome (file_entry s x.0) × HasPlace s q
