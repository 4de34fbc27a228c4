-- What whoever reads may see of each folder, as code lists it. This project's own, docs/FORMAT.md, "Reading".
use Rattle.std.specs.Prelude.{◌≡◌, ℕ, Bool, true, false, ◌||◌, ◌&&◌, ◌==◌, not, nat_lt, ◌-◌, List, map, Option, None, Some}
use Rattle.std.specs.HashSet.{HashSet, contains}
use Rattle.std.specs.List.{list_any}
use Rattle.cry_base.specs.Store.{Store, FolderEntry, GrantEntry, depth_of, folder_node, is_within}
use Rattle.cry_base.specs.declared.ids.FolderId.{FolderId}
use Rattle.folder_nodes.specs.declared.rows.FolderRow.{FolderRow}
use Rattle.grant_book.specs.Granted.{folders_of, is_grant}
use Rattle.log_visits.specs.declared.sights.Sight.{Sight}
use Rattle.log_visits.specs.declared.sights.Viewer.{Viewer}
use Rattle.log_visits.specs.declared.sights.Viewer.TheVariants as viewers
use Rattle.log_visits.specs.Entries.{may_all}
use Rattle.log_visits.specs.Visits.{is_entry}
use Rattle.role_graph.specs.PublicStore.{GrantsStand, granted_place}
use Rattle.role_graph.specs.Rights.{Who, allowed_to, named_to}
use Rattle.role_graph.specs.Rights.Who.{TheOwner, TheHolder}

-- who reads, as the model has it
abbrev pub plain_viewer : Viewer → Who
plain_viewer viewers.Owner = TheOwner
plain_viewer (viewers.Holder h) = TheHolder h.0

-- what whoever reads may see of a folder of a store
abbrev pub sight_of : Store → Who → FolderEntry → Sight
sight_of s who e = record {
  folder = record { 0 = e.id };
  parent = e.parent;
  depth = depth_of s (folder_node e.id);
  entry = is_entry s who e.id;
  allowed = allowed_to s who e.id;
  named = named_to s who e.id;
}

-- so of each folder
abbrev pub AreSights : Store → Who → List Sight → Type 0
AreSights s who sights = sights ≡ map (sight_of s who) s.folders

-- a holder's grants are on folders and files that stand
abbrev pub MayRead : Store → Who → Type 0
MayRead s TheOwner = Unit {0}
MayRead s (TheHolder h) = GrantsStand s

-- two numbers are the same to the sets of them
abbrev pub same_number : ℕ → ℕ → Bool
same_number a b = a == b

-- the folder is the one where a grant is, or above it
abbrev pub is_within_place : Store → ℕ → Option FolderId → Bool
is_within_place tree f None = false
is_within_place tree f (Some g) = is_within tree g.0 f

-- so of a grant on a folder or a file with this number
abbrev pub is_above : Store → ℕ → FolderId → Bool
is_above tree f n = is_within_place tree f (granted_place tree n.0)

-- the set has the folders that are granted to the holder or hold a file that is, and all above them
abbrev pub HasAbove : {S : Type 0} → Store → List GrantEntry → ℕ → HashSet ℕ S → Type 0
HasAbove tree pairs h above = (f : ℕ) → contains same_number above f
    ≡ list_any (is_above tree f) (folders_of pairs h)

-- as code looks it up of a row
abbrev pub owners_sight : Store → FolderRow → Sight
owners_sight tree r = record {
  folder = r.id;
  parent = r.parent;
  depth = depth_of tree (folder_node r.id.0);
  entry = true;
  allowed = true;
  named = true;
}

abbrev pub holders_sight : Store → List GrantEntry → ℕ → FolderRow → Sight
holders_sight tree pairs h r = record {
  folder = r.id;
  parent = r.parent;
  depth = depth_of tree (folder_node r.id.0);
  entry = list_any (is_grant h r.id.0) pairs;
  allowed = may_all tree pairs h r.id.0;
  named = may_all tree pairs h r.id.0 || list_any (is_above tree r.id.0) (folders_of pairs h);
}

-- the folder is come into from the one that it is in; it is named alone
abbrev pub is_lower : Sight → Bool
is_lower x = x.allowed && not x.entry

abbrev pub is_upper : Sight → Bool
is_upper x = x.named && not x.allowed

-- the folder stands less deep, deeper, or as deep with a lower number
abbrev pub is_shallower : Sight → Sight → Bool
is_shallower a b = nat_lt a.depth b.depth || ((a.depth == b.depth) && nat_lt a.folder.0 b.folder.0)

abbrev pub is_deeper : Sight → Sight → Bool
is_deeper a b = nat_lt (4294967295 - a.depth) (4294967295 - b.depth)
    || ((4294967295 - a.depth == 4294967295 - b.depth) && nat_lt a.folder.0 b.folder.0)

-- the folder is named, and stands in this one
abbrev pub is_child : ℕ → Sight → Bool
is_child f x = x.named && (x.parent == f)

-- the folder is this one, and all in it may be read
abbrev pub opens : ℕ → Sight → Bool
opens f x = x.allowed && (x.folder.0 == f)
