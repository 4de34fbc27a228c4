-- Which roles edges join, and numbers that fall along each edge.
use Rattle.std.specs.Prelude.{◌≡◌, ℕ, ◌+◌, ◌-◌, Bool, false, ◌&&◌, ◌||◌, ◌==◌, List, length, Option, None, Some, is_some}
use Rattle.std.specs.List.{list_any}
use Rattle.cry_base.specs.Clearances.{file_of}
use Rattle.cry_base.specs.Sets.{In}
use Rattle.cry_base.specs.Store.{Store, GrantEntry, way_to_root, folder_entry, file_entry}
use Rattle.cry_base.specs.declared.roles.Edge.{Edge}
use Rattle.cry_base.specs.declared.roles.Role.{Role}
use Rattle.cry_base.specs.declared.roles.Role.TheVariants.{Owner, Holder, Clear, Sub, Back, Files, Data, File}
use Rattle.cry_base.specs.declared.ids.FolderId.{FolderId}
use Rattle.folder_nodes.specs.Looking.{parent_id, folder_id_of}
use Rattle.grant_book.specs.Granted.{is_grant}
use Rattle.role_graph.specs.Edges.{edges, folder_edges, parent_edges, grant_edge, file_edge, clearance_edges}
use Rattle.role_graph.specs.Roles.{same_role}

-- an edge of the store leads from a to b
abbrev pub HasEdge : Store → Role → Role → Type 0
HasEdge s a b = (e : Edge) × In e (edges s) × (e.from ≡ a) × (e.to ≡ b)

-- whether the edge leads from a to b, and whether one of the edges does
unfoldable pub joins : Role → Role → Edge → Bool
joins a b e = same_role e.from a && same_role e.to b

unfoldable pub are_joined : List Edge → Role → Role → Bool
are_joined es a b = list_any (joins a b) es

-- whether the edge is among those of the folder, of the folder and its parent, that of the grant, that into the file
unfoldable pub is_within : Store → ℕ → Role → Role → Bool
is_within s f a b = is_some (folder_entry s f) && are_joined (folder_edges f) a b

abbrev pub joins_parent : ℕ → Role → Role → Option FolderId → Bool
joins_parent f a b None = false
joins_parent f a b (Some p) = are_joined (parent_edges f p.0) a b

unfoldable pub is_between : Store → ℕ → Role → Role → Bool
is_between s f a b = joins_parent f a b (parent_id (folder_entry s f))

unfoldable pub is_granted : List GrantEntry → ℕ → ℕ → Role → Role → Bool
is_granted pairs h f a b = list_any (is_grant h f) pairs && joins a b (grant_edge h f)

abbrev pub joins_file : ℕ → Role → Role → Option FolderId → Bool
joins_file x a b None = false
joins_file x a b (Some f) = joins a b (file_edge f.0 x)

unfoldable pub is_into_file : Store → ℕ → Role → Role → Bool
is_into_file s x a b = joins_file x a b (folder_id_of (file_entry s x))

-- whether it is among those of a file's clearance key, of the file with this clearance number
abbrev pub joins_clearance : ℕ → Role → Role → Option FolderId → Bool
joins_clearance x a b None = false
joins_clearance x a b (Some f) = are_joined (clearance_edges f.0 x) a b

abbrev pub joins_at_file : Store → Role → Role → Option ℕ → Bool
joins_at_file s a b None = false
joins_at_file s a b (Some x) = joins_clearance x a b (folder_id_of (file_entry s x))

unfoldable pub is_at_clearance : Store → List GrantEntry → ℕ → Role → Role → Bool
is_at_clearance s pairs c a b = list_any (λ g. g.folder == c) pairs && joins_at_file s a b (file_of c)

-- whether one of the folders, grants, files and clearances with the numbers m and n of its ends has the edge
unfoldable pub is_found : Store → List GrantEntry → ℕ → ℕ → Role → Role → Bool
is_found s pairs m n a b = is_within s n a b
    || (is_between s n a b || (is_between s m a b || (is_granted pairs m n a b || (is_into_file s n a b
    || (is_at_clearance s pairs m a b || is_at_clearance s pairs n a b)))))

-- how many folders are on the way from the folder up to the root, both included
unfoldable pub levels : Store → ℕ → ℕ
levels s f = length (way_to_root s f)

-- a role's rank: of the subfolder keys those of higher folders rank above, of the backlink keys those of lower ones
unfoldable pub rank_of : Store → Role → ℕ
rank_of s Owner = 134
rank_of s (Holder h) = 134
rank_of s (Clear f) = 133
rank_of s (Sub f) = 132 - levels s f.0
rank_of s (Back f) = 1 + levels s f.0
rank_of s (Files f) = 1
rank_of s (Data f) = 0
rank_of s (File x) = 0
