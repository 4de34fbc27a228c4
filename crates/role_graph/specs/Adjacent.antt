-- The edges at a role, and how many edges a walk meets.
use Rattle.std.specs.Prelude.{◌≡◌, ◌↔◌, ℕ, Bool, false, not, cond, ◌==◌, List, [], ◌∷◌, ◌++◌, map, flat_map, filter, length}
use Rattle.std.specs.Prelude.{Option, Some, None, is_some}
use Rattle.cry_base.specs.Clearances.{clear_number}
use Rattle.cry_base.specs.Sets.{In, has}
use Rattle.cry_base.specs.Store.{Store, FolderEntry, folder_entry}
use Rattle.cry_base.specs.declared.roles.Edge.{Edge}
use Rattle.cry_base.specs.declared.roles.Role.{Role}
use Rattle.role_graph.specs.Closing.{turned}
use Rattle.role_graph.specs.Edges.{same_edge, clearance_edges, file_edge, folder_edges, grant_edge, has_grants, parent_edges}
use Rattle.role_graph.specs.Roles.{same_role}
use Rattle.role_graph.specs.declared.way.Way.{Way}
use Rattle.role_graph.specs.declared.way.Way.TheVariants.{Along, Against}

-- of the edges of a store those of folders, grants and files themselves, and those of files' clearance keys
unfoldable pub plain_edges : Store → List Edge
plain_edges s =
    flat_map (λ e. folder_edges e.id) s.folders
    ++ flat_map (λ e. cond (e.parent == 0) [] (parent_edges e.id e.parent)) s.folders
    ++ map (λ g. grant_edge g.holder g.folder) s.grants
    ++ map (λ e. file_edge e.folder e.id) s.files

unfoldable pub clearances : Store → List Edge
clearances s = flat_map (λ e. cond (has_grants s (clear_number e.id)) (clearance_edges e.folder e.id) []) s.files

-- the edges out of the role, and those into it
unfoldable pub out_of : List Edge → Role → List Edge
out_of es r = filter (λ e. same_role e.from r) es

unfoldable pub into : List Edge → Role → List Edge
into es r = filter (λ e. same_role e.to r) es

-- the edges out of the role and those into it; and for each of the roles, one after another
unfoldable pub at_role : List Edge → Role → List Edge
at_role es r = out_of es r ++ into es r

unfoldable pub at_roles : List Edge → List Role → List Edge
at_roles es rs = flat_map (at_role es) rs

-- whether the edge is as the one before it; and the edges without those that are as the one before
unfoldable pub is_repeat : Option Edge → Edge → Bool
is_repeat None e = false
is_repeat (Some last) e = same_edge last e

unfoldable pub once_after : Option Edge → List Edge → List Edge
once_after last [] = []
once_after last (e ∷ es) = cond (is_repeat last e) (once_after (Some e) es) (e ∷ once_after (Some e) es)

-- the edges without some
unfoldable pub edges_but : List Edge → List Edge → List Edge
edges_but removed es = filter (λ e. not (has same_edge removed e)) es

-- the edges as a walk goes: along them, or each the other way round
abbrev pub as_walked : Way → List Edge → List Edge
as_walked Along es = es
as_walked Against es = turned es

-- where a walk goes on from the role
unfoldable pub ends_from : List Edge → Role → List Role
ends_from es r = map (λ e. e.to) (out_of es r)

-- the edges that end in the set, and the roles that are in it. Where there is no set, all
unfoldable pub ending_in : Option (List Role) → List Edge → List Edge
ending_in None es = es
ending_in (Some set) es = filter (λ e. has same_role set e.to) es

unfoldable pub roles_in : Option (List Role) → List Role → List Role
roles_in None rs = rs
roles_in (Some set) rs = filter (has same_role set) rs

-- how many edges lead out of the roles, and how many into them
unfoldable pub count_from : List Edge → List Role → ℕ
count_from es rs = length (filter (λ e. has same_role rs e.from) es)

unfoldable pub count_into : List Edge → List Role → ℕ
count_into es rs = length (filter (λ e. has same_role rs e.to) es)

-- the edges, where the folder stands
unfoldable pub where_stands : Store → ℕ → List Edge → List Edge
where_stands s f es = cond (is_some (folder_entry s f)) es []

-- the folders in the folder, by number. None is in the number 0, which is the root's parent
abbrev pub children_of : Store → ℕ → List FolderEntry
children_of s f = cond (f == 0) [] (filter (λ e. e.parent == f) s.folders)

abbrev pub AreChildren : Store → ℕ → List ℕ → Type 0
AreChildren s f ids = ids ≡ map (λ (e : FolderEntry). e.id) (children_of s f)

-- the roles with one more behind them, where it isn't there; and with more, one after another
unfoldable pub grown_by : List Role → Role → List Role
grown_by fs r = cond (has same_role fs r) fs (fs ++ r ∷ [])

unfoldable pub with_new : List Role → List Role → List Role
with_new fs [] = fs
with_new fs (r ∷ rs) = with_new (grown_by fs r) rs

-- both have the same roles
abbrev pub HaveSame : List Role → List Role → Type 0
HaveSame fs rs = (r : Role) → In r fs ↔ In r rs
