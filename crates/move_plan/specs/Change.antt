-- What a note changes among the keys. This project's own, docs/FORMAT.md, "The key step".
use Rattle.std.specs.Prelude.{ℕ, Bool, true, false, cond, not, ◌&&◌, ◌||◌, List, [], ◌∷◌, ◌++◌, map, flat_map, filter, Option, Some, None}
use Rattle.cry_base.specs.Clearances.{clear_number, file_of, is_clear_number}
use Rattle.cry_base.specs.Sets.{has}
use Rattle.cry_base.specs.Stepping.{without_grant}
use Rattle.cry_base.specs.Store.{Store, file_entry, folder_entry}
use Rattle.cry_base.specs.declared.roles.Edge.{Edge}
use Rattle.cry_base.specs.declared.roles.Role.{Role}
use Rattle.role_graph.specs.Roles.{same_role, holder_role, clear_of, sub_of, back_of, files_of, data_of, file_role, folder_roles}
use Rattle.role_graph.specs.Edges.{edge, edges, folder_edges, parent_edges, grant_edge, file_edge, clearance_edges, has_grants}
use Rattle.role_graph.specs.Edges.{in_order, edge_before}
use Rattle.rekey_walk.specs.Strict.{strict_roles}
use Rattle.record_format.specs.Noted.{Note}
use Rattle.record_format.specs.Noted.Note.{Root, NewHolder, NewFolder, NewFile, Rewrite, NameFile, NameFolder, DropFile, DropFolder}
use Rattle.record_format.specs.Noted.Note.{ShiftFile, ShiftFolder, Give, Take, StrictRoot, Upgrade}

-- the edges and roles that go, the roles that must be clean for what is added or written, those that are renewed whether or not they are
-- dirty, the roles and edges that come, and the version that the store comes to have, where that is said
pub record Change : Type 0 where
  pub removed : List Edge
  pub gone : List Role
  pub wanted : List Role
  pub strict : List Role
  pub fresh : List Role
  pub added : List Edge
  pub version : Option ℕ

-- nothing
unfoldable pub no_change : Change
no_change = record { removed = []; gone = []; wanted = []; strict = []; fresh = []; added = []; version = None }

-- the folder that a file is in, and the parent of a folder
unfoldable pub folder_of_file : Store → ℕ → ℕ
folder_of_file s x = elim (file_entry s x) [ None ↦ 0 | Some e ↦ e.folder ]

unfoldable pub parent_of_folder : Store → ℕ → ℕ
parent_of_folder s f = elim (folder_entry s f) [ None ↦ 0 | Some e ↦ e.parent ]

-- the edges with one of the roles at an end
unfoldable pub edges_at : Store → List Role → List Edge
edges_at s roles = filter (λ e. has same_role roles e.from || has same_role roles e.to) (edges s)

-- the edge from a file's clearance key to the backlink key of the folder
unfoldable pub edge_back : ℕ → ℕ → Edge
edge_back f x = edge 11 (clear_of (clear_number x)) (back_of f)

-- the clearance of a file, where it has a grant; and with it the file's own role
unfoldable pub clearance_in : Store → ℕ → List Role
clearance_in s x = cond (has_grants s (clear_number x)) (clear_of (clear_number x) ∷ []) []

unfoldable pub roles_of_file : Store → ℕ → List Role
roles_of_file s x = clearance_in s x ++ file_role x ∷ []

-- the edges that a file's move takes along: from the folder f, and where it has a grant back to it
unfoldable pub edges_with_file : Store → ℕ → ℕ → List Edge
edges_with_file s f x = file_edge f x ∷ cond (has_grants s (clear_number x)) (edge_back f x ∷ []) []

-- the edges of a new folder, with those to its parent
abbrev pub edges_of_new : ℕ → ℕ → List Edge
edges_of_new f p = in_order edge_before (folder_edges f ++ parent_edges f p)

-- the edges between a folder and its parent as they stand
abbrev pub edges_up : Store → ℕ → List Edge
edges_up s f = parent_edges f (parent_of_folder s f)

-- the root is made, in a store of this version
abbrev pub root_change : ℕ → Change
root_change version = record no_change { fresh = folder_roles 1; added = folder_edges 1; version = Some version }

-- roles go, and every edge that has one of them at an end
unfoldable pub without_roles : Store → List Role → Change
without_roles s roles = record no_change { removed = edges_at s roles; gone = roles }

-- the edges of a file's first grant, with those of its clearance
unfoldable pub edges_of_first : Store → ℕ → ℕ → List Edge
edges_of_first s h x = in_order edge_before (grant_edge h (clear_number x) ∷ clearance_edges (folder_of_file s x) x)

-- a grant on the number is a file's first one, and taking the holder's back leaves none on that file
unfoldable pub is_first_grant : Store → ℕ → Bool
is_first_grant s f = is_clear_number f && not (has_grants s f)

unfoldable pub is_last_grant : Store → ℕ → ℕ → Bool
is_last_grant s h f = is_clear_number f && not (has_grants (without_grant s h f) f)

-- the number f is granted to the holder: a folder, or the file that has it. The file's first grant makes its clearance
unfoldable pub given_on : Store → ℕ → ℕ → Option ℕ → Change
given_on s h f None = record no_change { added = grant_edge h f ∷ [] }
given_on s h f (Some x) = cond (has_grants s f)
    (record no_change { added = grant_edge h f ∷ [] })
    (record no_change { fresh = clear_of f ∷ []; added = edges_of_first s h x })

-- that grant is taken back. With the file's last grant its clearance goes
unfoldable pub taken_from : Store → ℕ → ℕ → Option ℕ → Change
taken_from s h f None = record no_change { removed = grant_edge h f ∷ []; wanted = clear_of f ∷ [] }
taken_from s h f (Some x) = cond (has_grants (without_grant s h f) f)
    (record no_change { removed = grant_edge h f ∷ []; wanted = clear_of f ∷ [] })
    (without_roles s (clear_of f ∷ []))

-- the change of each note but for strict roles, as the table in docs/FORMAT.md says
unfoldable pub row_change : Store → Note → Change
row_change s Root = root_change 1
row_change s (NewHolder h check) = record no_change { fresh = holder_role h ∷ [] }
row_change s (NewFolder f p) = record no_change { wanted = sub_of p ∷ []; fresh = folder_roles f; added = edges_of_new f p }
row_change s (NewFile x f) = record no_change { wanted = files_of f ∷ []; fresh = file_role x ∷ []; added = file_edge f x ∷ [] }
row_change s (Rewrite x) = record no_change { wanted = file_role x ∷ [] }
row_change s (NameFile x) = record no_change { wanted = file_role x ∷ [] }
row_change s (NameFolder f) = record no_change { wanted = data_of f ∷ [] }
row_change s (DropFile x) = without_roles s (roles_of_file s x)
row_change s (DropFolder f) = without_roles s (folder_roles f)
row_change s (ShiftFile x g) = record no_change {
  removed = edges_with_file s (folder_of_file s x) x;
  wanted = files_of g ∷ clearance_in s x;
  added = edges_with_file s g x;
}
row_change s (ShiftFolder g q) = record no_change { removed = edges_up s g; wanted = sub_of q ∷ back_of g ∷ []; added = parent_edges g q }
row_change s (Give h f) = given_on s h f (file_of f)
row_change s (Take h f) = taken_from s h f (file_of f)
row_change s StrictRoot = root_change 2
row_change s Upgrade = record no_change { version = Some 2 }

-- the roles that edges lead on from, in their order, since folders and files stand by number: those of the folders, and the clearances
unfoldable pub inner_roles : Store → List Role
inner_roles s =
    map (λ e. clear_of e.id) s.folders
    ++ (flat_map (λ e. clearance_in s e.id) s.files
    ++ (map (λ e. sub_of e.id) s.folders
    ++ (map (λ e. back_of e.id) s.folders
    ++ map (λ e. files_of e.id) s.folders)))

unfoldable pub is_upgrade : Note → Bool
is_upgrade Upgrade = true
is_upgrade note = false

-- the strict roles of a note with this row. Where the store becomes strict, all roles that edges lead on from; where it is strict,
-- those that lead to where a removed edge begins
unfoldable pub strict_of : Bool → Store → Note → Change → List Role
strict_of strict s note row =
    cond (is_upgrade note) (inner_roles s) (cond strict (strict_roles (edges s) row.removed row.gone) [])

-- the change of each note, in a store that is strict or isn't: strict is one of version 2
unfoldable pub change_of : Bool → Store → Note → Change
change_of strict s note = record (row_change s note) { strict = strict_of strict s note (row_change s note) }
