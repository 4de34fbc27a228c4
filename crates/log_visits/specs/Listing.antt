-- The visits of whoever reads, as code lists them.
use Rattle.std.specs.Prelude.{◌≡◌, ◌==◌, ℕ, List, [], ◌∷◌, ◌++◌, cond, filter, find, map, Bool, Option, Some, None}
use Rattle.std.specs.HashMap.{HashMap, get}
use Rattle.std.specs.List.{flat_map, list_any}
use Rattle.cry_base.specs.Clearances.{clear_number}
use Rattle.cry_base.specs.Store.{GrantEntry}
use Rattle.cry_base.specs.declared.ids.FileId.{FileId}
use Rattle.cry_base.specs.declared.ids.FolderId.{FolderId}
use Rattle.cry_base.specs.declared.roles.Edge.{Edge}
use Rattle.cry_base.specs.declared.roles.Role.TheVariants.{Owner, Holder, Clear, Sub, Back, Files, Data, File}
use Rattle.folder_nodes.specs.declared.rows.FileRow.{FileRow}
use Rattle.log_visits.specs.declared.entry_files.EntryFile.{EntryFile}
use Rattle.log_visits.specs.declared.sights.Sight.{Sight}
use Rattle.log_visits.specs.declared.sights.Viewer.{Viewer}
use Rattle.log_visits.specs.declared.sights.Viewer.TheVariants as viewers
use Rattle.log_visits.specs.declared.visit_list.Part.{Part}
use Rattle.log_visits.specs.declared.visit_list.Part.TheVariants.{Entry, Ways, Title}
use Rattle.log_visits.specs.declared.visit_list.Visit.{Visit as Listed}
use Rattle.log_visits.specs.declared.visit_list.Visit.TheVariants as listed
use Rattle.log_visits.specs.Sights.{is_deeper, is_lower, is_shallower, is_upper, same_number}
use Rattle.role_graph.specs.Edges.{edge, in_order}
use Rattle.role_graph.specs.Roles.{role_id}

-- the link by which whoever reads comes into a folder
abbrev pub entry_link : Viewer → FolderId → Listed
entry_link viewers.Owner f = listed.Link (edge 1 Owner (Clear f))
entry_link (viewers.Holder h) f = listed.Link (edge 2 (Holder h) (Clear f))

-- the two visits of a part of a folder: into it, on to what is beside it, and the name; and those of a file
abbrev pub folder_part : Viewer → Part → FolderId → List Listed
folder_part viewer Entry f = entry_link viewer f ∷ listed.Link (edge 3 (Clear f) (Sub f)) ∷ []
folder_part viewer Ways f = listed.Link (edge 4 (Sub f) (Back f)) ∷ listed.Link (edge 5 (Sub f) (Files f)) ∷ []
folder_part viewer Title f = listed.Link (edge 7 (Back f) (Data f)) ∷ listed.Name f ∷ []

abbrev pub file_part : FolderId → FileId → List Listed
file_part f x = listed.Link (edge 9 (Files f) (File x)) ∷ listed.Bytes x ∷ []

-- whether the folder has the part for whoever reads, and the two visits if it has
abbrev pub has_part : Part → Sight → Bool
has_part Entry x = x.entry
has_part Ways x = x.allowed
has_part Title x = x.named

abbrev pub part_of : Viewer → Part → Sight → List Listed
part_of viewer part x = cond (has_part part x) (folder_part viewer part x.folder) []

-- from the folder that it is in
abbrev pub from_parent : Sight → Listed
from_parent x = listed.Link (edge 6 (Sub (record { 0 = x.parent })) (Sub x.folder))

-- into the clearance of an entry file
abbrev pub entry_file_link : Viewer → EntryFile → Listed
entry_file_link viewer x = entry_link viewer x.clearance

-- the edge up from a folder where it is named, and from an entry file; and those of all, the folders' before the files'
abbrev pub child_edges : Sight → List Edge
child_edges x = cond x.named (edge 8 (Back x.folder) (Back (record { 0 = x.parent })) ∷ []) []

abbrev pub entry_up : EntryFile → Edge
entry_up x = edge 11 (Clear x.clearance) (Back x.folder)

abbrev pub edges_up : List Sight → List EntryFile → List Edge
edges_up sights entries = flat_map child_edges sights ++ map entry_up entries

-- the edge leads to the role of the folder
abbrev pub leads_up : ℕ → Edge → Bool
leads_up f e = role_id e.to == f

-- the map has for each folder the first of these edges that leads up into it
abbrev pub AreFirst : {S : Type 0} → HashMap ℕ Edge S → List Edge → Type 0
AreFirst first ups = (f : ℕ) → get same_number first f ≡ find (leads_up f) ups

-- up into the folder, by the first edge
abbrev pub up_by : Option Edge → List Listed
up_by None = []
up_by (Some e) = listed.Link e ∷ []

abbrev pub from_below : List Edge → FolderId → List Listed
from_below ups f = up_by (find (leads_up f.0) ups)

-- the owner's visit into the clearance of a file, where somebody has a grant on it
abbrev pub clearance_of : List GrantEntry → FileRow → List Listed
clearance_of pairs r = cond (list_any (λ (g : GrantEntry). g.folder == clear_number r.id.0) pairs)
    (listed.Link (edge 1 Owner (Clear (record { 0 = clear_number r.id.0 }))) ∷ []) []

-- all visits up to the names
abbrev pub listed_to_names : Viewer → List Sight → List EntryFile → List Listed
listed_to_names viewer sights entries =
    (flat_map (part_of viewer Entry) sights ++ map (entry_file_link viewer) entries)
    ++ (map from_parent (in_order is_shallower (filter is_lower sights))
    ++ (flat_map (part_of viewer Ways) sights
    ++ (flat_map (λ (x : Sight). from_below (edges_up sights entries) x.folder) (in_order is_deeper (filter is_upper sights))
    ++ flat_map (part_of viewer Title) sights)))
