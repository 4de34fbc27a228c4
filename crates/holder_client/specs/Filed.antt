-- Files that were read, beside the names of folders that were opened. This project's own, docs/FORMAT.md, "Reading".
use Rattle.std.specs.Prelude.{◌≡◌, ◌==◌, ◌||◌, ℕ, Bool, true, List, [], ◌∷◌, Option, None, Some, Result, Ok, find, option_map}
use Rattle.std.specs.HashMap.{HashMap, get}
use Rattle.std.specs.List.{list_any}
use Rattle.cry_base.specs.Sets.{In}
use Rattle.cry_base.specs.Store.{Store, FileEntry}
use Rattle.cry_base.specs.declared.client.Bundle.{Bundle}
use Rattle.cry_base.specs.declared.ids.FolderId.{FolderId}
use Rattle.cry_base.specs.declared.roles.Edge.{Edge}
use Rattle.cry_base.specs.declared.roles.Role.{Role}
use Rattle.cry_base.specs.declared.roles.Role.TheVariants.{Clear}
use Rattle.folder_nodes.specs.Titles.{Title, Titles}
use Rattle.folder_nodes.specs.declared.rows.FileRow.{FileRow}
use Rattle.log_visits.specs.Holding.{HasNames, HoldsKeys, IsFiled}
use Rattle.log_visits.specs.Judging.{Failure, of_bytes, opened_first, then_on, who_of}
use Rattle.log_visits.specs.Sights.{opens, same_number}
use Rattle.log_visits.specs.View.{Line, view}
use Rattle.log_visits.specs.Visiting.{Opened, Reading, visit_all}
use Rattle.log_visits.specs.Visits.{Visit, all_visits}
use Rattle.log_visits.specs.Visits.Visit.{ToKey, ToFile}
use Rattle.log_visits.specs.declared.entry_files.EntryFile.{EntryFile}
use Rattle.log_visits.specs.declared.opening.OwnersView.{OwnersView}
use Rattle.log_visits.specs.declared.sights.Sight.{Sight}
use Rattle.holder_client.specs.declared.reading.ReadFile.{ReadFile}
use Rattle.role_graph.specs.Edges.{IsEdge, edge, file_edge}
use Rattle.role_graph.specs.Roles.{file_role}

-- every role
abbrev pub everyone : Role → Bool
everyone role = true

-- the entry file with a number
abbrev pub is_entry : ℕ → EntryFile → Bool
is_entry x e = e.file.0 == x

-- the file is in a folder that is allowed, or an entry file
abbrev pub is_allowed : List Sight → List EntryFile → FileRow → Bool
is_allowed sights entries r = list_any (opens r.folder.0) sights || list_any (is_entry r.id.0) entries

-- the edge into a file: from the clearance of an entry file, and else from the Files of its folder
abbrev pub edge_from : FileRow → Option FolderId → Edge
edge_from r None = file_edge r.folder.0 r.id.0
edge_from r (Some clearance) = edge 10 (Clear clearance) (file_role r.id.0)

abbrev pub edge_into : List EntryFile → FileRow → Edge
edge_into entries r = edge_from r (option_map (λ (e : EntryFile). e.clearance) (find (is_entry r.id.0) entries))

-- the two visits of a file
abbrev pub file_stops : List EntryFile → FileRow → List Visit
file_stops entries r = ToKey (edge_into entries r) ∷ ToFile r.id.0 ∷ []

-- the map has the clearance of each entry file
abbrev pub HasClearances : {S : Type 0} → HashMap ℕ FolderId S → List EntryFile → Type 0
HasClearances clearances entries =
    (x : ℕ) → get same_number clearances x ≡ option_map (λ (e : EntryFile). e.clearance) (find (is_entry x) entries)

-- each of these rows is of a file that stands, and so are the edges into them
abbrev pub AreStanding : Store → List EntryFile → List FileRow → Type 0
AreStanding s entries rows = (r : FileRow) → In r rows →
    (e : FileEntry) × In e s.files × (e.id ≡ r.id.0) × (e.folder ≡ r.folder.0) × IsEdge s (edge_into entries r)

-- what is known of a file that was read
abbrev pub read_title : ReadFile → Title
read_title f = record { id = f.row.id.0; name = f.name.items; bytes = f.bytes.items }

-- titles with those of files that were read, one after another, before them
unfoldable pub titles_read : List ReadFile → List Title → List Title
titles_read [] titles = titles
titles_read (f ∷ files) titles = titles_read files (read_title f ∷ titles)

abbrev pub with_read : Titles → List ReadFile → Titles
with_read names files = record names { files = titles_read files names.files }

-- the visits of a file left its entry with its name and bytes
abbrev pub IsReadBy : ReadFile → Opened → Opened → Type 0
IsReadBy f o behind = IsFiled f.row.id.0 f.name.items f.bytes.items o behind

-- the ring has exactly the keys that were opened, and the names are those that were opened
abbrev pub IsNamedBy : Store → OwnersView → Opened → Type 0
IsNamedBy bare view o = HoldsKeys everyone view.ring o.keys × HasNames bare view.names o.store

-- the view of a log that was read, with every visit of the bundle's reader
abbrev pub viewed : Bundle → Reading → Result (List Line) Failure
viewed bundle r =
    then_on (of_bytes (visit_all r (all_visits r.stand.store (who_of bundle)) (opened_first bundle r))) (λ o.
    Ok (view o.store (who_of bundle)))
