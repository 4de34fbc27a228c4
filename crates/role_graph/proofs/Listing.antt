-- The edges of a shape's rows and of grants are those of the plain store that they tell.
use Rattle.std.proofs.Common.{◌≡◌, ◌==◌, List, [], ◌++◌, cond, map, sym, ap, ◌∙◌}
use Rattle.std.specs.List.{flat_map, list_any}
use Rattle.cry_base.specs.Clearances.{clear_number}
use Rattle.cry_base.specs.Store.{Store, FolderEntry, FileEntry, GrantEntry}
use Rattle.cry_base.specs.declared.roles.Edge.{Edge}
use Rattle.folder_nodes.specs.Bare.{folder_of_row, file_of_row}
use Rattle.folder_nodes.specs.declared.rows.FolderRow.{FolderRow}
use Rattle.folder_nodes.specs.declared.rows.FileRow.{FileRow}
use Rattle.role_graph.specs.Edges.{folder_edges, parent_edges, grant_edge, file_edge, clearance_edges, has_grants, unordered}
use Rattle.role_graph.specs.PublicStore.{public_store}
use Rattle.role_graph.proofs.Adding.{flat_map_map, map_map}

abbrev pub within_rows : List FolderRow → List Edge
within_rows rows = flat_map (λ r. folder_edges r.id.0) rows

abbrev pub between_rows : List FolderRow → List Edge
between_rows rows = flat_map (λ r. cond (r.parent == 0) [] (parent_edges r.id.0 r.parent)) rows

abbrev pub grant_rows : List GrantEntry → List Edge
grant_rows pairs = map (λ g. grant_edge g.holder g.folder) pairs

abbrev pub file_rows : List FileRow → List Edge
file_rows rows = map (λ r. file_edge r.folder.0 r.id.0) rows

abbrev pub clearance_rows : List GrantEntry → List FileRow → List Edge
clearance_rows pairs rows = flat_map (λ r. cond (list_any (λ g. g.folder == clear_number r.id.0) pairs) (clearance_edges r.folder.0 r.id.0) []) rows

within_told : (t : Store) (rows : List FolderRow) → map folder_of_row rows ≡ t.folders → within_rows rows ≡ flat_map (λ (e : FolderEntry). folder_edges e.id) t.folders
within_told t rows e =
    sym (flat_map_map FolderRow FolderEntry Edge (λ (e : FolderEntry). folder_edges e.id) folder_of_row rows)
    ∙ ap (λ (l : List FolderEntry). flat_map (λ (e : FolderEntry). folder_edges e.id) l) e

between_told : (t : Store) (rows : List FolderRow) → map folder_of_row rows ≡ t.folders → between_rows rows ≡ flat_map (λ (e : FolderEntry). cond (e.parent == 0) [] (parent_edges e.id e.parent)) t.folders
between_told t rows e =
    sym (flat_map_map FolderRow FolderEntry Edge (λ (e : FolderEntry). cond (e.parent == 0) [] (parent_edges e.id e.parent)) folder_of_row rows)
    ∙ ap (λ (l : List FolderEntry). flat_map (λ (e : FolderEntry). cond (e.parent == 0) [] (parent_edges e.id e.parent)) l) e

files_told : (t : Store) (rows : List FileRow) → map file_of_row rows ≡ t.files → file_rows rows ≡ map (λ (e : FileEntry). file_edge e.folder e.id) t.files
files_told t rows e =
    sym (map_map FileRow FileEntry Edge (λ (e : FileEntry). file_edge e.folder e.id) file_of_row rows)
    ∙ ap (λ (l : List FileEntry). map (λ (e : FileEntry). file_edge e.folder e.id) l) e

cleared_told : (t : Store) (pairs : List GrantEntry) (rows : List FileRow) → map file_of_row rows ≡ t.files
    → clearance_rows pairs rows ≡ flat_map (λ (e : FileEntry). cond (has_grants (public_store t pairs) (clear_number e.id)) (clearance_edges e.folder e.id) []) t.files
unfolding has_grants
cleared_told t pairs rows e =
    let g : FileEntry → List Edge = λ x. cond (list_any (λ (p : GrantEntry). p.folder == clear_number x.id) pairs) (clearance_edges x.folder x.id) [] in
    sym (flat_map_map FileRow FileEntry Edge g file_of_row rows) ∙ ap (λ (l : List FileEntry). flat_map g l) e

-- what is listed step by step
pub listed_is : (t : Store) (pairs given : List GrantEntry) (folders again : List FolderRow) (files more : List FileRow) (one two three four five six : List Edge)
    → map folder_of_row folders ≡ t.folders → map folder_of_row again ≡ t.folders → given ≡ pairs → map file_of_row files ≡ t.files → map file_of_row more ≡ t.files
    → one ≡ [] → two ≡ one ++ within_rows folders → three ≡ two ++ between_rows again → four ≡ three ++ grant_rows given → five ≡ four ++ file_rows files
    → six ≡ five ++ clearance_rows pairs more → six ≡ unordered (public_store t pairs)
unfolding unordered
listed_is t pairs given folders again files more one two three four five six fs gs ps xs ys a b c d e z =
    let own = flat_map (λ (e : FolderEntry). folder_edges e.id) t.folders in
    let parents = flat_map (λ (e : FolderEntry). cond (e.parent == 0) [] (parent_edges e.id e.parent)) t.folders in
    let first : two ≡ own = b ∙ ap (λ l. l ++ within_rows folders) a ∙ within_told t folders fs in
    let second : three ≡ own ++ parents = c ∙ (λ i. first i ++ between_told t again gs i) in
    let third : four ≡ (own ++ parents) ++ grant_rows pairs = d ∙ (λ i. second i ++ grant_rows (ps i)) in
    let fourth : five ≡ ((own ++ parents) ++ grant_rows pairs) ++ map (λ (x : FileEntry). file_edge x.folder x.id) t.files = e ∙ (λ i. third i ++ files_told t files xs i) in
    z ∙ (λ i. fourth i ++ cleared_told t pairs more ys i)
