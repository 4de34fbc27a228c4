-- The edges and the objects that a state lists are those of its store.
use Rattle.std.proofs.Common.{◌≡◌, ℕ, List, [], ◌++◌, length, map, refl, sym, ap, ◌∙◌, append_assoc}
use Rattle.std.specs.List.{range_with_len}
use Rattle.std.proofs.lemmas.Simd.{map-map}
use Rattle.cry_base.specs.Store.{FileEntry, FolderEntry, HolderEntry}
use Rattle.folder_nodes.specs.Bare.{file_of_row, folder_of_row}
use Rattle.folder_nodes.specs.declared.rows.FileRow.{FileRow}
use Rattle.folder_nodes.specs.declared.rows.FolderRow.{FolderRow}
use Rattle.log_index.specs.Objects.{file_object, folder_object, holder_object, objects_of}
use Rattle.log_index.specs.declared.objects.Object.{Object}
use Rattle.move_plan.specs.Seen.{keyless}
use Rattle.public_fold.specs.Standing.{PublicView, public_store_of}

folders_told : (rows : List FolderRow) (entries : List FolderEntry) → map folder_of_row rows ≡ entries → map (λ (r : FolderRow). folder_object r.id.0) rows ≡ map (λ (e : FolderEntry). folder_object e.id) entries
folders_told rows entries e = sym (map-map (λ (f : FolderEntry). folder_object f.id) folder_of_row rows) ∙ ap (map (λ (f : FolderEntry). folder_object f.id)) e

files_told : (rows : List FileRow) (entries : List FileEntry) → map file_of_row rows ≡ entries → map (λ (r : FileRow). file_object r.id.0) rows ≡ map (λ (e : FileEntry). file_object e.id) entries
files_told rows entries e = sym (map-map (λ (f : FileEntry). file_object f.id) file_of_row rows) ∙ ap (map (λ (f : FileEntry). file_object f.id)) e

holders_told : (numbers : List ℕ) → map holder_object numbers ≡ map (λ (e : HolderEntry). holder_object e.number) (map keyless numbers)
holders_told numbers = sym (map-map (λ (e : HolderEntry). holder_object e.number) keyless numbers)

pub objects_are : (v : PublicView) (folders : List FolderRow) (files : List FileRow) (made : ℕ) (one two three four : List Object)
    → map folder_of_row folders ≡ v.tree.folders → map file_of_row files ≡ v.tree.files → made ≡ length v.checks
    → one ≡ [] → two ≡ one ++ map (λ (r : FolderRow). folder_object r.id.0) folders → three ≡ two ++ map (λ (r : FileRow). file_object r.id.0) files
    → four ≡ three ++ map holder_object (range_with_len 1 made) → four ≡ objects_of (public_store_of v)
objects_are v folders files made one two three four is_folders is_files is_made a b d e =
    let holders : map holder_object (range_with_len 1 made) ≡ map (λ (h : HolderEntry). holder_object h.number) (map keyless (range_with_len 1 (length v.checks))) =
    ap (λ n. map holder_object (range_with_len 1 n)) is_made ∙ holders_told (range_with_len 1 (length v.checks)) in
    let own = map (λ (h : FolderEntry). folder_object h.id) v.tree.folders in
    let texts = map (λ (h : FileEntry). file_object h.id) v.tree.files in
    let first : two ≡ own = b ∙ ap (λ l. l ++ map (λ (r : FolderRow). folder_object r.id.0) folders) a ∙ folders_told folders v.tree.folders is_folders in
    let second : three ≡ own ++ texts = d ∙ rw (first, files_told files v.tree.files is_files) refl in
    e ∙ rw (second, holders) (append_assoc own texts _)
