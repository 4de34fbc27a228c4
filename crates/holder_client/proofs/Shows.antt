-- The lines of what was opened are the view of the store with the names and bytes that were opened.
use Rattle.std.proofs.Common.{◌≡◌, ℕ, ◌<◌, Bool, true, false, not, ◌||◌, ◌&&◌, ◌≤◌, ◌==◌, List, [], ◌∷◌, ◌++◌, length, drop, map, filter, Option, Some, refl, sym, ap, subst, ◌∙◌}
use Rattle.std.specs.Prelude.{IfOk, IsTrue, Result, Ok, Err}
use Rattle.std.specs.Global.{Vec}
use Rattle.std.specs.HashSet.{HashSet, contains}
use Rattle.std.specs.List.{AllPairs, flat_map, list_any}
use Rattle.std.proofs.lemmas.Bool.{and_from, and_parts, eqb-true, eq-eqb}
use Rattle.std.proofs.lemmas.List.Kept.{AllPairs-filter}
use Rattle.cry_base.specs.Clearances.{clear_number}
use Rattle.cry_base.specs.Naming.{spell_path}
use Rattle.cry_base.specs.Sets.{In, has, reach}
use Rattle.cry_base.specs.Store.{Store, FolderEntry, FileEntry, GrantEntry, HolderEntry, backwards, file_names, folder_entry, folder_names, has_grant, way_to_root, way_up}
use Rattle.cry_base.proofs.Members.{In-any, In-filter, In-map, filter-In}
use Rattle.folder_nodes.specs.Bare.{file_of_row}
use Rattle.folder_nodes.specs.declared.rows.FileRow.{FileRow}
use Rattle.folder_nodes.specs.Titles.{Title, Titles, bytes_in, name_in, tree_store}
use Rattle.folder_nodes.specs.Trees.{IsTree}
use Rattle.folder_nodes.proofs.Ascending.{All-in, rising_before, same_ranked}
use Rattle.folder_nodes.proofs.Named.{named_file, named_folder}
use Rattle.folder_nodes.proofs.Upward.{at_id}
use Rattle.holder_client.specs.Filed.{is_allowed, is_entry, with_read}
use Rattle.log_visits.specs.Entries.{AreEntryFiles, entry_of}
use Rattle.log_visits.specs.Holding.{HasNames}
use Rattle.holder_client.specs.Lines.{is_before, lines_of, read_line, read_view, sight_line}
use Rattle.log_visits.specs.Sights.{AreSights, opens, same_number, sight_of}
use Rattle.log_visits.specs.Visits.{is_entry_file}
use Rattle.log_visits.specs.View.{Line, FolderLine, AncestorLine, FileLine, file_line, folder_line, view}
use Rattle.holder_client.specs.declared.reading.ReadFile.{ReadFile}
use Rattle.log_visits.specs.declared.entry_files.EntryFile.{EntryFile}
use Rattle.log_visits.specs.declared.sights.Sight.{Sight}
use Rattle.holder_client.proofs.FiledReads.{rank, read_found}
use Rattle.log_visits.proofs.ListedVisits.{filter_alike, filter_mapped, flat_where, map_alike, same_bool}
use Rattle.role_graph.specs.Edges.{in_order}
use Rattle.role_graph.specs.Rights.{Who, allowed, allowed_to, downs, file_allowed, file_allowed_to, granted_to, named, named_to, ups}
use Rattle.role_graph.specs.Rights.Who.{TheOwner, TheHolder}
use Rattle.role_graph.proofs.Adding.{map_map}
use Rattle.role_graph.proofs.Standing.{found_in}

-- ---- rights don't hang on names

same_downs : (s : Store) (n : Titles) → downs (tree_store s n) ≡ downs s
unfolding downs tree_store
same_downs s n = map_map FolderEntry FolderEntry (ℕ × ℕ) (λ (e : FolderEntry). (e.parent, e.id)) (named_folder n) s.folders

same_ups : (s : Store) (n : Titles) → ups (tree_store s n) ≡ ups s
unfolding ups tree_store
same_ups s n =
    ap (λ l. l ++ map (λ (e : FileEntry). (clear_number e.id, e.folder)) (map (named_file n) s.files)) (map_map FolderEntry FolderEntry (ℕ × ℕ) (λ (e : FolderEntry). (e.id, e.parent)) (named_folder n) s.folders)
    ∙ ap (λ l. map (λ (e : FolderEntry). (e.id, e.parent)) s.folders ++ l) (map_map FileEntry FileEntry (ℕ × ℕ) (λ (e : FileEntry). (clear_number e.id, e.folder)) (named_file n) s.files)

same_granted : (s : Store) (n : Titles) (h : ℕ) → granted_to (tree_store s n) h ≡ granted_to s h
unfolding granted_to tree_store
same_granted s n h = refl

allowed_alike : (s : Store) (n : Titles) (h f : ℕ) → allowed (tree_store s n) h f ≡ allowed s h f
unfolding allowed
allowed_alike s n h f = ap (λ es. has ◌==◌ (reach ◌==◌ es (granted_to (tree_store s n) h)) f) (same_downs s n) ∙ ap (λ gs. has ◌==◌ (reach ◌==◌ (downs s) gs) f) (same_granted s n h)

named_alike : (s : Store) (n : Titles) (h f : ℕ) → named (tree_store s n) h f ≡ named s h f
unfolding named
named_alike s n h f =
    ap (λ b. b || has ◌==◌ (reach ◌==◌ (ups (tree_store s n)) (granted_to (tree_store s n) h)) f) (allowed_alike s n h f)
    ∙ ap (λ es. allowed s h f || has ◌==◌ (reach ◌==◌ es (granted_to (tree_store s n) h)) f) (same_ups s n)
    ∙ ap (λ gs. allowed s h f || has ◌==◌ (reach ◌==◌ (ups s) gs) f) (same_granted s n h)

pub allowed_kept : (s : Store) (n : Titles) (who : Who) (f : ℕ) → allowed_to (tree_store s n) who f ≡ allowed_to s who f
unfolding allowed_to
allowed_kept s n TheOwner f = refl
allowed_kept s n (TheHolder h) f = allowed_alike s n h f

pub named_kept : (s : Store) (n : Titles) (who : Who) (f : ℕ) → named_to (tree_store s n) who f ≡ named_to s who f
unfolding named_to
named_kept s n TheOwner f = refl
named_kept s n (TheHolder h) f = named_alike s n h f

-- ---- nor a view on holders' keys

pub view_kept : (s : Store) (holders : List HolderEntry) (who : Who) → view (record s { holders = holders }) who ≡ view s who
unfolding view folder_line file_line file_names folder_names way_to_root allowed_to named_to file_allowed_to file_allowed has_grant allowed named downs ups granted_to
view_kept s holders TheOwner = refl
view_kept s holders (TheHolder h) = refl

-- ---- the names down to a folder

pub names_alike : (tree bare : Store) (names : Titles) (files : List ReadFile) (f : ℕ) → bare.folders ≡ tree.folders → folder_names (tree_store tree names) f ≡ folder_names (tree_store bare (with_read names files)) f
unfolding folder_names way_to_root tree_store
names_alike tree bare names files f same =
    ap (λ (es : List FolderEntry). drop 1 (backwards (map (λ (e : FolderEntry). e.name) (way_up (length (map (named_folder names) es)) (map (named_folder names) es) f)))) (sym same)

-- ---- folders

folder_alike : (tree bare : Store) (names : Titles) (files : List ReadFile) (who : Who) (e : FolderEntry) → bare.folders ≡ tree.folders →
    sight_line (tree_store tree names) (sight_of bare who e) ≡ folder_line (tree_store bare (with_read names files)) who (named_folder (with_read names files) e)
unfolding folder_line
folder_alike tree bare names files who e same =
    ap (λ ns. elim (allowed_to bare who e.id) [ true ↦ FolderLine (spell_path ns) | false ↦ AncestorLine (spell_path ns) ]) (names_alike tree bare names files e.id same)
    ∙ ap (λ b. elim b [ true ↦ FolderLine (spell_path (folder_names (tree_store bare (with_read names files)) e.id)) | false ↦ AncestorLine (spell_path (folder_names (tree_store bare (with_read names files)) e.id)) ])
    (sym (allowed_kept bare (with_read names files) who e.id))

pub folders_shown : (tree bare : Store) (names : Titles) (files : List ReadFile) (who : Who) (sights : List Sight) → bare.folders ≡ tree.folders → AreSights bare who sights →
    let t = tree_store bare (with_read names files) in
    flat_map (lines_of (tree_store tree names)) sights ≡ map (folder_line t who) (filter (λ (e : FolderEntry). named_to t who e.id) t.folders)
unfolding tree_store
folders_shown tree bare names files who sights same are =
    let n = with_read names files in
    let t = tree_store bare n in
    let line : Sight → Line = sight_line (tree_store tree names) in
    let kept : List FolderEntry = filter (λ (e : FolderEntry). named_to bare who e.id) bare.folders in
    flat_where Sight Line (λ x. x.named) (λ x. line x ∷ []) sights
    ∙ flat_one Sight Line line (filter (λ x. x.named) sights)
    ∙ ap (λ l. map line (filter (λ (x : Sight). x.named) l)) are
    ∙ ap (map line) (filter_mapped FolderEntry Sight (λ x. x.named) (sight_of bare who) bare.folders)
    ∙ map_map FolderEntry Sight Line line (sight_of bare who) kept
    ∙ map_alike FolderEntry Line (λ e. line (sight_of bare who e)) (λ e. folder_line t who (named_folder n e)) kept (λ e i. folder_alike tree bare names files who e same)
    ∙ sym (map_map FolderEntry FolderEntry Line (folder_line t who) (named_folder n) kept)
    ∙ ap (λ l. map (folder_line t who) (map (named_folder n) l)) (sym (filter_alike FolderEntry (λ e. named_to t who e.id) (λ e. named_to bare who e.id) bare.folders (λ e i. named_kept bare n who e.id)))
    ∙ ap (map (folder_line t who)) (sym (filter_mapped FolderEntry FolderEntry (λ (e : FolderEntry). named_to t who e.id) (named_folder n) bare.folders))
  where
    flat_one : (X Y : Type 0) (g : X → Y) (xs : List X) → flat_map (λ x. g x ∷ []) xs ≡ map g xs
    flat_one X Y g [] = refl
    flat_one X Y g (x ∷ xs) = ap (λ l. g x ∷ l) (flat_one X Y g xs)

-- ---- files

-- the line of a file that was read
file_alike : (tree bare : Store) (names : Titles) (files : List ReadFile) (f : ReadFile) → bare.folders ≡ tree.folders → AllPairs (λ (a b : ReadFile). rank a < rank b) files → In f files →
    read_line (tree_store tree names) f ≡ file_line (tree_store bare (with_read names files)) (named_file (with_read names files) (file_of_row f.row))
unfolding file_line file_names
file_alike tree bare names files f same up i =
    let n = with_read names files in
    let found = read_found files names.files f up i in
    ap (λ ns. FileLine (spell_path (ns ++ f.name.items ∷ [])) f.bytes.items) (names_alike tree bare names files f.row.folder.0 same)
    ∙ ap (λ (o : Option Title). FileLine (spell_path (folder_names (tree_store bare n) f.row.folder.0 ++ name_in o ∷ [])) (bytes_in o)) (sym found)

-- the file's number and its folder, which no names hang on
abbrev pub by_place : (ℕ → ℕ → Bool) → FileEntry → Bool
by_place test e = test e.id e.folder

abbrev pub row_by_place : (ℕ → ℕ → Bool) → FileRow → Bool
row_by_place test r = test r.id.0 r.folder.0

-- those that pass by these, and each once
pub files_shown : (tree bare : Store) (names : Titles) (files : List ReadFile) (rows : List FileRow) (test : ℕ → ℕ → Bool) → bare.folders ≡ tree.folders → IsTree bare → bare.files ≡ map file_of_row rows →
    map (λ (f : ReadFile). f.row) files ≡ filter (row_by_place test) rows →
    let t = tree_store bare (with_read names files) in
    map (read_line (tree_store tree names)) files ≡ map (file_line t) (filter (by_place test) t.files)
unfolding tree_store
files_shown tree bare names files rows test same tree_of are read =
    let n = with_read names files in
    let t = tree_store bare n in
    let chosen = filter (row_by_place test) rows in
    let line : FileRow → Line = λ r. file_line t (named_file n (file_of_row r)) in
    map_alike ReadFile Line (read_line (tree_store tree names)) (λ f. line f.row) files (λ f i. file_alike tree bare names files f same (rising bare files rows test tree_of are read) i)
    ∙ sym (map_map ReadFile FileRow Line line (λ (f : ReadFile). f.row) files)
    ∙ ap (map line) read
    ∙ sym (map_map FileRow FileEntry Line (file_line t) (λ r. named_file n (file_of_row r)) chosen)
    ∙ ap (map (file_line t)) (sym (map_map FileRow FileEntry FileEntry (named_file n) file_of_row chosen)
    ∙ ap (map (named_file n)) (sym (filter_mapped FileRow FileEntry (by_place test) file_of_row rows))
    ∙ sym (filter_mapped FileEntry FileEntry (by_place test) (named_file n) (map file_of_row rows))
    ∙ ap (λ l. filter (by_place test) (map (named_file n) l)) (sym are))
  where
    rising : (bare : Store) (files : List ReadFile) (rows : List FileRow) (test : ℕ → ℕ → Bool) → IsTree bare → bare.files ≡ map file_of_row rows → map (λ (f : ReadFile). f.row) files ≡ filter (row_by_place test) rows →
        AllPairs (λ (a b : ReadFile). rank a < rank b) files
    rising bare files rows test tree are read =
        let up : AllPairs (λ (a b : FileRow). a.id.0 < b.id.0) rows =
        rising_before FileRow FileEntry file_of_row (λ (e : FileEntry). e.id) rows (subst (AllPairs (λ (a b : FileEntry). a.id < b.id)) are tree.files_ascend)
        in
        rising_before ReadFile FileRow (λ (f : ReadFile). f.row) (λ (r : FileRow). r.id.0) files
        (subst (AllPairs (λ (a b : FileRow). a.id.0 < b.id.0)) (sym read) (AllPairs-filter (λ (a b : FileRow). a.id.0 < b.id.0) (row_by_place test) rows up))

-- ---- files that are allowed

-- by the number of a file and that of its folder
abbrev pub may_read : Store → Who → ℕ → ℕ → Bool
may_read s who x f = file_allowed_to s who (record { id = x; folder = f; name = []; bytes = [] })

pub may_read_is : (s : Store) (who : Who) (e : FileEntry) → may_read s who e.id e.folder ≡ file_allowed_to s who e
unfolding file_allowed_to file_allowed
may_read_is s TheOwner e = refl
may_read_is s (TheHolder h) e = refl

-- names change nothing
pub may_read_kept : (s : Store) (n : Titles) (who : Who) (x f : ℕ) → may_read (tree_store s n) who x f ≡ may_read s who x f
unfolding file_allowed_to file_allowed has_grant tree_store
may_read_kept s n TheOwner x f = refl
may_read_kept s n (TheHolder h) x f = ap (λ b. b || list_any (λ (g : GrantEntry). g.holder == h && g.folder == clear_number x) s.grants) (allowed_alike s n h f)

-- a file is allowed where its folder is, or where it is an entry file
pub allowed_or_entry : (s : Store) (who : Who) (e : FileEntry) → (allowed_to s who e.folder || is_entry_file s who e) ≡ file_allowed_to s who e
unfolding allowed_to is_entry_file file_allowed_to file_allowed
allowed_or_entry s TheOwner e = refl
allowed_or_entry s (TheHolder h) e = or_more (allowed s h e.folder) (has_grant s h (clear_number e.id))
  where
    or_more : (a b : Bool) → (a || (b && not a)) ≡ (a || b)
    or_more true b = refl
    or_more false true = refl
    or_more false false = refl

-- of the entry files one has this number, exactly where the file with it is one
pub entered_told : (s : Store) (who : Who) (entries : List EntryFile) (e : FileEntry) → IsTree s → AreEntryFiles s who entries → In e s.files → list_any (is_entry e.id) entries ≡ is_entry_file s who e
entered_told s who entries e tree are i =
    let told = In-any EntryFile (is_entry e.id) (λ x. IsTrue (is_entry e.id x)) (λ x. (λ t. t, λ t. t)) entries in
    same_bool (list_any (is_entry e.id) entries) (is_entry_file s who e)
    (λ t.
    let w = told.0 t in
    let d = (In-map FileEntry EntryFile entry_of w.0 (filter (is_entry_file s who) s.files)).0 (subst (In w.0) are w.1) in
    let passes = In-filter FileEntry (is_entry_file s who) d.0 s.files d.1 in
    let own : d.0.id ≡ e.id = ap (λ (x : EntryFile). x.file.0) (sym d.2) ∙ eqb-true w.0.file.0 e.id w.2 in
    subst (λ x. is_entry_file s who x ≡ true) (same_ranked FileEntry (λ (x : FileEntry). x.id) s.files tree.files_ascend d.0 e passes.0 i own) passes.1)
    (λ t. told.1 (
      entry_of e,
      subst (In (entry_of e)) (sym are) ((In-map FileEntry EntryFile entry_of (entry_of e) (filter (is_entry_file s who) s.files)).1 (e, filter-In FileEntry (is_entry_file s who) e s.files i t, refl)),
      eq-eqb e.id e.id refl,
    ))

-- of the folders that are listed one is this one and allowed, exactly where it is allowed
pub opens_told : (s : Store) (who : Who) (sights : List Sight) (f : ℕ) → AreSights s who sights → (p : FolderEntry) × (folder_entry s f ≡ Some p) → list_any (opens f) sights ≡ allowed_to s who f
unfolding folder_entry
opens_told s who sights f are stands =
    let told = In-any Sight (opens f) (λ x. IsTrue (opens f x)) (λ x. (λ t. t, λ t. t)) sights in
    let id : stands.0.id ≡ f = at_id s.folders f stands.0 stands.1 in
    same_bool (list_any (opens f) sights) (allowed_to s who f)
    (λ t.
    let w = told.0 t in
    let e = (In-map FolderEntry Sight (sight_of s who) w.0 s.folders).0 (subst (In w.0) are w.1) in
    let both = and_parts w.0.allowed (w.0.folder.0 == f) w.2 in
    let number : e.0.id ≡ f = ap (λ (x : Sight). x.folder.0) (sym e.2) ∙ eqb-true w.0.folder.0 f both.1 in
    subst (λ k. allowed_to s who k ≡ true) number (ap (λ (x : Sight). x.allowed) (sym e.2) ∙ both.0))
    (λ t. told.1 (
      sight_of s who stands.0,
      subst (In (sight_of s who stands.0)) (sym are) ((In-map FolderEntry Sight (sight_of s who) (sight_of s who stands.0) s.folders).1 (stands.0, found_in s.folders f stands.0 stands.1, refl)),
      and_from (allowed_to s who stands.0.id) (stands.0.id == f) (subst (λ k. allowed_to s who k ≡ true) (sym id) t) (eq-eqb stands.0.id f id),
    ))

pub opens_row : (s : Store) (who : Who) (sights : List Sight) (rows : List FileRow) → IsTree s → AreSights s who sights → s.files ≡ map file_of_row rows →
    (r : FileRow) → In r rows → list_any (opens r.folder.0) sights ≡ allowed_to s who r.folder.0
opens_row s who sights rows tree are is r i =
    let there : In (file_of_row r) s.files = subst (In (file_of_row r)) (sym is) ((In-map FileRow FileEntry file_of_row (file_of_row r) rows).1 (r, i, refl)) in
    let w = All-in FileEntry (λ (e : FileEntry). (p : FolderEntry) × (folder_entry s e.folder ≡ Some p) × (length (way_to_root s e.folder) ≤ 64)) s.files (file_of_row r) tree.files_stand there in
    opens_told s who sights r.folder.0 are (w.0, w.1)

-- a row's file is allowed where that is looked up of its folder or of the entry files
pub allowed_row : (s : Store) (who : Who) (sights : List Sight) (entries : List EntryFile) (rows : List FileRow) → IsTree s → AreSights s who sights → AreEntryFiles s who entries → s.files ≡ map file_of_row rows →
    (r : FileRow) → In r rows → is_allowed sights entries r ≡ may_read s who r.id.0 r.folder.0
allowed_row s who sights entries rows tree are come is r i =
    let e : FileEntry = file_of_row r in
    let there : In e s.files = subst (In e) (sym is) ((In-map FileRow FileEntry file_of_row e rows).1 (r, i, refl)) in
    ap (λ b. b || list_any (is_entry r.id.0) entries) (opens_row s who sights rows tree are is r i)
    ∙ ap (λ b. allowed_to s who r.folder.0 || b) (entered_told s who entries e tree come there)
    ∙ allowed_or_entry s who e
    ∙ sym (may_read_is s who e)

pub rows_told : (s : Store) (who : Who) (sights : List Sight) (entries : List EntryFile) (rows : List FileRow) → IsTree s → AreSights s who sights → AreEntryFiles s who entries → s.files ≡ map file_of_row rows →
    filter (is_allowed sights entries) rows ≡ filter (row_by_place (may_read s who)) rows
rows_told s who sights entries rows tree are come is =
    filter_alike FileRow (is_allowed sights entries) (row_by_place (may_read s who)) rows (allowed_row s who sights entries rows tree are come is)

-- ---- the whole view

pub view_shown : (tree bare s : Store) (names : Titles) (files : List ReadFile) (rows : List FileRow) (who : Who) (sights : List Sight) (entries : List EntryFile) → bare.folders ≡ tree.folders → IsTree bare →
    bare.files ≡ map file_of_row rows → AreSights bare who sights → AreEntryFiles bare who entries → map (λ (f : ReadFile). f.row) files ≡ filter (is_allowed sights entries) rows →
    HasNames bare (with_read names files) s → read_view (tree_store tree names) sights files ≡ view s who
unfolding view
view_shown tree bare s names files rows who sights entries same tree_of rows_are are come read has =
    let n = with_read names files in
    let t = tree_store bare n in
    let chosen = read ∙ rows_told bare who sights entries rows tree_of are come rows_are in
    ap (λ l. in_order is_before (l ++ map (read_line (tree_store tree names)) files)) (folders_shown tree bare names files who sights same are)
    ∙ ap (λ l. in_order is_before (map (folder_line t who) (filter (λ (e : FolderEntry). named_to t who e.id) t.folders) ++ l))
    (files_shown tree bare names files rows (may_read bare who) same tree_of rows_are chosen
    ∙ ap (map (file_line t)) (sym (filter_alike FileEntry (file_allowed_to t who) (by_place (may_read bare who)) t.files (λ e i. sym (may_read_is t who e) ∙ may_read_kept bare n who e.id e.folder))))
    ∙ sym (view_kept t s.holders who)
    ∙ ap (λ (x : Store). view x who) (sym has)

-- the files in a set of folders, which has those that are allowed, and those with numbers of entry files
pub files_of_folders : {S R E : Type 0} (folders : HashSet ℕ S) (numbers : HashSet ℕ R) (sights : List Sight) (entries : List EntryFile) (files : List FileRow) (result : Result (Vec FileRow) E) →
    ((f : ℕ) → contains same_number folders f ≡ list_any (opens f) sights) → ((x : ℕ) → contains same_number numbers x ≡ list_any (is_entry x) entries) →
    IfOk result (λ l. l.items ≡ filter (λ (r : FileRow). contains same_number folders r.folder.0 || contains same_number numbers r.id.0) files) → IfOk result (λ l. l.items ≡ filter (is_allowed sights entries) files)
files_of_folders folders numbers sights entries files (Ok l) has come is =
    is ∙ filter_alike FileRow (λ r. contains same_number folders r.folder.0 || contains same_number numbers r.id.0) (is_allowed sights entries) files
    (λ r i. ap (λ b. b || contains same_number numbers r.id.0) (has r.folder.0) ∙ ap (λ b. list_any (opens r.folder.0) sights || b) (come r.id.0))
files_of_folders folders numbers sights entries files (Err e) has come is = tt
