-- One path is opened: the files beside it are those that the definition visits, and their lines those that it shows.
use Rattle.std.proofs.Common.{◌≡◌, ◌≤◌, ℕ, Bool, true, false, length, ◌&&◌, ◌||◌, ◌==◌, List, [], ◌∷◌, map, filter, Option, None, Some, Result, Ok, Err, refl, sym, ap, subst, ◌∙◌}
use Rattle.std.specs.Global.{Vec}
use Rattle.std.specs.HashSet.{HashSet, contains}
use Rattle.std.specs.Prelude.{IfOk, IsTrue, bytes_eq, codes, find, option_map, nat_lt}
use Rattle.std.specs.List.{flat_map, list_any}
use Rattle.std.proofs.lemmas.Bool.{and_from, and_parts, eqb-true, eq-eqb}
use Rattle.std.proofs.lemmas.Slice.Eq.{bytes_eq-Decides}
use Rattle.commit_journal.specs.Answering.{Fault}
use Rattle.commit_journal.specs.Placed.{PlainPlaced}
use Rattle.cry_base.specs.Naming.{front, is_path, names_behind, names_of, parent_path, spell_path}
use Rattle.cry_base.specs.Sets.{In}
use Rattle.cry_base.specs.Store.{Store, FolderEntry, FileEntry, HolderEntry, file_names, folder_entry, folder_names, folder_node, has_grant, node_names, path_of, way_to_root}
use Rattle.cry_base.specs.declared.client.Bundle.{Bundle}
use Rattle.cry_base.specs.declared.client.Line.{Line as Shown}
use Rattle.cry_base.proofs.Members.{In-any, In-filter, In-map, filter-In}
use Rattle.folder_nodes.specs.Bare.{file_of_row}
use Rattle.folder_nodes.specs.Titles.{Titles, tree_store}
use Rattle.folder_nodes.specs.Trees.{IsTree}
use Rattle.folder_nodes.specs.declared.rows.FileRow.{FileRow}
use Rattle.folder_nodes.proofs.Ascending.{All-in, same_ranked}
use Rattle.folder_nodes.proofs.Lookups.{find-map}
use Rattle.folder_nodes.proofs.Named.{named_file}
use Rattle.folder_nodes.proofs.Upward.{at_id}
use Rattle.log_visits.specs.Answering.{AnswersAs, IsFailure, IsFault}
use Rattle.log_visits.specs.Asking.{file_with, folder_lines, is_beside, line_at, line_shown, line_with, lines_beside, or_else}
use Rattle.holder_client.specs.Beside.{is_entry_at, is_row_beside, opens_at, path_opened}
use Rattle.holder_client.specs.Filed.{file_stops, titles_read, with_read}
use Rattle.log_visits.specs.Entries.{AreEntryFiles, entry_of}
use Rattle.log_visits.specs.Holding.{HasNames}
use Rattle.log_visits.specs.Judging.{Failure, Unseen, bundle_log, of_bytes, opened_first, read_with, then_on, who_of}
use Rattle.holder_client.specs.Lines.{lines_of, plain_line, read_line}
use Rattle.log_visits.specs.Sights.{AreSights, same_number, sight_of}
use Rattle.log_visits.specs.View.{Line, file_line, folder_line, line_path}
use Rattle.log_visits.specs.Visiting.{Opened, Reading, visit_all}
use Rattle.log_visits.specs.Visits.{Visit, file_visits, files_that, is_entry_file, visits_to_names}
use Rattle.log_visits.specs.declared.fault.ClientFault.{ClientFault}
use Rattle.holder_client.specs.declared.reading.ReadFile.{ReadFile}
use Rattle.log_visits.specs.declared.entry_files.EntryFile.{EntryFile}
use Rattle.log_visits.specs.declared.sights.Sight.{Sight}
use Rattle.holder_client.proofs.Admitted.{as_failure, bytes_ok, failure_first, then_ok}
use Rattle.log_visits.proofs.ListedVisits.{filter_alike, filter_mapped, same_bool}
use Rattle.holder_client.proofs.Listings.{no_reading, stops_told}
use Rattle.holder_client.proofs.Shows.{allowed_or_entry, by_place, files_shown, folders_shown, may_read, may_read_is, may_read_kept, names_alike, row_by_place}
use Rattle.role_graph.specs.Edges.{in_order}
use Rattle.role_graph.specs.Rights.{Who, allowed, allowed_to, downs, file_allowed, file_allowed_to, granted_to, named, named_to, ups}
use Rattle.role_graph.specs.Rights.Who.{TheOwner, TheHolder}
use Rattle.role_graph.proofs.Adding.{map_map}
use Rattle.role_graph.proofs.Standing.{found_in}

-- ---- the path that this one, without its last name, is

spelled_root : (47 ∷ []) ≡ parent_path (47 ∷ [])
unfolding parent_path names_of names_behind front spell_path
spelled_root = refl

pub root_parent : (path : List ℕ) → bytes_eq path (codes "/") ≡ true → path ≡ parent_path path
root_parent path is =
    let root : path ≡ 47 ∷ [] = (bytes_eq-Decides path (codes "/")).0 is in
    root ∙ spelled_root ∙ ap parent_path (sym root)

-- ---- the first line with a path

pub plain_found : (path : List ℕ) (lines : List Shown) → option_map plain_line (find (λ l. bytes_eq (line_path (plain_line l)) path) lines) ≡ line_at path (map plain_line lines)
unfolding line_at
plain_found path lines = sym (find-map Shown Line plain_line (λ l. bytes_eq (line_path l) path) lines)

-- ---- whether a file's folder is beside the path

-- by the number of the file and that of its folder
abbrev pub is_by : Store → Store → Who → List ℕ → ℕ → ℕ → Bool
is_by t bare who path x f = is_path path && (may_read bare who x f && bytes_eq (spell_path (folder_names t f)) (parent_path path))

beside_held : (s : Store) (holders : List HolderEntry) (who : Who) (path : List ℕ) (e : FileEntry) → is_beside (record s { holders = holders }) who path e ≡ is_beside s who path e
unfolding is_beside path_of node_names folder_node folder_names way_to_root file_allowed_to file_allowed has_grant allowed downs granted_to
beside_held s holders TheOwner path e = refl
beside_held s holders (TheHolder h) path e = refl

beside_told : (tree bare s : Store) (names : Titles) (files : List ReadFile) (who : Who) (path : List ℕ) (e : FileEntry) → bare.folders ≡ tree.folders → HasNames bare (with_read names files) s →
    is_beside s who path e ≡ is_by (tree_store tree names) bare who path e.id e.folder
unfolding is_beside path_of node_names folder_node
beside_told tree bare s names files who path e same has =
    let n = with_read names files in
    let t = tree_store bare n in
    ap (λ (x : Store). is_beside x who path e) has
    ∙ beside_held t s.holders who path e
    ∙ ap (λ b. is_path path && (b && bytes_eq (spell_path (folder_names t e.folder)) (parent_path path))) (sym (may_read_is t who e) ∙ may_read_kept bare n who e.id e.folder)
    ∙ ap (λ ns. is_path path && (may_read bare who e.id e.folder && bytes_eq (spell_path ns) (parent_path path))) (sym (names_alike tree bare names files e.folder same))

-- of the folders that are listed one is this one, allowed and with the path, exactly where it is so
opens_told : (t s : Store) (who : Who) (sights : List Sight) (path : List ℕ) (f : ℕ) → AreSights s who sights → (p : FolderEntry) × (folder_entry s f ≡ Some p) →
    list_any (opens_at t path f) sights ≡ (allowed_to s who f && bytes_eq (spell_path (folder_names t f)) path)
unfolding folder_entry
opens_told t s who sights path f are stands =
    let test : ℕ → Bool = λ k. bytes_eq (spell_path (folder_names t k)) path in
    let told = In-any Sight (opens_at t path f) (λ x. IsTrue (opens_at t path f x)) (λ x. (λ q. q, λ q. q)) sights in
    let id : stands.0.id ≡ f = at_id s.folders f stands.0 stands.1 in
    same_bool (list_any (opens_at t path f) sights) (allowed_to s who f && test f)
    (λ q.
    let w = told.0 q in
    let e = (In-map FolderEntry Sight (sight_of s who) w.0 s.folders).0 (subst (In w.0) are w.1) in
    let both = and_parts (w.0.allowed && test w.0.folder.0) (w.0.folder.0 == f) w.2 in
    let number : w.0.folder.0 ≡ f = eqb-true w.0.folder.0 f both.1 in
    let own : e.0.id ≡ f = ap (λ (x : Sight). x.folder.0) (sym e.2) ∙ number in
    let may = and_parts w.0.allowed (test w.0.folder.0) both.0 in
    and_from (allowed_to s who f) (test f)
    (subst (λ k. allowed_to s who k ≡ true) own (ap (λ (x : Sight). x.allowed) (sym e.2) ∙ may.0))
    (subst (λ k. test k ≡ true) number may.1))
    (λ q.
    let both = and_parts (allowed_to s who f) (test f) q in
    told.1 (
      sight_of s who stands.0,
      subst (In (sight_of s who stands.0)) (sym are) ((In-map FolderEntry Sight (sight_of s who) (sight_of s who stands.0) s.folders).1 (stands.0, found_in s.folders f stands.0 stands.1, refl)),
      and_from (allowed_to s who stands.0.id && test stands.0.id) (stands.0.id == f)
          (subst (λ k. (allowed_to s who k && test k) ≡ true) (sym id) q) (eq-eqb stands.0.id f id),
    ))

-- of the entry files one has this number and the path, exactly where the file with it is one in such a folder
entry_at_told : (t s : Store) (who : Who) (entries : List EntryFile) (path : List ℕ) (e : FileEntry) → IsTree s → AreEntryFiles s who entries → In e s.files →
    list_any (is_entry_at t path e.id) entries ≡ (is_entry_file s who e && bytes_eq (spell_path (folder_names t e.folder)) path)
entry_at_told t s who entries path e tree are i =
    let test : ℕ → Bool = λ k. bytes_eq (spell_path (folder_names t k)) path in
    let told = In-any EntryFile (is_entry_at t path e.id) (λ x. IsTrue (is_entry_at t path e.id x)) (λ x. (λ q. q, λ q. q)) entries in
    same_bool (list_any (is_entry_at t path e.id) entries) (is_entry_file s who e && test e.folder)
    (λ q.
    let w = told.0 q in
    let d = (In-map FileEntry EntryFile entry_of w.0 (filter (is_entry_file s who) s.files)).0 (subst (In w.0) are w.1) in
    let passes = In-filter FileEntry (is_entry_file s who) d.0 s.files d.1 in
    let both = and_parts (test w.0.folder.0) (w.0.file.0 == e.id) w.2 in
    let own : d.0.id ≡ e.id = ap (λ (x : EntryFile). x.file.0) (sym d.2) ∙ eqb-true w.0.file.0 e.id both.1 in
    let one : d.0 ≡ e = same_ranked FileEntry (λ (x : FileEntry). x.id) s.files tree.files_ascend d.0 e passes.0 i own in
    let folder : w.0.folder.0 ≡ e.folder = ap (λ (x : EntryFile). x.folder.0) d.2 ∙ ap (λ (x : FileEntry). x.folder) one in
    and_from (is_entry_file s who e) (test e.folder) (subst (λ x. is_entry_file s who x ≡ true) one passes.1) (subst (λ k. test k ≡ true) folder both.0))
    (λ q.
    let both = and_parts (is_entry_file s who e) (test e.folder) q in
    told.1 (
      entry_of e,
      subst (In (entry_of e)) (sym are) ((In-map FileEntry EntryFile entry_of (entry_of e) (filter (is_entry_file s who) s.files)).1 (e, filter-In FileEntry (is_entry_file s who) e s.files i both.0, refl)),
      and_from (test e.folder) (e.id == e.id) both.1 (eq-eqb e.id e.id refl),
    ))

-- two tests with one more behind both
both_behind : (a b c : Bool) → ((a && c) || (b && c)) ≡ ((a || b) && c)
both_behind true b true = refl
both_behind true true false = refl
both_behind true false false = refl
both_behind false b c = refl

row_told : (tree bare : Store) (names : Titles) (who : Who) (sights : List Sight) (entries : List EntryFile) (rows : List FileRow) (path : List ℕ) → IsTree bare → AreSights bare who sights → AreEntryFiles bare who entries →
    bare.files ≡ map file_of_row rows → (r : FileRow) → In r rows → is_row_beside (tree_store tree names) sights entries path r ≡ is_by (tree_store tree names) bare who path r.id.0 r.folder.0
row_told tree bare names who sights entries rows path tree_of are come is r i =
    let e : FileEntry = file_of_row r in
    let t = tree_store tree names in
    let parent = parent_path path in
    let test : Bool = bytes_eq (spell_path (folder_names t r.folder.0)) parent in
    let there : In e bare.files = subst (In e) (sym is) ((In-map FileRow FileEntry file_of_row e rows).1 (r, i, refl)) in
    let w = All-in FileEntry (λ (e : FileEntry). (p : FolderEntry) × (folder_entry bare e.folder ≡ Some p) × (length (way_to_root bare e.folder) ≤ 64)) bare.files e tree_of.files_stand there in
    ap (λ b. is_path path && b)
    (ap (λ b. b || list_any (is_entry_at t parent r.id.0) entries) (opens_told t bare who sights parent r.folder.0 are (w.0, w.1))
    ∙ ap (λ b. (allowed_to bare who r.folder.0 && test) || b) (entry_at_told t bare who entries parent e tree_of come there)
    ∙ both_behind (allowed_to bare who r.folder.0) (is_entry_file bare who e) test
    ∙ ap (λ b. b && test) (allowed_or_entry bare who e ∙ sym (may_read_is bare who e)))

-- ---- the visits of the files beside the path

-- the test of a file doesn't look at its name and bytes
named_beside : (s : Store) (names : Titles) (who : Who) (path : List ℕ) (e : FileEntry) → is_beside s who path (named_file names e) ≡ is_beside s who path e
unfolding is_beside
named_beside s names who path e =
    ap (λ b. is_path path && (b && bytes_eq (path_of s (folder_node e.folder)) (parent_path path))) (sym (may_read_is s who (named_file names e)) ∙ may_read_is s who e)

same_files : (bare s : Store) (names : Titles) (who : Who) (path : List ℕ) → HasNames bare names s → files_that (is_beside s who path) s ≡ files_that (is_beside s who path) bare
unfolding files_that tree_store
same_files bare s names who path has =
    let test : FileEntry → Bool = is_beside s who path in
    let id : FileEntry → ℕ = λ e. e.id in
    let is : s.files ≡ map (named_file names) bare.files = ap (λ (x : Store). x.files) has in
    ap (λ l. in_order nat_lt (map id (filter test l))) is
    ∙ ap (λ l. in_order nat_lt (map id l)) (filter_mapped FileEntry FileEntry test (named_file names) bare.files)
    ∙ ap (λ l. in_order nat_lt (map id (map (named_file names) l))) (filter_alike FileEntry (λ e. test (named_file names e)) test bare.files (λ e i. named_beside s names who path e))
    ∙ ap (in_order nat_lt) (map_map FileEntry FileEntry ℕ id (named_file names) (filter test bare.files))

pub stops_beside : (tree bare s : Store) (names : Titles) (who : Who) (sights : List Sight) (entries : List EntryFile) (rows : List FileRow) (path : List ℕ) → bare.folders ≡ tree.folders → IsTree bare → AreSights bare who sights →
    AreEntryFiles bare who entries → bare.files ≡ map file_of_row rows → HasNames bare names s →
    file_visits bare who (files_that (is_beside s who path) s) ≡ flat_map (file_stops entries) (filter (is_row_beside (tree_store tree names) sights entries path) rows)
unfolding titles_read
stops_beside tree bare s names who sights entries rows path same tree_of are come is has =
    let told : (e : FileEntry) → is_beside s who path e ≡ is_by (tree_store tree names) bare who path e.id e.folder = λ e. beside_told tree bare s names [] who path e same has in
    ap (file_visits bare who) (same_files bare s names who path has)
    ∙ stops_told bare who entries rows (is_beside s who path) (is_row_beside (tree_store tree names) sights entries path) tree_of come is
    (λ r i. row_told tree bare names who sights entries rows path tree_of are come is r i ∙ sym (told (file_of_row r)))
    (λ e i t. sym (may_read_is bare who e) ∙ by_allowed (tree_store tree names) bare who path e (sym (told e) ∙ t))
  where
    by_allowed : (t bare : Store) (who : Who) (path : List ℕ) (e : FileEntry) → is_by t bare who path e.id e.folder ≡ true → may_read bare who e.id e.folder ≡ true
    by_allowed t bare who path e q =
        let here = bytes_eq (spell_path (folder_names t e.folder)) (parent_path path) in
        (and_parts (may_read bare who e.id e.folder) here (and_parts (is_path path) (may_read bare who e.id e.folder && here) q).1).0

-- none are beside what isn't a path
no_rows : (rows : List FileRow) → filter (λ r. false) rows ≡ []
no_rows [] = refl
no_rows (r ∷ rows) = no_rows rows

pub nothing_beside : (t : Store) (sights : List Sight) (entries : List EntryFile) (path : List ℕ) (rows : List FileRow) → is_path path ≡ false → [] ≡ filter (is_row_beside t sights entries path) rows
nothing_beside t sights entries path rows is =
    let rest : FileRow → Bool = λ r. list_any (opens_at t (parent_path path) r.folder.0) sights || list_any (is_entry_at t (parent_path path) r.id.0) entries in
    sym (filter_alike FileRow (is_row_beside t sights entries path) (λ r. false) rows (λ r i. ap (λ b. b && rest r) is) ∙ no_rows rows)

-- a set of folders that are allowed and a set of numbers of entry files, both with the path, tell what is beside it
pub rows_beside : {S R E : Type 0} (t : Store) (sights : List Sight) (entries : List EntryFile) (path : List ℕ) (folders : HashSet ℕ S) (numbers : HashSet ℕ R) (rows : List FileRow) (result : Result (Vec FileRow) E) → is_path path ≡ true →
    ((f : ℕ) → contains same_number folders f ≡ list_any (opens_at t (parent_path path) f) sights) → ((x : ℕ) → contains same_number numbers x ≡ list_any (is_entry_at t (parent_path path) x) entries) →
    IfOk result (λ l. l.items ≡ filter (λ (r : FileRow). contains same_number folders r.folder.0 || contains same_number numbers r.id.0) rows) → IfOk result (λ l. l.items ≡ filter (is_row_beside t sights entries path) rows)
rows_beside t sights entries path folders numbers rows (Ok l) is has come found =
    found ∙ filter_alike FileRow (λ r. contains same_number folders r.folder.0 || contains same_number numbers r.id.0) (is_row_beside t sights entries path) rows (λ r i.
    ap (λ b. b || contains same_number numbers r.id.0) (has r.folder.0)
    ∙ ap (λ b. list_any (opens_at t (parent_path path) r.folder.0) sights || b) (come r.id.0)
    ∙ ap (λ b. b && (list_any (opens_at t (parent_path path) r.folder.0) sights || list_any (is_entry_at t (parent_path path) r.id.0) entries)) (sym is))
rows_beside t sights entries path folders numbers rows (Err e) is has come found = tt

-- ---- the lines

lines_held : (s : Store) (holders : List HolderEntry) (who : Who) (path : List ℕ) → lines_beside (record s { holders = holders }) who path ≡ lines_beside s who path
unfolding lines_beside file_line file_names is_beside path_of node_names folder_node folder_names way_to_root file_allowed_to file_allowed has_grant allowed downs granted_to
lines_held s holders TheOwner path = refl
lines_held s holders (TheHolder h) path = refl

own_names : (bare : Store) (n : Titles) → HasNames bare n (tree_store bare n)
unfolding tree_store
own_names bare n = refl

pub shown_beside : (tree bare s : Store) (names : Titles) (files : List ReadFile) (who : Who) (sights : List Sight) (entries : List EntryFile) (rows : List FileRow) (path : List ℕ) → bare.folders ≡ tree.folders → IsTree bare → AreSights bare who sights →
    AreEntryFiles bare who entries → bare.files ≡ map file_of_row rows → map (λ (f : ReadFile). f.row) files ≡ filter (is_row_beside (tree_store tree names) sights entries path) rows → HasNames bare (with_read names files) s →
    map (read_line (tree_store tree names)) files ≡ lines_beside s who path
unfolding lines_beside
shown_beside tree bare s names files who sights entries rows path same tree_of are come is read has =
    let n = with_read names files in
    let t = tree_store bare n in
    let test : ℕ → ℕ → Bool = is_by (tree_store tree names) bare who path in
    files_shown tree bare names files rows test same tree_of is
    (read ∙ filter_alike FileRow (is_row_beside (tree_store tree names) sights entries path) (row_by_place test) rows (row_told tree bare names who sights entries rows path tree_of are come is))
    ∙ ap (map (file_line t)) (sym (filter_alike FileEntry (is_beside t who path) (by_place test) t.files (λ e i. beside_told tree bare t names files who path e same (own_names bare n))))
    ∙ sym (lines_held t s.holders who path)
    ∙ ap (λ (x : Store). lines_beside x who path) (sym has)

folders_held : (s : Store) (holders : List HolderEntry) (who : Who) → folder_lines (record s { holders = holders }) who ≡ folder_lines s who
unfolding folder_lines folder_line folder_names way_to_root allowed_to named_to allowed named downs ups granted_to
folders_held s holders TheOwner = refl
folders_held s holders (TheHolder h) = refl

pub folders_named : (tree bare s : Store) (names : Titles) (who : Who) (sights : List Sight) → bare.folders ≡ tree.folders → AreSights bare who sights → HasNames bare names s →
    flat_map (lines_of (tree_store tree names)) sights ≡ folder_lines s who
unfolding folder_lines titles_read
folders_named tree bare s names who sights same are has =
    folders_shown tree bare names [] who sights same are
    ∙ sym (folders_held (tree_store bare names) s.holders who)
    ∙ ap (λ (x : Store). folder_lines x who) (sym has)

-- ---- the steps

abbrev behind_names : Bundle → List ℕ → Reading → Opened → Result Line Failure
behind_names bundle path r o = or_else (line_at path (folder_lines o.store (who_of bundle))) (file_with r o (who_of bundle) path)

pub names_fail_path : (bundle : Bundle) (path : List ℕ) (r : Reading) (fault : ClientFault) → IsFault fault (visit_all r (visits_to_names r.stand.store (who_of bundle)) (opened_first bundle r)) →
    IsFailure fault (path_opened bundle path r)
names_fail_path bundle path r fault failed =
    let visited = visit_all r (visits_to_names r.stand.store (who_of bundle)) (opened_first bundle r) in
    failure_first fault (of_bytes visited) (behind_names bundle path r) (as_failure fault visited failed)

pub names_pass_path : (bundle : Bundle) (path : List ℕ) (r : Reading) (o : Opened) (found : Option Line) → visit_all r (visits_to_names r.stand.store (who_of bundle)) (opened_first bundle r) ≡ Ok o →
    found ≡ line_at path (folder_lines o.store (who_of bundle)) → path_opened bundle path r ≡ or_else found (file_with r o (who_of bundle) path)
names_pass_path bundle path r o found passed is =
    let visited = visit_all r (visits_to_names r.stand.store (who_of bundle)) (opened_first bundle r) in
    then_ok (of_bytes visited) (behind_names bundle path r) o (bytes_ok visited o passed)
    ∙ ap (λ (l : Option Line). or_else l (file_with r o (who_of bundle) path)) (sym is)

abbrev behind_files : Who → List ℕ → Opened → Result Line Failure
behind_files who path after = or_else (line_at path (lines_beside after.store who path)) (Err Unseen)

pub files_fail_path : (r : Reading) (o : Opened) (who : Who) (path : List ℕ) (stops : List Visit) (fault : ClientFault) → file_visits r.stand.store who (files_that (is_beside o.store who path) o.store) ≡ stops →
    IsFault fault (visit_all r stops o) → IsFailure fault (file_with r o who path)
unfolding file_with
files_fail_path r o who path stops fault is failed =
    let visits = file_visits r.stand.store who (files_that (is_beside o.store who path) o.store) in
    failure_first fault (of_bytes (visit_all r visits o)) (behind_files who path)
    (as_failure fault (visit_all r visits o) (subst (λ l. IsFault fault (visit_all r l o)) (sym is) failed))

pub files_pass_path : (r : Reading) (o after : Opened) (who : Who) (path : List ℕ) (stops : List Visit) (found : Option Line) → file_visits r.stand.store who (files_that (is_beside o.store who path) o.store) ≡ stops →
    visit_all r stops o ≡ Ok after → found ≡ line_at path (lines_beside after.store who path) → file_with r o who path ≡ or_else found (Err Unseen)
unfolding file_with
files_pass_path r o after who path stops found is passed same =
    let visits = file_visits r.stand.store who (files_that (is_beside o.store who path) o.store) in
    then_ok (of_bytes (visit_all r visits o)) (behind_files who path) after (bytes_ok (visit_all r visits o) after (ap (λ l. visit_all r l o) is ∙ passed))
    ∙ ap (λ (l : Option Line). or_else l (Err Unseen)) (sym same)

pub first_line : (found : Option Line) (line : Line) (next : Result Line Failure) → found ≡ Some line → or_else found next ≡ Ok line
unfolding or_else
first_line found line next is = ap (λ l. or_else l next) is

pub none_of : (X : Type 0) (o : Option X) → ((x : X) → o ≡ Some x → ⊥) → o ≡ None
none_of X None never = refl
none_of X (Some x) never = absurd (never x refl)

pub no_line : (found : Option Line) (next : Result Line Failure) → found ≡ None → or_else found next ≡ next
unfolding or_else
no_line found next is = ap (λ l. or_else l next) is

-- ---- a log that was read

path_then : (bundle : Bundle) (path : List ℕ) (log : Result (List PlainPlaced) Fault) → line_with bundle path log ≡ then_on (read_with bundle log) (path_opened bundle path)
unfolding line_with
path_then bundle path log = refl

pub reads_fail_path : (bundle : Bundle) (path : List ℕ) (log : Result (List PlainPlaced) Fault) (fault : ClientFault) → IsFailure fault (read_with bundle log) → IsFailure fault (line_with bundle path log)
reads_fail_path bundle path log fault is = subst (IsFailure fault) (sym (path_then bundle path log)) (failure_first fault (read_with bundle log) (path_opened bundle path) is)

pub reads_pass_path : (bundle : Bundle) (path : List ℕ) (log : Result (List PlainPlaced) Fault) (r : Reading) → read_with bundle log ≡ Ok r → line_with bundle path log ≡ path_opened bundle path r
reads_pass_path bundle path log r is = path_then bundle path log ∙ then_ok (read_with bundle log) (path_opened bundle path) r is

pub log_fails_path : (bundle : Bundle) (path bytes : List ℕ) (fault : ClientFault) → IsFault fault (bundle_log bundle bytes) → IsFailure fault (line_shown bundle path bytes)
unfolding line_shown
log_fails_path bundle path bytes fault is = reads_fail_path bundle path (bundle_log bundle bytes) fault (no_reading bundle (bundle_log bundle bytes) fault is)

pub log_read_path : (bundle : Bundle) (path bytes : List ℕ) (log : List PlainPlaced) (result : Result Shown ClientFault) → bundle_log bundle bytes ≡ Ok log →
    AnswersAs plain_line result (line_with bundle path (Ok log)) → AnswersAs plain_line result (line_shown bundle path bytes)
unfolding line_shown
log_read_path bundle path bytes log result read answer = subst (λ l. AnswersAs plain_line result (line_with bundle path l)) (sym read) answer
