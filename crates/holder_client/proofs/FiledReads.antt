-- Files that were read, seen by the names and bytes that they have then.
use Rattle.std.proofs.Common.{◌≡◌, ◌≢◌, ℕ, zero, suc, ◌+◌, ◌<◌, ◌≤◌, Bool, true, filter, cond, List, [], ◌∷◌, ◌++◌, drop, get_or, length, map, take, Option, None, Some, Result, Ok, Err, inl, inr, ⊎_elim, refl, sym, ap, subst, ◌∙◌, arith}
use Rattle.std.specs.HashMap.{HashMap, get}
use Rattle.std.specs.List.{AllPairs, flat_map}
use Rattle.std.specs.Prelude.{find, option_map}
use Rattle.std.proofs.Math.ListN.{drop_of_length-le}
use Rattle.std.proofs.lemmas.Bool.{eq-eqb, eqb-true, ne_eqb}
use Rattle.std.proofs.lemmas.List.{drop_more, map-append}
use Rattle.commit_journal.specs.Answering.{Fault, and_then}
use Rattle.commit_journal.specs.Placed.{PlainPlaced}
use Rattle.cry_base.specs.Sets.{In}
use Rattle.cry_base.specs.Stepping.{with_file}
use Rattle.cry_base.specs.Store.{Store, FileEntry}
use Rattle.cry_base.specs.Clearances.{clear_number}
use Rattle.cry_base.specs.declared.ids.FolderId.{FolderId}
use Rattle.cry_base.specs.declared.roles.Role.TheVariants.{Clear}
use Rattle.cry_base.specs.declared.roles.Node.TheVariants.{Folder, File}
use Rattle.cry_base.proofs.Finding.{find-found}
use Rattle.cry_base.proofs.Members.{In-filter, In-map}
use Rattle.folder_nodes.specs.Bare.{file_of_row}
use Rattle.folder_nodes.specs.Titles.{Title, Titles, title_at}
use Rattle.folder_nodes.specs.declared.rows.FileRow.{FileRow}
use Rattle.folder_nodes.proofs.Ascending.{All-in, head_below, rest_rising}
use Rattle.log_visits.specs.Answering.{IsFault}
use Rattle.holder_client.specs.Filed.{AreStanding, HasClearances, IsReadBy, edge_from, edge_into, everyone, file_stops, is_entry, read_title, titles_read, with_read}
use Rattle.log_visits.specs.Entries.{AreEntryFiles, entry_of}
use Rattle.log_visits.specs.Holding.{HasKind, HasNames, HoldsKeys, IsFiled, IsFiledBy, IsReadingIn}
use Rattle.log_visits.specs.Visiting.{Opened, Reading, visit, visit_all}
use Rattle.log_visits.specs.Sights.{same_number}
use Rattle.log_visits.specs.Visits.{Visit, is_entry_file}
use Rattle.log_visits.specs.Visits.Visit.{ToKey, ToFile}
use Rattle.log_visits.specs.declared.fault.ClientFault.{ClientFault}
use Rattle.log_visits.specs.declared.fault.ClientFault.TheVariants as faults
use Rattle.log_visits.specs.declared.entry_files.EntryFile.{EntryFile}
use Rattle.holder_client.specs.declared.reading.ReadFile.{ReadFile}
use Rattle.log_visits.specs.declared.texts.NamedBytes.{NamedBytes}
use Rattle.log_visits.proofs.ListedVisits.{taken_more}
use Rattle.log_visits.proofs.Naming.{IsNamed, file_named}
use Rattle.log_visits.proofs.ReaderVisits.{clearance_edge, entry_has_grants, into_clearance_file}
use Rattle.log_visits.proofs.Viewed.{fault_first}
use Rattle.key_links.specs.Ended.{kind_from, kind_to, role_with, row_numbered}
use Rattle.key_links.specs.Ringed.{Ringed}
use Rattle.public_fold.specs.Standing.{PublicView}
use Rattle.role_graph.specs.Edges.{IsEdge, edge, file_edge}
use Rattle.role_graph.specs.Rights.{Who}
use Rattle.role_graph.specs.Roles.{clear_of, file_role, files_of, role_id}

-- one file more
pub read_more : (files : List ReadFile) (f : ReadFile) (titles : List Title) → titles_read (files ++ f ∷ []) titles ≡ read_title f ∷ titles_read files titles
unfolding titles_read
read_more [] f titles = refl
read_more (x ∷ files) f titles = read_more files f (read_title x ∷ titles)

pub filed_more : (bare : Store) (names : Titles) (files new : List ReadFile) (f : ReadFile) (o behind : Opened) → new ≡ files ++ f ∷ [] → IsFiled f.row.id.0 f.name.items f.bytes.items o behind →
    HasNames bare (with_read names files) o.store → HasNames bare (with_read names new) behind.store
unfolding with_file
filed_more bare names files new f o behind is filed has =
    let titles = titles_read files names.files in
    let next : Titles = record names { files = read_title f ∷ titles } in
    let named : HasNames bare next (with_file o.store f.row.id.0 (λ e. record e { name = f.name.items; bytes = f.bytes.items })) =
    file_named bare f.row.id.0 f.name.items f.bytes.items next (with_read names files) o.store (told f titles) has
    in
    subst (HasNames bare (with_read names new)) (sym filed)
    (subst (λ ts. HasNames bare (record names { files = ts }) (with_file o.store f.row.id.0 (λ e. record e { name = f.name.items; bytes = f.bytes.items })))
    (sym (ap (λ l. titles_read l names.files) is ∙ read_more files f names.files)) named)
  where
    told : (f : ReadFile) (titles : List Title) → IsNamed (File (record { 0 = f.row.id.0 })) f.name.items f.bytes.items (record names { files = read_title f ∷ titles }) (record names { files = titles })
    told f titles (Folder g) = refl
    told f titles (File y) = refl

-- ---- looked up

-- titles of others change nothing
others_read : (files : List ReadFile) (titles : List Title) (x : ℕ) → ((f : ReadFile) → In f files → f.row.id.0 ≢ x) → title_at (titles_read files titles) x ≡ title_at titles x
unfolding titles_read
others_read [] titles x apart = refl
others_read (f ∷ files) titles x apart =
    others_read files (read_title f ∷ titles) x (λ g i. apart g (inr i))
    ∙ ap (λ b. cond b (Some (read_title f)) (title_at titles x)) (ne_eqb f.row.id.0 x (apart f (inl refl)))

abbrev pub rank : ReadFile → ℕ
rank f = f.row.id.0

-- of files with numbers of their own each is found
pub read_found : (files : List ReadFile) (titles : List Title) (f : ReadFile) → AllPairs (λ (a b : ReadFile). rank a < rank b) files → In f files → title_at (titles_read files titles) (rank f) ≡ Some (read_title f)
unfolding titles_read
read_found [] titles f up i = absurd i
read_found (x ∷ files) titles f up i = ⊎_elim
    (λ (same : f ≡ x).
    ap (λ (g : ReadFile). title_at (titles_read files (read_title x ∷ titles)) (rank g)) same
    ∙ others_read files (read_title x ∷ titles) (rank x) (λ g j. let less : rank x < rank g = All-in ReadFile (λ z. rank x < rank z) files g (head_below ReadFile rank x files up) j in λ q. omega (arith, less, q))
    ∙ ap (λ b. cond b (Some (read_title x)) (title_at titles (rank x))) (eq-eqb (rank x) (rank x) refl)
    ∙ ap (λ (g : ReadFile). Some (read_title g)) (sym same))
    (λ j. read_found files (read_title x ∷ titles) f (rest_rising ReadFile rank x files up) j)
    i

-- ---- the two visits of a file

pub link_fails : (entries : List EntryFile) (r : Reading) (o : Opened) (row : FileRow) (fault : ClientFault) → IsFault fault (visit r (ToKey (edge_into entries row)) o) → IsFault fault (visit_all r (file_stops entries row) o)
unfolding visit_all
link_fails entries r o row fault is = fault_first fault (visit r (ToKey (edge_into entries row)) o) (visit_all r (ToFile row.id.0 ∷ [])) is

link_passes : (entries : List EntryFile) (r : Reading) (o next : Opened) (row : FileRow) → visit r (ToKey (edge_into entries row)) o ≡ Ok next → visit_all r (file_stops entries row) o ≡ and_then (visit r (ToFile row.id.0) next) (visit_all r [])
unfolding visit_all and_then
link_passes entries r o next row is = rw is refl

pub text_fails : (entries : List EntryFile) (r : Reading) (o next : Opened) (row : FileRow) (fault : ClientFault) → visit r (ToKey (edge_into entries row)) o ≡ Ok next → IsFault fault (visit r (ToFile row.id.0) next) →
    IsFault fault (visit_all r (file_stops entries row) o)
text_fails entries r o next row fault passed is = subst (IsFault fault) (sym (link_passes entries r o next row passed)) (fault_first fault (visit r (ToFile row.id.0) next) (visit_all r []) is)

pub text_read : (entries : List EntryFile) (ring : Ringed) (r : Reading) (o next : Opened) (row : FileRow) (f : ReadFile) (parts : NamedBytes) → visit r (ToKey (edge_into entries row)) o ≡ Ok next → HoldsKeys everyone ring next.keys →
    next.store ≡ o.store → (last : Opened) × (visit r (ToFile row.id.0) next ≡ Ok last) × IsFiledBy row.id.0 parts next last → f.row ≡ row → f.name ≡ parts.name → f.bytes ≡ parts.bytes →
    (behind : Opened) × (visit_all r (file_stops entries row) o ≡ Ok behind) × (HoldsKeys everyone ring behind.keys × IsReadBy f o behind)
unfolding visit_all and_then with_file
text_read entries ring r o next row f parts passed holds same filed is_row is_name is_bytes =
    let last = filed.0 in
    let keys : last.keys ≡ next.keys = ap (λ (x : Opened). x.keys) filed.2 in
    let store : last.store ≡ with_file o.store f.row.id.0 (λ e. record e { name = f.name.items; bytes = f.bytes.items }) =
    ap (λ (x : Opened). x.store) filed.2
    ∙ ap (λ (s : Store). with_file s row.id.0 (λ e. record e { name = parts.name.items; bytes = parts.bytes.items })) same
    ∙ rw (is_row, is_name, is_bytes) refl
    in
    (last, link_passes entries r o next row passed ∙ rw filed.1 refl, (subst (HoldsKeys everyone ring) (sym keys) holds, store))

-- ---- all of them

-- the files so far were read, and those from an index on are left
abbrev pub AreReadTo : PublicView → List PlainPlaced → List EntryFile → Ringed → List FileRow → ℕ → Ringed → List ReadFile → Type 0
AreReadTo state log entries before rows i ring files =
    (r : Reading) (o : Opened) (bare : Store) (names : Titles) → IsReadingIn state log r → AreStanding r.stand.store entries rows → HoldsKeys everyone before o.keys → HasNames bare names o.store →
    (p : Opened) × (visit_all r (flat_map (file_stops entries) rows) o ≡ visit_all r (flat_map (file_stops entries) (drop i rows)) p) × HoldsKeys everyone ring p.keys × HasNames bare (with_read names files) p.store

pub reads_begin : (state : PublicView) (log : List PlainPlaced) (entries : List EntryFile) (ring : Ringed) (rows : List FileRow) (files : List ReadFile) → files ≡ [] → AreReadTo state log entries ring rows 0 ring files
unfolding titles_read
reads_begin state log entries ring rows files none = λ r o bare names of_log stand holds has. (o, refl, holds, subst (λ l. HasNames bare (with_read names l) o.store) (sym none) has)

pub all_after : (r : Reading) (vs ws : List Visit) (o p : Opened) → visit_all r vs o ≡ Ok p → visit_all r (vs ++ ws) o ≡ visit_all r ws p
unfolding visit_all and_then
all_after r [] ws o p is = let same : o ≡ p = cc in ap (visit_all r ws) same
all_after r (v ∷ vs) ws o p is =
    (elim (visit r v o) as (λ x. and_then x (visit_all r vs) ≡ Ok p → and_then x (visit_all r (vs ++ ws)) ≡ visit_all r ws p) [
      | Ok next ↦ λ e. all_after r vs ws next p e
      | Err fault ↦ λ e. absurd cc
    ]) is

pub fails_before : (r : Reading) (vs ws : List Visit) (o : Opened) (fault : ClientFault) → IsFault fault (visit_all r vs o) → IsFault fault (visit_all r (vs ++ ws) o)
unfolding visit_all and_then
fails_before r [] ws o fault = none fault
  where
    none : (fault : ClientFault) → IsFault fault (let x : Result Opened Fault = Ok o in x) → IsFault fault (visit_all r ws o)
    none faults.NotAStore is = absurd cc
    none faults.WrongKey is = absurd cc
    none (faults.Damaged at) is = absurd cc
    none (faults.Tampered batch at) is = absurd cc
    none (faults.NoHolder known) is = absurd is
    none faults.Unseen is = absurd is
    none faults.DiskFault is = tt
    none faults.OutOfMemory is = tt
fails_before r (v ∷ vs) ws o fault =
    elim (visit r v o) as (λ x. IsFault fault (and_then x (visit_all r vs)) → IsFault fault (and_then x (visit_all r (vs ++ ws)))) [
      | Ok next ↦ λ e. fails_before r vs ws next fault e
      | Err other ↦ λ e. e
    ]

from_row : (entries : List EntryFile) (rows : List FileRow) (i : ℕ) (row : FileRow) → i < length rows → row ≡ get_or rows i row → flat_map (file_stops entries) (drop i rows) ≡ file_stops entries row ++ flat_map (file_stops entries) (drop (i + 1) rows)
from_row entries rows i row within is = ap (flat_map (file_stops entries)) (drop_more rows i row within) ∙ ap (λ (x : FileRow). file_stops entries x ++ flat_map (file_stops entries) (drop (i + 1) rows)) (sym is)

row_in : (rows : List FileRow) (i : ℕ) (d : FileRow) → i < length rows → In (get_or rows i d) rows
row_in [] i d within = absurd (omega (arith, within))
row_in (x ∷ rows) zero d within = inl refl
row_in (x ∷ rows) (suc i) d within = inr (row_in rows i d (omega (arith, within)))

row_stands : (s : Store) (entries : List EntryFile) (rows : List FileRow) (i : ℕ) (row : FileRow) → i < length rows → row ≡ get_or rows i row → AreStanding s entries rows → AreStanding s entries (row ∷ [])
row_stands s entries rows i row within is stand = λ r j. ⊎_elim
    (λ (q : r ≡ row). stand r (subst (λ (x : FileRow). In x rows) (sym (q ∙ is)) (row_in rows i row within)))
    (λ n. absurd n) j

-- the edge into a file that stands does
into_stands : (s : Store) (who : Who) (entries : List EntryFile) (r : FileRow) → AreEntryFiles s who entries → In (file_of_row r) s.files → IsEdge s (edge_into entries r)
into_stands s who entries r are i =
    (elim (find (is_entry r.id.0) entries) as (λ o. find (is_entry r.id.0) entries ≡ o → IsEdge s (edge_from r (option_map (λ (e : EntryFile). e.clearance) o))) [
      | None ↦ λ t. inr (inr (inr (inl (file_of_row r, i, refl))))
      | Some x ↦ λ t. by_entry x (find-found EntryFile (is_entry r.id.0) entries x t)
    ]) refl
  where
    by_entry : (x : EntryFile) → In x entries × (is_entry r.id.0 x ≡ true) → IsEdge s (edge 10 (Clear x.clearance) (file_role r.id.0))
    by_entry x found = unfold clear_of in
        let w = (In-map FileEntry EntryFile entry_of x (filter (is_entry_file s who) s.files)).0 (subst (In x) are found.0) in
        let e : FileEntry = w.0 in
        let passes = In-filter FileEntry (is_entry_file s who) e s.files w.1 in
        let own : e.id ≡ r.id.0 = ap (λ (y : EntryFile). y.file.0) (sym w.2) ∙ eqb-true x.file.0 r.id.0 found.1 in
        let stands = clearance_edge s e (edge 10 (clear_of (clear_number e.id)) (file_role e.id)) passes.0 (entry_has_grants s who e passes.1) (into_clearance_file e) in
        subst (λ c. IsEdge s (edge 10 (Clear c) (file_role r.id.0))) (ap (λ (y : EntryFile). y.clearance) (sym w.2))
        (subst (λ n. IsEdge s (edge 10 (clear_of (clear_number e.id)) (file_role n))) own stands)

-- rows of a store's files are of files that stand, and so are some of them
pub rows_stand : (s : Store) (who : Who) (entries : List EntryFile) (rows some : List FileRow) (by : FileRow → Bool) → AreEntryFiles s who entries → s.files ≡ map file_of_row rows → some ≡ filter by rows → AreStanding s entries some
rows_stand s who entries rows some by are is chosen = λ r i.
    let e : FileEntry = file_of_row r in
    let there = (In-filter FileRow by r rows (subst (λ (l : List FileRow). In r l) chosen i)).0 in
    let listed : In e (map file_of_row rows) = (In-map FileRow FileEntry file_of_row e rows).1 (r, there, refl) in
    let stands : In e s.files = subst (In e) (sym is) listed in
    (e, stands, refl, refl, into_stands s who entries r are stands)

-- so the visits of a file are to what stands
pub file_edge_stands : (s : Store) (entries : List EntryFile) (row : FileRow) → AreStanding s entries (row ∷ []) → IsEdge s (edge_into entries row)
file_edge_stands s entries row stand = (stand row (inl refl)).4

pub file_stands : (s : Store) (entries : List EntryFile) (row : FileRow) → AreStanding s entries (row ∷ []) → (e : FileEntry) × In e s.files × (e.id ≡ row.id.0)
file_stands s entries row stand = let w = stand row (inl refl) in (w.0, w.1, w.2)

pub reads_go_on : (state : PublicView) (log : List PlainPlaced) (entries : List EntryFile) (before ring next : Ringed) (rows : List FileRow) (i : ℕ) (row : FileRow) (files new : List ReadFile) (f : ReadFile) → i < length rows → row ≡ get_or rows i row →
    AreReadTo state log entries before rows i ring files → new ≡ files ++ f ∷ [] →
    ((r : Reading) (o : Opened) → IsReadingIn state log r → AreStanding r.stand.store entries (row ∷ []) → HoldsKeys everyone ring o.keys → (behind : Opened) × (visit_all r (file_stops entries row) o ≡ Ok behind) × (HoldsKeys everyone next behind.keys × IsReadBy f o behind)) →
    AreReadTo state log entries before rows (i + 1) next new
reads_go_on state log entries before ring next rows i row files new f within is so_far more made = λ r o bare names of_log stand holds has.
    let so = so_far r o bare names of_log stand holds has in
    let w = made r so.0 of_log (row_stands r.stand.store entries rows i row within is stand) so.2 in (
      w.0,
      so.1 ∙ ap (λ l. visit_all r l so.0) (from_row entries rows i row within is) ∙ all_after r (file_stops entries row) (flat_map (file_stops entries) (drop (i + 1) rows)) so.0 w.0 w.1,
      w.2.0,
      filed_more bare names files new f so.0 w.0 more w.2.1 so.3,
    )

pub reads_fail : (state : PublicView) (log : List PlainPlaced) (entries : List EntryFile) (before ring : Ringed) (rows : List FileRow) (i : ℕ) (row : FileRow) (files : List ReadFile) (fault : ClientFault) → i < length rows → row ≡ get_or rows i row →
    AreReadTo state log entries before rows i ring files → ((r : Reading) (o : Opened) → IsReadingIn state log r → AreStanding r.stand.store entries (row ∷ []) → HoldsKeys everyone ring o.keys → IsFault fault (visit_all r (file_stops entries row) o)) →
    (r : Reading) (o : Opened) (bare : Store) (names : Titles) → IsReadingIn state log r → AreStanding r.stand.store entries rows → HoldsKeys everyone before o.keys → HasNames bare names o.store → IsFault fault (visit_all r (flat_map (file_stops entries) rows) o)
reads_fail state log entries before ring rows i row files fault within is so_far failed = λ r o bare names of_log stand holds has.
    let so = so_far r o bare names of_log stand holds has in
    subst (IsFault fault) (sym (so.1 ∙ ap (λ l. visit_all r l so.0) (from_row entries rows i row within is)))
    (fails_before r (file_stops entries row) (flat_map (file_stops entries) (drop (i + 1) rows)) so.0 fault (failed r so.0 of_log (row_stands r.stand.store entries rows i row within is stand) so.2))

pub reads_end : (state : PublicView) (log : List PlainPlaced) (entries : List EntryFile) (before ring : Ringed) (rows : List FileRow) (i : ℕ) (files : List ReadFile) → length rows ≤ i → AreReadTo state log entries before rows i ring files →
    (r : Reading) (o : Opened) (bare : Store) (names : Titles) → IsReadingIn state log r → AreStanding r.stand.store entries rows → HoldsKeys everyone before o.keys → HasNames bare names o.store →
    (behind : Opened) × (visit_all r (flat_map (file_stops entries) rows) o ≡ Ok behind) × HasNames bare (with_read names files) behind.store
unfolding visit_all
reads_end state log entries before ring rows i files past so_far = λ r o bare names of_log stand holds has.
    let so = so_far r o bare names of_log stand holds has in
    (so.0, so.1 ∙ ap (λ l. visit_all r (flat_map (file_stops entries) l) so.0) (drop_of_length-le rows past), so.3)

pub rows_more : (rows : List FileRow) (i : ℕ) (row : FileRow) (files new : List ReadFile) (f : ReadFile) → i < length rows → row ≡ get_or rows i row → map (λ (x : ReadFile). x.row) files ≡ take i rows → f.row ≡ row →
    new ≡ files ++ f ∷ [] → map (λ (x : ReadFile). x.row) new ≡ take (i + 1) rows
rows_more rows i row files new f within is so_far own more =
    ap (map (λ (x : ReadFile). x.row)) more ∙ map-append (λ (x : ReadFile). x.row) files (f ∷ []) ∙ ap (λ l. l ++ f.row ∷ []) so_far ∙ ap (λ (x : FileRow). take i rows ++ x ∷ []) own ∙ taken_more rows i row within is

pub into_kind : (row : FileRow) (o : Option FolderId) → HasKind (edge_from row o)
unfolding file_edge edge files_of file_role role_with kind_from kind_to row_numbered role_id
into_kind row None = record { from_one = omega arith; to_eleven = omega arith; source = refl; target = refl }
into_kind row (Some c) = record { from_one = omega arith; to_eleven = omega arith; source = refl; target = refl }

-- the edge that was looked up is the edge into the file
pub looked_into : {S : Type 0} (clearances : HashMap ℕ FolderId S) (entries : List EntryFile) (row : FileRow) → HasClearances clearances entries → edge_from row (get same_number clearances row.id.0) ≡ edge_into entries row
looked_into clearances entries row has = ap (edge_from row) (has row.id.0)
