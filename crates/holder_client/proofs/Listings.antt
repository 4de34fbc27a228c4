-- A log that is listed: the visits of names, then those of files, then the lines.
use Rattle.std.proofs.Common.{◌≡◌, ◌≢◌, ℕ, ◌<◌, Bool, true, false, not, cond, ◌&&◌, ◌||◌, List, [], ◌∷◌, ◌++◌, map, filter, Option, None, Some, Result, Ok, Err, refl, sym, ap, subst, ◌∙◌}
use Rattle.std.specs.Prelude.{find, is_some, option_map}
use Rattle.std.specs.List.{flat_map, list_any}
use Rattle.std.proofs.lemmas.Bool.{eqb-true, false≢true}
use Rattle.std.proofs.lemmas.List.Kept.{AllPairs-filter}
use Rattle.commit_journal.specs.Answering.{Fault, and_then}
use Rattle.commit_journal.specs.declared.fault.OpenFault.{OpenFault}
use Rattle.commit_journal.specs.declared.fault.OpenFault.TheVariants as opening
use Rattle.commit_journal.specs.Placed.{PlainPlaced}
use Rattle.cry_base.specs.Clearances.{clear_number}
use Rattle.cry_base.specs.Listed.{Listed}
use Rattle.cry_base.specs.Sets.{In}
use Rattle.cry_base.specs.Store.{Store, FileEntry, has_grant}
use Rattle.cry_base.specs.declared.client.Bundle.{Bundle}
use Rattle.cry_base.specs.declared.client.Bundle.TheVariants as bundles
use Rattle.cry_base.specs.declared.client.Line.{Line as Shown}
use Rattle.cry_base.specs.declared.roles.Role.TheVariants.{Clear}
use Rattle.cry_base.proofs.Finding.{find-found}
use Rattle.cry_base.proofs.Members.{In-filter, In-map}
use Rattle.folder_nodes.specs.Bare.{file_of_row}
use Rattle.folder_nodes.specs.declared.rows.FileRow.{FileRow}
use Rattle.folder_nodes.specs.Trees.{IsTree}
use Rattle.log_visits.specs.Answering.{AnswersAs, IsFailure, IsFault, client_fault}
use Rattle.holder_client.specs.Filed.{edge_from, edge_into, file_stops, is_allowed, is_entry, viewed}
use Rattle.log_visits.specs.Entries.{AreEntryFiles, entry_of}
use Rattle.log_visits.specs.Judging.{Failure, bundle_log, may_read, of_bytes, opened_first, read_through, read_with, shown_with, then_on, view_with, who_of}
use Rattle.log_visits.specs.Folding.{folded}
use Rattle.holder_client.specs.Lines.{plain_view}
use Rattle.log_visits.specs.Sights.{AreSights, MayRead}
use Rattle.log_visits.specs.View.{Line, view}
use Rattle.log_visits.specs.Visiting.{Opened, Reading, visit_all}
use Rattle.log_visits.specs.Visits.{Visit, all_visits, file_visits, files_that, into_file, is_entry_file, visits_to_names}
use Rattle.log_visits.specs.Visits.Visit.{ToKey, ToFile}
use Rattle.log_visits.specs.declared.fault.ClientFault.{ClientFault}
use Rattle.log_visits.specs.declared.fault.ClientFault.TheVariants as faults
use Rattle.log_visits.specs.declared.entry_files.EntryFile.{EntryFile}
use Rattle.log_visits.specs.declared.sights.Sight.{Sight}
use Rattle.holder_client.proofs.Admitted.{as_failure, bytes_ok, failure_first, then_ok}
use Rattle.holder_client.proofs.FiledReads.{all_after, fails_before}
use Rattle.log_visits.proofs.ListedVisits.{filter_alike, filter_mapped}
use Rattle.log_visits.proofs.OwnerVisits.{flat_alike, ordered, own_folder}
use Rattle.log_visits.proofs.Viewed.{fault_first}
use Rattle.log_visits.proofs.Rights.{allowed_entry}
use Rattle.holder_client.proofs.Shows.{allowed_row, entered_told, may_read_is}
use Rattle.public_fold.specs.Journal.{Stand, nothing}
use Rattle.role_graph.specs.PublicStore.{GrantsStand}
use Rattle.role_graph.specs.Edges.{edge, file_edge}
use Rattle.role_graph.specs.Rights.{Who, allowed_to, file_allowed_to}
use Rattle.role_graph.specs.Rights.Who.{TheOwner, TheHolder}
use Rattle.role_graph.specs.Roles.{clear_of, file_role}
use Rattle.role_graph.proofs.Adding.{flat_map_map}

-- ---- the visits of files, from the rows of the public state

any_found : (X : Type 0) (p : X → Bool) (xs : List X) → list_any p xs ≡ is_some (find p xs)
any_found X p [] = refl
any_found X p (x ∷ xs) = ap (λ b. p x || b) (any_found X p xs) ∙ elim (p x) as (λ b. (b || is_some (find p xs)) ≡ is_some (cond b (Some x) (find p xs))) [ true ↦ refl | false ↦ refl ]

-- a file in a folder that is allowed is no entry file
no_entry : (s : Store) (who : Who) (e : FileEntry) → allowed_to s who e.folder ≡ true → is_entry_file s who e ≡ false
unfolding is_entry_file
no_entry s TheOwner e t = refl
no_entry s (TheHolder h) e t = ap (λ b. has_grant s h (clear_number e.id) && not b) t ∙ and_none (has_grant s h (clear_number e.id))
  where
    and_none : (a : Bool) → (a && false) ≡ false
    and_none true = refl
    and_none false = refl

-- the edge into a file, as code looks it up of the entry files
pub into_told : (s : Store) (who : Who) (entries : List EntryFile) (e : FileEntry) (r : FileRow) → IsTree s → AreEntryFiles s who entries → In e s.files → file_allowed_to s who e ≡ true →
    r.id.0 ≡ e.id → r.folder.0 ≡ e.folder → into_file s who e.id ≡ edge_into entries r
unfolding into_file
into_told s who entries e r tree are i may id folder =
    ap (λ f. cond (allowed_to s who f) (file_edge f e.id) (edge 10 (clear_of (clear_number e.id)) (file_role e.id))) (own_folder s e tree.files_ascend i)
    ∙ by_test (allowed_to s who e.folder) refl
  where
    none_or : (b : Bool) (o : Option EntryFile) → is_some o ≡ b → b ≡ false → o ≡ None
    none_or b None t n = refl
    none_or b (Some x) t n = absurd (false≢true (sym n ∙ sym t))

    entered : list_any (is_entry e.id) entries ≡ is_entry_file s who e
    entered = entered_told s who entries e tree are i

    found : list_any (is_entry e.id) entries ≡ is_some (find (is_entry e.id) entries)
    found = any_found EntryFile (is_entry e.id) entries

    by_entry : (o : Option EntryFile) → find (is_entry r.id.0) entries ≡ o → is_some o ≡ true → edge 10 (clear_of (clear_number e.id)) (file_role e.id) ≡ edge_from r (option_map (λ (x : EntryFile). x.clearance) o)
    by_entry None t some = absurd (false≢true some)
    by_entry (Some x) t some = unfold clear_of in
        let w = find-found EntryFile (is_entry r.id.0) entries x t in
        let d = (In-map FileEntry EntryFile entry_of x (filter (is_entry_file s who) s.files)).0 (subst (In x) are w.0) in
        let number : d.0.id ≡ e.id = ap (λ (y : EntryFile). y.file.0) (sym d.2) ∙ eqb-true x.file.0 r.id.0 w.1 ∙ id in
        let own : x.clearance ≡ record { 0 = clear_number e.id } = ap (λ (y : EntryFile). y.clearance) d.2 ∙ (λ j. record { 0 = clear_number (number j) }) in
        (λ j. edge 10 (Clear (sym own j)) (file_role (sym id j)))

    by_test : (b : Bool) → allowed_to s who e.folder ≡ b → cond b (file_edge e.folder e.id) (edge 10 (clear_of (clear_number e.id)) (file_role e.id)) ≡ edge_into entries r
    by_test true t =
        let none : find (is_entry r.id.0) entries ≡ None =
        none_or (is_entry_file s who e) (find (is_entry r.id.0) entries) (ap (λ n. is_some (find (is_entry n) entries)) id ∙ sym found ∙ entered) (no_entry s who e t)
        in
        (λ j. file_edge (sym folder j) (sym id j)) ∙ ap (λ o. edge_from r (option_map (λ (x : EntryFile). x.clearance) o)) (sym none)
    by_test false t =
        by_entry (find (is_entry r.id.0) entries) refl (ap (λ n. is_some (find (is_entry n) entries)) id ∙ sym found ∙ entered ∙ allowed_entry s who e may t)

pub stops_told : (s : Store) (who : Who) (entries : List EntryFile) (rows : List FileRow) (test : FileEntry → Bool) (by : FileRow → Bool) → IsTree s → AreEntryFiles s who entries → s.files ≡ map file_of_row rows →
    ((r : FileRow) → In r rows → by r ≡ test (file_of_row r)) → ((e : FileEntry) → In e s.files → test e ≡ true → file_allowed_to s who e ≡ true) →
    file_visits s who (files_that test s) ≡ flat_map (file_stops entries) (filter by rows)
unfolding file_visits files_that
stops_told s who entries rows test by tree are is same may =
    let g : ℕ → List Visit = λ x. ToKey (into_file s who x) ∷ ToFile x ∷ [] in
    let passing = filter (λ (r : FileRow). test (file_of_row r)) rows in
    let kept = filter test s.files in
    ap (flat_map g) (ordered FileEntry (λ (e : FileEntry). e.id) kept (AllPairs-filter (λ (a b : FileEntry). a.id < b.id) test s.files tree.files_ascend))
    ∙ flat_map_map FileEntry ℕ Visit g (λ (e : FileEntry). e.id) kept
    ∙ ap (λ l. flat_map (λ (e : FileEntry). g e.id) (filter test l)) is
    ∙ ap (flat_map (λ (e : FileEntry). g e.id)) (filter_mapped FileRow FileEntry test file_of_row rows)
    ∙ flat_map_map FileRow FileEntry Visit (λ e. g e.id) file_of_row passing
    ∙ flat_alike FileRow Visit (λ r. g r.id.0) (file_stops entries) passing (λ r i.
    let f = In-filter FileRow (λ (x : FileRow). test (file_of_row x)) r rows i in
    let there : In (file_of_row r) s.files = subst (In (file_of_row r)) (sym is) ((In-map FileRow FileEntry file_of_row (file_of_row r) rows).1 (r, f.0, refl)) in
    ap (λ e. ToKey e ∷ ToFile r.id.0 ∷ []) (into_told s who entries (file_of_row r) r tree are there (may (file_of_row r) there f.1) refl refl))
    ∙ ap (flat_map (file_stops entries)) (sym (filter_alike FileRow by (λ r. test (file_of_row r)) rows same))

-- those of the files that are allowed
pub allowed_stops : (s : Store) (who : Who) (sights : List Sight) (entries : List EntryFile) (rows : List FileRow) → IsTree s → AreSights s who sights → AreEntryFiles s who entries → s.files ≡ map file_of_row rows →
    all_visits s who ≡ visits_to_names s who ++ flat_map (file_stops entries) (filter (is_allowed sights entries) rows)
unfolding all_visits
allowed_stops s who sights entries rows tree are come is =
    ap (λ l. visits_to_names s who ++ l) (stops_told s who entries rows (file_allowed_to s who) (is_allowed sights entries) tree come is
    (λ r i. allowed_row s who sights entries rows tree are come is r i ∙ may_read_is s who (file_of_row r)) (λ e i t. t))

-- ---- the steps of a listing

pub names_fail : (bundle : Bundle) (r : Reading) (fault : ClientFault) → IsFault fault (visit_all r (visits_to_names r.stand.store (who_of bundle)) (opened_first bundle r)) → IsFailure fault (viewed bundle r)
unfolding all_visits
names_fail bundle r fault failed =
    let who = who_of bundle in
    let files = file_visits r.stand.store who (files_that (file_allowed_to r.stand.store who) r.stand.store) in
    failure_first fault (of_bytes (visit_all r (all_visits r.stand.store who) (opened_first bundle r))) (λ (o : Opened). let x : Result (List Line) Failure = Ok (view o.store who) in x)
    (as_failure fault (visit_all r (all_visits r.stand.store who) (opened_first bundle r)) (fails_before r (visits_to_names r.stand.store who) files (opened_first bundle r) fault failed))

pub files_fail : (bundle : Bundle) (r : Reading) (files : List Visit) (o : Opened) (fault : ClientFault) → all_visits r.stand.store (who_of bundle) ≡ visits_to_names r.stand.store (who_of bundle) ++ files →
    visit_all r (visits_to_names r.stand.store (who_of bundle)) (opened_first bundle r) ≡ Ok o → IsFault fault (visit_all r files o) → IsFailure fault (viewed bundle r)
files_fail bundle r files o fault is passed failed =
    let who = who_of bundle in
    failure_first fault (of_bytes (visit_all r (all_visits r.stand.store who) (opened_first bundle r))) (λ (p : Opened). let x : Result (List Line) Failure = Ok (view p.store who) in x)
    (as_failure fault (visit_all r (all_visits r.stand.store who) (opened_first bundle r))
    (subst (IsFault fault) (sym (ap (λ l. visit_all r l (opened_first bundle r)) is ∙ all_after r (visits_to_names r.stand.store who) files (opened_first bundle r) o passed)) failed))

pub all_pass : (bundle : Bundle) (r : Reading) (files : List Visit) (o p : Opened) → all_visits r.stand.store (who_of bundle) ≡ visits_to_names r.stand.store (who_of bundle) ++ files →
    visit_all r (visits_to_names r.stand.store (who_of bundle)) (opened_first bundle r) ≡ Ok o → visit_all r files o ≡ Ok p → viewed bundle r ≡ Ok (view p.store (who_of bundle))
all_pass bundle r files o p is passed done =
    let who = who_of bundle in
    let whole : visit_all r (all_visits r.stand.store who) (opened_first bundle r) ≡ Ok p =
    ap (λ l. visit_all r l (opened_first bundle r)) is ∙ all_after r (visits_to_names r.stand.store who) files (opened_first bundle r) o passed ∙ done
    in
    then_ok (of_bytes (visit_all r (all_visits r.stand.store who) (opened_first bundle r))) (λ (x : Opened). let y : Result (List Line) Failure = Ok (view x.store who) in y) p
    (bytes_ok (visit_all r (all_visits r.stand.store who) (opened_first bundle r)) p whole)

-- ---- a log that was read

pub read_then : (bundle : Bundle) (log : Result (List PlainPlaced) Fault) → view_with bundle log ≡ then_on (read_with bundle log) (viewed bundle)
unfolding view_with
read_then bundle log = refl

pub may_read_all : (bundle : Bundle) (s : Store) → GrantsStand s → MayRead s (who_of bundle)
unfolding who_of
may_read_all (bundles.Owner key) s stand = tt
may_read_all (bundles.Holder h key) s stand = stand

pub reads_fail_view : (bundle : Bundle) (log : Result (List PlainPlaced) Fault) (fault : ClientFault) → IsFailure fault (read_with bundle log) → IsFailure fault (view_with bundle log)
reads_fail_view bundle log fault is = subst (IsFailure fault) (sym (read_then bundle log)) (failure_first fault (read_with bundle log) (viewed bundle) is)

pub reads_pass_view : (bundle : Bundle) (log : Result (List PlainPlaced) Fault) (r : Reading) → read_with bundle log ≡ Ok r → view_with bundle log ≡ viewed bundle r
reads_pass_view bundle log r is = read_then bundle log ∙ then_ok (read_with bundle log) (viewed bundle) r is

-- a log that fails
pub no_reading : (bundle : Bundle) (log : Result (List PlainPlaced) Fault) (fault : ClientFault) → IsFault fault log → IsFailure fault (read_with bundle log)
unfolding read_with read_through
no_reading bundle log fault is =
    failure_first fault (of_bytes (read_through log)) (may_read bundle)
    (as_failure fault (read_through log) (fault_first fault log (λ (placed : List PlainPlaced). and_then (folded nothing placed) (λ (stand : Stand). let x : Result Reading Fault = Ok (record { log = placed; stand = stand }) in x)) is))

pub log_fails_view : (bundle : Bundle) (bytes : List ℕ) (fault : ClientFault) → IsFault fault (bundle_log bundle bytes) → IsFailure fault (shown_with bundle bytes)
unfolding shown_with
log_fails_view bundle bytes fault is = reads_fail_view bundle (bundle_log bundle bytes) fault (no_reading bundle (bundle_log bundle bytes) fault is)

pub log_read_view : (bundle : Bundle) (bytes : List ℕ) (log : List PlainPlaced) (result : Result (Listed Shown) ClientFault) → bundle_log bundle bytes ≡ Ok log →
    AnswersAs plain_view result (view_with bundle (Ok log)) → AnswersAs plain_view result (shown_with bundle bytes)
unfolding shown_with
log_read_view bundle bytes log result read answer = subst (λ l. AnswersAs plain_view result (view_with bundle l)) (sym read) answer

-- ---- no path is asked for

pub opening_seen : {X : Type 0} (fault : OpenFault) → (let r : Result X ClientFault = Err (client_fault fault) in r) ≢ Err faults.Unseen
opening_seen opening.NotAStore = λ q. absurd cc
opening_seen opening.WrongKey = λ q. absurd cc
opening_seen (opening.Damaged at) = λ q. absurd cc
opening_seen (opening.Tampered batch at) = λ q. absurd cc
opening_seen opening.DiskFault = λ q. absurd cc
opening_seen opening.OutOfMemory = λ q. absurd cc
