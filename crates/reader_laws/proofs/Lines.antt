-- The line of a path that readers of a journal are shown is the one that the view of its store has.
use Rattle.std.proofs.Common.{◌≡◌, ⊎_elim, inl, inr, ℕ, Bool, true, false, ◌&&◌, List, [], ◌∷◌, ◌++◌, map, filter, Option, Some, None, Result, Ok, Err, refl, sym, ap, subst, ◌∙◌, append-nil}
use Rattle.std.specs.List.{list_all, list_any}
use Rattle.std.specs.Str.{bytes_eq}
use Rattle.std.proofs.lemmas.Bool.{and_from, and_parts}
use Rattle.std.proofs.lemmas.Slice.Eq.{bytes_eq-Decides}
use Rattle.commit_journal.specs.Answering.{Fault, and_then}
use Rattle.cry_base.specs.Naming.{front, is_name, is_path, names_of, parent_path, spell_path}
use Rattle.cry_base.specs.Sets.{In}
use Rattle.cry_base.specs.Store.{Store, FileEntry, FolderEntry, file_names, folder_names, folder_node, node_names, path_of}
use Rattle.cry_base.specs.declared.client.Bundle.{Bundle}
use Rattle.cry_base.proofs.Finding.{find-found, found-find}
use Rattle.cry_base.proofs.Members.{In-append, In-filter, In-map, filter-In}
use Rattle.cry_base.proofs.Paths.{names_told, path_told}
use Rattle.log_visits.specs.Asking.{file_with, folder_lines, is_beside, line_at, line_shown, line_with, lines_beside, or_else}
use Rattle.log_visits.specs.Judging.{Unseen, of_bytes, opened_first, then_on, who_of}
use Rattle.log_visits.specs.View.{Line, file_line, folder_line, line_path, view}
use Rattle.log_visits.specs.Visiting.{Opened, Reading, visit, visit_all}
use Rattle.log_visits.specs.Visits.{Visit, file_visits, files_that, visits_to_names}
use Rattle.log_visits.proofs.OwnPath.{own_paths}
use Rattle.log_visits.proofs.Viewing.{view_told}
use Rattle.move_plan.specs.Fitting.{public_of}
use Rattle.role_graph.specs.Rights.{Who, file_allowed_to, named_to}
use Rattle.role_graph.proofs.Granting.{file_allowed_to_told, named_to_told}
use Rattle.public_fold.specs.Journal.{Journal, store_of}
use Rattle.public_fold.specs.Tree.{AreNumbered}
use Rattle.journal_bytes.specs.Folds.{log_of, public_stand}
use Rattle.journal_bytes.specs.Journals.{IsHonestFor, StandsForJournal, published_journal}
use Rattle.journal_bytes.specs.Opening.{is_to_file, reading_of, seen_by}
use Rattle.reader_laws.specs.Reading.{AreAllowed, IsReaderOf, IsRightFor, line_shown_of}
use Rattle.reader_laws.proofs.Readable.{IsReadable}
use Rattle.reader_laws.proofs.Readers.{file_listed, file_visited, files_pass, listed_file, names_pass, seen, to_names}
use Rattle.reader_laws.proofs.Seen.{AreToNames, file_allowed_seen, file_as, file_folder_is, file_line_seen, files_are, folder_is_named, folder_lines_seen, names_seen, passed_over}
use Rattle.reader_laws.proofs.Shown.{answered, bundle_reads, published_readable}

-- ---- the one line with a path

abbrev has_path : List ℕ → Line → Bool
has_path path l = bytes_eq (line_path l) path

-- what is found of some lines has the path and is one of them
line_told : (path : List ℕ) (lines : List Line) (l : Line) → line_at path lines ≡ Some l → In l lines × (line_path l ≡ path)
unfolding line_at
line_told path lines l found =
    let told = find-found Line (has_path path) lines l found in (told.0, (bytes_eq-Decides (line_path l) path).0 told.1)

-- a line with the path is found, or another one
line_found : (path : List ℕ) (lines : List Line) (l : Line) → In l lines → line_path l ≡ path → (other : Line) × (line_at path lines ≡ Some other)
unfolding line_at
line_found path lines l i is = found-find Line (has_path path) l lines i ((bytes_eq-Decides (line_path l) path).1 is)

-- where two lines with one path are one, a part of them in which it is found tells it
part_tells : (path : List ℕ) (part whole : List Line) (l : Line) → ((a b : Line) → In a whole → In b whole → line_path a ≡ line_path b → a ≡ b) → ((a : Line) → In a part → In a whole) → line_at path part ≡ Some l
    → line_at path whole ≡ Some l
part_tells path part whole l alone within found =
    let told = line_told path part l found in
    let w = line_found path whole l (within l told.0) told.1 in
    let other = line_told path whole w.0 w.1 in
    w.1 ∙ ap (λ z. Some z) (alone w.0 l other.0 (within l told.0) (other.1 ∙ sym told.1))

none_or : (path : List ℕ) (lines : List Line) (o : Option Line) → line_at path lines ≡ o → ((l : Line) → In l lines → line_path l ≡ path → ⊥) → o ≡ None
none_or path lines None e out = refl
none_or path lines (Some l) e out = let told = line_told path lines l e in absurd (out l told.0 told.1)

not_there : (path : List ℕ) (lines : List Line) (l : Line) → line_at path lines ≡ None → In l lines → line_path l ≡ path → ⊥
not_there path lines l none i is =
    let w = line_found path lines l i is in
    let e : None ≡ Some w.0 = sym none ∙ w.1 in
    cc

-- ---- files beside a path

front_last : (X : Type 0) (xs : List X) (x : X) → front (xs ++ x ∷ []) ≡ xs
unfolding front
front_last X [] x = refl
front_last X (y ∷ []) x = refl
front_last X (y ∷ z ∷ zs) x = ap (λ l. y ∷ l) (front_last X (z ∷ zs) x)

folder_path : (s : Store) (f : ℕ) → path_of s (folder_node f) ≡ spell_path (folder_names s f)
unfolding path_of node_names folder_node
folder_path s f = refl

-- a file with the path is beside it
beside : (s : Store) (who : Who) (path : List ℕ) (e : FileEntry) → list_all is_name (file_names s e) ≡ true → file_allowed_to s who e ≡ true → spell_path (file_names s e) ≡ path → is_beside s who path e ≡ true
unfolding is_beside parent_path
beside s who path e named allowed is =
    let names = file_names s e in
    let good : is_path path ≡ true = (path_told path).1 (names, named, sym is) in
    let told : names_of path ≡ names = ap names_of (sym is) ∙ names_told names named in
    let parent : front (names_of path) ≡ folder_names s e.folder = ap front told ∙ unfold file_names in front_last (List ℕ) (folder_names s e.folder) e.name in
    let same : path_of s (folder_node e.folder) ≡ spell_path (front (names_of path)) = folder_path s e.folder ∙ ap spell_path (sym parent) in
    and_from (is_path path) (file_allowed_to s who e && bytes_eq (path_of s (folder_node e.folder)) (spell_path (front (names_of path)))) good
    (and_from (file_allowed_to s who e) (bytes_eq (path_of s (folder_node e.folder)) (spell_path (front (names_of path)))) allowed
    ((bytes_eq-Decides (path_of s (folder_node e.folder)) (spell_path (front (names_of path)))).1 same))

beside_allowed : (s : Store) (who : Who) (path : List ℕ) (e : FileEntry) → is_beside s who path e ≡ true → file_allowed_to s who e ≡ true
unfolding is_beside
beside_allowed s who path e t =
    let rest = file_allowed_to s who e && bytes_eq (path_of s (folder_node e.folder)) (parent_path path) in
    (and_parts (file_allowed_to s who e) (bytes_eq (path_of s (folder_node e.folder)) (parent_path path)) (and_parts (is_path path) rest t).1).0

both_if : (a : Bool) (b c : Bool) → (a ≡ true → b ≡ c) → (a && b) ≡ (a && c)
both_if true b c same = same refl
both_if false b c same = refl

module _ (vs : List Visit) (s : Store) (who : Who) (numbered : AreNumbered s.folders) (named : AreToNames vs s who) where
  -- what is beside a path is seen
  beside_seen : (path : List ℕ) (e : FileEntry) → In e s.files → is_beside (seen_by vs s) who path (file_as vs e) ≡ is_beside s who path e
  unfolding is_beside
  beside_seen path e i =
      let t = seen_by vs s in
      ap (λ f. is_path path && (file_allowed_to t who (file_as vs e) && bytes_eq (path_of t (folder_node f)) (parent_path path))) (file_folder_is vs e)
      ∙ ap (λ a. is_path path && (a && bytes_eq (path_of t (folder_node e.folder)) (parent_path path))) (file_allowed_seen vs s who e)
      ∙ ap (λ b. is_path path && b) (both_if (file_allowed_to s who e) (bytes_eq (path_of t (folder_node e.folder)) (parent_path path)) (bytes_eq (path_of s (folder_node e.folder)) (parent_path path)) (λ allowed.
      ap (λ p. bytes_eq p (parent_path path))
      (folder_path t e.folder ∙ ap spell_path (names_seen vs s who numbered named e.folder (λ has. folder_is_named s who e i allowed)) ∙ sym (folder_path s e.folder))))

  -- so are the lines of the files beside it, where these are visited
  beside_lines : (path : List ℕ) → ((e : FileEntry) → In e s.files → is_beside s who path e ≡ true → list_any (is_to_file e.id) vs ≡ true) → lines_beside (seen_by vs s) who path ≡ lines_beside s who path
  unfolding lines_beside
  beside_lines path visited =
      let t = seen_by vs s in
      ap (λ xs. map (file_line t) (filter (is_beside t who path) xs)) (files_are vs s)
      ∙ passed_over FileEntry Line (file_as vs) (is_beside t who path) (is_beside s who path) (file_line t) (file_line s) s.files
      (beside_seen path) (λ e i b. file_line_seen vs s who numbered named e i (visited e i b) (beside_allowed s who path e b))

  folders_same : folder_lines (seen_by vs s) who ≡ folder_lines s who
  unfolding folder_lines
  folders_same = folder_lines_seen vs s who numbered named

-- ---- lines of the view

folder_in_view : (s : Store) (who : Who) (l : Line) → In l (folder_lines s who) → In l (view s who)
unfolding folder_lines
folder_in_view s who l i =
    let w = (In-map FolderEntry Line (folder_line s who) l (filter (λ (e : FolderEntry). named_to s who e.id) s.folders)).0 i in
    let told = In-filter FolderEntry (λ e. named_to s who e.id) w.0 s.folders w.1 in
    (view_told s who l).1 (inl (w.0, told.0, (named_to_told s who w.0.id).0 told.1, w.2))

beside_in_view : (s : Store) (who : Who) (path : List ℕ) (l : Line) → In l (lines_beside s who path) → In l (view s who)
unfolding lines_beside
beside_in_view s who path l i =
    let w = (In-map FileEntry Line (file_line s) l (filter (is_beside s who path) s.files)).0 i in
    let told = In-filter FileEntry (is_beside s who path) w.0 s.files w.1 in
    (view_told s who l).1 (inr (w.0, told.0, (file_allowed_to_told s who w.0).0 (beside_allowed s who path w.0 told.1), w.2))

file_path : (s : Store) (e : FileEntry) → line_path (file_line s e) ≡ spell_path (file_names s e)
unfolding line_path file_line
file_path s e = refl

-- a line of the view with the path is that of a folder, or of a file beside it
view_parts : (s : Store) (who : Who) (path : List ℕ) (l : Line) → ((e : FileEntry) → In e s.files → list_all is_name (file_names s e) ≡ true) → In l (view s who) → line_path l ≡ path
    → In l (folder_lines s who ++ lines_beside s who path)
unfolding folder_lines lines_beside
view_parts s who path l named i is =
    let F = map (folder_line s who) (filter (λ (e : FolderEntry). named_to s who e.id) s.folders) in
    let B = map (file_line s) (filter (is_beside s who path) s.files) in
    (In-append Line l F B).1 (⊎_elim
    (λ a. inl ((In-map FolderEntry Line (folder_line s who) l (filter (λ (e : FolderEntry). named_to s who e.id) s.folders)).1
    (a.0, filter-In FolderEntry (λ e. named_to s who e.id) a.0 s.folders a.1 ((named_to_told s who a.0.id).1 a.2), a.3)))
    (λ b.
    let e : FileEntry = b.0 in
    let near : is_beside s who path e ≡ true = beside s who path e (named e b.1) ((file_allowed_to_told s who e).1 b.2) (sym (file_path s e) ∙ ap line_path (sym b.3) ∙ is) in
    inr ((In-map FileEntry Line (file_line s) l (filter (is_beside s who path) s.files)).1 (e, filter-In FileEntry (is_beside s who path) e s.files b.1 near, b.3)))
    ((view_told s who l).0 i))

-- first the folders, then the files beside the path: what is found so is what the view has
in_parts : (s : Store) (who : Who) (path : List ℕ) → ((a b : Line) → In a (view s who) → In b (view s who) → line_path a ≡ line_path b → a ≡ b) → ((e : FileEntry) → In e s.files → list_all is_name (file_names s e) ≡ true)
    → or_else (line_at path (folder_lines s who)) (or_else (line_at path (lines_beside s who path)) (Err Unseen)) ≡ or_else (line_at path (view s who)) (Err Unseen)
unfolding or_else
in_parts s who path alone named =
    (elim (line_at path (folder_lines s who)) as (λ o. line_at path (folder_lines s who) ≡ o → or_else o (or_else (line_at path (lines_beside s who path)) (Err Unseen)) ≡ or_else (line_at path (view s who)) (Err Unseen)) [
      | Some l ↦ λ found. ap (λ o. or_else o (Err Unseen)) (sym (part_tells path (folder_lines s who) (view s who) l alone (folder_in_view s who) found))
      | None ↦ λ none. files none
    ]) refl
  where
    no_line : line_at path (folder_lines s who) ≡ None → line_at path (lines_beside s who path) ≡ None → line_at path (view s who) ≡ None
    no_line none other = none_or path (view s who) (line_at path (view s who)) refl (λ l i is. ⊎_elim
        (λ a. not_there path (folder_lines s who) l none a is)
        (λ b. not_there path (lines_beside s who path) l other b is)
        ((In-append Line l (folder_lines s who) (lines_beside s who path)).0 (view_parts s who path l named i is)))

    files : line_at path (folder_lines s who) ≡ None → or_else (line_at path (lines_beside s who path)) (Err Unseen) ≡ or_else (line_at path (view s who)) (Err Unseen)
    files none =
        (elim (line_at path (lines_beside s who path)) as (λ o. line_at path (lines_beside s who path) ≡ o → or_else o (Err Unseen) ≡ or_else (line_at path (view s who)) (Err Unseen)) [
          | Some l ↦ λ found. ap (λ o. or_else o (Err Unseen)) (sym (part_tells path (lines_beside s who path) (view s who) l alone (beside_in_view s who path) found))
          | None ↦ λ other. ap (λ o. or_else o (Err Unseen)) (sym (no_line none other))
        ]) refl

-- ---- the visits behind it

after_both : (r : Reading) (xs ys : List Visit) (o : Opened) → visit_all r (xs ++ ys) o ≡ and_then (visit_all r xs o) (visit_all r ys)
unfolding visit_all and_then
after_both r [] ys o = refl
after_both r (v ∷ xs) ys o =
    elim (visit r v o) as (λ (z : Result Opened Fault). and_then z (visit_all r (xs ++ ys)) ≡ and_then (and_then z (visit_all r xs)) (visit_all r ys)) [
      | Ok p ↦ after_both r xs ys p
      | Err fault ↦ refl
    ]

both_visits : (r : Reading) (xs ys : List Visit) (o p q : Opened) → visit_all r xs o ≡ Ok p → visit_all r ys p ≡ Ok q → visit_all r (xs ++ ys) o ≡ Ok q
unfolding and_then
both_visits r xs ys o p q first rest = after_both r xs ys o ∙ ap (λ z. and_then z (visit_all r ys)) first ∙ rest

module _ (owner : List ℕ) (m : Journal) (ok : IsReadable owner m) (bundle : Bundle) (path : List ℕ) where
  abbrev reading : Reading
  reading = reading_of owner m

  abbrev s : Store
  s = store_of m

  abbrev who : Who
  who = who_of bundle

  abbrev bare : Store
  bare = public_of s

  abbrev names : List Visit
  names = visits_to_names bare who

  abbrev first : Opened
  first = opened_first bundle reading

  to_all_names : (more : List Visit) → AreToNames (names ++ more) s who
  to_all_names more = to_names s who more

  to_the_names : AreToNames names s who
  to_the_names = subst (λ vs. AreToNames vs s who) (append-nil names) (to_all_names [])

  -- once names are visited
  module _ (is : IsReaderOf owner m bundle) (o : Opened) (done : visit_all reading names first ≡ Ok o) where
    shown : o.store ≡ seen_by names s
    shown = seen owner m bundle ok is names o done

    folders_shown : folder_lines o.store who ≡ folder_lines s who
    folders_shown = ap (λ (z : Store). folder_lines z who) shown ∙ folders_same names s who ok.numbered to_the_names

    abbrev files : List ℕ
    files = files_that (is_beside o.store who path) o.store

    listed : (x : ℕ) → In x files → (e : FileEntry) × In e s.files × (e.id ≡ x) × (is_beside s who path e ≡ true)
    listed x i =
        let w = listed_file names s (is_beside (seen_by names s) who path) x (subst (λ (z : Store). In x (files_that (is_beside z who path) z)) shown i) in
        (w.0, w.1, w.2, sym (beside_seen names s who ok.numbered to_the_names path w.0 w.1) ∙ w.3)

    all_listed : (e : FileEntry) → In e s.files → is_beside s who path e ≡ true → In e.id files
    all_listed e i t =
        subst (λ (z : Store). In e.id (files_that (is_beside z who path) z)) (sym shown)
        (file_listed names s (is_beside (seen_by names s) who path) e i (beside_seen names s who ok.numbered to_the_names path e i ∙ t))

    allowed : AreAllowed s who files
    allowed x i = let w = listed x i in (w.0, w.1, w.2, (file_allowed_to_told s who w.0).0 (beside_allowed s who path w.0 w.3))

    files_shown : (after : Opened) → visit_all reading (file_visits bare who files) o ≡ Ok after → lines_beside after.store who path ≡ lines_beside s who path
    files_shown after last =
        let vs = names ++ file_visits bare who files in
        let both = both_visits reading names (file_visits bare who files) first o after done last in
        ap (λ (z : Store). lines_beside z who path) (seen owner m bundle ok is vs after both)
        ∙ beside_lines vs s who ok.numbered (to_all_names (file_visits bare who files)) path (λ e i t. file_visited bare who files names e.id (all_listed e i t))

    line_asked : or_else (line_at path (folder_lines o.store who)) (file_with reading o who path) ≡ or_else (line_at path (view s who)) (Err Unseen)
    unfolding file_with then_on of_bytes public_stand
    line_asked =
        let go = files_pass owner m bundle ok is files o allowed done in
        let after : Opened = go.0 in
        ap (λ ls. or_else (line_at path ls) (file_with reading o who path)) folders_shown
        ∙ ap (λ z. or_else (line_at path (folder_lines s who)) (then_on (of_bytes z) (λ (x : Opened). or_else (line_at path (lines_beside x.store who path)) (Err Unseen)))) go.1
        ∙ ap (λ ls. or_else (line_at path (folder_lines s who)) (or_else (line_at path ls) (Err Unseen))) (files_shown after go.1)
        ∙ in_parts s who path (own_paths s who ok.own_names) ok.named_files

  names_asked : (is : IsReaderOf owner m bundle) (o : Opened) → visit_all reading names first ≡ Ok o
      → then_on (of_bytes (visit_all reading (visits_to_names (public_stand m).store who) first)) (λ x. or_else (line_at path (folder_lines x.store who)) (file_with reading x who path)) ≡ or_else (line_at path (view s who)) (Err Unseen)
  unfolding then_on of_bytes public_stand
  names_asked is o done =
      ap (λ z. then_on (of_bytes z) (λ (x : Opened). or_else (line_at path (folder_lines x.store who)) (file_with reading x who path))) done
      ∙ line_asked is o done

  pub line_of_log : IsRightFor owner m bundle → line_with bundle path (Ok (log_of owner m)) ≡ line_shown_of s bundle path
  unfolding line_with line_shown_of
  line_of_log right =
      answered owner m ok Line bundle
      (λ r. then_on (of_bytes (visit_all r (visits_to_names r.stand.store who) (opened_first bundle r))) (λ o. or_else (line_at path (folder_lines o.store who)) (file_with r o who path)))
      (or_else (line_at path (view s who)) (Err Unseen)) right (λ is. let go = names_pass owner m bundle ok is in names_asked is go.0 go.1)

pub line_of_bytes : (owner : List ℕ) (m : Journal) (bytes : List ℕ) (bundle : Bundle) (path : List ℕ) → StandsForJournal owner m bytes → IsHonestFor owner bytes m → IsRightFor owner (published_journal owner bytes m) bundle
    → line_shown bundle path bytes ≡ line_shown_of (store_of (published_journal owner bytes m)) bundle path
unfolding line_shown
line_of_bytes owner m bytes bundle path stands honest right =
    ap (line_with bundle path) (bundle_reads owner m bytes bundle stands honest right)
    ∙ line_of_log owner (published_journal owner bytes m) (published_readable owner m bytes stands) bundle path right
