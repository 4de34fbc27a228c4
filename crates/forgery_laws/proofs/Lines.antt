-- The lines that a reader with a key of the journal is shown of any bytes: each was written, or a forged record stands in the bytes.
use Rattle.std.proofs.Common.{◌≡◌, ⊎_elim, inl, inr, ℕ, zero, suc, Bool, true, false, cond, ◌==◌, List, [], ◌∷◌, ◌++◌, drop, length, map, filter, Option, Some, None, Result, Ok, Err, refl, sym, ap, subst, ◌∙◌}
use Rattle.std.specs.Prelude.{◌⊎◌, ◌&&◌, find, nat_lt}
use Rattle.std.specs.Str.{bytes_eq}
use Rattle.std.proofs.lemmas.Bool.{and_parts, eqb-true}
use Rattle.chacha_seal.specs.Sealing.{check_of}
use Rattle.commit_journal.specs.Answering.{Fault, WrongKey, and_then}
use Rattle.commit_journal.specs.Placed.{PlainPlaced}
use Rattle.cry_base.specs.Naming.{is_path, parent_path, spell_path}
use Rattle.cry_base.specs.Sets.{In}
use Rattle.cry_base.specs.Store.{Store, FolderEntry, FileEntry, and_above, backwards, folder_names, folder_node, node_names, path_of, way_to_root, way_up}
use Rattle.cry_base.specs.declared.client.Bundle.{Bundle}
use Rattle.cry_base.specs.declared.client.Bundle.TheVariants as bundles
use Rattle.cry_base.proofs.Finding.{find-found}
use Rattle.cry_base.proofs.Members.{In-append, In-filter, In-flat_map, In-map, filter-In}
use Rattle.log_visits.specs.Asking.{audited, file_with, folder_lines, is_beside, line_at, line_shown, line_with, lines_beside, or_else}
use Rattle.log_visits.specs.Folding.{folded}
use Rattle.log_visits.specs.Judging.{Failure, OfBytes, Unseen, bundle_log, first_key, holder_reads, may_read, of_bytes, opened_first, published_check, read_through, read_with, shown_with, then_on, view_with, who_of}
use Rattle.log_visits.specs.View.{Line, file_line, folder_line, line_path, view}
use Rattle.log_visits.specs.Visiting.{Opened, Reading, visit_all}
use Rattle.log_visits.specs.Visits.{Visit, all_visits, allowed_visits, entry_visits, file_visits, files_that, folders_that, into_file, lower_visits, name_visits, upper_visits, visits_to_names}
use Rattle.log_visits.specs.Visits.Visit.{ToKey, ToName, ToFile}
use Rattle.log_visits.proofs.Viewing.{view_told}
use Rattle.journal_bytes.specs.Keys.{AreWhole}
use Rattle.journal_bytes.proofs.OpenedKeys.{same_ok, then_told}
use Rattle.journal_bytes.proofs.OpenedTexts.{unseen as nothing_seen}
use Rattle.move_plan.specs.Fitting.{public_of}
use Rattle.public_fold.specs.Journal.{Journal, Stand, nothing}
use Rattle.public_fold.specs.Valid.{IsValid}
use Rattle.role_graph.specs.Edges.{edge}
use Rattle.role_graph.specs.Rights.{Who, file_allowed_to, named_to}
use Rattle.role_graph.specs.RightsByReach.{HasFolder}
use Rattle.role_graph.specs.Roles.{back_of, data_of}
use Rattle.role_graph.proofs.Edging.{In-order}
use Rattle.role_graph.proofs.Granting.{file_allowed_to_told, named_to_told}
use Rattle.reader_laws.proofs.Readable.{fold_shape}
use Rattle.reader_laws.proofs.Readers.{file_allowed_public}
use Rattle.reader_laws.proofs.Seen.{folder_is_named, named_seen}
use Rattle.log_visits.proofs.Rights.{HasShape, named_above, passes}
use Rattle.forgery_laws.specs.Written.{AreBytes, AreWrittenLines, HasForged, HasKeyOf, IsWrittenLine, WereNamed}
use Rattle.forgery_laws.proofs.Authentic.{AreRecords, log_records}
use Rattle.forgery_laws.proofs.Visited.{IsSound, folders_stay, one_key_first, visits_sound}

-- ---- what was read

on_told : (A B : Type 0) (o : Result A Failure) (f : A → Result B Failure) (y : B) → then_on o f ≡ Ok y → (x : A) × (o ≡ Ok x) × (f x ≡ Ok y)
unfolding then_on
on_told A B (Err failure) f y e = absurd cc
on_told A B (Ok x) f y e = (x, refl, e)

bytes_told : (A : Type 0) (o : Result A Fault) (x : A) → of_bytes o ≡ Ok x → o ≡ Ok x
unfolding of_bytes
bytes_told A (Ok y) x e = let same : y ≡ x = cc in ap Ok same
bytes_told A (Err fault) x e = absurd cc

same_good : (A : Type 0) (x y : A) → (let r : Result A Failure = Ok x in r) ≡ Ok y → x ≡ y
same_good A x y e = cc

holder_same : (key : List ℕ) (r after : Reading) (o : Option (List ℕ)) → holder_reads key r o ≡ Ok after → r ≡ after
unfolding holder_reads
holder_same key r after None e = absurd cc
holder_same key r after (Some check) e = by_test (bytes_eq check (check_of key)) e
  where
    by_test : (b : Bool) → cond b (Ok r) (Err (OfBytes WrongKey)) ≡ Ok after → r ≡ after
    by_test true q = same_good Reading r after q
    by_test false q = absurd cc

may_same : (bundle : Bundle) (r after : Reading) → may_read bundle r ≡ Ok after → r ≡ after
unfolding may_read
may_same (bundles.Owner key) r after e = same_good Reading r after e
may_same (bundles.Holder h key) r after e = holder_same key r after (published_check h.0 r.log) e

pub read_told : (bundle : Bundle) (log : Result (List PlainPlaced) Fault) (r : Reading) → read_with bundle log ≡ Ok r → (log ≡ Ok r.log) × (folded nothing r.log ≡ Ok r.stand)
unfolding read_with read_through
read_told bundle log r e =
    let w = on_told Reading Reading (of_bytes (read_through log)) (may_read bundle) r e in
    let same = may_same bundle w.0 r w.2 in
    let a = then_told (List PlainPlaced) Reading log (λ placed. and_then (folded nothing placed) (λ stand. Ok (record { log = placed; stand = stand }))) w.0 (bytes_told Reading (read_through log) w.0 w.1) in
    let b = then_told Stand Reading (folded nothing a.0) (λ stand. Ok (record { log = a.0; stand = stand })) w.0 a.2 in
    let is : (let x : Reading = record { log = a.0; stand = b.0 } in x) ≡ r = same_ok Reading (record { log = a.0; stand = b.0 }) w.0 b.2 ∙ same in
    subst (λ (z : Reading). (log ≡ Ok z.log) × (folded nothing z.log ≡ Ok z.stand)) is (a.1, b.1)

-- ---- which visits there are

in_right : (v : Visit) (xs ys : List Visit) → In v ys → In v (xs ++ ys)
in_right v xs ys i = (In-append Visit v xs ys).1 (inr i)

in_left : (v : Visit) (xs ys : List Visit) → In v xs → In v (xs ++ ys)
in_left v xs ys i = (In-append Visit v xs ys).1 (inl i)

name_visited : (s : Store) (who : Who) (f : ℕ) → HasFolder s f → named_to s who f ≡ true → In (ToName f) (visits_to_names s who)
unfolding visits_to_names name_visits
name_visited s who f has t =
    let v : Visit = ToName f in
    let E = entry_visits s who in
    let L = lower_visits s who in
    let A = allowed_visits s who in
    let U = upper_visits s who in
    let N = name_visits s who in
    let here : In v N = (In-flat_map ℕ Visit (λ g. ToKey (edge 7 (back_of g) (data_of g)) ∷ ToName g ∷ []) v (folders_that (named_to s who) s)).1
    (f, passes (named_to s who) s f has t, inr (inl refl)) in
    in_right v E (L ++ (A ++ (U ++ N))) (in_right v L (A ++ (U ++ N)) (in_right v A (U ++ N) (in_right v U N here)))

file_listed : (s : Store) (test : FileEntry → Bool) (e : FileEntry) → In e s.files → test e ≡ true → In e.id (files_that test s)
unfolding files_that
file_listed s test e i t =
    (In-order ℕ nat_lt e.id (map (λ (d : FileEntry). d.id) (filter test s.files))).1
    ((In-map FileEntry ℕ (λ d. d.id) e.id (filter test s.files)).1 (e, filter-In FileEntry test e s.files i t, refl))

file_visited : (s : Store) (who : Who) (xs : List ℕ) (x : ℕ) → In x xs → In (ToFile x) (file_visits s who xs)
unfolding file_visits
file_visited s who xs x i = (In-flat_map ℕ Visit (λ n. ToKey (into_file s who n) ∷ ToFile n ∷ []) (ToFile x) xs).1 (x, i, inr (inl refl))

-- visits of files are of no folder's name
no_names_of : (s : Store) (who : Who) (xs : List ℕ) (v : Visit) → In v (file_visits s who xs) → (f : ℕ) → v ≡ ToName f → ⊥
unfolding file_visits
no_names_of s who xs v i f is =
    let w = (In-flat_map ℕ Visit (λ n. ToKey (into_file s who n) ∷ ToFile n ∷ []) v xs).0 i in
    ⊎_elim
    (λ (e : v ≡ ToKey (into_file s who w.0)). let wrong : ToKey (into_file s who w.0) ≡ ToName f = sym e ∙ is in absurd cc)
    (λ u. ⊎_elim (λ (e : v ≡ ToFile w.0). let wrong : ToFile w.0 ≡ ToName f = sym e ∙ is in absurd cc) (λ n. absurd n) u)
    w.2

-- ---- two stores that everyone sees alike

folder_there : (s t : Store) → public_of s ≡ public_of t → (e : FolderEntry) → In e s.folders → (d : FolderEntry) × In d t.folders × (d.id ≡ e.id) × (d.parent ≡ e.parent)
unfolding public_of
folder_there s t same e i =
    let bare : FolderEntry → FolderEntry = λ d. record d { name = [] } in
    let here : In (bare e) (map bare s.folders) = (In-map FolderEntry FolderEntry bare (bare e) s.folders).1 (e, i, refl) in
    let w = (In-map FolderEntry FolderEntry bare (bare e) t.folders).0 (subst (λ (fs : List FolderEntry). In (bare e) fs) (ap (λ (z : Store). z.folders) same) here) in
    (w.0, w.1, sym (ap (λ (d : FolderEntry). d.id) w.2), sym (ap (λ (d : FolderEntry). d.parent) w.2))

file_there : (s t : Store) → public_of s ≡ public_of t → (e : FileEntry) → In e s.files → (d : FileEntry) × In d t.files × (d.id ≡ e.id) × (d.folder ≡ e.folder)
unfolding public_of
file_there s t same e i =
    let bare : FileEntry → FileEntry = λ d. record d { name = []; bytes = [] } in
    let here : In (bare e) (map bare s.files) = (In-map FileEntry FileEntry bare (bare e) s.files).1 (e, i, refl) in
    let w = (In-map FileEntry FileEntry bare (bare e) t.files).0 (subst (λ (fs : List FileEntry). In (bare e) fs) (ap (λ (z : Store). z.files) same) here) in
    (w.0, w.1, sym (ap (λ (d : FileEntry). d.id) w.2), sym (ap (λ (d : FileEntry). d.folder) w.2))

named_public : (s : Store) (who : Who) (f : ℕ) → named_to (public_of s) who f ≡ named_to s who f
named_public s who f = ap (λ (z : Store). named_to z who f) (nothing_seen s) ∙ named_seen [] s who f

named_alike : (s t : Store) (who : Who) (f : ℕ) → public_of s ≡ public_of t → named_to s who f ≡ named_to t who f
named_alike s t who f same = sym (named_public s who f) ∙ ap (λ z. named_to z who f) same ∙ named_public t who f

file_allowed_alike : (s t : Store) (who : Who) (e d : FileEntry) → public_of s ≡ public_of t → e.id ≡ d.id → e.folder ≡ d.folder → file_allowed_to s who e ≡ file_allowed_to t who d
file_allowed_alike s t who e d same id folder =
    sym (file_allowed_public s who e)
    ∙ (λ i. file_allowed_to (same i) who (record { id = id i; folder = folder i; name = []; bytes = [] }))
    ∙ file_allowed_public t who d

folder_path : (s t : Store) (f : ℕ) → s.folders ≡ t.folders → path_of s (folder_node f) ≡ path_of t (folder_node f)
unfolding path_of node_names folder_node folder_names way_to_root
folder_path s t f same = λ i. spell_path (drop 1 (backwards (map (λ (e : FolderEntry). e.name) (way_up (length (same i)) (same i) f))))

beside_alike : (s t : Store) (who : Who) (path : List ℕ) (e d : FileEntry) → s.folders ≡ t.folders → public_of s ≡ public_of t → e.id ≡ d.id → e.folder ≡ d.folder → is_beside s who path e ≡ is_beside t who path d
unfolding is_beside
beside_alike s t who path e d folders same id folder =
    ap (λ f. is_path path && (file_allowed_to s who e && bytes_eq (path_of s (folder_node f)) (parent_path path))) folder
    ∙ (λ i. is_path path && (file_allowed_alike s t who e d same id folder i && bytes_eq (folder_path s t d.folder folders i) (parent_path path)))

-- ---- the lines of what was opened

module _ (owner : List ℕ) (m : Journal) (valid : IsValid m) (whole : AreWhole owner m) (bytes : List ℕ) (bundle : Bundle) (r : Reading) (are : AreRecords bytes r.log) (shape : HasShape r.stand.store) where
  abbrev bare : Store
  bare = r.stand.store

  abbrev who : Who
  who = who_of bundle

  abbrev Sound : (Visit → Type 0) → Opened → Type 0
  Sound visited o = IsSound owner m valid whole bytes r are visited o

  -- every name that is named was visited
  abbrev NamesVisited : (Visit → Type 0) → Type 0
  NamesVisited visited = (f : ℕ) → HasFolder bare f → named_to bare who f ≡ true → visited (ToName f)

  module _ (visited : Visit → Type 0) (o : Opened) (sound : Sound visited o) (names : NamesVisited visited) where
    abbrev s : Store
    s = o.store

    parent_named : (e : FolderEntry) → In e s.folders → named_to bare who e.id ≡ true → named_to bare who e.parent ≡ true
    parent_named e i t =
        let d = folder_there s bare sound.tree e i in
        ap (named_to bare who) (sym d.3) ∙ named_above bare who d.0 shape.numbered d.1 (ap (named_to bare who) d.2 ∙ t)

    on_way : (n f : ℕ) → named_to bare who f ≡ true → (d : FolderEntry) → In d (way_up n s.folders f) → In d s.folders × (named_to bare who d.id ≡ true)
    unfolding way_up and_above
    on_way zero f t d i = absurd i
    on_way (suc n) f t d i =
        (elim (find (λ e. e.id == f) s.folders) as (λ x. find (λ e. e.id == f) s.folders ≡ x → In d (and_above x (λ e. way_up n s.folders e.parent)) → In d s.folders × (named_to bare who d.id ≡ true)) [
          | None ↦ λ q j. absurd j
          | Some e ↦ λ q j.
              let told = find-found FolderEntry (λ x. x.id == f) s.folders e q in
              let named : named_to bare who e.id ≡ true = ap (named_to bare who) (eqb-true e.id f told.1) ∙ t in
              ⊎_elim
              (λ (is : d ≡ e). (subst (λ z. In z s.folders) (sym is) told.0, ap (λ (z : FolderEntry). named_to bare who z.id) is ∙ named))
              (λ u. on_way n e.parent (parent_named e told.0 named) d u)
              j
        ]) refl i

    way_named : (f : ℕ) → named_to bare who f ≡ true → WereNamed m (way_to_root s f)
    unfolding way_to_root
    way_named f t d i =
        let w = on_way (length s.folders) f t d i in
        let there = folder_there s bare sound.tree d w.0 in
        sound.folders d w.0 (names d.id (there.0, there.1, there.2) w.1)

    pub folder_written : (e : FolderEntry) → In e s.folders → named_to s who e.id ≡ true → IsWrittenLine m s who (folder_line s who e)
    folder_written e i t = inl (e, i, refl, way_named e.id (sym (named_alike s bare who e.id sound.tree) ∙ t))

    pub file_written : (e : FileEntry) → In e s.files → file_allowed_to s who e ≡ true → visited (ToFile e.id) → IsWrittenLine m s who (file_line s e)
    file_written e i t seen =
        inr (e, i, refl, way_named e.folder (sym (named_alike s bare who e.folder sound.tree) ∙ folder_is_named s who e i t), sound.files e i seen)

  -- ---- nothing is visited yet

  no_visit : Visit → Type 0
  no_visit v = ⊥

  first_sound : HasKeyOf owner m bundle → Sound no_visit (opened_first bundle r)
  unfolding opened_first no_visit
  first_sound has = record {
    keys = one_key_first owner m valid whole bytes r are (first_key bundle) has;
    tree = refl;
    folders = λ e i n. absurd n;
    files = λ e i n. absurd n;
  }

  abbrev Visited : List Visit → (Visit → Type 0) → Visit → Type 0
  Visited vs before v = In v vs ⊎ before v

  -- ---- a view

  all_names : NamesVisited (Visited (all_visits bare who) no_visit)
  unfolding all_visits
  all_names f has t = inl (in_left (ToName f) (visits_to_names bare who) (file_visits bare who (files_that (file_allowed_to bare who) bare)) (name_visited bare who f has t))

  all_file : (s : Store) → public_of s ≡ public_of bare → (e : FileEntry) → In e s.files → file_allowed_to s who e ≡ true → In (ToFile e.id) (all_visits bare who)
  unfolding all_visits
  all_file s tree e i t =
      let test : FileEntry → Bool = file_allowed_to bare who in
      let d = file_there s bare tree e i in
      let passes_it : test d.0 ≡ true = sym (file_allowed_alike s bare who e d.0 tree (sym d.2) (sym d.3)) ∙ t in
      subst (λ n. In (ToFile n) (visits_to_names bare who ++ file_visits bare who (files_that test bare))) d.2
      (in_right (ToFile d.0.id) (visits_to_names bare who) (file_visits bare who (files_that test bare)) (file_visited bare who (files_that test bare) d.0.id (file_listed bare test d.0 d.1 passes_it)))

  lines_written : (o : Opened) → Sound (Visited (all_visits bare who) no_visit) o → (l : Line) → In l (view o.store who) → IsWrittenLine m o.store who l
  lines_written o sound l i = ⊎_elim
      (λ a. subst (IsWrittenLine m o.store who) (sym a.3)
      (folder_written (Visited (all_visits bare who) no_visit) o sound all_names a.0 a.1 ((named_to_told o.store who a.0.id).1 a.2)))
      (λ b. let t = (file_allowed_to_told o.store who b.0).1 b.2 in
      subst (IsWrittenLine m o.store who) (sym b.3)
      (file_written (Visited (all_visits bare who) no_visit) o sound all_names b.0 b.1 t (inl (all_file o.store sound.tree b.0 b.1 t))))
      ((view_told o.store who l).0 i)

  pub view_written : HasKeyOf owner m bundle → (o : Opened) → visit_all r (all_visits bare who) (opened_first bundle r) ≡ Ok o
      → (public_of o.store ≡ public_of bare) × ((l : Line) → In l (view o.store who) → IsWrittenLine m o.store who l) ⊎ HasForged owner m bytes
  view_written has o done = ⊎_elim
      (λ sound. inl (sound.tree, lines_written o sound))
      (λ forged. inr forged)
      (visits_sound owner m valid whole bytes r are (all_visits bare who) no_visit (opened_first bundle r) o (first_sound has) done)

  -- ---- the line of a path

  some_line : (path : List ℕ) (lines : List Line) (l : Line) → line_at path lines ≡ Some l → In l lines
  unfolding line_at
  some_line path lines l e = (find-found Line (λ x. bytes_eq (line_path x) path) lines l e).0

  abbrev names : List Visit
  names = visits_to_names bare who

  abbrev Named : Visit → Type 0
  Named = Visited names no_visit

  names_named : NamesVisited Named
  names_named f has t = inl (name_visited bare who f has t)

  folder_line_written : (o : Opened) → Sound Named o → (l : Line) → In l (folder_lines o.store who) → IsWrittenLine m o.store who l
  unfolding folder_lines
  folder_line_written o sound l i =
      let w = (In-map FolderEntry Line (folder_line o.store who) l (filter (λ (e : FolderEntry). named_to o.store who e.id) o.store.folders)).0 i in
      let told = In-filter FolderEntry (λ e. named_to o.store who e.id) w.0 o.store.folders w.1 in
      subst (IsWrittenLine m o.store who) (sym w.2) (folder_written Named o sound names_named w.0 told.0 told.1)

  beside_allowed : (s : Store) (path : List ℕ) (e : FileEntry) → is_beside s who path e ≡ true → file_allowed_to s who e ≡ true
  unfolding is_beside
  beside_allowed s path e t =
      (and_parts (file_allowed_to s who e) (bytes_eq (path_of s (folder_node e.folder)) (parent_path path)) (and_parts (is_path path) (file_allowed_to s who e && bytes_eq (path_of s (folder_node e.folder)) (parent_path path)) t).1).0

  -- the files beside a path, once the names are visited
  module _ (path : List ℕ) (o after : Opened) (first : Sound Named o) (done : visit_all r (file_visits bare who (files_that (is_beside o.store who path) o.store)) o ≡ Ok after) where
    abbrev files : List Visit
    files = file_visits bare who (files_that (is_beside o.store who path) o.store)

    abbrev All : Visit → Type 0
    All = Visited files Named

    same_folders : after.store.folders ≡ o.store.folders
    same_folders = folders_stay r files o after (no_names_of bare who (files_that (is_beside o.store who path) o.store)) done

    listed : Sound All after → (e : FileEntry) → In e after.store.files → is_beside after.store who path e ≡ true → All (ToFile e.id)
    listed sound e i t =
        let d = file_there after.store o.store (sound.tree ∙ sym first.tree) e i in
        let there : is_beside o.store who path d.0 ≡ true = sym (beside_alike after.store o.store who path e d.0 same_folders (sound.tree ∙ sym first.tree) (sym d.2) (sym d.3)) ∙ t in
        inl (subst (λ n. In (ToFile n) files) d.2 (file_visited bare who (files_that (is_beside o.store who path) o.store) d.0.id (file_listed o.store (is_beside o.store who path) d.0 d.1 there)))

    beside_written : Sound All after → (l : Line) → In l (lines_beside after.store who path) → IsWrittenLine m after.store who l
    unfolding lines_beside
    beside_written sound l i =
        let w = (In-map FileEntry Line (file_line after.store) l (filter (is_beside after.store who path) after.store.files)).0 i in
        let told = In-filter FileEntry (is_beside after.store who path) w.0 after.store.files w.1 in
        subst (IsWrittenLine m after.store who) (sym w.2)
        (file_written All after sound (λ f has t. inr (names_named f has t)) w.0 told.0 (beside_allowed after.store path w.0 told.1) (listed sound w.0 told.0 told.1))

  -- one line of a store that everyone sees as this one
  abbrev OneWritten : Line → Type 0
  OneWritten l = (s : Store) × (public_of s ≡ public_of bare) × IsWrittenLine m s who l

  chosen : (A : Type 0) (o : Option Line) (next : Result Line Failure) (line : Line) → or_else o next ≡ Ok line → (o ≡ Some line → A) → (next ≡ Ok line → A) → A
  unfolding or_else
  chosen A (Some l) next line e found other = found (ap Some (same_good Line l line e))
  chosen A None next line e found other = other e

  unseen : (line : Line) → (let x : Result Line Failure = Err Unseen in x) ≡ Ok line → ⊥
  unseen line e = absurd cc

  pub path_written : HasKeyOf owner m bundle → (path : List ℕ) (line : Line)
      → then_on (of_bytes (visit_all r names (opened_first bundle r))) (λ o. or_else (line_at path (folder_lines o.store who)) (file_with r o who path)) ≡ Ok line
      → OneWritten line ⊎ HasForged owner m bytes
  unfolding file_with
  path_written has path line e =
      let w = on_told Opened Line (of_bytes (visit_all r names (opened_first bundle r))) (λ o. or_else (line_at path (folder_lines o.store who)) (file_with r o who path)) line e in
      let o : Opened = w.0 in
      let xs = files_that (is_beside o.store who path) o.store in
      ⊎_elim
      (λ (sound : Sound Named o).
      chosen (OneWritten line ⊎ HasForged owner m bytes) (line_at path (folder_lines o.store who)) (file_with r o who path) line w.2
      (λ found. inl (o.store, sound.tree, folder_line_written o sound line (some_line path (folder_lines o.store who) line found)))
      (λ next.
      let v = on_told Opened Line (of_bytes (visit_all r (file_visits bare who xs) o)) (λ after. or_else (line_at path (lines_beside after.store who path)) (Err Unseen)) line next in
      let after : Opened = v.0 in
      let last = bytes_told Opened (visit_all r (file_visits bare who xs) o) after v.1 in
      ⊎_elim
      (λ (all : Sound (Visited (file_visits bare who xs) Named) after).
      chosen (OneWritten line ⊎ HasForged owner m bytes) (line_at path (lines_beside after.store who path)) (Err Unseen) line v.2
      (λ found. inl (after.store, all.tree, beside_written path o after sound last all line (some_line path (lines_beside after.store who path) line found)))
      (λ none. absurd (unseen line none)))
      (λ forged. inr forged)
      (visits_sound owner m valid whole bytes r are (file_visits bare who xs) Named o after sound last)))
      (λ forged. inr forged)
      (visits_sound owner m valid whole bytes r are names no_visit (opened_first bundle r) o (first_sound has) (bytes_told Opened (visit_all r names (opened_first bundle r)) o w.1))

-- ---- any bytes

-- what a reading of them has
pub record IsReadOf (bundle : Bundle) (bytes : List ℕ) (r : Reading) : Type 0 where
  pub is_read : audited bundle bytes ≡ Ok r
  pub records : AreRecords bytes r.log
  pub shape : HasShape r.stand.store

pub reading_told : (bundle : Bundle) (bytes : List ℕ) (r : Reading) → AreBytes bytes → audited bundle bytes ≡ Ok r → IsReadOf bundle bytes r
unfolding audited
reading_told bundle bytes r are e =
    let told = read_told bundle (bundle_log bundle bytes) r e in
    record { is_read = e; records = log_records bundle bytes r.log are told.0; shape = fold_shape r.log r.stand told.1 }

audited_as : (bundle : Bundle) (bytes : List ℕ) → audited bundle bytes ≡ read_with bundle (bundle_log bundle bytes)
unfolding audited
audited_as bundle bytes = refl

pub lines_listed : (owner : List ℕ) (m : Journal) (bytes : List ℕ) (bundle : Bundle) (lines : List Line) → IsValid m → AreWhole owner m → AreBytes bytes → HasKeyOf owner m bundle
    → shown_with bundle bytes ≡ Ok lines → AreWrittenLines m bundle bytes lines ⊎ HasForged owner m bytes
unfolding shown_with view_with
lines_listed owner m bytes bundle lines valid whole are has e =
    let who = who_of bundle in
    let w = on_told Reading (List Line) (read_with bundle (bundle_log bundle bytes))
    (λ r. then_on (of_bytes (visit_all r (all_visits r.stand.store who) (opened_first bundle r))) (λ o. Ok (view o.store who))) lines e in
    let r : Reading = w.0 in
    let told = reading_told bundle bytes r are (audited_as bundle bytes ∙ w.1) in
    let v = on_told Opened (List Line) (of_bytes (visit_all r (all_visits r.stand.store who) (opened_first bundle r))) (λ o. Ok (view o.store who)) lines w.2 in
    let o : Opened = v.0 in
    let is : view o.store who ≡ lines = same_good (List Line) (view o.store who) lines v.2 in
    ⊎_elim
    (λ written. inl (record {
      reading = r;
      is_read = told.is_read;
      store = o.store;
      tree = written.0;
      each = λ l i. written.1 l (subst (λ ls. In l ls) (sym is) i);
    }))
    (λ forged. inr forged)
    (view_written owner m valid whole bytes bundle r told.records told.shape has o (bytes_told Opened (visit_all r (all_visits r.stand.store who) (opened_first bundle r)) o v.1))

pub line_opened : (owner : List ℕ) (m : Journal) (bytes : List ℕ) (bundle : Bundle) (path : List ℕ) (line : Line) → IsValid m → AreWhole owner m → AreBytes bytes → HasKeyOf owner m bundle
    → line_shown bundle path bytes ≡ Ok line → AreWrittenLines m bundle bytes (line ∷ []) ⊎ HasForged owner m bytes
unfolding line_shown line_with
line_opened owner m bytes bundle path line valid whole are has e =
    let who = who_of bundle in
    let w = on_told Reading Line (read_with bundle (bundle_log bundle bytes))
    (λ r. then_on (of_bytes (visit_all r (visits_to_names r.stand.store who) (opened_first bundle r))) (λ o. or_else (line_at path (folder_lines o.store who)) (file_with r o who path))) line e in
    let r : Reading = w.0 in
    let told = reading_told bundle bytes r are (audited_as bundle bytes ∙ w.1) in
    ⊎_elim
    (λ one. inl (record {
      reading = r;
      is_read = told.is_read;
      store = one.0;
      tree = one.1;
      each = λ l i. ⊎_elim (λ (is : l ≡ line). subst (IsWrittenLine m one.0 who) (sym is) one.2) (λ n. absurd n) i;
    }))
    (λ forged. inr forged)
    (path_written owner m valid whole bytes bundle r told.records told.shape has path line w.2)
