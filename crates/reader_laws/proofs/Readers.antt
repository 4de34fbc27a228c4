-- What readers of a journal visit passes, and shows the journal's store.
use Rattle.std.proofs.Common.{◌≡◌, ⊎_elim, inl, inr, ℕ, Bool, true, ◌==◌, List, [], ◌∷◌, ◌++◌, map, filter, Ok, refl, sym, ap, subst, ◌∙◌}
use Rattle.std.specs.Prelude.{IsSome, nat_lt}
use Rattle.std.specs.List.{list_any}
use Rattle.std.proofs.lemmas.Bool.{eq-eqb, eqb-true, or_left, or_right}
use Rattle.cry_base.specs.Sets.{In}
use Rattle.cry_base.specs.Store.{Store, FolderEntry, FileEntry, HolderEntry, holder_entry}
use Rattle.cry_base.specs.declared.client.Bundle.{Bundle}
use Rattle.cry_base.specs.declared.client.Bundle.TheVariants as bundles
use Rattle.cry_base.specs.declared.roles.Role.{Role}
use Rattle.cry_base.specs.declared.roles.Role.TheVariants.{Owner}
use Rattle.cry_base.proofs.Finding.{find-found}
use Rattle.cry_base.proofs.Members.{In-append, In-filter, In-flat_map, In-map, filter-In}
use Rattle.log_visits.specs.Judging.{first_key, opened_first, who_of}
use Rattle.log_visits.specs.View.{view}
use Rattle.log_visits.specs.Visiting.{Opened, Reading, key_of, visit_all}
use Rattle.log_visits.specs.Visits.{Visit, all_visits, allowed_visits, entry_visits, file_visits, files_that, folders_that, into_file, lower_visits, name_visits, upper_visits, visits_to_names}
use Rattle.log_visits.specs.Visits.Visit.{ToKey, ToName, ToFile}
use Rattle.move_plan.specs.Fitting.{public_of}
use Rattle.role_graph.specs.Edges.{edge}
use Rattle.role_graph.specs.Rights.{Who, file_allowed_to, named_to}
use Rattle.role_graph.specs.Roles.{back_of, data_of, holder_role}
use Rattle.role_graph.proofs.Edging.{In-order}
use Rattle.role_graph.proofs.Granting.{file_allowed_to_told}
use Rattle.public_fold.specs.Journal.{Journal, keys_of, store_of}
use Rattle.journal_bytes.specs.Folds.{fold_of, log_of, public_stand}
use Rattle.journal_bytes.specs.Keys.{all_keys}
use Rattle.journal_bytes.specs.Opening.{AreDrawn, is_to_file, is_to_name, reading_of, seen_by}
use Rattle.journal_bytes.proofs.OpenedKeys.{visits_drawn}
use Rattle.journal_bytes.proofs.OpenedTexts.{unseen, visits_seen}
use Rattle.journal_bytes.proofs.OwnerVisits.{all_stay, edge_open, new_open}
use Rattle.reader_laws.specs.Reading.{AreAllowed, IsReaderOf}
use Rattle.reader_laws.proofs.Openable.{AllGo, ordered_go}
use Rattle.log_visits.proofs.Ordered.{AreOrdered}
use Rattle.reader_laws.proofs.Readable.{IsReadable, fold_shape}
use Rattle.log_visits.proofs.ReaderVisits.{AreFilesIn, AtFirst, Named, all_ordered, files_ordered, names_ordered}
use Rattle.log_visits.proofs.Rights.{HasShape, passes}
use Rattle.reader_laws.proofs.Seen.{AreToFiles, AreToNames, file_allowed_seen, file_as, file_id_is, files_are, named_seen, view_seen}

-- ---- rights are seen by everyone

pub file_allowed_public : (s : Store) (who : Who) (e : FileEntry) → file_allowed_to (public_of s) who (record e { name = []; bytes = [] }) ≡ file_allowed_to s who e
file_allowed_public s who e = ap (λ (z : Store). file_allowed_to z who (file_as [] e)) (unseen s) ∙ file_allowed_seen [] s who e

named_public : (s : Store) (who : Who) (f : ℕ) → named_to (public_of s) who f ≡ named_to s who f
named_public s who f = ap (λ (z : Store). named_to z who f) (unseen s) ∙ named_seen [] s who f

-- ---- which visits there are

some_passes : (X : Type 0) (p : X → Bool) (xs : List X) (x : X) → In x xs → p x ≡ true → list_any p xs ≡ true
some_passes X p [] x i t = absurd i
some_passes X p (y ∷ xs) x i t = ⊎_elim
    (λ (q : x ≡ y). or_left (p y) (list_any p xs) (ap p (sym q) ∙ t))
    (λ u. or_right (p y) (list_any p xs) (some_passes X p xs x u t)) i

in_right : (v : Visit) (xs ys : List Visit) → In v ys → In v (xs ++ ys)
in_right v xs ys i = (In-append Visit v xs ys).1 (inr i)

pub in_left : (v : Visit) (xs ys : List Visit) → In v xs → In v (xs ++ ys)
in_left v xs ys i = (In-append Visit v xs ys).1 (inl i)

bare_in : (s : Store) (e : FolderEntry) → In e s.folders → In (let b : FolderEntry = record e { name = [] } in b) (public_of s).folders
unfolding public_of
bare_in s e i = (In-map FolderEntry FolderEntry (λ d. record d { name = [] }) (record e { name = [] }) s.folders).1 (e, i, refl)

bare_file_in : (s : Store) (e : FileEntry) → In e s.files → In (let b : FileEntry = record e { name = []; bytes = [] } in b) (public_of s).files
unfolding public_of
bare_file_in s e i = (In-map FileEntry FileEntry (λ d. record d { name = []; bytes = [] }) (record e { name = []; bytes = [] }) s.files).1 (e, i, refl)

-- a named folder's name is visited
name_in : (s : Store) (who : Who) (e : FolderEntry) → In e s.folders → named_to s who e.id ≡ true → In (ToName e.id) (visits_to_names (public_of s) who)
unfolding visits_to_names name_visits
name_in s who e i t =
    let t' = public_of s in
    let v : Visit = ToName e.id in
    let E = entry_visits t' who in
    let L = lower_visits t' who in
    let I = allowed_visits t' who in
    let U = upper_visits t' who in
    let N = name_visits t' who in
    let bare : FolderEntry = record e { name = [] } in
    let here : In v N = (In-flat_map ℕ Visit (λ f. ToKey (edge 7 (back_of f) (data_of f)) ∷ ToName f ∷ []) v (folders_that (named_to t' who) t')).1
    (e.id, passes (named_to t' who) t' e.id (bare, bare_in s e i, refl) (named_public s who e.id ∙ t), inr (inl refl)) in
    in_right v E (L ++ (I ++ (U ++ N))) (in_right v L (I ++ (U ++ N)) (in_right v I (U ++ N) (in_right v U N here)))

pub to_names : (s : Store) (who : Who) (more : List Visit) → AreToNames (visits_to_names (public_of s) who ++ more) s who
unfolding is_to_name
to_names s who more e i t =
    some_passes Visit (is_to_name e.id) (visits_to_names (public_of s) who ++ more) (ToName e.id)
    (in_left (ToName e.id) (visits_to_names (public_of s) who) more (name_in s who e i t)) (eq-eqb e.id e.id refl)

-- a file that passes, of those that some visits show
pub file_listed : (ws : List Visit) (s : Store) (test : FileEntry → Bool) (e : FileEntry) → In e s.files → test (file_as ws e) ≡ true → In e.id (files_that test (seen_by ws s))
unfolding files_that
file_listed ws s test e i t =
    let t' = seen_by ws s in
    let there : In (file_as ws e) t'.files = subst (λ xs. In (file_as ws e) xs) (sym (files_are ws s)) ((In-map FileEntry FileEntry (file_as ws) (file_as ws e) s.files).1 (e, i, refl)) in
    let id : In (file_as ws e).id (map (λ (d : FileEntry). d.id) (filter test t'.files)) = (In-map FileEntry ℕ (λ d. d.id) (file_as ws e).id (filter test t'.files)).1 (file_as ws e, filter-In FileEntry test (file_as ws e) t'.files there t, refl) in
    (In-order ℕ nat_lt e.id (map (λ (d : FileEntry). d.id) (filter test t'.files))).1 (subst (λ n. In n (map (λ (d : FileEntry). d.id) (filter test t'.files))) (file_id_is ws e) id)

pub listed_file : (ws : List Visit) (s : Store) (test : FileEntry → Bool) (x : ℕ) → In x (files_that test (seen_by ws s)) → (e : FileEntry) × In e s.files × (e.id ≡ x) × (test (file_as ws e) ≡ true)
unfolding files_that
listed_file ws s test x i =
    let t' = seen_by ws s in
    let w = (In-map FileEntry ℕ (λ d. d.id) x (filter test t'.files)).0 ((In-order ℕ nat_lt x (map (λ (d : FileEntry). d.id) (filter test t'.files))).0 i) in
    let told = In-filter FileEntry test w.0 t'.files w.1 in
    let v = (In-map FileEntry FileEntry (file_as ws) w.0 s.files).0 (subst (λ xs. In w.0 xs) (files_are ws s) told.0) in
    (v.0, v.1, sym (file_id_is ws v.0) ∙ ap (λ (d : FileEntry). d.id) (sym v.2) ∙ sym w.2, ap test (sym v.2) ∙ told.1)

-- a file of the list is visited
pub file_visited : (s : Store) (who : Who) (xs : List ℕ) (more : List Visit) (x : ℕ) → In x xs → list_any (is_to_file x) (more ++ file_visits s who xs) ≡ true
unfolding is_to_file file_visits
file_visited s who xs more x i =
    some_passes Visit (is_to_file x) (more ++ file_visits s who xs) (ToFile x)
    (in_right (ToFile x) more (file_visits s who xs)
    ((In-flat_map ℕ Visit (λ n. ToKey (into_file s who n) ∷ ToFile n ∷ []) (ToFile x) xs).1 (x, i, inr (inl refl))))
    (eq-eqb x x refl)

-- ---- a reader's visits pass

-- the reader's own key is the journal's
reader_drawn : (owner : List ℕ) (m : Journal) (bundle : Bundle) → IsReadable owner m → IsReaderOf owner m bundle → AreDrawn (all_keys owner m) (keys_of m) (opened_first bundle (reading_of owner m)).keys
unfolding opened_first first_key holder_entry
reader_drawn owner m (bundles.Owner key) ok is = subst (λ k. AreDrawn (all_keys owner m) (keys_of m) ((Owner, k) ∷ [])) (sym is) ok.owner_key
reader_drawn owner m (bundles.Holder h key) ok is =
    let e : HolderEntry = is.0 in
    let told = find-found HolderEntry (λ d. d.number == h.0) (store_of m).holders e is.1 in
    let number : e.number ≡ h.0 = eqb-true e.number h.0 told.1 in
    subst (λ k. AreDrawn (all_keys owner m) (keys_of m) ((holder_role h.0, k) ∷ [])) (sym is.2)
    (subst (λ n. AreDrawn (all_keys owner m) (keys_of m) ((holder_role n, e.key) ∷ [])) number (ok.holder_keys e told.0))

pub first_open : (bundle : Bundle) (r : Reading) (role : Role) → AtFirst (who_of bundle) role → IsSome (key_of (opened_first bundle r).keys role)
unfolding opened_first first_key who_of
first_open (bundles.Owner key) r role is = subst (λ z. IsSome (key_of ((Owner, key) ∷ []) z)) (sym is) (new_open [] Owner key)
first_open (bundles.Holder h key) r role is = subst (λ z. IsSome (key_of ((holder_role h.0, key) ∷ []) z)) (sym is) (new_open [] (holder_role h.0) key)

first_store : (bundle : Bundle) (r : Reading) → (opened_first bundle r).store ≡ r.stand.store
unfolding opened_first
first_store bundle r = refl

module _ (owner : List ℕ) (m : Journal) (bundle : Bundle) (ok : IsReadable owner m) (is : IsReaderOf owner m bundle) where
  abbrev reading : Reading
  reading = reading_of owner m

  abbrev first : Opened
  first = opened_first bundle reading

  abbrev who : Who
  who = who_of bundle

  abbrev bare : Store
  bare = public_of (store_of m)

  shape : HasShape bare
  unfolding fold_of public_stand
  shape = fold_shape (log_of owner m) (public_stand m) ok.followed

  -- what is visited behind the visits to names
  abbrev IsNamed : Opened → Type 0
  IsNamed named = visit_all reading (visits_to_names bare who) first ≡ Ok named

  ordered_pass : (vs : List Visit) → AreOrdered bare (AtFirst who) vs → AllGo reading vs first
  unfolding public_stand
  ordered_pass vs ordered =
      ordered_go (all_keys owner m) (store_of m) reading ok.openable vs (AtFirst who) first (reader_drawn owner m bundle ok is) (first_open bundle reading) ordered

  pub names_pass : AllGo reading (visits_to_names bare who) first
  names_pass = ordered_pass (visits_to_names bare who) (names_ordered bare who shape)

  pub all_pass : AllGo reading (all_visits bare who) first
  all_pass = ordered_pass (all_visits bare who) (all_ordered bare who shape)

  drawn_by : (vs : List Visit) (after : Opened) → visit_all reading vs first ≡ Ok after → AreDrawn (all_keys owner m) (keys_of m) after.keys
  unfolding public_stand
  drawn_by vs after done = visits_drawn (all_keys owner m) reading vs first after ok.openable.right (reader_drawn owner m bundle ok is) done

  named_open : (named : Opened) → IsNamed named → (role : Role) → Named bare who shape role → IsSome (key_of named.keys role)
  named_open named done role = ⊎_elim
      (λ at. all_stay reading (visits_to_names bare who) first named role done (first_open bundle reading role at))
      (λ w. subst (λ z. IsSome (key_of named.keys z)) w.2 (edge_open reading (visits_to_names bare who) first named w.0 done w.1))

  -- the files are allowed in what everyone may see
  public_files : (xs : List ℕ) → AreAllowed (store_of m) who xs → AreFilesIn bare who xs
  public_files xs are x i =
      let w = are x i in
      let e : FileEntry = w.0 in
      (record e { name = []; bytes = [] }, bare_file_in (store_of m) e w.1, w.2, file_allowed_public (store_of m) who e ∙ (file_allowed_to_told (store_of m) who e).1 w.3)

  pub files_pass : (xs : List ℕ) (named : Opened) → AreAllowed (store_of m) who xs → IsNamed named → AllGo reading (file_visits bare who xs) named
  unfolding public_stand
  files_pass xs named are done =
      ordered_go (all_keys owner m) (store_of m) reading ok.openable (file_visits bare who xs) (Named bare who shape) named (drawn_by (visits_to_names bare who) named done) (named_open named done)
      (files_ordered bare who shape xs (public_files xs are))

  -- ---- and show the store

  pub seen : (vs : List Visit) (after : Opened) → visit_all reading vs first ≡ Ok after → after.store ≡ seen_by vs (store_of m)
  unfolding public_stand
  seen vs after done =
      visits_seen (all_keys owner m) (store_of m) reading vs [] first after ok.openable.right ok.openable.last (reader_drawn owner m bundle ok is)
      (first_store bundle reading ∙ unseen (store_of m)) done

  -- the allowed files are visited
  all_files : AreToFiles (all_visits bare who) (store_of m) (file_allowed_to (store_of m) who)
  unfolding all_visits
  all_files e i t =
      let test : FileEntry → Bool = file_allowed_to bare who in
      let listed : In e.id (files_that test bare) =
      subst (λ (z : Store). In e.id (files_that test z)) (sym (unseen (store_of m)))
      (file_listed [] (store_of m) test e i (file_allowed_public (store_of m) who e ∙ t)) in
      file_visited bare who (files_that test bare) (visits_to_names bare who) e.id listed

  all_names : AreToNames (all_visits bare who) (store_of m) who
  unfolding all_visits
  all_names = to_names (store_of m) who (file_visits bare who (files_that (file_allowed_to bare who) bare))

  pub view_is : (after : Opened) → visit_all reading (all_visits bare who) first ≡ Ok after → view after.store who ≡ view (store_of m) who
  view_is after done =
      ap (λ (z : Store). view z who) (seen (all_visits bare who) after done)
      ∙ view_seen (all_visits bare who) (store_of m) who ok.numbered all_names all_files
