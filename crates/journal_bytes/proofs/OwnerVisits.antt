-- The owner's visits open every name, file and key.
use Rattle.std.proofs.Common.{◌≡◌, ◌≢◌, ⊎_elim, inl, inr, ℕ, Bool, true, false, List, [], ◌∷◌, ◌++◌, map, Option, Some, None, Ok, refl, sym, ap, subst, ◌∙◌}
use Rattle.std.specs.Prelude.{IsSome, IsTrue, filter, if◌then◌else◌, nat_lt}
use Rattle.std.specs.List.{list_any}
use Rattle.std.proofs.lemmas.Bool.{eq-eqb, false≢true, or_left, or_right}
use Rattle.chacha_seal.specs.Keys.{KeyParts}
use Rattle.cry_base.specs.Clearances.{clear_number}
use Rattle.cry_base.specs.Sets.{In}
use Rattle.cry_base.specs.Store.{Store, FolderEntry, FileEntry, HolderEntry}
use Rattle.cry_base.specs.declared.roles.Edge.{Edge}
use Rattle.cry_base.specs.declared.roles.Role.{Role}
use Rattle.cry_base.specs.declared.roles.Role.TheVariants.{Owner, Holder, Clear, Sub, Back, Files, Data, File}
use Rattle.cry_base.proofs.Members.{In-append, In-flat_map, In-map, filter-In}
use Rattle.log_visits.specs.Visiting.{Opened, Reading, key_of, visit, visit_all}
use Rattle.log_visits.specs.Visits.{Visit, all_visits, allowed_visits, clearance_visits, entry_edge, entry_file_visits, entry_folder_visits, entry_visits, file_visits, files_that, folders_that, holder_visits, into_file, is_entry, lower_visits, name_visits, upper_visits, visits_to_names, writing_visits}
use Rattle.log_visits.specs.Visits.Visit.{ToKey, ToName, ToFile, ToHolder}
use Rattle.move_plan.specs.Change.{folder_of_file}
use Rattle.move_plan.specs.Fitting.{public_of}
use Rattle.role_graph.specs.Edges.{edge, file_edge, has_grants}
use Rattle.role_graph.specs.Rights.{allowed_to, file_allowed_to, named_to}
use Rattle.role_graph.specs.Rights.Who.{TheOwner}
use Rattle.role_graph.specs.RightsByReach.{HasFolder, IsClearance}
use Rattle.role_graph.specs.Roles.{back_of, clear_of, data_of, file_role, files_of, holder_role, same_role, sub_of}
use Rattle.role_graph.proofs.Comparing.{same_role_tells}
use Rattle.role_graph.proofs.Edging.{In-order}
use Rattle.public_fold.specs.Journal.{Journal, keys_of, store_of}
use Rattle.public_fold.specs.Keyed.{HasRole}
use Rattle.public_fold.specs.KeyStep.{KeyState, newest}
use Rattle.public_fold.specs.Valid.{IsValid}
use Rattle.public_fold.proofs.KeyMoves.{journal_holds}
use Rattle.journal_bytes.specs.Folds.{public_stand}
use Rattle.journal_bytes.specs.Keys.{AreWhole, all_keys, bytes_in}
use Rattle.journal_bytes.specs.Opening.{AreDrawn, is_to_file, is_to_holder, is_to_name, owner_starts, owner_visits, reading_of, seen_by}
use Rattle.journal_bytes.proofs.LogsWalked.{journal_walked}
use Rattle.journal_bytes.proofs.OpenedKeys.{file_no_key, holder_no_key, key_told, name_no_key, owner_drawn, owner_opens, same_ok, text_keys, then_told}
use Rattle.journal_bytes.proofs.OpenedTexts.{all_seen, unseen, visits_seen}

-- ---- which visits there are

some_passes : (X : Type 0) (p : X → Bool) (xs : List X) (x : X) → In x xs → p x ≡ true → list_any p xs ≡ true
some_passes X p [] x i t = absurd i
some_passes X p (y ∷ xs) x i t = ⊎_elim
    (λ (q : x ≡ y). or_left (p y) (list_any p xs) (ap p (sym q) ∙ t))
    (λ u. or_right (p y) (list_any p xs) (some_passes X p xs x u t)) i

-- a folder that stands is one of those that pass, where all do
folder_passes : (test : ℕ → Bool) (s : Store) (e : FolderEntry) → In e s.folders → test e.id ≡ true → In e.id (folders_that test (public_of s))
unfolding folders_that public_of
folder_passes test s e i t =
    let bare : FolderEntry = record e { name = [] } in
    let fs = map (λ (d : FolderEntry). record d { name = [] }) s.folders in
    let there : In bare fs = (In-map FolderEntry FolderEntry (λ d. record d { name = [] }) bare s.folders).1 (e, i, refl) in
    let id : In e.id (map (λ (d : FolderEntry). d.id) fs) = (In-map FolderEntry ℕ (λ d. d.id) e.id fs).1 (bare, there, refl) in
    (In-order ℕ nat_lt e.id (filter test (map (λ (d : FolderEntry). d.id) fs))).1 (filter-In ℕ test e.id (map (λ (d : FolderEntry). d.id) fs) id t)

file_passes : (test : FileEntry → Bool) (s : Store) (e : FileEntry) → In e s.files → test (record e { name = []; bytes = [] }) ≡ true → In e.id (files_that test (public_of s))
unfolding files_that public_of
file_passes test s e i t =
    let bare : FileEntry = record e { name = []; bytes = [] } in
    let xs = map (λ (d : FileEntry). record d { name = []; bytes = [] }) s.files in
    let there : In bare xs = (In-map FileEntry FileEntry (λ d. record d { name = []; bytes = [] }) bare s.files).1 (e, i, refl) in
    let id : In e.id (map (λ (d : FileEntry). d.id) (filter test xs)) = (In-map FileEntry ℕ (λ d. d.id) e.id (filter test xs)).1 (bare, filter-In FileEntry test bare xs there t, refl) in
    (In-order ℕ nat_lt e.id (map (λ (d : FileEntry). d.id) (filter test xs))).1 id

holder_passes : (s : Store) (e : HolderEntry) → In e s.holders → In (ToHolder e.number) (holder_visits (public_of s))
unfolding holder_visits public_of
holder_passes s e i =
    let bare : HolderEntry = record e { key = [] } in
    let hs = map (λ (d : HolderEntry). record d { key = [] }) s.holders in
    let there : In bare hs = (In-map HolderEntry HolderEntry (λ d. record d { key = [] }) bare s.holders).1 (e, i, refl) in
    let number : In e.number (map (λ (d : HolderEntry). d.number) hs) = (In-map HolderEntry ℕ (λ d. d.number) e.number hs).1 (bare, there, refl) in
    (In-map ℕ Visit ToHolder (ToHolder e.number) _).1 (e.number, (In-order ℕ nat_lt e.number (map (λ (d : HolderEntry). d.number) hs)).1 number, refl)

in_left : (X : Type 0) (x : X) (xs ys : List X) → In x xs → In x (xs ++ ys)
in_left X x xs ys i = (In-append X x xs ys).1 (inl i)

in_right : (X : Type 0) (x : X) (xs ys : List X) → In x ys → In x (xs ++ ys)
in_right X x xs ys i = (In-append X x xs ys).1 (inr i)

-- the visits that a folder has of each kind
pub entry_of : (s : Store) (e : FolderEntry) (v : Visit) → In e s.folders → In v (ToKey (edge 1 Owner (clear_of e.id)) ∷ ToKey (edge 3 (clear_of e.id) (sub_of e.id)) ∷ []) → In v (entry_visits (public_of s) TheOwner)
unfolding entry_visits entry_folder_visits entry_edge is_entry
entry_of s e v i j =
    in_left Visit v (entry_folder_visits (public_of s) TheOwner) (entry_file_visits (public_of s) TheOwner)
    ((In-flat_map ℕ Visit (λ f. ToKey (edge 1 Owner (clear_of f)) ∷ ToKey (edge 3 (clear_of f) (sub_of f)) ∷ []) v (folders_that (is_entry (public_of s) TheOwner) (public_of s))).1
    (e.id, folder_passes (is_entry (public_of s) TheOwner) s e i refl, j))

pub allowed_of : (s : Store) (e : FolderEntry) (v : Visit) → In e s.folders → In v (ToKey (edge 4 (sub_of e.id) (back_of e.id)) ∷ ToKey (edge 5 (sub_of e.id) (files_of e.id)) ∷ []) → In v (allowed_visits (public_of s) TheOwner)
unfolding allowed_visits allowed_to
allowed_of s e v i j =
    (In-flat_map ℕ Visit (λ f. ToKey (edge 4 (sub_of f) (back_of f)) ∷ ToKey (edge 5 (sub_of f) (files_of f)) ∷ []) v (folders_that (allowed_to (public_of s) TheOwner) (public_of s))).1
    (e.id, folder_passes (allowed_to (public_of s) TheOwner) s e i refl, j)

name_of : (s : Store) (e : FolderEntry) (v : Visit) → In e s.folders → In v (ToKey (edge 7 (back_of e.id) (data_of e.id)) ∷ ToName e.id ∷ []) → In v (name_visits (public_of s) TheOwner)
unfolding name_visits named_to
name_of s e v i j =
    (In-flat_map ℕ Visit (λ f. ToKey (edge 7 (back_of f) (data_of f)) ∷ ToName f ∷ []) v (folders_that (named_to (public_of s) TheOwner) (public_of s))).1
    (e.id, folder_passes (named_to (public_of s) TheOwner) s e i refl, j)

file_of : (s : Store) (e : FileEntry) (v : Visit) → In e s.files → In v (ToKey (file_edge (folder_of_file (public_of s) e.id) e.id) ∷ ToFile e.id ∷ []) → In v (file_visits (public_of s) TheOwner (files_that (file_allowed_to (public_of s) TheOwner) (public_of s)))
unfolding file_visits into_file file_allowed_to allowed_to
file_of s e v i j =
    (In-flat_map ℕ Visit (λ x. ToKey (file_edge (folder_of_file (public_of s) x) x) ∷ ToFile x ∷ []) v (files_that (file_allowed_to (public_of s) TheOwner) (public_of s))).1
    (e.id, file_passes (file_allowed_to (public_of s) TheOwner) s e i refl, j)

-- the visit into the Clearance of a file with a grant
clearance_of : (s : Store) (e : FileEntry) → In e s.files → IsTrue (has_grants s (clear_number e.id)) → In (ToKey (edge 1 Owner (clear_of (clear_number e.id)))) (clearance_visits (public_of s))
unfolding clearance_visits has_grants public_of
clearance_of s e i has =
    let into : ℕ → Visit = λ x. ToKey (edge 1 Owner (clear_of (clear_number x))) in
    (In-map ℕ Visit into (into e.id) (files_that (λ d. has_grants (public_of s) (clear_number d.id)) (public_of s))).1
    (e.id, file_passes (λ d. has_grants (public_of s) (clear_number d.id)) s e i has, refl)

abbrev pub all_of : Store → List Visit
all_of s = all_visits (public_of s) TheOwner ++ writing_visits (public_of s)

-- where they stand among all visits
-- a visit of each part is one of all
module _ (s : Store) (v : Visit) where
  abbrev entries : List Visit
  entries = entry_visits (public_of s) TheOwner

  abbrev lowers : List Visit
  lowers = lower_visits (public_of s) TheOwner

  abbrev insides : List Visit
  insides = allowed_visits (public_of s) TheOwner

  abbrev uppers : List Visit
  uppers = upper_visits (public_of s) TheOwner

  abbrev names : List Visit
  names = name_visits (public_of s) TheOwner

  abbrev files : List Visit
  files = file_visits (public_of s) TheOwner (files_that (file_allowed_to (public_of s) TheOwner) (public_of s))

  in_tree : In v (entries ++ (lowers ++ (insides ++ (uppers ++ names)))) → In v (all_of s)
  unfolding all_visits visits_to_names
  in_tree i =
      in_left Visit v (all_visits (public_of s) TheOwner) (writing_visits (public_of s))
      (in_left Visit v (entries ++ (lowers ++ (insides ++ (uppers ++ names)))) files i)

  in_entry : In v entries → In v (all_of s)
  in_entry i = in_tree (in_left Visit v entries (lowers ++ (insides ++ (uppers ++ names))) i)

  in_allowed : In v insides → In v (all_of s)
  in_allowed i =
      in_tree (in_right Visit v entries (lowers ++ (insides ++ (uppers ++ names))) (in_right Visit v lowers (insides ++ (uppers ++ names)) (in_left Visit v insides (uppers ++ names) i)))

  in_names : In v names → In v (all_of s)
  in_names i =
      in_tree (in_right Visit v entries (lowers ++ (insides ++ (uppers ++ names)))
      (in_right Visit v lowers (insides ++ (uppers ++ names)) (in_right Visit v insides (uppers ++ names) (in_right Visit v uppers names i))))

  in_files : In v files → In v (all_of s)
  unfolding all_visits
  in_files i =
      in_left Visit v (all_visits (public_of s) TheOwner) (writing_visits (public_of s)) (in_right Visit v (visits_to_names (public_of s) TheOwner) files i)

in_holders : (s : Store) (v : Visit) → In v (holder_visits (public_of s)) → In v (all_of s)
unfolding writing_visits
in_holders s v i = in_right Visit v (all_visits (public_of s) TheOwner) (writing_visits (public_of s)) (in_left Visit v (holder_visits (public_of s)) (clearance_visits (public_of s)) i)

in_clearances : (s : Store) (v : Visit) → In v (clearance_visits (public_of s)) → In v (all_of s)
unfolding writing_visits
in_clearances s v i = in_right Visit v (all_visits (public_of s) TheOwner) (writing_visits (public_of s)) (in_right Visit v (holder_visits (public_of s)) (clearance_visits (public_of s)) i)

-- ---- every text is seen

names_visited : (s : Store) (e : FolderEntry) → In e s.folders → list_any (is_to_name e.id) (all_of s) ≡ true
unfolding is_to_name
names_visited s e i = some_passes Visit (is_to_name e.id) (all_of s) (ToName e.id) (in_names s (ToName e.id) (name_of s e (ToName e.id) i (inr (inl refl)))) (eq-eqb e.id e.id refl)

files_visited : (s : Store) (e : FileEntry) → In e s.files → list_any (is_to_file e.id) (all_of s) ≡ true
unfolding is_to_file
files_visited s e i = some_passes Visit (is_to_file e.id) (all_of s) (ToFile e.id) (in_files s (ToFile e.id) (file_of s e (ToFile e.id) i (inr (inl refl)))) (eq-eqb e.id e.id refl)

holders_visited : (s : Store) (e : HolderEntry) → In e s.holders → list_any (is_to_holder e.number) (all_of s) ≡ true
unfolding is_to_holder
holders_visited s e i = some_passes Visit (is_to_holder e.number) (all_of s) (ToHolder e.number) (in_holders s (ToHolder e.number) (holder_passes s e i)) (eq-eqb e.number e.number refl)

-- what anyone sees
pub journal_seen : (owner : List ℕ) (m : Journal) → IsValid m → AreWhole owner m → (vs : List Visit) (before after : Opened) → AreDrawn (all_keys owner m) (keys_of m) before.keys → before.store ≡ (public_stand m).store
    → visit_all (reading_of owner m) vs before ≡ Ok after → after.store ≡ seen_by vs (store_of m)
unfolding public_stand
journal_seen owner m valid whole vs before after drawn public done =
    let walked = journal_walked owner m valid whole in
    visits_seen (all_keys owner m) (store_of m) (reading_of owner m) vs [] before after walked.each_link walked.contents_present drawn (public ∙ unseen (store_of m)) done

all_visited : (m : Journal) → seen_by (owner_visits m) (store_of m) ≡ store_of m
unfolding public_stand
all_visited m = all_seen (all_of (store_of m)) (store_of m) (names_visited (store_of m)) (files_visited (store_of m)) (holders_visited (store_of m))

-- the owner sees the whole store
pub owner_seen : (owner : List ℕ) (m : Journal) → IsValid m → AreWhole owner m → (after : Opened) → visit_all (reading_of owner m) (owner_visits m) (owner_starts owner m) ≡ Ok after → after.store ≡ store_of m
owner_seen owner m valid whole after done =
    journal_seen owner m valid whole (owner_visits m) (owner_starts owner m) after (owner_drawn owner m valid whole) refl done ∙ all_visited m

-- ---- every key is opened

-- one key more
more_open : (keys : List (Role × List ℕ)) (to : Role) (bytes : List ℕ) (role : Role) → IsSome (key_of keys role) → IsSome (key_of ((to, bytes) ∷ keys) role)
unfolding key_of
more_open keys to bytes role some =
    elim (same_role to role) as (λ b. IsSome (if b then Some bytes else key_of keys role)) [ true ↦ refl | false ↦ some ]

pub new_open : (keys : List (Role × List ℕ)) (to : Role) (bytes : List ℕ) → IsSome (key_of ((to, bytes) ∷ keys) to)
unfolding key_of
new_open keys to bytes = subst (λ b. IsSome (if b then Some bytes else key_of keys to)) (sym ((same_role_tells to to).1 refl)) refl

-- a key that is open stays so
stays_open : (r : Reading) (v : Visit) (o after : Opened) (role : Role) → visit r v o ≡ Ok after → IsSome (key_of o.keys role) → IsSome (key_of after.keys role)
unfolding visit
stays_open r (ToKey e) o after role done some =
    let told = key_told r o after e done in
    subst (λ (z : Opened). IsSome (key_of z.keys role)) told.1 (more_open o.keys e.to told.0 role some)
stays_open r (ToName f) o after role done some = subst (λ ks. IsSome (key_of ks role)) (text_keys r (ToName f) o after done (name_no_key f)) some
stays_open r (ToFile x) o after role done some = subst (λ ks. IsSome (key_of ks role)) (text_keys r (ToFile x) o after done (file_no_key x)) some
stays_open r (ToHolder h) o after role done some = subst (λ ks. IsSome (key_of ks role)) (text_keys r (ToHolder h) o after done (holder_no_key h)) some

pub all_stay : (r : Reading) (vs : List Visit) (o after : Opened) (role : Role) → visit_all r vs o ≡ Ok after → IsSome (key_of o.keys role) → IsSome (key_of after.keys role)
unfolding visit_all
all_stay r [] o after role done some = subst (λ (z : Opened). IsSome (key_of z.keys role)) (same_ok Opened o after done) some
all_stay r (v ∷ vs) o after role done some =
    let w = then_told Opened Opened (visit r v o) (visit_all r vs) after done in
    all_stay r vs w.0 after role w.2 (stays_open r v o w.0 role w.1 some)

edge_opens : (r : Reading) (v : Visit) (o after : Opened) (e : Edge) → ToKey e ≡ v → visit r v o ≡ Ok after → IsSome (key_of after.keys e.to)
unfolding visit
edge_opens r v o after e is done =
    let told = key_told r o after e (subst (λ z. visit r z o ≡ Ok after) (sym is) done) in
    subst (λ (z : Opened). IsSome (key_of z.keys e.to)) told.1 (new_open o.keys e.to told.0)

-- each edge that is visited leads to a key
pub edge_open : (r : Reading) (vs : List Visit) (o after : Opened) (e : Edge) → visit_all r vs o ≡ Ok after → In (ToKey e) vs → IsSome (key_of after.keys e.to)
unfolding visit_all
edge_open r [] o after e done i = absurd i
edge_open r (v ∷ vs) o after e done i =
    let w = then_told Opened Opened (visit r v o) (visit_all r vs) after done in ⊎_elim
    (λ (q : ToKey e ≡ v). all_stay r vs w.0 after e.to w.2 (edge_opens r v o w.0 e q w.1))
    (λ u. edge_open r vs w.0 after e w.2 u) i

clear_open : (s : Store) (r : Reading) (o after : Opened) (f : ℕ) → visit_all r (all_of s) o ≡ Ok after → HasRole s (clear_of f) → IsSome (key_of after.keys (clear_of f))
unfolding edge clear_of
clear_open s r o after f done has = ⊎_elim
    (λ (folder : HasFolder s f).
    let v = edge 1 Owner (clear_of folder.0.id) in
    subst (λ n. IsSome (key_of after.keys (clear_of n))) folder.2 (edge_open r (all_of s) o after v done (in_entry s (ToKey v) (entry_of s folder.0 (ToKey v) folder.1 (inl refl)))))
    (λ (file : IsClearance s f).
    let e = file.0.0 in
    let v = edge 1 Owner (clear_of (clear_number e.id)) in
    let granted : IsTrue (has_grants s (clear_number e.id)) = subst (λ n. IsTrue (has_grants s n)) (sym file.0.2) file.1 in
    subst (λ n. IsSome (key_of after.keys (clear_of n))) file.0.2 (edge_open r (all_of s) o after v done (in_clearances s (ToKey v) (clearance_of s e file.0.1 granted))))
    has

role_open : (s : Store) (r : Reading) (o after : Opened) (role : Role) → visit_all r (all_of s) o ≡ Ok after → IsSome (key_of o.keys Owner) → ((h : ℕ) → role ≢ holder_role h) → HasRole s role → IsSome (key_of after.keys role)
unfolding edge file_edge holder_role clear_of sub_of back_of files_of data_of file_role
role_open s r o after Owner done first other has = all_stay r (all_of s) o after Owner done first
role_open s r o after (Holder h) done first other has = absurd (other h.0 refl)
role_open s r o after (Clear f) done first other has = clear_open s r o after f.0 done has
role_open s r o after (Sub f) done first other has =
    let v = edge 3 (clear_of has.0.id) (sub_of has.0.id) in
    subst (λ n. IsSome (key_of after.keys (sub_of n))) has.2 (edge_open r (all_of s) o after v done (in_entry s (ToKey v) (entry_of s has.0 (ToKey v) has.1 (inr (inl refl)))))
role_open s r o after (Back f) done first other has =
    let v = edge 4 (sub_of has.0.id) (back_of has.0.id) in
    subst (λ n. IsSome (key_of after.keys (back_of n))) has.2 (edge_open r (all_of s) o after v done (in_allowed s (ToKey v) (allowed_of s has.0 (ToKey v) has.1 (inl refl))))
role_open s r o after (Files f) done first other has =
    let v = edge 5 (sub_of has.0.id) (files_of has.0.id) in
    subst (λ n. IsSome (key_of after.keys (files_of n))) has.2 (edge_open r (all_of s) o after v done (in_allowed s (ToKey v) (allowed_of s has.0 (ToKey v) has.1 (inr (inl refl)))))
role_open s r o after (Data f) done first other has =
    let v = edge 7 (back_of has.0.id) (data_of has.0.id) in
    subst (λ n. IsSome (key_of after.keys (data_of n))) has.2 (edge_open r (all_of s) o after v done (in_names s (ToKey v) (name_of s has.0 (ToKey v) has.1 (inl refl))))
role_open s r o after (File x) done first other has =
    let v = file_edge (folder_of_file (public_of s) has.0.id) has.0.id in
    subst (λ n. IsSome (key_of after.keys (file_role n))) has.2 (edge_open r (all_of s) o after v done (in_files s (ToKey v) (file_of s has.0 (ToKey v) has.1 (inl refl))))

-- what is open is the role's present key
the_key : (keys : List KeyParts) (k : KeyState) (opened : List (Role × List ℕ)) (role : Role) (n : ℕ) (o : Option (List ℕ)) → AreDrawn keys k opened → newest k.keys role ≡ Some n → key_of opened role ≡ o → IsSome o → o ≡ Some (bytes_in keys n)
the_key keys k opened role n None drawn newer is some = absurd (false≢true some)
the_key keys k opened role n (Some bytes) drawn newer is some =
    let own = drawn role bytes is in
    let same : Some own.0 ≡ Some n = sym own.1 ∙ newer in
    let one : own.0 ≡ n = cc in
    ap Some (own.2 ∙ ap (bytes_in keys) one)

pub owner_open : (owner : List ℕ) → IsSome (key_of ((Owner, owner) ∷ []) Owner)
owner_open owner = new_open [] Owner owner

-- the owner opens every present key but the holders'
pub owner_keys : (owner : List ℕ) (m : Journal) → IsValid m → AreWhole owner m → (after : Opened) → visit_all (reading_of owner m) (owner_visits m) (owner_starts owner m) ≡ Ok after
    → (role : Role) (n : ℕ) → newest (keys_of m).keys role ≡ Some n → ((h : ℕ) → role ≢ holder_role h) → key_of after.keys role ≡ Some (bytes_in (all_keys owner m) n)
unfolding public_stand
owner_keys owner m valid whole after done role n newer other =
    let has = ((journal_holds m valid).keyed role).1 (n, newer) in
    the_key (all_keys owner m) (keys_of m) after.keys role n (key_of after.keys role) (owner_opens owner m valid whole (owner_visits m) after done) newer refl
    (role_open (store_of m) (reading_of owner m) (owner_starts owner m) after role done (owner_open owner) other has)
