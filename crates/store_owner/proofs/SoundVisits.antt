-- What the owner's visits open of a log of payloads that fit, whatever its bytes.
use Rattle.std.proofs.Common.{◌≡◌, ◌≢◌, ℕ, ◌+◌, ◌≤◌, Bool, true, false, cond, not, ◌&&◌, ◌==◌, List, [], ◌∷◌, ◌++◌, map, filter, length, Option, Some, None, inl, inr, ⊎_elim, refl, sym, ap, ◌∙◌, subst, arith}
use Rattle.std.specs.Prelude.{IsSome, drop, nat_le, nat_lt, take, Result, Ok, Err, if◌then◌else◌}
use Rattle.std.proofs.lemmas.Bool.{and_parts, leb-true}
use Rattle.commit_journal.specs.Answering.{Fault, Damaged, and_then}
use Rattle.commit_journal.specs.Placed.{PlainPlaced}
use Rattle.cry_base.specs.Clearances.{clear_number}
use Rattle.cry_base.specs.Limits.{most_file_bytes}
use Rattle.cry_base.specs.Naming.{is_name}
use Rattle.cry_base.specs.Sets.{In}
use Rattle.cry_base.specs.Stepping.{with_file, with_folder, with_new_file, with_new_folder, with_new_holder, without_file, without_folder, without_grant}
use Rattle.cry_base.specs.Store.{Store, FolderEntry, FileEntry, HolderEntry, no_store, root_store}
use Rattle.cry_base.specs.declared.roles.Edge.{Edge}
use Rattle.cry_base.specs.declared.roles.Role.{Role}
use Rattle.cry_base.specs.declared.roles.Role.TheVariants.{Owner, Holder, Clear, Sub, Back, Files, Data, File}
use Rattle.cry_base.proofs.Members.{In-append, In-filter, In-flat_map, In-map, filter-In}
use Rattle.log_visits.specs.Folding.{folded}
use Rattle.log_visits.specs.Placing.{PlacedContent, PlacedLink, content_for, link_for}
use Rattle.log_visits.specs.Verdict.{open_content, open_link}
use Rattle.log_visits.specs.Visiting.{Opened, Reading, is_file_text, is_folder_text, key_of, needed, visit, visit_all, visit_edge, visit_text, with_holder_key, with_key, with_name_at, with_parts, with_text_at}
use Rattle.log_visits.specs.Visits.{Visit, all_visits, allowed_visits, clearance_visits, entry_edge, entry_file_visits, entry_folder_visits, entry_visits, file_visits, files_that, folders_that, holder_visits, into_file, is_entry, lower_visits, name_visits, upper_visits, visits_to_names, writing_visits}
use Rattle.log_visits.specs.Visits.Visit.{ToKey, ToName, ToFile, ToHolder}
use Rattle.move_plan.specs.Change.{folder_of_file}
use Rattle.move_plan.specs.Fitting.{folder_stands}
use Rattle.record_format.specs.Noted.{Note}
use Rattle.record_format.specs.Noted.Note.{Root, NewHolder, NewFolder, NewFile, Rewrite, NameFile, NameFolder, DropFile, DropFolder, ShiftFile, ShiftFolder, Give, Take, StrictRoot, Upgrade}
use Rattle.role_graph.specs.Edges.{edge, file_edge, has_grants}
use Rattle.role_graph.specs.Rights.{allowed_to, file_allowed_to, named_to}
use Rattle.role_graph.specs.Rights.Who.{TheOwner}
use Rattle.role_graph.specs.RightsByReach.{HasFolder, IsClearance}
use Rattle.role_graph.specs.Roles.{back_of, clear_of, data_of, file_role, files_of, holder_role, same_role, sub_of}
use Rattle.role_graph.proofs.Comparing.{same_role_tells}
use Rattle.role_graph.proofs.Edging.{In-order}
use Rattle.public_fold.specs.Fitted.{told_stand}
use Rattle.public_fold.specs.Journal.{Stand, nothing}
use Rattle.public_fold.specs.Keyed.{HasRole}
use Rattle.public_fold.specs.KeyStep.{newest}
use Rattle.public_fold.specs.Told.{told_store}
use Rattle.public_fold.specs.Turns.{Turn, turn_stand, turns_stand}
use Rattle.public_fold.specs.Turns.Turn.{Began, Noted}
use Rattle.store_owner.proofs.SoundOpened.{log_holds_then, log_turns, turns_of}

-- ---- what a visit does

then_told : (A B : Type 0) (o : Result A Fault) (f : A → Result B Fault) (y : B) → and_then o f ≡ Ok y → (x : A) × (o ≡ Ok x) × (f x ≡ Ok y)
unfolding and_then
then_told A B (Err fault) f y e = absurd cc
then_told A B (Ok x) f y e = (x, refl, e)

same_ok : (A : Type 0) (x y : A) → (let r : Result A Fault = Ok x in r) ≡ Ok y → x ≡ y
same_ok A x y e = cc

needed_told : (A B : Type 0) (o : Option A) (f : A → Result B Fault) (y : B) → needed o f ≡ Ok y → (x : A) × (f x ≡ Ok y)
unfolding needed
needed_told A B None f y e = absurd cc
needed_told A B (Some x) f y e = (x, e)

chosen : (b : Bool) (x y : Opened) (at : ℕ) → (if b then Ok x else Err (Damaged at)) ≡ Ok y → (b ≡ true) × (x ≡ y)
chosen true x y at e = (refl, same_ok Opened x y e)
chosen false x y at e = absurd cc

-- no file of the store has more bytes than a file may have
abbrev AreSized : Store → Type 0
AreSized s = (x : FileEntry) → In x s.files → length x.bytes ≤ most_file_bytes

-- keys that are open stay so, files keep to their size, and the holders' numbers stay
record IsKept (o after : Opened) : Type 0 where
  keys : (role : Role) → IsSome (key_of o.keys role) → IsSome (key_of after.keys role)
  sizes : AreSized o.store → AreSized after.store
  numbers : map (λ (e : HolderEntry). e.number) after.store.holders ≡ map (λ (e : HolderEntry). e.number) o.store.holders

kept_on : (a b c : Opened) → IsKept a b → IsKept b c → IsKept a c
kept_on a b c first more = record {
  keys = λ role some. more.keys role (first.keys role some);
  sizes = λ sized. more.sizes (first.sizes sized);
  numbers = more.numbers ∙ first.numbers;
}

more_open : (keys : List (Role × List ℕ)) (to : Role) (bytes : List ℕ) (role : Role) → IsSome (key_of keys role) → IsSome (key_of ((to, bytes) ∷ keys) role)
unfolding key_of
more_open keys to bytes role some =
    elim (same_role to role) as (λ b. IsSome (if b then Some bytes else key_of keys role)) [ true ↦ refl | false ↦ some ]

new_open : (keys : List (Role × List ℕ)) (to : Role) (bytes : List ℕ) → IsSome (key_of ((to, bytes) ∷ keys) to)
unfolding key_of
new_open keys to bytes = subst (λ b. IsSome (if b then Some bytes else key_of keys to)) (sym ((same_role_tells to to).1 refl)) refl

edge_told : (r : Reading) (o after : Opened) (e : Edge) → visit_edge r o e ≡ Ok after → (bytes : List ℕ) × ((let x : Opened = record o { keys = (e.to, bytes) ∷ o.keys } in x) ≡ after)
unfolding visit_edge with_key
edge_told r o after e done =
    let a = needed_told (List ℕ) Opened (key_of o.keys e.from) (λ key. needed (link_for r.stand.keys r.log e) (λ l. and_then (open_link l.batch l.at key l.link) (with_key o e.to))) after done in
    let b = needed_told PlacedLink Opened (link_for r.stand.keys r.log e) (λ l. and_then (open_link l.batch l.at a.0 l.link) (with_key o e.to)) after a.1 in
    let p : PlacedLink = b.0 in
    let c = then_told (List ℕ) Opened (open_link p.batch p.at a.0 p.link) (with_key o e.to) after b.1 in
    (c.0, same_ok Opened (record o { keys = (e.to, c.0) ∷ o.keys }) after c.2)

edge_kept : (r : Reading) (o after : Opened) (e : Edge) → visit_edge r o e ≡ Ok after → IsKept o after × IsSome (key_of after.keys e.to)
edge_kept r o after e done =
    let told = edge_told r o after e done in (
      subst (IsKept o) told.1 (record { keys = λ role some. more_open o.keys e.to told.0 role some; sizes = λ sized. sized; numbers = refl }),
      subst (λ (z : Opened). IsSome (key_of z.keys e.to)) told.1 (new_open o.keys e.to told.0),
    )

text_told : (r : Reading) (o : Opened) (role : Role) (kind object : ℕ) (go_on : ℕ → List ℕ → Result Opened Fault) (after : Opened) → visit_text r o role kind object go_on ≡ Ok after
    → (at : ℕ) × (text : List ℕ) × (go_on at text ≡ Ok after)
unfolding visit_text
text_told r o role kind object go_on after done =
    let a = needed_told (List ℕ) Opened (key_of o.keys role) (λ key. needed (content_for r.log kind object) (λ c. and_then (open_content c.batch c.at key c.content) (go_on c.at))) after done in
    let b = needed_told PlacedContent Opened (content_for r.log kind object) (λ c. and_then (open_content c.batch c.at a.0 c.content) (go_on c.at)) after a.1 in
    let p : PlacedContent = b.0 in
    let c = then_told (List ℕ) Opened (open_content p.batch p.at a.0 p.content) (go_on p.at) after b.1 in
    (p.at, c.0, c.2)

name_kept : (o after : Opened) (f at : ℕ) (text : List ℕ) → with_name_at o f at text ≡ Ok after → IsKept o after
unfolding with_name_at with_folder
name_kept o after f at text e =
    subst (IsKept o) (chosen (is_folder_text f text) (record o { store = with_folder o.store f (λ e. record e { name = text }) }) after at e).1
    (record { keys = λ role some. some; sizes = λ sized. sized; numbers = refl })

-- a file that is changed keeps to its size where its new bytes do
changed_sized : (s : Store) (n : ℕ) (name bytes : List ℕ) → length bytes ≤ most_file_bytes → AreSized s → AreSized (with_file s n (λ e. record e { name = name; bytes = bytes }))
unfolding with_file
changed_sized s n name bytes low sized x i =
    let w = (In-map FileEntry FileEntry (λ e. cond (e.id == n) (record e { name = name; bytes = bytes }) e) x s.files).0 i in
    subst (λ (z : FileEntry). length z.bytes ≤ most_file_bytes) (sym w.2)
    (elim (w.0.id == n) as (λ b. length (cond b (record w.0 { name = name; bytes = bytes }) w.0).bytes ≤ most_file_bytes) [ true ↦ low | false ↦ sized w.0 w.1 ])

parts_kept : (o : Opened) (x : ℕ) (text : List ℕ) → is_file_text text ≡ true → IsKept o (with_parts o x text)
unfolding is_file_text with_parts with_file
parts_kept o x [] t = record { keys = λ role some. some; sizes = λ sized. sized; numbers = refl }
parts_kept o x (n ∷ rest) t =
    let a = and_parts (nat_le n (length rest)) (is_name (take n rest) && nat_le (length (drop n rest)) most_file_bytes) t in
    let b = and_parts (is_name (take n rest)) (nat_le (length (drop n rest)) most_file_bytes) a.1 in record {
      keys = λ role some. some;
      sizes = λ sized. unfold with_file in (changed_sized o.store x (take n rest) (drop n rest) (leb-true (length (drop n rest)) most_file_bytes b.1) sized);
      numbers = refl;
    }

file_kept : (o after : Opened) (x at : ℕ) (text : List ℕ) → with_text_at o x at text ≡ Ok after → IsKept o after
unfolding with_text_at
file_kept o after x at text e =
    let w = chosen (is_file_text text) (with_parts o x text) after at e in subst (IsKept o) w.1 (parts_kept o x text w.0)

same_numbers : (h : ℕ) (key : List ℕ) (hs : List HolderEntry) → map (λ (e : HolderEntry). e.number) (map (λ (e : HolderEntry). cond (e.number == h) (record e { key = key }) e) hs) ≡ map (λ (e : HolderEntry). e.number) hs
same_numbers h key [] = refl
same_numbers h key (e ∷ hs) = λ i. one i ∷ same_numbers h key hs i
  where
    one : (cond (e.number == h) (record e { key = key }) e).number ≡ e.number
    one = elim (e.number == h) as (λ b. (cond b (record e { key = key }) e).number ≡ e.number) [ true ↦ refl | false ↦ refl ]

holder_kept : (o after : Opened) (h at : ℕ) (text : List ℕ) → with_holder_key o h at text ≡ Ok after → IsKept o after
unfolding with_holder_key
holder_kept o after h at text e =
    subst (IsKept o) (same_ok Opened (record o { store = record o.store { holders = map (λ (e : HolderEntry). cond (e.number == h) (record e { key = text }) e) o.store.holders } }) after e)
    (record { keys = λ role some. some; sizes = λ sized. sized; numbers = same_numbers h text o.store.holders })

visit_kept : (r : Reading) (v : Visit) (o after : Opened) → visit r v o ≡ Ok after → IsKept o after
unfolding visit
visit_kept r (ToKey e) o after done = (edge_kept r o after e done).0
visit_kept r (ToName f) o after done = let w = text_told r o (data_of f) 1 f (with_name_at o f) after done in name_kept o after f w.0 w.1 w.2
visit_kept r (ToFile x) o after done = let w = text_told r o (file_role x) 2 x (with_text_at o x) after done in file_kept o after x w.0 w.1 w.2
visit_kept r (ToHolder h) o after done = let w = text_told r o Owner 3 h (with_holder_key o h) after done in holder_kept o after h w.0 w.1 w.2

all_kept : (r : Reading) (vs : List Visit) (o after : Opened) → visit_all r vs o ≡ Ok after → IsKept o after
unfolding visit_all
all_kept r [] o after done = subst (IsKept o) (same_ok Opened o after done) (record { keys = λ role some. some; sizes = λ sized. sized; numbers = refl })
all_kept r (v ∷ vs) o after done =
    let w = then_told Opened Opened (visit r v o) (visit_all r vs) after done in
    kept_on o w.0 after (visit_kept r v o w.0 w.1) (all_kept r vs w.0 after w.2)

edge_opens : (r : Reading) (v : Visit) (o after : Opened) (e : Edge) → ToKey e ≡ v → visit r v o ≡ Ok after → IsSome (key_of after.keys e.to)
unfolding visit
edge_opens r v o after e is done = (edge_kept r o after e (subst (λ z. visit r z o ≡ Ok after) (sym is) done)).1

-- each edge that is visited leads to a key
edge_open : (r : Reading) (vs : List Visit) (o after : Opened) (e : Edge) → visit_all r vs o ≡ Ok after → In (ToKey e) vs → IsSome (key_of after.keys e.to)
unfolding visit_all
edge_open r [] o after e done i = absurd i
edge_open r (v ∷ vs) o after e done i =
    let w = then_told Opened Opened (visit r v o) (visit_all r vs) after done in ⊎_elim
    (λ (q : ToKey e ≡ v). (all_kept r vs w.0 after w.2).keys e.to (edge_opens r v o w.0 e q w.1))
    (λ u. edge_open r vs w.0 after e w.2 u) i

-- ---- which visits there are

folder_passes : (test : ℕ → Bool) (s : Store) (e : FolderEntry) → In e s.folders → test e.id ≡ true → In e.id (folders_that test s)
unfolding folders_that
folder_passes test s e i t =
    let id : In e.id (map (λ (d : FolderEntry). d.id) s.folders) = (In-map FolderEntry ℕ (λ d. d.id) e.id s.folders).1 (e, i, refl) in
    (In-order ℕ nat_lt e.id (filter test (map (λ (d : FolderEntry). d.id) s.folders))).1 (filter-In ℕ test e.id (map (λ (d : FolderEntry). d.id) s.folders) id t)

file_passes : (test : FileEntry → Bool) (s : Store) (e : FileEntry) → In e s.files → test e ≡ true → In e.id (files_that test s)
unfolding files_that
file_passes test s e i t =
    let id : In e.id (map (λ (d : FileEntry). d.id) (filter test s.files)) = (In-map FileEntry ℕ (λ d. d.id) e.id (filter test s.files)).1 (e, filter-In FileEntry test e s.files i t, refl) in
    (In-order ℕ nat_lt e.id (map (λ (d : FileEntry). d.id) (filter test s.files))).1 id

-- the visits of a folder, and of a file, in each part
entry_of : (s : Store) (e : FolderEntry) (v : Visit) → In e s.folders → In v (ToKey (edge 1 Owner (clear_of e.id)) ∷ ToKey (edge 3 (clear_of e.id) (sub_of e.id)) ∷ []) → In v (entry_visits s TheOwner)
unfolding entry_visits entry_folder_visits entry_edge is_entry
entry_of s e v i j =
    (In-append Visit v (entry_folder_visits s TheOwner) (entry_file_visits s TheOwner)).1 (inl
    ((In-flat_map ℕ Visit (λ f. ToKey (edge 1 Owner (clear_of f)) ∷ ToKey (edge 3 (clear_of f) (sub_of f)) ∷ []) v (folders_that (is_entry s TheOwner) s)).1
    (e.id, folder_passes (is_entry s TheOwner) s e i refl, j)))

allowed_of : (s : Store) (e : FolderEntry) (v : Visit) → In e s.folders → In v (ToKey (edge 4 (sub_of e.id) (back_of e.id)) ∷ ToKey (edge 5 (sub_of e.id) (files_of e.id)) ∷ []) → In v (allowed_visits s TheOwner)
unfolding allowed_visits allowed_to
allowed_of s e v i j =
    (In-flat_map ℕ Visit (λ f. ToKey (edge 4 (sub_of f) (back_of f)) ∷ ToKey (edge 5 (sub_of f) (files_of f)) ∷ []) v (folders_that (allowed_to s TheOwner) s)).1
    (e.id, folder_passes (allowed_to s TheOwner) s e i refl, j)

name_of : (s : Store) (e : FolderEntry) (v : Visit) → In e s.folders → In v (ToKey (edge 7 (back_of e.id) (data_of e.id)) ∷ ToName e.id ∷ []) → In v (name_visits s TheOwner)
unfolding name_visits named_to
name_of s e v i j =
    (In-flat_map ℕ Visit (λ f. ToKey (edge 7 (back_of f) (data_of f)) ∷ ToName f ∷ []) v (folders_that (named_to s TheOwner) s)).1
    (e.id, folder_passes (named_to s TheOwner) s e i refl, j)

file_of : (s : Store) (e : FileEntry) (v : Visit) → In e s.files → In v (ToKey (file_edge (folder_of_file s e.id) e.id) ∷ ToFile e.id ∷ []) → In v (file_visits s TheOwner (files_that (file_allowed_to s TheOwner) s))
unfolding file_visits into_file allowed_to file_allowed_to
file_of s e v i j =
    (In-flat_map ℕ Visit (λ x. ToKey (file_edge (folder_of_file s x) x) ∷ ToFile x ∷ []) v (files_that (file_allowed_to s TheOwner) s)).1
    (e.id, file_passes (file_allowed_to s TheOwner) s e i refl, j)

clearance_of : (s : Store) (e : FileEntry) → In e s.files → has_grants s (clear_number e.id) ≡ true → In (ToKey (edge 1 Owner (clear_of (clear_number e.id)))) (clearance_visits s)
unfolding clearance_visits
clearance_of s e i t =
    let test : FileEntry → Bool = λ d. has_grants s (clear_number d.id) in
    (In-map ℕ Visit (λ x. ToKey (edge 1 Owner (clear_of (clear_number x)))) (ToKey (edge 1 Owner (clear_of (clear_number e.id)))) (files_that test s)).1 (e.id, file_passes test s e i t, refl)

abbrev all_of : Store → List Visit
all_of s = all_visits s TheOwner ++ writing_visits s

in_left : (x : Visit) (xs ys : List Visit) → In x xs → In x (xs ++ ys)
in_left x xs ys i = (In-append Visit x xs ys).1 (inl i)

in_right : (x : Visit) (xs ys : List Visit) → In x ys → In x (xs ++ ys)
in_right x xs ys i = (In-append Visit x xs ys).1 (inr i)

-- a visit of each part is one of all
module _ (s : Store) (v : Visit) where
  abbrev entries : List Visit
  entries = entry_visits s TheOwner

  abbrev lowers : List Visit
  lowers = lower_visits s TheOwner

  abbrev insides : List Visit
  insides = allowed_visits s TheOwner

  abbrev uppers : List Visit
  uppers = upper_visits s TheOwner

  abbrev names : List Visit
  names = name_visits s TheOwner

  abbrev files : List Visit
  files = file_visits s TheOwner (files_that (file_allowed_to s TheOwner) s)

  in_tree : In v (entries ++ (lowers ++ (insides ++ (uppers ++ names)))) → In v (all_of s)
  unfolding all_visits visits_to_names
  in_tree i = in_left v (all_visits s TheOwner) (writing_visits s) (in_left v (entries ++ (lowers ++ (insides ++ (uppers ++ names)))) files i)

  in_entry : In v entries → In v (all_of s)
  in_entry i = in_tree (in_left v entries (lowers ++ (insides ++ (uppers ++ names))) i)

  in_allowed : In v insides → In v (all_of s)
  in_allowed i = in_tree (in_right v entries (lowers ++ (insides ++ (uppers ++ names))) (in_right v lowers (insides ++ (uppers ++ names)) (in_left v insides (uppers ++ names) i)))

  in_names : In v names → In v (all_of s)
  in_names i =
      in_tree (in_right v entries (lowers ++ (insides ++ (uppers ++ names))) (in_right v lowers (insides ++ (uppers ++ names)) (in_right v insides (uppers ++ names) (in_right v uppers names i))))

  in_files : In v files → In v (all_of s)
  unfolding all_visits
  in_files i = in_left v (all_visits s TheOwner) (writing_visits s) (in_right v (visits_to_names s TheOwner) files i)

  in_clearances : In v (clearance_visits s) → In v (all_of s)
  unfolding writing_visits
  in_clearances i = in_right v (all_visits s TheOwner) (writing_visits s) (in_right v (holder_visits s) (clearance_visits s) i)

-- every role that stands is opened, the holders' aside
role_open : (s : Store) (r : Reading) (o after : Opened) (role : Role) → visit_all r (all_of s) o ≡ Ok after → IsSome (key_of o.keys Owner) → ((h : ℕ) → role ≢ holder_role h) → HasRole s role → IsSome (key_of after.keys role)
unfolding edge file_edge holder_role clear_of sub_of back_of files_of data_of file_role
role_open s r o after Owner done first other has = (all_kept r (all_of s) o after done).keys Owner first
role_open s r o after (Holder h) done first other has = absurd (other h.0 refl)
role_open s r o after (Clear f) done first other has = ⊎_elim
    (λ (w : HasFolder s f.0).
    let v = edge 1 Owner (clear_of w.0.id) in
    subst (λ n. IsSome (key_of after.keys (clear_of n))) w.2 (edge_open r (all_of s) o after v done (in_entry s (ToKey v) (entry_of s w.0 (ToKey v) w.1 (inl refl)))))
    (λ (w : IsClearance s f.0).
    let c = w.0 in
    let v = edge 1 Owner (clear_of (clear_number c.0.id)) in
    subst (λ n. IsSome (key_of after.keys (clear_of n))) c.2 (edge_open r (all_of s) o after v done (in_clearances s (ToKey v) (clearance_of s c.0 c.1 (subst (λ n. has_grants s n ≡ true) (sym c.2) w.1)))))
    has
role_open s r o after (Sub f) done first other has =
    let v = edge 3 (clear_of has.0.id) (sub_of has.0.id) in
    subst (λ n. IsSome (key_of after.keys (sub_of n))) has.2 (edge_open r (all_of s) o after v done (in_entry s (ToKey v) (entry_of s has.0 (ToKey v) has.1 (inr (inl refl)))))
role_open s r o after (Back f) done first other has =
    let v = edge 4 (sub_of has.0.id) (back_of has.0.id) in
    subst (λ n. IsSome (key_of after.keys (back_of n))) has.2 (edge_open r (all_of s) o after v done (in_allowed s (ToKey v) (allowed_of s has.0 (ToKey v) has.1 (inl refl))))
role_open s r o after (Files f) done first other has =
    let v = edge 5 (sub_of has.0.id) (files_of has.0.id) in
    subst (λ n. IsSome (key_of after.keys (files_of n))) has.2 (edge_open r (all_of s) o after v done (in_allowed s (ToKey v) (allowed_of s has.0 (ToKey v) has.1 (inr (inl refl)))))
role_open s r o after (Data f) done first other has =
    let v = edge 7 (back_of has.0.id) (data_of has.0.id) in
    subst (λ n. IsSome (key_of after.keys (data_of n))) has.2 (edge_open r (all_of s) o after v done (in_names s (ToKey v) (name_of s has.0 (ToKey v) has.1 (inl refl))))
role_open s r o after (File x) done first other has =
    let v = file_edge (folder_of_file s has.0.id) has.0.id in
    subst (λ n. IsSome (key_of after.keys (file_role n))) has.2 (edge_open r (all_of s) o after v done (in_files s (ToKey v) (file_of s has.0 (ToKey v) has.1 (inl refl))))

-- ---- the store before the visits has no bytes

one_more_sized : (s : Store) (new : FileEntry) (x : FileEntry) → new.bytes ≡ [] → AreSized s → In x (s.files ++ new ∷ []) → length x.bytes ≤ most_file_bytes
one_more_sized s new x none sized i = ⊎_elim
    (λ u. sized x u)
    (λ v. ⊎_elim (λ (e : x ≡ new). let empty : length x.bytes ≡ 0 = ap (λ (z : FileEntry). length z.bytes) e ∙ ap length none in omega arith) (λ n. absurd n) v)
    ((In-append FileEntry x s.files (new ∷ [])).0 i)

told_sized : (s : Store) (note : Note) → AreSized s → AreSized (told_store s note)
unfolding told_store with_new_holder with_new_folder with_new_file with_folder with_file without_folder without_file without_grant root_store no_store
told_sized s Root sized x i = absurd i
told_sized s (NewHolder h check) sized x i = sized x i
told_sized s (NewFolder f p) sized x i = sized x i
told_sized s (NewFile n f) sized x i = one_more_sized s (record { id = s.files_made + 1; folder = f; name = []; bytes = [] }) x refl sized i
told_sized s (Rewrite n) sized x i = sized x i
told_sized s (NameFile n) sized x i = sized x i
told_sized s (NameFolder f) sized x i = sized x i
told_sized s (DropFile n) sized x i = sized x (In-filter FileEntry (λ e. not (e.id == n)) x s.files i).0
told_sized s (DropFolder f) sized x i = sized x i
told_sized s (ShiftFile n g) sized x i =
    let w = (In-map FileEntry FileEntry (λ e. cond (e.id == n) (record e { folder = g }) e) x s.files).0 i in
    subst (λ (z : FileEntry). length z.bytes ≤ most_file_bytes) (sym w.2)
    (elim (w.0.id == n) as (λ b. length (cond b (record w.0 { folder = g }) w.0).bytes ≤ most_file_bytes) [ true ↦ sized w.0 w.1 | false ↦ sized w.0 w.1 ])
told_sized s (ShiftFolder g q) sized x i = sized x i
told_sized s (Give h f) sized x i = sized x i
told_sized s (Take h f) sized x i = sized x i
told_sized s StrictRoot sized x i = absurd i
told_sized s Upgrade sized x i = sized x i

turns_sized : (turns : List Turn) (at : Stand) → AreSized at.store → AreSized (turns_stand at turns).store
unfolding turns_stand turn_stand told_stand
turns_sized [] at sized = sized
turns_sized (Began ∷ turns) at sized = turns_sized turns (turn_stand at Began) sized
turns_sized (Noted note ∷ turns) at sized = turns_sized turns (told_stand at note) (told_sized at.store note sized)

nothing_sized : AreSized nothing.store
unfolding nothing no_store
nothing_sized x i = absurd i

log_sized : (log : List PlainPlaced) (at : Stand) → folded nothing log ≡ Ok at → AreSized at.store
log_sized log at folds = subst (λ (z : Stand). AreSized z.store) (log_turns log nothing at folds).stands (turns_sized (turns_of log) nothing nothing_sized)

-- ---- the whole

present_stands : (log : List PlainPlaced) (at : Stand) → folded nothing log ≡ Ok at → folder_stands at.store 1 ≡ true → (role : Role) (n : ℕ) → newest at.keys.keys role ≡ Some n → HasRole at.store role
present_stands log at folds root role n newer = ((log_holds_then log at folds root).1.keys.keyed role).1 (n, newer)

module _ (log : List PlainPlaced) (at : Stand) (start after : Opened) (folds : folded nothing log ≡ Ok at) where
  abbrev reading : Reading
  reading = record { log = log; stand = at }

  pub keys_open : folder_stands at.store 1 ≡ true → IsSome (key_of start.keys Owner) → visit_all reading (all_of at.store) start ≡ Ok after
      → (role : Role) (n : ℕ) → newest at.keys.keys role ≡ Some n → ((h : ℕ) → role ≢ holder_role h) → IsSome (key_of after.keys role)
  keys_open root first done role n newer other = role_open at.store reading start after role done first other (present_stands log at folds root role n newer)

  pub holders_there : folder_stands at.store 1 ≡ true → start.store ≡ at.store → visit_all reading (all_of at.store) start ≡ Ok after
      → (h n : ℕ) → newest at.keys.keys (holder_role h) ≡ Some n → (e : HolderEntry) × In e after.store.holders × (e.number ≡ h)
  unfolding holder_role
  holders_there root same done h n newer =
      let has = present_stands log at folds root (holder_role h) n newer in
      let numbers = (all_kept reading (all_of at.store) start after done).numbers ∙ ap (λ (s : Store). map (λ (e : HolderEntry). e.number) s.holders) same in
      let i : In h (map (λ (e : HolderEntry). e.number) at.store.holders) = (In-map HolderEntry ℕ (λ e. e.number) h at.store.holders).1 (has.0, has.1, sym has.2) in
      let w = (In-map HolderEntry ℕ (λ e. e.number) h after.store.holders).0 (subst (λ ns. In h ns) (sym numbers) i) in
      (w.0, w.1, sym w.2)

  pub files_open : start.store ≡ at.store → visit_all reading (all_of at.store) start ≡ Ok after → AreSized after.store
  files_open same done = (all_kept reading (all_of at.store) start after done).sizes (subst AreSized (sym same) (log_sized log at folds))
