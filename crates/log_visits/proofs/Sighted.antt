-- What code looks up of a folder is what whoever reads may see of it.
use Rattle.std.proofs.Common.{◌≡◌, ℕ, Bool, true, false, cond, not, ◌&&◌, ◌||◌, ◌==◌, ◌↔◌, List, [], ◌∷◌, ◌++◌, map, filter, Option, Some, None, inl, inr, ⊎_elim, refl, sym, ap, subst, ◌∙◌}
use Rattle.std.specs.Prelude.{IfOk, IsTrue, OnOk, Result, Ok, Err}
use Rattle.std.specs.Global.{Vec}
use Rattle.std.specs.HashSet.{HashSet, contains}
use Rattle.std.specs.List.{list_any}
use Rattle.std.proofs.lemmas.Bool.{and_from, and_parts, eqb-true, eq-eqb, or_cases, or_left, or_right, not_from_false, cases_Bool}
use Rattle.cry_base.specs.Clearances.{clear_number}
use Rattle.cry_base.specs.Sets.{In, Path}
use Rattle.cry_base.specs.Store.{Store, FileEntry, FolderEntry, GrantEntry, backwards, depth_of, folder_entry, folder_names, folder_node, has_grant, is_within, node_names, way_to_root}
use Rattle.cry_base.specs.declared.ids.FolderId.{FolderId}
use Rattle.cry_base.specs.declared.ids.HolderId.{HolderId}
use Rattle.cry_base.specs.declared.memory.OutOfMemory.{OutOfMemory}
use Rattle.cry_base.proofs.Members.{In-any, In-map}
use Rattle.folder_nodes.specs.Bare.{folder_of_row}
use Rattle.folder_nodes.specs.declared.rows.FolderRow.{FolderRow}
use Rattle.folder_nodes.specs.Trees.{IsTree}
use Rattle.folder_nodes.proofs.Treed.{within_on}
use Rattle.grant_book.specs.Granted.{folders_of, is_grant}
use Rattle.log_visits.specs.declared.sights.Sight.{Sight}
use Rattle.log_visits.specs.declared.sights.Viewer.{Viewer}
use Rattle.log_visits.specs.declared.sights.Viewer.TheVariants as viewers
use Rattle.log_visits.specs.Entries.{may_all}
use Rattle.log_visits.specs.Sights.{AreSights, MayRead, holders_sight, is_above, is_within_place, owners_sight, plain_viewer, same_number, sight_of}
use Rattle.log_visits.specs.Visits.{is_entry}
use Rattle.log_visits.proofs.ListedVisits.{map_alike, same_bool}
use Rattle.public_fold.specs.Journal.{Stand}
use Rattle.public_fold.specs.Standing.{IsSeenAs, PublicView}
use Rattle.role_graph.specs.PublicStore.{GrantsStand, allows, granted_place, is_at_or_below, names, public_store}
use Rattle.role_graph.specs.Rights.{IsAllowed, IsGranted, allowed, allowed_to, downs, named, named_to, ups}
use Rattle.role_graph.specs.RightsByReach.{HasClearNumber, HasFolder}
use Rattle.role_graph.specs.Rights.Who.{TheOwner, TheHolder}
use Rattle.role_graph.proofs.Adding.{map_map}
use Rattle.role_graph.proofs.Granting.{allowed_told, named_told}
use Rattle.role_graph.proofs.Standing.{allowed_is, found_row, named_is}

-- ---- tests over lists

any_told : (X : Type 0) (p : X → Bool) (xs : List X) → IsTrue (list_any p xs) ↔ ((x : X) × In x xs × IsTrue (p x))
any_told X p xs = In-any X p (λ x. IsTrue (p x)) (λ x. (λ t. t, λ t. t)) xs

any_alike : (X : Type 0) (p : X → Bool) (xs ys : List X) → ((x : X) → In x xs ↔ In x ys) → list_any p xs ≡ list_any p ys
any_alike X p xs ys same =
    same_bool (list_any p xs) (list_any p ys)
    (λ t. let w = (any_told X p xs).0 t in (any_told X p ys).1 (w.0, (same w.0).0 w.1, w.2))
    (λ t. let w = (any_told X p ys).0 t in (any_told X p xs).1 (w.0, (same w.0).1 w.1, w.2))

pub any_mapped : (X Y : Type 0) (p : Y → Bool) (f : X → Y) (xs : List X) → list_any p (map f xs) ≡ list_any (λ x. p (f x)) xs
any_mapped X Y p f [] = refl
any_mapped X Y p f (x ∷ xs) = ap (λ b. p (f x) || b) (any_mapped X Y p f xs)

any_joined : (X : Type 0) (p : X → Bool) (xs ys : List X) → list_any p (xs ++ ys) ≡ (list_any p xs || list_any p ys)
any_joined X p [] ys = refl
any_joined X p (x ∷ xs) ys = ap (λ b. p x || b) (any_joined X p xs ys) ∙ or_joins (p x) (list_any p xs) (list_any p ys)
  where
    or_joins : (a b c : Bool) → (a || (b || c)) ≡ ((a || b) || c)
    or_joins true b c = refl
    or_joins false b c = refl

or_turned : (a b : Bool) → (a || b) ≡ (b || a)
or_turned true true = refl
or_turned true false = refl
or_turned false true = refl
or_turned false false = refl

any_backwards : (X : Type 0) (p : X → Bool) (xs : List X) → list_any p (backwards xs) ≡ list_any p xs
unfolding backwards
any_backwards X p [] = refl
any_backwards X p (x ∷ xs) =
    any_joined X p (backwards xs) (x ∷ [])
    ∙ ap (λ b. b || (p x || false)) (any_backwards X p xs)
    ∙ or_turned (list_any p xs) (p x || false)
    ∙ ap (λ b. b || list_any p xs) (or_none (p x))
  where
    or_none : (a : Bool) → (a || false) ≡ a
    or_none true = refl
    or_none false = refl

-- a test of the numbers on a way, from the root down or from the folder up
pub any_on_way : (p : ℕ → Bool) (s : Store) (f : ℕ) (way : List FolderId) → map (λ (x : FolderId). x.0) way ≡ backwards (map (λ (e : FolderEntry). e.id) (way_to_root s f)) →
    list_any (λ (x : FolderId). p x.0) way ≡ list_any (λ (e : FolderEntry). p e.id) (way_to_root s f)
any_on_way p s f way is =
    sym (any_mapped FolderId ℕ p (λ x. x.0) way)
    ∙ ap (list_any p) is
    ∙ any_backwards ℕ p (map (λ (e : FolderEntry). e.id) (way_to_root s f))
    ∙ any_mapped FolderEntry ℕ p (λ e. e.id) (way_to_root s f)

-- ---- what is seen of a store is the state's

seen_downs : (v : PublicView) (at : Stand) → IsSeenAs v at → downs at.store ≡ downs (public_store v.tree v.pairs)
unfolding downs
seen_downs v at seen = ap (λ (s : Store). map (λ (e : FolderEntry). (e.parent, e.id)) s.folders) seen.store

seen_ups : (v : PublicView) (at : Stand) → IsSeenAs v at → ups at.store ≡ ups (public_store v.tree v.pairs)
unfolding ups
seen_ups v at seen = ap (λ (s : Store). map (λ (e : FolderEntry). (e.id, e.parent)) s.folders ++ map (λ (e : FileEntry). (clear_number e.id, e.folder)) s.files) seen.store

seen_depth : (v : PublicView) (at : Stand) (f : ℕ) → IsSeenAs v at → depth_of v.tree (folder_node f) ≡ depth_of at.store (folder_node f)
unfolding depth_of node_names folder_names way_to_root folder_node
seen_depth v at f seen = sym (ap (λ (s : Store). depth_of s (folder_node f)) seen.store)

seen_granted : (v : PublicView) (at : Stand) (h g : ℕ) → IsSeenAs v at → IsGranted (public_store v.tree v.pairs) h g ↔ IsGranted at.store h g
seen_granted v at h g seen = seen.grants.same (record { holder = h; folder = g })

seen_allowed : (v : PublicView) (at : Stand) (h f : ℕ) → IsSeenAs v at → IsAllowed (public_store v.tree v.pairs) h f ↔ IsAllowed at.store h f
seen_allowed v at h f seen =
    let same = seen_downs v at seen in (
      λ a. (a.0, (seen_granted v at h a.0 seen).0 a.1, subst (λ es. Path es a.0 f) (sym same) a.2),
      λ a. (a.0, (seen_granted v at h a.0 seen).1 a.1, subst (λ es. Path es a.0 f) same a.2),
    )

seen_above : (v : PublicView) (at : Stand) (h f : ℕ) → IsSeenAs v at →
    ((g : ℕ) × IsGranted (public_store v.tree v.pairs) h g × Path (ups (public_store v.tree v.pairs)) g f) ↔ ((g : ℕ) × IsGranted at.store h g × Path (ups at.store) g f)
seen_above v at h f seen =
    let same = seen_ups v at seen in (
      λ a. (a.0, (seen_granted v at h a.0 seen).0 a.1, subst (λ es. Path es a.0 f) (sym same) a.2),
      λ a. (a.0, (seen_granted v at h a.0 seen).1 a.1, subst (λ es. Path es a.0 f) same a.2),
    )

pub seen_stands : (v : PublicView) (at : Stand) → IsSeenAs v at → GrantsStand at.store → GrantsStand (public_store v.tree v.pairs)
seen_stands v at seen stand =
    let folders : at.store.folders ≡ v.tree.folders = ap (λ (s : Store). s.folders) seen.store in
    let files : at.store.files ≡ v.tree.files = ap (λ (s : Store). s.files) seen.store in
    record {
      granted_stands = λ g i. ⊎_elim
          (λ (w : HasFolder at.store g.folder). inl (w.0, subst (λ (es : List FolderEntry). In w.0 es) folders w.1, w.2))
          (λ (w : HasClearNumber at.store g.folder). inr (w.0, subst (λ (es : List FileEntry). In w.0 es) files w.1, w.2))
          (stand.granted_stands g ((seen.grants.same g).0 i));
      folders_below = λ e i. stand.folders_below e (subst (λ (es : List FolderEntry). In e es) (sym folders) i);
    }

-- ---- rights

-- a grant on the folder, or on one above it, is on the way up
allows_way : (s : Store) (h f : ℕ) (g : GrantEntry) → IsTree s → HasFolder s f → allows s h f g ≡ (g.holder == h && is_within s f g.folder)
unfolding allows folder_entry
allows_way s h f g tree stands =
    ap (λ b. g.holder == h && b) (same_bool (g.folder == f || (not (f == g.folder) && is_within s f g.folder)) (is_within s f g.folder)
    (λ t. ⊎_elim
    (λ same. subst (λ k. is_within s f k ≡ true) (sym (eqb-true g.folder f same)) own)
    (λ both. (and_parts (not (f == g.folder)) (is_within s f g.folder) both).1)
    (or_cases (g.folder == f) (not (f == g.folder) && is_within s f g.folder) t))
    (λ t. ⊎_elim
    (λ (e : (f == g.folder) ≡ true). or_left (g.folder == f) (not (f == g.folder) && is_within s f g.folder) (eq-eqb g.folder f (sym (eqb-true f g.folder e))))
    (λ (n : (f == g.folder) ≡ false). or_right (g.folder == f) (not (f == g.folder) && is_within s f g.folder) (and_from (not (f == g.folder)) (is_within s f g.folder) (not_from_false (f == g.folder) n) t))
    (cases_Bool (f == g.folder))))
  where
    found : folder_entry s f ≡ Some stands.0
    found = subst (λ k. folder_entry s k ≡ Some stands.0) stands.2 (found_row s.folders tree.folders_ascend stands.0 stands.1)

    own : is_within s f f ≡ true
    own = within_on s tree f f stands.0 found ∙ or_left (stands.0.id == f) (is_within s stands.0.parent f) (eq-eqb stands.0.id f stands.2)

test_alike : (X : Type 0) (p q : X → Bool) (xs : List X) → ((x : X) → p x ≡ q x) → list_any p xs ≡ list_any q xs
test_alike X p q [] same = refl
test_alike X p q (x ∷ xs) same = ap (λ b. b || list_any p xs) (same x) ∙ ap (λ b. q x || b) (test_alike X p q xs same)

-- a folder on the way up has a grant, or: a grant is on a folder on the way up
way_granted : (s : Store) (pairs : List GrantEntry) (h f : ℕ) →
    list_any (λ (e : FolderEntry). list_any (is_grant h e.id) pairs) (way_to_root s f) ≡ list_any (λ (g : GrantEntry). g.holder == h && is_within s f g.folder) pairs
unfolding is_within
way_granted s pairs h f =
    let up = way_to_root s f in
    let here : FolderEntry → Bool = λ e. list_any (is_grant h e.id) pairs in
    let there : GrantEntry → Bool = λ g. g.holder == h && list_any (λ (e : FolderEntry). e.id == g.folder) up in
    same_bool (list_any here up) (list_any there pairs)
    (λ t.
    let w = (any_told FolderEntry here up).0 t in
    let u = (any_told GrantEntry (is_grant h w.0.id) pairs).0 w.2 in
    let both = and_parts (u.0.holder == h) (u.0.folder == w.0.id) u.2 in
    (any_told GrantEntry there pairs).1 (
      u.0,
      u.1,
      and_from (u.0.holder == h) (list_any (λ (e : FolderEntry). e.id == u.0.folder) up) both.0
          ((any_told FolderEntry (λ e. e.id == u.0.folder) up).1 (w.0, w.1, eq-eqb w.0.id u.0.folder (sym (eqb-true u.0.folder w.0.id both.1)))),
    ))
    (λ t.
    let w = (any_told GrantEntry there pairs).0 t in
    let both = and_parts (w.0.holder == h) (list_any (λ (e : FolderEntry). e.id == w.0.folder) up) w.2 in
    let u = (any_told FolderEntry (λ e. e.id == w.0.folder) up).0 both.1 in
    (any_told FolderEntry here up).1 (
      u.0,
      u.1,
      (any_told GrantEntry (is_grant h u.0.id) pairs).1 (w.0, w.1, and_from (w.0.holder == h) (w.0.folder == u.0.id) both.0 (eq-eqb w.0.folder u.0.id (sym (eqb-true u.0.id w.0.folder u.2)))),
    ))

-- what a holder may see of a folder that stands
pub all_allowed : (v : PublicView) (at : Stand) (h f : ℕ) → IsTree v.tree → IsSeenAs v at → GrantsStand at.store → HasFolder v.tree f → may_all v.tree v.pairs h f ≡ allowed at.store h f
all_allowed v at h f tree seen stand stands =
    let grants = seen_stands v at seen stand in
    let told = allowed_is v.tree v.pairs tree grants h f in
    way_granted v.tree v.pairs h f
    ∙ sym (test_alike GrantEntry (allows v.tree h f) (λ g. g.holder == h && is_within v.tree f g.folder) v.pairs (λ g. allows_way v.tree h f g tree stands))
    ∙ same_bool (list_any (allows v.tree h f) v.pairs) (allowed at.store h f)
    (λ t. (allowed_told at.store h f).1 ((seen_allowed v at h f seen).0 (told.0 t)))
    (λ t. told.1 ((seen_allowed v at h f seen).1 ((allowed_told at.store h f).0 t)))

-- a grant of the holder's is on the folder, below it, or on a file in one of these
names_way : (s : Store) (h f : ℕ) (g : GrantEntry) → IsTree s → HasFolder s f → names s h f g ≡ (g.holder == h && is_above s f (record { 0 = g.folder }))
unfolding names folder_entry
names_way s h f g tree stands = ap (λ b. g.holder == h && b) (by_place (granted_place s g.folder))
  where
    found : folder_entry s f ≡ Some stands.0
    found = subst (λ k. folder_entry s k ≡ Some stands.0) stands.2 (found_row s.folders tree.folders_ascend stands.0 stands.1)

    own : is_within s f f ≡ true
    own = within_on s tree f f stands.0 found ∙ or_left (stands.0.id == f) (is_within s stands.0.parent f) (eq-eqb stands.0.id f stands.2)

    or_other : (a b : Bool) → (a || (not a && b)) ≡ (a || b)
    or_other true b = refl
    or_other false b = refl

    by_place : (o : Option FolderId) → is_at_or_below s f o ≡ is_within_place s f o
    by_place None = refl
    by_place (Some p) =
        or_other (p.0 == f) (is_within s p.0 f)
        ∙ same_bool (p.0 == f || is_within s p.0 f) (is_within s p.0 f)
        (λ t. ⊎_elim (λ same. subst (λ k. is_within s k f ≡ true) (sym (eqb-true p.0 f same)) own) (λ w. w) (or_cases (p.0 == f) (is_within s p.0 f) t))
        (λ t. or_right (p.0 == f) (is_within s p.0 f) t)

-- the folders that are granted to the holder
of_holder : (pairs : List GrantEntry) (h : ℕ) (p : ℕ → Bool) → list_any (λ (g : FolderId). p g.0) (folders_of pairs h) ≡ list_any (λ (g : GrantEntry). g.holder == h && p g.folder) pairs
of_holder [] h p = refl
of_holder (g ∷ pairs) h p =
    elim (g.holder == h) as (λ b. list_any (λ (x : FolderId). p x.0) (map (λ (e : GrantEntry). let x : FolderId = record { 0 = e.folder } in x) (cond b (g ∷ filter (λ (e : GrantEntry). e.holder == h) pairs) (filter (λ (e : GrantEntry). e.holder == h) pairs)))
    ≡ ((b && p g.folder) || list_any (λ (e : GrantEntry). e.holder == h && p e.folder) pairs)) [
      | true ↦ ap (λ b. p g.folder || b) (of_holder pairs h p)
      | false ↦ of_holder pairs h p
    ]

above_granted : (v : PublicView) (at : Stand) (h f : ℕ) → IsTree v.tree → IsSeenAs v at → GrantsStand at.store → HasFolder v.tree f →
    IsTrue (list_any (is_above v.tree f) (folders_of v.pairs h)) ↔ ((g : ℕ) × IsGranted at.store h g × Path (ups at.store) g f)
above_granted v at h f tree seen stand stands =
    let grants = seen_stands v at seen stand in
    let told = named_is v.tree v.pairs tree grants h f stands in
    let same : list_any (is_above v.tree f) (folders_of v.pairs h) ≡ list_any (names v.tree h f) v.pairs =
    of_holder v.pairs h (λ k. is_above v.tree f (record { 0 = k }))
    ∙ sym (test_alike GrantEntry (names v.tree h f) (λ g. g.holder == h && is_above v.tree f (record { 0 = g.folder })) v.pairs (λ g. names_way v.tree h f g tree stands))
    in (
      λ t. (seen_above v at h f seen).0 (told.0 (sym same ∙ t)),
      λ w. same ∙ told.1 ((seen_above v at h f seen).1 w),
    )

may_name : (v : PublicView) (at : Stand) (h f : ℕ) → IsTree v.tree → IsSeenAs v at → GrantsStand at.store → HasFolder v.tree f →
    (allowed at.store h f || list_any (is_above v.tree f) (folders_of v.pairs h)) ≡ named at.store h f
may_name v at h f tree seen stand stands =
    let up = list_any (is_above v.tree f) (folders_of v.pairs h) in
    let told = above_granted v at h f tree seen stand stands in
    same_bool (allowed at.store h f || up) (named at.store h f)
    (λ t. (named_told at.store h f).1 (⊎_elim (λ a. inl ((allowed_told at.store h f).0 a)) (λ b. inr (told.0 b)) (or_cases (allowed at.store h f) up t)))
    (λ t. ⊎_elim
    (λ a. or_left (allowed at.store h f) up ((allowed_told at.store h f).1 a))
    (λ b. or_right (allowed at.store h f) up (told.1 b))
    ((named_told at.store h f).0 t))

pub seen_entry : (v : PublicView) (at : Stand) (h f : ℕ) → IsSeenAs v at → list_any (is_grant h f) v.pairs ≡ has_grant at.store h f
unfolding has_grant
seen_entry v at h f seen = any_alike GrantEntry (is_grant h f) v.pairs at.store.grants seen.grants.same

-- ---- all folders

row_stands : (v : PublicView) (rows : List FolderRow) (r : FolderRow) → map folder_of_row rows ≡ v.tree.folders → In r rows → HasFolder v.tree r.id.0
row_stands v rows r is i =
    (folder_of_row r, subst (In (folder_of_row r)) is ((In-map FolderRow FolderEntry folder_of_row (folder_of_row r) rows).1 (r, i, refl)), refl)

holders_one : (v : PublicView) (at : Stand) (h : ℕ) (r : FolderRow) → IsTree v.tree → IsSeenAs v at → GrantsStand at.store → HasFolder v.tree r.id.0 →
    holders_sight v.tree v.pairs h r ≡ sight_of at.store (TheHolder h) (folder_of_row r)
unfolding is_entry allowed_to named_to
holders_one v at h r tree seen stand stands =
    let f = r.id.0 in
    let all = all_allowed v at h f tree seen stand stands in
    rw (seen_depth v at f seen, seen_entry v at h f seen, all, may_name v at h f tree seen stand stands) refl

owners_one : (v : PublicView) (at : Stand) (r : FolderRow) → IsSeenAs v at → owners_sight v.tree r ≡ sight_of at.store TheOwner (folder_of_row r)
unfolding is_entry allowed_to named_to
owners_one v at r seen = rw (seen_depth v at r.id.0 seen) refl

all_told : (v : PublicView) (at : Stand) (rows : List FolderRow) → map folder_of_row rows ≡ v.tree.folders → IsSeenAs v at → (g : FolderEntry → Sight) → map (λ r. g (folder_of_row r)) rows ≡ map g at.store.folders
all_told v at rows is seen g =
    sym (map_map FolderRow FolderEntry Sight g folder_of_row rows) ∙ ap (map g) (is ∙ sym (ap (λ (s : Store). s.folders) seen.store))

pub holders_told : (v : PublicView) (at : Stand) (h : ℕ) (rows : List FolderRow) (sights : List Sight) → map folder_of_row rows ≡ v.tree.folders → IsTree v.tree → IsSeenAs v at → GrantsStand at.store →
    sights ≡ map (holders_sight v.tree v.pairs h) rows → AreSights at.store (TheHolder h) sights
holders_told v at h rows sights is tree seen stand made =
    made
    ∙ map_alike FolderRow Sight (holders_sight v.tree v.pairs h) (λ r. sight_of at.store (TheHolder h) (folder_of_row r)) rows (λ r i. holders_one v at h r tree seen stand (row_stands v rows r is i))
    ∙ all_told v at rows is seen (sight_of at.store (TheHolder h))

pub owners_told : (v : PublicView) (at : Stand) (rows : List FolderRow) (sights : List Sight) → map folder_of_row rows ≡ v.tree.folders → IsSeenAs v at →
    sights ≡ map (owners_sight v.tree) rows → AreSights at.store TheOwner sights
owners_told v at rows sights is seen made =
    made
    ∙ map_alike FolderRow Sight (owners_sight v.tree) (λ r. sight_of at.store TheOwner (folder_of_row r)) rows (λ r i. owners_one v at r seen)
    ∙ all_told v at rows is seen (sight_of at.store TheOwner)

-- ---- sets of numbers

-- a way that is noted
pub way_noted : {S : Type 0} (s : Store) (folder : ℕ) (way items : List FolderId) (old new : HashSet ℕ S) (result : Result (Unit {0}) OutOfMemory) →
    map (λ (x : FolderId). x.0) way ≡ backwards (map (λ (e : FolderEntry). e.id) (way_to_root s folder)) → items ≡ way →
    OnOk result ((f : ℕ) → contains same_number new f ≡ (contains same_number old f || list_any (λ (x : FolderId). x.0 == f) items)) →
    OnOk result ((f : ℕ) → contains same_number new f ≡ (contains same_number old f || is_within s folder f))
unfolding is_within
way_noted s folder way items old new (Ok u) is same noted = λ f.
    noted f ∙ ap (λ b. contains same_number old f || b) (ap (λ l. list_any (λ (x : FolderId). x.0 == f) l) same ∙ any_on_way (λ k. k == f) s folder way is)
way_noted s folder way items old new (Err e) is same noted = tt

-- so of a grant, by the folder where it is
pub place_noted : {S : Type 0} (tree : Store) (number folder : FolderId) (place : Option FolderId) (old new : HashSet ℕ S) (result : Result (Unit {0}) OutOfMemory) → place ≡ granted_place tree number.0 → place ≡ Some folder →
    OnOk result ((f : ℕ) → contains same_number new f ≡ (contains same_number old f || is_within tree folder.0 f)) →
    OnOk result ((f : ℕ) → contains same_number new f ≡ (contains same_number old f || is_above tree f number))
place_noted tree number folder place old new (Ok u) is some noted = λ f. noted f ∙ ap (λ o. contains same_number old f || is_within_place tree f o) (sym some ∙ is)
place_noted tree number folder place old new (Err e) is some noted = tt

pub no_place : {S : Type 0} (tree : Store) (number : FolderId) (place : Option FolderId) (old : HashSet ℕ S) → place ≡ granted_place tree number.0 → place ≡ None →
    (f : ℕ) → contains same_number old f ≡ (contains same_number old f || is_above tree f number)
no_place tree number place old is none = λ f. or_none (contains same_number old f) ∙ ap (λ o. contains same_number old f || is_within_place tree f o) (sym none ∙ is)
  where
    or_none : (a : Bool) → a ≡ (a || false)
    or_none true = refl
    or_none false = refl

-- ---- what is listed

pub owners_listed : {E : Type 0} (v : PublicView) (tree : Store) (viewer : Viewer) (rows : List FolderRow) (result : Result (Vec Sight) E) → viewer ≡ viewers.Owner → tree ≡ v.tree → map folder_of_row rows ≡ tree.folders →
    IfOk result (λ l. l.items ≡ map (owners_sight tree) rows) →
    IfOk result (λ l. (at : Stand) → IsSeenAs v at → MayRead at.store (plain_viewer viewer) → AreSights at.store (plain_viewer viewer) l.items)
owners_listed v tree viewer rows (Ok l) is same are made = λ at seen may.
    subst (λ (x : Viewer). AreSights at.store (plain_viewer x) l.items) (sym is)
    (owners_told v at rows l.items (are ∙ ap (λ (t : Store). t.folders) same) seen (made ∙ ap (λ (t : Store). map (owners_sight t) rows) same))
owners_listed v tree viewer rows (Err e) is same are made = tt

pub holders_listed : {E : Type 0} (v : PublicView) (tree : Store) (pairs : List GrantEntry) (viewer : Viewer) (h : HolderId) (rows : List FolderRow) (result : Result (Vec Sight) E) → viewer ≡ viewers.Holder h → tree ≡ v.tree →
    pairs ≡ v.pairs → IsTree tree → map folder_of_row rows ≡ tree.folders → IfOk result (λ l. l.items ≡ map (holders_sight tree pairs h.0) rows) →
    IfOk result (λ l. (at : Stand) → IsSeenAs v at → MayRead at.store (plain_viewer viewer) → AreSights at.store (plain_viewer viewer) l.items)
holders_listed v tree pairs viewer h rows (Ok l) is same alike tree_of are made = λ at seen may.
    subst (λ (x : Viewer). AreSights at.store (plain_viewer x) l.items) (sym is)
    (holders_told v at h.0 rows l.items (are ∙ ap (λ (t : Store). t.folders) same) (subst IsTree same tree_of) seen (subst (λ (x : Viewer). MayRead at.store (plain_viewer x)) is may)
    (made ∙ ap (λ (t : Store). map (holders_sight t pairs h.0) rows) same ∙ ap (λ gs. map (holders_sight v.tree gs h.0) rows) alike))
holders_listed v tree pairs viewer h rows (Err e) is same alike tree_of are made = tt

-- whether all in a folder may be read, from the way down to it
pub all_on_way : (tree : Store) (pairs : List GrantEntry) (h f : ℕ) (way items : List FolderId) (is : Bool) →
    map (λ (x : FolderId). x.0) way ≡ backwards (map (λ (e : FolderEntry). e.id) (way_to_root tree f)) → items ≡ way →
    is ≡ list_any (λ (x : FolderId). list_any (is_grant h x.0) pairs) items → is ≡ may_all tree pairs h f
all_on_way tree pairs h f way items is down same told =
    told ∙ ap (λ l. list_any (λ (x : FolderId). list_any (is_grant h x.0) pairs) l) same ∙ any_on_way (λ k. list_any (is_grant h k) pairs) tree f way down

pub holders_made : (tree : Store) (pairs : List GrantEntry) (h : ℕ) (r : FolderRow) (made : Sight) (down : Bool) →
    made.folder ≡ r.id → made.parent ≡ r.parent → made.depth ≡ depth_of tree (folder_node r.id.0) → made.entry ≡ list_any (is_grant h r.id.0) pairs →
    made.allowed ≡ may_all tree pairs h r.id.0 → down ≡ list_any (is_above tree r.id.0) (folders_of pairs h) → made.named ≡ (made.allowed || down) →
    made ≡ holders_sight tree pairs h r
holders_made tree pairs h r made down folder parent depth entry all down_is named =
    let name : made.named ≡ (may_all tree pairs h r.id.0 || list_any (is_above tree r.id.0) (folders_of pairs h)) =
    named ∙ ap (λ b. b || down) all ∙ ap (λ b. may_all tree pairs h r.id.0 || b) down_is
    in
    λ i. record { folder = folder i; parent = parent i; depth = depth i; entry = entry i; allowed = all i; named = name i }
