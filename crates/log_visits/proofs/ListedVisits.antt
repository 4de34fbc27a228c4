-- The visits of whoever reads, from what may be seen of each folder.
use Rattle.std.proofs.Common.{◌≡◌, ℕ, ◌-◌, ◌<◌, ◌≤◌, Bool, true, false, not, ◌&&◌, ◌||◌, ◌==◌, cond, List, [], ◌∷◌, ◌++◌, get_or, map, length, take, ◌+◌, filter, find, Option, None, Some, inl, inr, ⊎_elim, refl, sym, ap, subst, ◌∙◌, arith, append_assoc}
use Rattle.std.specs.Prelude.{IsTrue, is_some, nat_lt, option_map}
use Rattle.std.specs.HashMap.{HashMap, get}
use Rattle.std.specs.Map.{lookup}
use Rattle.std.specs.List.{AllByRecursion, flat_map}
use Rattle.std.proofs.lemmas.Bool.{eqb-true, eq-eqb, ltb-true, lt-ltb, false≢true}
use Rattle.std.proofs.lemmas.List.{append-nil, map-append, take_more}
use Rattle.std.proofs.lemmas.List.Kept.{AllPairs-filter}
use Rattle.cry_base.specs.Sets.{In}
use Rattle.cry_base.specs.Clearances.{clear_number}
use Rattle.cry_base.specs.Store.{Store, FileEntry, FolderEntry, depth_of, folder_entry, folder_node, way_to_root}
use Rattle.cry_base.specs.declared.ids.FolderId.{FolderId}
use Rattle.cry_base.specs.declared.roles.Edge.{Edge}
use Rattle.cry_base.specs.declared.roles.Role.{Role}
use Rattle.cry_base.specs.declared.roles.Role.TheVariants.{Owner, Clear, Sub, Back, Files, Data}
use Rattle.cry_base.proofs.Members.{In-filter, In-map}
use Rattle.folder_nodes.specs.Trees.{IsTree}
use Rattle.folder_nodes.proofs.Climbing.{levels_few}
use Rattle.folder_nodes.proofs.Treed.{depth_told}
use Rattle.log_visits.specs.declared.entry_files.EntryFile.{EntryFile}
use Rattle.log_visits.specs.declared.sights.Sight.{Sight}
use Rattle.log_visits.specs.declared.sights.Viewer.{Viewer}
use Rattle.log_visits.specs.declared.sights.Viewer.TheVariants as viewers
use Rattle.log_visits.specs.declared.visit_list.Part.{Part}
use Rattle.log_visits.specs.declared.visit_list.Part.TheVariants.{Entry, Ways, Title}
use Rattle.log_visits.specs.declared.visit_list.Visit.{Visit as Listed}
use Rattle.log_visits.specs.Entries.{AreEntryFiles, entry_of}
use Rattle.log_visits.specs.Listing.{AreFirst, child_edges, edges_up, entry_file_link, entry_link, entry_up, folder_part, from_below, from_parent, has_part, leads_up, listed_to_names, part_of, up_by}
use Rattle.log_visits.specs.Opening.{IsFor, Tells, is_no_holders, plain_visit}
use Rattle.log_visits.specs.Sights.{AreSights, is_child, is_deeper, is_lower, is_shallower, is_upper, plain_viewer, same_number, sight_of}
use Rattle.log_visits.specs.Visits as spec
use Rattle.log_visits.specs.Visits.{Visit, files_that, folders_that, is_entry, is_entry_file, entry_edge, entry_file_visits, entry_folder_visits, entry_visits, lower_visits, allowed_visits, visit_from, upper_visit, upper_visits, name_visits, visits_to_names, is_higher}
use Rattle.log_visits.specs.Visits.Visit.{ToKey, ToName}
use Rattle.log_visits.proofs.InOrder.{order_mapped}
use Rattle.log_visits.proofs.OwnerVisits.{both_all, each_all, flat_alike, listed_plainly, ordered}
use Rattle.key_links.specs.Ended.{kind_from, kind_to, role_with, row_numbered}
use Rattle.move_plan.specs.Change.{parent_of_folder}
use Rattle.role_graph.specs.Edges.{edge, grant_edge, in_order}
use Rattle.role_graph.specs.Rights.{Who, allowed_to, named_to}
use Rattle.role_graph.specs.Roles.{holder_role, clear_of, sub_of, back_of, files_of, data_of, role_id}
use Rattle.role_graph.proofs.Adding.{flat_added, flat_map_map, map_map}
use Rattle.role_graph.proofs.Edging.{In-order}
use Rattle.role_graph.proofs.Standing.{found_row}

-- ---- lists

pub filter_mapped : (X Y : Type 0) (p : Y → Bool) (f : X → Y) (xs : List X) → filter p (map f xs) ≡ map f (filter (λ x. p (f x)) xs)
filter_mapped X Y p f [] = refl
filter_mapped X Y p f (x ∷ xs) =
    ap (λ l. cond (p (f x)) (f x ∷ l) l) (filter_mapped X Y p f xs)
    ∙ elim (p (f x)) as (λ b. cond b (f x ∷ map f (filter (λ z. p (f z)) xs)) (map f (filter (λ z. p (f z)) xs)) ≡ map f (cond b (x ∷ filter (λ z. p (f z)) xs) (filter (λ z. p (f z)) xs))) [ true ↦ refl | false ↦ refl ]

pub filter_alike : (X : Type 0) (p q : X → Bool) (xs : List X) → ((x : X) → In x xs → p x ≡ q x) → filter p xs ≡ filter q xs
filter_alike X p q [] same = refl
filter_alike X p q (x ∷ xs) same =
    ap (λ b. cond b (x ∷ filter p xs) (filter p xs)) (same x (inl refl)) ∙ ap (λ l. cond (q x) (x ∷ l) l) (filter_alike X p q xs (λ y i. same y (inr i)))

filter_twice : (X : Type 0) (p q : X → Bool) (xs : List X) → filter (λ x. p x && q x) xs ≡ filter q (filter p xs)
filter_twice X p q [] = refl
filter_twice X p q (x ∷ xs) =
    ap (λ l. cond (p x && q x) (x ∷ l) l) (filter_twice X p q xs)
    ∙ elim (p x) as (λ b. cond (b && q x) (x ∷ filter q (filter p xs)) (filter q (filter p xs)) ≡ filter q (cond b (x ∷ filter p xs) (filter p xs))) [ true ↦ refl | false ↦ refl ]

pub map_alike : (X Y : Type 0) (f g : X → Y) (xs : List X) → ((x : X) → In x xs → f x ≡ g x) → map f xs ≡ map g xs
map_alike X Y f g [] same = refl
map_alike X Y f g (x ∷ xs) same = ap (λ y. y ∷ map f xs) (same x (inl refl)) ∙ ap (λ l. g x ∷ l) (map_alike X Y f g xs (λ y i. same y (inr i)))

pub flat_where : (X Y : Type 0) (p : X → Bool) (g : X → List Y) (xs : List X) → flat_map (λ x. cond (p x) (g x) []) xs ≡ flat_map g (filter p xs)
flat_where X Y p g [] = refl
flat_where X Y p g (x ∷ xs) =
    ap (λ l. cond (p x) (g x) [] ++ l) (flat_where X Y p g xs)
    ∙ elim (p x) as (λ b. cond b (g x) [] ++ flat_map g (filter p xs) ≡ flat_map g (cond b (x ∷ filter p xs) (filter p xs))) [ true ↦ refl | false ↦ refl ]

pub same_bool : (p q : Bool) → (p ≡ true → q ≡ true) → (q ≡ true → p ≡ true) → p ≡ q
same_bool true q go back = sym (go refl)
same_bool false true go back = back refl
same_bool false false go back = refl

-- ---- folders by what may be seen of them

abbrev number_of : Sight → ℕ
number_of x = x.folder.0

-- what is listed of a folder of the store
seen_one : (s : Store) (who : Who) (sights : List Sight) (x : Sight) → AreSights s who sights → In x sights → (e : FolderEntry) × In e s.folders × (x ≡ sight_of s who e)
seen_one s who sights x are i = (In-map FolderEntry Sight (sight_of s who) x s.folders).0 (subst (In x) are i)

pub ids_that : (s : Store) (who : Who) (sights : List Sight) (p : Sight → Bool) (test : ℕ → Bool) → IsTree s → AreSights s who sights →
    ((e : FolderEntry) → In e s.folders → p (sight_of s who e) ≡ test e.id) → folders_that test s ≡ map number_of (filter p sights)
unfolding folders_that
ids_that s who sights p test tree are same =
    let by : FolderEntry → Bool = λ e. test e.id in
    let seen : FolderEntry → Bool = λ e. p (sight_of s who e) in
    ap (in_order nat_lt) (filter_mapped FolderEntry ℕ test (λ (e : FolderEntry). e.id) s.folders)
    ∙ ordered FolderEntry (λ (e : FolderEntry). e.id) (filter by s.folders) (AllPairs-filter (λ (a b : FolderEntry). a.id < b.id) by s.folders tree.folders_ascend)
    ∙ ap (map (λ (e : FolderEntry). e.id)) (sym (filter_alike FolderEntry seen by s.folders same))
    ∙ sym (map_map FolderEntry Sight ℕ number_of (sight_of s who) (filter seen s.folders))
    ∙ ap (map number_of) (sym (filter_mapped FolderEntry Sight p (sight_of s who) s.folders))
    ∙ ap (λ l. map number_of (filter p l)) (sym are)

-- the folder that a standing folder is in
own_parent : (s : Store) (e : FolderEntry) → IsTree s → In e s.folders → parent_of_folder s e.id ≡ e.parent
unfolding parent_of_folder folder_entry
own_parent s e tree i = ap (λ (o : Option FolderEntry). elim o [ None ↦ 0 | Some x ↦ x.parent ]) (found_row s.folders tree.folders_ascend e i)

-- ---- the parts that go by number

plain_where : (b : Bool) (l : List Listed) → map plain_visit (cond b l []) ≡ cond b (map plain_visit l) []
plain_where true l = refl
plain_where false l = refl

part_told : (viewer : Viewer) (part : Part) (s : Store) (who : Who) (sights : List Sight) (test : ℕ → Bool) (h : ℕ → List Visit) → IsTree s → AreSights s who sights →
    ((e : FolderEntry) → In e s.folders → has_part part (sight_of s who e) ≡ test e.id) → ((f : FolderId) → map plain_visit (folder_part viewer part f) ≡ h f.0) →
    map plain_visit (flat_map (part_of viewer part) sights) ≡ flat_map h (folders_that test s)
part_told viewer part s who sights test h tree are same plain =
    listed_plainly Sight (part_of viewer part) sights
    ∙ flat_alike Sight Visit (λ x. map plain_visit (part_of viewer part x)) (λ x. cond (has_part part x) (h x.folder.0) []) sights
    (λ x i. plain_where (has_part part x) (folder_part viewer part x.folder) ∙ ap (λ l. cond (has_part part x) l []) (plain x.folder))
    ∙ flat_where Sight Visit (has_part part) (λ x. h x.folder.0) sights
    ∙ sym (flat_map_map Sight ℕ Visit h number_of (filter (has_part part) sights))
    ∙ ap (flat_map h) (sym (ids_that s who sights (has_part part) test tree are same))

entry_plain : (viewer : Viewer) (f : FolderId) → map plain_visit (folder_part viewer Entry f) ≡ ToKey (entry_edge (plain_viewer viewer) f.0) ∷ ToKey (edge 3 (clear_of f.0) (sub_of f.0)) ∷ []
unfolding entry_edge grant_edge holder_role clear_of sub_of
entry_plain viewers.Owner f = refl
entry_plain (viewers.Holder h) f = refl

ways_plain : (viewer : Viewer) (f : FolderId) → map plain_visit (folder_part viewer Ways f) ≡ ToKey (edge 4 (sub_of f.0) (back_of f.0)) ∷ ToKey (edge 5 (sub_of f.0) (files_of f.0)) ∷ []
unfolding sub_of back_of files_of
ways_plain viewer f = refl

title_plain : (viewer : Viewer) (f : FolderId) → map plain_visit (folder_part viewer Title f) ≡ ToKey (edge 7 (back_of f.0) (data_of f.0)) ∷ ToName f.0 ∷ []
unfolding back_of data_of
title_plain viewer f = refl

entry_folders_told : (viewer : Viewer) (s : Store) (sights : List Sight) → IsTree s → AreSights s (plain_viewer viewer) sights →
    map plain_visit (flat_map (part_of viewer Entry) sights) ≡ entry_folder_visits s (plain_viewer viewer)
unfolding entry_folder_visits
entry_folders_told viewer s sights tree are =
    part_told viewer Entry s (plain_viewer viewer) sights (is_entry s (plain_viewer viewer))
    (λ f. ToKey (entry_edge (plain_viewer viewer) f) ∷ ToKey (edge 3 (clear_of f) (sub_of f)) ∷ []) tree are (λ e i. refl) (entry_plain viewer)

entry_file_plain : (viewer : Viewer) (x : FileEntry) → plain_visit (entry_file_link viewer (entry_of x)) ≡ ToKey (entry_edge (plain_viewer viewer) (clear_number x.id))
unfolding entry_edge grant_edge holder_role clear_of
entry_file_plain viewers.Owner x = refl
entry_file_plain (viewers.Holder h) x = refl

entry_files_told : (viewer : Viewer) (s : Store) (entries : List EntryFile) → IsTree s → AreEntryFiles s (plain_viewer viewer) entries →
    map plain_visit (map (entry_file_link viewer) entries) ≡ entry_file_visits s (plain_viewer viewer)
unfolding entry_file_visits files_that
entry_files_told viewer s entries tree are =
    let who = plain_viewer viewer in
    let kept = filter (is_entry_file s who) s.files in
    let go : ℕ → Visit = λ x. ToKey (entry_edge who (clear_number x)) in
    map_map EntryFile Listed Visit plain_visit (entry_file_link viewer) entries
    ∙ ap (map (λ (x : EntryFile). plain_visit (entry_file_link viewer x))) are
    ∙ map_map FileEntry EntryFile Visit (λ x. plain_visit (entry_file_link viewer x)) entry_of kept
    ∙ map_alike FileEntry Visit (λ e. plain_visit (entry_file_link viewer (entry_of e))) (λ e. go e.id) kept (λ e i. entry_file_plain viewer e)
    ∙ sym (map_map FileEntry ℕ Visit go (λ e. e.id) kept)
    ∙ ap (map go) (sym (ordered FileEntry (λ (e : FileEntry). e.id) kept (AllPairs-filter (λ (a b : FileEntry). a.id < b.id) (is_entry_file s who) s.files tree.files_ascend)))

entries_told : (viewer : Viewer) (s : Store) (sights : List Sight) (entries : List EntryFile) → IsTree s → AreSights s (plain_viewer viewer) sights → AreEntryFiles s (plain_viewer viewer) entries →
    map plain_visit (flat_map (part_of viewer Entry) sights ++ map (entry_file_link viewer) entries) ≡ entry_visits s (plain_viewer viewer)
unfolding entry_visits
entries_told viewer s sights entries tree are come =
    map-append plain_visit (flat_map (part_of viewer Entry) sights) (map (entry_file_link viewer) entries)
    ∙ ap (λ l. l ++ map plain_visit (map (entry_file_link viewer) entries)) (entry_folders_told viewer s sights tree are)
    ∙ ap (λ l. entry_folder_visits s (plain_viewer viewer) ++ l) (entry_files_told viewer s entries tree come)

ways_told : (viewer : Viewer) (s : Store) (sights : List Sight) → IsTree s → AreSights s (plain_viewer viewer) sights →
    map plain_visit (flat_map (part_of viewer Ways) sights) ≡ allowed_visits s (plain_viewer viewer)
unfolding allowed_visits
ways_told viewer s sights tree are =
    part_told viewer Ways s (plain_viewer viewer) sights (allowed_to s (plain_viewer viewer))
    (λ f. ToKey (edge 4 (sub_of f) (back_of f)) ∷ ToKey (edge 5 (sub_of f) (files_of f)) ∷ []) tree are (λ e i. refl) (ways_plain viewer)

titles_told : (viewer : Viewer) (s : Store) (sights : List Sight) → IsTree s → AreSights s (plain_viewer viewer) sights →
    map plain_visit (flat_map (part_of viewer Title) sights) ≡ name_visits s (plain_viewer viewer)
unfolding name_visits
titles_told viewer s sights tree are =
    part_told viewer Title s (plain_viewer viewer) sights (named_to s (plain_viewer viewer))
    (λ f. ToKey (edge 7 (back_of f) (data_of f)) ∷ ToName f ∷ []) tree are (λ e i. refl) (title_plain viewer)

-- ---- downwards

shallower_told : (s : Store) (who : Who) (sights : List Sight) (a b : Sight) → AreSights s who sights → In a sights → In b sights → is_shallower a b ≡ is_higher s a.folder.0 b.folder.0
unfolding is_higher
shallower_told s who sights a b are i j =
    let x = seen_one s who sights a are i in
    let y = seen_one s who sights b are j in
    rw (x.2, y.2) refl

lower_plain : (s : Store) (who : Who) (sights : List Sight) (x : Sight) → IsTree s → AreSights s who sights → In x sights →
    plain_visit (from_parent x) ≡ ToKey (edge 6 (sub_of (parent_of_folder s x.folder.0)) (sub_of x.folder.0))
unfolding sub_of
lower_plain s who sights x tree are i =
    let w = seen_one s who sights x are i in
    let parent : parent_of_folder s x.folder.0 ≡ x.parent = ap (λ (z : Sight). parent_of_folder s z.folder.0) w.2 ∙ own_parent s w.0 tree w.1 ∙ ap (λ (z : Sight). z.parent) (sym w.2) in
    ap (λ n. ToKey (edge 6 (Sub (record { 0 = n })) (Sub x.folder))) (sym parent)

lowers_told : (s : Store) (who : Who) (sights : List Sight) → IsTree s → AreSights s who sights → map plain_visit (map from_parent (in_order is_shallower (filter is_lower sights))) ≡ lower_visits s who
unfolding lower_visits
lowers_told s who sights tree are =
    let lower = filter is_lower sights in
    let sorted = in_order is_shallower lower in
    let test : ℕ → Bool = λ f. allowed_to s who f && not (is_entry s who f) in
    let go : ℕ → Visit = λ f. ToKey (edge 6 (sub_of (parent_of_folder s f)) (sub_of f)) in
    let inside : (x : Sight) → In x lower → In x sights = λ x i. (In-filter Sight is_lower x sights i).0 in
    map_map Sight Listed Visit plain_visit from_parent sorted
    ∙ map_alike Sight Visit (λ x. plain_visit (from_parent x)) (λ x. go x.folder.0) sorted (λ x i. lower_plain s who sights x tree are (inside x ((In-order Sight is_shallower x lower).0 i)))
    ∙ sym (map_map Sight ℕ Visit go number_of sorted)
    ∙ ap (map go) (order_mapped Sight ℕ number_of is_shallower (is_higher s) lower (λ a b i j. shallower_told s who sights a b are (inside a i) (inside b j)))
    ∙ ap (λ l. map go (in_order (is_higher s) l)) (sym (ids_that s who sights is_lower test tree are (λ e i. refl)))

-- ---- upwards

-- no path has more than 64 names
shallow : (s : Store) → IsTree s → (f : ℕ) → depth_of s (folder_node f) ≤ 64
shallow s tree f =
    let few : length (way_to_root s f) ≤ 65 = levels_few s tree f in
    let told : depth_of s (folder_node f) ≡ length (way_to_root s f) - 1 = depth_told s f in
    omega (arith, few, told)

less_turned : (a b : ℕ) → a ≤ 64 → b ≤ 64 → nat_lt (4294967295 - a) (4294967295 - b) ≡ nat_lt b a
less_turned a b low lower = same_bool (nat_lt (4294967295 - a) (4294967295 - b)) (nat_lt b a)
    (λ t. let h : 4294967295 - a < 4294967295 - b = ltb-true (4294967295 - a) (4294967295 - b) t in lt-ltb b a (omega (arith, low, lower, h)))
    (λ t. let h : b < a = ltb-true b a t in lt-ltb (4294967295 - a) (4294967295 - b) (omega (arith, low, lower, h)))

same_turned : (a b : ℕ) → a ≤ 64 → b ≤ 64 → (4294967295 - a == 4294967295 - b) ≡ (a == b)
same_turned a b low lower = same_bool (4294967295 - a == 4294967295 - b) (a == b)
    (λ t. let h : 4294967295 - a ≡ 4294967295 - b = eqb-true (4294967295 - a) (4294967295 - b) t in eq-eqb a b (omega (arith, low, lower, h)))
    (λ t. let h : a ≡ b = eqb-true a b t in eq-eqb (4294967295 - a) (4294967295 - b) (ap (λ n. 4294967295 - n) h))

deep_by : (da db x y : ℕ) → da ≤ 64 → db ≤ 64 →
    (nat_lt (4294967295 - da) (4294967295 - db) || ((4294967295 - da == 4294967295 - db) && nat_lt x y)) ≡ (nat_lt db da || ((da == db) && nat_lt x y))
deep_by da db x y low lower =
    ap (λ p. p || ((4294967295 - da == 4294967295 - db) && nat_lt x y)) (less_turned da db low lower) ∙ ap (λ q. nat_lt db da || (q && nat_lt x y)) (same_turned da db low lower)

deeper_told : (s : Store) (who : Who) (sights : List Sight) (a b : Sight) → IsTree s → AreSights s who sights → In a sights → In b sights → is_deeper a b ≡ spec.is_deeper s a.folder.0 b.folder.0
unfolding spec.is_deeper
deeper_told s who sights a b tree are i j =
    let x = seen_one s who sights a are i in
    let y = seen_one s who sights b are j in
    rw (x.2, y.2) (deep_by (depth_of s (folder_node x.0.id)) (depth_of s (folder_node y.0.id)) x.0.id y.0.id (shallow s tree x.0.id) (shallow s tree y.0.id))

-- up from the first entry file
abbrev in_folder : ℕ → FileEntry → Bool
in_folder f e = e.folder == f

abbrev ids_in : ℕ → List FileEntry → List ℕ
ids_in f es = map (λ (e : FileEntry). e.id) (filter (in_folder f) es)

first_entry : (f : ℕ) (es : List FileEntry) → map plain_visit (up_by (find (leads_up f) (map entry_up (map entry_of es)))) ≡ visit_from f [] (ids_in f es)
unfolding visit_from clear_of back_of edge role_id
first_entry f [] = refl
first_entry f (e ∷ es) =
    (elim (e.folder == f) as (λ b. (e.folder == f) ≡ b → map plain_visit (up_by (cond b (Some (entry_up (entry_of e))) (find (leads_up f) (map entry_up (map entry_of es)))))
    ≡ visit_from f [] (map (λ (x : FileEntry). x.id) (cond b (e ∷ filter (in_folder f) es) (filter (in_folder f) es)))) [
      | true ↦ λ t. ap (λ n. ToKey (edge 11 (clear_of (clear_number e.id)) (back_of n)) ∷ []) (eqb-true e.folder f t)
      | false ↦ λ t. first_entry f es
    ]) refl

-- up from the first child that is named, or else from the first entry file
first_up : (f : ℕ) (xs : List Sight) (es : List FileEntry) → map plain_visit (up_by (find (leads_up f) (edges_up xs (map entry_of es)))) ≡ visit_from f (map number_of (filter (is_child f) xs)) (ids_in f es)
unfolding visit_from back_of edge role_id
first_up f [] es = first_entry f es
first_up f (x ∷ xs) es =
    elim x.named as (λ b. map plain_visit (up_by (find (leads_up f) ((cond b (edge 8 (Back x.folder) (Back (record { 0 = x.parent })) ∷ []) [] ++ flat_map child_edges xs) ++ map entry_up (map entry_of es))))
    ≡ visit_from f (map number_of (cond (b && (x.parent == f)) (x ∷ filter (is_child f) xs) (filter (is_child f) xs))) (ids_in f es)) [
      | true ↦ (elim (x.parent == f) as (λ b. (x.parent == f) ≡ b → map plain_visit (up_by (cond b (Some (edge 8 (Back x.folder) (Back (record { 0 = x.parent })))) (find (leads_up f) (edges_up xs (map entry_of es)))))
          ≡ visit_from f (map number_of (cond b (x ∷ filter (is_child f) xs) (filter (is_child f) xs))) (ids_in f es)) [
            | true ↦ λ t. ap (λ n. ToKey (edge 8 (Back x.folder) (back_of n)) ∷ []) (eqb-true x.parent f t)
            | false ↦ λ t. first_up f xs es
          ]) refl
      | false ↦ first_up f xs es
    ]

-- the entry files in a folder
entries_in : (s : Store) (who : Who) (f : ℕ) → IsTree s → files_that (λ e. is_entry_file s who e && (e.folder == f)) s ≡ ids_in f (filter (is_entry_file s who) s.files)
unfolding files_that
entries_in s who f tree =
    let by : FileEntry → Bool = is_entry_file s who in
    let id : FileEntry → ℕ = λ e. e.id in
    ap (λ l. in_order nat_lt (map id l)) (filter_twice FileEntry by (in_folder f) s.files)
    ∙ ordered FileEntry id (filter (in_folder f) (filter by s.files))
    (AllPairs-filter (λ (a b : FileEntry). a.id < b.id) (in_folder f) (filter by s.files) (AllPairs-filter (λ (a b : FileEntry). a.id < b.id) by s.files tree.files_ascend))

upper_plain : (s : Store) (who : Who) (sights : List Sight) (entries : List EntryFile) (f : FolderId) → IsTree s → AreSights s who sights → AreEntryFiles s who entries →
    map plain_visit (from_below (edges_up sights entries) f) ≡ upper_visit s who f.0
unfolding upper_visit
upper_plain s who sights entries f tree are come =
    let kept = filter (is_entry_file s who) s.files in
    ap (λ l. map plain_visit (from_below (edges_up sights l) f)) come
    ∙ first_up f.0 sights kept
    ∙ ap (λ l. visit_from f.0 l (ids_in f.0 kept)) (sym (ids_that s who sights (is_child f.0) (λ c. named_to s who c && (parent_of_folder s c == f.0)) tree are
    (λ e i. ap (λ n. named_to s who e.id && (n == f.0)) (sym (own_parent s e tree i)))))
    ∙ ap (visit_from f.0 (folders_that (λ c. named_to s who c && (parent_of_folder s c == f.0)) s)) (sym (entries_in s who f.0 tree))

uppers_told : (s : Store) (who : Who) (sights : List Sight) (entries : List EntryFile) → IsTree s → AreSights s who sights → AreEntryFiles s who entries →
    map plain_visit (flat_map (λ (x : Sight). from_below (edges_up sights entries) x.folder) (in_order is_deeper (filter is_upper sights))) ≡ upper_visits s who
unfolding upper_visits
uppers_told s who sights entries tree are come =
    let upper = filter is_upper sights in
    let sorted = in_order is_deeper upper in
    let ups = edges_up sights entries in
    let test : ℕ → Bool = λ f. named_to s who f && not (allowed_to s who f) in
    let inside : (x : Sight) → In x upper → In x sights = λ x i. (In-filter Sight is_upper x sights i).0 in
    listed_plainly Sight (λ x. from_below ups x.folder) sorted
    ∙ flat_alike Sight Visit (λ x. map plain_visit (from_below ups x.folder)) (λ x. upper_visit s who x.folder.0) sorted (λ x i. upper_plain s who sights entries x.folder tree are come)
    ∙ sym (flat_map_map Sight ℕ Visit (upper_visit s who) number_of sorted)
    ∙ ap (flat_map (upper_visit s who)) (order_mapped Sight ℕ number_of is_deeper (spec.is_deeper s) upper (λ a b i j. deeper_told s who sights a b tree are (inside a i) (inside b j)))
    ∙ ap (λ l. flat_map (upper_visit s who) (in_order (spec.is_deeper s) l)) (sym (ids_that s who sights is_upper test tree are (λ e i. refl)))

-- ---- all of them

plain_five : (a b c d e : List Listed) → map plain_visit (a ++ (b ++ (c ++ (d ++ e)))) ≡ map plain_visit a ++ (map plain_visit b ++ (map plain_visit c ++ (map plain_visit d ++ map plain_visit e)))
plain_five a b c d e =
    map-append plain_visit a (b ++ (c ++ (d ++ e)))
    ∙ ap (λ l. map plain_visit a ++ l) (map-append plain_visit b (c ++ (d ++ e))
    ∙ ap (λ l. map plain_visit b ++ l) (map-append plain_visit c (d ++ e) ∙ ap (λ l. map plain_visit c ++ l) (map-append plain_visit d e)))

pub names_told : (viewer : Viewer) (s : Store) (sights : List Sight) (entries : List EntryFile) → IsTree s → AreSights s (plain_viewer viewer) sights → AreEntryFiles s (plain_viewer viewer) entries →
    map plain_visit (listed_to_names viewer sights entries) ≡ visits_to_names s (plain_viewer viewer)
unfolding visits_to_names
names_told viewer s sights entries tree are come =
    let who = plain_viewer viewer in
    let a = flat_map (part_of viewer Entry) sights ++ map (entry_file_link viewer) entries in
    let b = map from_parent (in_order is_shallower (filter is_lower sights)) in
    let c = flat_map (part_of viewer Ways) sights in
    let d = flat_map (λ (x : Sight). from_below (edges_up sights entries) x.folder) (in_order is_deeper (filter is_upper sights)) in
    let e = flat_map (part_of viewer Title) sights in
    plain_five a b c d e
    ∙ ap (λ l. l ++ (map plain_visit b ++ (map plain_visit c ++ (map plain_visit d ++ map plain_visit e)))) (entries_told viewer s sights entries tree are come)
    ∙ ap (λ l. entry_visits s who ++ (l ++ (map plain_visit c ++ (map plain_visit d ++ map plain_visit e)))) (lowers_told s who sights tree are)
    ∙ ap (λ l. entry_visits s who ++ (lower_visits s who ++ (l ++ (map plain_visit d ++ map plain_visit e)))) (ways_told viewer s sights tree are)
    ∙ ap (λ l. entry_visits s who ++ (lower_visits s who ++ (allowed_visits s who ++ (l ++ map plain_visit e)))) (uppers_told s who sights entries tree are come)
    ∙ ap (λ l. entry_visits s who ++ (lower_visits s who ++ (allowed_visits s who ++ (upper_visits s who ++ l)))) (titles_told viewer s sights tree are)

-- ---- what is known of each

tells_others : (told : Role → Bool) (viewer : Viewer) → Tells told viewer → (role : Role) → IsTrue (is_no_holders role) → IsTrue (told role)
tells_others told viewers.Owner tells = tells
tells_others told (viewers.Holder h) tells = tells.0

entry_fit : (told : Role → Bool) (viewer : Viewer) (f : FolderId) → Tells told viewer → IsFor told (plain_visit (entry_link viewer f))
unfolding edge role_with kind_from kind_to row_numbered role_id
entry_fit told viewers.Owner f tells = (record { from_one = omega arith; to_eleven = omega arith; source = refl; target = refl }, tells Owner refl, tells (Clear f) refl)
entry_fit told (viewers.Holder h) f tells = (record { from_one = omega arith; to_eleven = omega arith; source = refl; target = refl }, tells.1, tells.0 (Clear f) refl)

part_fit : (told : Role → Bool) (viewer : Viewer) (part : Part) (f : FolderId) → Tells told viewer → AllByRecursion (IsFor told) (map plain_visit (folder_part viewer part f))
unfolding edge role_with kind_from kind_to row_numbered role_id data_of
part_fit told viewer Entry f tells =
    let t = tells_others told viewer tells in
    (entry_fit told viewer f tells, ((record { from_one = omega arith; to_eleven = omega arith; source = refl; target = refl }, t (Clear f) refl, t (Sub f) refl), tt))
part_fit told viewer Ways f tells =
    let t = tells_others told viewer tells in (
      (record { from_one = omega arith; to_eleven = omega arith; source = refl; target = refl }, t (Sub f) refl, t (Back f) refl),
      ((record { from_one = omega arith; to_eleven = omega arith; source = refl; target = refl }, t (Sub f) refl, t (Files f) refl), tt),
    )
part_fit told viewer Title f tells =
    let t = tells_others told viewer tells in
    ((record { from_one = omega arith; to_eleven = omega arith; source = refl; target = refl }, t (Back f) refl, t (Data f) refl), (t (Data f) refl, tt))

fit_where : (told : Role → Bool) (b : Bool) (l : List Listed) → AllByRecursion (IsFor told) (map plain_visit l) → AllByRecursion (IsFor told) (map plain_visit (cond b l []))
fit_where told true l fit = fit
fit_where told false l fit = tt

-- visits that are listed one after another
fit_each : (told : Role → Bool) (X : Type 0) (g : X → List Listed) (xs : List X) → ((x : X) → AllByRecursion (IsFor told) (map plain_visit (g x))) → AllByRecursion (IsFor told) (map plain_visit (flat_map g xs))
fit_each told X g xs fit =
    subst (AllByRecursion (IsFor told)) (sym (listed_plainly X g xs)) (each_all (IsFor told) X (λ x. map plain_visit (g x)) xs fit)

parts_fit : (told : Role → Bool) (viewer : Viewer) (part : Part) (sights : List Sight) → Tells told viewer → AllByRecursion (IsFor told) (map plain_visit (flat_map (part_of viewer part) sights))
parts_fit told viewer part sights tells =
    fit_each told Sight (part_of viewer part) sights (λ x. fit_where told (has_part part x) (folder_part viewer part x.folder) (part_fit told viewer part x.folder tells))

lower_fit : (told : Role → Bool) (viewer : Viewer) (xs : List Sight) → Tells told viewer → AllByRecursion (IsFor told) (map plain_visit (map from_parent xs))
unfolding edge role_with kind_from kind_to row_numbered role_id
lower_fit told viewer [] tells = tt
lower_fit told viewer (x ∷ xs) tells =
    let t = tells_others told viewer tells in
    ((record { from_one = omega arith; to_eleven = omega arith; source = refl; target = refl }, t (Sub (record { 0 = x.parent })) refl, t (Sub x.folder) refl), lower_fit told viewer xs tells)

entry_files_fit : (told : Role → Bool) (viewer : Viewer) (xs : List EntryFile) → Tells told viewer → AllByRecursion (IsFor told) (map plain_visit (map (entry_file_link viewer) xs))
entry_files_fit told viewer [] tells = tt
entry_files_fit told viewer (x ∷ xs) tells = (entry_fit told viewer x.clearance tells, entry_files_fit told viewer xs tells)

-- a way up is fit
up_fits : (told : Role → Bool) (viewer : Viewer) (e : Edge) (sights : List Sight) (entries : List EntryFile) → Tells told viewer → In e (edges_up sights entries) → IsFor told (ToKey e)
unfolding edge role_with kind_from kind_to row_numbered role_id
up_fits told viewer e [] (x ∷ entries) tells i =
    let t = tells_others told viewer tells in
    ⊎_elim
    (λ (q : e ≡ entry_up x).
    subst (λ (y : Edge). IsFor told (ToKey y)) (sym q) (record { from_one = omega arith; to_eleven = omega arith; source = refl; target = refl }, t (Clear x.clearance) refl, t (Back x.folder) refl))
    (λ j. up_fits told viewer e [] entries tells j)
    i
up_fits told viewer e [] [] tells i = absurd i
up_fits told viewer e (x ∷ sights) entries tells i =
    let t = tells_others told viewer tells in
    (elim x.named as (λ b. In e ((cond b (edge 8 (Back x.folder) (Back (record { 0 = x.parent })) ∷ []) [] ++ flat_map child_edges sights) ++ map entry_up entries) → IsFor told (ToKey e)) [
      | true ↦ λ j. ⊎_elim
          (λ (q : e ≡ edge 8 (Back x.folder) (Back (record { 0 = x.parent }))).
          subst (λ (y : Edge). IsFor told (ToKey y)) (sym q) (record { from_one = omega arith; to_eleven = omega arith; source = refl; target = refl }, t (Back x.folder) refl, t (Back (record { 0 = x.parent })) refl))
          (λ k. up_fits told viewer e sights entries tells k)
          j
      | false ↦ λ j. up_fits told viewer e sights entries tells j
    ]) i

up_fit : (told : Role → Bool) (ups : List Edge) (p : Edge → Bool) → ((e : Edge) → In e ups → IsFor told (ToKey e)) → AllByRecursion (IsFor told) (map plain_visit (up_by (find p ups)))
up_fit told [] p fit = tt
up_fit told (e ∷ ups) p fit =
    elim (p e) as (λ b. AllByRecursion (IsFor told) (map plain_visit (up_by (cond b (Some e) (find p ups))))) [
      | true ↦ (fit e (inl refl), tt)
      | false ↦ up_fit told ups p (λ d i. fit d (inr i))
    ]

pub names_fit : (told : Role → Bool) (viewer : Viewer) (sights : List Sight) (entries : List EntryFile) → Tells told viewer → AllByRecursion (IsFor told) (map plain_visit (listed_to_names viewer sights entries))
names_fit told viewer sights entries tells =
    let first = flat_map (part_of viewer Entry) sights in
    let second = map (entry_file_link viewer) entries in
    let a = first ++ second in
    let lower = in_order is_shallower (filter is_lower sights) in
    let b = map from_parent lower in
    let c = flat_map (part_of viewer Ways) sights in
    let upper = in_order is_deeper (filter is_upper sights) in
    let ups = edges_up sights entries in
    let d = flat_map (λ (x : Sight). from_below ups x.folder) upper in
    let e = flat_map (part_of viewer Title) sights in
    let up = fit_each told Sight (λ (x : Sight). from_below ups x.folder) upper (λ x. up_fit told ups (leads_up x.folder.0) (λ y i. up_fits told viewer y sights entries tells i)) in
    let back = both_all (IsFor told) (map plain_visit d) (map plain_visit e) up (parts_fit told viewer Title sights tells) in
    let ways = both_all (IsFor told) (map plain_visit c) (map plain_visit d ++ map plain_visit e) (parts_fit told viewer Ways sights tells) back in
    let down = both_all (IsFor told) (map plain_visit b) (map plain_visit c ++ (map plain_visit d ++ map plain_visit e)) (lower_fit told viewer lower tells) ways in
    let come : AllByRecursion (IsFor told) (map plain_visit a) = subst (AllByRecursion (IsFor told)) (sym (map-append plain_visit first second))
    (both_all (IsFor told) (map plain_visit first) (map plain_visit second) (parts_fit told viewer Entry sights tells) (entry_files_fit told viewer entries tells))
    in
    subst (AllByRecursion (IsFor told)) (sym (plain_five a b c d e))
    (both_all (IsFor told) (map plain_visit a) (map plain_visit b ++ (map plain_visit c ++ (map plain_visit d ++ map plain_visit e))) come down)

-- ---- the first of several that have a key

found_more : (X : Type 0) (p : X → Bool) (xs : List X) (x : X) → find p (xs ++ x ∷ []) ≡ elim (find p xs) [ Some y ↦ Some y | None ↦ cond (p x) (Some x) None ]
found_more X p [] x = refl
found_more X p (y ∷ xs) x =
    ap (λ o. cond (p y) (Some y) o) (found_more X p xs x)
    ∙ elim (p y) as (λ b. cond b (Some y) (elim (find p xs) [ Some z ↦ Some z | None ↦ cond (p x) (Some x) None ]) ≡ elim (cond b (Some y) (find p xs)) [ Some z ↦ Some z | None ↦ cond (p x) (Some x) None ]) [ true ↦ refl | false ↦ refl ]

found_kept : (X : Type 0) (p : X → Bool) (xs : List X) (x : X) → p x ≡ false → find p (xs ++ x ∷ []) ≡ find p xs
found_kept X p xs x lacks =
    found_more X p xs x
    ∙ ap (λ b. elim (find p xs) [ Some y ↦ Some y | None ↦ cond b (Some x) None ]) lacks
    ∙ elim (find p xs) as (λ o. elim o [ Some y ↦ Some y | None ↦ None ] ≡ o) [ Some y ↦ refl | None ↦ refl ]

found_there : (X : Type 0) (p : X → Bool) (xs : List X) (x : X) → is_some (find p xs) ≡ true → find p (xs ++ x ∷ []) ≡ find p xs
found_there X p xs x some =
    found_more X p xs x
    ∙ (elim (find p xs) as (λ o. is_some o ≡ true → elim o [ Some y ↦ Some y | None ↦ cond (p x) (Some x) None ] ≡ o) [ Some y ↦ λ t. refl | None ↦ λ t. absurd (false≢true t) ]) some

found_new : (X : Type 0) (p : X → Bool) (xs : List X) (x : X) → is_some (find p xs) ≡ false → p x ≡ true → find p (xs ++ x ∷ []) ≡ Some x
found_new X p xs x none passes =
    found_more X p xs x
    ∙ ap (λ b. elim (find p xs) [ Some y ↦ Some y | None ↦ cond b (Some x) None ]) passes
    ∙ (elim (find p xs) as (λ o. is_some o ≡ false → elim o [ Some y ↦ Some y | None ↦ Some x ] ≡ Some x) [ Some y ↦ λ t. absurd (false≢true (sym t)) | None ↦ λ t. refl ]) none

-- a map has for each key what the first with it has
abbrev pub HasFirst : {X V S : Type 0} → (X → ℕ) → (X → V) → HashMap ℕ V S → List X → Type 0
HasFirst key value first xs = (k : ℕ) → get same_number first k ≡ option_map value (find (λ x. key x == k) xs)

some_kept : (X V : Type 0) (value : X → V) (o : Option X) → is_some (option_map value o) ≡ is_some o
some_kept X V value None = refl
some_kept X V value (Some x) = refl

-- one whose key was there changes nothing
pub later_one : {X V S : Type 0} (key : X → ℕ) (value : X → V) (first : HashMap ℕ V S) (so_far : List X) (x : X) → is_some (get same_number first (key x)) ≡ true → HasFirst key value first so_far →
    HasFirst key value first (so_far ++ x ∷ [])
later_one {X} {V} key value first so_far x there has = λ k.
    has k ∙ ap (option_map value) (sym ((elim (key x == k) as (λ b. (key x == k) ≡ b → find (λ y. key y == k) (so_far ++ x ∷ []) ≡ find (λ y. key y == k) so_far) [
      | true ↦ λ t.
          found_there X (λ y. key y == k) so_far x
          (sym (some_kept X V value (find (λ y. key y == k) so_far)) ∙ ap is_some (sym (has k)) ∙ ap (λ n. is_some (get same_number first n)) (sym (eqb-true (key x) k t)) ∙ there)
      | false ↦ λ t. found_kept X (λ y. key y == k) so_far x t
    ]) refl))

-- one with a new key is noted
pub next_one : {X V S : Type 0} (key : X → ℕ) (value : X → V) (first new : HashMap ℕ V S) (so_far : List X) (x : X) → is_some (get same_number first (key x)) ≡ false →
    ((q : ℕ) → get same_number new q ≡ cond (same_number (key x) q) (Some (value x)) (get same_number first q)) → HasFirst key value first so_far → HasFirst key value new (so_far ++ x ∷ [])
next_one {X} {V} key value first new so_far x none updates has = λ k.
    updates k ∙ (elim (key x == k) as (λ b. (key x == k) ≡ b → cond b (Some (value x)) (get same_number first k) ≡ option_map value (find (λ y. key y == k) (so_far ++ x ∷ []))) [
      | true ↦ λ t.
          ap (option_map value) (sym (found_new X (λ y. key y == k) so_far x
          (sym (some_kept X V value (find (λ y. key y == k) so_far)) ∙ ap is_some (sym (has k)) ∙ ap (λ n. is_some (get same_number first n)) (sym (eqb-true (key x) k t)) ∙ none) t))
      | false ↦ λ t. has k ∙ ap (option_map value) (sym (found_kept X (λ y. key y == k) so_far x t))
    ]) refl

-- an edge is what is noted of itself
itself : (o : Option Edge) → option_map (λ e. e) o ≡ o
itself None = refl
itself (Some e) = refl

-- what is noted of a folder
pub no_child : (x : Sight) (so_far : List Edge) → x.named ≡ false → so_far ≡ so_far ++ child_edges x
no_child x so_far lacks = sym (append-nil so_far) ∙ ap (λ b. so_far ++ cond b (edge 8 (Back x.folder) (Back (record { 0 = x.parent })) ∷ []) []) (sym lacks)

pub child_up : (x : Sight) (e : Edge) → x.named ≡ true → e ≡ edge 8 (back_of x.folder.0) (back_of x.parent) → (e ∷ []) ≡ child_edges x
unfolding back_of
child_up x e named is = ap (λ d. d ∷ []) is ∙ ap (λ b. cond b (edge 8 (Back x.folder) (Back (record { 0 = x.parent })) ∷ []) []) (sym named)

-- and of an entry file
pub entry_is : (x : EntryFile) → edge 11 (clear_of x.clearance.0) (back_of x.folder.0) ≡ entry_up x
unfolding clear_of back_of
entry_is x = refl

pub none_first : {S : Type 0} (first : HashMap ℕ Edge S) → first.entries ≡ [] → AreFirst first []
none_first first empty = λ f. ap (lookup (same_number f)) empty

pub firsts_has : {S : Type 0} (first : HashMap ℕ Edge S) (ups : List Edge) → AreFirst first ups → HasFirst (λ (e : Edge). role_id e.to) (λ e. e) first ups
firsts_has first ups are = λ k. are k ∙ sym (itself (find (leads_up k) ups))

pub has_firsts : {S : Type 0} (first : HashMap ℕ Edge S) (ups : List Edge) → HasFirst (λ (e : Edge). role_id e.to) (λ e. e) first ups → AreFirst first ups
has_firsts first ups has = λ k. has k ∙ itself (find (leads_up k) ups)

-- ---- part after part

pub in_parts : (a b c d e : List Listed) (zeroth one two three four five : List Listed) → zeroth ≡ [] → one ≡ zeroth ++ a → two ≡ one ++ b → three ≡ two ++ c → four ≡ three ++ d → five ≡ four ++ e →
    five ≡ a ++ (b ++ (c ++ (d ++ e)))
in_parts a b c d e zeroth one two three four five e0 e1 e2 e3 e4 e5 =
    e5 ∙ ap (λ l. l ++ e) (e4 ∙ ap (λ l. l ++ d) (e3 ∙ ap (λ l. l ++ c) (e2 ∙ ap (λ l. l ++ b) (e1 ∙ ap (λ l. l ++ a) e0))))
    ∙ append_assoc ((a ++ b) ++ c) d e ∙ append_assoc (a ++ b) c (d ++ e) ∙ append_assoc a b (c ++ (d ++ e))

pub taken_more : {X : Type 0} (xs : List X) (i : ℕ) (x : X) → i < length xs → x ≡ get_or xs i x → take i xs ++ x ∷ [] ≡ take (i + 1) xs
taken_more xs i x within is = ap (λ y. take i xs ++ y ∷ []) is ∙ sym (take_more xs i x within)

pub flat_more : {X Y : Type 0} (g : X → List Y) (xs : List X) (i : ℕ) (x : X) (start before after : List Y) → i < length xs → x ≡ get_or xs i x → before ≡ start ++ flat_map g (take i xs) → after ≡ before ++ g x →
    after ≡ start ++ flat_map g (take (i + 1) xs)
flat_more {X} {Y} g xs i x start before after within is so_far more =
    more ∙ ap (λ l. l ++ g x) so_far ∙ flat_added X Y g start (take i xs) x ∙ ap (λ l. start ++ flat_map g l) (taken_more xs i x within is)

pub map_more : {X Y : Type 0} (g : X → Y) (xs : List X) (i : ℕ) (x : X) (start : List Y) → i < length xs → x ≡ get_or xs i x → (start ++ map g (take i xs)) ++ g x ∷ [] ≡ start ++ map g (take (i + 1) xs)
map_more {X} {Y} g xs i x start within is =
    append_assoc start (map g (take i xs)) (g x ∷ []) ∙ ap (λ l. start ++ l) (sym (map-append g (take i xs) (x ∷ [])) ∙ ap (map g) (taken_more xs i x within is))

-- what was listed, one part behind the other
pub names_listed : (viewer : Viewer) (sights lower lower_sorted lower_read upper upper_sorted upper_read : List Sight) (entries : List EntryFile) (zeroth half one two three four five : List Listed) →
    lower ≡ filter is_lower sights → lower_sorted ≡ in_order is_shallower lower → lower_read ≡ lower_sorted → upper ≡ filter is_upper sights → upper_sorted ≡ in_order is_deeper upper → upper_read ≡ upper_sorted →
    zeroth ≡ [] → half ≡ zeroth ++ flat_map (part_of viewer Entry) sights → one ≡ half ++ map (entry_file_link viewer) entries → two ≡ one ++ map from_parent lower_read → three ≡ two ++ flat_map (part_of viewer Ways) sights →
    four ≡ three ++ flat_map (λ (x : Sight). from_below (edges_up sights entries) x.folder) upper_read → five ≡ four ++ flat_map (part_of viewer Title) sights → five ≡ listed_to_names viewer sights entries
names_listed viewer sights lower lower_sorted lower_read upper upper_sorted upper_read entries zeroth half one two three four five l1 l2 l3 u1 u2 u3 e0 eh e1 e2 e3 e4 e5 =
    let low : lower_read ≡ in_order is_shallower (filter is_lower sights) = l3 ∙ l2 ∙ ap (in_order is_shallower) l1 in
    let up : upper_read ≡ in_order is_deeper (filter is_upper sights) = u3 ∙ u2 ∙ ap (in_order is_deeper) u1 in
    let first = flat_map (part_of viewer Entry) sights in
    let second = map (entry_file_link viewer) entries in
    in_parts (first ++ second) (map from_parent (in_order is_shallower (filter is_lower sights))) (flat_map (part_of viewer Ways) sights)
    (flat_map (λ (x : Sight). from_below (edges_up sights entries) x.folder) (in_order is_deeper (filter is_upper sights))) (flat_map (part_of viewer Title) sights) zeroth one two three four five
    e0 (e1 ∙ ap (λ l. l ++ second) eh ∙ append_assoc zeroth first second) (e2 ∙ ap (λ l. one ++ map from_parent l) low) e3 (e4 ∙ ap (λ l. three ++ flat_map (λ (x : Sight). from_below (edges_up sights entries) x.folder) l) up) e5
