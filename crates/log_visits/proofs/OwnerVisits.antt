-- The visits of an owner to files and holders, from the rows of the public state.
use Rattle.std.proofs.Common.{◌≡◌, ℕ, zero, suc, ◌+◌, ◌<◌, Bool, true, false, ◌==◌, ◌↔◌, cond, List, [], ◌∷◌, ◌++◌, map, length, filter, Option, None, Some, inl, inr, ⊎_elim, refl, sym, ap, subst, ◌∙◌, arith, append_assoc}
use Rattle.std.specs.Prelude.{IsTrue, nat_lt}
use Rattle.std.specs.List.{AllByRecursion, AllPairs, flat_map, list_any, range_with_len}
use Rattle.std.proofs.lemmas.Bool.{eqb-true, eq-eqb, ltb-true, false_from_ne_true, false≢true}
use Rattle.std.proofs.lemmas.List.{append-nil, map-append}
use Rattle.std.proofs.lemmas.List.Elements.{All-head}
use Rattle.std.proofs.lemmas.List.FromFn.{map-range_with_len_more}
use Rattle.std.proofs.lemmas.List.Kept.{AllPairs-filter}
use Rattle.cry_base.specs.Clearances.{clear_number}
use Rattle.cry_base.specs.Sets.{In}
use Rattle.cry_base.specs.Store.{Store, FolderEntry, FileEntry, GrantEntry, HolderEntry, file_entry, folder_entry, way_to_root}
use Rattle.cry_base.specs.declared.ids.FolderId.{FolderId}
use Rattle.cry_base.specs.declared.roles.Role.{Role}
use Rattle.cry_base.specs.declared.roles.Role.TheVariants.{Owner, Clear, Files, File}
use Rattle.cry_base.proofs.Finding.{find-found, found-find}
use Rattle.cry_base.proofs.Members.{In-any, In-append}
use Rattle.folder_nodes.specs.Bare.{folder_of_row, file_of_row}
use Rattle.folder_nodes.specs.declared.rows.FolderRow.{FolderRow}
use Rattle.folder_nodes.specs.declared.rows.FileRow.{FileRow}
use Rattle.folder_nodes.specs.Trees.{IsTree}
use Rattle.folder_nodes.proofs.Ascending.{head_below, rest_rising, same_ranked}
use Rattle.log_visits.specs.declared.visit_list.Visit.{Visit as Listed}
use Rattle.log_visits.specs.declared.visit_list.Visit.TheVariants as listed
use Rattle.log_visits.specs.Entries.{AreEntryFiles, entry_of}
use Rattle.log_visits.specs.Opening.{IsFor, IsNameless, file_row_visits, is_no_holders, plain_visit}
use Rattle.log_visits.specs.Listing.{clearance_of, file_part}
use Rattle.log_visits.specs.Visits.{Visit, clearance_visits, files_that, file_visits, into_file, visits_to_names, all_visits, holder_visits, is_entry_file, writing_visits}
use Rattle.log_visits.specs.Visits.Visit.{ToKey, ToFile, ToHolder}
use Rattle.key_links.specs.Ended.{kind_from, kind_to, role_with, row_numbered}
use Rattle.move_plan.specs.Change.{folder_of_file}
use Rattle.move_plan.specs.Seen.{keyless}
use Rattle.public_fold.specs.Journal.{Stand}
use Rattle.public_fold.specs.Standing.{PublicView, IsSeenAs}
use Rattle.role_graph.specs.Edges.{edge, file_edge, has_grants, in_order, put_in_order}
use Rattle.role_graph.specs.Rights.Who.{TheOwner}
use Rattle.role_graph.specs.Rights.{allowed_to, file_allowed_to}
use Rattle.role_graph.specs.Roles.{clear_of, files_of, file_role, role_id}
use Rattle.role_graph.proofs.Adding.{flat_map_map, map_map}

-- ---- what ascends is in order

abbrev IsRising : {X : Type 0} → (X → ℕ) → List X → Type 0
IsRising rank xs = AllPairs (λ x y. rank x < rank y) xs

not_below : (x y : ℕ) → x < y → nat_lt y x ≡ false
not_below x y lt = false_from_ne_true (nat_lt y x) (λ t. let back : y < x = ltb-true y x t in omega (arith, lt, back))

put_first : (X : Type 0) (rank : X → ℕ) (x : X) (xs : List X) → IsRising rank (x ∷ xs) → put_in_order nat_lt (rank x) (map rank xs) ≡ rank x ∷ map rank xs
unfolding put_in_order
put_first X rank x [] up = refl
put_first X rank x (y ∷ ys) up =
    let lower = not_below (rank x) (rank y) (All-head (λ z. rank x < rank z) y ys (head_below X rank x (y ∷ ys) up)) in
    ap (λ b. cond b (rank y ∷ put_in_order nat_lt (rank x) (map rank ys)) (rank x ∷ rank y ∷ map rank ys)) lower

pub ordered : (X : Type 0) (rank : X → ℕ) (xs : List X) → IsRising rank xs → in_order nat_lt (map rank xs) ≡ map rank xs
unfolding in_order
ordered X rank [] up = refl
ordered X rank (x ∷ xs) up = ap (put_in_order nat_lt (rank x)) (ordered X rank xs (rest_rising X rank x xs up)) ∙ put_first X rank x xs up

range_first : (a n : ℕ) → put_in_order nat_lt a (range_with_len (a + 1) n) ≡ a ∷ range_with_len (a + 1) n
unfolding put_in_order
range_first a zero = refl
range_first a (suc n) =
    ap (λ b. cond b ((a + 1) ∷ put_in_order nat_lt a (range_with_len (a + 1 + 1) n)) (a ∷ (a + 1) ∷ range_with_len (a + 1 + 1) n)) (not_below a (a + 1) (omega arith))

range_ordered : (a n : ℕ) → in_order nat_lt (range_with_len a n) ≡ range_with_len a n
unfolding in_order
range_ordered a zero = refl
range_ordered a (suc n) = ap (put_in_order nat_lt a) (range_ordered (a + 1) n) ∙ range_first a n

-- ---- a test that all or none pass

all_pass : (X : Type 0) (p : X → Bool) (xs : List X) → ((x : X) → p x ≡ true) → filter p xs ≡ xs
all_pass X p [] t = refl
all_pass X p (x ∷ xs) t = ap (λ b. cond b (x ∷ filter p xs) (filter p xs)) (t x) ∙ ap (λ l. x ∷ l) (all_pass X p xs t)

all_files : (s : Store) (test : FileEntry → Bool) → ((e : FileEntry) → test e ≡ true) → IsRising (λ (e : FileEntry). e.id) s.files → files_that test s ≡ map (λ (e : FileEntry). e.id) s.files
unfolding files_that
all_files s test t up =
    ap (λ (es : List FileEntry). in_order nat_lt (map (λ (e : FileEntry). e.id) es)) (all_pass FileEntry test s.files t) ∙ ordered FileEntry (λ e. e.id) s.files up

-- ---- the visits of a store, from its rows

pub listed_plainly : (X : Type 0) (f : X → List Listed) (xs : List X) → map plain_visit (flat_map f xs) ≡ flat_map (λ x. map plain_visit (f x)) xs
listed_plainly X f [] = refl
listed_plainly X f (x ∷ xs) = map-append plain_visit (f x) (flat_map f xs) ∙ ap (λ l. map plain_visit (f x) ++ l) (listed_plainly X f xs)

-- the folder of a file is that of its row
pub own_folder : (s : Store) (e : FileEntry) → IsRising (λ (x : FileEntry). x.id) s.files → In e s.files → folder_of_file s e.id ≡ e.folder
unfolding folder_of_file file_entry
own_folder s e up i =
    let test : FileEntry → Bool = λ x. x.id == e.id in
    let w = found-find FileEntry test e s.files i (eq-eqb e.id e.id refl) in
    let there = find-found FileEntry test s.files w.0 w.1 in
    let same : w.0 ≡ e = same_ranked FileEntry (λ (x : FileEntry). x.id) s.files up w.0 e there.0 i (eqb-true w.0.id e.id there.1) in
    ap (λ (o : Option FileEntry). elim o [ None ↦ 0 | Some x ↦ x.folder ]) w.1 ∙ ap (λ (x : FileEntry). x.folder) same

pub flat_alike : (X Y : Type 0) (g h : X → List Y) (xs : List X) → ((x : X) → In x xs → g x ≡ h x) → flat_map g xs ≡ flat_map h xs
flat_alike X Y g h [] same = refl
flat_alike X Y g h (x ∷ xs) same = ap (λ l. l ++ flat_map g xs) (same x (inl refl)) ∙ ap (λ l. h x ++ l) (flat_alike X Y g h xs (λ y i. same y (inr i)))

pub files_told : (s : Store) (rows : List FileRow) → s.files ≡ map file_of_row rows → IsRising (λ (e : FileEntry). e.id) s.files →
    file_row_visits rows ≡ file_visits s TheOwner (files_that (file_allowed_to s TheOwner) s)
unfolding file_visits into_file file_edge files_of file_role allowed_to file_allowed_to
files_told s rows is up =
    let g : ℕ → List Visit = λ x. ToKey (file_edge (folder_of_file s x) x) ∷ ToFile x ∷ [] in
    let h : FileEntry → List Visit = λ e. ToKey (file_edge e.folder e.id) ∷ ToFile e.id ∷ [] in
    listed_plainly FileRow (λ (r : FileRow). file_part r.folder r.id) rows
    ∙ sym (flat_map_map FileRow FileEntry Visit h file_of_row rows)
    ∙ ap (flat_map h) (sym is)
    ∙ sym (flat_alike FileEntry Visit (λ (e : FileEntry). g e.id) h s.files (λ e i. ap (λ f. ToKey (file_edge f e.id) ∷ ToFile e.id ∷ []) (own_folder s e up i)))
    ∙ sym (flat_map_map FileEntry ℕ Visit g (λ (e : FileEntry). e.id) s.files)
    ∙ ap (flat_map g) (sym (all_files s (file_allowed_to s TheOwner) (λ e. refl) up))

abbrev pub holder_row_visits : ℕ → List Visit
holder_row_visits n = map plain_visit (map (λ h. listed.Key (record { 0 = h })) (range_with_len 1 n))

numbers : (ns : List ℕ) → map (λ (e : HolderEntry). e.number) (map keyless ns) ≡ ns
numbers [] = refl
numbers (n ∷ ns) = ap (λ l. n ∷ l) (numbers ns)

plain_holders : (ns : List ℕ) → map plain_visit (map (λ h. listed.Key (record { 0 = h })) ns) ≡ map ToHolder ns
plain_holders [] = refl
plain_holders (n ∷ ns) = ap (λ l. ToHolder n ∷ l) (plain_holders ns)

holders_told : (s : Store) (n : ℕ) → s.holders ≡ map keyless (range_with_len 1 n) → holder_row_visits n ≡ holder_visits s
unfolding holder_visits
holders_told s n is =
    plain_holders (range_with_len 1 n)
    ∙ ap (map ToHolder) (sym (range_ordered 1 n))
    ∙ ap (λ ns. map ToHolder (in_order nat_lt ns)) (sym (numbers (range_with_len 1 n)))
    ∙ ap (λ (es : List HolderEntry). map ToHolder (in_order nat_lt (map (λ (e : HolderEntry). e.number) es))) (sym is)

-- ---- the clearances of files

-- a test over grants hangs on which grants there are, not on their order
grants_alike : (p : GrantEntry → Bool) (gs hs : List GrantEntry) → ((g : GrantEntry) → In g gs ↔ In g hs) → list_any p gs ≡ list_any p hs
grants_alike p gs hs same =
    let told : (xs : List GrantEntry) → IsTrue (list_any p xs) ↔ ((x : GrantEntry) × In x xs × IsTrue (p x)) = λ xs. In-any GrantEntry p (λ x. IsTrue (p x)) (λ x. (λ t. t, λ t. t)) xs in
    (elim (list_any p gs) as (λ b. list_any p gs ≡ b → b ≡ list_any p hs) [
      | true ↦ λ t. let w = (told gs).0 t in sym ((told hs).1 (w.0, (same w.0).0 w.1, w.2))
      | false ↦ λ t. sym (false_from_ne_true (list_any p hs) (λ u. let w = (told hs).0 u in false≢true (sym t ∙ (told gs).1 (w.0, (same w.0).1 w.1, w.2))))
    ]) refl

pub seen_grants : (v : PublicView) (at : Stand) (c : ℕ) → IsSeenAs v at → list_any (λ (g : GrantEntry). g.folder == c) v.pairs ≡ has_grants at.store c
unfolding has_grants
seen_grants v at c seen = grants_alike (λ (g : GrantEntry). g.folder == c) v.pairs at.store.grants seen.grants.same

abbrev pub clearance_row_visits : List GrantEntry → List FileRow → List Visit
clearance_row_visits pairs rows = map plain_visit (flat_map (clearance_of pairs) rows)

-- what is listed of a file that has one, and of one that hasn't
pub clearance_listed : (b : Bool) (n c : FolderId) → cond b (Some n) None ≡ Some c → (listed.Link (edge 1 Owner (Clear c)) ∷ []) ≡ cond b (listed.Link (edge 1 Owner (Clear n)) ∷ []) []
clearance_listed true n c is = let same : n ≡ c = cc in ap (λ f. listed.Link (edge 1 Owner (Clear f)) ∷ []) (sym same)
clearance_listed false n c is = absurd cc

pub clearance_none : (b : Bool) (n : FolderId) (before : List Listed) → cond b (Some n) None ≡ None → before ≡ before ++ cond b (listed.Link (edge 1 Owner (Clear n)) ∷ []) []
clearance_none true n before is = absurd cc
clearance_none false n before is = sym (append-nil before)

plain_clearance : (b : Bool) (x : ℕ) → map plain_visit (cond b (listed.Link (edge 1 Owner (Clear (record { 0 = clear_number x }))) ∷ []) []) ≡ cond b (ToKey (edge 1 Owner (clear_of (clear_number x))) ∷ []) []
unfolding clear_of
plain_clearance true x = refl
plain_clearance false x = refl

where_alone : (X : Type 0) (p : X → Bool) (g : X → Visit) (xs : List X) → flat_map (λ x. cond (p x) (g x ∷ []) []) xs ≡ map g (filter p xs)
where_alone X p g [] = refl
where_alone X p g (x ∷ xs) =
    ap (λ l. cond (p x) (g x ∷ []) [] ++ l) (where_alone X p g xs)
    ∙ elim (p x) as (λ b. cond b (g x ∷ []) [] ++ map g (filter p xs) ≡ map g (cond b (x ∷ filter p xs) (filter p xs))) [ true ↦ refl | false ↦ refl ]

clearances_told : (v : PublicView) (at : Stand) (rows : List FileRow) → v.tree.files ≡ map file_of_row rows → IsTree v.tree → IsSeenAs v at → clearance_row_visits v.pairs rows ≡ clearance_visits at.store
unfolding clearance_visits files_that
clearances_told v at rows are tree seen =
    let s = at.store in
    let xs : s.files ≡ v.tree.files = ap (λ (x : Store). x.files) seen.store in
    let up = subst (λ es. IsRising (λ (e : FileEntry). e.id) es) (sym xs) tree.files_ascend in
    let go : ℕ → Visit = λ x. ToKey (edge 1 Owner (clear_of (clear_number x))) in
    let test : FileEntry → Bool = λ e. has_grants s (clear_number e.id) in
    let one : FileEntry → List Visit = λ e. cond (test e) (go e.id ∷ []) [] in
    let id : FileEntry → ℕ = λ e. e.id in
    listed_plainly FileRow (clearance_of v.pairs) rows
    ∙ flat_alike FileRow Visit (λ r. map plain_visit (clearance_of v.pairs r)) (λ r. one (file_of_row r)) rows
    (λ r i. plain_clearance (list_any (λ (g : GrantEntry). g.folder == clear_number r.id.0) v.pairs) r.id.0 ∙ ap (λ b. cond b (go r.id.0 ∷ []) []) (seen_grants v at (clear_number r.id.0) seen))
    ∙ sym (flat_map_map FileRow FileEntry Visit one file_of_row rows)
    ∙ ap (flat_map one) (sym (xs ∙ are))
    ∙ where_alone FileEntry test (λ e. go e.id) s.files
    ∙ sym (map_map FileEntry ℕ Visit go id (filter test s.files))
    ∙ ap (map go) (sym (ordered FileEntry id (filter test s.files) (AllPairs-filter (λ (a b : FileEntry). a.id < b.id) test s.files up)))

-- ---- all of them

-- the visits to names, then those of files, then those of holders and of clearances
abbrev pub last_visits : List GrantEntry → List FileRow → ℕ → List Visit
last_visits pairs rows n = holder_row_visits n ++ clearance_row_visits pairs rows

abbrev pub all_listed : List Listed → List FileRow → List Visit → List Visit
all_listed names files last = map plain_visit names ++ (file_row_visits files ++ last)

pub keys_listed : (pairs : List GrantEntry) (keys more : List Listed) (rows : List FileRow) (n m : ℕ) → keys ≡ map (λ h. listed.Key (record { 0 = h })) (range_with_len 1 n) → n ≡ m →
    more ≡ keys ++ flat_map (clearance_of pairs) rows → map plain_visit more ≡ last_visits pairs rows m
keys_listed pairs keys more rows n m is count added =
    ap (map plain_visit) added
    ∙ map-append plain_visit keys (flat_map (clearance_of pairs) rows)
    ∙ ap (λ (l : List Listed). map plain_visit l ++ clearance_row_visits pairs rows) (is ∙ ap (λ k. map (λ h. listed.Key (record { 0 = h })) (range_with_len 1 k)) count)

pub visits_told : (v : PublicView) (at : Stand) (names : List Listed) (files rows : List FileRow) → v.tree.files ≡ map file_of_row files → v.tree.files ≡ map file_of_row rows → IsTree v.tree → IsSeenAs v at →
    map plain_visit names ≡ visits_to_names at.store TheOwner → all_listed names files (last_visits v.pairs rows (length v.checks)) ≡ all_visits at.store TheOwner ++ writing_visits at.store
unfolding all_visits writing_visits
visits_told v at names files rows are same tree seen named =
    let s = at.store in
    let xs : s.files ≡ v.tree.files = ap (λ (x : Store). x.files) seen.store in
    let hs : s.holders ≡ map keyless (range_with_len 1 (length v.checks)) = ap (λ (x : Store). x.holders) seen.store in
    let up = subst (λ es. IsRising (λ (e : FileEntry). e.id) es) (sym xs) tree.files_ascend in
    let first = visits_to_names s TheOwner in
    let texts = file_visits s TheOwner (files_that (file_allowed_to s TheOwner) s) in
    let clearances = clearance_row_visits v.pairs rows in
    ap (λ l. l ++ (file_row_visits files ++ (holder_row_visits (length v.checks) ++ clearances))) named
    ∙ ap (λ l. first ++ (l ++ (holder_row_visits (length v.checks) ++ clearances))) (files_told s files (xs ∙ are) up)
    ∙ ap (λ l. first ++ (texts ++ (l ++ clearances))) (holders_told s (length v.checks) hs)
    ∙ ap (λ l. first ++ (texts ++ (holder_visits s ++ l))) (clearances_told v at rows same tree seen)
    ∙ sym (append_assoc first texts (holder_visits s ++ clearance_visits s))

-- ---- what is known of them

pub both_all : (P : Visit → Type 0) (xs ys : List Visit) → AllByRecursion P xs → AllByRecursion P ys → AllByRecursion P (xs ++ ys)
both_all P [] ys a b = b
both_all P (x ∷ xs) ys a b = (a.0, both_all P xs ys a.1 b)

pub all_parts : (P : Visit → Type 0) (xs ys : List Visit) → AllByRecursion P (xs ++ ys) → AllByRecursion P xs × AllByRecursion P ys
all_parts P [] ys a = (tt, a)
all_parts P (x ∷ xs) ys a = let rest = all_parts P xs ys a.1 in ((a.0, rest.0), rest.1)

pub each_all : (P : Visit → Type 0) (X : Type 0) (g : X → List Visit) (xs : List X) → ((x : X) → AllByRecursion P (g x)) → AllByRecursion P (flat_map g xs)
each_all P X g [] all = tt
each_all P X g (x ∷ xs) all = both_all P (g x) (flat_map g xs) (all x) (each_all P X g xs all)

holders_all : (ns : List ℕ) → AllByRecursion (IsFor is_no_holders) (map ToHolder ns)
holders_all [] = tt
holders_all (n ∷ ns) = ((refl, refl), holders_all ns)

pub file_fit : (told : Role → Bool) (r : FileRow) → IsTrue (told (Files r.folder)) → IsTrue (told (File r.id)) → AllByRecursion (IsFor told) (map plain_visit (file_part r.folder r.id))
unfolding edge role_with kind_from kind_to row_numbered role_id file_role
file_fit told r from to = ((record { from_one = omega arith; to_eleven = omega arith; source = refl; target = refl }, from, to), (to, tt))

-- those of files
pub files_fit : (told : Role → Bool) → ((r : FileRow) → IsTrue (told (Files r.folder)) × IsTrue (told (File r.id))) → (files : List FileRow) → AllByRecursion (IsFor told) (file_row_visits files)
files_fit told fit files =
    subst (AllByRecursion (IsFor told)) (sym (listed_plainly FileRow (λ (r : FileRow). file_part r.folder r.id) files))
    (each_all (IsFor told) FileRow (λ (r : FileRow). map plain_visit (file_part r.folder r.id)) files (λ r. file_fit told r (fit r).0 (fit r).1))

clearance_fit : (b : Bool) (x : ℕ) → AllByRecursion (IsFor is_no_holders) (map plain_visit (cond b (listed.Link (edge 1 Owner (Clear (record { 0 = clear_number x }))) ∷ []) []))
unfolding edge role_with kind_from kind_to row_numbered role_id
clearance_fit true x = ((record { from_one = omega arith; to_eleven = omega arith; source = refl; target = refl }, refl, refl), tt)
clearance_fit false x = tt

clearances_fit : (pairs : List GrantEntry) (rows : List FileRow) → AllByRecursion (IsFor is_no_holders) (clearance_row_visits pairs rows)
clearances_fit pairs rows =
    subst (AllByRecursion (IsFor is_no_holders)) (sym (listed_plainly FileRow (clearance_of pairs) rows))
    (each_all (IsFor is_no_holders) FileRow (λ r. map plain_visit (clearance_of pairs r)) rows
    (λ r. clearance_fit (list_any (λ (g : GrantEntry). g.folder == clear_number r.id.0) pairs) r.id.0))

pub all_fit : (names : List Listed) (files rows : List FileRow) (pairs : List GrantEntry) (n : ℕ) → AllByRecursion (IsFor is_no_holders) (map plain_visit names) →
    AllByRecursion (IsFor is_no_holders) (all_listed names files (last_visits pairs rows n))
all_fit names files rows pairs n first =
    let texts = files_fit is_no_holders (λ r. (refl, refl)) files in
    let keys = subst (AllByRecursion (IsFor is_no_holders)) (sym (plain_holders (range_with_len 1 n))) (holders_all (range_with_len 1 n)) in
    let last = both_all (IsFor is_no_holders) (holder_row_visits n) (clearance_row_visits pairs rows) keys (clearances_fit pairs rows) in
    both_all (IsFor is_no_holders) (map plain_visit names) (file_row_visits files ++ last_visits pairs rows n) first (both_all (IsFor is_no_holders) (file_row_visits files) (last_visits pairs rows n) texts last)

-- each holder has a visit
holder_listed : (ns : List ℕ) (e : HolderEntry) → In e (map keyless ns) → In (ToHolder e.number) (map ToHolder ns)
holder_listed [] e i = absurd i
holder_listed (n ∷ ns) e i = ⊎_elim (λ (q : e ≡ keyless n). inl (ap (λ (x : HolderEntry). ToHolder x.number) q)) (λ r. inr (holder_listed ns e r)) i

behind_it : (v : Visit) (a b : List Visit) → In v b → In v (a ++ b)
behind_it v a b i = (In-append Visit v a b).1 (inr i)

pub holders_visited : (v : PublicView) (at : Stand) (names : List Listed) (files rows : List FileRow) (e : HolderEntry) → IsSeenAs v at → In e at.store.holders →
    In (ToHolder e.number) (all_listed names files (last_visits v.pairs rows (length v.checks)))
holders_visited v at names files rows e seen i =
    let n = length v.checks in
    let visit = ToHolder e.number in
    let last = last_visits v.pairs rows n in
    let hs : at.store.holders ≡ map keyless (range_with_len 1 n) = ap (λ (x : Store). x.holders) seen.store in
    let here : In visit (holder_row_visits n) = subst (In visit) (sym (plain_holders (range_with_len 1 n))) (holder_listed (range_with_len 1 n) e (subst (In e) hs i)) in
    behind_it visit (map plain_visit names) (file_row_visits files ++ last)
    (behind_it visit (file_row_visits files) last ((In-append Visit visit (holder_row_visits n) (clearance_row_visits v.pairs rows)).1 (inl here)))

-- the owner has no entry files
pub no_entries : (s : Store) → AreEntryFiles s TheOwner []
unfolding is_entry_file
no_entries s = ap (map entry_of) (sym (none_pass s.files))
  where
    none_pass : (es : List FileEntry) → filter (λ (e : FileEntry). false) es ≡ []
    none_pass [] = refl
    none_pass (e ∷ es) = none_pass es

-- rows have no names
bare_folders : (rows : List FolderRow) (e : FolderEntry) → In e (map folder_of_row rows) → e.name ≡ []
bare_folders [] e i = absurd i
bare_folders (r ∷ rows) e i = ⊎_elim (λ (q : e ≡ folder_of_row r). ap (λ (x : FolderEntry). x.name) q) (λ j. bare_folders rows e j) i

bare_files : (rows : List FileRow) (e : FileEntry) → In e (map file_of_row rows) → (e.name ≡ []) × (e.bytes ≡ [])
bare_files [] e i = absurd i
bare_files (r ∷ rows) e i = ⊎_elim (λ (q : e ≡ file_of_row r). (ap (λ (x : FileEntry). x.name) q, ap (λ (x : FileEntry). x.bytes) q)) (λ j. bare_files rows e j) i

pub rows_nameless : (t : Store) (folders : List FolderRow) (files : List FileRow) → t.folders ≡ map folder_of_row folders → t.files ≡ map file_of_row files → IsNameless t
rows_nameless t folders files fs xs = record {
  folders = λ e i. bare_folders folders e (subst (In e) fs i);
  files = λ e i. bare_files files e (subst (In e) xs i);
}

-- one holder more
pub one_more : (f : ℕ → Listed) (n : ℕ) → map f (range_with_len 1 n) ++ f (n + 1) ∷ [] ≡ map f (range_with_len 1 (n + 1))
one_more f n = sym (map-range_with_len_more f 1 n (n + 1) (omega arith))

-- nor has what the state is seen as
pub seen_nameless : (v : PublicView) (at : Stand) → IsSeenAs v at → IsNameless v.tree → IsNameless at.store
seen_nameless v at seen less =
    let fs : at.store.folders ≡ v.tree.folders = ap (λ (x : Store). x.folders) seen.store in
    let xs : at.store.files ≡ v.tree.files = ap (λ (x : Store). x.files) seen.store in
    record { folders = λ e i. less.folders e (subst (In e) fs i); files = λ e i. less.files e (subst (In e) xs i) }

-- the tree of what the state is seen as is the state's
pub seen_tree : (v : PublicView) (at : Stand) → IsSeenAs v at → IsTree v.tree → IsTree at.store
unfolding folder_entry file_entry way_to_root
seen_tree v at seen tree = subst IsTree (sym seen.store) (record {
  folders_ascend = tree.folders_ascend;
  files_ascend = tree.files_ascend;
  folders_made = tree.folders_made;
  files_made = tree.files_made;
  root = tree.root;
  parents_stand = tree.parents_stand;
  ways_end = tree.ways_end;
  files_stand = tree.files_stand;
})
