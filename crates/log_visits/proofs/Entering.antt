-- The entry files that code looks up are those of the store.
use Rattle.std.proofs.Common.{◌≡◌, ℕ, ◌<◌, ◌≤◌, Bool, true, false, not, ◌==◌, ◌↔◌, ◌⊎◌, ⊎_elim, List, [], ◌∷◌, ◌++◌, map, filter, length, Option, None, Some, inl, inr, refl, sym, ap, subst, ◌∙◌, arith}
use Rattle.std.specs.Global.{Vec}
use Rattle.std.specs.Prelude.{IfOk, OnOk, Result, Ok, Err, option_map}
use Rattle.std.proofs.lemmas.List.{append-nil}
use Rattle.std.specs.List.{AllPairs, flat_map, list_any}
use Rattle.std.proofs.lemmas.Bool.{and_from, and_parts, eq-eqb, eqb-true, not-true, not_from_false}
use Rattle.std.proofs.lemmas.List.Kept.{AllPairs-cons, AllPairs-filter}
use Rattle.cry_base.specs.Clearances.{clear_number, file_of}
use Rattle.cry_base.specs.Limits.{most_depth}
use Rattle.cry_base.specs.Sets.{In}
use Rattle.cry_base.specs.Store.{Store, FileEntry, FolderEntry, GrantEntry, file_entry, folder_entry, has_grant, way_to_root}
use Rattle.cry_base.specs.declared.ids.FileId.{FileId}
use Rattle.cry_base.specs.declared.ids.FolderId.{FolderId}
use Rattle.cry_base.specs.declared.ids.HolderId.{HolderId}
use Rattle.cry_base.proofs.Finding.{find-found, found-find}
use Rattle.cry_base.proofs.Versions.{file_number, file_of_number}
use Rattle.cry_base.proofs.Members.{In-any, In-filter, In-flat_map, In-map, filter-In}
use Rattle.folder_nodes.specs.Looking.{folder_id_of}
use Rattle.folder_nodes.specs.Trees.{IsTree}
use Rattle.folder_nodes.proofs.Upward.{at_id}
use Rattle.folder_nodes.proofs.Ascending.{All-in, head_below, in-All, rest_rising, rising_through, same_ranked}
use Rattle.grant_book.specs.Cleared.{as_file}
use Rattle.grant_book.specs.Granted.{folders_of, is_grant}
use Rattle.log_visits.specs.Entries.{AreEntryFiles, entries_of, entry_alone, entry_at, entry_if, entry_of, file_named, file_numbered, file_with, may_all}
use Rattle.log_visits.specs.Sights.{MayRead, plain_viewer}
use Rattle.log_visits.specs.Visits.{is_entry_file}
use Rattle.log_visits.specs.declared.entry_files.EntryFile.{EntryFile}
use Rattle.log_visits.specs.declared.sights.Viewer.{Viewer}
use Rattle.log_visits.specs.declared.sights.Viewer.TheVariants as viewers
use Rattle.log_visits.proofs.OwnerVisits.{no_entries}
use Rattle.log_visits.proofs.Sighted.{all_allowed, seen_entry}
use Rattle.public_fold.specs.Journal.{Stand}
use Rattle.public_fold.specs.Standing.{IsSeenAs, PublicView}
use Rattle.role_graph.specs.PublicStore.{GrantsStand}
use Rattle.role_graph.specs.Rights.{allowed, allowed_to}
use Rattle.role_graph.specs.Rights.Who.{TheHolder}
use Rattle.role_graph.specs.RightsByReach.{HasFolder}
use Rattle.role_graph.proofs.Standing.{found_in}

-- ---- rising lists with the same members are one

abbrev IsRising : {X : Type 0} → (X → ℕ) → List X → Type 0
IsRising rank xs = AllPairs (λ x y. rank x < rank y) xs

above : (X : Type 0) (rank : X → ℕ) (x y : X) (xs : List X) → IsRising rank (x ∷ xs) → In y xs → rank x < rank y
above X rank x y xs up i = All-in X (λ z. rank x < rank z) xs y (head_below X rank x xs up) i

one_list : (X : Type 0) (rank : X → ℕ) (xs ys : List X) → IsRising rank xs → IsRising rank ys → ((x : X) → In x xs ↔ In x ys) → xs ≡ ys
one_list X rank [] [] up down same = refl
one_list X rank [] (y ∷ ys) up down same = absurd ((same y).1 (inl refl))
one_list X rank (x ∷ xs) [] up down same = absurd ((same x).0 (inl refl))
one_list X rank (x ∷ xs) (y ∷ ys) up down same =
    let first : x ≡ y = ⊎_elim
    (λ (q : x ≡ y). q)
    (λ i. ⊎_elim
    (λ (q : y ≡ x). sym q)
    (λ j. let low = above X rank y x ys down i in let high = above X rank x y xs up j in absurd (omega (arith, low, high)))
    ((same y).1 (inl refl)))
    ((same x).0 (inl refl))
    in
    let ranks : rank x ≡ rank y = ap rank first in
    ap (λ z. z ∷ xs) first ∙ ap (λ l. y ∷ l) (one_list X rank xs ys (rest_rising X rank x xs up) (rest_rising X rank y ys down) (λ z. (
      λ i. ⊎_elim (λ (q : z ≡ y). let low = above X rank x z xs up i in let here : rank z ≡ rank y = ap rank q in absurd (omega (arith, low, here, ranks))) (λ j. j) ((same z).0 (inr i)),
      λ i. ⊎_elim (λ (q : z ≡ x). let low = above X rank y z ys down i in let here : rank z ≡ rank x = ap rank q in absurd (omega (arith, low, here, ranks))) (λ j. j) ((same z).1 (inr i)),
    )))

-- ---- what is found for one number

-- nothing, or one entry file with this clearance
abbrev IsOne : FolderId → List EntryFile → Type 0
IsOne n xs = (xs ≡ []) ⊎ ((x : EntryFile) × (xs ≡ x ∷ []) × (x.clearance ≡ n))

one_entry : (tree : Store) (pairs : List GrantEntry) (h : ℕ) (n : FolderId) → IsOne n (entry_at tree pairs h n)
one_entry tree pairs h n = by_number (file_of n.0)
  where
    by_test : (x : EntryFile) → x.clearance ≡ n → (b : Bool) → IsOne n (entry_alone b x)
    by_test x own true = inl refl
    by_test x own false = inr (x, refl, own)

    by_entry : (o : Option FileEntry) → IsOne n (entry_if tree pairs h (file_with n o))
    by_entry None = inl refl
    by_entry (Some e) = by_test (record { file = record { 0 = e.id }; folder = record { 0 = e.folder }; clearance = n }) refl (may_all tree pairs h e.folder)

    by_number : (o : Option ℕ) → IsOne n (entry_if tree pairs h (file_numbered tree n o))
    by_number None = inl refl
    by_number (Some x) = by_entry (file_entry tree x)

-- the entry files of rising numbers rise
abbrev rank : EntryFile → ℕ
rank x = x.clearance.0

entries_rise : (g : FolderId → List EntryFile) → ((n : FolderId) → IsOne n (g n)) → (ns : List FolderId) → AllPairs (λ (a b : FolderId). a.0 < b.0) ns → IsRising rank (flat_map g ns)
entries_rise g one [] up = λ i j d lt within. absurd (omega (arith, within))
entries_rise g one (n ∷ ns) up =
    let rest = entries_rise g one ns (rest_rising FolderId (λ m. m.0) n ns up) in ⊎_elim
    (λ (none : g n ≡ []). subst (λ l. IsRising rank (l ++ flat_map g ns)) (sym none) rest)
    (λ w.
    let x : EntryFile = w.0 in
    subst (λ l. IsRising rank (l ++ flat_map g ns)) (sym w.1) (AllPairs-cons (λ (a b : EntryFile). rank a < rank b) x (flat_map g ns)
    (in-All EntryFile (λ y. rank x < rank y) (flat_map g ns) (λ y i.
    let m = (In-flat_map FolderId EntryFile g y ns).0 i in
    let low : n.0 < m.0.0 = above FolderId (λ k. k.0) n m.0 ns up m.1 in
    let own : y.clearance ≡ m.0 = clearance_in m.0 y m.2 in
    let here : rank x ≡ n.0 = ap (λ (k : FolderId). k.0) w.2 in
    let there : rank y ≡ m.0.0 = ap (λ (k : FolderId). k.0) own in
    omega (arith, low, here, there))) rest))
    (one n)
  where
    clearance_in : (m : FolderId) (y : EntryFile) → In y (g m) → y.clearance ≡ m
    clearance_in m y i = ⊎_elim
        (λ (none : g m ≡ []). absurd (subst (In y) none i))
        (λ w. ⊎_elim (λ (q : y ≡ w.0). ap (λ (z : EntryFile). z.clearance) q ∙ w.2) (λ n. absurd n) (subst (In y) w.1 i))
        (one m)

-- ---- which these are

-- what an entry file is found for
abbrev IsFoundOf : Store → List GrantEntry → ℕ → FolderId → EntryFile → Type 0
IsFoundOf tree pairs h n x = (e : FileEntry) × In e tree.files × (clear_number e.id ≡ n.0) × (may_all tree pairs h e.folder ≡ false) × (x ≡ entry_of e)

entry_told : (tree : Store) (pairs : List GrantEntry) (h : ℕ) (n : FolderId) (x : EntryFile) → In x (entry_at tree pairs h n) → IsFoundOf tree pairs h n x
unfolding file_entry
entry_told tree pairs h n x = by_number (file_of n.0) refl
  where
    by_entry : (k : ℕ) → clear_number k ≡ n.0 → (o : Option FileEntry) → file_entry tree k ≡ o → In x (entry_if tree pairs h (file_with n o)) → IsFoundOf tree pairs h n x
    by_entry k own None is = λ i. absurd i
    by_entry k own (Some e) is =
        let w = find-found FileEntry (λ (d : FileEntry). d.id == k) tree.files e is in
        let id : e.id ≡ k = eqb-true e.id k w.1 in
        let number : clear_number e.id ≡ n.0 = ap clear_number id ∙ own in
        (elim (may_all tree pairs h e.folder) as (λ b. may_all tree pairs h e.folder ≡ b →
        In x (entry_alone b (record { file = record { 0 = e.id }; folder = record { 0 = e.folder }; clearance = n })) → IsFoundOf tree pairs h n x) [
          | true ↦ λ t i. absurd i
          | false ↦ λ t i. ⊎_elim
              (λ (q : x ≡ record { file = record { 0 = e.id }; folder = record { 0 = e.folder }; clearance = n }).
              (e, w.0, number, t, q ∙ (λ j. record { file = record { 0 = e.id }; folder = record { 0 = e.folder }; clearance = record { 0 = sym number j } })))
              (λ none. absurd none) i
        ]) refl

    by_number : (o : Option ℕ) → file_of n.0 ≡ o → In x (entry_if tree pairs h (file_numbered tree n o)) → IsFoundOf tree pairs h n x
    by_number None t i = absurd i
    by_number (Some k) t i = by_entry k (sym (file_number n.0 k t)) (file_entry tree k) refl i

own_entry : (tree : Store) (e : FileEntry) → IsTree tree → In e tree.files → file_entry tree e.id ≡ Some e
unfolding file_entry
own_entry tree e of i =
    let test : FileEntry → Bool = λ d. d.id == e.id in
    let w = found-find FileEntry test e tree.files i (eq-eqb e.id e.id refl) in
    let there = find-found FileEntry test tree.files w.0 w.1 in
    let same : w.0 ≡ e = same_ranked FileEntry (λ (d : FileEntry). d.id) tree.files of.files_ascend w.0 e there.0 i (eqb-true w.0.id e.id there.1) in
    w.1 ∙ ap (λ d. Some d) same

told_entry : (tree : Store) (pairs : List GrantEntry) (h : ℕ) (e : FileEntry) → IsTree tree → In e tree.files → may_all tree pairs h e.folder ≡ false →
    In (entry_of e) (entry_at tree pairs h (record { 0 = clear_number e.id }))
told_entry tree pairs h e of i shut =
    let n : FolderId = record { 0 = clear_number e.id } in
    let is : entry_at tree pairs h n ≡ entry_of e ∷ [] =
    ap (λ o. entry_if tree pairs h (file_numbered tree n o)) (file_of_number e.id)
    ∙ ap (λ o. entry_if tree pairs h (file_with n o)) (own_entry tree e of i)
    ∙ ap (λ b. entry_alone b (entry_of e)) shut
    in
    subst (In (entry_of e)) (sym is) (inl refl)

-- ---- all of them

holder_granted : (pairs : List GrantEntry) (h : ℕ) (n : FolderId) → In n (folders_of pairs h) ↔ (list_any (is_grant h n.0) pairs ≡ true)
holder_granted pairs h n =
    let number : GrantEntry → FolderId = λ e. record { 0 = e.folder } in
    let own : GrantEntry → Bool = λ e. e.holder == h in
    let told = In-any GrantEntry (is_grant h n.0) (λ e. is_grant h n.0 e ≡ true) (λ e. (λ t. t, λ t. t)) pairs in (
      λ i.
          let w = (In-map GrantEntry FolderId number n (filter own pairs)).0 i in
          let f = In-filter GrantEntry own w.0 pairs w.1 in
          told.1 (w.0, f.0, and_from (w.0.holder == h) (w.0.folder == n.0) f.1 (eq-eqb w.0.folder n.0 (ap (λ (k : FolderId). k.0) (sym w.2)))),
      λ t.
          let w = told.0 t in
          let both = and_parts (w.0.holder == h) (w.0.folder == n.0) w.2 in
          (In-map GrantEntry FolderId number n (filter own pairs)).1 (w.0, filter-In GrantEntry own w.0 pairs w.1 both.0, (λ i. record { 0 = sym (eqb-true w.0.folder n.0 both.1) i })),
    )

file_stands : (tree : Store) (e : FileEntry) → IsTree tree → In e tree.files → HasFolder tree e.folder
unfolding folder_entry
file_stands tree e of i =
    let w = All-in FileEntry (λ (d : FileEntry). (p : FolderEntry) × (folder_entry tree d.folder ≡ Some p) × (length (way_to_root tree d.folder) ≤ most_depth)) tree.files e of.files_stand i in
    (w.0, found_in tree.folders e.folder w.0 w.1, at_id tree.folders e.folder w.0 w.1)

pub entries_are : (v : PublicView) (at : Stand) (h : ℕ) → IsTree v.tree → IsSeenAs v at → GrantsStand at.store → AllPairs (λ (a b : FolderId). a.0 < b.0) (folders_of v.pairs h) →
    AreEntryFiles at.store (TheHolder h) (entries_of v.tree v.pairs h)
unfolding is_entry_file allowed_to
entries_are v at h tree seen stand up =
    let s = at.store in
    let files : s.files ≡ v.tree.files = ap (λ (x : Store). x.files) seen.store in
    let test : FileEntry → Bool = is_entry_file s (TheHolder h) in
    let ascend : IsRising (λ (e : FileEntry). e.id) (filter test s.files) =
    AllPairs-filter (λ (a b : FileEntry). a.id < b.id) test s.files (subst (IsRising (λ (e : FileEntry). e.id)) (sym files) tree.files_ascend)
    in
    one_list EntryFile rank (entries_of v.tree v.pairs h) (map entry_of (filter test s.files))
    (entries_rise (entry_at v.tree v.pairs h) (one_entry v.tree v.pairs h) (folders_of v.pairs h) up)
    (rising_through FileEntry EntryFile entry_of rank (filter test s.files) (λ i j d lt within. let low = ascend i j d lt within in omega (arith, low)))
    (λ x. (
      λ i.
          let m = (In-flat_map FolderId EntryFile (entry_at v.tree v.pairs h) x (folders_of v.pairs h)).0 i in
          let w = entry_told v.tree v.pairs h m.0 x m.2 in
          let e : FileEntry = w.0 in
          let granted : has_grant s h (clear_number e.id) ≡ true =
          ap (has_grant s h) w.2 ∙ sym (seen_entry v at h m.0.0 seen) ∙ (holder_granted v.pairs h m.0).0 m.1
          in
          let shut : allowed s h e.folder ≡ false = sym (all_allowed v at h e.folder tree seen stand (file_stands v.tree e tree w.1)) ∙ w.3 in
          (In-map FileEntry EntryFile entry_of x (filter test s.files)).1
          (e, filter-In FileEntry test e s.files (subst (In e) (sym files) w.1) (and_from (has_grant s h (clear_number e.id)) (not (allowed s h e.folder)) granted (not_from_false (allowed s h e.folder) shut)), w.4),
      λ i.
          let w = (In-map FileEntry EntryFile entry_of x (filter test s.files)).0 i in
          let e : FileEntry = w.0 in
          let f = In-filter FileEntry test e s.files w.1 in
          let there : In e v.tree.files = subst (In e) files f.0 in
          let both = and_parts (has_grant s h (clear_number e.id)) (not (allowed s h e.folder)) f.1 in
          let n : FolderId = record { 0 = clear_number e.id } in
          let granted : In n (folders_of v.pairs h) = (holder_granted v.pairs h n).1 (seen_entry v at h (clear_number e.id) seen ∙ both.0) in
          let shut : may_all v.tree v.pairs h e.folder ≡ false = all_allowed v at h e.folder tree seen stand (file_stands v.tree e tree there) ∙ not-true (allowed s h e.folder) both.1 in
          subst (λ y. In y (entries_of v.tree v.pairs h)) (sym w.2)
          ((In-flat_map FolderId EntryFile (entry_at v.tree v.pairs h) (entry_of e) (folders_of v.pairs h)).1 (n, granted, told_entry v.tree v.pairs h e tree there shut)),
    ))

-- ---- what is listed

-- the file that a number names
pub named_is : (tree : Store) (number : FolderId) (file : FileId) (folder : FolderId) → Some file ≡ option_map as_file (file_of number.0) → Some folder ≡ folder_id_of (file_entry tree file.0) →
    Some (record { file = file; folder = folder; clearance = number }) ≡ file_named tree number
unfolding file_entry
named_is tree number file folder named stands = by_number (file_of number.0) named
  where
    by_entry : (o : Option FileEntry) → file_entry tree file.0 ≡ o → Some folder ≡ folder_id_of o → Some (record { file = file; folder = folder; clearance = number }) ≡ file_with number o
    by_entry None is some = absurd cc
    by_entry (Some e) is some =
        let w = find-found FileEntry (λ (d : FileEntry). d.id == file.0) tree.files e is in
        let id : e.id ≡ file.0 = eqb-true e.id file.0 w.1 in
        let at : folder ≡ record { 0 = e.folder } = cc in
        λ i. Some (record { file = record { 0 = sym id i }; folder = at i; clearance = number })

    by_number : (o : Option ℕ) → Some file ≡ option_map as_file o → Some (record { file = file; folder = folder; clearance = number }) ≡ file_numbered tree number o
    by_number None some = absurd cc
    by_number (Some k) some =
        let same : file ≡ as_file k = cc in
        by_entry (file_entry tree file.0) refl stands ∙ ap (λ (x : FileId). file_with number (file_entry tree x.0)) same

-- an entry that is found is added
pub entry_pushed : {E : Type 0} (tree : Store) (pairs : List GrantEntry) (h : ℕ) (number : FolderId) (x : EntryFile) (o : Option EntryFile) (old new : List EntryFile) (result : Result (Unit {0}) E) → o ≡ file_named tree number → o ≡ Some x →
    OnOk result (new ≡ old ++ entry_alone (may_all tree pairs h x.folder.0) x) → OnOk result (new ≡ old ++ entry_at tree pairs h number)
entry_pushed tree pairs h number x o old new (Ok u) is some pushed = pushed ∙ ap (λ f. old ++ entry_if tree pairs h f) (sym some ∙ is)
entry_pushed tree pairs h number x o old new (Err e) is some pushed = tt

pub no_entry_pushed : (tree : Store) (pairs : List GrantEntry) (h : ℕ) (number : FolderId) (o : Option EntryFile) (old : List EntryFile) → o ≡ file_named tree number → o ≡ None → old ≡ old ++ entry_at tree pairs h number
no_entry_pushed tree pairs h number o old is none = sym (append-nil old) ∙ ap (λ f. old ++ entry_if tree pairs h f) (sym none ∙ is)

-- the owner has none, and a holder those that are looked up
pub owners_entered : (v : PublicView) (viewer : Viewer) (entries : List EntryFile) → viewer ≡ viewers.Owner → entries ≡ [] →
    (at : Stand) → IsSeenAs v at → MayRead at.store (plain_viewer viewer) → AreEntryFiles at.store (plain_viewer viewer) entries
owners_entered v viewer entries is none = λ at seen may. subst (λ (x : Viewer). AreEntryFiles at.store (plain_viewer x) entries) (sym is) (none ∙ no_entries at.store)

pub holders_entered : {E : Type 0} (v : PublicView) (tree : Store) (pairs : List GrantEntry) (viewer : Viewer) (h : HolderId) (result : Result (Vec EntryFile) E) → viewer ≡ viewers.Holder h → tree ≡ v.tree →
    pairs ≡ v.pairs → IsTree tree → IfOk result (λ l. (l.items ≡ entries_of tree pairs h.0) × AllPairs (λ (a b : FolderId). a.0 < b.0) (folders_of pairs h.0)) →
    IfOk result (λ l. (at : Stand) → IsSeenAs v at → MayRead at.store (plain_viewer viewer) → AreEntryFiles at.store (plain_viewer viewer) l.items)
holders_entered v tree pairs viewer h (Ok l) is same alike tree_of made = λ at seen may.
    subst (λ (x : Viewer). AreEntryFiles at.store (plain_viewer x) l.items) (sym is)
    (made.0 ∙ ap (λ (t : Store). entries_of t pairs h.0) same ∙ ap (λ gs. entries_of v.tree gs h.0) alike
    ∙ entries_are v at h.0 (subst IsTree same tree_of) seen (subst (λ (x : Viewer). MayRead at.store (plain_viewer x)) is may) (subst (λ gs. AllPairs (λ (a b : FolderId). a.0 < b.0) (folders_of gs h.0)) alike made.1))
holders_entered v tree pairs viewer h (Err e) is same alike tree_of made = tt
