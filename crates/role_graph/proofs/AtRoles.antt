-- The edges at a role are those of its folder, of what stands beside it, and of its grants.
use Rattle.std.proofs.Common.{◌≡◌, ℕ, zero, suc, ◌<◌, Bool, true, false, cond, ◌==◌, List, [], ◌∷◌, ◌++◌, map, filter, find, length, get_or, Option, Some, None, is_some, AllPairs, inl, inr, ⊎_elim, refl, sym, ap, ◌∙◌, subst, arith, append-nil}
use Rattle.std.specs.List.{flat_map}
use Rattle.std.proofs.lemmas.Bool.{false≢true, eqb-true, eq-eqb, ne_eqb}
use Rattle.std.proofs.lemmas.List.Elements.{filter-append}
use Rattle.cry_base.specs.Sets.{In}
use Rattle.cry_base.specs.Store.{Store, FolderEntry, FileEntry, GrantEntry, folder_entry, file_entry}
use Rattle.cry_base.specs.declared.roles.Edge.{Edge}
use Rattle.cry_base.proofs.Finding.{find-found}
use Rattle.cry_base.proofs.Members.{In-map, In-filter, filter-In}
use Rattle.folder_nodes.specs.Inside.{AreListed, is_child_of, is_file_of}
use Rattle.folder_nodes.specs.Trees.{IsTree}
use Rattle.folder_nodes.proofs.Lookups.{filter-map}
use Rattle.role_graph.specs.Adjacent.{AreChildren, plain_edges, where_stands}
use Rattle.role_graph.specs.Edges.{folder_edges, parent_edges, grant_edge, file_edge}
use Rattle.role_graph.proofs.Ordered.{stands_at}

-- ---- lists

abbrev pub no_edges : List Edge
no_edges = []

pub flat_filtered : (X : Type 0) (p : Edge → Bool) (g : X → List Edge) (xs : List X) → filter p (flat_map g xs) ≡ flat_map (λ x. filter p (g x)) xs
flat_filtered X p g [] = refl
flat_filtered X p g (x ∷ xs) = filter-append p (g x) (flat_map g xs) ∙ ap (λ (l : List Edge). filter p (g x) ++ l) (flat_filtered X p g xs)

pub flat_alike : (X : Type 0) (g h : X → List Edge) → ((x : X) → g x ≡ h x) → (xs : List X) → flat_map g xs ≡ flat_map h xs
flat_alike X g h same [] = refl
flat_alike X g h same (x ∷ xs) = λ i. same x i ++ flat_alike X g h same xs i

pub flat_none : (X : Type 0) (xs : List X) → flat_map (λ (x : X). no_edges) xs ≡ no_edges
flat_none X [] = refl
flat_none X (x ∷ xs) = flat_none X xs

pub flat_one : (X : Type 0) (k : X → Edge) (xs : List X) → flat_map (λ x. k x ∷ []) xs ≡ map k xs
flat_one X k [] = refl
flat_one X k (x ∷ xs) = ap (λ l. k x ∷ l) (flat_one X k xs)

pub flat_kept : (X : Type 0) (q : X → Bool) (k : X → Edge) (xs : List X) → flat_map (λ x. cond (q x) (k x ∷ []) []) xs ≡ map k (filter q xs)
flat_kept X q k [] = refl
flat_kept X q k (x ∷ xs) = elim (q x) as (λ b. cond b (k x ∷ []) [] ++ flat_map (λ y. cond (q y) (k y ∷ []) []) xs ≡ map k (cond b (x ∷ filter q xs) (filter q xs))) [
  | true ↦ ap (λ l. k x ∷ l) (flat_kept X q k xs)
  | false ↦ flat_kept X q k xs
]

pub filter_none : (X : Type 0) (q : X → Bool) → ((x : X) → q x ≡ false) → (xs : List X) → filter q xs ≡ []
filter_none X q none [] = refl
filter_none X q none (x ∷ xs) = ap (λ b. cond b (x ∷ filter q xs) (filter q xs)) (none x) ∙ filter_none X q none xs

pub map_kept : (X Y : Type 0) (q : X → Bool) (f g : X → Y) → ((x : X) → q x ≡ true → f x ≡ g x) → (xs : List X) → map f (filter q xs) ≡ map g (filter q xs)
map_kept X Y q f g same [] = refl
map_kept X Y q f g same (x ∷ xs) = (elim (q x) as (λ b. q x ≡ b → map f (cond b (x ∷ filter q xs) (filter q xs)) ≡ map g (cond b (x ∷ filter q xs) (filter q xs))) [
  | true ↦ λ t i. same x t i ∷ map_kept X Y q f g same xs i
  | false ↦ λ t. map_kept X Y q f g same xs
]) refl

-- ---- rows by number

abbrev pub ByNumber : (X : Type 0) → (X → ℕ) → List X → Type 0
ByNumber X id xs = AllPairs (λ (a b : X). id a < id b) xs

pub above : (X : Type 0) (id : X → ℕ) (x : X) (xs : List X) → ByNumber X id (x ∷ xs) → (y : X) → In y xs → id x < id y
above X id x xs up y i = let w = stands_at X xs y i in subst (λ z. id x < id z) (w.2 y) (up 0 (suc w.0) y (omega arith) (omega (arith, w.1)))

pub behind : (X : Type 0) (id : X → ℕ) (x : X) (xs : List X) → ByNumber X id (x ∷ xs) → ByNumber X id xs
behind X id x xs up = λ i j d lt within. up (suc i) (suc j) d (omega arith) (omega arith)

-- what a row gives, where it is found
abbrev pub given : (X : Type 0) → (X → List Edge) → Option X → List Edge
given X h None = []
given X h (Some x) = h x

no_other : (X : Type 0) (id : X → ℕ) (h : X → List Edge) (k : ℕ) (xs : List X) → ((x : X) → In x xs → id x == k ≡ false) → flat_map (λ x. cond (id x == k) (h x) []) xs ≡ []
no_other X id h k [] none = refl
no_other X id h k (x ∷ xs) none = ap (λ b. cond b (h x) [] ++ flat_map (λ y. cond (id y == k) (h y) []) xs) (none x (inl refl)) ∙ no_other X id h k xs (λ y i. none y (inr i))

pub only : (X : Type 0) (id : X → ℕ) (h : X → List Edge) (k : ℕ) (xs : List X) → ByNumber X id xs → flat_map (λ x. cond (id x == k) (h x) []) xs ≡ given X h (find (λ x. id x == k) xs)
only X id h k [] up = refl
only X id h k (x ∷ xs) up = (elim (id x == k) as (λ b. id x == k ≡ b → cond b (h x) [] ++ flat_map (λ y. cond (id y == k) (h y) []) xs ≡ given X h (cond b (Some x) (find (λ y. id y == k) xs))) [
  | true ↦ λ t. ap (λ l. h x ++ l) (no_other X id h k xs (λ y i.
      let here : id x ≡ k = eqb-true (id x) k t in let more = above X id x xs up y i in ne_eqb (id y) k (omega (arith, here, more)))) ∙ append-nil (h x)
  | false ↦ λ t. only X id h k xs (behind X id x xs up)
]) refl

-- ascending numbers that are the same numbers are one list
first_number : (x y : ℕ) (xs ys : List ℕ) → ByNumber ℕ (λ n. n) (x ∷ xs) → ByNumber ℕ (λ n. n) (y ∷ ys) → In x (y ∷ ys) → In y (x ∷ xs) → x ≡ y
first_number x y xs ys p q i j = ⊎_elim (λ e. e) (λ u. ⊎_elim (λ e. sym e) (λ v. absurd (
    let a = above ℕ (λ n. n) y ys q x u in let b = above ℕ (λ n. n) x xs p y v in omega (arith, a, b))) j) i

rest_number : (x : ℕ) (xs ys : List ℕ) → ByNumber ℕ (λ n. n) (x ∷ xs) → ((n : ℕ) → In n (x ∷ xs) → In n (x ∷ ys)) → (n : ℕ) → In n xs → In n ys
rest_number x xs ys p told n i = ⊎_elim (λ (e : n ≡ x). absurd (let a = above ℕ (λ m. m) x xs p n i in omega (arith, a, e))) (λ u. u) (told n (inr i))

same_numbers : (xs ys : List ℕ) → ByNumber ℕ (λ n. n) xs → ByNumber ℕ (λ n. n) ys → ((n : ℕ) → In n xs → In n ys) → ((n : ℕ) → In n ys → In n xs) → xs ≡ ys
same_numbers [] [] p q on back = refl
same_numbers [] (y ∷ ys) p q on back = absurd (back y (inl refl))
same_numbers (x ∷ xs) [] p q on back = absurd (on x (inl refl))
same_numbers (x ∷ xs) (y ∷ ys) p q on back =
    let e : x ≡ y = first_number x y xs ys p q (on x (inl refl)) (back y (inl refl)) in
    let on' : (n : ℕ) → In n (x ∷ xs) → In n (x ∷ ys) = subst (λ z. (n : ℕ) → In n (x ∷ xs) → In n (z ∷ ys)) (sym e) on in
    let back' : (n : ℕ) → In n (x ∷ ys) → In n (x ∷ xs) = subst (λ z. (n : ℕ) → In n (z ∷ ys) → In n (x ∷ xs)) (sym e) back in
    let q' : ByNumber ℕ (λ n. n) (x ∷ ys) = subst (λ z. ByNumber ℕ (λ n. n) (z ∷ ys)) (sym e) q in
    λ i. e i ∷ same_numbers xs ys (behind ℕ (λ n. n) x xs p) (behind ℕ (λ n. n) y ys q) (rest_number x xs ys p on') (rest_number x ys xs q' back') i

get-in : (l : List ℕ) (k : ℕ) (d : ℕ) → k < length l → In (get_or l k d) l
get-in [] k d lt = absurd (omega arith)
get-in (y ∷ ys) zero d lt = inl refl
get-in (y ∷ ys) (suc k) d lt = inr (get-in ys k d (omega arith))

-- a number below all of some that ascend
under : (n : ℕ) (ns : List ℕ) → ByNumber ℕ (λ m. m) ns → ((m : ℕ) → In m ns → n < m) → ByNumber ℕ (λ m. m) (n ∷ ns)
under n ns up low zero zero d lt within = absurd (omega arith)
under n ns up low zero (suc j) d lt within = low (get_or ns j d) (get-in ns j d (omega arith))
under n ns up low (suc i) zero d lt within = absurd (omega arith)
under n ns up low (suc i) (suc j) d lt within = up i j d (omega arith) (omega arith)

numbered : (X : Type 0) (id : X → ℕ) (q : X → Bool) (xs : List X) → ByNumber X id xs → ByNumber ℕ (λ n. n) (map id (filter q xs))
numbered X id q [] up = λ i j d lt within. absurd (omega arith)
numbered X id q (x ∷ xs) up =
    let rest : ByNumber ℕ (λ n. n) (map id (filter q xs)) = numbered X id q xs (behind X id x xs up) in
    elim (q x) as (λ b. ByNumber ℕ (λ n. n) (map id (cond b (x ∷ filter q xs) (filter q xs)))) [
      | true ↦ under (id x) (map id (filter q xs)) rest (λ n i.
          let w = (In-map X ℕ id n (filter q xs)).0 i in
          subst (λ z. id x < z) (sym w.2) (above X id x xs up w.0 (In-filter X q w.0 xs w.1).0))
      | false ↦ rest
    ]

pub found_own : (X : Type 0) (id : X → ℕ) (x : X) (xs : List X) → ByNumber X id xs → In x xs → find (λ y. id y == id x) xs ≡ Some x
found_own X id x [] up i = absurd i
found_own X id x (z ∷ zs) up i = (elim (id z == id x) as (λ b. id z == id x ≡ b → cond b (Some z) (find (λ y. id y == id x) zs) ≡ Some x) [
  | true ↦ λ t. ⊎_elim (λ (e : x ≡ z). ap (λ y. Some y) (sym e))
      (λ u. absurd (let here : id z ≡ id x = eqb-true (id z) (id x) t in let more = above X id z zs up x u in omega (arith, here, more))) i
  | false ↦ λ t. ⊎_elim (λ (e : x ≡ z). absurd (false≢true (sym t ∙ eq-eqb (id z) (id x) (ap id (sym e))))) (λ u. found_own X id x zs (behind X id z zs up) u) i
]) refl

-- those that are listed are those of the rows that pass
listed_rows : (X : Type 0) (id : X → ℕ) (q : X → Bool) (at : Option X → Bool) (xs : List X) (ids : List ℕ) → ByNumber X id xs
    → at None ≡ false → ((x : X) → at (Some x) ≡ q x) → AreListed (λ n. at (find (λ x. id x == n) xs)) ids → ids ≡ map id (filter q xs)
listed_rows X id q at xs ids up never is listed = same_numbers ids (map id (filter q xs)) listed.rising (numbered X id q xs up)
    (λ n i. there n (find (λ x. id x == n) xs) refl ((listed.told n).0 i))
    (λ n i.
    let w = (In-map X ℕ id n (filter q xs)).0 i in
    let both = In-filter X q w.0 xs w.1 in
    (listed.told n).1 (ap (λ z. at (find (λ x. id x == z) xs)) w.2 ∙ ap at (found_own X id w.0 xs up both.0) ∙ is w.0 ∙ both.1))
  where
    there : (n : ℕ) (o : Option X) → find (λ x. id x == n) xs ≡ o → at (find (λ x. id x == n) xs) ≡ true → In n (map id (filter q xs))
    there n None e t = absurd (false≢true (sym never ∙ ap at (sym e) ∙ t))
    there n (Some x) e t =
        let w = find-found X (λ y. id y == n) xs x e in
        (In-map X ℕ id n (filter q xs)).1 (x, filter-In X q x xs w.0 (sym (is x) ∙ ap at (sym e) ∙ t), sym (eqb-true (id x) n w.1))

pub children_listed : (s : Store) → IsTree s → (f : ℕ) (ids : List ℕ) → (f == 0) ≡ false → AreListed (λ g. is_child_of f (folder_entry s g)) ids → AreChildren s f ids
unfolding folder_entry
children_listed s tree f ids n listed =
    listed_rows FolderEntry (λ e. e.id) (λ e. e.parent == f) (is_child_of f) s.folders ids tree.folders_ascend refl (λ e. refl) listed
    ∙ ap (λ b. map (λ (e : FolderEntry). e.id) (cond b [] (filter (λ (e : FolderEntry). e.parent == f) s.folders))) (sym n)

pub files_listed : (s : Store) → IsTree s → (f : ℕ) (ids : List ℕ) → AreListed (λ x. is_file_of f (file_entry s x)) ids → ids ≡ map (λ (e : FileEntry). e.id) (filter (λ e. e.folder == f) s.files)
unfolding file_entry
files_listed s tree f ids listed = listed_rows FileEntry (λ e. e.id) (λ e. e.folder == f) (is_file_of f) s.files ids tree.files_ascend refl (λ e. refl) listed

-- ---- the four parts of the edges

abbrev pub of_grant : GrantEntry → Edge
of_grant g = grant_edge g.holder g.folder

abbrev pub of_file : FileEntry → Edge
of_file e = file_edge e.folder e.id

abbrev pub with_parent : FolderEntry → List Edge
with_parent e = cond (e.parent == 0) [] (parent_edges e.id e.parent)

pub parts : (p : Edge → Bool) (s : Store) (a b c d : List Edge)
    → flat_map (λ (e : FolderEntry). filter p (folder_edges e.id)) s.folders ≡ a
    → flat_map (λ (e : FolderEntry). filter p (with_parent e)) s.folders ≡ b
    → map of_grant (filter (λ g. p (of_grant g)) s.grants) ≡ c
    → map of_file (filter (λ e. p (of_file e)) s.files) ≡ d
    → filter p (plain_edges s) ≡ ((a ++ b) ++ c) ++ d
unfolding plain_edges
parts p s a b c d own up given files =
    let owns = flat_map (λ (e : FolderEntry). folder_edges e.id) s.folders in
    let bs = flat_map with_parent s.folders in
    let cs = map of_grant s.grants in
    let ds = map of_file s.files in
    filter-append p ((owns ++ bs) ++ cs) ds
    ∙ (λ i. filter-append p (owns ++ bs) cs i ++ filter p ds)
    ∙ (λ i. (filter-append p owns bs i ++ filter p cs) ++ filter p ds)
    ∙ (λ i. (((flat_filtered FolderEntry p (λ e. folder_edges e.id) s.folders ∙ own) i ++ (flat_filtered FolderEntry p with_parent s.folders ∙ up) i)
    ++ (filter-map GrantEntry Edge of_grant p s.grants ∙ given) i) ++ (filter-map FileEntry Edge of_file p s.files ∙ files) i)

pub no_grants : (p : Edge → Bool) (s : Store) → ((g : GrantEntry) → p (of_grant g) ≡ false) → map of_grant (filter (λ g. p (of_grant g)) s.grants) ≡ []
no_grants p s none = ap (map of_grant) (filter_none GrantEntry (λ g. p (of_grant g)) none s.grants)

pub no_files : (p : Edge → Bool) (s : Store) → ((e : FileEntry) → p (of_file e) ≡ false) → map of_file (filter (λ e. p (of_file e)) s.files) ≡ []
no_files p s none = ap (map of_file) (filter_none FileEntry (λ e. p (of_file e)) none s.files)

pub no_folders : (g : FolderEntry → List Edge) (s : Store) → ((e : FolderEntry) → g e ≡ []) → flat_map g s.folders ≡ []
no_folders g s none = flat_alike FolderEntry g (λ e. no_edges) none s.folders ∙ flat_none FolderEntry s.folders

-- the folder's own edges, where it stands
pub own_part : (s : Store) → IsTree s → (g : FolderEntry → List Edge) (h : ℕ → List Edge) (f : ℕ) → ((e : FolderEntry) → g e ≡ cond (e.id == f) (h e.id) []) → flat_map g s.folders ≡ where_stands s f (h f)
unfolding where_stands folder_entry
own_part s tree g h f is =
    flat_alike FolderEntry g (λ e. cond (e.id == f) (h e.id) []) is s.folders
    ∙ only FolderEntry (λ e. e.id) (λ e. h e.id) f s.folders tree.folders_ascend
    ∙ here (find (λ e. e.id == f) s.folders) refl
  where
    here : (o : Option FolderEntry) → find (λ (e : FolderEntry). e.id == f) s.folders ≡ o → given FolderEntry (λ e. h e.id) o ≡ cond (is_some o) (h f) []
    here None e = refl
    here (Some x) e = ap h (eqb-true x.id f (find-found FolderEntry (λ y. y.id == f) s.folders x e).1)
