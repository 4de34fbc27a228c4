-- Paths down a tree are its ways up, so a walk up from a folder finds the grants that allow it.
use Rattle.std.proofs.Common.{◌≡◌, ◌≢◌, ℕ, zero, suc, ◌<◌, ◌≤◌, true, false, cond, not, ◌==◌, ◌&&◌, ◌||◌, ◌⊎◌, ◌↔◌, List, [], ◌∷◌, map, length, get_or, Some, IsTrue, AllPairs, inl, inr, ⊎_elim, refl, sym, ap, ◌∙◌, subst, arith}
use Rattle.std.specs.List.{list_any}
use Rattle.std.proofs.lemmas.Bool.{false≢true, cases_Bool, or_cases, or_left, or_right, and_parts, and_from, not_from_false, eqb-true, eqb-false, eq-eqb, ne_eqb}
use Rattle.cry_base.specs.Clearances.{clear_base, clear_number}
use Rattle.cry_base.specs.Sets.{In, Path}
use Rattle.cry_base.specs.Sets.Path.{Here, On}
use Rattle.cry_base.specs.Store.{Store, FolderEntry, FileEntry, GrantEntry, folder_entry, file_entry, is_within}
use Rattle.cry_base.proofs.Members.{In-append, In-map, In-any}
use Rattle.cry_base.proofs.Reaching.{Path-on}
use Rattle.cry_base.proofs.Versions.{file_of_folder, file_of_number}
use Rattle.folder_nodes.specs.Looking.{folder_id_of}
use Rattle.folder_nodes.specs.Trees.{IsTree}
use Rattle.folder_nodes.proofs.Upward.{at, Rises, at_id}
use Rattle.folder_nodes.proofs.Treed.{rises, within_on, within_off}
use Rattle.role_graph.specs.PublicStore.{public_store, FoldersBelow, GrantsStand, allows, names, granted_place, is_at_or_below, place_of}
use Rattle.role_graph.specs.Rights.{downs, ups, IsGranted, IsAllowed}
use Rattle.role_graph.specs.RightsByReach.{HasFolder, HasClearNumber, MayBeGranted}
use Rattle.role_graph.proofs.AtRoles.{found_own}
use Rattle.role_graph.proofs.Once.{own_row}
use Rattle.role_graph.proofs.Ordered.{stands_at}
use Rattle.role_graph.proofs.Rightful.{IsFileUp, IsFolderUp, file_up, folder_up, not_both, up_of_file, up_told}

place_in : (xs : List FolderEntry) (e : FolderEntry) → In e xs → (k : ℕ) × (k < length xs) × ((d : FolderEntry) → get_or xs k d ≡ e)
place_in [] e i = absurd i
place_in (x ∷ xs) e i = ⊎_elim
    (λ s. (0, omega arith, λ d. sym s))
    (λ u. let w = place_in xs e u in (suc w.0, omega (arith, w.1), w.2)) i

-- a folder that stands is the one that is found by its number
pub found_row : (xs : List FolderEntry) → AllPairs (λ (a b : FolderEntry). a.id < b.id) xs → (e : FolderEntry) → In e xs → at xs e.id ≡ Some e
found_row [] pairs e i = absurd i
found_row (x ∷ xs) pairs e i = ⊎_elim
    (λ (s : e ≡ x). subst (λ (z : FolderEntry). at (x ∷ xs) z.id ≡ Some z) (sym s) (rw (eq-eqb x.id x.id refl) refl))
    (λ u.
    let w = place_in xs e u in
    let h : x.id < e.id = subst (λ (z : FolderEntry). x.id < z.id) (w.2 e) (pairs 0 (suc w.0) e (omega arith) (omega (arith, w.1))) in
    rw (ne_eqb x.id e.id (omega arith)) (found_row xs (λ j k d p q. pairs (suc j) (suc k) d (omega arith) (omega arith)) e u))
    i

pub found_in : (xs : List FolderEntry) (f : ℕ) (e : FolderEntry) → at xs f ≡ Some e → In e xs
found_in [] f e = λ p. absurd cc
found_in (x ∷ xs) f e = elim (x.id == f) as (λ b. cond b (Some x) (at xs f) ≡ Some e → In e (x ∷ xs)) [
  | true ↦ λ p. let h : x ≡ e = cc in inl (sym h)
  | false ↦ λ p. inr (found_in xs f e p)
]

-- the one folder is the other, or stands above it
abbrev IsAbove : Store → ℕ → ℕ → Type 0
IsAbove s g f = (g ≡ f) ⊎ (is_within s f g ≡ true)

down_edge : (s : Store) (f : ℕ) (e : FolderEntry) → at s.folders f ≡ Some e → In {X = ℕ × ℕ} (e.parent, f) (downs s)
unfolding downs
down_edge s f e p =
    subst (λ z. In {X = ℕ × ℕ} (e.parent, z) (downs s)) (at_id s.folders f e p)
    ((In-map FolderEntry (ℕ × ℕ) (λ (x : FolderEntry). (x.parent, x.id)) (e.parent, e.id) s.folders).1 (e, found_in s.folders f e p, refl))

within_path : (s : Store) → IsTree s → (n f : ℕ) → Rises s.folders n f → (g : ℕ) → is_within s f g ≡ true → Path (downs s) g f
unfolding folder_entry
within_path s tree zero f r g w = absurd (false≢true (sym (within_off s f g r) ∙ w))
within_path s tree (suc n) f r g w =
    let e = r.0 in ⊎_elim
    (λ same. subst (λ z. Path (downs s) z f) (sym (at_id s.folders f e r.1) ∙ eqb-true e.id g same) Here)
    (λ more. On (within_path s tree n e.parent r.2 g more) (down_edge s f e r.1))
    (or_cases (e.id == g) (is_within s e.parent g) (sym (within_on s tree f g e r.1) ∙ w))

within_self : (s : Store) → IsTree s → (g : ℕ) (e : FolderEntry) → at s.folders g ≡ Some e → is_within s g g ≡ true
unfolding folder_entry
within_self s tree g e p = within_on s tree g g e p ∙ or_left (e.id == g) (is_within s e.parent g) (eq-eqb e.id g (at_id s.folders g e p))

-- what a folder is in stands, where it is in one
pub parent_there : (s : Store) → IsTree s → (e : FolderEntry) → In e s.folders → e.parent ≢ 0 → (p : FolderEntry) × (folder_entry s e.parent ≡ Some p)
unfolding folder_entry
parent_there s tree e i some = (elim (e.id == 1) as (λ b. e.id == 1 ≡ b → (p : FolderEntry) × (at s.folders e.parent ≡ Some p)) [
  | true ↦ λ t.
      let one : e.id ≡ 1 = eqb-true e.id 1 t in
      let made = subst (λ (z : FolderEntry). (1 ≤ z.id) × (z.id ≤ s.folders_made)) (w.2 e) (tree.folders_made w.0 e w.1) in
      let top = tree.root (omega (arith, made.0, made.1)) in
      let here : at s.folders 1 ≡ Some e = subst (λ n. at s.folders n ≡ Some e) one (found_row s.folders tree.folders_ascend e i) in
      let both : Some top.0 ≡ Some e = sym top.1 ∙ here in
      let same : top.0 ≡ e = cc in
      absurd (some (ap (λ (z : FolderEntry). z.parent) (sym same) ∙ top.2))
  | false ↦ λ t. subst (λ (z : FolderEntry). z.id ≢ 1 → (p : FolderEntry) × (at s.folders z.parent ≡ Some p)) (w.2 e) (tree.parents_stand w.0 e w.1) (eqb-false e.id 1 t)
]) refl
  where
    w : (k : ℕ) × (k < length s.folders) × ((d : FolderEntry) → get_or s.folders k d ≡ e)
    w = place_in s.folders e i

path_above : (s : Store) → IsTree s → (g : ℕ) → g ≢ 0 → {f : ℕ} → Path (downs s) g f → IsAbove s g f
unfolding downs folder_entry
path_above s tree g some Here = inl refl
path_above s tree g some (On {b = b} {c = c} way step) =
    let w = (In-map FolderEntry (ℕ × ℕ) (λ (x : FolderEntry). (x.parent, x.id)) (b, c) s.folders).0 step in
    let from : b ≡ w.0.parent = ap (λ (p : ℕ × ℕ). p.0) w.2 in
    let to : c ≡ w.0.id = ap (λ (p : ℕ × ℕ). p.1) w.2 in
    let on = within_on s tree w.0.id g w.0 (found_row s.folders tree.folders_ascend w.0 w.1) in
    let itself : g ≡ b → is_within s b g ≡ true = λ same.
    let there = parent_there s tree w.0 w.1 (λ zero. some (same ∙ from ∙ zero)) in
    subst (λ z. is_within s z g ≡ true) same (within_self s tree g there.0 (subst (λ n. at s.folders n ≡ Some there.0) (sym (same ∙ from)) there.1)) in
    let higher : is_within s b g ≡ true = ⊎_elim itself (λ u. u) (path_above s tree g some way) in
    inr (subst (λ z. is_within s z g ≡ true) (sym to) (on ∙ or_right (w.0.id == g) (is_within s w.0.parent g) (subst (λ z. is_within s z g ≡ true) from higher)))

-- a number that isn't 0, and a folder below it
above_told : (s : Store) → IsTree s → (g f : ℕ) → g ≢ 0 → IsAbove s g f ↔ Path (downs s) g f
above_told s tree g f some = (
  λ a. ⊎_elim (λ same. subst (λ z. Path (downs s) g z) same Here) (λ w. let r = rises s tree f in within_path s tree r.0 f r.2 g w) a,
  λ way. path_above s tree g some way,
)

-- the pairs of folders and their parents alone
abbrev folder_ups : Store → List (ℕ × ℕ)
folder_ups s = map folder_up s.folders

-- a path up over folders is a path down, the other way round
up_is_down : (s : Store) (a b : ℕ) → Path (folder_ups s) a b → Path (downs s) b a
unfolding downs
up_is_down s a _ Here = Here
up_is_down s a _ (On {b = b} {c = c} way step) =
    let w = (In-map FolderEntry (ℕ × ℕ) folder_up (b, c) s.folders).0 step in
    let turned : In {X = ℕ × ℕ} (c, b) (downs s) = (In-map FolderEntry (ℕ × ℕ) (λ (x : FolderEntry). (x.parent, x.id)) (c, b) s.folders).1
    (w.0, w.1, ap (λ (p : ℕ × ℕ). (p.1, p.0)) w.2) in
    Path-on (On Here turned) (up_is_down s a b way)

down_is_up : (s : Store) (a b : ℕ) → Path (downs s) a b → Path (folder_ups s) b a
unfolding downs
down_is_up s a _ Here = Here
down_is_up s a _ (On {b = b} {c = c} way step) =
    let w = (In-map FolderEntry (ℕ × ℕ) (λ (x : FolderEntry). (x.parent, x.id)) (b, c) s.folders).0 step in
    let turned : In {X = ℕ × ℕ} (c, b) (folder_ups s) = (In-map FolderEntry (ℕ × ℕ) folder_up (c, b) s.folders).1
    (w.0, w.1, ap (λ (p : ℕ × ℕ). (p.1, p.0)) w.2) in
    Path-on (On Here turned) (down_is_up s a b way)

-- ---- numbers of folders and clearance numbers

pub few_below : (s : Store) → IsTree s → s.folders_made < clear_base → FoldersBelow s
few_below s tree few e i =
    let w = place_in s.folders e i in
    let made = subst (λ (z : FolderEntry). (1 ≤ z.id) × (z.id ≤ s.folders_made)) (w.2 e) (tree.folders_made w.0 e w.1) in
    let most = made.1 in omega (arith, most, few)

low_entry : (s : Store) → FoldersBelow s → (f : ℕ) (p : FolderEntry) → folder_entry s f ≡ Some p → f < clear_base
unfolding folder_entry
low_entry s low f p e = subst (λ n. n < clear_base) (at_id s.folders f p e) (low p (found_in s.folders f p e))

pub low_parent : (s : Store) → IsTree s → FoldersBelow s → (e : FolderEntry) → In e s.folders → e.parent < clear_base
low_parent s tree low e i = (elim (e.parent == 0) as (λ b. e.parent == 0 ≡ b → e.parent < clear_base) [
  | true ↦ λ t. let zero : e.parent ≡ 0 = eqb-true e.parent 0 t in omega (arith, zero)
  | false ↦ λ t. let up = parent_there s tree e i (eqb-false e.parent 0 t) in low_entry s low e.parent up.0 up.1
]) refl

pub low_place : (s : Store) → IsTree s → FoldersBelow s → (x : FileEntry) → In x s.files → x.folder < clear_base
low_place s tree low x i =
    let w = stands_at FileEntry s.files x i in
    let up = subst (λ (z : FileEntry). (p : FolderEntry) × (folder_entry s z.folder ≡ Some p)) (w.2 x) (let at = tree.files_stand w.0 x w.1 in (at.0, at.1)) in
    low_entry s low x.folder up.0 up.1

stands_low : (s : Store) → FoldersBelow s → (f : ℕ) → HasFolder s f → f < clear_base
stands_low s low f w = subst (λ n. n < clear_base) w.2 (low w.0 w.1)

-- from a folder's number the ways up go over folders alone
over_folders : (s : Store) → IsTree s → FoldersBelow s → (a : ℕ) → a < clear_base → {c : ℕ} → Path (ups s) a c → Path (folder_ups s) a c × (c < clear_base)
over_folders s tree low a start Here = (Here, start)
over_folders s tree low a start (On {b = b} {c = c} way step) =
    let so = over_folders s tree low a start way in ⊎_elim
    (λ (w : IsFolderUp s b c).
    let pair : In {X = ℕ × ℕ} (w.0.id, w.0.parent) (folder_ups s) = (In-map FolderEntry (ℕ × ℕ) folder_up (w.0.id, w.0.parent) s.folders).1 (w.0, w.1, refl) in (
      On so.0 (subst (λ z. In {X = ℕ × ℕ} (z, c) (folder_ups s)) w.2 (subst (λ z. In {X = ℕ × ℕ} (w.0.id, z) (folder_ups s)) w.3 pair)),
      subst (λ n. n < clear_base) w.3 (low_parent s tree low w.0 w.1),
    ))
    (λ (w : IsFileUp s b c). absurd (not_both b w.0.id w.2 so.1))
    (up_told s b c step)

among_all : (s : Store) (a : ℕ) {c : ℕ} → Path (folder_ups s) a c → Path (ups s) a c
unfolding ups
among_all s a Here = Here
among_all s a (On {b = b} {c = c} way step) = On (among_all s a way) ((In-append (ℕ × ℕ) (b, c) (folder_ups s) (map file_up s.files)).1 (inl step))

-- from a file's clearance number they go to the folder that the file is in
over_place : (s : Store) → IsTree s → FoldersBelow s → (x : FileEntry) → In x s.files → {c : ℕ} → Path (ups s) (clear_number x.id) c → (clear_number x.id ≡ c) ⊎ Path (ups s) x.folder c
over_place s tree low x i Here = inl refl
over_place s tree low x i (On {b = b} {c = c} way step) = ⊎_elim
    (λ (e : clear_number x.id ≡ b). ⊎_elim
    (λ (w : IsFolderUp s b c). absurd (not_both b x.id e (subst (λ n. n < clear_base) w.2 (low w.0 w.1))))
    (λ (w : IsFileUp s b c).
    let numbers : clear_number x.id ≡ clear_number w.0.id = e ∙ sym w.2 in
    let same : x ≡ w.0 = own_row FileEntry (λ z. z.id) s.files tree.files_ascend x w.0 i w.1 (omega (arith, numbers)) in
    inr (subst (λ n. Path (ups s) x.folder n) (ap (λ (z : FileEntry). z.folder) same ∙ w.3) Here))
    (up_told s b c step))
    (λ p. inr (On p step))
    (over_place s tree low x i way)

-- whether one folder is the other or stands above it, as the tests say it
test_told : (s : Store) (k h g f : ℕ) → IsTrue (k == h && (g == f || (not (f == g) && is_within s f g))) ↔ ((k ≡ h) × IsAbove s g f)
test_told s k h g f = (
  λ t. let both = and_parts _ _ t in
      (eqb-true k h both.0, ⊎_elim (λ e. inl (eqb-true g f e)) (λ w. inr (and_parts _ _ w).1) (or_cases (g == f) _ both.1)),
  λ w. and_from _ _ (eq-eqb k h w.0) (⊎_elim
      (λ e. or_left _ _ (eq-eqb g f e))
      (λ u. ⊎_elim
      (λ (e : (g == f) ≡ true). or_left _ _ e)
      (λ (n : (g == f) ≡ false). or_right _ _ (and_from _ _ (not_from_false (f == g) (ne_eqb f g (λ q. false≢true (sym n ∙ eq-eqb g f (sym q))))) u))
      (cases_Bool (g == f))) w.1),
)

stands_some : (t : Store) → IsTree t → (f : ℕ) → HasFolder t f → f ≢ 0
stands_some t tree f w =
    let at = place_in t.folders w.0 w.1 in
    let made = subst (λ (z : FolderEntry). (1 ≤ z.id) × (z.id ≤ t.folders_made)) (at.2 w.0) (tree.folders_made at.0 w.0 at.1) in
    λ zero. let is = w.2 in let least = made.0 in omega (arith, is, zero, least)

-- grants don't change the ways
plain_ups : (t : Store) (gs : List GrantEntry) (g f : ℕ) → Path (ups (public_store t gs)) g f → Path (ups t) g f
unfolding ups
plain_ups t gs g f way = way

public_ups : (t : Store) (gs : List GrantEntry) (g f : ℕ) → Path (ups t) g f → Path (ups (public_store t gs)) g f
unfolding ups
public_ups t gs g f way = way

-- no grant is on the number 0
granted_some : (t : Store) (gs : List GrantEntry) → IsTree t → (n : ℕ) → MayBeGranted (public_store t gs) n → n ≢ 0
granted_some t gs tree n may = ⊎_elim
    (λ (f : HasFolder (public_store t gs) n). stands_some t tree n f)
    (λ (x : HasClearNumber (public_store t gs) n). λ zero. let is = x.2 in omega (arith, is, zero)) may

pub allowed_is : (t : Store) (gs : List GrantEntry) → IsTree t → GrantsStand (public_store t gs) → (h f : ℕ) → IsTrue (list_any (allows t h f) gs) ↔ IsAllowed (public_store t gs) h f
unfolding allows downs
allowed_is t gs tree stand h f =
    let any = In-any GrantEntry (allows t h f) (λ g. (g.holder ≡ h) × IsAbove t g.folder f) (λ g. test_told t g.holder h g.folder f) gs in (
      λ b. let w = any.0 b in (
        w.0.folder,
        subst (λ k. IsGranted (public_store t gs) k w.0.folder) w.2.0 w.1,
        (above_told t tree w.0.folder f (granted_some t gs tree w.0.folder (stand.granted_stands w.0 w.1))).0 w.2.1,
      ),
      λ w. any.1 (
        (let g : GrantEntry = record { holder = h; folder = w.0 } in g),
        w.1,
        (refl, (above_told t tree w.0 f (granted_some t gs tree w.0 (stand.granted_stands (record { holder = h; folder = w.0 }) w.1))).1 w.2),
      ),
    )

-- ---- where a grant is

folders_place : (t : Store) (n : ℕ) → n < clear_base → granted_place t n ≡ Some (record { 0 = n })
folders_place t n low = ap (place_of t n) (file_of_folder n low)

files_place : (t : Store) → IsTree t → (x : FileEntry) → In x t.files → granted_place t (clear_number x.id) ≡ Some (record { 0 = x.folder })
unfolding file_entry
files_place t tree x i = ap (place_of t (clear_number x.id)) (file_of_number x.id) ∙ ap folder_id_of (found_own FileEntry (λ z. z.id) x t.files tree.files_ascend i)

place_told : (t : Store) (f : ℕ) (g : ℕ) → IsTrue (is_at_or_below t f (Some (record { 0 = g }))) ↔ IsAbove t f g
place_told t f g = (
  λ b. ⊎_elim (λ e. inl (sym (eqb-true g f e))) (λ w. inr (and_parts _ _ w).1) (or_cases (g == f) _ b),
  λ w. ⊎_elim
      (λ e. or_left _ _ (eq-eqb g f (sym e)))
      (λ u. ⊎_elim
      (λ (e : (g == f) ≡ true). or_left _ _ e)
      (λ (n : (g == f) ≡ false). or_right _ _ (and_from _ _ (not_from_false (g == f) n) u))
      (cases_Bool (g == f))) w,
)

module _ (t : Store) (gs : List GrantEntry) (tree : IsTree t) (stand : GrantsStand (public_store t gs)) (f : ℕ) (stands : HasFolder (public_store t gs) f) where
  low : FoldersBelow t
  low = stand.folders_below

  some : f ≢ 0
  some = stands_some t tree f stands

  -- a way up from a folder
  folder_way : (g : ℕ) → g < clear_base → IsAbove t f g ↔ Path (ups (public_store t gs)) g f
  folder_way g small = (
    λ a. among_all (public_store t gs) g (down_is_up t f g ((above_told t tree f g some).0 a)),
    λ way. (above_told t tree f g some).1 (up_is_down t g f (over_folders t tree low g small (plain_ups t gs g f way)).0),
  )

  number_way : (n : ℕ) → MayBeGranted (public_store t gs) n → IsTrue (is_at_or_below t f (granted_place t n)) ↔ Path (ups (public_store t gs)) n f
  number_way n may = ⊎_elim
      (λ (w : HasFolder (public_store t gs) n).
      let small = stands_low t low n w in
      let way = folder_way n small in
      subst (λ o. IsTrue (is_at_or_below t f o) ↔ Path (ups (public_store t gs)) n f) (sym (folders_place t n small))
      (λ b. way.0 ((place_told t f n).0 b), λ p. (place_told t f n).1 (way.1 p)))
      (λ (w : HasClearNumber (public_store t gs) n).
      let x = w.0 in
      let way = folder_way x.folder (low_place t tree low x w.1) in
      let here : IsTrue (is_at_or_below t f (granted_place t (clear_number x.id))) ↔ Path (ups (public_store t gs)) (clear_number x.id) f =
      subst (λ o. IsTrue (is_at_or_below t f o) ↔ Path (ups (public_store t gs)) (clear_number x.id) f) (sym (files_place t tree x w.1)) (
        λ b. Path-on (On Here (up_of_file (public_store t gs) x w.1)) (way.0 ((place_told t f x.folder).0 b)),
        λ p. (place_told t f x.folder).1 (way.1 (⊎_elim
            (λ e. absurd (not_both f x.id e (stands_low t low f stands)))
            (λ q. public_ups t gs x.folder f q)
            (over_place t tree low x w.1 (plain_ups t gs (clear_number x.id) f p)))),
      ) in
      subst (λ k. IsTrue (is_at_or_below t f (granted_place t k)) ↔ Path (ups (public_store t gs)) k f) w.2 here) may

  named_by : (h : ℕ) → IsTrue (list_any (names t h f) gs) ↔ ((g : ℕ) × IsGranted (public_store t gs) h g × Path (ups (public_store t gs)) g f)
  unfolding names
  named_by h =
      let any = In-any GrantEntry (names t h f) (λ g. (g.holder ≡ h) × IsTrue (is_at_or_below t f (granted_place t g.folder))) (λ g. (
        λ b. let both = and_parts _ _ b in (eqb-true g.holder h both.0, both.1),
        λ w. and_from _ _ (eq-eqb g.holder h w.0) w.1,
      )) gs in (
        λ b. let w = any.0 b in (
          w.0.folder,
          subst (λ k. IsGranted (public_store t gs) k w.0.folder) w.2.0 w.1,
          (number_way w.0.folder (stand.granted_stands w.0 w.1)).0 w.2.1,
        ),
        λ w. any.1 (
          (let g : GrantEntry = record { holder = h; folder = w.0 } in g),
          w.1,
          (refl, (number_way w.0 (stand.granted_stands (record { holder = h; folder = w.0 }) w.1)).1 w.2),
        ),
      )

pub named_is : (t : Store) (gs : List GrantEntry) → IsTree t → GrantsStand (public_store t gs) → (h f : ℕ) → HasFolder (public_store t gs) f → IsTrue (list_any (names t h f) gs) ↔ ((g : ℕ) × IsGranted (public_store t gs) h g × Path (ups (public_store t gs)) g f)
named_is t gs tree stand h f stands = named_by t gs tree stand f stands h
