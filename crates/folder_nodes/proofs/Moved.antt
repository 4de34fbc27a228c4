-- A tree stays one where a folder, with all below it, or a file is moved.
use Rattle.std.proofs.Common.{◌≡◌, ◌≢◌, ℕ, zero, suc, ◌+◌, ◌-◌, ◌<◌, ◌≤◌, max, Bool, true, false, cond, ◌==◌, ◌||◌, List, [], ◌∷◌, ◌++◌, length, map, find, Option, Some, None, refl, sym, ap, ◌∙◌, subst, arith}
use Rattle.std.specs.List.{All, AllPairs, fold}
use Rattle.std.specs.Option.{option_map}
use Rattle.std.proofs.lemmas.Bool.{eqb-true, eq-eqb, ne_eqb, false≢true}
use Rattle.std.proofs.lemmas.List.Elements.{All-weaker, All-map, All-nil, All-cons}
use Rattle.cry_base.specs.Refusing.{deepest, height_of, is_node_within}
use Rattle.cry_base.specs.Store.{Store, FolderEntry, FileEntry, way_up, way_to_root, folder_entry, file_entry, folder_node, file_node, nodes_of, depth_of, is_within}
use Rattle.cry_base.specs.Stepping.{with_folder, with_file}
use Rattle.cry_base.specs.declared.roles.Node.{Node}
use Rattle.folder_nodes.specs.Trees.{IsTree}
use Rattle.folder_nodes.proofs.Lookups.{pairs_map}
use Rattle.folder_nodes.proofs.Treed.{rises, levels_are, depth_told, file_depth_told, within_on, within_off}
use Rattle.folder_nodes.proofs.Upward.{at, at_id, Rises, rises_same, rises_way, rises_like}

or_left_none : (a b : Bool) → (a || b) ≡ false → (a ≡ false) × (b ≡ false)
or_left_none true b e = absurd (cc)
or_left_none false b e = (refl, e)

-- a fold by max is at least its start, and at least each of the numbers
fold_start : (a : ℕ) (ys : List ℕ) → a ≤ fold max a ys
fold_start a [] = omega arith
fold_start a (y ∷ ys) = let more : max a y ≤ fold max (max a y) ys = fold_start (max a y) ys in omega (arith, more)

fold_rises : (a b : ℕ) (ys : List ℕ) → a ≤ b → fold max a ys ≤ fold max b ys
fold_rises a b [] h = h
fold_rises a b (y ∷ ys) h = fold_rises (max a y) (max b y) ys (omega (arith, h))

fold_found : (X : Type 0) (v : X → ℕ) (p : X → Bool) (xs : List X) (a : ℕ) (y : X) → find p xs ≡ Some y → v y ≤ fold max a (map v xs)
fold_found X v p [] a y e = absurd (cc)
fold_found X v p (x ∷ xs) a y e =
    (elim (p x) as (λ b. cond b (Some x) (find p xs) ≡ Some y → v y ≤ fold max (max a (v x)) (map v xs)) [
      | true ↦ λ q. let same : x ≡ y = cc in let start : max a (v x) ≤ fold max (max a (v x)) (map v xs) = fold_start (max a (v x)) (map v xs) in let eq : v x ≡ v y = ap v same in omega (arith, start, eq)
      | false ↦ λ q. fold_found X v p xs (max a (v x)) y q
    ]) e

-- how deep a node is, where it is in the folder
unfoldable pub depth_in : Store → ℕ → Node → ℕ
depth_in s g node = cond (is_node_within s g node) (depth_of s node) 0

fold_two : (X : Type 0) (v : X → ℕ) (xs ys : List X) (a : ℕ) → fold max a (map v (xs ++ ys)) ≡ fold max (fold max a (map v xs)) (map v ys)
fold_two X v [] ys a = refl
fold_two X v (x ∷ xs) ys a = fold_two X v xs ys (max a (v x))

fold_map : (X Y : Type 0) (v : Y → ℕ) (h : X → Y) (xs : List X) (a : ℕ) → fold max a (map v (map h xs)) ≡ fold max a (map (λ x. v (h x)) xs)
fold_map X Y v h [] a = refl
fold_map X Y v h (x ∷ xs) a = fold_map X Y v h xs (max a (v (h x)))

-- the deepest of all folders and then of all files
pub deepest_told : (s : Store) (g : ℕ) → deepest s g ≡ fold max (fold max 0 (map (λ (e : FolderEntry). depth_in s g (folder_node e.id)) s.folders)) (map (λ (e : FileEntry). depth_in s g (file_node e.id)) s.files)
unfolding deepest nodes_of depth_in
deepest_told s g =
    let v : Node → ℕ = λ node. cond (is_node_within s g node) (depth_of s node) 0 in
    fold_two Node v (map (λ (e : FolderEntry). folder_node e.id) s.folders) (map (λ (e : FileEntry). file_node e.id) s.files) 0
    ∙ fold_map FileEntry Node v (λ e. file_node e.id) s.files (fold max 0 (map v (map (λ (e : FolderEntry). folder_node e.id) s.folders)))
    ∙ ap (λ n. fold max n (map (λ (e : FileEntry). v (file_node e.id)) s.files)) (fold_map FolderEntry Node v (λ e. folder_node e.id) s.folders 0)

pub folder_below : (s : Store) (g f : ℕ) (e : FolderEntry) → folder_entry s f ≡ Some e → is_within s f g ≡ true → depth_of s (folder_node f) ≤ deepest s g
unfolding folder_entry depth_in is_node_within folder_node
folder_below s g f e p within =
    let v : FolderEntry → ℕ = λ e. cond (is_within s e.id g) (depth_of s (folder_node e.id)) 0 in
    let front = fold max 0 (map v s.folders) in
    let le : v e ≤ front = fold_found FolderEntry v (λ z. z.id == f) s.folders 0 e p in
    let more : front ≤ deepest s g = subst (λ n. front ≤ n) (sym (deepest_told s g)) (fold_start front (map (λ (e : FileEntry). depth_in s g (file_node e.id)) s.files)) in
    let same : e.id ≡ f = at_id s.folders f e p in
    let here : v e ≡ depth_of s (folder_node f) = ap (λ z. cond (is_within s z g) (depth_of s (folder_node z)) 0) same ∙ ap (λ b. cond b (depth_of s (folder_node f)) 0) within in
    omega (arith, le, more, here)

pub file_below : (s : Store) (g x : ℕ) (e : FileEntry) → file_entry s x ≡ Some e → e.id ≡ x → is_within s e.folder g ≡ true → depth_of s (file_node x) ≤ deepest s g
unfolding file_entry depth_in is_node_within file_node
file_below s g x e p same within =
    let v : FileEntry → ℕ = λ e. depth_in s g (file_node e.id) in
    let front = fold max 0 (map (λ (e : FolderEntry). depth_in s g (folder_node e.id)) s.folders) in
    let le : v e ≤ fold max front (map v s.files) = fold_found FileEntry v (λ z. z.id == x) s.files front e p in
    let all : v e ≤ deepest s g = subst (λ n. v e ≤ n) (sym (deepest_told s g)) le in
    let inside : is_node_within s g (file_node x) ≡ true = ap (λ (o : Option FileEntry). elim o [ None ↦ false | Some e ↦ is_within s e.folder g ]) p ∙ within in
    let here : v e ≡ depth_of s (file_node x) = ap (λ z. depth_in s g (file_node z)) same ∙ ap (λ b. cond b (depth_of s (file_node x)) 0) inside in
    omega (arith, all, here)

-- each file of ascending ones is found by its number
pub files_found : (xs : List FileEntry) → AllPairs (λ (a b : FileEntry). a.id < b.id) xs → All (λ (e : FileEntry). find (λ z. z.id == e.id) xs ≡ Some e) xs
files_found [] pairs = All-nil (λ (e : FileEntry). find (λ (z : FileEntry). z.id == e.id) [] ≡ Some e)
files_found (x ∷ xs) pairs =
    All-cons (λ (e : FileEntry). find (λ z. z.id == e.id) (x ∷ xs) ≡ Some e) x xs
    (ap (λ b. cond b (Some x) (find (λ z. z.id == x.id) xs)) (eq-eqb x.id x.id refl))
    (All-weaker (λ (e : FileEntry). (x.id < e.id) × (find (λ z. z.id == e.id) xs ≡ Some e)) (λ (e : FileEntry). find (λ z. z.id == e.id) (x ∷ xs) ≡ Some e)
    (λ e w. ap (λ b. cond b (Some x) (find (λ z. z.id == e.id) xs)) (ne_eqb x.id e.id (λ same. omega (arith, w.0, same))) ∙ w.1) xs
    (λ k d h. (pairs 0 (suc k) d (omega arith) (omega arith), files_found xs (λ i j d lt within. pairs (suc i) (suc j) d (omega arith) (omega arith)) k d h)))

-- one folder put into another
abbrev put : ℕ → ℕ → FolderEntry → FolderEntry
put g q e = cond (e.id == g) (record e { parent = q }) e

put_id : (g q : ℕ) (e : FolderEntry) → (put g q e).id ≡ e.id
put_id g q e = elim (e.id == g) as (λ b. (let z : FolderEntry = cond b (record e { parent = q }) e in z.id) ≡ e.id) [ true ↦ refl | false ↦ refl ]

at_put : (g q : ℕ) (xs : List FolderEntry) (f : ℕ) → at (map (put g q) xs) f ≡ option_map (put g q) (at xs f)
at_put g q [] f = refl
at_put g q (x ∷ xs) f =
    ap (λ n. cond (n == f) (Some (put g q x)) (at (map (put g q) xs) f)) (put_id g q x)
    ∙ elim (x.id == f) as (λ b. cond b (Some (put g q x)) (at (map (put g q) xs) f) ≡ option_map (put g q) (cond b (Some x) (at xs f))) [
      | true ↦ refl
      | false ↦ at_put g q xs f
    ]

-- the rest as it was, and the moved one with its new parent
at_rest : (g q : ℕ) (xs : List FolderEntry) (f : ℕ) → f ≢ g → at (map (put g q) xs) f ≡ at xs f
at_rest g q xs f apart =
    (elim (at xs f) as (λ o. at xs f ≡ o → at (map (put g q) xs) f ≡ o) [
      | None ↦ λ p. at_put g q xs f ∙ ap (option_map (put g q)) p
      | Some e ↦ λ p. at_put g q xs f ∙ ap (option_map (put g q)) p ∙ ap (λ b. Some (cond b (record e { parent = q }) e)) (ne_eqb e.id g (λ same. apart (sym (at_id xs f e p) ∙ same)))
    ]) refl

at_moved : (g q : ℕ) (xs : List FolderEntry) (e : FolderEntry) → at xs g ≡ Some e → at (map (put g q) xs) g ≡ Some (record e { parent = q })
at_moved g q xs e p = at_put g q xs g ∙ ap (option_map (put g q)) p ∙ ap (λ b. Some (cond b (record e { parent = q }) e)) (eq-eqb e.id g (at_id xs g e p))

-- what stands goes on standing
at_stays : (g q : ℕ) (xs : List FolderEntry) (f : ℕ) (e : FolderEntry) → at xs f ≡ Some e → (z : FolderEntry) × (at (map (put g q) xs) f ≡ Some z)
at_stays g q xs f e p = (put g q e, at_put g q xs f ∙ ap (option_map (put g q)) p)

-- a way that doesn't meet the moved folder is as it was
rises_apart : (s : Store) → IsTree s → (g q : ℕ) → (n f : ℕ) → is_within s f g ≡ false → Rises s.folders n f → Rises (map (put g q) s.folders) n f
unfolding folder_entry
rises_apart s tree g q =
    rises_like s.folders (map (put g q) s.folders) (λ f. is_within s f g ≡ false)
    (λ f out.
    (elim (at s.folders f) as (λ o. at s.folders f ≡ o → at (map (put g q) s.folders) f ≡ o) [
      | None ↦ λ p. at_put g q s.folders f ∙ ap (option_map (put g q)) p
      | Some e ↦ λ p.
          let both = or_left_none (e.id == g) (is_within s e.parent g) (sym (within_on s tree f g e p) ∙ out) in
          at_put g q s.folders f ∙ ap (option_map (put g q)) p ∙ ap (λ b. Some (cond b (record e { parent = q }) e)) both.0
    ]) refl)
    (λ f e out p. (or_left_none (e.id == g) (is_within s e.parent g) (sym (within_on s tree f g e p) ∙ out)).1)

-- a way that meets it goes on from the new parent
rises_moved : (s : Store) → IsTree s → (g q ng nq : ℕ) (eg : FolderEntry) → folder_entry s g ≡ Some eg → Rises s.folders ng g → Rises (map (put g q) s.folders) nq q → (n f : ℕ) → is_within s f g ≡ true → Rises s.folders n f → (m : ℕ) × (m + ng ≡ n + suc nq) × Rises (map (put g q) s.folders) m f
unfolding folder_entry
rises_moved s tree g q ng nq eg stands rg rq zero f within r = absurd (false≢true (sym (within_off s f g r) ∙ within))
rises_moved s tree g q ng nq eg stands rg rq (suc n) f within r =
    (elim (r.0.id == g) as (λ b. r.0.id == g ≡ b → (m : ℕ) × (m + ng ≡ suc n + suc nq) × Rises (map (put g q) s.folders) m f) [
      | true ↦ λ t.
          let same : g ≡ f = sym (eqb-true r.0.id g t) ∙ at_id s.folders f r.0 r.1 in
          let levels : suc n ≡ ng = rises_same s.folders (suc n) ng g (subst (λ z. Rises s.folders (suc n) z) (sym same) r) rg in
          (suc nq, omega (arith, levels), subst (λ z. Rises (map (put g q) s.folders) (suc nq) z) same (record eg { parent = q }, at_moved g q s.folders eg stands, rq))
      | false ↦ λ t.
          let up : is_within s r.0.parent g ≡ true = sym (ap (λ b. b || is_within s r.0.parent g) t) ∙ sym (within_on s tree f g r.0 r.1) ∙ within in
          let w = rises_moved s tree g q ng nq eg stands rg rq n r.0.parent up r.2 in
          let z : FolderEntry × (at (map (put g q) s.folders) f ≡ Some r.0) = (r.0, at_put g q s.folders f ∙ ap (option_map (put g q)) r.1 ∙ ap (λ b. Some (cond b (record r.0 { parent = q }) r.0)) t) in
          (suc w.0, omega (arith, w.1), (r.0, z.1, w.2))
    ]) refl

not-false-true : (b : Bool) → (b ≡ true → ⊥) → b ≡ false
not-false-true true h = absurd (h refl)
not-false-true false h = refl

-- how long the ways are behind a move that fits
ways_moved : (s : Store) → IsTree s → (g q ng nq : ℕ) (eg : FolderEntry) → folder_entry s g ≡ Some eg → Rises s.folders ng g → Rises s.folders nq q → is_within s q g ≡ false → (f : ℕ) → (m n : ℕ) × Rises s.folders n f × Rises (map (put g q) s.folders) m f × (is_within s f g ≡ false → m ≡ n) × (is_within s f g ≡ true → m + ng ≡ n + suc nq)
ways_moved s tree g q ng nq eg stands rg rq out f =
    let w = rises s tree f in
    (elim (is_within s f g) as (λ b. is_within s f g ≡ b → (m n : ℕ) × Rises s.folders n f × Rises (map (put g q) s.folders) m f × (is_within s f g ≡ false → m ≡ n) × (is_within s f g ≡ true → m + ng ≡ n + suc nq)) [
      | true ↦ λ t. let v = rises_moved s tree g q ng nq eg stands rg (rises_apart s tree g q nq q out rq) w.0 f t w.2 in (v.0, w.0, w.2, v.2, λ no'. absurd (false≢true (sym no' ∙ t)), λ _. v.1)
      | false ↦ λ t. (w.0, w.0, w.2, rises_apart s tree g q w.0 f t w.2, λ _. refl, λ yes'. absurd (false≢true (sym t ∙ yes')))
    ]) refl

-- the folder's own way is not empty
levels_some : (s : Store) (n f : ℕ) (e : FolderEntry) → folder_entry s f ≡ Some e → Rises s.folders n f → 1 ≤ n
unfolding folder_entry
levels_some s zero f e p r = absurd (cc)
levels_some s (suc n) f e p r = omega arith

module _ (s : Store) (tree : IsTree s) (g q : ℕ) (eg ep : FolderEntry) (stands : folder_entry s g ≡ Some eg) (into : folder_entry s q ≡ Some ep) (out : is_within s q g ≡ false) (fits : depth_of s (folder_node q) + 1 + height_of s (Some (folder_node g)) ≤ 64) where
  -- a folder in the moved one stays within 64 names, and a file in it too
  moved_fits : (ng nq m n f : ℕ) (e : FolderEntry) → folder_entry s f ≡ Some e → Rises s.folders ng g → Rises s.folders nq q → Rises s.folders n f → is_within s f g ≡ true → m + ng ≡ n + suc nq → (m ≤ 65) × ((x : ℕ) (ex : FileEntry) → file_entry s x ≡ Some ex → ex.id ≡ x → ex.folder ≡ f → m ≤ 64)
  unfolding height_of folder_node folder_entry
  moved_fits ng nq m n f e here rg rq r within sum =
      let d = deepest s g in
      let q_depth : depth_of s (folder_node q) ≡ nq - 1 = depth_told s q ∙ ap (λ k. k - 1) (levels_are s nq q rq) in
      let g_depth : depth_of s (folder_node g) ≡ ng - 1 = depth_told s g ∙ ap (λ k. k - 1) (levels_are s ng g rg) in
      let f_depth : depth_of s (folder_node f) ≡ n - 1 = depth_told s f ∙ ap (λ k. k - 1) (levels_are s n f r) in
      let q_some : 1 ≤ nq = levels_some s nq q ep into rq in
      let g_some : 1 ≤ ng = levels_some s ng g eg stands rg in
      let f_some : 1 ≤ n = levels_some s n f e here r in
      let f_below : depth_of s (folder_node f) ≤ d = folder_below s g f e here within in
      let self : is_within s g g ≡ true = within_on s tree g g eg stands ∙ ap (λ b. b || is_within s eg.parent g) (eq-eqb eg.id g (at_id s.folders g eg stands)) in
      let g_below : depth_of s (folder_node g) ≤ d = folder_below s g g eg stands self in
      let room : depth_of s (folder_node q) + 1 + (d - depth_of s (folder_node g)) ≤ 64 = fits in (
        omega (arith, q_depth, g_depth, f_depth, q_some, g_some, f_some, f_below, g_below, room, sum),
        λ x ex p same folder.
            let inside : is_within s ex.folder g ≡ true = ap (λ z. is_within s z g) folder ∙ within in
            let x_below : depth_of s (file_node x) ≤ d = file_below s g x ex p same inside in
            let x_depth : depth_of s (file_node x) ≡ length (way_to_root s ex.folder) - 1 + 1 = file_depth_told s x ex p in
            let levels : length (way_to_root s ex.folder) ≡ n = ap (λ z. length (way_to_root s z)) folder ∙ levels_are s n f r in
            omega (arith, q_depth, g_depth, x_depth, levels, q_some, g_some, f_some, x_below, g_below, room, sum),
      )

  pub folder_moved : g ≢ 1 → IsTree (with_folder s g (λ e. record e { parent = q }))
  unfolding folder_entry with_folder way_to_root
  folder_moved not_root =
      let xs = s.folders in
      let ys = map (put g q) xs in
      let wg = rises s tree g in
      let wq = rises s tree q in
      let ways = ways_moved s tree g q wg.0 wq.0 eg stands wg.2 wq.2 out in
      let short : (f : ℕ) → (m : ℕ) × (m ≤ 65) × Rises ys m f = λ f.
      let w = ways f in
      (elim (at xs f) as (λ o. at xs f ≡ o → (m : ℕ) × (m ≤ 65) × Rises ys m f) [
        | None ↦ λ p. (0, omega arith, at_put g q xs f ∙ ap (option_map (put g q)) p)
        | Some e ↦ λ p.
            (elim (is_within s f g) as (λ b. is_within s f g ≡ b → (m : ℕ) × (m ≤ 65) × Rises ys m f) [
              | true ↦ λ t. (w.0, (moved_fits wg.0 wq.0 w.0 w.1 f e p wg.2 wq.2 w.2 t (w.5 t)).0, w.3)
              | false ↦ λ t. let v = rises s tree f in let same : w.1 ≡ v.0 = rises_same xs w.1 v.0 f w.2 v.2 in let keeps : w.0 ≡ w.1 = w.4 t in (w.0, omega (arith, same, keeps, v.1), w.3)
            ]) refl
      ]) refl in
      record {
        folders_ascend = pairs_map FolderEntry (λ a b. a.id < b.id) (put g q) (λ x y h. let a : (put g q x).id ≡ x.id = put_id g q x in let b : (put g q y).id ≡ y.id = put_id g q y in omega (arith, a, b, h)) xs tree.folders_ascend;
        files_ascend = tree.files_ascend;
        folders_made = All-map (λ (e : FolderEntry). (1 ≤ e.id) × (e.id ≤ s.folders_made)) (put g q) xs (All-weaker (λ (e : FolderEntry). (1 ≤ e.id) × (e.id ≤ s.folders_made)) (λ e. (1 ≤ (put g q e).id) × ((put g q e).id ≤ s.folders_made)) (λ e w. let a : (put g q e).id ≡ e.id = put_id g q e in (omega (arith, a, w.0), omega (arith, a, w.1))) xs tree.folders_made);
        files_made = tree.files_made;
        root = λ h. let w = tree.root h in (w.0, at_rest g q xs 1 (λ same. not_root (sym same)) ∙ w.1, w.2);
        parents_stand = All-map (λ (e : FolderEntry). e.id ≢ 1 → (p : FolderEntry) × (at ys e.parent ≡ Some p)) (put g q) xs
            (All-weaker (λ (e : FolderEntry). e.id ≢ 1 → (p : FolderEntry) × (at xs e.parent ≡ Some p)) (λ e. (put g q e).id ≢ 1 → (p : FolderEntry) × (at ys (put g q e).parent ≡ Some p))
            (λ e w apart.
            let put_stands : (b : Bool) → e.id == g ≡ b → (p : FolderEntry) × (at ys (let z : FolderEntry = cond b (record e { parent = q }) e in z.parent) ≡ Some p) = λ b.
            elim b as (λ b. e.id == g ≡ b → (p : FolderEntry) × (at ys (let z : FolderEntry = cond b (record e { parent = q }) e in z.parent) ≡ Some p)) [
              | true ↦ λ t. at_stays g q xs q ep into
              | false ↦ λ t. let v = w (λ one. apart (put_id g q e ∙ one)) in at_stays g q xs e.parent v.0 v.1
            ] in
            put_stands (e.id == g) refl) xs tree.parents_stand);
        ways_end = λ f. let w = short f in let e : length (way_up 66 ys f) ≡ w.0 = rises_way ys w.0 66 f w.2 (omega (arith, w.1)) in omega (arith, e, w.1);
        files_stand = All-weaker
            (λ (x : FileEntry). ((p : FolderEntry) × (at xs x.folder ≡ Some p) × (length (way_up (length xs) xs x.folder) ≤ 64)) × (find (λ z. z.id == x.id) s.files ≡ Some x))
            (λ (x : FileEntry). (p : FolderEntry) × (at ys x.folder ≡ Some p) × (length (way_up (length ys) ys x.folder) ≤ 64))
            (λ x v.
            let w = ways x.folder in
            let old : length (way_up (length xs) xs x.folder) ≡ w.1 = levels_are s w.1 x.folder w.2 in
            let young : length (way_up (length ys) ys x.folder) ≡ w.0 = levels_are (with_folder s g (λ e. record e { parent = q })) w.0 x.folder w.3 in
            let few : w.0 ≤ 64 =
            (elim (is_within s x.folder g) as (λ b. is_within s x.folder g ≡ b → w.0 ≤ 64) [
              | true ↦ λ t. (moved_fits wg.0 wq.0 w.0 w.1 x.folder v.0.0 v.0.1 wg.2 wq.2 w.2 t (w.5 t)).1 x.id x (unfold file_entry in v.1) refl refl
              | false ↦ λ t. let keeps : w.0 ≡ w.1 = w.4 t in omega (arith, keeps, old, v.0.2)
            ]) refl in
            let stays = at_stays g q xs x.folder v.0.0 v.0.1 in
            (stays.0, stays.1, omega (arith, young, few))) s.files
            (λ k d h. (tree.files_stand k d h, files_found s.files tree.files_ascend k d h));
      }

-- one file put into another folder
abbrev put_file : ℕ → ℕ → FileEntry → FileEntry
put_file x q e = cond (e.id == x) (record e { folder = q }) e

put_file_id : (x q : ℕ) (e : FileEntry) → (put_file x q e).id ≡ e.id
put_file_id x q e = elim (e.id == x) as (λ b. (let z : FileEntry = cond b (record e { folder = q }) e in z.id) ≡ e.id) [ true ↦ refl | false ↦ refl ]

pub file_moved : (s : Store) → IsTree s → (x q : ℕ) (p : FolderEntry) → folder_entry s q ≡ Some p → length (way_to_root s q) ≤ 64 → IsTree (with_file s x (λ e. record e { folder = q }))
unfolding folder_entry with_file way_to_root
file_moved s tree x q p into few =
    let P : FileEntry → Type 0 = λ e. (p : FolderEntry) × (at s.folders e.folder ≡ Some p) × (length (way_up (length s.folders) s.folders e.folder) ≤ 64) in
    record {
      folders_ascend = tree.folders_ascend;
      files_ascend = pairs_map FileEntry (λ a b. a.id < b.id) (put_file x q) (λ a b h. let u : (put_file x q a).id ≡ a.id = put_file_id x q a in let v : (put_file x q b).id ≡ b.id = put_file_id x q b in omega (arith, u, v, h)) s.files tree.files_ascend;
      folders_made = tree.folders_made;
      files_made = All-map (λ (e : FileEntry). (1 ≤ e.id) × (e.id ≤ s.files_made)) (put_file x q) s.files (All-weaker (λ (e : FileEntry). (1 ≤ e.id) × (e.id ≤ s.files_made)) (λ e. (1 ≤ (put_file x q e).id) × ((put_file x q e).id ≤ s.files_made)) (λ e w. let a : (put_file x q e).id ≡ e.id = put_file_id x q e in (omega (arith, a, w.0), omega (arith, a, w.1))) s.files tree.files_made);
      root = tree.root;
      parents_stand = tree.parents_stand;
      ways_end = tree.ways_end;
      files_stand = All-map P (put_file x q) s.files (All-weaker P (λ e. P (put_file x q e)) (λ e w.
          elim (e.id == x) as (λ b. P (cond b (record e { folder = q }) e)) [ true ↦ (p, into, few) | false ↦ w ]) s.files tree.files_stand);
    }
