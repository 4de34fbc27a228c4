-- Steps down the tree, from child to child.
use Rattle.std.proofs.Common.{◌≡◌, ℕ, zero, suc, ◌+◌, ◌-◌, ◌≤◌, max, Bool, true, false, cond, ◌==◌, ◌||◌, ◌⊎◌, List, [], ◌∷◌, ◌++◌, map, find, length, Option, Some, None, refl, sym, ap, ◌∙◌, subst, inl, inr, ⊎_elim, arith}
use Rattle.std.specs.Prelude.{IsSome}
use Rattle.std.specs.List.{All, fold, list_any}
use Rattle.std.proofs.lemmas.Bool.{eqb-true, eq-eqb, false≢true, or_cases, or_right}
use Rattle.std.proofs.lemmas.List.Elements.{All-append, All-cons, All-head, All-tail, All-nil, All-weaker}
use Rattle.cry_base.specs.Refusing.{deepest, is_node_within}
use Rattle.cry_base.specs.Sets.{In}
use Rattle.cry_base.specs.Store.{Store, FolderEntry, FileEntry, way_to_root, folder_entry, file_entry, folder_node, file_node, depth_of, is_within}
use Rattle.cry_base.proofs.Members.{In-any, In-map}
use Rattle.folder_nodes.specs.Inside.{is_child_of}
use Rattle.folder_nodes.specs.Trees.{IsTree}
use Rattle.folder_nodes.specs.declared.spots.Spot.{Spot}
use Rattle.folder_nodes.proofs.Ascending.{All-in}
use Rattle.folder_nodes.proofs.Climbing.{level_on, levels_few}
use Rattle.folder_nodes.proofs.Downward.{entry_id, entry_in, file_id, folders_found}
use Rattle.folder_nodes.proofs.Heights.{depth_below}
use Rattle.folder_nodes.proofs.Located.{file_in}
use Rattle.folder_nodes.proofs.Moved.{depth_in, deepest_told, folder_below, file_below, files_found}
use Rattle.folder_nodes.proofs.Treed.{rises, depth_told, file_depth_told, within_on, within_off}
use Rattle.folder_nodes.proofs.Upward.{Rises}

-- a child of the folder f: it stands, and is in f
abbrev pub IsChild : Store → ℕ → FolderEntry → Type 0
IsChild s f c = (folder_entry s c.id ≡ Some c) × (c.parent ≡ f)

-- so many levels are there below f, and the files in it, and these of its children with all below them, are within them
abbrev IsCovered : Store → ℕ → ℕ → Spot → Type 0
IsCovered s f n q = is_child_of f (folder_entry s q.id) ≡ true → deepest s q.id ≤ depth_of s (folder_node f) + n

pub record Descends (s : Store) (f n : ℕ) (spots : List Spot) : Type 0 where
  pub reached : depth_of s (folder_node f) + n ≤ deepest s f
  pub files : list_any (λ (e : FileEntry). e.folder == f) s.files ≡ true → 1 ≤ n
  pub covered : All (λ (q : Spot). is_child_of f (folder_entry s q.id) ≡ true → deepest s q.id ≤ depth_of s (folder_node f) + n) spots

module _ (s : Store) (tree : IsTree s) where
  within_itself : (f : ℕ) (e : FolderEntry) → folder_entry s f ≡ Some e → is_within s f f ≡ true
  within_itself f e p = within_on s tree f f e p ∙ ap (λ b. b || is_within s e.parent f) (eq-eqb e.id f (entry_id s f e p))

  -- what is within a folder is the folder, or within a child of it
  within_child : (f n g : ℕ) → Rises s.folders n g → is_within s g f ≡ true → (g ≡ f) ⊎ ((c : FolderEntry) × IsChild s f c × (is_within s g c.id ≡ true))
  unfolding folder_entry
  within_child f zero g r within = absurd (false≢true (sym (within_off s g f r) ∙ within))
  within_child f (suc n) g r within =
      let e = r.0 in
      let id : e.id ≡ g = entry_id s g e r.1 in
      let onward = within_on s tree g f e r.1 in
      ⊎_elim
      (λ (t : e.id == f ≡ true). inl (sym id ∙ eqb-true e.id f t))
      (λ (t : is_within s e.parent f ≡ true). ⊎_elim
      (λ (top : e.parent ≡ f). inr (e, (subst (λ k. folder_entry s k ≡ Some e) (sym id) r.1, top), subst (λ k. is_within s g k ≡ true) (sym id) (within_itself g e r.1)))
      (λ (w : (c : FolderEntry) × IsChild s f c × (is_within s e.parent c.id ≡ true)).
      inr (w.0, w.1, within_on s tree g w.0.id e r.1 ∙ or_right (e.id == w.0.id) (is_within s e.parent w.0.id) w.2))
      (within_child f n e.parent r.2 t))
      (or_cases (e.id == f) (is_within s e.parent f) (sym onward ∙ within))

  -- what is within a child is within the folder
  within_parent : (f : ℕ) (ef c : FolderEntry) → folder_entry s f ≡ Some ef → IsChild s f c → (n g : ℕ) → Rises s.folders n g → is_within s g c.id ≡ true → is_within s g f ≡ true
  unfolding folder_entry
  within_parent f ef c stands child zero g r within = absurd (false≢true (sym (within_off s g c.id r) ∙ within))
  within_parent f ef c stands child (suc n) g r within =
      let e = r.0 in
      ⊎_elim
      (λ (t : e.id == c.id ≡ true).
      let same : g ≡ c.id = sym (entry_id s g e r.1) ∙ eqb-true e.id c.id t in
      subst (λ k. is_within s k f ≡ true) (sym same)
      (within_on s tree c.id f c child.0 ∙ or_right (c.id == f) (is_within s c.parent f) (subst (λ k. is_within s k f ≡ true) (sym child.1) (within_itself f ef stands))))
      (λ (t : is_within s e.parent c.id ≡ true).
      within_on s tree g f e r.1 ∙ or_right (e.id == f) (is_within s e.parent f) (within_parent f ef c stands child n e.parent r.2 t))
      (or_cases (e.id == c.id) (is_within s e.parent c.id) (sym (within_on s tree g c.id e r.1) ∙ within))

-- the greatest of numbers that are all at most b
fold_most : (X : Type 0) (v : X → ℕ) (b : ℕ) (xs : List X) (a : ℕ) → a ≤ b → All (λ x. v x ≤ b) xs → fold max a (map v xs) ≤ b
fold_most X v b [] a start all = start
fold_most X v b (x ∷ xs) a start all =
    let here : v x ≤ b = All-head (λ x. v x ≤ b) x xs all in
    fold_most X v b xs (max a (v x)) (omega (arith, start, here)) (All-tail (λ x. v x ≤ b) x xs all)

cond_most : (t : Bool) (n b : ℕ) → (t ≡ true → n ≤ b) → cond t n 0 ≤ b
cond_most true n b most = most refl
cond_most false n b most = omega arith

-- no node of a folder is deeper than b, so the deepest isn't
deepest_most : (s : Store) → IsTree s → (f b : ℕ)
    → ((g : ℕ) (e : FolderEntry) → folder_entry s g ≡ Some e → is_within s g f ≡ true → depth_of s (folder_node g) ≤ b)
    → ((x : ℕ) (e : FileEntry) → file_entry s x ≡ Some e → is_within s e.folder f ≡ true → depth_of s (file_node x) ≤ b)
    → deepest s f ≤ b
unfolding depth_in is_node_within folder_entry file_entry folder_node file_node
deepest_most s tree f b folders files =
    let v : FolderEntry → ℕ = λ e. depth_in s f (folder_node e.id) in
    let w : FileEntry → ℕ = λ e. depth_in s f (file_node e.id) in
    let v_most : All (λ (e : FolderEntry). v e ≤ b) s.folders =
    All-weaker (λ (e : FolderEntry). find (λ z. z.id == e.id) s.folders ≡ Some e) (λ e. v e ≤ b)
    (λ e p. cond_most (is_within s e.id f) (depth_of s (folder_node e.id)) b (folders e.id e p)) s.folders (folders_found s.folders tree.folders_ascend) in
    let w_most : All (λ (e : FileEntry). w e ≤ b) s.files =
    All-weaker (λ (e : FileEntry). find (λ z. z.id == e.id) s.files ≡ Some e) (λ e. w e ≤ b)
    (λ e p.
    let inside : is_node_within s f (file_node e.id) ≡ is_within s e.folder f = ap (λ (o : Option FileEntry). elim o [ None ↦ false | Some e ↦ is_within s e.folder f ]) p in
    cond_most (is_node_within s f (file_node e.id)) (depth_of s (file_node e.id)) b (λ t. files e.id e p (sym inside ∙ t))) s.files (files_found s.files tree.files_ascend) in
    subst (λ n. n ≤ b) (sym (deepest_told s f)) (fold_most FileEntry w b s.files (fold max 0 (map v s.folders)) (fold_most FolderEntry v b s.folders 0 (omega arith) v_most) w_most)

module _ (s : Store) (tree : IsTree s) where
  -- no node is deeper than 64 names
  pub depth_few : (g : ℕ) → depth_of s (folder_node g) ≤ 64
  depth_few g =
      let told : depth_of s (folder_node g) ≡ length (way_to_root s g) - 1 = depth_told s g in
      let few : length (way_to_root s g) ≤ 65 = levels_few s tree g in omega (arith, told, few)

  pub deepest_few : (f : ℕ) → deepest s f ≤ 64
  deepest_few f = deepest_most s tree f 64
      (λ g e p within. depth_few g)
      (λ x e p within.
      let told : depth_of s (file_node x) ≡ length (way_to_root s e.folder) - 1 + 1 = file_depth_told s x e p in
      let level : length (way_to_root s e.folder) ≡ suc (length (way_to_root s (above x e p).0.parent)) = level_on s tree e.folder (above x e p).0 (above x e p).1 in
      let few : length (way_to_root s e.folder) ≤ 64 = (above x e p).2 in omega (arith, told, few, level))
    where
      above : (x : ℕ) (e : FileEntry) → file_entry s x ≡ Some e → (p : FolderEntry) × (folder_entry s e.folder ≡ Some p) × (length (way_to_root s e.folder) ≤ 64)
      above x e p = All-in FileEntry (λ (e : FileEntry). (p : FolderEntry) × (folder_entry s e.folder ≡ Some p) × (length (way_to_root s e.folder) ≤ 64)) s.files e tree.files_stand (file_in s x e p)

  file_found : (e : FileEntry) → In e s.files → file_entry s e.id ≡ Some e
  unfolding file_entry
  file_found e i = All-in FileEntry (λ (e : FileEntry). find (λ z. z.id == e.id) s.files ≡ Some e) s.files e (files_found s.files tree.files_ascend) i

  module _ (f : ℕ) (ef : FolderEntry) (stands : folder_entry s f ≡ Some ef) where
    levels_some : 1 ≤ length (way_to_root s f)
    levels_some = let level : length (way_to_root s f) ≡ suc (length (way_to_root s ef.parent)) = level_on s tree f ef stands in omega (arith, level)

    -- a file in the folder is one deeper, and so is a child
    file_deeper : (x : ℕ) (e : FileEntry) → file_entry s x ≡ Some e → e.folder ≡ f → depth_of s (file_node x) ≡ depth_of s (folder_node f) + 1
    file_deeper x e p here =
        let told : depth_of s (file_node x) ≡ length (way_to_root s e.folder) - 1 + 1 = file_depth_told s x e p in
        let same : length (way_to_root s e.folder) ≡ length (way_to_root s f) = ap (λ k. length (way_to_root s k)) here in
        let depth : depth_of s (folder_node f) ≡ length (way_to_root s f) - 1 = depth_told s f in
        omega (arith, told, same, depth)

    pub child_deeper : (c : FolderEntry) → IsChild s f c → depth_of s (folder_node c.id) ≡ depth_of s (folder_node f) + 1
    child_deeper c child =
        let told : depth_of s (folder_node c.id) ≡ length (way_to_root s c.id) - 1 = depth_told s c.id in
        let level : length (way_to_root s c.id) ≡ suc (length (way_to_root s c.parent)) = level_on s tree c.id c child.0 in
        let same : length (way_to_root s c.parent) ≡ length (way_to_root s f) = ap (λ k. length (way_to_root s k)) child.1 in
        let some : 1 ≤ length (way_to_root s f) = levels_some in
        let depth : depth_of s (folder_node f) ≡ length (way_to_root s f) - 1 = depth_told s f in
        omega (arith, told, level, same, some, depth)

    -- the deepest node of a child is in the folder
    child_below : (c : FolderEntry) → IsChild s f c → deepest s c.id ≤ deepest s f
    child_below c child = deepest_most s tree c.id (deepest s f)
        (λ g e p within. let r = rises s tree g in folder_below s f g e p (within_parent s tree f ef c stands child r.0 g r.2 within))
        (λ x e p within. let r = rises s tree e.folder in file_below s f x e p (file_id s x e p) (within_parent s tree f ef c stands child r.0 e.folder r.2 within))

    -- a file in the folder is at most as deep as the deepest
    files_below : list_any (λ (e : FileEntry). e.folder == f) s.files ≡ true → depth_of s (folder_node f) + 1 ≤ deepest s f
    files_below some =
        let w = (In-any FileEntry (λ e. e.folder == f) (λ e. e.folder ≡ f) (λ e. (eqb-true e.folder f, eq-eqb e.folder f)) s.files).0 some in
        let p : file_entry s w.0.id ≡ Some w.0 = file_found w.0 w.1 in
        let inside : is_within s w.0.folder f ≡ true = subst (λ k. is_within s k f ≡ true) (sym w.2) (within_itself s tree f ef stands) in
        let below : depth_of s (file_node w.0.id) ≤ deepest s f = file_below s f w.0.id w.0 p refl inside in
        let deeper : depth_of s (file_node w.0.id) ≡ depth_of s (folder_node f) + 1 = file_deeper w.0.id w.0 p w.2 in
        omega (arith, below, deeper)

    descend_reached : (n : ℕ) → n ≡ cond (list_any (λ (e : FileEntry). e.folder == f) s.files) 1 0 → depth_of s (folder_node f) + n ≤ deepest s f
    descend_reached n is =
        let below : depth_of s (folder_node f) ≤ deepest s f = depth_below s tree f ef stands in
        (elim (list_any (λ (e : FileEntry). e.folder == f) s.files) as (λ b. list_any (λ (e : FileEntry). e.folder == f) s.files ≡ b → n ≡ cond b 1 0 → depth_of s (folder_node f) + n ≤ deepest s f) [
          | true ↦ λ some one. let more : depth_of s (folder_node f) + 1 ≤ deepest s f = files_below some in omega (arith, more, one)
          | false ↦ λ none no'. omega (arith, below, no')
        ]) refl is

    pub descend_start : (n : ℕ) → n ≡ cond (list_any (λ (e : FileEntry). e.folder == f) s.files) 1 0 → Descends s f n []
    descend_start n is = record {
      reached = descend_reached n is;
      files = λ some. let one : n ≡ 1 = is ∙ ap (λ b. cond b 1 0) some in omega (arith, one);
      covered = All-nil (IsCovered s f n);
    }

    child_told : (g : ℕ) → is_child_of f (folder_entry s g) ≡ true → (c : FolderEntry) × IsChild s f c × (c.id ≡ g)
    child_told g t =
        (elim (folder_entry s g) as (λ o. folder_entry s g ≡ o → is_child_of f o ≡ true → (c : FolderEntry) × IsChild s f c × (c.id ≡ g)) [
          | None ↦ λ p no'. absurd (false≢true no')
          | Some e ↦ λ p h. let id : e.id ≡ g = entry_id s g e p in (e, (subst (λ k. folder_entry s k ≡ Some e) (sym id) p, eqb-true e.parent f h), id)
        ]) refl t

    -- a child stands one level below, and its deepest node in the folder
    pub child_stands : (g : ℕ) → is_child_of f (folder_entry s g) ≡ true → IsSome (folder_entry s g)
    child_stands g t = let w = child_told g t in subst IsSome (sym (ap (folder_entry s) (sym w.2) ∙ w.1.0)) refl

    pub child_level : (g : ℕ) → is_child_of f (folder_entry s g) ≡ true → depth_of s (folder_node g) ≡ depth_of s (folder_node f) + 1
    child_level g t = let w = child_told g t in subst (λ k. depth_of s (folder_node k) ≡ depth_of s (folder_node f) + 1) w.2 (child_deeper w.0 w.1)

    pub child_within : (g : ℕ) → is_child_of f (folder_entry s g) ≡ true → deepest s g ≤ deepest s f
    child_within g t = let w = child_told g t in subst (λ k. deepest s k ≤ deepest s f) w.2 (child_below w.0 w.1)

    -- a child more, or what isn't one
    pub descend_on : (n m k : ℕ) (q : Spot) (spots : List Spot) → Descends s f n spots → is_child_of f (folder_entry s q.id) ≡ true
        → depth_of s (folder_node q.id) + m ≡ deepest s q.id → k ≡ max n (m + 1) → Descends s f k (spots ++ q ∷ [])
    descend_on n m k q spots old child levels is =
        let here : depth_of s (folder_node q.id) ≡ depth_of s (folder_node f) + 1 = child_level q.id child in
        let below : deepest s q.id ≤ deepest s f = child_within q.id child in
        let reached : depth_of s (folder_node f) + n ≤ deepest s f = old.reached in record {
          reached = omega (arith, reached, is, levels, here, below);
          files = λ some. let one : 1 ≤ n = old.files some in omega (arith, one, is);
          covered = All-append (IsCovered s f k) spots (q ∷ [])
              (All-weaker (IsCovered s f n) (IsCovered s f k) (λ q before t. let le : deepest s q.id ≤ depth_of s (folder_node f) + n = before t in omega (arith, le, is)) spots old.covered)
              (All-cons (IsCovered s f k) q [] (λ t. omega (arith, levels, here, is)) (All-nil (IsCovered s f k)));
        }

    pub descend_past : (n k : ℕ) (q : Spot) (spots : List Spot) → Descends s f n spots → is_child_of f (folder_entry s q.id) ≡ false → k ≡ n → Descends s f k (spots ++ q ∷ [])
    descend_past n k q spots old other is = subst (λ z. Descends s f z (spots ++ q ∷ [])) (sym is) (record {
      reached = old.reached;
      files = old.files;
      covered = All-append (IsCovered s f n) spots (q ∷ []) old.covered (All-cons (IsCovered s f n) q [] (λ t. absurd (false≢true (sym other ∙ t))) (All-nil (IsCovered s f n)));
    })

    -- where the files and all children are within them, the levels are all
    pub descend_end : (n : ℕ) (spots : List Spot) → Descends s f n spots → ((e : FolderEntry) → In e s.folders → e.parent ≡ f → In e.id (map (λ (q : Spot). q.id) spots))
        → depth_of s (folder_node f) + n ≡ deepest s f
    descend_end n spots all listed =
        let reached : depth_of s (folder_node f) + n ≤ deepest s f = all.reached in
        let most : deepest s f ≤ depth_of s (folder_node f) + n = deepest_most s tree f (depth_of s (folder_node f) + n) folders_most files_most in omega (arith, most, reached)
      where
        child_most : (c : FolderEntry) → IsChild s f c → deepest s c.id ≤ depth_of s (folder_node f) + n
        child_most c child =
            let w = (In-map Spot ℕ (λ (q : Spot). q.id) c.id spots).0 (listed c (entry_in s c.id c child.0) child.1) in
            let here : IsCovered s f n w.0 = All-in Spot (IsCovered s f n) spots w.0 all.covered w.1 in
            let told : is_child_of f (folder_entry s w.0.id) ≡ true = ap (λ k. is_child_of f (folder_entry s k)) (sym w.2) ∙ ap (is_child_of f) child.0 ∙ eq-eqb c.parent f child.1 in
            subst (λ k. deepest s k ≤ depth_of s (folder_node f) + n) (sym w.2) (here told)

        folders_most : (g : ℕ) (e : FolderEntry) → folder_entry s g ≡ Some e → is_within s g f ≡ true → depth_of s (folder_node g) ≤ depth_of s (folder_node f) + n
        folders_most g e p within =
            let r = rises s tree g in
            ⊎_elim
            (λ (same : g ≡ f). let one : depth_of s (folder_node g) ≡ depth_of s (folder_node f) = ap (λ k. depth_of s (folder_node k)) same in omega (arith, one))
            (λ (w : (c : FolderEntry) × IsChild s f c × (is_within s g c.id ≡ true)).
            let below : depth_of s (folder_node g) ≤ deepest s w.0.id = folder_below s w.0.id g e p w.2 in
            let most : deepest s w.0.id ≤ depth_of s (folder_node f) + n = child_most w.0 w.1 in omega (arith, below, most))
            (within_child s tree f r.0 g r.2 within)

        files_most : (x : ℕ) (e : FileEntry) → file_entry s x ≡ Some e → is_within s e.folder f ≡ true → depth_of s (file_node x) ≤ depth_of s (folder_node f) + n
        files_most x e p within =
            let r = rises s tree e.folder in
            ⊎_elim
            (λ (same : e.folder ≡ f).
            let some = (In-any FileEntry (λ e. e.folder == f) (λ e. e.folder ≡ f) (λ e. (eqb-true e.folder f, eq-eqb e.folder f)) s.files).1 (e, file_in s x e p, same) in
            let one : 1 ≤ n = all.files some in
            let deeper : depth_of s (file_node x) ≡ depth_of s (folder_node f) + 1 = file_deeper x e p same in omega (arith, one, deeper))
            (λ (w : (c : FolderEntry) × IsChild s f c × (is_within s e.folder c.id ≡ true)).
            let below : depth_of s (file_node x) ≤ deepest s w.0.id = file_below s w.0.id x e p (file_id s x e p) w.2 in
            let most : deepest s w.0.id ≤ depth_of s (folder_node f) + n = child_most w.0 w.1 in omega (arith, below, most))
            (within_child s tree f r.0 e.folder r.2 within)
