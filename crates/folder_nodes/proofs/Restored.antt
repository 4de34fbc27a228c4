-- The tests of rows are passed by exactly those that are a tree.
use Rattle.std.proofs.Common.{◌≡◌, ◌≢◌, ℕ, zero, suc, ◌+◌, ◌-◌, ◌<◌, ◌≤◌, Bool, true, false, cond, ◌==◌, ◌||◌, List, [], ◌∷◌, length, map, find, Option, Some, None, IsTrue, refl, sym, ap, ◌∙◌, subst, arith}
use Rattle.std.specs.Prelude.{is_some, nat_le, MatchOption}
use Rattle.std.specs.List.{All, list_all}
use Rattle.std.specs.Option.{option_map}
use Rattle.std.proofs.lemmas.Bool.{eqb-true, eqb-false, eq-eqb, ne_eqb, le-leb, leb-true, false≢true, and_parts, and_from}
use Rattle.std.proofs.lemmas.List.Elements.{All-nil, All-cons, All-head, All-tail, All-map, All-weaker}
use Rattle.cry_base.specs.Sets.{In}
use Rattle.cry_base.specs.Store.{Store, FolderEntry, FileEntry, folder_entry, way_up, way_to_root}
use Rattle.sorted_table.specs.Rows.{IsRising, row_at}
use Rattle.folder_nodes.specs.Bare.{folder_of_row, file_of_row, bare_store}
use Rattle.folder_nodes.specs.Restoring.{is_numbered, stands_among, has_root, has_its_parent, is_placed, is_file_placed}
use Rattle.folder_nodes.specs.Trees.{IsTree}
use Rattle.folder_nodes.specs.declared.rows.FolderRow.{FolderRow}
use Rattle.folder_nodes.specs.declared.rows.FileRow.{FileRow}
use Rattle.folder_nodes.proofs.Added.{parent_cases}
use Rattle.folder_nodes.proofs.Ascending.{All-in, in-All, rising_through, rising_before}
use Rattle.folder_nodes.proofs.Downward.{entry_id, entry_in}
use Rattle.folder_nodes.proofs.Located.{entry_there}
use Rattle.folder_nodes.proofs.Lookups.{find-map}
use Rattle.folder_nodes.proofs.Rowed.{All-unmap, some_of}
use Rattle.folder_nodes.proofs.Treed.{levels_are}
use Rattle.folder_nodes.proofs.Upward.{way_none, way_some, way_rises, rises_way}

-- all pass
passed : (X : Type 0) (p : X → Bool) (xs : List X) → list_all p xs ≡ true → All (λ x. p x ≡ true) xs
passed X p [] t = All-nil (λ x. p x ≡ true)
passed X p (x ∷ xs) t = let both = and_parts (p x) (list_all p xs) t in All-cons (λ x. p x ≡ true) x xs both.0 (passed X p xs both.1)

passing : (X : Type 0) (p : X → Bool) (xs : List X) → All (λ x. p x ≡ true) xs → list_all p xs ≡ true
passing X p [] all = refl
passing X p (x ∷ xs) all = and_from (p x) (list_all p xs) (All-head (λ x. p x ≡ true) x xs all) (passing X p xs (All-tail (λ x. p x ≡ true) x xs all))

module _ (rows : List FolderRow) (files : List FileRow) (m n : ℕ) where
  abbrev store : Store
  store = bare_store rows files m n

  abbrev entries : List FolderEntry
  entries = map folder_of_row rows

  -- all of the tests
  pub record Tested : Type 0 where
    pub numbers : list_all (λ (r : FolderRow). is_numbered m r.id.0) rows ≡ true
    pub file_numbers : list_all (λ (r : FileRow). is_numbered n r.id.0) files ≡ true
    pub root : has_root (map folder_of_row rows) m ≡ true
    pub places : list_all (λ (r : FolderRow). is_placed (map folder_of_row rows) (folder_of_row r)) rows ≡ true
    pub file_places : list_all (λ (r : FileRow). is_file_placed (map folder_of_row rows) r.folder.0) files ≡ true

  numbered : (made id : ℕ) → is_numbered made id ≡ true → (1 ≤ id) × (id ≤ made)
  numbered made id t = let both = and_parts (nat_le 1 id) (nat_le id made) t in (leb-true 1 id both.0, leb-true id made both.1)

  is_numbered_so : (made id : ℕ) → (1 ≤ id) × (id ≤ made) → is_numbered made id ≡ true
  is_numbered_so made id w = and_from (nat_le 1 id) (nat_le id made) (le-leb 1 id w.0) (le-leb id made w.1)

  -- a folder that is placed
  placed_there : Tested → (e : FolderEntry) → In e entries → is_placed entries e ≡ true
  placed_there tested e i =
      All-in FolderEntry (λ e. is_placed entries e ≡ true) entries e
      (All-map (λ e. is_placed entries e ≡ true) folder_of_row rows (passed FolderRow (λ r. is_placed entries (folder_of_row r)) rows tested.places)) i

  parent_zero : (e : FolderEntry) → has_its_parent entries e ≡ true → e.id ≡ 1 → e.parent ≡ 0
  parent_zero e t one = eqb-true e.parent 0 (sym (ap (λ b. cond b (e.parent == 0) (stands_among entries e.parent)) (eq-eqb e.id 1 one)) ∙ t)

  parent_there : (e : FolderEntry) → has_its_parent entries e ≡ true → e.id ≢ 1 → (p : FolderEntry) × (folder_entry store e.parent ≡ Some p)
  unfolding folder_entry
  parent_there e t other =
      some_of FolderEntry (folder_entry store e.parent) (sym (ap (λ b. cond b (e.parent == 0) (stands_among entries e.parent)) (ne_eqb e.id 1 other)) ∙ t)

  root_there : Tested → 1 ≤ m → (e : FolderEntry) × (folder_entry store 1 ≡ Some e) × (e.parent ≡ 0)
  unfolding folder_entry
  root_there tested some =
      let stands : stands_among entries 1 ≡ true = sym (ap (λ b. b || stands_among entries 1) (ne_eqb m 0 (λ none. omega (arith, some, none)))) ∙ tested.root in
      let w = some_of FolderEntry (folder_entry store 1) stands in
      let placed = and_parts (has_its_parent entries w.0) (nat_le (length (way_up 66 entries w.0.id)) 65) (placed_there tested w.0 (entry_in store 1 w.0 w.1)) in
      (w.0, w.1, parent_zero w.0 placed.0 (entry_id store 1 w.0 w.1))

  way_short : Tested → (f : ℕ) → length (way_up 66 entries f) ≤ 65
  unfolding folder_entry
  way_short tested f =
      (elim (folder_entry store f) as (λ o. folder_entry store f ≡ o → length (way_up 66 entries f) ≤ 65) [
        | None ↦ λ p. let none : length (way_up 66 entries f) ≡ 0 = ap length (way_none entries 66 f p) in omega (arith, none)
        | Some e ↦ λ p.
            let placed = and_parts (has_its_parent entries e) (nat_le (length (way_up 66 entries e.id)) 65) (placed_there tested e (entry_in store f e p)) in
            let few : length (way_up 66 entries e.id) ≤ 65 = leb-true (length (way_up 66 entries e.id)) 65 placed.1 in
            subst (λ k. length (way_up 66 entries k) ≤ 65) (entry_id store f e p) few
      ]) refl

  -- the way that is counted and the whole way are one
  same_levels : (f : ℕ) → length (way_up 66 entries f) ≤ 65 → length (way_to_root store f) ≡ length (way_up 66 entries f)
  same_levels f few =
      let w = way_rises entries 65 f few in
      levels_are store w.0 f w.2 ∙ sym (rises_way entries w.0 66 f w.2 (omega (arith, w.1)))

  file_there_is : Tested → (r : FileRow) → is_file_placed entries r.folder.0 ≡ true → (p : FolderEntry) × (folder_entry store r.folder.0 ≡ Some p) × (length (way_to_root store r.folder.0) ≤ 64)
  unfolding folder_entry
  file_there_is tested r t =
      let both = and_parts (stands_among entries r.folder.0) (nat_le (length (way_up 66 entries r.folder.0)) 64) t in
      let w = some_of FolderEntry (folder_entry store r.folder.0) both.0 in
      let few : length (way_up 66 entries r.folder.0) ≤ 64 = leb-true (length (way_up 66 entries r.folder.0)) 64 both.1 in
      let same : length (way_to_root store r.folder.0) ≡ length (way_up 66 entries r.folder.0) = same_levels r.folder.0 (omega (arith, few)) in
      (w.0, w.1, omega (arith, same, few))

  -- what passes is a tree
  pub tested_tree : IsRising (λ (r : FolderRow). r.id.0) rows → IsRising (λ (r : FileRow). r.id.0) files → Tested → IsTree (bare_store rows files m n)
  tested_tree rising file_rising tested = record {
    folders_ascend = rising_through FolderRow FolderEntry folder_of_row (λ e. e.id) rows rising;
    files_ascend = rising_through FileRow FileEntry file_of_row (λ e. e.id) files file_rising;
    folders_made = All-map (λ (e : FolderEntry). (1 ≤ e.id) × (e.id ≤ m)) folder_of_row rows
        (All-weaker (λ (r : FolderRow). is_numbered m r.id.0 ≡ true) (λ r. (1 ≤ r.id.0) × (r.id.0 ≤ m)) (λ r t. numbered m r.id.0 t) rows (passed FolderRow (λ r. is_numbered m r.id.0) rows tested.numbers));
    files_made = All-map (λ (e : FileEntry). (1 ≤ e.id) × (e.id ≤ n)) file_of_row files
        (All-weaker (λ (r : FileRow). is_numbered n r.id.0 ≡ true) (λ r. (1 ≤ r.id.0) × (r.id.0 ≤ n)) (λ r t. numbered n r.id.0 t) files (passed FileRow (λ r. is_numbered n r.id.0) files tested.file_numbers));
    root = root_there tested;
    parents_stand = in-All FolderEntry (λ e. e.id ≢ 1 → (p : FolderEntry) × (folder_entry store e.parent ≡ Some p)) entries
        (λ e i other. parent_there e (and_parts (has_its_parent entries e) (nat_le (length (way_up 66 entries e.id)) 65) (placed_there tested e i)).0 other);
    ways_end = way_short tested;
    files_stand = All-map (λ (e : FileEntry). (p : FolderEntry) × (folder_entry store e.folder ≡ Some p) × (length (way_to_root store e.folder) ≤ 64)) file_of_row files
        (All-weaker (λ (r : FileRow). is_file_placed entries r.folder.0 ≡ true) (λ r. (p : FolderEntry) × (folder_entry store r.folder.0 ≡ Some p) × (length (way_to_root store r.folder.0) ≤ 64)) (λ r t. file_there_is tested r t) files (passed FileRow (λ r. is_file_placed entries r.folder.0) files tested.file_places));
  }

  -- and a tree passes
  some_told : (f : ℕ) (e : FolderEntry) → folder_entry store f ≡ Some e → stands_among entries f ≡ true
  unfolding folder_entry
  some_told f e p = ap (λ (o : Option FolderEntry). is_some o) p

  pub tree_rises : IsTree (bare_store rows files m n) → IsRising (λ (r : FolderRow). r.id.0) rows
  tree_rises tree = rising_before FolderRow FolderEntry folder_of_row (λ e. e.id) rows tree.folders_ascend

  pub tree_files_rise : IsTree (bare_store rows files m n) → IsRising (λ (r : FileRow). r.id.0) files
  tree_files_rise tree = rising_before FileRow FileEntry file_of_row (λ e. e.id) files tree.files_ascend

  has_root_so : IsTree store → has_root entries m ≡ true
  has_root_so tree =
      (elim (m == 0) as (λ b. m == 0 ≡ b → (b || stands_among entries 1) ≡ true) [
        | true ↦ λ t. refl
        | false ↦ λ t. let made : m ≢ 0 = eqb-false m 0 t in let w = tree.root (some made) in some_told 1 w.0 w.1
      ]) refl
    where
      some : m ≢ 0 → 1 ≤ m
      some = λ made. positive m made
        where
          positive : (k : ℕ) → k ≢ 0 → 1 ≤ k
          positive zero z = absurd (z refl)
          positive (suc k) z = omega arith

  placed_so : IsTree store → (e : FolderEntry) → In e entries → is_placed entries e ≡ true
  placed_so tree e i =
      let entry : folder_entry store e.id ≡ Some e = entry_there store tree e i in
      let cases = parent_cases store tree e.id e entry in
      and_from (has_its_parent entries e) (nat_le (length (way_up 66 entries e.id)) 65)
      ((elim (e.id == 1) as (λ b. e.id == 1 ≡ b → cond b (e.parent == 0) (stands_among entries e.parent) ≡ true) [
        | true ↦ λ t. eq-eqb e.parent 0 (cases.0 (eqb-true e.id 1 t))
        | false ↦ λ t. let w = cases.1 (eqb-false e.id 1 t) in some_told e.parent w.0 w.1
      ]) refl)
      (le-leb (length (way_up 66 entries e.id)) 65 (tree.ways_end e.id))

  file_placed_so : IsTree store → (f : ℕ) → (p : FolderEntry) × (folder_entry store f ≡ Some p) × (length (way_to_root store f) ≤ 64) → is_file_placed entries f ≡ true
  file_placed_so tree f w =
      let same : length (way_to_root store f) ≡ length (way_up 66 entries f) = same_levels f (tree.ways_end f) in
      and_from (stands_among entries f) (nat_le (length (way_up 66 entries f)) 64) (some_told f w.0 w.1) (le-leb (length (way_up 66 entries f)) 64 (omega (arith, same, w.2)))

  pub tree_tested : IsTree (bare_store rows files m n) → Tested
  tree_tested tree = record {
    numbers = passing FolderRow (λ r. is_numbered m r.id.0) rows
        (All-weaker (λ (r : FolderRow). (1 ≤ r.id.0) × (r.id.0 ≤ m)) (λ r. is_numbered m r.id.0 ≡ true) (λ r w. is_numbered_so m r.id.0 w) rows (All-unmap FolderRow FolderEntry folder_of_row (λ e. (1 ≤ e.id) × (e.id ≤ m)) rows tree.folders_made));
    file_numbers = passing FileRow (λ r. is_numbered n r.id.0) files
        (All-weaker (λ (r : FileRow). (1 ≤ r.id.0) × (r.id.0 ≤ n)) (λ r. is_numbered n r.id.0 ≡ true) (λ r w. is_numbered_so n r.id.0 w) files (All-unmap FileRow FileEntry file_of_row (λ e. (1 ≤ e.id) × (e.id ≤ n)) files tree.files_made));
    root = has_root_so tree;
    places = passing FolderRow (λ r. is_placed entries (folder_of_row r)) rows
        (All-unmap FolderRow FolderEntry folder_of_row (λ e. is_placed entries e ≡ true) rows (in-All FolderEntry (λ e. is_placed entries e ≡ true) entries (placed_so tree)));
    file_places = passing FileRow (λ r. is_file_placed entries r.folder.0) files
        (All-weaker (λ (r : FileRow). (p : FolderEntry) × (folder_entry store r.folder.0 ≡ Some p) × (length (way_to_root store r.folder.0) ≤ 64)) (λ r. is_file_placed entries r.folder.0 ≡ true) (λ r w. file_placed_so tree r.folder.0 w) files
        (All-unmap FileRow FileEntry file_of_row (λ e. (p : FolderEntry) × (folder_entry store e.folder ≡ Some p) × (length (way_to_root store e.folder) ≤ 64)) files tree.files_stand));
  }

-- a look-up among rows is one among entries
row_entry : (rows : List FolderRow) (f : ℕ) → find (λ (e : FolderEntry). e.id == f) (map folder_of_row rows) ≡ option_map folder_of_row (row_at (λ (r : FolderRow). r.id.0) rows f)
row_entry rows f = find-map FolderRow FolderEntry folder_of_row (λ e. e.id == f) rows

pub row_stands : (rows : List FolderRow) (f : ℕ) (r : FolderRow) → Some r ≡ row_at (λ (r : FolderRow). r.id.0) rows f → true ≡ stands_among (map folder_of_row rows) f
row_stands rows f r e = sym (ap (λ (o : Option FolderEntry). is_some o) (row_entry rows f ∙ ap (option_map folder_of_row) (sym e)))

pub no_row_stands : (rows : List FolderRow) (f : ℕ) → None ≡ row_at (λ (r : FolderRow). r.id.0) rows f → false ≡ stands_among (map folder_of_row rows) f
no_row_stands rows f e = sym (ap (λ (o : Option FolderEntry). is_some o) (row_entry rows f ∙ ap (option_map folder_of_row) (sym e)))

-- the way up as the code counts it
abbrev pub Counts : List FolderEntry → ℕ → ℕ → ℕ → Type 0
Counts entries f here k = length (way_up 66 entries f) ≡ k + length (way_up (66 - k) entries here)

pub count_end : (rows : List FolderRow) (f here k : ℕ) → Counts (map folder_of_row rows) f here k → None ≡ row_at (λ (r : FolderRow). r.id.0) rows here → k ≡ length (way_up 66 (map folder_of_row rows) f)
count_end rows f here k counts e =
    let none : length (way_up (66 - k) (map folder_of_row rows) here) ≡ 0 = ap length (way_none (map folder_of_row rows) (66 - k) here (row_entry rows here ∙ ap (option_map folder_of_row) (sym e))) in
    omega (arith, counts, none)

pub count_on : (rows : List FolderRow) (f here k : ℕ) (r : FolderRow) → Counts (map folder_of_row rows) f here k → k < 66 → Some r ≡ row_at (λ (r : FolderRow). r.id.0) rows here → Counts (map folder_of_row rows) f r.parent (k + 1)
count_on rows f here k r counts lt e =
    let entries : List FolderEntry = map folder_of_row rows in
    let less : 66 - k ≡ suc (66 - (k + 1)) = omega (arith, lt) in
    let one : length (way_up (66 - k) entries here) ≡ suc (length (way_up (66 - (k + 1)) entries r.parent)) =
    ap (λ j. length (way_up j entries here)) less
    ∙ ap length (way_some entries (66 - (k + 1)) here (folder_of_row r) (row_entry rows here ∙ ap (option_map folder_of_row) (sym e))) in
    omega (arith, counts, one)

pub count_full : (rows : List FolderRow) (f here k : ℕ) → Counts (map folder_of_row rows) f here k → 66 ≤ k → k ≤ 66 → 66 ≡ length (way_up 66 (map folder_of_row rows) f)
unfolding way_up
count_full rows f here k counts full few =
    let entries : List FolderEntry = map folder_of_row rows in
    let zero_left : 66 - k ≡ 0 = omega (arith, full) in
    let none : length (way_up (66 - k) entries here) ≡ 0 = ap (λ j. length (way_up j entries here)) zero_left in
    let at : k ≡ 66 = omega (arith, full, few) in
    omega (arith, counts, none, at)

-- a test that fails where all would pass
pub refuted : (P : Type 0) (b : Bool) → b ≡ false → (P → b ≡ true) → (IsTrue false → P) × (P → IsTrue false)
refuted P b f t = (λ yes. absurd (false≢true yes), λ p. sym f ∙ t p)

-- what is said where nothing was made
pub none_says : (T : Type 0) (o : Option T) (A : Type 0) (B : T → Type 0) → o ≡ None → MatchOption o A B → A
none_says T None A B e told = told
none_says T (Some x) A B e told = absurd (cc)
