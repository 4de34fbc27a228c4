-- Which roles stand, from the rows of folders, files, grants and holders.
use Rattle.std.proofs.Common.{◌≡◌, ℕ, ◌+◌, ◌<◌, ◌≤◌, Bool, true, ◌==◌, ◌⊎◌, ◌↔◌, List, [], ◌∷◌, map, length, inl, inr, ⊎_elim, refl, sym, ap, ◌∙◌, subst, arith}
use Rattle.std.specs.Prelude.{IsTrue}
use Rattle.std.specs.List.{list_any, range_with_len}
use Rattle.std.proofs.lemmas.Bool.{eqb-true, eq-eqb}
use Rattle.cry_base.specs.Sets.{In}
use Rattle.cry_base.specs.Store.{Store, FileEntry, FolderEntry, GrantEntry, HolderEntry}
use Rattle.cry_base.specs.declared.roles.Role.{Role}
use Rattle.cry_base.specs.declared.roles.Role.TheVariants.{Owner, Holder, Clear, Sub, Back, Files, Data, File}
use Rattle.cry_base.proofs.Members.{In-any, In-map}
use Rattle.grant_book.specs.Granted.{Granted}
use Rattle.index_format.specs.Plain.{PlainState}
use Rattle.index_format.specs.declared.rows.FileRow.{FileRow}
use Rattle.index_format.specs.declared.rows.FolderRow.{FolderRow}
use Rattle.index_format.specs.declared.rows.GrantRow.{GrantRow}
use Rattle.move_plan.specs.Seen.{keyless, seen_store}
use Rattle.role_graph.specs.Edges.{has_grants}
use Rattle.role_graph.specs.RightsByReach.{HasFolder, IsClearance, MayBeGranted}
use Rattle.role_graph.specs.Roles.{clear_of, file_role, folder_roles, holder_role, sub_of, back_of, files_of, data_of}
use Rattle.public_fold.specs.Keyed.{HasRole}
use Rattle.public_fold.specs.States.{entry_of_file, entry_of_folder, grant_of_row, pairs_of_rows, tree_of}
use Rattle.public_fold.proofs.SoundTrees.{holder_made, range_in}

-- all roles of the rows are in the set
pub record HaveRows (s : PlainState) (count : ℕ) (keyed : List Role) : Type 0 where
  pub folders : (row : FolderRow) → In row s.folders → (r : Role) → In r (folder_roles row.id) → In r keyed
  pub files : (row : FileRow) → In row s.files → In (file_role row.id) keyed
  pub grants : (row : GrantRow) → In row s.grants → In (clear_of row.folder) keyed
  pub holders : (h : ℕ) → 1 ≤ h → h ≤ count → In (holder_role h) keyed

module _ (s : PlainState) (g : Granted) (pairs : g.pairs ≡ pairs_of_rows s) (keyed : List Role) where
  -- a folder's role, by the place among its five
  folder_keyed : HaveRows s (length g.checks) keyed → (f : ℕ) (role : ℕ → Role) → ((n : ℕ) → In (role n) (folder_roles n)) → HasFolder (seen_store (tree_of s) g) f → In (role f) keyed
  folder_keyed have f role among w =
      let told = (In-map FolderRow FolderEntry entry_of_folder w.0 s.folders).0 w.1 in
      let is : told.0.id ≡ f = ap (λ (e : FolderEntry). e.id) (sym told.2) ∙ w.2 in
      subst (λ n. In (role n) keyed) is (have.folders told.0 told.1 (role told.0.id) (among told.0.id))

  -- a number with a grant
  granted_row : (n : ℕ) → IsTrue (has_grants (seen_store (tree_of s) g) n) → (row : GrantRow) × In row s.grants × (row.folder ≡ n)
  unfolding has_grants
  granted_row n t =
      let any = (In-any GrantEntry (λ x. x.folder == n) (λ x. x.folder ≡ n) (λ x. (λ u. eqb-true x.folder n u, λ e. eq-eqb x.folder n e)) g.pairs).0 t in
      let told = (In-map GrantRow GrantEntry grant_of_row any.0 s.grants).0 (subst (λ l. In any.0 l) pairs any.1) in
      (told.0, told.1, ap (λ (x : GrantEntry). x.folder) (sym told.2) ∙ any.2)

  row_granted : (row : GrantRow) → In row s.grants → IsTrue (has_grants (seen_store (tree_of s) g) row.folder)
  unfolding has_grants
  row_granted row i =
      (In-any GrantEntry (λ x. x.folder == row.folder) (λ x. x.folder ≡ row.folder) (λ x. (λ u. eqb-true x.folder row.folder u, λ e. eq-eqb x.folder row.folder e)) g.pairs).1
      (grant_of_row row, subst (λ l. In (grant_of_row row) l) (sym pairs) ((In-map GrantRow GrantEntry grant_of_row (grant_of_row row) s.grants).1 (row, i, refl)), refl)

  -- where they are, each role that stands is
  pub standing_keyed : HaveRows s (length g.checks) keyed → In Owner keyed → (r : Role) → HasRole (seen_store (tree_of s) g) r → In r keyed
  unfolding folder_roles holder_role clear_of sub_of back_of files_of data_of file_role
  standing_keyed have owner Owner h = owner
  standing_keyed have owner (Holder h) w =
      let told = (In-map ℕ HolderEntry keyless w.0 (range_with_len 1 (length g.checks))).0 w.1 in
      let within = range_in 1 (length g.checks) told.0 told.1 in
      let is : told.0 ≡ h.0 = ap (λ (e : HolderEntry). e.number) (sym told.2) ∙ w.2 in
      let low : 1 ≤ told.0 = within.0 in
      let high : told.0 < 1 + length g.checks = within.1 in
      have.holders h.0 (omega (arith, is, low)) (omega (arith, is, high))
  standing_keyed have owner (Clear f) w = ⊎_elim
      (λ folder. folder_keyed have f.0 clear_of (λ n. inl refl) folder)
      (λ clear. (let row = granted_row f.0 clear.1 in subst (λ n. In (clear_of n) keyed) row.2 (have.grants row.0 row.1))) w
  standing_keyed have owner (Sub f) w = folder_keyed have f.0 sub_of (λ n. inr (inl refl)) w
  standing_keyed have owner (Back f) w = folder_keyed have f.0 back_of (λ n. inr (inr (inl refl))) w
  standing_keyed have owner (Files f) w = folder_keyed have f.0 files_of (λ n. inr (inr (inr (inl refl)))) w
  standing_keyed have owner (Data f) w = folder_keyed have f.0 data_of (λ n. inr (inr (inr (inr (inl refl))))) w
  standing_keyed have owner (File x) w =
      let told = (In-map FileRow FileEntry entry_of_file w.0 s.files).0 w.1 in
      let is : told.0.id ≡ x.0 = ap (λ (e : FileEntry). e.id) (sym told.2) ∙ w.2 in
      subst (λ n. In (file_role n) keyed) is (have.files told.0 told.1)

  -- the five roles of a folder stand with it
  five_stand : (f : ℕ) → HasFolder (seen_store (tree_of s) g) f → (r : Role) → In r (folder_roles f) → HasRole (seen_store (tree_of s) g) r
  unfolding folder_roles clear_of sub_of back_of files_of data_of
  five_stand f w r i =
      let stands : Role → Type 0 = HasRole (seen_store (tree_of s) g) in
      ⊎_elim (λ (e : r ≡ clear_of f). subst stands (sym e) (inl w))
      (λ j. ⊎_elim (λ (e : r ≡ sub_of f). subst stands (sym e) w)
      (λ k. ⊎_elim (λ (e : r ≡ back_of f). subst stands (sym e) w)
      (λ l. ⊎_elim (λ (e : r ≡ files_of f). subst stands (sym e) w)
      (λ m. ⊎_elim (λ (e : r ≡ data_of f). subst stands (sym e) w) (λ n. absurd n) m) l) k) j) i

  -- and where each that stands is in the set, so are those of the rows
  pub rows_keyed : ((x : GrantEntry) → In x g.pairs → MayBeGranted (seen_store (tree_of s) g) x.folder) → ((r : Role) → HasRole (seen_store (tree_of s) g) r → In r keyed) → HaveRows s (length g.checks) keyed
  unfolding holder_role clear_of file_role
  rows_keyed granted all = record {
    folders = λ row i r j. all r (five_stand row.id (entry_of_folder row, (In-map FolderRow FolderEntry entry_of_folder (entry_of_folder row) s.folders).1 (row, i, refl), refl) r j);
    files = λ row i. all (File (record { 0 = row.id })) (entry_of_file row, (In-map FileRow FileEntry entry_of_file (entry_of_file row) s.files).1 (row, i, refl), refl);
    grants = λ row i.
        let here : In (grant_of_row row) g.pairs = subst (λ l. In (grant_of_row row) l) (sym pairs) ((In-map GrantRow GrantEntry grant_of_row (grant_of_row row) s.grants).1 (row, i, refl)) in
        all (Clear (record { 0 = row.folder })) (⊎_elim (λ f. inl f) (λ c. inr (c, row_granted row i)) (granted (grant_of_row row) here));
    holders = λ h low high. all (Holder (record { 0 = h })) (holder_made (tree_of s) g h (low, high));
  }

-- the roles in the set are those that stand
abbrev pub AreKeyed : Store → List Role → Type 0
AreKeyed s keyed = (r : Role) → HasRole s r ↔ In r keyed

-- so it is where the rows' are there and all that are there stand, for any tree that is that of the rows
pub are_keyed : (s : PlainState) (t : Store) (g : Granted) (keyed : List Role) → t ≡ tree_of s → g.pairs ≡ pairs_of_rows s → In Owner keyed
    → ((r : Role) → In r keyed → HasRole (seen_store t g) r) → HaveRows s (length g.checks) keyed → AreKeyed (seen_store t g) keyed
are_keyed s t g keyed tree pairs owner stand have =
    let store : seen_store (tree_of s) g ≡ seen_store t g = λ k. seen_store (sym tree k) g in
    λ r. (λ h. standing_keyed s g pairs keyed have owner r (subst (λ (z : Store). HasRole z r) (sym store) h), stand r)

pub keyed_rows : (s : PlainState) (t : Store) (g : Granted) (keyed : List Role) → t ≡ tree_of s → g.pairs ≡ pairs_of_rows s
    → ((x : GrantEntry) → In x g.pairs → MayBeGranted (seen_store t g) x.folder) → AreKeyed (seen_store t g) keyed → HaveRows s (length g.checks) keyed
keyed_rows s t g keyed tree pairs granted are =
    let store : seen_store t g ≡ seen_store (tree_of s) g = λ k. seen_store (tree k) g in
    rows_keyed s g pairs keyed
    (subst (λ (z : Store). (x : GrantEntry) → In x g.pairs → MayBeGranted z x.folder) store granted)
    (λ r h. (are r).0 (subst (λ (z : Store). HasRole z r) (sym store) h))
