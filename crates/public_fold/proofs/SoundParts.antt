-- What the parts that were made of a state's rows tell of the rows.
use Rattle.std.proofs.Common.{◌≡◌, ℕ, ◌+◌, ◌*◌, ◌<◌, ◌≤◌, ◌^◌, ◌↔◌, List, [], ◌∷◌, map, length, refl, sym, ap, ◌∙◌, subst, arith}
use Rattle.std.proofs.lemmas.List.{length-map}
use Rattle.cry_base.specs.Clearances.{clear_base}
use Rattle.cry_base.specs.Sets.{In}
use Rattle.cry_base.specs.Store.{Store, FileEntry, FolderEntry, GrantEntry}
use Rattle.cry_base.specs.declared.roles.Role.{Role}
use Rattle.folder_nodes.specs.Bare.{bare_store, file_of_row, folder_of_row}
use Rattle.folder_nodes.specs.Trees.{IsTree}
use Rattle.folder_nodes.specs.declared.rows.FileRow.{FileRow as NodeFile}
use Rattle.folder_nodes.specs.declared.rows.FolderRow.{FolderRow as NodeFolder}
use Rattle.folder_nodes.proofs.Ascending.{All-in}
use Rattle.folder_nodes.proofs.Heights.{map_twice}
use Rattle.grant_book.specs.Granted.{Granted}
use Rattle.index_format.specs.Plain.{PlainState}
use Rattle.index_format.specs.Writable.{IsWritable}
use Rattle.index_format.specs.declared.rows.CheckRow.{CheckRow}
use Rattle.index_format.specs.declared.rows.FileRow.{FileRow}
use Rattle.index_format.specs.declared.rows.FolderRow.{FolderRow}
use Rattle.move_plan.specs.Seen.{seen_store}
use Rattle.role_graph.specs.Ascending.{IsAscending}
use Rattle.role_graph.specs.PublicStore.{FoldersBelow}
use Rattle.public_fold.specs.AtKeys.{roles_of}
use Rattle.public_fold.specs.Keyed.{HasRole}
use Rattle.public_fold.specs.KeyStep.{next_serial}
use Rattle.public_fold.specs.RowTests.{bare_file, bare_folder}
use Rattle.public_fold.specs.States.{AreBelow, AreSoundKeys, AreSoundMarks, HaveKeyPlaces, HaveMarkPlaces, HaveOwnSerials, IsClosed, checks_of, key_state_of, keys_of_rows, marked_of, pairs_of_rows, state_store, tree_of}
use Rattle.role_graph.specs.RightsByReach.{MayBeGranted}
use Rattle.public_fold.proofs.RowsKeyed.{AreKeyed}
use Rattle.public_fold.proofs.SeenAfter.{seen}

-- rows as a shape has them are the tree
pub tree_rows : (s : PlainState) (folders : List NodeFolder) (files : List NodeFile) → folders ≡ map bare_folder s.folders → files ≡ map bare_file s.files
    → bare_store folders files s.numbers.folders_made s.numbers.files_made ≡ tree_of s
tree_rows s folders files of_folders of_files =
    let one = ap (map folder_of_row) of_folders ∙ map_twice FolderRow NodeFolder FolderEntry folder_of_row bare_folder s.folders in
    let two = ap (map file_of_row) of_files ∙ map_twice FileRow NodeFile FileEntry file_of_row bare_file s.files in
    λ k. record { folders = one k; files = two k; holders = []; grants = []; folders_made = s.numbers.folders_made; files_made = s.numbers.files_made; holders_made = 0 }

-- holders are fewer than four bytes tell
pub few_checks : (s : PlainState) (checks : List (List ℕ)) → IsWritable s → checks ≡ checks_of s → length checks < 2 ^ 32
few_checks s checks ok is =
    let counted : length checks ≡ s.numbers.holders_made = ap length is ∙ length-map s.checks (λ (row : CheckRow). row.0) ∙ ok.few.checks in
    let low : s.numbers.holders_made < 2 ^ 32 = ok.numbers.holders_made in
    omega (arith, counted, low)

-- no folder of a small tree has a clearance number
pub tree_below : (t : Store) → IsTree t → t.folders_made < 2 ^ 30 → FoldersBelow t
tree_below t tree small e i =
    let within = All-in FolderEntry (λ (x : FolderEntry). (1 ≤ x.id) × (x.id ≤ t.folders_made)) t.folders e tree.folders_made i in
    let most : e.id ≤ t.folders_made = within.1 in
    omega (arith, most, small)

-- the store that the parts tell is that of the rows
pub store_is : (s : PlainState) (t : Store) (g : Granted) → t ≡ tree_of s → g.checks ≡ checks_of s → g.pairs ≡ pairs_of_rows s → seen_store t g ≡ state_store s
store_is s t g tree checks pairs = λ k. seen (tree k) (checks k) (pairs k)

module _ (s : PlainState) (t : Store) (g : Granted) (tree : t ≡ tree_of s) (checks : g.checks ≡ checks_of s) (pairs : g.pairs ≡ pairs_of_rows s) where
  store : seen_store t g ≡ state_store s
  store = store_is s t g tree checks pairs

  -- grants are on what stands
  pub granted_on : ((x : GrantEntry) → In x g.pairs → MayBeGranted (seen_store t g) x.folder) ↔ ((x : GrantEntry) → In x (pairs_of_rows s) → MayBeGranted (state_store s) x.folder)
  granted_on =
      let path : ((x : GrantEntry) → In x g.pairs → MayBeGranted (seen_store t g) x.folder) ≡ ((x : GrantEntry) → In x (pairs_of_rows s) → MayBeGranted (state_store s) x.folder) =
      λ k. (x : GrantEntry) → In x (pairs k) → MayBeGranted (store k) x.folder in
      (λ u. subst (λ (X : Type 0). X) path u, λ u. subst (λ (X : Type 0). X) (sym path) u)

  -- keys that were made of the rows, and their roles
  module _ (keys : List (Role × ℕ)) (are : keys ≡ keys_of_rows s) (keyed : List Role) (roles : keyed ≡ roles_of keys) where
    keyed_path : AreKeyed (seen_store t g) keyed ≡ AreKeyed (state_store s) (roles_of (keys_of_rows s))
    keyed_path = λ k. AreKeyed (store k) ((roles ∙ ap roles_of are) k)

    pub keys_sound : HaveKeyPlaces s.keys → IsAscending keyed → AreKeyed (seen_store t g) keyed → AreBelow (next_serial (key_state_of s)) keys → HaveOwnSerials keys → AreSoundKeys s
    keys_sound places up stand below own = record {
      places = places;
      ascend = subst IsAscending (roles ∙ ap roles_of are) up;
      keyed = subst (λ (X : Type 0). X) keyed_path stand;
      own = subst HaveOwnSerials are own;
      given = subst (AreBelow (next_serial (key_state_of s))) are below;
    }

    pub sound_ascend : AreSoundKeys s → IsAscending keyed
    sound_ascend sound = subst IsAscending (sym (roles ∙ ap roles_of are)) sound.ascend

    pub sound_keyed : AreSoundKeys s → AreKeyed (seen_store t g) keyed
    sound_keyed sound = subst (λ (X : Type 0). X) (sym keyed_path) sound.keyed

    pub sound_below : AreSoundKeys s → AreBelow (next_serial (key_state_of s)) keys
    sound_below sound = subst (AreBelow (next_serial (key_state_of s))) (sym are) sound.given

    pub sound_own : AreSoundKeys s → HaveOwnSerials keys
    sound_own sound = subst HaveOwnSerials (sym are) sound.own

  -- marks that were made of the rows
  module _ (marked : List Role) (are : marked ≡ marked_of s) where
    stand_path : ((r : Role) → In r marked → HasRole (seen_store t g) r) ≡ ((r : Role) → In r (marked_of s) → HasRole (state_store s) r)
    stand_path = λ k. (r : Role) → In r (are k) → HasRole (store k) r

    closed_path : IsClosed (seen_store t g) marked ≡ IsClosed (state_store s) (marked_of s)
    closed_path = λ k. IsClosed (store k) (are k)

    pub marks_sound : HaveMarkPlaces s.marks → IsAscending marked → ((r : Role) → In r marked → HasRole (seen_store t g) r) → IsClosed (seen_store t g) marked → AreSoundMarks s
    marks_sound places up stand closed = record {
      places = places;
      ascend = subst IsAscending are up;
      stand = subst (λ (X : Type 0). X) stand_path stand;
      closed = subst (λ (X : Type 0). X) closed_path closed;
    }

    pub sound_marks_ascend : AreSoundMarks s → IsAscending marked
    sound_marks_ascend sound = subst IsAscending (sym are) sound.ascend

    pub sound_marks_stand : AreSoundMarks s → (r : Role) → In r marked → HasRole (seen_store t g) r
    sound_marks_stand sound = subst (λ (X : Type 0). X) (sym stand_path) sound.stand

    pub sound_marks_closed : AreSoundMarks s → IsClosed (seen_store t g) marked
    sound_marks_closed sound = subst (λ (X : Type 0). X) (sym closed_path) sound.closed

pub next_is : (s : PlainState) → s.numbers.epoch * 4294967296 + s.numbers.count ≡ next_serial (key_state_of s)
unfolding next_serial
next_is s = refl
