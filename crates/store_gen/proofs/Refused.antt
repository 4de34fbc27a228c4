-- No cause for a refusal applies to a drawn line.
use Rattle.std.proofs.Common.{◌≡◌, ℕ, ◌+◌, ◌<◌, ◌≤◌, Bool, true, false, not, ◌&&◌, List, [], ◌∷◌, Option, Some, None, refl, ap, sym, ◌∙◌, inl, inr, get_or, ◌≢◌, arith}
use Rattle.std.specs.Prelude.{◌==◌, nat_lt, bytes_eq}
use Rattle.std.specs.List.{list_any}
use Rattle.std.proofs.lemmas.Bool.{eqb-true, or_from, and_parts, false_from_ne_true, le-ltb}
use Rattle.std.proofs.lemmas.Slice.Eq.{bytes_eq-Decides}
use Rattle.cry_base.proofs.Members.{In-any}
use Rattle.cry_base.specs.Naming.{is_root_path, parent_path}
use Rattle.cry_base.specs.Requests.{Request, paths_of}
use Rattle.cry_base.specs.Requests.Request.{WriteFile, Relocate, Grant, Revoke}
use Rattle.cry_base.specs.Refusing.{is_folder, is_file, granted_id, id_of, has_bad_name, has_no_place, finds_no_path, changes_root, needs_folder, writes_folder, holds_name, name_of, finds_name_taken, removes_children, moves_into_itself, height_of, depth_at, goes_too_deep, finds_no_holder, grants_again, revokes_nothing, is_too_long, causes, refusal_of}
use Rattle.cry_base.specs.Store.{Store, FileEntry, FolderEntry, folder_node, file_node, file_entry, has_grant, depth_of, node_at}
use Rattle.cry_base.specs.declared.roles.Node.{Node}
use Rattle.store_gen.specs.Rule.{folder_path, written_path, moved_path, home_of, has_granted}
use Rattle.store_gen.specs.Standing.{the_folders, IsFile, Stands}
use Rattle.store_gen.specs.declared.generator.Generator.{Generator}
use Rattle.store_gen.proofs.Folders.{below_eight, folder_found, folder_is_path, file_is_path, file_names_of, file_parent, no_folder_found, written_name, moved_name, depth_one}
use Rattle.store_gen.proofs.Files.{entry_found, moved_found}

-- Each cause by itself.
record NoCause (s : Store) (r : Request) (file_bytes : ℕ) : Type 0 where
  bad_name : has_bad_name r ≡ false
  no_path : finds_no_path s r ≡ false
  is_root : changes_root r ≡ false
  not_folder : needs_folder s r ≡ false
  folder : writes_folder s r ≡ false
  exists : finds_name_taken s r ≡ false
  not_empty : removes_children s r ≡ false
  itself : moves_into_itself s r ≡ false
  too_deep : goes_too_deep s r ≡ false
  no_holder : finds_no_holder s r ≡ false
  granted : grants_again s r ≡ false
  no_grant : revokes_nothing s r ≡ false
  too_long : is_too_long file_bytes r ≡ false

no_refusal : (s : Store) (r : Request) (file_bytes : ℕ) → NoCause s r file_bytes → refusal_of s r file_bytes ≡ None
unfolding refusal_of causes
no_refusal s r file_bytes n =
    rw (n.bad_name, n.no_path, n.is_root, n.not_folder, n.folder, n.exists, n.not_empty, n.itself, n.too_deep, n.no_holder, n.granted, n.no_grant, n.too_long) refl

-- no folder below the root bears a name in another folder
no_folder_in : (s : Store) (name : List ℕ) (m : ℕ) → m < 8 → list_any (λ (e : FolderEntry). e.parent == m + 2 && bytes_eq e.name name) the_folders ≡ false
no_folder_in s name = below_eight (λ m. list_any (λ (e : FolderEntry). e.parent == m + 2 && bytes_eq e.name name) the_folders ≡ false) refl refl refl refl refl refl refl refl

module _ (g : Generator) (s : Store) (stands : Stands g s) (file_bytes : ℕ) (one : 1 ≤ file_bytes) where
  -- a moved file's name stands nowhere but where the file is
  not_there : (n m : ℕ) (e : FileEntry) → m ≢ home_of g n → IsFile g e → (e.folder == m + 2 && bytes_eq e.name (116 ∷ (48 + n) ∷ [])) ≡ true → ⊥
  not_there n m e other (inl moved) t =
      let parts = and_parts (e.folder == m + 2) (bytes_eq e.name (116 ∷ (48 + n) ∷ [])) t in
      let folder : e.folder ≡ m + 2 = eqb-true e.folder (m + 2) parts.0 in
      let name : e.name ≡ 116 ∷ (48 + n) ∷ [] = (bytes_eq-Decides e.name (116 ∷ (48 + n) ∷ [])).0 parts.1 in
      let k : ℕ = moved.0 in
      let digits : 48 + k ≡ 48 + n = ap (λ (l : List ℕ). get_or l 1 0) (sym moved.1.name ∙ name) in
      let same : k ≡ n = omega arith in
      let home : e.folder ≡ home_of g n + 2 = moved.1.folder ∙ ap (λ (j : ℕ). home_of g j + 2) same in
      let here : m ≡ home_of g n = omega arith in
      other here
  not_there n m e other (inr written) t =
      let parts = and_parts (e.folder == m + 2) (bytes_eq e.name (116 ∷ (48 + n) ∷ [])) t in
      let name : e.name ≡ 116 ∷ (48 + n) ∷ [] = (bytes_eq-Decides e.name (116 ∷ (48 + n) ∷ [])).0 parts.1 in
      let letters : ◌≡◌ {A = ℕ} 102 116 = ap (λ (l : List ℕ). get_or l 0 0) (sym written.name ∙ name) in
      absurd (omega arith)

  no_file_in : (n m : ℕ) → m ≢ home_of g n → list_any (λ (e : FileEntry). e.folder == m + 2 && bytes_eq e.name (116 ∷ (48 + n) ∷ [])) s.files ≡ false
  no_file_in n m other =
      let test : FileEntry → Bool = λ e. e.folder == m + 2 && bytes_eq e.name (116 ∷ (48 + n) ∷ []) in
      false_from_ne_true (list_any test s.files) (λ t.
      let w = (In-any FileEntry test (λ e. test e ≡ true) (λ e. (λ u. u, λ u. u)) s.files).0 t in
      not_there n m w.0 other (stands.all w.0 w.1) w.2)

  name_free : (n m : ℕ) → m < 8 → m ≢ home_of g n → holds_name s (m + 2) (116 ∷ (48 + n) ∷ []) ≡ false
  unfolding holds_name
  name_free n m h other =
      or_from _ _
      (ap (λ (fs : List FolderEntry). list_any (λ (e : FolderEntry). e.parent == m + 2 && bytes_eq e.name (116 ∷ (48 + n) ∷ [])) fs) stands.folders ∙ no_folder_in s (116 ∷ (48 + n) ∷ []) m h)
      (no_file_in n m other)

  name_by_id : (n : ℕ) (f : FileEntry) → n < 8 → f.id ≡ n + 1 → IsFile g f → f.name ≡ 116 ∷ (48 + n) ∷ []
  name_by_id n f h id (inl moved) = let k : ℕ = moved.0 in let is : f.id ≡ k + 1 = moved.1.id in let same : k ≡ n = omega arith in moved.1.name ∙ ap (λ (j : ℕ). 116 ∷ (48 + j) ∷ []) same
  name_by_id n f h id (inr written) = let nine = written.from_nine in absurd (omega arith)

  moved_name_of : (n : ℕ) → n < 8 → name_of s (Some (file_node (n + 1))) ≡ 116 ∷ (48 + n) ∷ []
  unfolding name_of file_node
  moved_name_of n h =
      let mine = stands.each n h in
      let found = entry_found s mine.0 mine.1 in
      let id : found.0.id ≡ n + 1 = found.3 ∙ mine.2 in
      let entry : file_entry s (n + 1) ≡ Some found.0 = ap (file_entry s) (sym mine.2) ∙ found.1 in
      ap (λ (o : Option FileEntry). elim o as (λ x. List ℕ) [ None ↦ [] | Some e ↦ e.name ]) entry ∙ name_by_id n found.0 h id (stands.all found.0 found.2)

  depth_of_folder : (m : ℕ) → m < 8 → depth_at s (folder_path m) ≡ 1
  unfolding depth_at
  depth_of_folder m h =
      ap (λ (o : Option Node). elim o as (λ x. ℕ) [ None ↦ 0 | Some node ↦ depth_of s node ]) (folder_found s stands.folders m h) ∙ depth_one s stands.folders m h

  -- a file is moved to another folder
  pub move_accepted : (n m : ℕ) → n < 8 → m < 8 → m ≢ home_of g n → refusal_of s (Relocate (moved_path (home_of g n) n) (folder_path m)) file_bytes ≡ None
  unfolding has_bad_name paths_of finds_no_path is_root_path changes_root needs_folder is_file is_folder writes_folder finds_name_taken removes_children moves_into_itself height_of goes_too_deep finds_no_holder grants_again revokes_nothing is_too_long folder_node file_node id_of
  move_accepted n m l h other =
      let home : ℕ = home_of g n in
      let within : home < 8 = stands.ready.within n l in
      let path = file_is_path home 116 n within (moved_name n l) in
      let target = folder_is_path m h in
      let at : node_at s (moved_path home n) ≡ Some (file_node (n + 1)) = moved_found g s stands n l in
      let «to» : node_at s (folder_path m) ≡ Some (folder_node (m + 2)) = folder_found s stands.folders m h in
      no_refusal s (Relocate (moved_path home n) (folder_path m)) file_bytes (record {
        bad_name = rw (path, target) refl;
        no_path = rw (at, «to») refl;
        is_root = refl;
        not_folder = rw «to» refl;
        folder = refl;
        exists = ap (λ (o : Option Node). holds_name s (id_of o) (name_of s (node_at s (moved_path home n)))) «to»
            ∙ ap (λ (o : Option Node). holds_name s (m + 2) (name_of s o)) at
            ∙ ap (λ (name : List ℕ). holds_name s (m + 2) name) (moved_name_of n l)
            ∙ name_free n m h other;
        not_empty = refl;
        itself = rw at refl;
        too_deep = ap (λ (o : Option Node). nat_lt 64 (depth_at s (folder_path m) + 1 + height_of s o)) at
            ∙ ap (λ (d : ℕ). nat_lt 64 (d + 1 + 0)) (depth_of_folder m h);
        no_holder = refl;
        granted = refl;
        no_grant = refl;
        too_long = refl;
      })

  -- a file is written
  pub write_accepted : (m k b : ℕ) → m < 8 → k < 8 → refusal_of s (WriteFile (written_path m k) (b ∷ [])) file_bytes ≡ None
  unfolding has_bad_name paths_of finds_no_path has_no_place is_root_path changes_root needs_folder is_file writes_folder finds_name_taken removes_children moves_into_itself goes_too_deep finds_no_holder grants_again revokes_nothing is_too_long folder_node
  write_accepted m k b h l =
      let path = file_is_path m 102 k h (written_name k l) in
      let at : node_at s (parent_path (written_path m k)) ≡ Some (folder_node (m + 2)) = ap (node_at s) (file_parent m 102 k h (written_name k l)) ∙ folder_found s stands.folders m h in
      no_refusal s (WriteFile (written_path m k) (b ∷ [])) file_bytes (record {
        bad_name = rw path refl;
        no_path = rw at refl;
        is_root = refl;
        not_folder = rw at refl;
        folder = no_folder_found s stands.folders 102 k m h;
        exists = refl;
        not_empty = refl;
        itself = refl;
        too_deep = rw (file_names_of m 102 k h (written_name k l)) refl;
        no_holder = refl;
        granted = refl;
        no_grant = refl;
        too_long = le-ltb file_bytes 1 one;
      })

  -- a grant that doesn't stand is given
  pub grant_accepted : (who m : ℕ) → who < 4 → m < 8 → has_granted g who m ≡ false → refusal_of s (Grant (who + 1) (folder_path m)) file_bytes ≡ None
  unfolding has_bad_name paths_of finds_no_path changes_root needs_folder is_file writes_folder finds_name_taken removes_children moves_into_itself goes_too_deep finds_no_holder grants_again revokes_nothing is_too_long folder_node granted_id
  grant_accepted who m w h none =
      let path = folder_is_path m h in
      let at = folder_found s stands.folders m h in
      let missing : has_grant s (who + 1) (m + 2) ≡ false = stands.grants who m w h ∙ none in
      no_refusal s (Grant (who + 1) (folder_path m)) file_bytes (record {
        bad_name = rw path refl;
        no_path = rw at refl;
        is_root = refl;
        not_folder = refl;
        folder = refl;
        exists = refl;
        not_empty = refl;
        itself = refl;
        too_deep = refl;
        no_holder = stands.holders who w;
        granted = rw at missing;
        no_grant = refl;
        too_long = refl;
      })

  -- and one that stands is taken back
  pub revoke_accepted : (who m : ℕ) → who < 4 → m < 8 → has_granted g who m ≡ true → refusal_of s (Revoke (who + 1) (folder_path m)) file_bytes ≡ None
  unfolding has_bad_name paths_of finds_no_path changes_root needs_folder is_file writes_folder finds_name_taken removes_children moves_into_itself goes_too_deep finds_no_holder grants_again revokes_nothing is_too_long folder_node granted_id
  revoke_accepted who m w h some =
      let path = folder_is_path m h in
      let at = folder_found s stands.folders m h in
      let there : has_grant s (who + 1) (m + 2) ≡ true = stands.grants who m w h ∙ some in
      no_refusal s (Revoke (who + 1) (folder_path m)) file_bytes (record {
        bad_name = rw path refl;
        no_path = rw at refl;
        is_root = refl;
        not_folder = refl;
        folder = refl;
        exists = refl;
        not_empty = refl;
        itself = refl;
        too_deep = refl;
        no_holder = stands.holders who w;
        granted = refl;
        no_grant = rw at (ap not there);
        too_long = refl;
      })
