-- The note of a command in a store, from the tree, its names and the grants that are kept of it.
use Rattle.std.proofs.Common.{◌≡◌, ℕ, ◌+◌, List, length, Option, Some, None, refl, sym, ap, ◌∙◌}
use Rattle.cry_base.specs.Naming.{parent_path}
use Rattle.cry_base.specs.Refusing.{granted_id, id_of}
use Rattle.cry_base.specs.Requests.{Request}
use Rattle.cry_base.specs.Requests.Request.{AddHolder, MakeFolder, WriteFile, Remove, Rename, Relocate, Grant, Revoke}
use Rattle.cry_base.specs.Store.{Store, node_at}
use Rattle.cry_base.specs.declared.roles.Node.{Node}
use Rattle.cry_base.specs.declared.roles.Node.TheVariants.{Folder, File}
use Rattle.folder_nodes.specs.Titles.{Titles, tree_store}
use Rattle.grant_book.specs.Granted.{Granted}
use Rattle.record_format.specs.Noted.{Note}
use Rattle.record_format.specs.Noted.Note.{NewHolder, NewFolder, NewFile, Give, Take}
use Rattle.move_plan.specs.Noting.{move_note, note_of, remove_note, rename_note, write_note}
use Rattle.journal_bytes.specs.Owning.{IsStoreOf}
use Rattle.journal_bytes.proofs.Refused.{found_same}

write_same : (a b : Store) (o : Option Node) (f : ℕ) → a.files_made ≡ b.files_made → write_note a o f ≡ write_note b o f
unfolding write_note
write_same a b None f e = ap (λ n. NewFile (n + 1) f) e
write_same a b (Some (Folder g)) f e = refl
write_same a b (Some (File x)) f e = refl

module _ (tree : Store) (n : Titles) (g : Granted) (s : Store) (is : IsStoreOf tree n g s) (check : List ℕ) (r : Request) where
  same : (path : List ℕ) → node_at (tree_store tree n) path ≡ node_at s path
  same path = found_same (tree_store tree n) s path is.tree

  on : (note : Note) (q : Request) → r ≡ q → note ≡ note_of s q check → note ≡ note_of s r check
  on note q e told = told ∙ ap (λ z. note_of s z check) (sym e)

  pub holder_note : r ≡ AddHolder → NewHolder (length g.checks + 1) check ≡ note_of s r check
  unfolding note_of
  holder_note e = on (NewHolder (length g.checks + 1) check) AddHolder e (ap (λ k. NewHolder (k + 1) check) (sym is.grants.made))

  pub folder_note : (path : List ℕ) → r ≡ MakeFolder path → NewFolder (tree.folders_made + 1) (id_of (node_at (tree_store tree n) (parent_path path))) ≡ note_of s r check
  unfolding note_of tree_store
  folder_note path e =
      on (NewFolder (tree.folders_made + 1) (id_of (node_at (tree_store tree n) (parent_path path)))) (MakeFolder path) e
      (λ i. NewFolder (is.tree.folders_made i + 1) (id_of (same (parent_path path) i)))

  pub bytes_note : (path bytes : List ℕ) → r ≡ WriteFile path bytes → write_note tree (node_at (tree_store tree n) path) (id_of (node_at (tree_store tree n) (parent_path path))) ≡ note_of s r check
  unfolding note_of tree_store
  bytes_note path bytes e =
      on (write_note tree (node_at (tree_store tree n) path) (id_of (node_at (tree_store tree n) (parent_path path)))) (WriteFile path bytes) e
      (write_same tree s (node_at (tree_store tree n) path) (id_of (node_at (tree_store tree n) (parent_path path))) is.tree.files_made
      ∙ (λ i. write_note s (same path i) (id_of (same (parent_path path) i))))

  pub removal_note : (path : List ℕ) → r ≡ Remove path → remove_note (node_at (tree_store tree n) path) ≡ note_of s r check
  unfolding note_of
  removal_note path e = on (remove_note (node_at (tree_store tree n) path)) (Remove path) e (ap remove_note (same path))

  pub name_note : (path name : List ℕ) → r ≡ Rename path name → rename_note (node_at (tree_store tree n) path) ≡ note_of s r check
  unfolding note_of
  name_note path name e = on (rename_note (node_at (tree_store tree n) path)) (Rename path name) e (ap rename_note (same path))

  pub shift_note : (path into : List ℕ) → r ≡ Relocate path into → move_note (node_at (tree_store tree n) path) (id_of (node_at (tree_store tree n) into)) ≡ note_of s r check
  unfolding note_of
  shift_note path into e =
      on (move_note (node_at (tree_store tree n) path) (id_of (node_at (tree_store tree n) into))) (Relocate path into) e (λ i. move_note (same path i) (id_of (same into i)))

  pub grant_note : (h : ℕ) (path : List ℕ) → r ≡ Grant h path → Give h (granted_id (node_at (tree_store tree n) path)) ≡ note_of s r check
  unfolding note_of
  grant_note h path e = on (Give h (granted_id (node_at (tree_store tree n) path))) (Grant h path) e (ap (λ o. Give h (granted_id o)) (same path))

  pub revoke_note : (h : ℕ) (path : List ℕ) → r ≡ Revoke h path → Take h (granted_id (node_at (tree_store tree n) path)) ≡ note_of s r check
  unfolding note_of
  revoke_note h path e = on (Take h (granted_id (node_at (tree_store tree n) path))) (Revoke h path) e (ap (λ o. Take h (granted_id o)) (same path))
