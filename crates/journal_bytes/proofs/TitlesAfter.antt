-- A tree, its note's change, and the names after it, against the store after the command.
use Rattle.std.proofs.Common.{◌≡◌, ℕ, ◌+◌, false, cond, not, ◌==◌, ◌||◌, List, [], ◌∷◌, ◌++◌, map, filter, Option, Some, None, refl, sym, ap, ◌∙◌, subst}
use Rattle.std.specs.Prelude.{find, is_none, option_map}
use Rattle.std.proofs.lemmas.Bool.{false≢true, or_parts}
use Rattle.cry_base.specs.Naming.{parent_path}
use Rattle.cry_base.specs.Refusing.{finds_no_path, id_of, is_folder, writes_folder}
use Rattle.cry_base.specs.Requests.{Request, paths_of}
use Rattle.cry_base.specs.Requests.Request.{AddHolder, MakeFolder, WriteFile, Remove, Rename, Relocate, Grant, Revoke}
use Rattle.cry_base.specs.Stepping.{effect, with_bytes_at, with_file, with_folder, with_name, with_new_file, with_new_folder, with_new_holder, without_file, without_folder, without_grant, without_node, moved}
use Rattle.cry_base.specs.Store.{Store, FolderEntry, FileEntry, file_entry, folder_node, file_node, node_at}
use Rattle.cry_base.specs.declared.ids.FileId.{FileId}
use Rattle.cry_base.specs.declared.roles.Node.{Node}
use Rattle.cry_base.specs.declared.roles.Node.TheVariants.{Folder, File}
use Rattle.cry_base.proofs.Finding.{node_found}
use Rattle.folder_nodes.specs.Joining.{IsSet}
use Rattle.folder_nodes.specs.Titles.{Titles, name_in, title_at, tree_store}
use Rattle.folder_nodes.proofs.Downward.{file_id}
use Rattle.folder_nodes.proofs.Named.{file_named, named_file}
use Rattle.folder_nodes.proofs.Joined.{file_rewritten, folder_renamed, move_joins, name_joins, removal_joins}
use Rattle.record_format.specs.Noted.{Note}
use Rattle.record_format.specs.Noted.Note.{Root, NewHolder, NewFolder, NewFile, Rewrite, NameFile, NameFolder, DropFile, DropFolder, ShiftFile, ShiftFolder, Give, Take, StrictRoot, Upgrade}
use Rattle.move_plan.specs.Noting.{move_note, note_of, remove_note, rename_note, write_note}
use Rattle.public_fold.specs.Changing.{tree_then}
use Rattle.public_fold.specs.Told.{told_store}
use Rattle.public_fold.proofs.Accepting.{IsAccepted}
use Rattle.public_fold.proofs.Treeing.{IsTree, file_own, node_stands}
use Rattle.journal_bytes.specs.Owning.{IsTreeOf}
use Rattle.journal_bytes.specs.Texting.{AreKept, AreTitlesAfter, IsRemoved, IsRenamed, IsWritten, name_at}
use Rattle.journal_bytes.proofs.Found.{file_name_found}
use Rattle.journal_bytes.proofs.NewTitles.{AreBelow, file_joins, folder_joins}

-- the same change of two stores with one tree leaves one tree
new_folder : (t s : Store) (parent : ℕ) (name : List ℕ) → IsTreeOf t s → IsTreeOf (with_new_folder t parent name) (with_new_folder s parent name)
unfolding with_new_folder
new_folder t s parent name is = record {
  folders = λ i. is.folders i ++ record { id = is.folders_made i + 1; parent = parent; name = name } ∷ [];
  files = is.files;
  folders_made = ap (λ n. n + 1) is.folders_made;
  files_made = is.files_made;
}

new_file : (t s : Store) (folder : ℕ) (name bytes : List ℕ) → IsTreeOf t s → IsTreeOf (with_new_file t folder name bytes) (with_new_file s folder name bytes)
unfolding with_new_file
new_file t s folder name bytes is = record {
  folders = is.folders;
  files = λ i. is.files i ++ record { id = is.files_made i + 1; folder = folder; name = name; bytes = bytes } ∷ [];
  folders_made = is.folders_made;
  files_made = ap (λ n. n + 1) is.files_made;
}

folder_changed : (t s : Store) (f : ℕ) (change : FolderEntry → FolderEntry) → IsTreeOf t s → IsTreeOf (with_folder t f change) (with_folder s f change)
unfolding with_folder
folder_changed t s f change is = record {
  folders = ap (map (λ e. cond (e.id == f) (change e) e)) is.folders;
  files = is.files;
  folders_made = is.folders_made;
  files_made = is.files_made;
}

file_changed : (t s : Store) (x : ℕ) (change : FileEntry → FileEntry) → IsTreeOf t s → IsTreeOf (with_file t x change) (with_file s x change)
unfolding with_file
file_changed t s x change is = record {
  folders = is.folders;
  files = ap (map (λ e. cond (e.id == x) (change e) e)) is.files;
  folders_made = is.folders_made;
  files_made = is.files_made;
}

node_gone : (t s : Store) (node : Node) → IsTreeOf t s → IsTreeOf (without_node t (Some node)) (without_node s (Some node))
unfolding without_node without_folder without_file
node_gone t s (Folder f) is = record {
  folders = ap (filter (λ (e : FolderEntry). not (e.id == f.0))) is.folders;
  files = is.files;
  folders_made = is.folders_made;
  files_made = is.files_made;
}
node_gone t s (File x) is = record {
  folders = is.folders;
  files = ap (filter (λ (e : FileEntry). not (e.id == x.0))) is.files;
  folders_made = is.folders_made;
  files_made = is.files_made;
}

node_moved : (t s : Store) (node : Node) (into : ℕ) → IsTreeOf t s → IsTreeOf (moved t (Some node) into) (moved s (Some node) into)
unfolding moved
node_moved t s (Folder f) into is = folder_changed t s f.0 (λ e. record e { parent = into }) is
node_moved t s (File x) into is = file_changed t s x.0 (λ e. record e { folder = into }) is

-- names that were kept leave the tree as it was
pub kept : (t s : Store) (old new : Titles) → AreKept old new → IsTreeOf (tree_store t old) s → IsTreeOf (tree_store t new) s
unfolding tree_store
kept t s old new are is = record {
  folders = ap (λ ts. (tree_store t (record old { folders = ts })).folders) are.folders ∙ is.folders;
  files = ap (λ ts. (tree_store t (record old { files = ts })).files) are.files ∙ is.files;
  folders_made = is.folders_made;
  files_made = is.files_made;
}

-- what a note tells of a store is what it makes of its tree
pub told_tree : (s t : Store) (note : Note) → IsTreeOf s t → IsTreeOf (told_store s note) (tree_then t note)
unfolding told_store tree_then with_new_holder without_grant
told_tree s t Root is = record { folders = refl; files = refl; folders_made = refl; files_made = refl }
told_tree s t (NewHolder h check) is = record { folders = is.folders; files = is.files; folders_made = is.folders_made; files_made = is.files_made }
told_tree s t (NewFolder f p) is = new_folder s t p [] is
told_tree s t (NewFile x f) is = new_file s t f [] [] is
told_tree s t (Rewrite x) is = is
told_tree s t (NameFile x) is = is
told_tree s t (NameFolder f) is = is
told_tree s t (DropFile x) is = unfold without_node in node_gone s t (File (record { 0 = x })) is
told_tree s t (DropFolder f) is = unfold without_node in node_gone s t (Folder (record { 0 = f })) is
told_tree s t (ShiftFile x g) is = file_changed s t x (λ e. record e { folder = g }) is
told_tree s t (ShiftFolder g q) is = folder_changed s t g (λ e. record e { parent = q }) is
told_tree s t (Give h f) is = record { folders = is.folders; files = is.files; folders_made = is.folders_made; files_made = is.files_made }
told_tree s t (Take h f) is = record { folders = is.folders; files = is.files; folders_made = is.folders_made; files_made = is.files_made }
told_tree s t StrictRoot is = record { folders = refl; files = refl; folders_made = refl; files_made = refl }
told_tree s t Upgrade is = is

-- names stand beside one tree as beside another
pub titled_tree : (t u : Store) (names : Titles) → IsTreeOf t u → IsTreeOf (tree_store t names) (tree_store u names)
unfolding tree_store
titled_tree t u names is = record {
  folders = ap (λ l. (tree_store (record t { folders = l }) names).folders) is.folders;
  files = ap (λ l. (tree_store (record t { files = l }) names).files) is.files;
  folders_made = is.folders_made;
  files_made = is.files_made;
}

pub tree_on : (a b c : Store) → IsTreeOf a b → IsTreeOf b c → IsTreeOf a c
tree_on a b c p q = record {
  folders = p.folders ∙ q.folders;
  files = p.files ∙ q.files;
  folders_made = p.folders_made ∙ q.folders_made;
  files_made = p.files_made ∙ q.files_made;
}

pub tree_back : (a b : Store) → IsTreeOf a b → IsTreeOf b a
tree_back a b p = record { folders = sym p.folders; files = sym p.files; folders_made = sym p.folders_made; files_made = sym p.files_made }

module _ (t s : Store) (old new : Titles) (below : AreBelow t) (is : IsTreeOf (tree_store t old) s) where
  made : (path : List ℕ) (parent : ℕ) → IsSet old new (Folder (record { 0 = s.folders_made + 1 })) (name_at path) [] → IsTreeOf (tree_store (with_new_folder t parent []) new) (with_new_folder s parent (name_at path))
  unfolding tree_store folder_node
  made path parent set =
      let same : s.folders_made ≡ t.folders_made = sym is.folders_made in
      subst (λ z. IsTreeOf z (with_new_folder s parent (name_at path)))
      (sym (folder_joins t old new parent (name_at path) [] below (subst (λ n. IsSet old new (folder_node (n + 1)) (name_at path) []) same set)))
      (new_folder (tree_store t old) s parent (name_at path) is)

  added : (folder : ℕ) (name bytes : List ℕ) → IsSet old new (File (record { 0 = s.files_made + 1 })) name bytes → IsTreeOf (tree_store (with_new_file t folder [] []) new) (with_new_file s folder name bytes)
  unfolding tree_store file_node
  added folder name bytes set =
      let same : s.files_made ≡ t.files_made = sym is.files_made in
      subst (λ z. IsTreeOf z (with_new_file s folder name bytes))
      (sym (file_joins t old new folder name bytes below (subst (λ n. IsSet old new (file_node (n + 1)) name bytes) same set)))
      (new_file (tree_store t old) s folder name bytes is)

  -- the name that the file had is the last one of its path
  had_name : (path : List ℕ) (x : FileId) → IsTree s.folders s.files → node_at s path ≡ Some (File x) → name_at path ≡ name_in (title_at old.files x.0)
  unfolding file_entry
  had_name path x ok found =
      let w = node_stands s (File x) (node_found s path (File x) found).0 in
      let there : file_entry s x.0 ≡ Some w.0 = file_own s w.0 x.0 ok w.1 w.2 in
      let named : option_map (named_file old) (file_entry t x.0) ≡ Some w.0 = sym (file_named t old x.0) ∙ ap (find (λ (e : FileEntry). e.id == x.0)) is.files ∙ there in
      sym (file_name_found s path x w.0 ok found there) ∙
      (elim (file_entry t x.0) as (λ o. file_entry t x.0 ≡ o → option_map (named_file old) o ≡ Some w.0 → w.0.name ≡ name_in (title_at old.files x.0)) [
        | None ↦ λ q e. absurd (cc)
        | Some e ↦ λ q same.
            let one : named_file old e ≡ w.0 = cc in
            sym (ap (λ (z : FileEntry). z.name) one) ∙ ap (λ n. name_in (title_at old.files n)) (file_id t x.0 e q)
      ]) refl named

  written : (path bytes : List ℕ) (o : Option Node) → IsTree s.folders s.files → node_at s path ≡ o → is_folder o ≡ false → IsWritten s.files_made old new o (name_at path) bytes
      → IsTreeOf (tree_store (tree_then t (write_note s o (id_of (node_at s (parent_path path))))) new) (with_bytes_at s o path bytes)
  unfolding write_note tree_then with_bytes_at is_folder file_node
  written path bytes None ok e file set = added (id_of (node_at s (parent_path path))) (name_at path) bytes set
  written path bytes (Some (Folder f)) ok e file set = absurd (false≢true (sym file))
  written path bytes (Some (File x)) ok e file set =
      subst (λ z. IsTreeOf z (with_file s x.0 (λ y. record y { bytes = bytes })))
      (sym (file_rewritten t old new x.0 bytes (subst (λ n. IsSet old new (file_node x.0) n bytes) (had_name path x ok e) set)))
      (file_changed (tree_store t old) s x.0 (λ y. record y { bytes = bytes }) is)

  removed : (o : Option Node) → is_none o ≡ false → IsRemoved old new o → IsTreeOf (tree_store (tree_then t (remove_note o)) new) (without_node s o)
  unfolding remove_note tree_then without_node
  removed None some gone = absurd (false≢true (sym some))
  removed (Some (Folder f)) some gone = subst (λ z. IsTreeOf z (without_node s (Some (Folder f)))) (sym (removal_joins t old new (Folder f) gone)) (node_gone (tree_store t old) s (Folder f) is)
  removed (Some (File x)) some gone = subst (λ z. IsTreeOf z (without_node s (Some (File x)))) (sym (removal_joins t old new (File x) gone)) (node_gone (tree_store t old) s (File x) is)

  renamed : (name : List ℕ) (o : Option Node) → is_none o ≡ false → IsRenamed old new o name → IsTreeOf (tree_store (tree_then t (rename_note o)) new) (with_name s o name)
  unfolding rename_note tree_then with_name file_node folder_node
  renamed name None some set = absurd (false≢true (sym some))
  renamed name (Some (Folder f)) some set =
      subst (λ z. IsTreeOf z (with_folder s f.0 (λ e. record e { name = name }))) (sym (folder_renamed t old new f.0 name [] set)) (folder_changed (tree_store t old) s f.0 (λ e. record e { name = name }) is)
  renamed name (Some (File x)) some set =
      subst (λ z. IsTreeOf z (with_file s x.0 (λ e. record e { name = name }))) (sym (name_joins t old new (File x) name set)) (file_changed (tree_store t old) s x.0 (λ e. record e { name = name }) is)

  shifted : (o : Option Node) (into : ℕ) → is_none o ≡ false → AreKept old new → IsTreeOf (tree_store (tree_then t (move_note o into)) new) (moved s o into)
  unfolding move_note tree_then moved
  shifted None into some are = absurd (false≢true (sym some))
  shifted (Some (Folder f)) into some are =
      kept (moved t (Some (Folder f)) into) (moved s (Some (Folder f)) into) old new are
      (subst (λ z. IsTreeOf z (moved s (Some (Folder f)) into)) (sym (move_joins t old (Folder f) into)) (node_moved (tree_store t old) s (Folder f) into is))
  shifted (Some (File x)) into some are =
      kept (moved t (Some (File x)) into) (moved s (Some (File x)) into) old new are
      (subst (λ z. IsTreeOf z (moved s (Some (File x)) into)) (sym (move_joins t old (File x) into)) (node_moved (tree_store t old) s (File x) into is))

  pub joined : (r : Request) (key check : List ℕ) → IsAccepted s r → IsTree s.folders s.files → AreTitlesAfter s r old new
      → IsTreeOf (tree_store (tree_then t (note_of s r check)) new) (effect s r key)
  unfolding note_of tree_then effect finds_no_path writes_folder paths_of with_new_holder without_grant
  joined AddHolder key check a ok set = let k = kept t s old new set is in record { folders = k.folders; files = k.files; folders_made = k.folders_made; files_made = k.files_made }
  joined (MakeFolder path) key check a ok set =
      made path (id_of (node_at s (parent_path path))) set
  joined (WriteFile path bytes) key check a ok set = written path bytes (node_at s path) ok refl a.writes_file set
  joined (Remove path) key check a ok set = removed (node_at s path) (or_parts (is_none (node_at s path)) false a.finds_path).0 set
  joined (Rename path name) key check a ok set = renamed name (node_at s path) (or_parts (is_none (node_at s path)) false a.finds_path).0 set
  joined (Relocate path into) key check a ok set =
      shifted (node_at s path) (id_of (node_at s into)) (or_parts (is_none (node_at s path)) (is_none (node_at s into) || false) a.finds_path).0 set
  joined (Grant h path) key check a ok set = let k = kept t s old new set is in record { folders = k.folders; files = k.files; folders_made = k.folders_made; files_made = k.files_made }
  joined (Revoke h path) key check a ok set = let k = kept t s old new set is in record { folders = k.folders; files = k.files; folders_made = k.folders_made; files_made = k.files_made }
