-- The text of what a path finds, from the names and bytes that are kept beside the tree.
use Rattle.std.proofs.Common.{◌≡◌, ℕ, List, [], Option, Some, None, refl, sym, ap, ◌∙◌}
use Rattle.std.specs.Prelude.{IsSome, option_map}
use Rattle.std.proofs.lemmas.Bool.{false≢true}
use Rattle.cry_base.specs.Store.{Store, FileEntry, file_entry, node_at}
use Rattle.cry_base.specs.declared.ids.FileId.{FileId}
use Rattle.cry_base.specs.declared.roles.Node.{Node}
use Rattle.cry_base.specs.declared.roles.Node.TheVariants.{Folder, File}
use Rattle.folder_nodes.specs.Titles.{Titles, bytes_in, title_at, tree_store}
use Rattle.folder_nodes.proofs.Checked.{found_stands}
use Rattle.folder_nodes.proofs.Downward.{file_id}
use Rattle.folder_nodes.proofs.Named.{file_named, named_file}
use Rattle.journal_bytes.specs.Texting.{bytes_of_file, file_text, renamed_text, titled_text}

abbrev bytes_then : Option FileEntry → List ℕ
bytes_then o = elim o [ None ↦ [] | Some e ↦ e.bytes ]

file_bytes : (tree : Store) (n : Titles) (path : List ℕ) (x : FileId) → node_at (tree_store tree n) path ≡ Some (File x) → bytes_in (title_at n.files x.0) ≡ bytes_of_file (tree_store tree n) x.0
file_bytes tree n path x found =
    (elim (file_entry tree x.0) as (λ o. file_entry tree x.0 ≡ o → IsSome o → bytes_in (title_at n.files x.0) ≡ bytes_then (option_map (named_file n) o)) [
      | None ↦ λ q some. absurd (false≢true some)
      | Some e ↦ λ q some. ap (λ k. bytes_in (title_at n.files k)) (sym (file_id tree x.0 e q))
    ]) refl (found_stands tree n path (File x) found)
    ∙ ap bytes_then (sym (file_named tree n x.0))

titled : (tree : Store) (n : Titles) (path name : List ℕ) (o : Option Node) → node_at (tree_store tree n) path ≡ o → titled_text n o name ≡ renamed_text (tree_store tree n) o name
unfolding renamed_text
titled tree n path name None found = refl
titled tree n path name (Some (Folder f)) found = refl
titled tree n path name (Some (File x)) found = ap (file_text name) (file_bytes tree n path x found)

-- the text under a new name is the store's
pub named_anew : (tree : Store) (n : Titles) (path name : List ℕ) (o : Option Node) → o ≡ node_at (tree_store tree n) path → titled_text n o name ≡ renamed_text (tree_store tree n) (node_at (tree_store tree n) path) name
named_anew tree n path name o is = titled tree n path name o (sym is) ∙ ap (λ z. renamed_text (tree_store tree n) z name) is
