-- What a path finds stands.
use Rattle.std.proofs.Common.{◌≡◌, ℕ, ◌==◌, List, map, Option, Some, sym, ap, ◌∙◌, subst, ⊎_elim}
use Rattle.std.specs.Prelude.{is_some, IsSome}
use Rattle.std.proofs.lemmas.Bool.{eq-eqb}
use Rattle.cry_base.specs.Sets.{In}
use Rattle.cry_base.specs.Store.{Store, FolderEntry, FileEntry, folder_entry, file_entry, folder_node, file_node, nodes_of, node_at}
use Rattle.cry_base.specs.declared.ids.FolderId.{FolderId}
use Rattle.cry_base.specs.declared.ids.FileId.{FileId}
use Rattle.cry_base.specs.declared.roles.Node.{Node}
use Rattle.cry_base.specs.declared.roles.Node.TheVariants.{Folder, File}
use Rattle.cry_base.proofs.Finding.{node_found, found-find}
use Rattle.cry_base.proofs.Members.{In-append, In-map}
use Rattle.folder_nodes.specs.Checking.{Stands}
use Rattle.folder_nodes.specs.Titles.{Titles, tree_store}
use Rattle.folder_nodes.proofs.Named.{folder_named_stands, nodes_named}

-- a folder that a path finds stands
pub folder_found_stands : (s : Store) (path : List ℕ) (f : FolderId) → node_at s path ≡ Some (Folder f) → IsSome (folder_entry s f.0)
unfolding nodes_of folder_entry folder_node file_node
folder_found_stands s path f e = ⊎_elim
    (λ a.
    let w = (In-map FolderEntry Node (λ e. folder_node e.id) (Folder f) s.folders).0 a in
    let same : f ≡ record { 0 = w.0.id } = cc in
    let id : w.0.id ≡ f.0 = sym (ap (λ (z : FolderId). z.0) same) in
    let found = found-find FolderEntry (λ z. z.id == f.0) w.0 s.folders w.1 (eq-eqb w.0.id f.0 id) in
    ap (λ (o : Option FolderEntry). is_some o) found.1)
    (λ b.
    let w = (In-map FileEntry Node (λ e. file_node e.id) (Folder f) s.files).0 b in
    absurd (cc))
    ((In-append Node (Folder f) (map (λ (e : FolderEntry). folder_node e.id) s.folders) (map (λ (e : FileEntry). file_node e.id) s.files)).0 (node_found s path (Folder f) e).0)

pub named_folder_stands : (s : Store) (n : Titles) (path : List ℕ) (f : FolderId) → node_at (tree_store s n) path ≡ Some (Folder f) → IsSome (folder_entry s f.0)
named_folder_stands s n path f e = sym (folder_named_stands s n f.0) ∙ folder_found_stands (tree_store s n) path f e

-- what a path finds stands
pub found_stands : (s : Store) (n : Titles) (path : List ℕ) (node : Node) → node_at (tree_store s n) path ≡ Some node → Stands s node
unfolding nodes_of file_entry folder_node file_node
found_stands s n path (Folder f) e = named_folder_stands s n path f e
found_stands s n path (File x) e = ⊎_elim
    (λ a.
    let w = (In-map FolderEntry Node (λ e. folder_node e.id) (File x) s.folders).0 a in
    absurd (cc))
    (λ b.
    let w = (In-map FileEntry Node (λ e. file_node e.id) (File x) s.files).0 b in
    let same : x ≡ record { 0 = w.0.id } = cc in
    let id : w.0.id ≡ x.0 = sym (ap (λ (z : FileId). z.0) same) in
    let found = found-find FileEntry (λ z. z.id == x.0) w.0 s.files w.1 (eq-eqb w.0.id x.0 id) in
    ap (λ (o : Option FileEntry). is_some o) found.1)
    ((In-append Node (File x) (map (λ (e : FolderEntry). folder_node e.id) s.folders) (map (λ (e : FileEntry). file_node e.id) s.files)).0
    (subst (λ l. In (File x) l) (nodes_named s n) (node_found (tree_store s n) path (File x) e).0))
