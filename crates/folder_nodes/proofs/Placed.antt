-- What stands where a command would put a node, as the code finds it.
use Rattle.std.proofs.Common.{◌≡◌, ℕ, ◌+◌, ◌-◌, ◌<◌, ◌≤◌, Bool, true, false, not, ◌&&◌, ◌==◌, List, [], Option, Some, None, refl, sym, ap, ◌∙◌, subst, arith, ⊎_elim}
use Rattle.std.specs.Prelude.{nat_lt, nat_le}
use Rattle.std.specs.Option.{option_map}
use Rattle.std.proofs.lemmas.Bool.{eq-eqb, ne_eqb, cases_lt, lt-ltb, le-ltb, le-leb, lt-leb}
use Rattle.cry_base.specs.Refusing.{is_folder, id_of, has_child, parent_of, name_of, height_of}
use Rattle.cry_base.specs.Store.{Store, FolderEntry, FileEntry, folder_entry, file_entry, folder_node, file_node, depth_of, is_within}
use Rattle.cry_base.specs.declared.ids.FolderId.{FolderId}
use Rattle.cry_base.specs.declared.ids.FileId.{FileId}
use Rattle.cry_base.specs.declared.roles.Node.{Node}
use Rattle.cry_base.specs.declared.roles.Node.TheVariants.{Folder, File}
use Rattle.folder_nodes.specs.Checking.{Stands}
use Rattle.folder_nodes.specs.Looking.{parent_number_of, folder_number_of}
use Rattle.folder_nodes.specs.Titles.{Titles, title_at, title_of, name_in, tree_store}
use Rattle.folder_nodes.proofs.Named.{named_folder, named_file, folder_named, file_named, child_named, within_named, depth_named, height_named}
use Rattle.folder_nodes.proofs.Rowed.{some_of}
use Rattle.folder_nodes.proofs.Downward.{entry_id, file_id}

-- the folder that a node is in
parent_is : (s : Store) (f : ℕ) → parent_of s (Some (folder_node f)) ≡ parent_number_of (folder_entry s f)
unfolding parent_of folder_node
parent_is s f = elim (folder_entry s f) as (λ o. elim o as (λ _. ℕ) [ None ↦ 0 | Some e ↦ e.parent ] ≡ parent_number_of o) [ None ↦ refl | Some e ↦ refl ]

file_parent_is : (s : Store) (x : ℕ) → parent_of s (Some (file_node x)) ≡ folder_number_of (file_entry s x)
unfolding parent_of file_node
file_parent_is s x = elim (file_entry s x) as (λ o. elim o as (λ _. ℕ) [ None ↦ 0 | Some e ↦ e.folder ] ≡ folder_number_of o) [ None ↦ refl | Some e ↦ refl ]

parent_kept : (n : Titles) (o : Option FolderEntry) → parent_number_of o ≡ parent_number_of (option_map (named_folder n) o)
parent_kept n None = refl
parent_kept n (Some e) = refl

file_parent_kept : (n : Titles) (o : Option FileEntry) → folder_number_of o ≡ folder_number_of (option_map (named_file n) o)
file_parent_kept n None = refl
file_parent_kept n (Some e) = refl

pub parent_told : (s : Store) (n : Titles) (f : FolderId) → parent_number_of (folder_entry s f.0) ≡ parent_of (tree_store s n) (Some (Folder f))
unfolding folder_node
parent_told s n f = parent_kept n (folder_entry s f.0) ∙ ap parent_number_of (sym (folder_named s n f.0)) ∙ sym (parent_is (tree_store s n) f.0)

pub file_parent_told : (s : Store) (n : Titles) (x : FileId) → folder_number_of (file_entry s x.0) ≡ parent_of (tree_store s n) (Some (File x))
unfolding file_node
file_parent_told s n x = file_parent_kept n (file_entry s x.0) ∙ ap folder_number_of (sym (file_named s n x.0)) ∙ sym (file_parent_is (tree_store s n) x.0)

-- the name of a node that stands
abbrev folder_name_in : Option FolderEntry → List ℕ
folder_name_in None = []
folder_name_in (Some e) = e.name

abbrev file_name_in : Option FileEntry → List ℕ
file_name_in None = []
file_name_in (Some e) = e.name

name_is : (s : Store) (f : ℕ) → name_of s (Some (folder_node f)) ≡ folder_name_in (folder_entry s f)
unfolding name_of folder_node
name_is s f = elim (folder_entry s f) as (λ o. elim o as (λ _. List ℕ) [ None ↦ [] | Some e ↦ e.name ] ≡ folder_name_in o) [ None ↦ refl | Some e ↦ refl ]

file_name_is : (s : Store) (x : ℕ) → name_of s (Some (file_node x)) ≡ file_name_in (file_entry s x)
unfolding name_of file_node
file_name_is s x = elim (file_entry s x) as (λ o. elim o as (λ _. List ℕ) [ None ↦ [] | Some e ↦ e.name ] ≡ file_name_in o) [ None ↦ refl | Some e ↦ refl ]

pub name_told : (s : Store) (n : Titles) (node : Node) → Stands s node → name_in (title_of n node) ≡ name_of (tree_store s n) (Some node)
unfolding folder_node file_node
name_told s n (Folder f) stands =
    let w = some_of FolderEntry (folder_entry s f.0) stands in
    sym (name_is (tree_store s n) f.0 ∙ ap folder_name_in (folder_named s n f.0 ∙ ap (option_map (named_folder n)) w.1)
    ∙ ap (λ k. name_in (title_at n.folders k)) (entry_id s f.0 w.0 w.1))
name_told s n (File x) stands =
    let w = some_of FileEntry (file_entry s x.0) stands in
    sym (file_name_is (tree_store s n) x.0 ∙ ap file_name_in (file_named s n x.0 ∙ ap (option_map (named_file n)) w.1)
    ∙ ap (λ k. name_in (title_at n.files k)) (file_id s x.0 w.0 w.1))

-- what is asked of folders alone
not_not : (b : Bool) → not (not b) ≡ b
not_not true = refl
not_not false = refl

pub children_told : (s : Store) (n : Titles) (node : Node) (f : FolderId) (r : Bool) → node ≡ Folder f → r ≡ not (has_child s f.0) → not r ≡ (is_folder (Some node) && has_child (tree_store s n) (id_of (Some node)))
unfolding is_folder id_of
children_told s n node f r is e =
    subst (λ z. not r ≡ (is_folder (Some z) && has_child (tree_store s n) (id_of (Some z)))) (sym is) (ap not e ∙ not_not (has_child s f.0) ∙ sym (child_named s n f.0))

pub within_told : (s : Store) (n : Titles) (node : Node) (f : FolderId) (into : ℕ) (r : Bool) → node ≡ Folder f → r ≡ is_within s into f.0 → r ≡ (is_folder (Some node) && is_within (tree_store s n) into (id_of (Some node)))
unfolding is_folder id_of
within_told s n node f into r is e =
    subst (λ z. r ≡ (is_folder (Some z) && is_within (tree_store s n) into (id_of (Some z)))) (sym is) (e ∙ sym (within_named s n into f.0))

pub file_not_within : (s : Store) (node : Node) (x : FileId) (into : ℕ) → node ≡ File x → false ≡ (is_folder (Some node) && is_within s into (id_of (Some node)))
unfolding is_folder id_of
file_not_within s node x into is = subst (λ z. false ≡ (is_folder (Some z) && is_within s into (id_of (Some z)))) (sym is) refl

-- depths of what is put into a folder
pub deep_told : (s : Store) (n : Titles) (node : Node) (f into : FolderId) → node ≡ Folder f → depth_of (tree_store s n) (Folder into) + 1 + height_of (tree_store s n) (Some node) ≡ depth_of s (folder_node into.0) + 1 + height_of s (Some (folder_node f.0))
unfolding folder_node
deep_told s n node f into is =
    ap (λ (z : Node). depth_of (tree_store s n) (Folder into) + 1 + height_of (tree_store s n) (Some z)) is
    ∙ ap (λ k. k + 1 + height_of (tree_store s n) (Some (Folder f))) (depth_named s n into.0)
    ∙ ap (λ k. depth_of s (Folder into) + 1 + k) (height_named s n f.0)

pub file_deep_told : (s : Store) (n : Titles) (node : Node) (x : FileId) (into : FolderId) → node ≡ File x → depth_of (tree_store s n) (Folder into) + 1 + height_of (tree_store s n) (Some node) ≡ depth_of s (folder_node into.0) + 1 + 0
unfolding height_of folder_node
file_deep_told s n node x into is =
    ap (λ (z : Node). depth_of (tree_store s n) (Folder into) + 1 + height_of (tree_store s n) (Some z)) is
    ∙ ap (λ k. k + 1 + 0) (depth_named s n into.0)

pub deep_as : (d k : ℕ) → k ≡ d + 1 → nat_le 64 d ≡ nat_lt 64 k
deep_as d k e = ⊎_elim
    (λ (lt : d < 64). lt-leb 64 d lt ∙ sym (le-ltb 64 k (omega (arith, lt, e))))
    (λ (le : 64 ≤ d). le-leb 64 d le ∙ sym (lt-ltb 64 k (omega (arith, le, e))))
    (cases_lt d 64)

pub high_as : (d h k : ℕ) → k ≡ d + 1 + h → nat_le (64 - d) h ≡ nat_lt 64 k
high_as d h k e = ⊎_elim
    (λ (lt : h < 64 - d). lt-leb (64 - d) h lt ∙ sym (le-ltb 64 k (omega (arith, lt, e))))
    (λ (le : 64 - d ≤ h). le-leb (64 - d) h le ∙ sym (lt-ltb 64 k (omega (arith, le, e))))
    (cases_lt h (64 - d))

pub full_as : (d k : ℕ) → d ≤ 64 → k ≡ d + 1 + 0 → (64 - d) == 0 ≡ nat_lt 64 k
full_as d k few e = ⊎_elim
    (λ (lt : d < 64). ne_eqb (64 - d) 0 (λ none. omega (arith, lt, none)) ∙ sym (le-ltb 64 k (omega (arith, lt, e))))
    (λ (le : 64 ≤ d). eq-eqb (64 - d) 0 (omega (arith, le, few)) ∙ sym (lt-ltb 64 k (omega (arith, le, e))))
    (cases_lt d 64)
