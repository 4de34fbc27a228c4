-- A tree and grants on its folders make a store whose keys lead to what the rights allow.
use Rattle.std.proofs.Common.{◌≡◌, ◌≢◌, ℕ, List, Some, None, sym, ap, ◌∙◌, subst}
use Rattle.cry_base.specs.Sets.{In}
use Rattle.cry_base.specs.Store.{Store, FolderEntry, FileEntry, GrantEntry, folder_entry}
use Rattle.cry_base.specs.declared.roles.Role.{Role}
use Rattle.cry_base.specs.declared.roles.Role.TheVariants.{Owner}
use Rattle.folder_nodes.specs.Trees.{IsTree}
use Rattle.folder_nodes.proofs.Added.{nothing_at_zero}
use Rattle.role_graph.specs.Edges.{Reaches, edges}
use Rattle.role_graph.specs.PublicStore.{public_store, GrantsStand}
use Rattle.role_graph.specs.RightsByReach.{HasFolder, IsClearance, IsSettled}
use Rattle.role_graph.specs.Roles.{clear_of, folder_roles, file_role}
use Rattle.role_graph.proofs.Joining.{folder_found, entry_in}
use Rattle.role_graph.proofs.Ordered.{stands_at}
use Rattle.role_graph.proofs.Standing.{low_parent, low_place}
use Rattle.role_graph.proofs.Typing.{folder_reached, file_reached, clearance_reached}

one_entry : (t : Store) → IsTree t → (a b : FolderEntry) → In a t.folders → In b t.folders → a.id ≡ b.id → a.parent ≡ b.parent
one_entry t tree a b i j e =
    let first : folder_entry t a.id ≡ Some a = folder_found t tree a i in
    let second : folder_entry t a.id ≡ Some b = ap (folder_entry t) e ∙ folder_found t tree b j in
    let both : Some a ≡ Some b = sym first ∙ second in
    let same : a ≡ b = cc in
    ap (λ (z : FolderEntry). z.parent) same

never_zero : (t : Store) → IsTree t → (e : FolderEntry) → In e t.folders → e.id ≢ 0
never_zero t tree e i = λ zero.
    let there : folder_entry t 0 ≡ Some e = subst (λ n. folder_entry t n ≡ Some e) zero (folder_found t tree e i) in
    let none : folder_entry t 0 ≡ None = nothing_at_zero t tree in
    let both : Some e ≡ None = sym there ∙ none in
    cc

pub settled : (t : Store) (gs : List GrantEntry) → IsTree t → GrantsStand (public_store t gs) → IsSettled (public_store t gs)
settled t gs tree stand = record {
  own_parent = one_entry t tree;
  no_zero = never_zero t tree;
  granted_stands = stand.granted_stands;
  folders_below = λ e i. (stand.folders_below e i, low_parent t tree stand.folders_below e i);
  files_below = λ e i. low_place t tree stand.folders_below e i;
}

pub owner_folders : (t : Store) (gs : List GrantEntry) (f : ℕ) (r : Role) → HasFolder (public_store t gs) f → In r (folder_roles f) → Reaches (edges (public_store t gs)) Owner r
owner_folders t gs f r stands i = folder_reached (public_store t gs) stands.0 r stands.1 (subst (λ n. In r (folder_roles n)) (sym stands.2) i)

pub owner_files : (t : Store) (gs : List GrantEntry) → IsTree t → (x : FileEntry) → In x t.files → Reaches (edges (public_store t gs)) Owner (file_role x.id)
owner_files t gs tree x i =
    let w = stands_at FileEntry t.files x i in
    let up : (p : FolderEntry) × (folder_entry t x.folder ≡ Some p) =
    subst (λ (z : FileEntry). (p : FolderEntry) × (folder_entry t z.folder ≡ Some p)) (w.2 x) (let at = tree.files_stand w.0 x w.1 in (at.0, at.1)) in
    let stands = entry_in t x.folder up.0 up.1 in
    file_reached (public_store t gs) up.0 x stands.0 i (sym stands.1)

pub owner_clearances : (t : Store) (gs : List GrantEntry) (c : ℕ) → IsClearance (public_store t gs) c → Reaches (edges (public_store t gs)) Owner (clear_of c)
owner_clearances t gs c w = clearance_reached (public_store t gs) c w
