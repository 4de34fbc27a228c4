-- Along each edge the rank falls.
use Rattle.std.proofs.Common.{◌≡◌, ℕ, suc, ◌+◌, ◌-◌, ◌<◌, ◌≤◌, List, length, Some, None, is_some, true, false, ⊎_elim, refl, sym, ap, subst, arith}
use Rattle.std.specs.Prelude.{IsSome}
use Rattle.cry_base.specs.Clearances.{clear_number}
use Rattle.cry_base.specs.Sets.{In}
use Rattle.cry_base.specs.Store.{Store, FolderEntry, GrantEntry, folder_entry, file_entry, folder_node, depth_of, way_to_root}
use Rattle.cry_base.specs.declared.roles.Edge.{Edge}
use Rattle.cry_base.specs.declared.roles.Role.TheVariants.{Owner}
use Rattle.folder_nodes.specs.Trees.{IsTree}
use Rattle.folder_nodes.proofs.Climbing.{levels_few}
use Rattle.folder_nodes.proofs.Rowed.{some_of}
use Rattle.folder_nodes.proofs.Treed.{way_on, way_off, depth_told}
use Rattle.role_graph.specs.Edges.{edge, folder_edges, parent_edges, grant_edge, file_edge, clearance_edges}
use Rattle.role_graph.specs.Edges.{IsOwnEdge, IsParentEdge, IsGrantEdge, IsFileEdge, IsClearanceEdge, IsEdge}
use Rattle.role_graph.specs.Joined.{levels, rank_of}
use Rattle.role_graph.specs.PublicStore.{public_store}
use Rattle.role_graph.specs.Roles.{holder_role, clear_of, sub_of, back_of, files_of, data_of, file_role}
use Rattle.role_graph.proofs.Standing.{found_row}

-- grants don't change the tree
pub tree_public : (t : Store) (gs : List GrantEntry) → IsTree t → IsTree (public_store t gs)
unfolding folder_entry file_entry way_to_root
tree_public t gs tree = record {
  folders_ascend = tree.folders_ascend;
  files_ascend = tree.files_ascend;
  folders_made = tree.folders_made;
  files_made = tree.files_made;
  root = tree.root;
  parents_stand = tree.parents_stand;
  ways_end = tree.ways_end;
  files_stand = tree.files_stand;
}

pub levels_standing : (s : Store) → IsTree s → (f d : ℕ) → IsSome (folder_entry s f) → d ≡ depth_of s (folder_node f) → d + 1 ≡ levels s f
unfolding levels
levels_standing s tree f d stands e =
    let w = some_of FolderEntry (folder_entry s f) stands in
    let on : length (way_to_root s f) ≡ suc (length (way_to_root s w.0.parent)) = ap length (way_on s tree f w.0 w.1) in
    let told : depth_of s (folder_node f) ≡ length (way_to_root s f) - 1 = depth_told s f in
    omega (arith, e, on, told)

pub levels_absent : (s : Store) (f : ℕ) → is_some (folder_entry s f) ≡ false → 0 ≡ levels s f
unfolding levels
levels_absent s f absent =
    (elim (folder_entry s f) as (λ o. folder_entry s f ≡ o → 0 ≡ length (way_to_root s f)) [
      | None ↦ λ p. sym (ap length (way_off s f p))
      | Some e ↦ λ p. absurd (let t : is_some (folder_entry s f) ≡ true = ap is_some p in cc)
    ]) refl

few : (s : Store) → IsTree s → (f : ℕ) → levels s f ≤ 65
unfolding levels
few s tree f = levels_few s tree f

level_more : (s : Store) → IsTree s → (e : FolderEntry) → In e s.folders → levels s e.id ≡ suc (levels s e.parent)
unfolding levels folder_entry
level_more s tree e i = ap length (way_on s tree e.id e (found_row s.folders tree.folders_ascend e i))

-- the rank falls along the edge
abbrev pub Falls : Store → Edge → Type 0
Falls s e = rank_of s e.to < rank_of s e.from

as_is : (s : Store) (e q : Edge) → Falls s q → e ≡ q → Falls s e
as_is s e q falls same = subst (Falls s) (sym same) falls

own_falls : (s : Store) (f : ℕ) → levels s f ≤ 65 → (e : Edge) → In e (folder_edges f) → Falls s e
unfolding rank_of folder_edges edge clear_of sub_of back_of files_of data_of
own_falls s f low e i = ⊎_elim
    (as_is s e (edge 1 Owner (clear_of f)) (omega arith))
    (λ a. ⊎_elim (as_is s e (edge 3 (clear_of f) (sub_of f)) (omega (arith, low)))
    (λ b. ⊎_elim (as_is s e (edge 4 (sub_of f) (back_of f)) (omega (arith, low)))
    (λ c. ⊎_elim (as_is s e (edge 5 (sub_of f) (files_of f)) (omega (arith, low)))
    (λ d. ⊎_elim (as_is s e (edge 7 (back_of f) (data_of f)) (omega (arith, low))) (λ n. absurd n) d) c) b) a) i

parent_falls : (s : Store) (f p : ℕ) → levels s f ≤ 65 → levels s f ≡ suc (levels s p) → (e : Edge) → In e (parent_edges f p) → Falls s e
unfolding rank_of parent_edges edge sub_of back_of
parent_falls s f p low more e i = ⊎_elim
    (as_is s e (edge 6 (sub_of p) (sub_of f)) (omega (arith, low, more)))
    (λ a. ⊎_elim (as_is s e (edge 8 (back_of f) (back_of p)) (omega (arith, low, more))) (λ n. absurd n) a) i

grant_falls : (s : Store) (h f : ℕ) (e : Edge) → e ≡ grant_edge h f → Falls s e
unfolding rank_of grant_edge edge holder_role clear_of
grant_falls s h f e same = as_is s e (edge 2 (holder_role h) (clear_of f)) (omega arith) same

file_falls : (s : Store) (f x : ℕ) (e : Edge) → e ≡ file_edge f x → Falls s e
unfolding rank_of file_edge edge files_of file_role
file_falls s f x e same = as_is s e (edge 9 (files_of f) (file_role x)) (omega arith) same

clearance_falls : (s : Store) (f x : ℕ) → levels s f ≤ 65 → (e : Edge) → In e (clearance_edges f x) → Falls s e
unfolding rank_of clearance_edges edge clear_of back_of file_role
clearance_falls s f x low e i = ⊎_elim
    (as_is s e (edge 1 Owner (clear_of (clear_number x))) (omega arith))
    (λ a. ⊎_elim (as_is s e (edge 10 (clear_of (clear_number x)) (file_role x)) (omega arith))
    (λ b. ⊎_elim (as_is s e (edge 11 (clear_of (clear_number x)) (back_of f)) (omega (arith, low))) (λ n. absurd n) b) a) i

pub edge_falls : (s : Store) → IsTree s → (e : Edge) → IsEdge s e → Falls s e
edge_falls s tree e w = ⊎_elim
    (λ (o : IsOwnEdge s e). own_falls s o.0.id (few s tree o.0.id) e o.2)
    (λ v. ⊎_elim
    (λ (p : IsParentEdge s e). parent_falls s p.0.id p.0.parent (few s tree p.0.id) (level_more s tree p.0 p.1) e p.3)
    (λ u. ⊎_elim
    (λ (g : IsGrantEdge s e). grant_falls s g.0.holder g.0.folder e g.2)
    (λ t. ⊎_elim
    (λ (x : IsFileEdge s e). file_falls s x.0.folder x.0.id e x.2)
    (λ (x : IsClearanceEdge s e). clearance_falls s x.0.folder x.0.id (few s tree x.0.folder) e x.3) t) u) v) w
