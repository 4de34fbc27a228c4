-- An entry that brings a role into a holder's reach is a gain for the holder.
use Rattle.std.proofs.Common.{◌≡◌, ℕ, not, ◌&&◌, ◌==◌, List, [], ◌∷◌, Option, Some, None, inl, inr, ◌⊎◌, ⊎_elim, refl, sym, ap, subst}
use Rattle.std.proofs.lemmas.Bool.{eqb-true}
use Rattle.cry_base.specs.Clearances.{clear_number}
use Rattle.cry_base.specs.Sets.{In}
use Rattle.cry_base.specs.Sets.Path.{Here, On}
use Rattle.cry_base.specs.Requests.{Request}
use Rattle.cry_base.specs.Requests.Request.{AddHolder, MakeFolder, WriteFile, Remove, Rename, Relocate, Grant, Revoke}
use Rattle.cry_base.specs.Refusing.{granted_id, id_of}
use Rattle.cry_base.specs.Store.{Store, FolderEntry, FileEntry, GrantEntry, folder_node, file_node, folder_entry, file_entry, node_at, nodes_of}
use Rattle.cry_base.specs.Stepping.{with_new_holder, with_new_folder, with_new_file, with_folder, with_file, without_folder, without_file, without_grant, with_bytes_at, without_node, with_name, moved, effect}
use Rattle.cry_base.specs.declared.roles.Edge.{Edge}
use Rattle.cry_base.specs.declared.roles.Node.{Node}
use Rattle.cry_base.specs.declared.roles.Node.TheVariants as node
use Rattle.cry_base.specs.declared.roles.Role.{Role}
use Rattle.cry_base.specs.declared.roles.Role.TheVariants.{Owner, Holder, Clear, Sub, Back, Files, Data, File}
use Rattle.cry_base.proofs.Finding.{find-found}
use Rattle.cry_base.proofs.Members.{In-append, In-map, In-filter}
use Rattle.role_graph.specs.Edges.{Reaches, edges, pairs_of, IsEdge}
use Rattle.role_graph.specs.RightsByReach.{HasFolder, IsRightful, IsStandingRole, IsSettled}
use Rattle.role_graph.specs.Roles.{holder_role}
use Rattle.role_graph.proofs.Edging.{edges_told}
use Rattle.role_graph.proofs.Rightful.{rights_by_reach}
use Rattle.public_fold.specs.Keyed.{HasRole}
use Rattle.public_fold.proofs.Accepting.{folder_in_nodes, file_in_nodes}
use Rattle.public_fold.proofs.KeyMoves.{IsSound}
use Rattle.public_fold.proofs.Settling.{rooted_settled}
use Rattle.public_fold.proofs.Treeing.{folder_own, file_own}
use Rattle.closure_laws.specs.Gains.{GivesGrant, IsGainedNode}

-- only a grant to the holder adds one of the holder's
same_written : (s : Store) (path bytes : List ℕ) (o : Option Node) (g : GrantEntry) → In g (with_bytes_at s o path bytes).grants → In g s.grants
unfolding with_bytes_at with_new_file with_file
same_written s path bytes None g i = i
same_written s path bytes (Some (node.Folder f)) g i = i
same_written s path bytes (Some (node.File x)) g i = i

same_removed : (s : Store) (o : Option Node) (g : GrantEntry) → In g (without_node s o).grants → In g s.grants
unfolding without_node without_folder without_file
same_removed s None g i = i
same_removed s (Some (node.Folder f)) g i = (In-filter GrantEntry (λ y. not (y.folder == f.0)) g s.grants i).0
same_removed s (Some (node.File x)) g i = (In-filter GrantEntry (λ y. not (y.folder == clear_number x.0)) g s.grants i).0

same_renamed : (s : Store) (name : List ℕ) (o : Option Node) (g : GrantEntry) → In g (with_name s o name).grants → In g s.grants
unfolding with_name with_folder with_file
same_renamed s name None g i = i
same_renamed s name (Some (node.Folder f)) g i = i
same_renamed s name (Some (node.File x)) g i = i

same_moved : (s : Store) (o : Option Node) (q : ℕ) (g : GrantEntry) → In g (moved s o q).grants → In g s.grants
unfolding moved with_folder with_file
same_moved s None q g i = i
same_moved s (Some (node.Folder f)) q g i = i
same_moved s (Some (node.File x)) q g i = i

new_grant : (s : Store) (r : Request) (key : List ℕ) (g : GrantEntry) → In g (effect s r key).grants → (In g s.grants → ⊥) → GivesGrant r g.holder
unfolding effect with_new_holder with_new_folder without_grant
new_grant s AddHolder key g i n = absurd (n i)
new_grant s (MakeFolder path) key g i n = absurd (n i)
new_grant s (WriteFile path bytes) key g i n = absurd (n (same_written s path bytes (node_at s path) g i))
new_grant s (Remove path) key g i n = absurd (n (same_removed s (node_at s path) g i))
new_grant s (Rename path name) key g i n = absurd (n (same_renamed s name (node_at s path) g i))
new_grant s (Relocate path into) key g i n = absurd (n (same_moved s (node_at s path) (id_of (node_at s into)) g i))
new_grant s (Grant h path) key g i n =
    let new : GrantEntry = record { holder = h; folder = granted_id (node_at s path) } in ⊎_elim
    (λ u. absurd (n u))
    (λ u. ⊎_elim (λ (q : g ≡ new). sym (ap (λ (x : GrantEntry). x.holder) q)) (λ z. absurd z) u)
    ((In-append GrantEntry g s.grants (new ∷ [])).0 i)
new_grant s (Revoke h path) key g i n = absurd (n (In-filter GrantEntry (λ y. not (y.holder == h && y.folder == granted_id (node_at s path))) g s.grants i).0)

pub standing : (s : Store) (r : Role) → HasRole s r → IsStandingRole s r
standing s Owner h = tt
standing s (Holder k) h = tt
standing s (Clear f) h = h
standing s (Sub f) h = h
standing s (Back f) h = h
standing s (Files f) h = h
standing s (Data f) h = h
standing s (File x) h = h

folder_there : (s : Store) (f : ℕ) → HasFolder s f → In (folder_node f) (nodes_of s)
folder_there s f w = subst (λ n. In (folder_node n) (nodes_of s)) w.2 (folder_in_nodes s w.0 w.1)

pub found_file : (s : Store) (x : ℕ) (e : FileEntry) → file_entry s x ≡ Some e → In e s.files × (e.id ≡ x)
unfolding file_entry
found_file s x e q = let told = find-found FileEntry (λ y. y.id == x) s.files e q in (told.0, eqb-true e.id x told.1)

pub found_folder : (s : Store) (f : ℕ) (e : FolderEntry) → folder_entry s f ≡ Some e → In e s.folders × (e.id ≡ f)
unfolding folder_entry
found_folder s f e q = let told = find-found FolderEntry (λ y. y.id == f) s.folders e q in (told.0, eqb-true e.id f told.1)

module _ (s t : Store) (h : ℕ) (ok : IsSound t) where
  abbrev Gained : Type 0
  Gained = (node : Node) × IsGainedNode s t h node

  -- a folder whose name is shown anew, one that is allowed anew, and such a file
  shown_anew : (f : ℕ) → HasFolder s f → HasFolder t f → IsRightful t h (Data (record { 0 = f })) → (IsRightful s h (Data (record { 0 = f })) → ⊥) → Gained
  unfolding folder_node
  shown_anew f there w right was = (folder_node f, (folder_there s f there, inl ((w.0, folder_own t w.0 f ok.tree w.1 w.2, right), λ u. was u.2)))

  open_anew : (f : ℕ) → HasFolder s f → HasFolder t f → IsRightful t h (Sub (record { 0 = f })) → (IsRightful s h (Sub (record { 0 = f })) → ⊥) → Gained
  unfolding folder_node
  open_anew f there w right was = (folder_node f, (folder_there s f there, inr ((w.0, folder_own t w.0 f ok.tree w.1 w.2, right), λ u. was u.2)))

  file_anew : (x : ℕ) → ((e : FileEntry) × In e s.files × (e.id ≡ x)) → IsRightful t h (File (record { 0 = x })) → (IsRightful s h (File (record { 0 = x })) → ⊥) → Gained
  unfolding file_node
  file_anew x there right was = (
    file_node x,
    (
      subst (λ n. In (file_node n) (nodes_of s)) there.2 (file_in_nodes s there.0 there.1),
      inr (
        (right.0, file_own t right.0 x ok.tree right.1 right.2, right.3),
        λ u. let w = found_file s x u.0 u.1 in was (u.0, w.0, w.1, u.2),
      ),
    ),
  )

  pub rightful_anew : (request : Request) (key : List ℕ) → t ≡ effect s request key → (r : Role) → HasRole s r → HasRole t r → IsRightful t h r → (IsRightful s h r → ⊥) → GivesGrant request h ⊎ Gained
  rightful_anew request key is Owner a b right was = absurd right
  rightful_anew request key is (Holder k) a b right was = absurd (was right)
  rightful_anew request key is (Clear f) a b right was =
      let g : GrantEntry = record { holder = h; folder = f.0 } in inl (new_grant s request key g (subst (λ z. In g z.grants) is right) was)
  rightful_anew request key is (Sub f) a b right was = inr (open_anew f.0 a b right was)
  rightful_anew request key is (Back f) a b right was = inr (shown_anew f.0 a b right was)
  rightful_anew request key is (Files f) a b right was = inr (open_anew f.0 a b right was)
  rightful_anew request key is (Data f) a b right was = inr (shown_anew f.0 a b right was)
  rightful_anew request key is (File x) a b right was = inr (file_anew x.0 a right was)

-- what is reached is the start, or stands at the end of an edge
pub reached_end : (t : Store) → ((e : Edge) → IsEdge t e → HasRole t e.from × HasRole t e.to) → (a r : Role) → Reaches (edges t) a r → (r ≡ a) ⊎ HasRole t r
unfolding pairs_of
reached_end t ends a r Here = inl refl
reached_end t ends a r (On {b = b} {c = c} way i) =
    let w = (In-map Edge (Role × Role) (λ e. (e.from, e.to)) (b, c) (edges t)).0 i in
    inr (subst (HasRole t) (sym (ap (λ (z : Role × Role). z.1) w.2)) (ends w.0 ((edges_told t w.0).0 w.1)).1)

-- a role that comes into the holder's reach
pub brings_gain : (s t : Store) (h : ℕ) → IsSettled s → IsSound t → ((e : Edge) → IsEdge t e → HasRole t e.from × HasRole t e.to)
    → (request : Request) (key : List ℕ) → t ≡ effect s request key → (r : Role) → HasRole s r → Reaches (edges t) (holder_role h) r → (Reaches (edges s) (holder_role h) r → ⊥)
    → GivesGrant request h ⊎ ((node : Node) × IsGainedNode s t h node)
brings_gain s t h before ok ends request key is r stood way out = ⊎_elim
    (λ e. absurd (out (subst (λ z. Reaches (edges s) (holder_role h) z) (sym e) Here)))
    (λ stands. rightful_anew s t h ok request key is r stood stands
    ((rights_by_reach t (rooted_settled t ok.rooted) h r (standing t r stands)).0 way)
    (λ right. out ((rights_by_reach s before h r (standing s r stood)).1 right)))
    (reached_end t ends (holder_role h) r way)
