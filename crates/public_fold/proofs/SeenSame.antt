-- What fits a stand, and its key step, hang on what everyone may see of it, and not on the order of its grants.
use Rattle.std.proofs.Common.{◌≡◌, ℕ, Bool, cond, not, ◌==◌, ◌&&◌, ◌||◌, List, [], ◌∷◌, ◌++◌, map, flat_map, filter, Option, Some, None, refl, sym, ap, ◌∙◌, append_assoc}
use Rattle.std.specs.Prelude.{nat_lt, is_some}
use Rattle.std.proofs.lemmas.Bool.Decides.{same_from_decides}
use Rattle.cry_base.specs.Sets.{In, has}
use Rattle.cry_base.specs.Refusing.{deepest, has_child, height_of, is_node_within}
use Rattle.cry_base.specs.Clearances.{clear_number, file_of}
use Rattle.cry_base.specs.Stepping.{with_new_holder, with_new_folder, with_new_file, without_grant}
use Rattle.cry_base.specs.declared.roles.Role.{Role}
use Rattle.cry_base.specs.Store.{Store, FolderEntry, FileEntry, GrantEntry, depth_of, file_entry, file_names, folder_entry, folder_names, folder_node, has_grant, holder_entry, is_within, node_names, nodes_of, way_to_root}
use Rattle.cry_base.specs.declared.roles.Edge.{Edge}
use Rattle.grant_book.specs.Granted.{grant_of}
use Rattle.grant_book.proofs.Ordered.{any_grant_told}
use Rattle.role_graph.specs.Edges.{edge_before, in_order, folder_edges, parent_edges, file_edge, clearance_edges, grant_edge, has_grants, edges}
use Rattle.role_graph.specs.Roles.{same_role, folder_roles, file_role, clear_of, sub_of, back_of, files_of}
use Rattle.rekey_walk.specs.Strict.{strict_roles}
use Rattle.record_format.specs.Noted.{Note}
use Rattle.record_format.specs.Noted.Note.{Root, NewHolder, NewFolder, NewFile, Rewrite, NameFile, NameFolder, DropFile, DropFolder, ShiftFile, ShiftFolder, Give, Take, StrictRoot, Upgrade}
use Rattle.record_format.specs.Plain.{PlainPayload}
use Rattle.record_format.specs.Told.{told_note}
use Rattle.move_plan.specs.Change.{no_change, change_of, inner_roles, is_upgrade, row_change, strict_of, edges_at, folder_of_file, parent_of_folder}
use Rattle.move_plan.specs.Change.{clearance_in, edge_back, edges_of_first, edges_with_file, given_on, roles_of_file, taken_from, without_roles}
use Rattle.move_plan.specs.Fitting.{clear_stands, file_stands, fits, folder_stands, has_depth_left, is_file_there, is_other_folder, may_be_granted, may_go_into, needs_root, row_fits}
use Rattle.public_fold.specs.Fitted.{fits_step, has_heads, payload_fits, told_step}
use Rattle.public_fold.specs.Journal.{Stand, note_step}
use Rattle.public_fold.specs.KeyStep.{KeyState, is_strict, key_step}
use Rattle.public_fold.specs.Records.{folder_piece, file_piece, holder_piece, pieces_of}
use Rattle.public_fold.specs.StandFits.{has_count, note_fits}
use Rattle.public_fold.specs.Standing.{AreSameGrants, IsSeenAs, PublicView, public_store_of, stand_of}
use Rattle.public_fold.specs.Told.{told_store}
use Rattle.public_fold.proofs.EdgesThen.{grants_told}
use Rattle.public_fold.proofs.SameGrants.{less_same}
use Rattle.public_fold.proofs.SameOrder.{edge_of_grant, same_order}

-- the store with these grants in place of its own
abbrev pub granting : Store → List GrantEntry → Store
granting s gs = record s { grants = gs }

-- who has a grant
pub has_same : (s : Store) (gs hs : List GrantEntry) → AreSameGrants gs hs → (c : ℕ) → has_grants (granting s gs) c ≡ has_grants (granting s hs) c
has_same s gs hs are c =
    let one = grants_told (granting s gs) c in let two = grants_told (granting s hs) c in
    same_from_decides {P = (g : GrantEntry) × In g gs × (g.folder ≡ c)} _ _ one ((λ t. let w = two.0 t in (w.0, (are.same w.0).1 w.1, w.2)), (λ w. two.1 (w.0, (are.same w.0).0 w.1, w.2)))

module _ (s : Store) (gs hs : List GrantEntry) (are : AreSameGrants gs hs) where
  grant_same : (h f : ℕ) → has_grant (granting s gs) h f ≡ has_grant (granting s hs) h f
  unfolding has_grant
  grant_same h f =
      let one = any_grant_told h f gs in let two = any_grant_told h f hs in
      same_from_decides {P = In (grant_of h f) gs} _ _ one (λ t. (are.same (grant_of h f)).1 (two.0 t), λ i. two.1 ((are.same (grant_of h f)).0 i))

  pub edges_same : edges (granting s gs) ≡ edges (granting s hs)
  unfolding edges
  edges_same =
      let own = flat_map (λ (e : FolderEntry). folder_edges e.id) s.folders in
      let parents = flat_map (λ (e : FolderEntry). cond (e.parent == 0) [] (parent_edges e.id e.parent)) s.folders in
      let files = map (λ (e : FileEntry). file_edge e.folder e.id) s.files in
      let clear = λ (l : List GrantEntry). flat_map (λ (e : FileEntry). cond (has_grants (granting s l) (clear_number e.id)) (clearance_edges e.folder e.id) []) s.files in
      let clears : clear gs ≡ clear hs = λ i. flat_map (λ (e : FileEntry). cond (has_same s gs hs are (clear_number e.id) i) (clearance_edges e.folder e.id) []) s.files in
      ap (λ (l : List Edge). in_order edge_before (((own ++ parents) ++ map edge_of_grant gs) ++ files ++ l)) clears
      ∙ ap (in_order edge_before) (append_assoc ((own ++ parents) ++ map edge_of_grant gs) files (clear hs))
      ∙ same_order (own ++ parents) (files ++ clear hs) gs hs are
      ∙ ap (in_order edge_before) (sym (append_assoc ((own ++ parents) ++ map edge_of_grant hs) files (clear hs)))

  there_same : (o : Option ℕ) → is_file_there (granting s gs) o ≡ is_file_there (granting s hs) o
  unfolding is_file_there file_stands file_entry
  there_same None = refl
  there_same (Some x) = refl

  granted_same : (strict : Bool) (f : ℕ) → may_be_granted strict (granting s gs) f ≡ may_be_granted strict (granting s hs) f
  unfolding may_be_granted clear_stands folder_stands folder_entry
  granted_same strict f = ap (λ b. is_some (folder_entry s f) || (strict && b)) (there_same (file_of f))

  row_same : (strict : Bool) (note : Note) → row_fits strict (granting s gs) note ≡ row_fits strict (granting s hs) note
  unfolding row_fits folder_stands has_depth_left file_stands is_other_folder may_go_into folder_entry file_entry holder_entry has_child folder_of_file parent_of_folder is_within depth_of folder_node node_names folder_names file_names way_to_root height_of deepest is_node_within nodes_of
  row_same strict Root = refl
  row_same strict (NewHolder h check) = refl
  row_same strict (NewFolder f p) = refl
  row_same strict (NewFile x f) = refl
  row_same strict (Rewrite x) = refl
  row_same strict (NameFile x) = refl
  row_same strict (NameFolder f) = refl
  row_same strict (DropFile x) = refl
  row_same strict (DropFolder f) = refl
  row_same strict (ShiftFile x g) = refl
  row_same strict (ShiftFolder g q) = refl
  row_same strict (Give h f) = λ i. is_some (holder_entry s h) && granted_same strict f i && not (grant_same h f i)
  row_same strict (Take h f) = grant_same h f
  row_same strict StrictRoot = refl
  row_same strict Upgrade = refl

  pub fits_same : (strict : Bool) (note : Note) → fits strict (granting s gs) note ≡ fits strict (granting s hs) note
  unfolding fits folder_stands folder_entry
  fits_same strict note = ap (λ b. b && (not (needs_root note) || folder_stands s 1)) (row_same strict note)

  gone_same : (roles : List Role) → without_roles (granting s gs) roles ≡ without_roles (granting s hs) roles
  unfolding without_roles edges_at no_change
  gone_same roles = λ i. record no_change {
    removed = filter (λ (e : Edge). has same_role roles e.from || has same_role roles e.to) (edges_same i);
    gone = roles;
  }

  clearance_same : (x : ℕ) → clearance_in (granting s gs) x ≡ clearance_in (granting s hs) x
  unfolding clearance_in
  clearance_same x = λ i. cond (has_same s gs hs are (clear_number x) i) (clear_of (clear_number x) ∷ []) []

  roles_same : (x : ℕ) → roles_of_file (granting s gs) x ≡ roles_of_file (granting s hs) x
  unfolding roles_of_file
  roles_same x = λ i. clearance_same x i ++ file_role x ∷ []

  taken_along : (f x : ℕ) → edges_with_file (granting s gs) f x ≡ edges_with_file (granting s hs) f x
  unfolding edges_with_file
  taken_along f x = λ i. file_edge f x ∷ cond (has_same s gs hs are (clear_number x) i) (edge_back f x ∷ []) []

  given_same : (h f : ℕ) (o : Option ℕ) → given_on (granting s gs) h f o ≡ given_on (granting s hs) h f o
  unfolding given_on edges_of_first folder_of_file file_entry
  given_same h f None = refl
  given_same h f (Some x) = ap (λ b. cond b (record no_change { added = grant_edge h f ∷ [] })
      (record no_change { fresh = clear_of f ∷ []; added = in_order edge_before (grant_edge h (clear_number x) ∷ clearance_edges (folder_of_file s x) x) })) (has_same s gs hs are f)

  left_same : (h f : ℕ) → has_grants (without_grant (granting s gs) h f) f ≡ has_grants (without_grant (granting s hs) h f) f
  unfolding without_grant
  left_same h f =
      let test : GrantEntry → Bool = λ g. not (g.holder == h && g.folder == f) in
      has_same s (filter test gs) (filter test hs) (less_same gs hs test are) f

  taken_same : (h f : ℕ) (o : Option ℕ) → taken_from (granting s gs) h f o ≡ taken_from (granting s hs) h f o
  unfolding taken_from
  taken_same h f None = refl
  taken_same h f (Some x) = λ i. cond (left_same h f i) (record no_change { removed = grant_edge h f ∷ []; wanted = clear_of f ∷ [] }) (gone_same (clear_of f ∷ []) i)

  changed_same : (note : Note) → row_change (granting s gs) note ≡ row_change (granting s hs) note
  unfolding row_change no_change folder_of_file parent_of_folder file_entry folder_entry
  changed_same Root = refl
  changed_same (NewHolder h check) = refl
  changed_same (NewFolder f p) = refl
  changed_same (NewFile x f) = refl
  changed_same (Rewrite x) = refl
  changed_same (NameFile x) = refl
  changed_same (NameFolder f) = refl
  changed_same (DropFile x) = ap (λ roles. without_roles (granting s gs) roles) (roles_same x) ∙ gone_same (roles_of_file (granting s hs) x)
  changed_same (DropFolder f) = gone_same (folder_roles f)
  changed_same (ShiftFile x g) = λ i. record no_change {
    removed = taken_along (folder_of_file s x) x i;
    wanted = files_of g ∷ clearance_same x i;
    added = taken_along g x i;
  }
  changed_same (ShiftFolder g q) = refl
  changed_same (Give h f) = given_same h f (file_of f)
  changed_same (Take h f) = taken_same h f (file_of f)
  changed_same StrictRoot = refl
  changed_same Upgrade = refl

  inner_same : inner_roles (granting s gs) ≡ inner_roles (granting s hs)
  unfolding inner_roles
  inner_same = λ i.
      map (λ (e : FolderEntry). clear_of e.id) s.folders
      ++ (flat_map (λ (e : FileEntry). clearance_same e.id i) s.files
      ++ (map (λ (e : FolderEntry). sub_of e.id) s.folders
      ++ (map (λ (e : FolderEntry). back_of e.id) s.folders
      ++ map (λ (e : FolderEntry). files_of e.id) s.folders)))

  change_same : (strict : Bool) (note : Note) → change_of strict (granting s gs) note ≡ change_of strict (granting s hs) note
  unfolding change_of strict_of
  change_same strict note =
      let row = changed_same note in
      λ i. record (row i) {
        strict = cond (is_upgrade note) (inner_same i) (cond strict (strict_roles (edges_same i) (row i).removed (row i).gone) []);
      }

  pieces_same : (note : Note) → pieces_of note (told_store (granting s gs) note) ≡ pieces_of note (told_store (granting s hs) note)
  unfolding pieces_of told_store folder_piece file_piece holder_piece folder_entry file_entry holder_entry with_new_holder with_new_folder with_new_file
  pieces_same Root = refl
  pieces_same (NewHolder h check) = refl
  pieces_same (NewFolder f p) = refl
  pieces_same (NewFile x f) = refl
  pieces_same (Rewrite x) = refl
  pieces_same (NameFile x) = refl
  pieces_same (NameFolder f) = refl
  pieces_same (DropFile x) = refl
  pieces_same (DropFolder f) = refl
  pieces_same (ShiftFile x g) = refl
  pieces_same (ShiftFolder g q) = refl
  pieces_same (Give h f) = refl
  pieces_same (Take h f) = refl
  pieces_same StrictRoot = refl
  pieces_same Upgrade = refl

  pub step_same : (k : KeyState) (note : Note) → told_step (record { store = granting s gs; keys = k }) note ≡ told_step (record { store = granting s hs; keys = k }) note
  unfolding told_step note_step
  step_same k note = λ i. key_step k (edges_same i) (change_same (is_strict k) note i) (pieces_same note i)

-- the stand with the grants in the order of the state
as_seen : (v : PublicView) (at : Stand) → IsSeenAs v at → at ≡ record { store = granting (public_store_of v) at.store.grants; keys = v.keys }
as_seen v at seen = λ i. record { store = seen.store i; keys = seen.keys i }

pub seen_step : (v : PublicView) (at : Stand) (note : Note) → IsSeenAs v at → told_step at note ≡ told_step (stand_of v) note
seen_step v at note seen =
    ap (λ (z : Stand). told_step z note) (as_seen v at seen) ∙ sym (step_same (public_store_of v) v.pairs at.store.grants seen.grants v.keys note)

fits_seen : (v : PublicView) (at : Stand) (note : Note) → IsSeenAs v at → fits (is_strict at.keys) at.store note ≡ fits (is_strict v.keys) (public_store_of v) note
fits_seen v at note seen =
    (λ i. fits (is_strict (seen.keys i)) (seen.store i) note) ∙ sym (fits_same (public_store_of v) v.pairs at.store.grants seen.grants (is_strict v.keys) note)

pub seen_fits : (v : PublicView) (at : Stand) (note : Note) → IsSeenAs v at → note_fits at note (told_step at note) ≡ note_fits (stand_of v) note (told_step (stand_of v) note)
unfolding note_fits
seen_fits v at note seen = λ i. nat_lt 0 (seen.keys i).epoch && (fits_seen v at note seen i && has_count (seen_step v at note seen i))

pub seen_payload : (v : PublicView) (at : Stand) (p : PlainPayload) → IsSeenAs v at → payload_fits at p ≡ payload_fits (stand_of v) p
unfolding payload_fits fits_step
seen_payload v at p seen = λ i. seen_fits v at (told_note p.note) seen i && has_heads (seen_step v at (told_note p.note) seen i) p
