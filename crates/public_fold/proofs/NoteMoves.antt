-- Each note that fits is a move of edges and roles, whichever command made it, and leaves the store rooted.
use Rattle.std.proofs.Common.{◌≡◌, ◌≢◌, ℕ, ◌+◌, ◌<◌, ◌≤◌, ◌⊎◌, ◌↔◌, Bool, true, false, cond, not, ◌==◌, ◌&&◌, ◌||◌, List, [], ◌∷◌, ◌++◌, Option, Some, None, inl, inr, ⊎_elim, refl, sym, ap, ◌∙◌, subst, arith}
use Rattle.std.specs.Prelude.{is_some, nat_lt, nat_le}
use Rattle.std.proofs.lemmas.Bool.{and_parts, eqb-true, eqb-false, ltb-true, not-true, false≢true, false_from_ne_true}
use Rattle.cry_base.specs.Clearances.{clear_base, clear_number, file_of}
use Rattle.cry_base.specs.Sets.{In}
use Rattle.cry_base.specs.Store.{Store, FolderEntry, FileEntry, HolderEntry, GrantEntry, no_store, root_store, folder_node, folder_entry, holder_entry, has_grant, depth_of, is_within, way_to_root}
use Rattle.cry_base.specs.Refusing.{has_child, height_of}
use Rattle.cry_base.specs.Stepping.{with_new_holder, with_new_folder, with_new_file, with_folder, with_file, without_file, without_folder, without_grant}
use Rattle.cry_base.specs.declared.roles.Edge.{Edge}
use Rattle.cry_base.specs.declared.roles.Role.{Role}
use Rattle.cry_base.specs.declared.roles.Role.TheVariants.{Owner, Holder, Clear, Sub, Back, Files, Data, File}
use Rattle.cry_base.proofs.Members.{In-append}
use Rattle.cry_base.proofs.Versions.{file_number, file_of_number}
use Rattle.role_graph.specs.Edges.{edge_before, in_order, folder_edges, parent_edges, grant_edge, clearance_edges, has_grants, IsEdge}
use Rattle.role_graph.specs.RightsByReach.{HasFolder, HasClearNumber, IsClearance, MayBeGranted}
use Rattle.role_graph.specs.Roles.{holder_role, clear_of, sub_of, back_of, files_of, data_of, file_role, folder_roles}
use Rattle.role_graph.proofs.Edging.{In-order, edges_told}
use Rattle.move_plan.specs.Change.{Change, no_change, root_change, row_change, change_of, edges_of_first, edges_with_file, roles_of_file, without_roles, given_on, taken_from, folder_of_file, parent_of_folder}
use Rattle.move_plan.specs.Fitting.{folder_stands, has_depth_left, file_stands, is_next_below, is_other_folder, may_be_granted, may_go_into, row_fits, needs_root, fits}
use Rattle.record_format.specs.Noted.{Note}
use Rattle.record_format.specs.Noted.Note.{Root, NewHolder, NewFolder, NewFile, Rewrite, NameFile, NameFolder, DropFile, DropFolder, ShiftFile, ShiftFolder, Give, Take, StrictRoot, Upgrade}
use Rattle.public_fold.specs.Keyed.{HasRole}
use Rattle.public_fold.specs.Rooted.{IsRooted, MayStand}
use Rattle.public_fold.specs.Told.{told_store}
use Rattle.public_fold.proofs.Accepting.{no_child, no_inner}
use Rattle.public_fold.proofs.Counting.{root_counted}
use Rattle.public_fold.proofs.EdgesAfter.{Leads, unchanged, drops, new_folder_edges, new_file_edges, new_grant_edges, first_grant_edges, no_grant_edges, last_grant_stays, last_grant_stood, no_file_stays, no_file_stood, no_folder_stays, no_folder_stood, shift_file_edges, shift_folder_edges, folder_told, taken_stood, number_same}
use Rattle.public_fold.proofs.EdgesThen.{IsThen, at_told, edge_cases, own_is, parent_is}
use Rattle.public_fold.proofs.Keeping.{root_tree}
use Rattle.public_fold.proofs.KeepingKeys.{IsMove}
use Rattle.public_fold.proofs.StrictMoves.{IsRowMove, strict_moves}
use Rattle.public_fold.proofs.Levels.{level_positive, find_own}
use Rattle.public_fold.proofs.RolesAfter.{RolesMove, HasFile, HasHolder, folder_below, folder_has_role, kept_roles, role_has_folder, file_changed_roles, folder_changed_roles, new_holder_roles, new_folder_roles, new_file_roles, new_grant_roles, first_grant_roles, no_grant_roles, last_grant_roles, no_folder_roles, no_file_roles}
use Rattle.public_fold.proofs.Rooting as rooting
use Rattle.public_fold.proofs.Rooting.{folder_there, file_there, granted_there, holder_there, level_of}
use Rattle.public_fold.proofs.RowEnds as rows
use Rattle.public_fold.proofs.Shifting.{goes_through}

-- what a row's condition tells
number_told : (s : Store) (made f p : ℕ) → (is_next_below f made && has_depth_left s p) ≡ true → (f ≡ made + 1) × HasFolder s p × (made + 1 < clear_base)
unfolding has_depth_left is_next_below
number_told s made f p t =
    let both = and_parts (f == made + 1 && nat_lt f clear_base) (has_depth_left s p) t in
    let next = and_parts (f == made + 1) (nat_lt f clear_base) both.0 in
    let same = eqb-true f (made + 1) next.0 in
    (same, folder_there s p (and_parts (folder_stands s p) (nat_lt (depth_of s (folder_node p)) 64) both.1).0, subst (λ n. n < clear_base) same (ltb-true f clear_base next.1))

other_told : (s : Store) (f : ℕ) → is_other_folder s f ≡ true → HasFolder s f × (f ≢ 1)
unfolding is_other_folder
other_told s f t =
    let both = and_parts (folder_stands s f) (not (f == 1)) t in (folder_there s f both.0, eqb-false f 1 (not-true (f == 1) both.1))

-- a folder that goes has no child
record MayGo (s : Store) (f : ℕ) : Type 0 where
  here : HasFolder s f
  other : f ≢ 1
  no_child : (a : FolderEntry) → In a s.folders → a.parent ≢ f
  no_inner : (b : FileEntry) → In b s.files → b.folder ≢ f

may_go : (s : Store) (f : ℕ) → (is_other_folder s f && not (has_child s f)) ≡ true → MayGo s f
may_go s f t =
    let both = and_parts (is_other_folder s f) (not (has_child s f)) t in
    let childless = not-true (has_child s f) both.1 in
    let told = other_told s f both.0 in
    record { here = told.0; other = told.1; no_child = no_child s f childless; no_inner = no_inner s f childless }

file_shift_told : (s : Store) (x g : ℕ) → (file_stands s x && has_depth_left s g && not (folder_of_file s x == g)) ≡ true → HasFile s x × HasFolder s g
unfolding has_depth_left
file_shift_told s x g t =
    let first = and_parts (file_stands s x && has_depth_left s g) (not (folder_of_file s x == g)) t in
    let both = and_parts (file_stands s x) (has_depth_left s g) first.0 in
    (file_there s x both.0, folder_there s g (and_parts (folder_stands s g) (nat_lt (depth_of s (folder_node g)) 64) both.1).0)

-- a folder that moves isn't the root, and goes into one that isn't below it
record MayMove (s : Store) (g q : ℕ) : Type 0 where
  here : HasFolder s g
  other : g ≢ 1
  there : HasFolder s q
  outside : goes_through s.folders q g ≡ false

may_move : (s : Store) (g q : ℕ) → may_go_into s g q ≡ true → MayMove s g q
unfolding may_go_into is_within way_to_root
may_move s g q t =
    let a = and_parts (is_other_folder s g && folder_stands s q && not (parent_of_folder s g == q) && not (is_within s q g)) (nat_le (depth_of s (folder_node q) + 1 + height_of s (Some (folder_node g))) 64) t in
    let b = and_parts (is_other_folder s g && folder_stands s q && not (parent_of_folder s g == q)) (not (is_within s q g)) a.0 in
    let c = and_parts (is_other_folder s g && folder_stands s q) (not (parent_of_folder s g == q)) b.0 in
    let d = and_parts (is_other_folder s g) (folder_stands s q) c.0 in
    let other = other_told s g d.0 in
    record { here = other.0; other = other.1; there = folder_there s q d.1; outside = not-true (is_within s q g) b.1 }

give_told : (strict : Bool) (s : Store) (h f : ℕ) → (is_some (holder_entry s h) && may_be_granted strict s f && not (has_grant s h f)) ≡ true → HasHolder s h × MayBeGranted s f
give_told strict s h f t =
    let first = and_parts (is_some (holder_entry s h) && may_be_granted strict s f) (not (has_grant s h f)) t in
    let both = and_parts (is_some (holder_entry s h)) (may_be_granted strict s f) first.0 in
    (holder_there s h both.0, granted_there strict s f both.1)

-- where the root stands it isn't made again
no_second : (s : Store) → IsRooted s → (s.folders_made == 0) ≡ true → ⊥
no_second s ok t =
    let r = ok.root_stands in
    let low : r.0.id ≤ s.folders_made = ok.counted.each_folder r.0 r.1 in
    let one : r.0.id ≡ 1 = r.2 in let none : s.folders_made ≡ 0 = eqb-true s.folders_made 0 t in omega arith

root_test : (strict : Bool) (s : Store) → row_fits strict s Root ≡ true → (s.folders_made == 0) ≡ true
unfolding row_fits
root_test strict s t = t

strict_root_test : (strict : Bool) (s : Store) → row_fits strict s StrictRoot ≡ true → (s.folders_made == 0) ≡ true
unfolding row_fits
strict_root_test strict s t = t

-- the store stays rooted
pub row_rooted : (strict : Bool) (s : Store) (note : Note) → row_fits strict s note ≡ true → IsRooted s → IsRooted (told_store s note)
unfolding row_fits told_store
row_rooted strict s Root t ok = absurd (no_second s ok t)
row_rooted strict s (NewHolder h check) t ok = rooting.new_holder s ok
row_rooted strict s (NewFolder f p) t ok = let w = number_told s s.folders_made f p t in rooting.new_folder s p ok w.1 w.2
row_rooted strict s (NewFile x f) t ok = let w = number_told s s.files_made x f t in rooting.new_file s f ok w.1 w.2
row_rooted strict s (Rewrite x) t ok = ok
row_rooted strict s (NameFile x) t ok = ok
row_rooted strict s (NameFolder f) t ok = ok
row_rooted strict s (DropFile x) t ok = rooting.no_file s x ok
row_rooted strict s (DropFolder f) t ok = let w = may_go s f t in rooting.no_folder s f ok w.other w.no_child w.no_inner
row_rooted strict s (ShiftFile x g) t ok = rooting.shift_file s x g ok (file_shift_told s x g t).1
row_rooted strict s (ShiftFolder g q) t ok = let w = may_move s g q t in rooting.shift_folder s g q ok w.other w.here w.there w.outside
row_rooted strict s (Give h f) t ok = let w = give_told strict s h f t in rooting.give s h f ok w.0 w.1
row_rooted strict s (Take h f) t ok = rooting.take s h f ok
row_rooted strict s StrictRoot t ok = absurd (no_second s ok t)
row_rooted strict s Upgrade t ok = ok

-- the folder of a file that stands, and the parent of a folder
pub file_told : (s : Store) (x : ℕ) → IsRooted s → (w : HasFile s x) → folder_of_file s x ≡ w.0.folder
file_told s x ok w = folder_told s x w.0 ok.own_file w.1 w.2

pub parent_told : (s : Store) (g : ℕ) → IsRooted s → (w : HasFolder s g) → parent_of_folder s g ≡ w.0.parent
unfolding parent_of_folder folder_entry
parent_told s g ok w = ap (λ o. elim o as (λ z. ℕ) [ None ↦ 0 | Some e ↦ e.parent ]) (find_own s.folders w.0 g ok.numbered w.1 w.2)

own_same : (s : Store) (w : FileEntry) → IsRooted s → In w s.files → (y : FileEntry) → In y s.files → y.id ≡ w.id → y ≡ w
own_same s w ok i y j q = ok.own_file y w j i q

-- the edges after it are those that its change leaves and adds
new_folder_leads : (s : Store) (f p : ℕ) → IsRooted s → f ≡ s.folders_made + 1 → HasFolder s p → Leads s (row_change s (NewFolder f p)) (with_new_folder s p [])
unfolding row_change no_change with_new_folder
new_folder_leads s f p ok q there =
    let n : FolderEntry = record { id = s.folders_made + 1; parent = p; name = [] } in
    let above = level_of s p ok there in
    subst (λ m. Leads s (row_change s (NewFolder m p)) (with_new_folder s p [])) (sym q)
    (new_folder_edges s n (with_new_folder s p []) (row_change s (NewFolder n.id p)) (level_positive above.0 s.folders p ok.numbered above.1) refl refl refl)

new_file_leads : (s : Store) (x f : ℕ) → IsRooted s → x ≡ s.files_made + 1 → Leads s (row_change s (NewFile x f)) (with_new_file s f [] [])
unfolding row_change no_change with_new_file
new_file_leads s x f ok q =
    let n : FileEntry = record { id = s.files_made + 1; folder = f; name = []; bytes = [] } in
    subst (λ m. Leads s (row_change s (NewFile m f)) (with_new_file s f [] [])) (sym q)
    (new_file_edges s n (with_new_file s f [] []) (row_change s (NewFile n.id f)) (rows.unknown_file s ok) refl refl refl)

shift_file_leads : (s : Store) (x g : ℕ) → IsRooted s → HasFile s x → Leads s (row_change s (ShiftFile x g)) (with_file s x (λ e. record e { folder = g }))
unfolding row_change no_change
shift_file_leads s x g ok w =
    let c : Change = row_change s (ShiftFile x g) in
    subst (λ n. Leads s c (with_file s n (λ e. record e { folder = g }))) w.2
    (shift_file_edges s w.0 g c w.1 (own_same s w.0 ok w.1)
    (λ i. edges_with_file s (file_told s x ok w i) (sym w.2 i)) (ap (λ n. edges_with_file s g n) (sym w.2)))

shift_folder_leads : (s : Store) (g q : ℕ) → IsRooted s → MayMove s g q → Leads s (row_change s (ShiftFolder g q)) (with_folder s g (λ e. record e { parent = q }))
unfolding row_change no_change
shift_folder_leads s g q ok m =
    let w = m.here in
    let into = level_of s q ok m.there in
    let c : Change = row_change s (ShiftFolder g q) in
    subst (λ n. Leads s c (with_folder s n (λ e. record e { parent = q }))) w.2
    (shift_folder_edges s w.0 q c w.1 (λ y i h. ok.numbered.own y w.0 i w.1 h) (level_positive into.0 s.folders q ok.numbered into.1)
    (ap (parent_edges g) (parent_told s g ok w) ∙ ap (λ n. parent_edges n w.0.parent) (sym w.2)) (ap (λ n. parent_edges n q) (sym w.2)))

-- and the roles
new_holder_moves : (s : Store) (h : ℕ) (check : List ℕ) → h ≡ s.holders_made + 1 → RolesMove s (row_change s (NewHolder h check)) (with_new_holder s [])
unfolding row_change no_change with_new_holder
new_holder_moves s h check q =
    let n : HolderEntry = record { number = s.holders_made + 1; key = [] } in
    subst (λ m. RolesMove s (row_change s (NewHolder m check)) (with_new_holder s [])) (sym q)
    (new_holder_roles s n (with_new_holder s []) (row_change s (NewHolder n.number check)) refl refl refl)

new_folder_moves : (s : Store) (f p : ℕ) → f ≡ s.folders_made + 1 → RolesMove s (row_change s (NewFolder f p)) (with_new_folder s p [])
unfolding row_change no_change with_new_folder
new_folder_moves s f p q =
    let n : FolderEntry = record { id = s.folders_made + 1; parent = p; name = [] } in
    subst (λ m. RolesMove s (row_change s (NewFolder m p)) (with_new_folder s p [])) (sym q)
    (new_folder_roles s n (with_new_folder s p []) (row_change s (NewFolder n.id p)) refl refl refl)

new_file_moves : (s : Store) (x f : ℕ) → IsRooted s → x ≡ s.files_made + 1 → RolesMove s (row_change s (NewFile x f)) (with_new_file s f [] [])
unfolding row_change no_change with_new_file
new_file_moves s x f ok q =
    let n : FileEntry = record { id = s.files_made + 1; folder = f; name = []; bytes = [] } in
    subst (λ m. RolesMove s (row_change s (NewFile m f)) (with_new_file s f [] [])) (sym q)
    (new_file_roles s n (with_new_file s f [] []) (row_change s (NewFile n.id f)) (rows.unknown_file s ok) refl refl refl)

-- what is removed stood
parent_stood : (s : Store) (g : ℕ) (e : Edge) → IsRooted s → HasFolder s g → g ≢ 1 → In e (parent_edges g (parent_of_folder s g)) → IsEdge s e
parent_stood s g e ok w other i = parent_is s e (
  w.0,
  w.1,
  (λ z. other (sym w.2 ∙ ok.numbered.one_root w.0 w.1 z)),
  subst (λ n. In e (parent_edges n w.0.parent)) (sym w.2) (subst (λ n. In e (parent_edges g n)) (parent_told s g ok w) i),
)

-- a note that changes no edge and no role
still_moves : (s : Store) (c : Change) → IsRooted s → c.removed ≡ [] → c.gone ≡ [] → c.fresh ≡ [] → c.added ≡ [] → IsRowMove s c s
still_moves s c ok r g f a = record {
  leads = unchanged s s c r a (λ e. (λ w. w, λ w. w));
  roles = kept_roles s c g f;
  removed_stand = λ e i. absurd (subst (In e) r i);
  fresh_is_new = λ x i h. subst (In x) f i;
  fresh_stays = λ x i j. subst (In x) f i;
  sources = λ e i. absurd (subst (In e) a i);
  ends_before = λ e w. rows.ends s ok e w;
  ends_after = λ e w. rows.ends s ok e w;
}

holder_moves : (s : Store) (h : ℕ) (check : List ℕ) → IsRooted s → h ≡ s.holders_made + 1 → IsRowMove s (row_change s (NewHolder h check)) (with_new_holder s [])
holder_moves s h check ok q = record {
  leads = unfold row_change no_change with_new_holder in unchanged s (with_new_holder s []) (row_change s (NewHolder h check)) refl refl (λ e. unfold has_grants in (λ w. w, λ w. w));
  roles = new_holder_moves s h check q;
  removed_stand = λ e i. unfold row_change no_change in absurd i;
  fresh_is_new = λ r i w. unfold row_change no_change in rows.new_holder s r ok.counted (subst (λ n. In r (holder_role n ∷ [])) q i) w;
  fresh_stays = λ r i j. unfold row_change no_change in j;
  sources = λ e i. unfold row_change no_change in absurd i;
  ends_before = λ e w. rows.ends s ok e w;
  ends_after = λ e w. rows.ends (with_new_holder s []) (rooting.new_holder s ok) e w;
}

folder_moves : (s : Store) (f p : ℕ) → IsRooted s → (f ≡ s.folders_made + 1) × HasFolder s p × (s.folders_made + 1 < clear_base) → IsRowMove s (row_change s (NewFolder f p)) (with_new_folder s p [])
folder_moves s f p ok w = record {
  leads = new_folder_leads s f p ok w.0 w.1;
  roles = new_folder_moves s f p w.0;
  removed_stand = λ e i. unfold row_change no_change in absurd i;
  fresh_is_new = λ r i h. unfold row_change no_change in rows.new_folder s r ok.counted w.2 (subst (λ n. In r (folder_roles n)) w.0 i) h;
  fresh_stays = λ r i j. unfold row_change no_change in j;
  sources = λ e i. unfold row_change no_change in ⊎_elim
      (λ a. ⊎_elim (λ r. inl r) (λ n. inr (inr n)) (rows.own_sources f e a))
      (λ b. ⊎_elim (λ q. inr (inl (inl q))) (λ q. inr (inr (rows.back_is_role f e.from q))) (rows.parent_sources f p e b))
      ((In-append Edge e (folder_edges f) (parent_edges f p)).0 ((In-order Edge edge_before e (folder_edges f ++ parent_edges f p)).0 i));
  ends_before = λ e u. rows.ends s ok e u;
  ends_after = λ e u. rows.ends (with_new_folder s p []) (rooting.new_folder s p ok w.1 w.2) e u;
}

file_moves : (s : Store) (x f : ℕ) → IsRooted s → (x ≡ s.files_made + 1) × HasFolder s f × (s.files_made + 1 < clear_base) → IsRowMove s (row_change s (NewFile x f)) (with_new_file s f [] [])
file_moves s x f ok w = record {
  leads = new_file_leads s x f ok w.0;
  roles = new_file_moves s x f ok w.0;
  removed_stand = λ e i. unfold row_change no_change in absurd i;
  fresh_is_new = λ r i h. unfold row_change no_change in rows.new_file s r ok.counted (subst (λ n. In r (file_role n ∷ [])) w.0 i) h;
  fresh_stays = λ r i j. unfold row_change no_change in j;
  sources = λ e i. unfold row_change no_change in inr (inl (inl (rows.one_source x f e i)));
  ends_before = λ e u. rows.ends s ok e u;
  ends_after = λ e u. rows.ends (with_new_file s f [] []) (rooting.new_file s f ok w.1 w.2) e u;
}

-- roles go: no role comes, and what is removed stood
drop_moves : (s t : Store) (roles : List Role) → IsRooted s → IsRooted t → Leads s (without_roles s roles) t → RolesMove s (without_roles s roles) t → IsRowMove s (without_roles s roles) t
drop_moves s t roles ok after leads move = record {
  leads = leads;
  roles = move;
  removed_stand = λ e i. unfold without_roles no_change in (edges_told s e).0 ((at_told s roles e).0 i).0;
  fresh_is_new = λ r i h. unfold without_roles no_change in i;
  fresh_stays = λ r i j. unfold without_roles no_change in i;
  sources = λ e i. unfold without_roles no_change in absurd i;
  ends_before = λ e w. rows.ends s ok e w;
  ends_after = λ e w. rows.ends t after e w;
}

-- what is there after such a change isn't gone
out_of_gone : (s t : Store) (roles : List Role) → RolesMove s (without_roles s roles) t → (r : Role) → HasRole t r → In r roles → ⊥
unfolding without_roles no_change
out_of_gone s t roles move r h i = ⊎_elim (λ w. w.1 i) (λ f. f) ((move r).0 h)

file_drops : (s : Store) (x : ℕ) → IsRooted s → IsRowMove s (without_roles s (roles_of_file s x)) (without_file s x)
file_drops s x ok =
    let t = without_file s x in
    let after = rooting.no_file s x ok in
    let roles = roles_of_file s x in
    let move : RolesMove s (without_roles s roles) t = unfold without_roles no_change in no_file_roles s x (without_roles s roles) ok refl refl in
    drop_moves s t roles ok after
    (drops s t roles (no_file_stood s x) (out_of_gone s t roles move) (rows.ends t after) (no_file_stays s x)) move

folder_drops : (s : Store) (f : ℕ) → IsRooted s → MayGo s f → IsRowMove s (without_roles s (folder_roles f)) (without_folder s f)
folder_drops s f ok w =
    let t = without_folder s f in
    let after = rooting.no_folder s f ok w.other w.no_child w.no_inner in
    let roles = folder_roles f in
    let move : RolesMove s (without_roles s roles) t = unfold without_roles no_change in no_folder_roles s f (without_roles s roles) ok w.here refl refl in
    drop_moves s t roles ok after
    (drops s t roles (no_folder_stood s f) (out_of_gone s t roles move) (rows.ends t after)
    (λ e u other. no_folder_stays s f e (λ y q. let below = folder_below s f ok w.here in omega (arith, below, q)) u other)) move

file_shifts : (s : Store) (x g : ℕ) → IsRooted s → HasFile s x → HasFolder s g → IsRowMove s (row_change s (ShiftFile x g)) (with_file s x (λ e. record e { folder = g }))
file_shifts s x g ok w there = record {
  leads = shift_file_leads s x g ok w;
  roles = unfold row_change no_change in file_changed_roles s x (λ e. record e { folder = g }) (row_change s (ShiftFile x g)) (λ e. refl) refl refl;
  removed_stand = λ e i. unfold row_change no_change in taken_stood s w.0 e w.1 (subst (λ n. In e (edges_with_file s w.0.folder n)) (sym w.2) (subst (λ n. In e (edges_with_file s n x)) (file_told s x ok w) i));
  fresh_is_new = λ r i h. unfold row_change no_change in i;
  fresh_stays = λ r i j. unfold row_change no_change in i;
  sources = λ e i. unfold row_change no_change in inr (inl (rows.file_sources s g x e i));
  ends_before = λ e u. rows.ends s ok e u;
  ends_after = λ e u. rows.ends (with_file s x (λ e. record e { folder = g })) (rooting.shift_file s x g ok there) e u;
}

folder_shifts : (s : Store) (g q : ℕ) → IsRooted s → MayMove s g q → IsRowMove s (row_change s (ShiftFolder g q)) (with_folder s g (λ e. record e { parent = q }))
folder_shifts s g q ok m = record {
  leads = shift_folder_leads s g q ok m;
  roles = unfold row_change no_change in folder_changed_roles s g (λ e. record e { parent = q }) (row_change s (ShiftFolder g q)) (λ e. refl) refl refl;
  removed_stand = λ e i. unfold row_change no_change in parent_stood s g e ok m.here m.other i;
  fresh_is_new = λ r i h. unfold row_change no_change in i;
  fresh_stays = λ r i j. unfold row_change no_change in i;
  sources = λ e i. unfold row_change no_change in ⊎_elim (λ h. inr (inl (inl h))) (λ h. inr (inl (inr (inl h)))) (rows.parent_sources g q e i);
  ends_before = λ e u. rows.ends s ok e u;
  ends_after = λ e u. rows.ends (with_folder s g (λ e. record e { parent = q })) (rooting.shift_folder s g q ok m.other m.here m.there m.outside) e u;
}

-- ---- grants

-- a grant comes, and no clearance
abbrev plain_give : ℕ → ℕ → Change
plain_give h f = record no_change { added = grant_edge h f ∷ [] }

abbrev given_store : Store → ℕ → ℕ → Store
given_store s h f = record s { grants = s.grants ++ record { holder = h; folder = f } ∷ [] }

plain_gives : (s : Store) (h f : ℕ) → IsRooted s → IsRooted (given_store s h f) → ((x : FileEntry) → In x s.files → f ≡ clear_number x.id → has_grants s f ≡ true) → IsRowMove s (plain_give h f) (given_store s h f)
plain_gives s h f ok after again =
    let n : GrantEntry = record { holder = h; folder = f } in record {
      leads = unfold no_change in new_grant_edges s n (plain_give h f) again refl refl;
      roles = unfold no_change in new_grant_roles s n (plain_give h f) again refl refl;
      removed_stand = λ e i. unfold no_change in absurd i;
      fresh_is_new = λ r i w. unfold no_change in i;
      fresh_stays = λ r i j. unfold no_change in i;
      sources = λ e i. unfold no_change in inl (rows.grant_source h f e i);
      ends_before = λ e w. rows.ends s ok e w;
      ends_after = λ e w. rows.ends (given_store s h f) after e w;
    }

-- a file's first grant comes, with its clearance
abbrev first_give : ℕ → FileEntry → Change
first_give h x = record no_change { fresh = clear_of (clear_number x.id) ∷ []; added = in_order edge_before (grant_edge h (clear_number x.id) ∷ clearance_edges x.folder x.id) }

first_is_new : (s : Store) (x : FileEntry) (r : Role) → IsRooted s → has_grants s (clear_number x.id) ≡ false → In r (clear_of (clear_number x.id) ∷ []) → HasRole s r → ⊥
unfolding clear_of
first_is_new s x r ok none i h =
    let told : HasFolder s (clear_number x.id) ⊎ IsClearance s (clear_number x.id) = ⊎_elim (λ (q : r ≡ clear_of (clear_number x.id)). subst (HasRole s) q h) (λ z. absurd z) i in
    ⊎_elim (λ w. let below = folder_below s (clear_number x.id) ok w in omega (arith, below)) (λ w. false≢true (sym none ∙ w.1)) told

first_gives : (s : Store) (h : ℕ) (x : FileEntry) → IsRooted s → IsRooted (given_store s h (clear_number x.id)) → In x s.files → has_grants s (clear_number x.id) ≡ false → IsRowMove s (first_give h x) (given_store s h (clear_number x.id))
first_gives s h x ok after there none = record {
  leads = unfold no_change in first_grant_edges s h x (first_give h x) there (own_same s x ok there) refl refl;
  roles = unfold no_change in first_grant_roles s h x (first_give h x) there refl refl;
  removed_stand = λ e i. unfold no_change in absurd i;
  fresh_is_new = λ r i w. unfold no_change in first_is_new s x r ok none i w;
  fresh_stays = λ r i j. unfold no_change in j;
  sources = λ e i. unfold no_change in ⊎_elim
      (λ q. inl (rows.grant_source h (clear_number x.id) e (inl q)))
      (λ j. ⊎_elim (λ r. inl r) (λ q. inr (inr (inl q))) (rows.clear_sources x.folder x.id e j))
      ((In-order Edge edge_before e (grant_edge h (clear_number x.id) ∷ clearance_edges x.folder x.id)).0 i);
  ends_before = λ e w. rows.ends s ok e w;
  ends_after = λ e w. rows.ends (given_store s h (clear_number x.id)) after e w;
}

-- a file that a number names
pub named_file : (s : Store) (f x : ℕ) → IsRooted s → file_of f ≡ Some x → MayBeGranted s f → HasFile s x
named_file s f x ok e w = ⊎_elim
    (λ u. let below = folder_below s f ok u in let same = file_number f x e in absurd (omega (arith, below, same)))
    (λ u. (u.0, u.1, number_same u.0.id x (u.2 ∙ file_number f x e)))
    w

-- no file has a folder's number as its clearance number
no_file_of : (f x : ℕ) → file_of f ≡ None → f ≡ clear_number x → ⊥
no_file_of f x e q = let both : None ≡ Some x = sym e ∙ ap (λ n. file_of n) q ∙ file_of_number x in absurd cc

given_moves : (s : Store) (h f : ℕ) (o : Option ℕ) → file_of f ≡ o → IsRooted s → IsRooted (given_store s h f) → MayBeGranted s f → IsRowMove s (given_on s h f o) (given_store s h f)
unfolding given_on edges_of_first
given_moves s h f None e ok after there = plain_gives s h f ok after (λ x i q. absurd (no_file_of f x.id e q))
given_moves s h f (Some x) e ok after there =
    let w = named_file s f x ok e there in
    let number : clear_number w.0.id ≡ f = ap (λ n. clear_number n) w.2 ∙ sym (file_number f x e) in
    let first : Change = record no_change { fresh = clear_of f ∷ []; added = in_order edge_before (grant_edge h (clear_number x) ∷ clearance_edges (folder_of_file s x) x) } in
    let is_first : first_give h w.0 ≡ first = λ i. record no_change {
      fresh = clear_of (number i) ∷ [];
      added = in_order edge_before (grant_edge h (clear_number (w.2 i)) ∷ clearance_edges (sym (file_told s x ok w) i) (w.2 i));
    } in
    (elim (has_grants s f) as (λ b. has_grants s f ≡ b → IsRowMove s (cond b (plain_give h f) first) (given_store s h f)) [
      | true ↦ λ t. plain_gives s h f ok after (λ y i q. t)
      | false ↦ λ t. subst (λ c. IsRowMove s c (given_store s h f)) is_first
          (subst (λ n. IsRowMove s (first_give h w.0) (given_store s h n)) number
          (first_gives s h w.0 ok (subst (λ n. IsRooted (given_store s h n)) (sym number) after) w.1 (ap (λ n. has_grants s n) number ∙ t)))
    ]) refl

-- a grant goes, and no clearance
abbrev plain_take : ℕ → ℕ → Change
plain_take h f = record no_change { removed = grant_edge h f ∷ []; wanted = clear_of f ∷ [] }

plain_takes : (s : Store) (h f : ℕ) → IsRooted s → IsRooted (without_grant s h f) → has_grant s h f ≡ true → ((x : FileEntry) → In x s.files → clear_number x.id ≡ f → has_grants (without_grant s h f) f ≡ true) → IsRowMove s (plain_take h f) (without_grant s h f)
plain_takes s h f ok after t left = record {
  leads = unfold no_change in no_grant_edges s h f (plain_take h f) left refl refl;
  roles = unfold no_change in no_grant_roles s h f (plain_take h f) left refl refl;
  removed_stand = λ e i. unfold no_change in rows.revoked_stood s h f e t i;
  fresh_is_new = λ r i w. unfold no_change in i;
  fresh_stays = λ r i j. unfold no_change in i;
  sources = λ e i. unfold no_change in absurd i;
  ends_before = λ e w. rows.ends s ok e w;
  ends_after = λ e w. rows.ends (without_grant s h f) after e w;
}

last_taken : (s : Store) (h f : ℕ) → IsRooted s → HasClearNumber s f → has_grants (without_grant s h f) f ≡ false → RolesMove s (without_roles s (clear_of f ∷ [])) (without_grant s h f)
unfolding without_roles no_change
last_taken s h f ok there none = last_grant_roles s h f (without_roles s (clear_of f ∷ [])) ok there none refl refl

-- a file's last grant goes
last_takes : (s : Store) (h f : ℕ) → IsRooted s → IsRooted (without_grant s h f) → HasClearNumber s f → has_grants (without_grant s h f) f ≡ false → IsRowMove s (without_roles s (clear_of f ∷ [])) (without_grant s h f)
last_takes s h f ok after there none =
    let t = without_grant s h f in
    let roles : List Role = clear_of f ∷ [] in
    let move = last_taken s h f ok there none in
    drop_moves s t roles ok after
    (drops s t roles (last_grant_stood s h f) (out_of_gone s t roles move) (rows.ends t after) (last_grant_stays s h f)) move

-- what a standing grant is on
granted_is : (s : Store) (h f : ℕ) → IsRooted s → has_grant s h f ≡ true → MayBeGranted s f
granted_is s h f ok t =
    let g = rows.grant_stands s h f t in subst (MayBeGranted s) g.2.1 (ok.granted_stands g.0 g.1)

taken_moves : (s : Store) (h f : ℕ) (o : Option ℕ) → file_of f ≡ o → IsRooted s → IsRooted (without_grant s h f) → has_grant s h f ≡ true → IsRowMove s (taken_from s h f o) (without_grant s h f)
unfolding taken_from
taken_moves s h f None e ok after t = plain_takes s h f ok after t (λ x i q. absurd (no_file_of f x.id e (sym q)))
taken_moves s h f (Some x) e ok after t =
    let w = named_file s f x ok e (granted_is s h f ok t) in
    let number : HasClearNumber s f = (w.0, w.1, ap (λ n. clear_number n) w.2 ∙ sym (file_number f x e)) in
    (elim (has_grants (without_grant s h f) f) as (λ b. has_grants (without_grant s h f) f ≡ b → IsRowMove s (cond b (plain_take h f) (without_roles s (clear_of f ∷ []))) (without_grant s h f)) [
      | true ↦ λ u. plain_takes s h f ok after t (λ y i q. u)
      | false ↦ λ u. last_takes s h f ok after number u
    ]) refl

-- an upgrade leaves all as it stands
pub upgrade_row : (s : Store) → IsRooted s → IsRowMove s (row_change s Upgrade) s
unfolding row_change no_change
upgrade_row s ok = still_moves s (row_change s Upgrade) ok refl refl refl refl

row_moves : (strict : Bool) (s : Store) (note : Note) → row_fits strict s note ≡ true → IsRooted s → IsRowMove s (row_change s note) (told_store s note)
unfolding row_fits told_store row_change no_change
row_moves strict s Root t ok = absurd (no_second s ok t)
row_moves strict s (NewHolder h check) t ok = holder_moves s h check ok (eqb-true h (s.holders_made + 1) t)
row_moves strict s (NewFolder f p) t ok = folder_moves s f p ok (number_told s s.folders_made f p t)
row_moves strict s (NewFile x f) t ok = file_moves s x f ok (number_told s s.files_made x f t)
row_moves strict s (Rewrite x) t ok = still_moves s (row_change s (Rewrite x)) ok refl refl refl refl
row_moves strict s (NameFile x) t ok = still_moves s (row_change s (NameFile x)) ok refl refl refl refl
row_moves strict s (NameFolder f) t ok = still_moves s (row_change s (NameFolder f)) ok refl refl refl refl
row_moves strict s (DropFile x) t ok = file_drops s x ok
row_moves strict s (DropFolder f) t ok = folder_drops s f ok (may_go s f t)
row_moves strict s (ShiftFile x g) t ok = let w = file_shift_told s x g t in file_shifts s x g ok w.0 w.1
row_moves strict s (ShiftFolder g q) t ok = folder_shifts s g q ok (may_move s g q t)
row_moves strict s (Give h f) t ok = let w = give_told strict s h f t in given_moves s h f (file_of f) refl ok (rooting.give s h f ok w.0 w.1) w.1
row_moves strict s (Take h f) t ok = taken_moves s h f (file_of f) refl ok (rooting.take s h f ok) t
row_moves strict s StrictRoot t ok = absurd (no_second s ok t)
row_moves strict s Upgrade t ok = still_moves s (row_change s Upgrade) ok refl refl refl refl

-- ---- the root's making is a move from nothing

root_leads : (version : ℕ) (e : Edge) → IsThen no_store (root_change version) e ↔ IsEdge root_store e
unfolding root_store no_store no_change
root_leads version e =
    let root : FolderEntry = record { id = 1; parent = 0; name = [] } in (
      λ w. ⊎_elim (λ u. absurd (rows.no_edge e (unfold no_store in u.0))) (λ i. own_is root_store e (root, inl refl, i)) w,
      λ w. edge_cases (IsThen no_store (root_change version) e) root_store e
          (λ o. inr (⊎_elim (λ (q : o.0 ≡ root). subst (λ (f : FolderEntry). In e (folder_edges f.id)) q o.2) (λ z. absurd z) o.1))
          (λ p. absurd (⊎_elim (λ (q : p.0 ≡ root). p.2 (ap (λ (f : FolderEntry). f.parent) q)) (λ z. z) p.1))
          (λ g. absurd g.1)
          (λ x. absurd x.1)
          (λ x. absurd x.1)
          w,
    )

root_role_now : (f : ℕ) (r : Role) → In r (folder_roles f) → HasFolder root_store f → In r (folder_roles 1)
unfolding root_store no_store
root_role_now f r i w =
    let root : FolderEntry = record { id = 1; parent = 0; name = [] } in
    ⊎_elim (λ (q : w.0 ≡ root). subst (λ n. In r (folder_roles n)) (sym w.2 ∙ ap (λ (e : FolderEntry). e.id) q) i) (λ z. absurd z) w.1

no_clear : (f : ℕ) → IsClearance root_store f → ⊥
unfolding root_store no_store
no_clear f w = w.0.1

nothing_clear : (f : ℕ) → IsClearance no_store f → ⊥
unfolding no_store
nothing_clear f w = w.0.1

root_roles : (version : ℕ) (r : Role) → HasRole root_store r → (HasRole no_store r × (In r (root_change version).gone → ⊥)) ⊎ In r (root_change version).fresh
unfolding no_change root_store no_store folder_roles clear_of sub_of back_of files_of data_of
root_roles version Owner h = inl (tt, λ z. z)
root_roles version (Holder k) h = absurd h.1
root_roles version (Clear f) h = inr (⊎_elim (λ w. unfold root_store no_store in root_role_now f.0 (Clear f) (inl refl) w) (λ w. absurd (unfold root_store no_store in no_clear f.0 w)) h)
root_roles version (Sub f) h = inr (unfold root_store no_store in root_role_now f.0 (Sub f) (inr (inl refl)) h)
root_roles version (Back f) h = inr (unfold root_store no_store in root_role_now f.0 (Back f) (inr (inr (inl refl))) h)
root_roles version (Files f) h = inr (unfold root_store no_store in root_role_now f.0 (Files f) (inr (inr (inr (inl refl)))) h)
root_roles version (Data f) h = inr (unfold root_store no_store in root_role_now f.0 (Data f) (inr (inr (inr (inr (inl refl))))) h)
root_roles version (File x) h = absurd h.1

pub no_role : (r : Role) → HasRole no_store r → r ≡ Owner
unfolding no_store
no_role Owner h = refl
no_role (Holder k) h = absurd h.1
no_role (Clear f) h = absurd (⊎_elim (λ w. w.1) (λ w. unfold no_store in nothing_clear f.0 w) h)
no_role (Sub f) h = absurd h.1
no_role (Back f) h = absurd h.1
no_role (Files f) h = absurd h.1
no_role (Data f) h = absurd h.1
no_role (File x) h = absurd h.1

root_has : HasFolder root_store 1
unfolding root_store no_store
root_has = (record { id = 1; parent = 0; name = [] }, inl refl, refl)

no_folder : (f : ℕ) → HasFolder no_store f ⊎ IsClearance no_store f → ⊥
unfolding no_store
no_folder f w = ⊎_elim (λ u. u.1) (λ u. unfold no_store in nothing_clear f u) w

root_gone : (version : ℕ) (r : Role) → In r (root_change version).gone → ⊥
unfolding no_change
root_gone version r i = i

root_fresh : (version : ℕ) (r : Role) → In r (root_change version).fresh → In r (folder_roles 1)
unfolding no_change
root_fresh version r i = i

root_removed : (version : ℕ) (e : Edge) → In e (root_change version).removed → ⊥
unfolding no_change
root_removed version e i = i

root_sources : (version : ℕ) (e : Edge) → In e (root_change version).added → rows.IsSource (root_change version) e.from
unfolding no_change
root_sources version e i = ⊎_elim (λ r. inl r) (λ f. inr (inr f)) (rows.own_sources 1 e i)

pub root_rooted : IsRooted root_store
unfolding root_store no_store
root_rooted = record {
  counted = unfold root_store no_store in root_counted;
  numbered = unfold root_store no_store in root_tree.numbered;
  own_file = λ a b i. absurd i;
  root_stands = unfold root_store no_store in root_tree.root_stands;
  folder_level = λ e i. unfold root_store no_store in let l = root_tree.folder_level e i in (l.0, l.1);
  file_folder = λ x i. absurd i;
  granted_stands = λ g i. absurd i;
  held = λ g i. absurd i;
  folders_below = omega arith;
  files_below = omega arith;
}

pub root_row : (version : ℕ) → IsRowMove no_store (root_change version) root_store
root_row version = record {
  leads = root_leads version;
  roles = λ r. (λ h. root_roles version r h, λ w. ⊎_elim (λ u. subst (HasRole root_store) (sym (no_role r u.0)) tt) (λ i. folder_has_role root_store 1 r (root_fresh version r i) root_has) w);
  removed_stand = λ e i. absurd (root_removed version e i);
  fresh_is_new = λ r i h. no_folder 1 (role_has_folder no_store 1 r (root_fresh version r i) h);
  fresh_stays = λ r f g. root_gone version r g;
  sources = λ e i. root_sources version e i;
  ends_before = λ e w. absurd (rows.no_edge e w);
  ends_after = λ e w. rows.ends root_store root_rooted e w;
}

-- where nothing was ever made, a note that makes the root alone fits
root_alone : (note : Note) → (not (needs_root note) || folder_stands no_store 1) ≡ true → (note ≡ Root) ⊎ (note ≡ StrictRoot)
unfolding needs_root folder_stands folder_entry no_store
root_alone Root t = inl refl
root_alone (NewHolder h check) t = absurd (false≢true t)
root_alone (NewFolder f p) t = absurd (false≢true t)
root_alone (NewFile x f) t = absurd (false≢true t)
root_alone (Rewrite x) t = absurd (false≢true t)
root_alone (NameFile x) t = absurd (false≢true t)
root_alone (NameFolder f) t = absurd (false≢true t)
root_alone (DropFile x) t = absurd (false≢true t)
root_alone (DropFolder f) t = absurd (false≢true t)
root_alone (ShiftFile x g) t = absurd (false≢true t)
root_alone (ShiftFolder g q) t = absurd (false≢true t)
root_alone (Give h f) t = absurd (false≢true t)
root_alone (Take h f) t = absurd (false≢true t)
root_alone StrictRoot t = inr refl
root_alone Upgrade t = absurd (false≢true t)

-- so is each note that fits, whatever stands
parts : (strict : Bool) (s : Store) (note : Note) → fits strict s note ≡ true
    → (row_fits strict s note ≡ true) × ((not (needs_root note) || folder_stands s 1) ≡ true)
unfolding fits
parts strict s note t = and_parts (row_fits strict s note) (not (needs_root note) || folder_stands s 1) t

pub first_is_root : (strict : Bool) (s : Store) (note : Note) → fits strict s note ≡ true → s ≡ no_store → (note ≡ Root) ⊎ (note ≡ StrictRoot)
first_is_root strict s note t e = root_alone note (subst (λ z. (not (needs_root note) || folder_stands z 1) ≡ true) e (parts strict s note t).1)

pub root_once : (strict : Bool) (s : Store) → IsRooted s → fits strict s Root ≡ false
root_once strict s ok = false_from_ne_true (fits strict s Root) (λ t. no_second s ok (root_test strict s (parts strict s Root t).0))

pub strict_root_once : (strict : Bool) (s : Store) → IsRooted s → fits strict s StrictRoot ≡ false
strict_root_once strict s ok = false_from_ne_true (fits strict s StrictRoot) (λ t. no_second s ok (strict_root_test strict s (parts strict s StrictRoot t).0))

root_moves : (s : Store) → s ≡ no_store → IsRowMove s (row_change s Root) (told_store s Root)
unfolding told_store row_change
root_moves s e = subst (λ z. IsRowMove z (row_change z Root) root_store) (sym e) (root_row 1)

strict_root_moves : (s : Store) → s ≡ no_store → IsRowMove s (row_change s StrictRoot) (told_store s StrictRoot)
unfolding told_store row_change
strict_root_moves s e = subst (λ z. IsRowMove z (row_change z StrictRoot) root_store) (sym e) (root_row 2)

first_moves : (s : Store) (note : Note) → s ≡ no_store → (note ≡ Root) ⊎ (note ≡ StrictRoot) → IsRowMove s (row_change s note) (told_store s note)
first_moves s note e which = ⊎_elim
    (λ (q : note ≡ Root). subst (λ n. IsRowMove s (row_change s n) (told_store s n)) (sym q) (root_moves s e))
    (λ (q : note ≡ StrictRoot). subst (λ n. IsRowMove s (row_change s n) (told_store s n)) (sym q) (strict_root_moves s e)) which

pub note_moves : (strict : Bool) (s : Store) (note : Note) → fits strict s note ≡ true → MayStand s → IsMove s (change_of strict s note) (told_store s note)
note_moves strict s note t ok = strict_moves strict s (told_store s note) note (⊎_elim
    (λ e. first_moves s note e (first_is_root strict s note t e))
    (λ rooted. row_moves strict s note (parts strict s note t).0 rooted) ok)

root_told : (s : Store) → IsRooted (told_store s Root) × IsRooted (told_store s StrictRoot)
unfolding told_store
root_told s = (root_rooted, root_rooted)

pub note_rooted : (strict : Bool) (s : Store) (note : Note) → fits strict s note ≡ true → MayStand s → IsRooted (told_store s note)
note_rooted strict s note t ok = ⊎_elim
    (λ e. ⊎_elim
    (λ (q : note ≡ Root). subst (λ n. IsRooted (told_store s n)) (sym q) (root_told s).0)
    (λ (q : note ≡ StrictRoot). subst (λ n. IsRooted (told_store s n)) (sym q) (root_told s).1)
    (first_is_root strict s note t e))
    (λ rooted. row_rooted strict s note (parts strict s note t).0 rooted) ok
