-- Rows that spell a state for which all holds that holds after a log, and which is small enough, are sound.
use Rattle.std.proofs.Common.{◌≡◌, ◌≢◌, ℕ, ◌+◌, ◌*◌, ◌^◌, ◌<◌, ◌≤◌, true, false, cond, ◌↔◌, List, [], ◌∷◌, ◌++◌, map, get_or, inl, inr, ⊎_elim, refl, sym, ap, ◌∙◌, subst, arith, length-append}
use Rattle.std.specs.List.{flat_map, range_with_len}
use Rattle.std.specs.Prelude.{All, Some, length}
use Rattle.std.proofs.lemmas.List.{length-map}
use Rattle.std.proofs.lemmas.List.FromFn.{length-range_with_len}
use Rattle.std.proofs.lemmas.Bool.{cases_eq, lt-ltb, ltb-false, or_left, true≢false}
use Rattle.cry_base.specs.Clearances.{clear_number}
use Rattle.cry_base.specs.Sets.{In}
use Rattle.cry_base.specs.Store.{Store, FileEntry, FolderEntry, GrantEntry, HolderEntry, file_entry, folder_entry, no_store, way_to_root}
use Rattle.cry_base.specs.declared.roles.Role.{Role}
use Rattle.cry_base.specs.declared.roles.Role.TheVariants.{Owner, Holder, Clear, Sub, Back, Files, Data, File}
use Rattle.cry_base.proofs.Members.{In-map}
use Rattle.cry_base.specs.Limits.{most_depth}
use Rattle.folder_nodes.specs.Trees.{IsTree}
use Rattle.folder_nodes.proofs.Ascending.{All-in}
use Rattle.grant_book.specs.Fitting.{CanStand}
use Rattle.grant_book.specs.Granted.{AreOrdered, Granted, IsHolder}
use Rattle.index_format.specs.Plain.{PlainState}
use Rattle.index_format.specs.Writable.{AreNumbers, HasFewRows, IsCheckRow, IsFileRow, IsFolderRow, IsGrantRow, IsKeyRow, IsMarkRow, IsWritable}
use Rattle.index_format.specs.declared.rows.FileRow.{FileRow}
use Rattle.index_format.specs.declared.rows.FolderRow.{FolderRow}
use Rattle.index_format.specs.declared.rows.GrantRow.{GrantRow}
use Rattle.index_format.specs.declared.rows.KeyRow.{KeyRow}
use Rattle.index_format.specs.declared.rows.MarkRow.{MarkRow}
use Rattle.index_format.specs.declared.rows.StateNumbers.{StateNumbers}
use Rattle.move_plan.specs.Change.{clearance_in}
use Rattle.move_plan.specs.Seen.{keyless, seen_store}
use Rattle.role_graph.specs.Ascending.{IsAscending}
use Rattle.role_graph.specs.Edges.{edges, has_grants}
use Rattle.role_graph.specs.RightsByReach.{HasClearNumber, HasFolder, MayBeGranted}
use Rattle.role_graph.specs.Roles.{variant_of, role_id, role_before, is_root_role, clear_of}
use Rattle.role_graph.proofs.AtRoles.{ByNumber, above, behind}
use Rattle.role_graph.proofs.Once.{own_row}
use Rattle.role_graph.proofs.Rising.{Before, before_on, before_self, get_or-In}
use Rattle.public_fold.specs.AtKeys.{roles_of}
use Rattle.public_fold.specs.Keyed.{HasRole, IsKept}
use Rattle.public_fold.specs.Journal.{Stand}
use Rattle.public_fold.specs.KeyStep.{KeyState, newest, next_serial, present}
use Rattle.public_fold.specs.Records.{Link}
use Rattle.public_fold.specs.Standing.{IsSeenAs, PublicView, public_store_of, stand_of}
use Rattle.public_fold.specs.StandingRoles.{rows_of_keys, standing_roles}
use Rattle.public_fold.specs.StateLaws.{AreFew, IsFolded}
use Rattle.public_fold.specs.States.{AreSmall, AreSoundKeys, AreSoundMarks, HasVersion, IsBare, IsSoundState, Spells, check_row, checks_of, file_row, folder_row, grant_row, key_of_row, key_row, key_state_of, keys_of_rows, mark_row, marked_of, numbers_of, pairs_of_rows, state_store, tree_of}
use Rattle.public_fold.specs.Turns.{StandHolds}
use Rattle.public_fold.proofs.RolesStanding.{StandInOrder, standing_ascend, standing_stands, stands_standing}
use Rattle.public_fold.proofs.RowRoles.{role_back}
use Rattle.public_fold.proofs.RowsOfKeys.{present_is, rows_of_kept, stands_in_order}
use Rattle.public_fold.proofs.SeenHolds.{holds_seen}
use Rattle.public_fold.proofs.SoundTrees.{folder_found, range_in}
use Rattle.public_fold.proofs.SpelledOnce.{checks_told, files_told, folders_told, marks_told, one_rows, pairs_told, store_told}

-- ---- roles by the place of their variant

places : (r : Role) → variant_of r ≤ 7
unfolding variant_of
places Owner = omega arith
places (Holder h) = omega arith
places (Clear f) = omega arith
places (Sub f) = omega arith
places (Back f) = omega arith
places (Files f) = omega arith
places (Data f) = omega arith
places (File x) = omega arith

not_first : (r : Role) → r ≢ Owner → 1 ≤ variant_of r
unfolding variant_of
not_first Owner other = absurd (other refl)
not_first (Holder h) other = omega arith
not_first (Clear f) other = omega arith
not_first (Sub f) other = omega arith
not_first (Back f) other = omega arith
not_first (Files f) other = omega arith
not_first (Data f) other = omega arith
not_first (File x) other = omega arith

owner_first : (r : Role) → r ≢ Owner → Before Owner r
unfolding variant_of role_before
owner_first r other = or_left _ _ (lt-ltb 0 (variant_of r) (let h : 1 ≤ variant_of r = not_first r other in omega arith))

no_root_place : (r : Role) → is_root_role r ≡ false → 2 ≤ variant_of r
unfolding is_root_role
no_root_place r e = ltb-false (variant_of r) 2 e

-- ---- counts

few_between : (X : Type 0) (id : X → ℕ) (low most : ℕ) (xs : List X) → ByNumber X id xs → low ≤ most + 1 → ((x : X) → In x xs → (low ≤ id x) × (id x ≤ most)) → length xs + low ≤ most + 1
few_between X id low most [] up room each = omega arith
few_between X id low most (x ∷ xs) up room each =
    let from : low ≤ id x = (each x (inl refl)).0 in
    let to : id x ≤ most = (each x (inl refl)).1 in
    let rest : length xs + (id x + 1) ≤ most + 1 = few_between X id (id x + 1) most xs (behind X id x xs up) (omega arith)
    (λ y i. let less : id x < id y = above X id x xs up y i in let within : id y ≤ most = (each y (inr i)).1 in (omega arith, within)) in
    omega arith

few_of_all : (X : Type 0) (id : X → ℕ) (most : ℕ) (xs : List X) → ByNumber X id xs → ((x : X) → In x xs → (1 ≤ id x) × (id x ≤ most)) → length xs ≤ most
few_of_all X id most xs up each = let h : length xs + 1 ≤ most + 1 = few_between X id 1 most xs up (omega arith) each in omega arith

all_in : (X : Type 0) (P : X → Type 0) (xs : List X) → ((x : X) → In x xs → P x) → All P xs
all_in X P xs each = λ k d lt. each (get_or xs k d) (get_or-In X xs k d lt)

all_of_map : (X Y : Type 0) (f : X → Y) (P : Y → Type 0) (xs : List X) → ((x : X) → In x xs → P (f x)) → All P (map f xs)
all_of_map X Y f P xs each = all_in Y P (map f xs) (λ y i. let w = (In-map X Y f y xs).0 i in subst P (sym w.2) (each w.0 w.1))

clearances_few : (s : Store) (xs : List FileEntry) → length (flat_map (λ (e : FileEntry). clearance_in s e.id) xs) ≤ length xs
unfolding clearance_in
clearances_few s [] = omega arith
clearances_few s (x ∷ xs) =
    let rest : length (flat_map (λ (e : FileEntry). clearance_in s e.id) xs) ≤ length xs = clearances_few s xs in
    elim (has_grants s (clear_number x.id)) as (λ b. length (cond b (clear_of (clear_number x.id) ∷ []) [] ++ flat_map (λ (e : FileEntry). clearance_in s e.id) xs) ≤ length (x ∷ xs)) [
      | true ↦ omega arith
      | false ↦ omega arith
    ]

standing_few : (s : Store) → length (standing_roles s) ≤ length s.holders + (5 * length s.folders + 2 * length s.files)
unfolding standing_roles
standing_few s =
    let more : length (flat_map (λ (e : FileEntry). clearance_in s e.id) s.files) ≤ length s.files = clearances_few s s.files in
    simp (length-append, length-map) (omega arith)

-- a set in its order has no more roles than one that holds it
within_few : (xs ys : List Role) → IsAscending xs → IsAscending ys → ((r : Role) → In r xs → In r ys) → length xs ≤ length ys
within_few [] ys p q sub = omega arith
within_few (x ∷ xs) [] p q sub = absurd (sub x (inl refl))
within_few (x ∷ xs) (y ∷ ys) p q sub = ⊎_elim
    (λ (e : x ≡ y).
    let h : length xs ≤ length ys = within_few xs ys p.1 q.1
    (λ r i. ⊎_elim (λ (s : r ≡ y). absurd (before_self x (subst (Before x) (s ∙ sym e) (p.0 r i)))) (λ u. u) (sub r (inr i))) in
    omega arith)
    (λ (i : In x ys).
    let h : length (x ∷ xs) ≤ length ys = within_few (x ∷ xs) ys p q.1
    (λ r j. ⊎_elim
    (λ (s : r ≡ y). absurd (⊎_elim
    (λ (t : r ≡ x). before_self x (subst (λ z. Before z x) (sym s ∙ t) (q.0 x i)))
    (λ u. before_self x (before_on x y x (subst (Before x) s (p.0 r u)) (q.0 x i))) j))
    (λ u. u) (sub r j)) in
    omega arith)
    (sub x (inl refl))

-- ---- what is said of a state

-- all that its rows' soundness hangs on
pub record IsHeld (v : PublicView) (s : PlainState) (links : List Link) : Type 0 where
  pub spells : Spells v s
  pub holds : StandHolds (stand_of v) links
  pub bare : IsBare v.tree
  pub tree : IsTree v.tree
  pub stand : CanStand v.checks v.pairs
  pub marks : IsAscending v.keys.dirty
  pub whole : All IsCheckRow s.checks
  pub few : AreFew v
  pub owner : newest v.keys.keys Owner ≡ Some 0
  pub known : v.keys.version ≤ 2
  pub unmade : (v.keys.version ≡ 0) ↔ (v.tree.folders_made ≡ 0)

-- what rows of keys give back
keys_back : (keys : List (Role × ℕ)) (roles : List Role) → map key_of_row (rows_of_keys keys roles) ≡ map (λ r. (r, present keys r)) roles
keys_back keys [] = refl
keys_back keys (r ∷ rs) = λ i. (role_back r i, present keys r) ∷ keys_back keys rs i

roles_back : (keys : List (Role × ℕ)) (roles : List Role) → roles_of (map key_of_row (rows_of_keys keys roles)) ≡ roles
roles_back keys [] = refl
roles_back keys (r ∷ rs) = λ i. role_back r i ∷ roles_back keys rs i

-- holders, grants and their count don't change the tree
tree_alone : (t : Store) → IsTree t → IsTree (record t { holders = []; grants = []; holders_made = 0 })
unfolding folder_entry file_entry way_to_root
tree_alone t tree = record {
  folders_ascend = tree.folders_ascend;
  files_ascend = tree.files_ascend;
  folders_made = tree.folders_made;
  files_made = tree.files_made;
  root = tree.root;
  parents_stand = tree.parents_stand;
  ways_end = tree.ways_end;
  files_stand = tree.files_stand;
}

-- numbers that stand were made
folder_made : (t : Store) → IsTree t → (e : FolderEntry) → In e t.folders → (1 ≤ e.id) × (e.id ≤ t.folders_made)
folder_made t tree e i = All-in FolderEntry (λ (e : FolderEntry). (1 ≤ e.id) × (e.id ≤ t.folders_made)) t.folders e tree.folders_made i

file_made : (t : Store) → IsTree t → (e : FileEntry) → In e t.files → (1 ≤ e.id) × (e.id ≤ t.files_made)
file_made t tree e i = All-in FileEntry (λ (e : FileEntry). (1 ≤ e.id) × (e.id ≤ t.files_made)) t.files e tree.files_made i

found_made : (t : Store) → IsTree t → (f : ℕ) (p : FolderEntry) → folder_entry t f ≡ Some p → f ≤ t.folders_made
found_made t tree f p e =
    let found = folder_found t f p e in
    let same : p.id ≡ f = found.1 in
    let low : p.id ≤ t.folders_made = (folder_made t tree p found.0).1 in omega arith

parent_made : (t : Store) → IsTree t → (e : FolderEntry) → In e t.folders → e.parent ≤ t.folders_made
parent_made t tree e i = ⊎_elim
    (λ (one : e.id ≡ 1).
    let made : e.id ≤ t.folders_made = (folder_made t tree e i).1 in
    let root = tree.root (omega arith) in
    let found = folder_found t 1 root.0 root.1 in
    let same : root.0 ≡ e = own_row FolderEntry (λ (x : FolderEntry). x.id) t.folders tree.folders_ascend root.0 e found.0 i (found.1 ∙ sym one) in
    let none : e.parent ≡ 0 = ap (λ (x : FolderEntry). x.parent) (sym same) ∙ root.2 in omega arith)
    (λ (other : e.id ≢ 1).
    let parent = All-in FolderEntry (λ (x : FolderEntry). x.id ≢ 1 → (p : FolderEntry) × (folder_entry t x.parent ≡ Some p)) t.folders e tree.parents_stand i other in
    found_made t tree e.parent parent.0 parent.1)
    (cases_eq e.id 1)

folder_of_file : (t : Store) → IsTree t → (x : FileEntry) → In x t.files → x.folder ≤ t.folders_made
folder_of_file t tree x i =
    let w = All-in FileEntry (λ (e : FileEntry). (p : FolderEntry) × (folder_entry t e.folder ≡ Some p) × (length (way_to_root t e.folder) ≤ most_depth)) t.files x tree.files_stand i in
    found_made t tree x.folder w.0 w.1

-- what may be granted has a number of four bytes
granted_low : (t : Store) (g : Granted) → IsTree t → t.folders_made < 2 ^ 28 → t.files_made < 2 ^ 28 → (f : ℕ) → MayBeGranted (seen_store t g) f → f < 2 ^ 32
granted_low t g tree folders files f w = ⊎_elim
    (λ (u : HasFolder (seen_store t g) f).
    let made : u.0.id ≤ t.folders_made = (folder_made t tree u.0 u.1).1 in
    let same : u.0.id ≡ f = u.2 in omega arith)
    (λ (u : HasClearNumber (seen_store t g) f).
    let made : u.0.id ≤ t.files_made = (file_made t tree u.0 u.1).1 in
    let same : clear_number u.0.id ≡ f = u.2 in omega arith) w

-- so has each role that stands
role_low : (t : Store) (g : Granted) → IsTree t → t.folders_made < 2 ^ 28 → t.files_made < 2 ^ 28 → length g.checks < 2 ^ 28 → (r : Role) → HasRole (seen_store t g) r → role_id r < 2 ^ 32
unfolding role_id
role_low t g tree folders files holders Owner w = omega arith
role_low t g tree folders files holders (Holder h) w =
    let from = (In-map ℕ HolderEntry keyless w.0 (range_with_len 1 (length g.checks))).0 w.1 in
    let high : from.0 < 1 + length g.checks = (range_in 1 (length g.checks) from.0 from.1).1 in
    let number : w.0.number ≡ from.0 = ap (λ (e : HolderEntry). e.number) from.2 in
    let same : w.0.number ≡ h.0 = w.2 in omega arith
role_low t g tree folders files holders (Clear f) w = granted_low t g tree folders files f.0 (⊎_elim (λ u. inl u) (λ u. inr u.0) w)
role_low t g tree folders files holders (Sub f) w = granted_low t g tree folders files f.0 (inl w)
role_low t g tree folders files holders (Back f) w = granted_low t g tree folders files f.0 (inl w)
role_low t g tree folders files holders (Files f) w = granted_low t g tree folders files f.0 (inl w)
role_low t g tree folders files holders (Data f) w = granted_low t g tree folders files f.0 (inl w)
role_low t g tree folders files holders (File x) w =
    let made : w.0.id ≤ t.files_made = (file_made t tree w.0 w.1).1 in
    let same : w.0.id ≡ x.0 = w.2 in omega arith

module _ (v : PublicView) (s : PlainState) (links : List Link) (held : IsHeld v s links) where
  store_same : state_store s ≡ public_store_of v
  store_same = store_told v s held.bare held.spells

  order : StandInOrder (public_store_of v)
  order = stands_in_order v.tree (record { checks = v.checks; pairs = v.pairs; spare = 0 }) held.tree held.holds.store

  kept : IsKept (public_store_of v) v.keys.keys v.keys.dirty
  kept = record {
    stands = held.holds.store;
    links = links;
    hold = record {
      closed = held.holds.keys.closed;
      no_root = held.holds.keys.no_root;
      dirty_stands = held.holds.keys.dirty_stands;
      linked = held.holds.keys.linked;
      keyed = held.holds.keys.keyed;
    };
  }

  rows_are : s.keys ≡ rows_of_keys v.keys.keys (standing_roles (public_store_of v))
  rows_are = one_rows v.keys.keys s.keys (rows_of_keys v.keys.keys (standing_roles (public_store_of v))) held.spells.keys
      (rows_of_kept (public_store_of v) v.keys.keys v.keys.dirty kept order)

  keys_are : keys_of_rows s ≡ (Owner, 0) ∷ map (λ r. (r, present v.keys.keys r)) (standing_roles (public_store_of v))
  keys_are = ap (λ (rows : List KeyRow). (Owner, 0) ∷ map key_of_row rows) rows_are
      ∙ ap (λ (l : List (Role × ℕ)). (Owner, 0) ∷ l) (keys_back v.keys.keys (standing_roles (public_store_of v)))

  roles_are : roles_of (keys_of_rows s) ≡ Owner ∷ standing_roles (public_store_of v)
  roles_are = ap (λ (rows : List KeyRow). Owner ∷ roles_of (map key_of_row rows)) rows_are
      ∙ ap (λ (l : List Role). Owner ∷ l) (roles_back v.keys.keys (standing_roles (public_store_of v)))

  marks_are : marked_of s ≡ v.keys.dirty
  marks_are = marks_told v s held.spells

  next_same : next_serial (key_state_of s) ≡ next_serial v.keys
  unfolding next_serial
  next_same = ap (λ (n : StateNumbers). n.epoch * 2 ^ 32 + n.count) held.spells.numbers

  -- each key of the rows is its role's newest
  newest_is : (key : Role × ℕ) → In {X = Role × ℕ} key (keys_of_rows s) → newest v.keys.keys key.0 ≡ Some key.1
  newest_is key i = ⊎_elim
      (λ (e : key ≡ (Owner, 0)). subst (λ (z : Role × ℕ). newest v.keys.keys z.0 ≡ Some z.1) (sym e) held.owner)
      (λ u.
      let w = (In-map Role (Role × ℕ) (λ r. (r, present v.keys.keys r)) key (standing_roles (public_store_of v))).0 u in
      let has = (held.holds.keys.keyed w.0).0 (standing_stands (public_store_of v) w.0 w.1).0 in
      subst (λ (z : Role × ℕ). newest v.keys.keys z.0 ≡ Some z.1) (sym w.2) (has.1 ∙ ap (λ n. Some n) (sym (present_is v.keys.keys w.0 has.0 has.1))))
      (subst (λ l. In {X = Role × ℕ} key l) keys_are i)

  sound_keys : AreSoundKeys s
  sound_keys = record {
    places = λ row i.
        let w = held.spells.keys.each row i in
        let at : row.place ≡ variant_of w.0 = ap (λ (z : KeyRow). z.place) w.2 in
        let low : 1 ≤ variant_of w.0 = not_first w.0 w.1 in
        let high : variant_of w.0 ≤ 7 = places w.0 in (omega arith, omega arith);
    ascend = subst IsAscending (sym roles_are)
        ((λ q i. owner_first q (standing_stands (public_store_of v) q i).1), standing_ascend (public_store_of v) order);
    keyed = λ r. (
      (λ w. subst (λ l. In r l) (sym roles_are) (stands_standing (public_store_of v) r (subst (λ z. HasRole z r) store_same w))),
      (λ i. subst (λ z. HasRole z r) (sym store_same) (⊎_elim
          (λ (e : r ≡ Owner). subst (HasRole (public_store_of v)) (sym e) tt)
          (λ u. (standing_stands (public_store_of v) r u).0)
          (subst (λ l. In r l) roles_are i))),
    );
    own = λ a b i j e.
        let role = held.holds.serials.own a.0 b.0 a.1 (newest_is a i) (newest_is b j ∙ ap (λ n. Some n) (sym e)) in
        λ k. (role k, e k);
    given = λ key i. subst (λ n. key.1 < n) (sym next_same) (held.holds.serials.below key.0 key.1 (newest_is key i));
  }

  sound_marks : AreSoundMarks s
  sound_marks = record {
    places = λ row i.
        let w = (In-map Role MarkRow mark_row row v.keys.dirty).0 (subst (λ l. In row l) held.spells.marks i) in
        let at : row.place ≡ variant_of w.0 = ap (λ (z : MarkRow). z.place) w.2 in
        let low : 2 ≤ variant_of w.0 = no_root_place w.0 (held.holds.keys.no_root w.0 w.1) in
        let high : variant_of w.0 ≤ 7 = places w.0 in (omega arith, omega arith);
    ascend = subst IsAscending (sym marks_are) held.marks;
    stand = λ r i. subst (λ z. HasRole z r) (sym store_same) (held.holds.keys.dirty_stands r (subst (λ l. In r l) marks_are i));
    closed = λ e i from. subst (λ l. In e.to l) (sym marks_are)
        (held.holds.keys.closed e (subst (λ z. In e (edges z)) store_same i) (subst (λ l. In e.from l) marks_are from));
  }

  may_be_granted : (g : GrantEntry) → In g v.pairs → MayBeGranted (public_store_of v) g.folder
  unfolding no_store
  may_be_granted g i = ⊎_elim
      (λ (e : public_store_of v ≡ no_store). absurd (subst (λ (z : Store). In g z.grants) e i))
      (λ r. r.granted_stands g i) held.holds.store

  small : AreSmall (numbers_of v)
  small = record {
    epoch = held.few.epoch;
    count = held.few.count;
    folders_made = let h : v.tree.folders_made < 2 ^ 28 = held.few.folders in omega arith;
    files_made = let h : v.tree.files_made < 2 ^ 28 = held.few.files in omega arith;
    holders_made = let h : length v.checks < 2 ^ 28 = held.few.holders in omega arith;
  }

  -- where no folder was made nothing was
  nothing_made : v.tree.folders_made ≡ 0 → (v.tree.files_made ≡ 0) × (length v.checks ≡ 0)
  unfolding no_store
  nothing_made none = ⊎_elim
      (λ (e : public_store_of v ≡ no_store). (ap (λ (z : Store). z.files_made) e, ap (λ (z : Store). z.holders_made) e))
      (λ r.
      let root = r.root_stands in
      let one : root.0.id ≡ 1 = root.2 in
      let made : root.0.id ≤ v.tree.folders_made = r.counted.each_folder root.0 root.1 in absurd (omega arith)) held.holds.store

  has_version : HasVersion (numbers_of v)
  has_version = record {
    known = held.known;
    unmade = held.unmade;
    no_file = λ none. (nothing_made none).0;
    no_holder = λ none. (nothing_made none).1;
  }

  sound_tree : IsTree (tree_of s)
  sound_tree =
      let folders = folders_told v s held.bare held.spells in
      let files = files_told v s held.bare held.spells in
      let numbers = held.spells.numbers in
      let same : tree_of s ≡ record v.tree { holders = []; grants = []; holders_made = 0 } = λ i. record {
        folders = folders i;
        files = files i;
        holders = [];
        grants = [];
        folders_made = (numbers i).folders_made;
        files_made = (numbers i).files_made;
        holders_made = 0;
      } in
      subst IsTree (sym same) (tree_alone v.tree held.tree)

  can_stand : CanStand (checks_of s) (pairs_of_rows s)
  can_stand = subst (λ cs. CanStand cs (pairs_of_rows s)) (sym (checks_told v s held.spells))
      (subst (λ gs. CanStand v.checks gs) (sym (pairs_told v s held.spells)) held.stand)

  low_role : (r : Role) → HasRole (public_store_of v) r → role_id r < 2 ^ 32
  low_role = role_low v.tree (record { checks = v.checks; pairs = v.pairs; spare = 0 }) held.tree held.few.folders held.few.files held.few.holders

  folders_few : length v.tree.folders ≤ v.tree.folders_made
  folders_few = few_of_all FolderEntry (λ (e : FolderEntry). e.id) v.tree.folders_made v.tree.folders held.tree.folders_ascend (folder_made v.tree held.tree)

  files_few : length v.tree.files ≤ v.tree.files_made
  files_few = few_of_all FileEntry (λ (e : FileEntry). e.id) v.tree.files_made v.tree.files held.tree.files_ascend (file_made v.tree held.tree)

  standing_within : length (standing_roles (public_store_of v)) < 2 ^ 32
  standing_within =
      let all : length (standing_roles (public_store_of v)) ≤ length (public_store_of v).holders + (5 * length v.tree.folders + 2 * length v.tree.files) = standing_few (public_store_of v) in
      let holders : length (public_store_of v).holders ≡ length v.checks = length-map (range_with_len 1 (length v.checks)) keyless ∙ length-range_with_len 1 (length v.checks) in
      let folders : length v.tree.folders ≤ v.tree.folders_made = folders_few in
      let files : length v.tree.files ≤ v.tree.files_made = files_few in
      let a : v.tree.folders_made < 2 ^ 28 = held.few.folders in
      let b : v.tree.files_made < 2 ^ 28 = held.few.files in
      let c : length v.checks < 2 ^ 28 = held.few.holders in omega arith

  -- marks are on roles that stand, and not on the owner's
  marks_within : length v.keys.dirty ≤ length (standing_roles (public_store_of v))
  unfolding is_root_role variant_of
  marks_within = within_few v.keys.dirty (standing_roles (public_store_of v)) held.marks (standing_ascend (public_store_of v) order)
      (λ r i. ⊎_elim
      (λ (e : r ≡ Owner). absurd (true≢false (subst (λ z. is_root_role z ≡ false) e (held.holds.keys.no_root r i))))
      (λ u. u)
      (stands_standing (public_store_of v) r (held.holds.keys.dirty_stands r i)))

  few_rows : HasFewRows s
  few_rows =
      let folders : length s.folders ≡ length v.tree.folders = ap length held.spells.folders ∙ length-map v.tree.folders folder_row in
      let files : length s.files ≡ length v.tree.files = ap length held.spells.files ∙ length-map v.tree.files file_row in
      let checks : length s.checks ≡ length v.checks = ap length held.spells.checks ∙ length-map v.checks check_row in
      let grants : length s.grants ≡ length v.pairs = ap length held.spells.grants ∙ length-map v.pairs grant_row in
      let marks : length s.marks ≡ length v.keys.dirty = ap length held.spells.marks ∙ length-map v.keys.dirty mark_row in
      let keys : length s.keys ≡ length (standing_roles (public_store_of v)) = ap length rows_are ∙ length-map (standing_roles (public_store_of v)) (λ r. key_row r (present v.keys.keys r)) in
      let a : length v.tree.folders ≤ v.tree.folders_made = folders_few in
      let b : length v.tree.files ≤ v.tree.files_made = files_few in
      let c : v.tree.folders_made < 2 ^ 28 = held.few.folders in
      let d : v.tree.files_made < 2 ^ 28 = held.few.files in
      let e : length v.pairs < 2 ^ 32 = held.few.grants in
      let f : length (standing_roles (public_store_of v)) < 2 ^ 32 = standing_within in
      let g : length v.keys.dirty ≤ length (standing_roles (public_store_of v)) = marks_within in record {
        folders = omega arith;
        files = omega arith;
        checks = checks ∙ ap (λ (n : StateNumbers). n.holders_made) (sym held.spells.numbers);
        grants = omega arith;
        keys = omega arith;
        marks = omega arith;
      }

  are_numbers : AreNumbers (numbers_of v)
  are_numbers =
      let known : v.keys.version ≤ 2 = held.known in
      let epoch : v.keys.epoch < 2 ^ 30 = held.few.epoch in
      let count : v.keys.count < 2 ^ 30 = held.few.count in
      let folders : v.tree.folders_made < 2 ^ 28 = held.few.folders in
      let files : v.tree.files_made < 2 ^ 28 = held.few.files in
      let holders : length v.checks < 2 ^ 28 = held.few.holders in record {
        version = omega arith;
        epoch = omega arith;
        count = omega arith;
        folders_made = omega arith;
        files_made = omega arith;
        holders_made = omega arith;
      }

  folder_is : (e : FolderEntry) → In e v.tree.folders → IsFolderRow (folder_row e)
  folder_is e i =
      let made : e.id ≤ v.tree.folders_made = (folder_made v.tree held.tree e i).1 in
      let parent : e.parent ≤ v.tree.folders_made = parent_made v.tree held.tree e i in
      let few : v.tree.folders_made < 2 ^ 28 = held.few.folders in record { id = omega arith; parent = omega arith }

  file_is : (e : FileEntry) → In e v.tree.files → IsFileRow (file_row e)
  file_is e i =
      let made : e.id ≤ v.tree.files_made = (file_made v.tree held.tree e i).1 in
      let folder : e.folder ≤ v.tree.folders_made = folder_of_file v.tree held.tree e i in
      let few : v.tree.files_made < 2 ^ 28 = held.few.files in
      let more : v.tree.folders_made < 2 ^ 28 = held.few.folders in record { id = omega arith; folder = omega arith }

  grant_is : (g : GrantEntry) → In g v.pairs → IsGrantRow (grant_row g)
  grant_is g i =
      let made : g.holder ≤ length v.checks = (held.stand.made g i).1 in
      let few : length v.checks < 2 ^ 28 = held.few.holders in record {
        holder = omega arith;
        folder = granted_low v.tree (record { checks = v.checks; pairs = v.pairs; spare = 0 }) held.tree held.few.folders held.few.files g.folder (may_be_granted g i);
      }

  key_is : (row : KeyRow) → In row s.keys → IsKeyRow row
  unfolding next_serial
  key_is row i =
      let w = held.spells.keys.each row i in
      let at : row.place ≡ variant_of w.0 = ap (λ (z : KeyRow). z.place) w.2 in
      let high : variant_of w.0 ≤ 7 = places w.0 in
      let number : row.id ≡ role_id w.0 = ap (λ (z : KeyRow). z.id) w.2 in
      let low : role_id w.0 < 2 ^ 32 = low_role w.0 ((held.holds.keys.keyed w.0).1 (row.serial, w.3)) in
      let given : row.serial < v.keys.epoch * 2 ^ 32 + v.keys.count = held.holds.serials.below w.0 row.serial w.3 in
      let epoch : v.keys.epoch < 2 ^ 30 = held.few.epoch in
      let count : v.keys.count < 2 ^ 30 = held.few.count in record { place = omega arith; id = omega arith; serial = omega arith }

  mark_is : (r : Role) → In r v.keys.dirty → IsMarkRow (mark_row r)
  mark_is r i =
      let high : variant_of r ≤ 7 = places r in
      let low : role_id r < 2 ^ 32 = low_role r (held.holds.keys.dirty_stands r i) in record { place = omega arith; id = omega arith }

  writable : IsWritable s
  writable = record {
    few = few_rows;
    numbers = subst AreNumbers (sym held.spells.numbers) are_numbers;
    folders = subst (λ l. All IsFolderRow l) (sym held.spells.folders) (all_of_map FolderEntry FolderRow folder_row IsFolderRow v.tree.folders folder_is);
    files = subst (λ l. All IsFileRow l) (sym held.spells.files) (all_of_map FileEntry FileRow file_row IsFileRow v.tree.files file_is);
    checks = held.whole;
    grants = subst (λ l. All IsGrantRow l) (sym held.spells.grants) (all_of_map GrantEntry GrantRow grant_row IsGrantRow v.pairs grant_is);
    keys = all_in KeyRow IsKeyRow s.keys key_is;
    marks = subst (λ l. All IsMarkRow l) (sym held.spells.marks) (all_of_map Role MarkRow mark_row IsMarkRow v.keys.dirty mark_is);
  }

  pub held_sound : IsSoundState s
  held_sound = record {
    writable = writable;
    small = subst AreSmall (sym held.spells.numbers) small;
    version = subst HasVersion (sym held.spells.numbers) has_version;
    tree = sound_tree;
    grants = can_stand;
    granted = λ g i. subst (λ z. MayBeGranted z g.folder) (sym store_same) (may_be_granted g (subst (λ l. In g l) (pairs_told v s held.spells) i));
    keys = sound_keys;
    marks = sound_marks;
  }

-- the same of a stand that the state is seen as
pub rows_sound : (v : PublicView) (s : PlainState) (at : Stand) (links : List Link) → Spells v s → All IsCheckRow s.checks → IsTree v.tree
    → AreOrdered v.pairs → ((e : GrantEntry) → In e v.pairs → IsHolder v.checks e.holder) → IsAscending v.keys.dirty
    → IsSeenAs v at → StandHolds at links → IsFolded at → AreFew v → IsSoundState s
rows_sound v s at links spells whole tree ordered made marks seen holds folded few =
    let bare : IsBare (record (public_store_of v) { grants = at.store.grants }) = subst IsBare seen.store folded.bare in
    let made_same : at.store.folders_made ≡ v.tree.folders_made = ap (λ (z : Store). z.folders_made) seen.store in
    let version_same : at.keys.version ≡ v.keys.version = ap (λ (k : KeyState). k.version) seen.keys in
    held_sound v s links (record {
      spells = spells;
      holds = holds_seen v at links seen holds;
      bare = record { folders = bare.folders; files = bare.files };
      tree = tree;
      stand = record { ordered = ordered; made = made };
      marks = marks;
      whole = whole;
      few = few;
      owner = subst (λ (k : KeyState). newest k.keys Owner ≡ Some 0) seen.keys folded.owner;
      known = subst (λ (k : KeyState). k.version ≤ 2) seen.keys folded.known;
      unmade = (λ z. sym made_same ∙ folded.unmade.0 (version_same ∙ z), λ z. sym version_same ∙ folded.unmade.1 (made_same ∙ z));
    })
