-- What holds of a state whose rows are sound: it stands, its keys and serials hold, and it spells its rows.
use Rattle.std.proofs.Common.{◌≡◌, ◌≢◌, ℕ, ◌<◌, ◌≤◌, ◌^◌, Bool, true, false, ◌↔◌, List, [], ◌∷◌, map, length, Some, inl, inr, ⊎_elim, refl, sym, ap, ◌∙◌, subst, arith}
use Rattle.std.specs.Prelude.{AllPairs, IsTrue, nat_lt, ◌==◌, ◌&&◌, ◌||◌}
use Rattle.std.proofs.lemmas.Bool.{cases_eq}
use Rattle.std.proofs.lemmas.List.{length-map}
use Rattle.std.proofs.lemmas.List.Kept.{AllPairs-cons}
use Rattle.cry_base.specs.Sets.{In}
use Rattle.cry_base.specs.Store.{Store, GrantEntry}
use Rattle.cry_base.specs.declared.roles.Edge.{Edge}
use Rattle.cry_base.specs.declared.roles.Role.{Role}
use Rattle.cry_base.specs.declared.roles.Role.TheVariants.{Owner}
use Rattle.cry_base.proofs.Members.{In-map}
use Rattle.folder_nodes.proofs.Ascending.{in-All}
use Rattle.grant_book.specs.Granted.{Granted}
use Rattle.index_format.specs.Plain.{PlainState}
use Rattle.index_format.specs.declared.rows.KeyRow.{KeyRow}
use Rattle.index_format.specs.declared.rows.MarkRow.{MarkRow}
use Rattle.index_format.specs.declared.rows.CheckRow.{CheckRow}
use Rattle.index_format.specs.declared.rows.FileRow.{FileRow}
use Rattle.index_format.specs.declared.rows.FolderRow.{FolderRow}
use Rattle.index_format.specs.declared.rows.GrantRow.{GrantRow}
use Rattle.cry_base.specs.Store.{FolderEntry, FileEntry}
use Rattle.role_graph.specs.Ascending.{IsAscending}
use Rattle.role_graph.specs.Edges.{edges}
use Rattle.role_graph.specs.Roles.{is_root_role, role_before, role_id, variant_of}
use Rattle.public_fold.specs.AtKeys.{roles_of}
use Rattle.public_fold.specs.Keyed.{HasRole, IsKept, KeysHold, SerialsHold}
use Rattle.public_fold.specs.KeyStep.{KeyState, newest, present}
use Rattle.public_fold.specs.Records.{Link}
use Rattle.public_fold.specs.Rooted.{MayStand}
use Rattle.move_plan.specs.Seen.{seen_store}
use Rattle.public_fold.specs.Standing.{PublicView}
use Rattle.public_fold.proofs.SeenAfter.{seen}
use Rattle.public_fold.specs.States.{AreKeyRows, IsReadFrom, IsSoundState, Spells, check_row, checks_of, entry_of_file, entry_of_folder, file_row, folder_row, grant_of_row, grant_row, key_of_row, key_row, key_state_of, keys_of_rows, mark_row, marked_of, numbers_of, pairs_of_rows, role_at, role_of_mark, row_before, state_store, tree_of, view_of}
use Rattle.public_fold.proofs.HeldMarks.{recounted}
use Rattle.public_fold.proofs.RowRoles.{has_newest, id_at, in_newest, newest_in, no_root, not_owner, variant_at}
use Rattle.public_fold.proofs.SoundTrees.{tree_rooted, tree_unmade}

abbrev pub granted_of : PlainState → Granted
granted_of s = record { checks = checks_of s; pairs = pairs_of_rows s; spare = 0 }

-- as many checks as holders were made
checks_counted : (s : PlainState) → IsSoundState s → length (checks_of s) ≡ s.numbers.holders_made
checks_counted s ok = length-map s.checks (λ (row : CheckRow). row.0) ∙ ok.writable.few.checks

-- the store stands
pub rows_stand : (s : PlainState) → IsSoundState s → MayStand (state_store s)
rows_stand s ok =
    let folders : s.numbers.folders_made < 2 ^ 30 = ok.small.folders_made in
    let files : s.numbers.files_made < 2 ^ 30 = ok.small.files_made in
    ⊎_elim
    (λ (none : s.numbers.folders_made ≡ 0).
    inl (tree_unmade (tree_of s) (granted_of s) ok.tree none (ok.version.no_file none) (checks_counted s ok ∙ ok.version.no_holder none) ok.grants.made))
    (λ (some : s.numbers.folders_made ≢ 0).
    inr (tree_rooted (tree_of s) (granted_of s) ok.tree (omega (arith, some)) (omega (arith, folders)) (omega (arith, files)) ok.granted ok.grants.made))
    (cases_eq s.numbers.folders_made 0)

-- a link for each edge, made up: no record is read of it
abbrev pub made_up : List (Role × ℕ) → Edge → Link
made_up keys e = record { edge = e; from_serial = present keys e.from; to_serial = present keys e.to; nonce = 0 }

abbrev pub made_up_links : PlainState → List Link
made_up_links s = map (made_up (keys_of_rows s)) (edges (state_store s))

marks_no_root : (s : PlainState) → IsSoundState s → (r : Role) → In r (marked_of s) → is_root_role r ≡ false
marks_no_root s ok r i =
    let w = (In-map MarkRow Role role_of_mark r s.marks).0 i in
    let places = ok.marks.places w.0 w.1 in
    ap is_root_role w.2 ∙ no_root w.0.place w.0.id places.0 places.1

-- its keys hold
pub rows_keys_hold : (s : PlainState) → IsSoundState s → KeysHold (state_store s) (key_state_of s) (made_up_links s)
rows_keys_hold s ok = record {
  closed = ok.marks.closed;
  no_root = marks_no_root s ok;
  dirty_stands = ok.marks.stand;
  linked = λ e i. (made_up (keys_of_rows s) e, (In-map Edge Link (made_up (keys_of_rows s)) (made_up (keys_of_rows s) e) (edges (state_store s))).1 (e, i, refl), refl, refl, refl);
  keyed = λ r. (
    λ stands. (has_newest (keys_of_rows s) r).0 ((ok.keys.keyed r).0 stands),
    λ has. (ok.keys.keyed r).1 ((has_newest (keys_of_rows s) r).1 has),
  );
}

-- and its serials
pub rows_serials_hold : (s : PlainState) → IsSoundState s → SerialsHold (key_state_of s)
rows_serials_hold s ok = record {
  own = λ a b n first second.
      (let same : (a, n) ≡ (b, n) = ok.keys.own (a, n) (b, n) (newest_in (keys_of_rows s) a n first) (newest_in (keys_of_rows s) b n second) refl in ap (λ (key : Role × ℕ). key.0) same);
  below = λ r n is. ok.keys.given (r, n) (newest_in (keys_of_rows s) r n is);
}

-- so a state may have these rows
pub rows_kept : (s : PlainState) → IsSoundState s → IsKept (state_store s) (keys_of_rows s) (marked_of s)
rows_kept s ok = record {
  stands = rows_stand s ok;
  links = made_up_links s;
  hold = recounted (state_store s) (key_state_of s) (record { keys = keys_of_rows s; dirty = marked_of s; epoch = 0; count = 0; version = 0 }) (made_up_links s) refl refl (rows_keys_hold s ok);
}

-- rows are told by what they tell
map_back : (X Y : Type 0) (there : X → Y) (back : Y → X) (xs : List X) → ((x : X) → In x xs → back (there x) ≡ x) → xs ≡ map back (map there xs)
map_back X Y there back [] told = refl
map_back X Y there back (x ∷ xs) told =
    ap (λ z. z ∷ xs) (sym (told x (inl refl))) ∙ ap (λ zs. back (there x) ∷ zs) (map_back X Y there back xs (λ z i. told z (inr i)))

key_back : (s : PlainState) → IsSoundState s → (row : KeyRow) → In row s.keys → row ≡ key_row (role_at row.place row.id) row.serial
key_back s ok row i =
    let places = ok.keys.places row i in
    λ k. record { place = sym (variant_at row.place row.id places.0 places.1) k; id = sym (id_at row.place row.id places.0 places.1) k; serial = row.serial }

mark_back : (s : PlainState) → IsSoundState s → (row : MarkRow) → In row s.marks → mark_row (role_of_mark row) ≡ row
mark_back s ok row i =
    let places = ok.marks.places row i in
    let low : 1 ≤ row.place = omega (arith, places.0) in
    λ k. record { place = variant_at row.place row.id low places.1 k; id = id_at row.place row.id low places.1 k }

-- rows whose roles ascend ascend
role_rows : (a b : KeyRow) → (1 ≤ a.place) × (a.place ≤ 7) → (1 ≤ b.place) × (b.place ≤ 7) → IsTrue (role_before (role_at a.place a.id) (role_at b.place b.id)) → IsTrue (row_before a b)
unfolding role_before
role_rows a b p q t =
    let va = variant_at a.place a.id p.0 p.1 in
    let vb = variant_at b.place b.id q.0 q.1 in
    let ia = id_at a.place a.id p.0 p.1 in
    let ib = id_at b.place b.id q.0 q.1 in
    (λ k. nat_lt (sym va k) (sym vb k) || ((sym va k == sym vb k) && nat_lt (sym ia k) (sym ib k))) ∙ t

rows_ascend : (rows : List KeyRow) → ((row : KeyRow) → In row rows → (1 ≤ row.place) × (row.place ≤ 7)) → IsAscending (roles_of (map key_of_row rows)) → AllPairs (λ (a b : KeyRow). IsTrue (row_before a b)) rows
rows_ascend [] places up = λ i j d lt within. absurd (omega arith)
rows_ascend (row ∷ rows) places up =
    AllPairs-cons (λ (a b : KeyRow). IsTrue (row_before a b)) row rows
    (in-All KeyRow (λ b. IsTrue (row_before row b)) rows (λ b i.
    role_rows row b (places row (inl refl)) (places b (inr i))
    (up.0 (role_at b.place b.id) ((In-map (Role × ℕ) Role (λ key. key.0) (role_at b.place b.id) (map key_of_row rows)).1 (key_of_row b, (In-map KeyRow (Role × ℕ) key_of_row (key_of_row b) rows).1 (b, i, refl), refl)))))
    (rows_ascend rows (λ b i. places b (inr i)) up.1)

key_rows : (s : PlainState) → IsSoundState s → AreKeyRows (keys_of_rows s) s.keys
key_rows s ok = record {
  ascend = rows_ascend s.keys ok.keys.places ok.keys.ascend.1;
  each = λ row i.
      (let places = ok.keys.places row i in (
        role_at row.place row.id,
        not_owner row.place row.id places.0 places.1,
        key_back s ok row i,
        in_newest (keys_of_rows s) (role_at row.place row.id) row.serial ok.keys.ascend (inr ((In-map KeyRow (Role × ℕ) key_of_row (key_of_row row) s.keys).1 (row, i, refl))),
      ));
  all = λ r n is. ⊎_elim
      (λ (owners : (r, n) ≡ (Owner, 0)). inl (ap (λ (key : Role × ℕ). key.0) owners))
      (λ later.
      let w = (In-map KeyRow (Role × ℕ) key_of_row (r, n) s.keys).0 later in
      let row : key_row r n ≡ w.0 = ap (λ (key : Role × ℕ). key_row key.0 key.1) w.2 ∙ sym (key_back s ok w.0 w.1) in
      inr (subst (λ z. In z s.keys) (sym row) w.1))
      (newest_in (keys_of_rows s) r n is);
}

-- the state that the rows tell spells them, whatever room it has
abbrev pub view_with : PlainState → ℕ → ℕ → PublicView
view_with s spare key_spare = record (view_of s) { spare = spare; key_spare = key_spare }

pub rows_spell_with : (s : PlainState) (spare key_spare : ℕ) → IsSoundState s → Spells (view_with s spare key_spare) s
rows_spell_with s spare key_spare ok = record {
  numbers = λ k. record s.numbers { holders_made = sym (checks_counted s ok) k };
  folders = map_back FolderRow FolderEntry entry_of_folder folder_row s.folders (λ row i. refl);
  files = map_back FileRow FileEntry entry_of_file file_row s.files (λ row i. refl);
  checks = map_back CheckRow (List ℕ) (λ row. row.0) check_row s.checks (λ row i. refl);
  grants = map_back GrantRow GrantEntry grant_of_row grant_row s.grants (λ row i. refl);
  keys = key_rows s ok;
  marks = map_back MarkRow Role role_of_mark mark_row s.marks (mark_back s ok);
}

pub rows_spell : (s : PlainState) → IsSoundState s → Spells (view_of s) s
rows_spell s ok = rows_spell_with s 0 0 ok

-- a state with what sound rows tell was read from them
pub read_from : (v : PublicView) (s : PlainState) → IsSoundState s → v.tree ≡ tree_of s → v.checks ≡ checks_of s → v.pairs ≡ pairs_of_rows s → v.keys ≡ key_state_of s → IsReadFrom v s
read_from v s ok tree checks pairs keys =
    let path : view_with s v.spare v.key_spare ≡ v =
    λ k. record { tree = sym tree k; checks = sym checks k; pairs = sym pairs k; keys = sym keys k; spare = v.spare; key_spare = v.key_spare } in
    record { sound = ok; spells = subst (λ (w : PublicView). Spells w s) path (rows_spell_with s v.spare v.key_spare ok); tree = tree; checks = checks; pairs = pairs; keys = keys }

-- what a state keeps of sound rows may be kept
pub parts_kept : (s : PlainState) (t : Store) (g : Granted) (keys : List (Role × ℕ)) (dirty : List Role) → IsSoundState s → t ≡ tree_of s → g.checks ≡ checks_of s → g.pairs ≡ pairs_of_rows s
    → keys ≡ keys_of_rows s → dirty ≡ marked_of s → IsKept (seen_store t g) keys dirty
parts_kept s t g keys dirty ok tree checks pairs same marks =
    let store : state_store s ≡ seen_store t g = λ k. seen (sym tree k) (sym checks k) (sym pairs k) in
    subst (λ (d : List Role). IsKept (seen_store t g) keys d) (sym marks)
    (subst (λ (ks : List (Role × ℕ)). IsKept (seen_store t g) ks (marked_of s)) (sym same)
    (subst (λ (z : Store). IsKept z (keys_of_rows s) (marked_of s)) store (rows_kept s ok)))
