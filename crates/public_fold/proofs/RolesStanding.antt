-- The roles that stand: each once, in their order, and no other.
use Rattle.std.proofs.Common.{◌≡◌, ◌≢◌, ℕ, suc, ◌<◌, ◌≤◌, true, false, cond, ◌⊎◌, List, [], ◌∷◌, ◌++◌, map, inl, inr, ⊎_elim, refl, sym, ap, ◌∙◌, subst, arith, append_assoc}
use Rattle.std.specs.List.{flat_map, range_with_len}
use Rattle.std.specs.Prelude.{IsTrue, length}
use Rattle.std.proofs.lemmas.Bool.{or_left, or_right, and_from, eq-eqb, lt-ltb}
use Rattle.cry_base.specs.Clearances.{clear_base, clear_number}
use Rattle.cry_base.specs.Sets.{In}
use Rattle.cry_base.specs.Store.{Store, FileEntry, FolderEntry, GrantEntry, HolderEntry}
use Rattle.cry_base.specs.declared.roles.Role.{Role}
use Rattle.cry_base.specs.declared.roles.Role.TheVariants.{Owner, Holder, Clear, Sub, Back, Files, Data, File}
use Rattle.cry_base.proofs.Members.{In-append, In-map, In-flat_map}
use Rattle.folder_nodes.specs.Bare.{file_of_row, folder_of_row}
use Rattle.folder_nodes.specs.declared.rows.FileRow.{FileRow}
use Rattle.folder_nodes.specs.declared.rows.FolderRow.{FolderRow}
use Rattle.grant_book.specs.Granted.{Granted}
use Rattle.move_plan.specs.Change.{clearance_in}
use Rattle.move_plan.specs.Inner.{clearance_among}
use Rattle.move_plan.specs.Seen.{keyless, seen_store}
use Rattle.role_graph.specs.Ascending.{IsAscending}
use Rattle.role_graph.specs.Edges.{has_grants}
use Rattle.role_graph.specs.RightsByReach.{HasFolder, IsClearance}
use Rattle.role_graph.specs.Roles.{variant_of, role_id, role_before, holder_role, clear_of, sub_of, back_of, files_of, data_of, file_role}
use Rattle.role_graph.proofs.AtRoles.{ByNumber, above, behind}
use Rattle.role_graph.proofs.Rising.{Before}
use Rattle.public_fold.specs.Keyed.{HasRole}
use Rattle.public_fold.specs.StandingRoles.{standing_roles}

-- ---- in their order

pub by_variant : (a b : Role) → variant_of a < variant_of b → Before a b
unfolding role_before
by_variant a b h = or_left _ _ (lt-ltb (variant_of a) (variant_of b) h)

by_number : (a b : Role) → variant_of a ≡ variant_of b → role_id a < role_id b → Before a b
unfolding role_before
by_number a b e h = or_right _ _ (and_from _ _ (eq-eqb (variant_of a) (variant_of b) e) (lt-ltb (role_id a) (role_id b) h))

joined : (xs ys : List Role) → IsAscending xs → IsAscending ys → ((a b : Role) → In a xs → In b ys → Before a b) → IsAscending (xs ++ ys)
joined [] ys p q apart = q
joined (x ∷ xs) ys p q apart = (
  λ b i. ⊎_elim (λ u. p.0 b u) (λ v. apart x b (inl refl) v) ((In-append Role b xs ys).0 i),
  joined xs ys p.1 q (λ a b i j. apart a b (inr i) j),
)

-- roles in their order, none of an earlier variant
record LieFrom (n : ℕ) (rs : List Role) : Type 0 where
  ascend : IsAscending rs
  from : (r : Role) → In r rs → n ≤ variant_of r

-- those of one variant before those of later ones
then_later : (n : ℕ) (xs ys : List Role) → IsAscending xs → ((r : Role) → In r xs → variant_of r ≡ n) → LieFrom (suc n) ys → LieFrom n (xs ++ ys)
then_later n xs ys up at later = record {
  ascend = joined xs ys up later.ascend (λ a b i j. let low : variant_of a ≡ n = at a i in let high : suc n ≤ variant_of b = later.from b j in by_variant a b (omega arith));
  from = λ r i. ⊎_elim
      (λ u. let low : variant_of r ≡ n = at r u in omega arith)
      (λ v. let high : suc n ≤ variant_of r = later.from r v in omega arith)
      ((In-append Role r xs ys).0 i);
}

-- a role for each of some that have numbers
ascending_of : (X : Type 0) (id : X → ℕ) (role : X → Role) (n : ℕ) → ((x : X) → variant_of (role x) ≡ n) → ((x : X) → role_id (role x) ≡ id x) → (xs : List X) → ByNumber X id xs → IsAscending (map role xs)
ascending_of X id role n variant number [] up = tt
ascending_of X id role n variant number (x ∷ xs) up = (
  λ b m.
      let w = (In-map X Role role b xs).0 m in
      let less : id x < id w.0 = above X id x xs up w.0 w.1 in
      subst (Before (role x)) (sym w.2) (by_number (role x) (role w.0) (variant x ∙ sym (variant w.0)) (rw (number x, number w.0) less)),
  ascending_of X id role n variant number xs (behind X id x xs up),
)

variant_in : (X : Type 0) (role : X → Role) (n : ℕ) → ((x : X) → variant_of (role x) ≡ n) → (xs : List X) (r : Role) → In r (map role xs) → variant_of r ≡ n
variant_in X role n variant xs r i = let w = (In-map X Role role r xs).0 i in ap variant_of w.2 ∙ variant w.0

-- ---- the clearances

Cleared : Store → List FileEntry → Role → Type 0
Cleared s xs r = (e : FileEntry) × In e xs × IsTrue (has_grants s (clear_number e.id)) × (r ≡ clear_of (clear_number e.id))

in_clearance : (s : Store) (x : ℕ) (r : Role) → In r (clearance_in s x) → IsTrue (has_grants s (clear_number x)) × (r ≡ clear_of (clear_number x))
unfolding clearance_in
in_clearance s x r =
    (elim (has_grants s (clear_number x)) as (λ b. has_grants s (clear_number x) ≡ b → In r (cond b (clear_of (clear_number x) ∷ []) []) → IsTrue (has_grants s (clear_number x)) × (r ≡ clear_of (clear_number x))) [
      | true ↦ λ t i. (t, ⊎_elim (λ e. e) (λ n. absurd n) i)
      | false ↦ λ t i. absurd i
    ]) refl

clearance_there : (s : Store) (x : ℕ) → IsTrue (has_grants s (clear_number x)) → In (clear_of (clear_number x)) (clearance_in s x)
unfolding clearance_in
clearance_there s x t = subst (λ b. In (clear_of (clear_number x)) (cond b (clear_of (clear_number x) ∷ []) [])) (sym t) (inl refl)

cleared_in : (s : Store) (xs : List FileEntry) (r : Role) → In r (flat_map (λ (e : FileEntry). clearance_in s e.id) xs) → (e : FileEntry) × In e xs × IsTrue (has_grants s (clear_number e.id)) × (r ≡ clear_of (clear_number e.id))
cleared_in s xs r i =
    let w = (In-flat_map FileEntry Role (λ e. clearance_in s e.id) r xs).0 i in
    let told = in_clearance s w.0.id r w.2 in (w.0, w.1, told.0, told.1)

cleared_variant : (s : Store) (xs : List FileEntry) (r : Role) → In r (flat_map (λ (e : FileEntry). clearance_in s e.id) xs) → variant_of r ≡ 2
unfolding clear_of variant_of
cleared_variant s xs r i = let w = cleared_in s xs r i in ap variant_of w.3

cleared_ascend : (s : Store) (xs : List FileEntry) → ByNumber FileEntry (λ e. e.id) xs → IsAscending (flat_map (λ (e : FileEntry). clearance_in s e.id) xs)
unfolding clearance_in clear_of variant_of role_id
cleared_ascend s [] up = tt
cleared_ascend s (x ∷ xs) up =
    let behind_it = cleared_ascend s xs (behind FileEntry (λ e. e.id) x xs up) in
    elim (has_grants s (clear_number x.id)) as (λ b. IsAscending (cond b (clear_of (clear_number x.id) ∷ []) [] ++ flat_map (λ (e : FileEntry). clearance_in s e.id) xs)) [
      | true ↦ (
        λ b m.
            let w = cleared_in s xs b m in
            let less : x.id < w.0.id = above FileEntry (λ e. e.id) x xs up w.0 w.1 in
            let more : clear_number x.id < clear_number w.0.id = omega arith in
            subst (Before (clear_of (clear_number x.id))) (sym w.3) (by_number (clear_of (clear_number x.id)) (clear_of (clear_number w.0.id)) refl more),
        behind_it,
      )
      | false ↦ behind_it
    ]

-- ---- all of them

-- what the order hangs on: numbers ascend, and no folder has a clearance number
pub record StandInOrder (s : Store) : Type 0 where
  pub holders : ByNumber HolderEntry (λ (e : HolderEntry). e.number) s.holders
  pub folders : ByNumber FolderEntry (λ (e : FolderEntry). e.id) s.folders
  pub files : ByNumber FileEntry (λ (e : FileEntry). e.id) s.files
  pub below : (e : FolderEntry) → In e s.folders → e.id < clear_base

of_folders : (s : Store) (role : ℕ → Role) (n : ℕ) (later : List Role) → StandInOrder s → ((f : ℕ) → variant_of (role f) ≡ n) → ((f : ℕ) → role_id (role f) ≡ f) → LieFrom (suc n) later → LieFrom n (map (λ (e : FolderEntry). role e.id) s.folders ++ later)
of_folders s role n later order variant number lie =
    then_later n (map (λ (e : FolderEntry). role e.id) s.folders) later
    (ascending_of FolderEntry (λ e. e.id) (λ e. role e.id) n (λ e. variant e.id) (λ e. number e.id) s.folders order.folders)
    (variant_in FolderEntry (λ e. role e.id) n (λ e. variant e.id) s.folders) lie

all_clears : (s : Store) (later : List Role) → StandInOrder s → LieFrom 3 later → LieFrom 2 (map (λ (e : FolderEntry). clear_of e.id) s.folders ++ (flat_map (λ (e : FileEntry). clearance_in s e.id) s.files ++ later))
unfolding clear_of variant_of role_id
all_clears s later order lie =
    let clears = map (λ (e : FolderEntry). clear_of e.id) s.folders in
    let more = flat_map (λ (e : FileEntry). clearance_in s e.id) s.files in
    let rest = then_later 2 more later (cleared_ascend s s.files order.files) (cleared_variant s s.files) lie in record {
      ascend = joined clears (more ++ later) (ascending_of FolderEntry (λ e. e.id) (λ e. clear_of e.id) 2 (λ e. refl) (λ e. refl) s.folders order.folders) rest.ascend
          (λ a b i j.
          let w = (In-map FolderEntry Role (λ e. clear_of e.id) a s.folders).0 i in
          let low : w.0.id < clear_base = order.below w.0 w.1 in
          subst (λ r. Before r b) (sym w.2) (⊎_elim
          (λ u. let v = cleared_in s s.files b u in
          let number : w.0.id < clear_number v.0.id = omega arith in
          subst (Before (clear_of w.0.id)) (sym v.3) (by_number (clear_of w.0.id) (clear_of (clear_number v.0.id)) refl number))
          (λ u. let high : 3 ≤ variant_of b = lie.from b u in by_variant (clear_of w.0.id) b (omega arith))
          ((In-append Role b more later).0 j)));
      from = λ r i. ⊎_elim
          (λ u. let two : variant_of r ≡ 2 = variant_in FolderEntry (λ e. clear_of e.id) 2 (λ e. refl) s.folders r u in omega arith)
          (λ u. rest.from r u)
          ((In-append Role r clears (more ++ later)).0 i);
    }

all_files : (s : Store) → StandInOrder s → LieFrom 7 (map (λ (e : FileEntry). file_role e.id) s.files)
unfolding file_role variant_of role_id
all_files s order = record {
  ascend = ascending_of FileEntry (λ e. e.id) (λ e. file_role e.id) 7 (λ e. refl) (λ e. refl) s.files order.files;
  from = λ r i. let seven : variant_of r ≡ 7 = variant_in FileEntry (λ e. file_role e.id) 7 (λ e. refl) s.files r i in omega arith;
}

pub standing_ascend : (s : Store) → StandInOrder s → IsAscending (standing_roles s)
unfolding standing_roles holder_role sub_of back_of files_of data_of variant_of role_id
standing_ascend s order =
    let datas = of_folders s data_of 6 _ order (λ f. refl) (λ f. refl) (all_files s order) in
    let files = of_folders s files_of 5 _ order (λ f. refl) (λ f. refl) datas in
    let backs = of_folders s back_of 4 _ order (λ f. refl) (λ f. refl) files in
    let subs = of_folders s sub_of 3 _ order (λ f. refl) (λ f. refl) backs in
    let clears = all_clears s _ order subs in
    (then_later 1 (map (λ (e : HolderEntry). holder_role e.number) s.holders) _
    (ascending_of HolderEntry (λ e. e.number) (λ e. holder_role e.number) 1 (λ e. refl) (λ e. refl) s.holders order.holders)
    (variant_in HolderEntry (λ e. holder_role e.number) 1 (λ e. refl) s.holders) clears).ascend

-- ---- those that stand, and no other

-- in one of the eight lists
data AmongEight (r : Role) (a b c d e f g h : List Role) : Type 0 where
  A : In r a → AmongEight r a b c d e f g h
  B : In r b → AmongEight r a b c d e f g h
  C : In r c → AmongEight r a b c d e f g h
  D : In r d → AmongEight r a b c d e f g h
  E : In r e → AmongEight r a b c d e f g h
  F : In r f → AmongEight r a b c d e f g h
  G : In r g → AmongEight r a b c d e f g h
  H : In r h → AmongEight r a b c d e f g h

to_eight : (r : Role) (a b c d e f g h : List Role) → In r (a ++ (b ++ (c ++ (d ++ (e ++ (f ++ (g ++ h))))))) → AmongEight r a b c d e f g h
to_eight r a b c d e f g h i =
    ⊎_elim (λ u. A u) (λ i. ⊎_elim (λ u. B u) (λ i. ⊎_elim (λ u. C u) (λ i. ⊎_elim (λ u. D u) (λ i. ⊎_elim (λ u. E u) (λ i. ⊎_elim (λ u. F u) (λ i. ⊎_elim (λ u. G u) (λ u. H u)
    ((In-append Role r g h).0 i)) ((In-append Role r f (g ++ h)).0 i)) ((In-append Role r e (f ++ (g ++ h))).0 i)) ((In-append Role r d (e ++ (f ++ (g ++ h)))).0 i))
    ((In-append Role r c (d ++ (e ++ (f ++ (g ++ h))))).0 i)) ((In-append Role r b (c ++ (d ++ (e ++ (f ++ (g ++ h)))))).0 i))
    ((In-append Role r a (b ++ (c ++ (d ++ (e ++ (f ++ (g ++ h))))))).0 i)

of_eight : (r : Role) (a b c d e f g h : List Role) → AmongEight r a b c d e f g h → In r (a ++ (b ++ (c ++ (d ++ (e ++ (f ++ (g ++ h)))))))
of_eight r a b c d e f g h (A u) = (In-append Role r a _).1 (inl u)
of_eight r a b c d e f g h (B u) = (In-append Role r a _).1 (inr ((In-append Role r b _).1 (inl u)))
of_eight r a b c d e f g h (C u) = (In-append Role r a _).1 (inr ((In-append Role r b _).1 (inr ((In-append Role r c _).1 (inl u)))))
of_eight r a b c d e f g h (D u) = (In-append Role r a _).1 (inr ((In-append Role r b _).1 (inr ((In-append Role r c _).1 (inr ((In-append Role r d _).1 (inl u)))))))
of_eight r a b c d e f g h (E u) = (In-append Role r a _).1 (inr ((In-append Role r b _).1 (inr ((In-append Role r c _).1 (inr ((In-append Role r d _).1 (inr ((In-append Role r e _).1 (inl u)))))))))
of_eight r a b c d e f g h (F u) = (In-append Role r a _).1 (inr ((In-append Role r b _).1 (inr ((In-append Role r c _).1 (inr ((In-append Role r d _).1 (inr ((In-append Role r e _).1 (inr ((In-append Role r f _).1 (inl u)))))))))))
of_eight r a b c d e f g h (G u) = (In-append Role r a _).1 (inr ((In-append Role r b _).1 (inr ((In-append Role r c _).1 (inr ((In-append Role r d _).1 (inr ((In-append Role r e _).1 (inr ((In-append Role r f _).1 (inr ((In-append Role r g h).1 (inl u)))))))))))))
of_eight r a b c d e f g h (H u) = (In-append Role r a _).1 (inr ((In-append Role r b _).1 (inr ((In-append Role r c _).1 (inr ((In-append Role r d _).1 (inr ((In-append Role r e _).1 (inr ((In-append Role r f _).1 (inr ((In-append Role r g h).1 (inr u)))))))))))))

abbrev Eight : Store → Role → Type 0
Eight s r = AmongEight r
    (map (λ (e : HolderEntry). holder_role e.number) s.holders)
    (map (λ (e : FolderEntry). clear_of e.id) s.folders)
    (flat_map (λ (e : FileEntry). clearance_in s e.id) s.files)
    (map (λ (e : FolderEntry). sub_of e.id) s.folders)
    (map (λ (e : FolderEntry). back_of e.id) s.folders)
    (map (λ (e : FolderEntry). files_of e.id) s.folders)
    (map (λ (e : FolderEntry). data_of e.id) s.folders)
    (map (λ (e : FileEntry). file_role e.id) s.files)

-- one of a folder, told by the number
one_of_folders : (s : Store) (role : ℕ → Role) (P : Role → Type 0) → ((f : ℕ) → HasFolder s f → P (role f)) → (r : Role) → In r (map (λ (e : FolderEntry). role e.id) s.folders) → P r
one_of_folders s role P from r i =
    let w = (In-map FolderEntry Role (λ e. role e.id) r s.folders).0 i in subst P (sym w.2) (from w.0.id (w.0, w.1, refl))

-- it stands, and isn't the owner's
abbrev Stands : Store → Role → Type 0
Stands s r = HasRole s r × (r ≢ Owner)

stands_of : (s : Store) (r : Role) → Eight s r → Stands s r
unfolding holder_role clear_of sub_of back_of files_of data_of file_role
stands_of s r (A i) = let w = (In-map HolderEntry Role (λ e. holder_role e.number) r s.holders).0 i in subst (Stands s) (sym w.2) ((w.0, w.1, refl), λ e. cc)
stands_of s r (B i) = one_of_folders s clear_of (Stands s) (λ f w. (inl w, λ e. cc)) r i
stands_of s r (C i) = let w = cleared_in s s.files r i in subst (Stands s) (sym w.3) (inr ((w.0, w.1, refl), w.2), λ e. cc)
stands_of s r (D i) = one_of_folders s sub_of (Stands s) (λ f w. (w, λ e. cc)) r i
stands_of s r (E i) = one_of_folders s back_of (Stands s) (λ f w. (w, λ e. cc)) r i
stands_of s r (F i) = one_of_folders s files_of (Stands s) (λ f w. (w, λ e. cc)) r i
stands_of s r (G i) = one_of_folders s data_of (Stands s) (λ f w. (w, λ e. cc)) r i
stands_of s r (H i) = let w = (In-map FileEntry Role (λ e. file_role e.id) r s.files).0 i in subst (Stands s) (sym w.2) ((w.0, w.1, refl), λ e. cc)

there_with : (s : Store) (role : ℕ → Role) (f : ℕ) → HasFolder s f → In (role f) (map (λ (e : FolderEntry). role e.id) s.folders)
there_with s role f w = (In-map FolderEntry Role (λ e. role e.id) (role f) s.folders).1 (w.0, w.1, ap role (sym w.2))

clear_there : (s : Store) (c : ℕ) → HasFolder s c ⊎ IsClearance s c → Eight s (clear_of c)
clear_there s c (inl w) = B (there_with s clear_of c w)
clear_there s c (inr w) =
    let e : clear_number w.0.0.id ≡ c = w.0.2 in
    let granted : IsTrue (has_grants s (clear_number w.0.0.id)) = subst (λ n. IsTrue (has_grants s n)) (sym e) w.1 in
    C (subst (λ n. In (clear_of n) (flat_map (λ (e : FileEntry). clearance_in s e.id) s.files)) e
    ((In-flat_map FileEntry Role (λ e. clearance_in s e.id) (clear_of (clear_number w.0.0.id)) s.files).1 (w.0.0, w.0.1, clearance_there s w.0.0.id granted)))

eight_of : (s : Store) (r : Role) → HasRole s r → (r ≡ Owner) ⊎ Eight s r
unfolding holder_role clear_of sub_of back_of files_of data_of file_role
eight_of s Owner w = inl refl
eight_of s (Holder h) w = inr (A ((In-map HolderEntry Role (λ e. holder_role e.number) (Holder h) s.holders).1 (w.0, w.1, ap holder_role (sym w.2))))
eight_of s (Clear f) w = inr (clear_there s f.0 w)
eight_of s (Sub f) w = inr (D (there_with s sub_of f.0 w))
eight_of s (Back f) w = inr (E (there_with s back_of f.0 w))
eight_of s (Files f) w = inr (F (there_with s files_of f.0 w))
eight_of s (Data f) w = inr (G (there_with s data_of f.0 w))
eight_of s (File x) w = inr (H ((In-map FileEntry Role (λ e. file_role e.id) (File x) s.files).1 (w.0, w.1, ap file_role (sym w.2))))

pub standing_stands : (s : Store) (r : Role) → In r (standing_roles s) → HasRole s r × (r ≢ Owner)
unfolding standing_roles
standing_stands s r i = stands_of s r (to_eight r _ _ _ _ _ _ _ _ i)

pub stands_standing : (s : Store) (r : Role) → HasRole s r → (r ≡ Owner) ⊎ In r (standing_roles s)
unfolding standing_roles
stands_standing s r w = ⊎_elim (λ e. inl e) (λ a. inr (of_eight r _ _ _ _ _ _ _ _ a)) (eight_of s r w)

-- ---- as the rows of a shape and of grants come

of_rows : (role : ℕ → Role) (rows : List FolderRow) → map (λ r. role r.id.0) rows ≡ map (λ (e : FolderEntry). role e.id) (map folder_of_row rows)
of_rows role [] = refl
of_rows role (r ∷ rows) = ap (λ l. role r.id.0 ∷ l) (of_rows role rows)

in_rows : (t : Store) (role : ℕ → Role) (rows : List FolderRow) → map folder_of_row rows ≡ t.folders → map (λ r. role r.id.0) rows ≡ map (λ (e : FolderEntry). role e.id) t.folders
in_rows t role rows e = of_rows role rows ∙ ap (map (λ (e : FolderEntry). role e.id)) e

of_files : (rows : List FileRow) → map (λ r. file_role r.id.0) rows ≡ map (λ (e : FileEntry). file_role e.id) (map file_of_row rows)
of_files [] = refl
of_files (r ∷ rows) = ap (λ l. file_role r.id.0 ∷ l) (of_files rows)

clear_rows : (pairs : List GrantEntry) (rows : List FileRow)
    → flat_map (λ r. clearance_among pairs r.id.0) rows ≡ flat_map (λ (e : FileEntry). clearance_among pairs e.id) (map file_of_row rows)
clear_rows pairs [] = refl
clear_rows pairs (r ∷ rows) = ap (λ l. clearance_among pairs r.id.0 ++ l) (clear_rows pairs rows)

of_holders : (ns : List ℕ) → map holder_role ns ≡ map (λ (e : HolderEntry). holder_role e.number) (map keyless ns)
of_holders [] = refl
of_holders (n ∷ ns) = ap (λ l. holder_role n ∷ l) (of_holders ns)

seven_behind : (a b c d e f g h : List Role) → ((((((a ++ b) ++ c) ++ d) ++ e) ++ f) ++ g) ++ h ≡ a ++ (b ++ (c ++ (d ++ (e ++ (f ++ (g ++ h))))))
seven_behind a b c d e f g h = simp append_assoc

pub listed_in_order : (t : Store) (g : Granted) (holders : ℕ) (v w x y z : List FolderRow) (fs gs : List FileRow) (none one two three four five six seven eight : List Role)
    → holders ≡ length g.checks → none ≡ []
    → map folder_of_row v ≡ t.folders → map folder_of_row w ≡ t.folders → map folder_of_row x ≡ t.folders → map folder_of_row y ≡ t.folders → map folder_of_row z ≡ t.folders
    → map file_of_row fs ≡ t.files → map file_of_row gs ≡ t.files
    → one ≡ none ++ map holder_role (range_with_len 1 holders)
    → two ≡ one ++ map (λ r. clear_of r.id.0) v
    → three ≡ two ++ flat_map (λ r. clearance_among g.pairs r.id.0) fs
    → four ≡ three ++ map (λ r. sub_of r.id.0) w
    → five ≡ four ++ map (λ r. back_of r.id.0) x
    → six ≡ five ++ map (λ r. files_of r.id.0) y
    → seven ≡ six ++ map (λ r. data_of r.id.0) z
    → eight ≡ seven ++ map (λ r. file_role r.id.0) gs
    → eight ≡ standing_roles (seen_store t g)
unfolding standing_roles clearance_in has_grants
listed_in_order t g holders v w x y z fs gs none one two three four five six seven eight count empty ev ew ex ey ez ef eg a b c d e f h k =
    let s = seen_store t g in
    let held = map (λ (e : HolderEntry). holder_role e.number) s.holders in
    let clears = map (λ (e : FolderEntry). clear_of e.id) t.folders in
    let more = flat_map (λ (e : FileEntry). clearance_among g.pairs e.id) t.files in
    let subs = map (λ (e : FolderEntry). sub_of e.id) t.folders in
    let backs = map (λ (e : FolderEntry). back_of e.id) t.folders in
    let inner = map (λ (e : FolderEntry). files_of e.id) t.folders in
    let named = map (λ (e : FolderEntry). data_of e.id) t.folders in
    let sealed = map (λ (e : FileEntry). file_role e.id) t.files in
    let first : one ≡ held = a ∙ (λ i. empty i ++ map holder_role (range_with_len 1 (count i))) ∙ of_holders (range_with_len 1 (length g.checks)) in
    let second : two ≡ held ++ clears = b ∙ (λ i. first i ++ in_rows t clear_of v ev i) in
    let read : flat_map (λ r. clearance_among g.pairs r.id.0) fs ≡ more = clear_rows g.pairs fs ∙ ap (flat_map (λ (e : FileEntry). clearance_among g.pairs e.id)) ef in
    let third : three ≡ (held ++ clears) ++ more = c ∙ (λ i. second i ++ read i) in
    let fourth : four ≡ ((held ++ clears) ++ more) ++ subs = d ∙ (λ i. third i ++ in_rows t sub_of w ew i) in
    let fifth : five ≡ (((held ++ clears) ++ more) ++ subs) ++ backs = e ∙ (λ i. fourth i ++ in_rows t back_of x ex i) in
    let sixth : six ≡ ((((held ++ clears) ++ more) ++ subs) ++ backs) ++ inner = f ∙ (λ i. fifth i ++ in_rows t files_of y ey i) in
    let seventh : seven ≡ (((((held ++ clears) ++ more) ++ subs) ++ backs) ++ inner) ++ named = h ∙ (λ i. sixth i ++ in_rows t data_of z ez i) in
    let last : map (λ r. file_role r.id.0) gs ≡ sealed = of_files gs ∙ ap (map (λ (e : FileEntry). file_role e.id)) eg in
    k ∙ (λ i. seventh i ++ last i) ∙ seven_behind held clears more subs backs inner named sealed
