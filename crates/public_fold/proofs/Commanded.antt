-- An accepted command does what its note does, but for names, bytes and keys.
use Rattle.std.proofs.Common.{◌≡◌, ℕ, ◌+◌, Bool, true, false, cond, ◌==◌, ◌||◌, ◌↔◌, List, [], ◌∷◌, ◌++◌, map, Option, Some, None, inl, inr, ⊎_elim, refl, sym, ap, ◌∙◌, subst}
use Rattle.std.specs.Prelude.{is_none}
use Rattle.std.proofs.lemmas.Bool.{or_parts, false≢true}
use Rattle.std.proofs.lemmas.List.{map-append}
use Rattle.cry_base.specs.Clearances.{clear_number}
use Rattle.cry_base.specs.Naming.{parent_path, names_of, last_name}
use Rattle.cry_base.specs.Sets.{In}
use Rattle.cry_base.specs.Requests.{Request, paths_of}
use Rattle.cry_base.specs.Requests.Request.{AddHolder, MakeFolder, WriteFile, Remove, Rename, Relocate, Grant, Revoke}
use Rattle.cry_base.specs.Store.{Store, FolderEntry, FileEntry, HolderEntry, node_at}
use Rattle.cry_base.specs.Refusing.{id_of, is_folder, finds_no_path, writes_folder}
use Rattle.cry_base.specs.Stepping.{with_new_holder, with_new_folder, with_new_file, with_folder, with_file, with_bytes_at, without_node, with_name, moved, effect}
use Rattle.cry_base.specs.declared.roles.Edge.{Edge}
use Rattle.cry_base.specs.declared.roles.Node.{Node}
use Rattle.cry_base.specs.declared.roles.Node.TheVariants as node
use Rattle.cry_base.specs.declared.roles.Role.{Role}
use Rattle.cry_base.specs.declared.roles.Role.TheVariants.{Owner, Holder, Clear, Sub, Back, Files, Data, File}
use Rattle.cry_base.proofs.Members.{In-map}
use Rattle.role_graph.specs.Edges.{IsEdge, edges, has_grants}
use Rattle.role_graph.specs.RightsByReach.{HasClearNumber, HasFolder, IsClearance, MayBeGranted}
use Rattle.role_graph.proofs.Edging.{edges_told}
use Rattle.move_plan.specs.Fitting.{public_of}
use Rattle.move_plan.specs.Noting.{write_note, remove_note, rename_note, move_note, note_of}
use Rattle.move_plan.proofs.Public.{edges_public}
use Rattle.public_fold.specs.Keyed.{HasRole}
use Rattle.public_fold.specs.Told.{told_store}
use Rattle.public_fold.proofs.Accepting.{IsAccepted}
use Rattle.public_fold.proofs.RolesAfter.{HasFile, HasHolder}

-- two stores of which everyone may see the same
abbrev pub AreAlike : Store → Store → Type 0
AreAlike s t = public_of s ≡ public_of t

last_alike : (X : Type 0) (f : X → X) (xs : List X) (a b : X) → f a ≡ f b → map f (xs ++ a ∷ []) ≡ map f (xs ++ b ∷ [])
last_alike X f xs a b same = map-append f xs (a ∷ []) ∙ ap (λ x. map f xs ++ x ∷ []) same ∙ sym (map-append f xs (b ∷ []))

changed_alike : (X : Type 0) (f : X → X) (test : X → Bool) (change : X → X) (xs : List X) → ((x : X) → f (change x) ≡ f x) → map f (map (λ x. cond (test x) (change x) x) xs) ≡ map f xs
changed_alike X f test change [] same = refl
changed_alike X f test change (x ∷ xs) same = λ i. one (test x) i ∷ changed_alike X f test change xs same i
  where
    one : (b : Bool) → f (cond b (change x) x) ≡ f x
    one true = same x
    one false = refl

written_alike : (s : Store) (path bytes : List ℕ) (o : Option Node) → is_folder o ≡ false → AreAlike (with_bytes_at s o path bytes) (told_store s (write_note s o (id_of (node_at s (parent_path path)))))
unfolding with_bytes_at with_new_file with_file write_note told_store is_folder public_of
written_alike s path bytes None t =
    let q = id_of (node_at s (parent_path path)) in
    λ i. record (public_of s) {
      files = last_alike FileEntry (λ e. record e { name = []; bytes = [] }) s.files (record { id = s.files_made + 1; folder = q; name = last_name (names_of path); bytes = bytes }) (record { id = s.files_made + 1; folder = q; name = []; bytes = [] }) refl i;
      files_made = s.files_made + 1;
    }
written_alike s path bytes (Some (node.Folder f)) t = absurd (false≢true (sym t))
written_alike s path bytes (Some (node.File x)) t = λ i. record (public_of s) {
  files = changed_alike FileEntry (λ e. record e { name = []; bytes = [] }) (λ e. e.id == x.0) (λ e. record e { bytes = bytes }) s.files (λ e. refl) i;
}

removed_alike : (s : Store) (o : Option Node) → is_none o ≡ false → AreAlike (without_node s o) (told_store s (remove_note o))
unfolding without_node remove_note told_store
removed_alike s None t = absurd (false≢true (sym t))
removed_alike s (Some (node.Folder f)) t = refl
removed_alike s (Some (node.File x)) t = refl

renamed_alike : (s : Store) (name : List ℕ) (o : Option Node) → is_none o ≡ false → AreAlike (with_name s o name) (told_store s (rename_note o))
unfolding with_name with_folder with_file rename_note told_store public_of
renamed_alike s name None t = absurd (false≢true (sym t))
renamed_alike s name (Some (node.Folder f)) t = λ i. record (public_of s) {
  folders = changed_alike FolderEntry (λ e. record e { name = [] }) (λ e. e.id == f.0) (λ e. record e { name = name }) s.folders (λ e. refl) i;
}
renamed_alike s name (Some (node.File x)) t = λ i. record (public_of s) {
  files = changed_alike FileEntry (λ e. record e { name = []; bytes = [] }) (λ e. e.id == x.0) (λ e. record e { name = name }) s.files (λ e. refl) i;
}

moved_alike : (s : Store) (o : Option Node) (q : ℕ) → is_none o ≡ false → AreAlike (moved s o q) (told_store s (move_note o q))
unfolding moved move_note told_store
moved_alike s None q t = absurd (false≢true (sym t))
moved_alike s (Some (node.Folder f)) q t = refl
moved_alike s (Some (node.File x)) q t = refl

pub effect_alike : (s : Store) (r : Request) (key check : List ℕ) → IsAccepted s r → AreAlike (effect s r key) (told_store s (note_of s r check))
unfolding effect with_new_holder with_new_folder note_of told_store finds_no_path writes_folder paths_of public_of
effect_alike s AddHolder key check a = λ i. record (public_of s) {
  holders = last_alike HolderEntry (λ e. record e { key = [] }) s.holders (record { number = s.holders_made + 1; key = key }) (record { number = s.holders_made + 1; key = [] }) refl i;
  holders_made = s.holders_made + 1;
}
effect_alike s (MakeFolder path) key check a =
    let q = id_of (node_at s (parent_path path)) in
    λ i. record (public_of s) {
      folders = last_alike FolderEntry (λ e. record e { name = [] }) s.folders (record { id = s.folders_made + 1; parent = q; name = last_name (names_of path) }) (record { id = s.folders_made + 1; parent = q; name = [] }) refl i;
      folders_made = s.folders_made + 1;
    }
effect_alike s (WriteFile path bytes) key check a = unfold public_of in written_alike s path bytes (node_at s path) a.writes_file
effect_alike s (Remove path) key check a = unfold public_of in removed_alike s (node_at s path) (or_parts (is_none (node_at s path)) false a.finds_path).0
effect_alike s (Rename path name) key check a = unfold public_of in renamed_alike s name (node_at s path) (or_parts (is_none (node_at s path)) false a.finds_path).0
effect_alike s (Relocate path into) key check a = unfold public_of in moved_alike s (node_at s path) (id_of (node_at s into)) (or_parts (is_none (node_at s path)) (is_none (node_at s into) || false) a.finds_path).0
effect_alike s (Grant holder path) key check a = refl
effect_alike s (Revoke holder path) key check a = refl

-- ---- what hangs on no name, no bytes and no key

pub edge_alike : (s t : Store) (e : Edge) → AreAlike s t → IsEdge s e → IsEdge t e
edge_alike s t e same w =
    let es : edges s ≡ edges t = sym (edges_public s) ∙ ap edges same ∙ edges_public t in
    (edges_told t e).0 (subst (In e) es ((edges_told s e).1 w))

module _ (s : Store) where
  folder_public : (f : ℕ) → HasFolder s f ↔ HasFolder (public_of s) f
  unfolding public_of
  folder_public f = (
    λ w. (record w.0 { name = [] }, (In-map FolderEntry FolderEntry (λ e. record e { name = [] }) (record w.0 { name = [] }) s.folders).1 (w.0, w.1, refl), w.2),
    λ w. let u = (In-map FolderEntry FolderEntry (λ e. record e { name = [] }) w.0 s.folders).0 w.1 in (u.0, u.1, sym (ap (λ (z : FolderEntry). z.id) u.2) ∙ w.2),
  )

  file_public : (x : ℕ) → HasFile s x ↔ HasFile (public_of s) x
  unfolding public_of
  file_public x = (
    λ w. (record w.0 { name = []; bytes = [] }, (In-map FileEntry FileEntry (λ e. record e { name = []; bytes = [] }) (record w.0 { name = []; bytes = [] }) s.files).1 (w.0, w.1, refl), w.2),
    λ w. let u = (In-map FileEntry FileEntry (λ e. record e { name = []; bytes = [] }) w.0 s.files).0 w.1 in (u.0, u.1, sym (ap (λ (z : FileEntry). z.id) u.2) ∙ w.2),
  )

  holder_public : (h : ℕ) → HasHolder s h ↔ HasHolder (public_of s) h
  unfolding public_of
  holder_public h = (
    λ w. (record w.0 { key = [] }, (In-map HolderEntry HolderEntry (λ e. record e { key = [] }) (record w.0 { key = [] }) s.holders).1 (w.0, w.1, refl), w.2),
    λ w. let u = (In-map HolderEntry HolderEntry (λ e. record e { key = [] }) w.0 s.holders).0 w.1 in (u.0, u.1, sym (ap (λ (z : HolderEntry). z.number) u.2) ∙ w.2),
  )

  number_public : (c : ℕ) → HasClearNumber s c ↔ HasClearNumber (public_of s) c
  number_public c = (
    λ w. let u = (file_public w.0.id).0 (w.0, w.1, refl) in (u.0, u.1, ap (λ n. clear_number n) u.2 ∙ w.2),
    λ w. let u = (file_public w.0.id).1 (w.0, w.1, refl) in (u.0, u.1, ap (λ n. clear_number n) u.2 ∙ w.2),
  )

  granted_public : (n : ℕ) → MayBeGranted s n ↔ MayBeGranted (public_of s) n
  granted_public n = (
    λ w. ⊎_elim (λ u. inl ((folder_public n).0 u)) (λ u. inr ((number_public n).0 u)) w,
    λ w. ⊎_elim (λ u. inl ((folder_public n).1 u)) (λ u. inr ((number_public n).1 u)) w,
  )

  has_public : (c : ℕ) → has_grants (public_of s) c ≡ has_grants s c
  unfolding has_grants public_of
  has_public c = refl

  clear_public : (c : ℕ) → IsClearance s c ↔ IsClearance (public_of s) c
  clear_public c = (
    λ w. ((number_public c).0 w.0, has_public c ∙ w.1),
    λ w. ((number_public c).1 w.0, sym (has_public c) ∙ w.1),
  )

  role_public : (r : Role) → HasRole s r ↔ HasRole (public_of s) r
  role_public Owner = (λ h. h, λ h. h)
  role_public (Holder k) = holder_public k.0
  role_public (Clear f) = (
    λ h. ⊎_elim (λ u. inl ((folder_public f.0).0 u)) (λ u. inr ((clear_public f.0).0 u)) h,
    λ h. ⊎_elim (λ u. inl ((folder_public f.0).1 u)) (λ u. inr ((clear_public f.0).1 u)) h,
  )
  role_public (Sub f) = folder_public f.0
  role_public (Back f) = folder_public f.0
  role_public (Files f) = folder_public f.0
  role_public (Data f) = folder_public f.0
  role_public (File x) = file_public x.0

pub role_alike : (s t : Store) (r : Role) → AreAlike s t → HasRole s r → HasRole t r
role_alike s t r same h = (role_public t r).1 (subst (λ z. HasRole z r) same ((role_public s r).0 h))

pub holder_alike : (s t : Store) (h : ℕ) → AreAlike s t → HasHolder s h → HasHolder t h
holder_alike s t h same w = (holder_public t h).1 (subst (λ z. HasHolder z h) same ((holder_public s h).0 w))

pub granted_alike : (s t : Store) (n : ℕ) → AreAlike s t → MayBeGranted s n → MayBeGranted t n
granted_alike s t n same w = (granted_public t n).1 (subst (λ z. MayBeGranted z n) same ((granted_public s n).0 w))
