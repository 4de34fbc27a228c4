-- Two nodes with one path are one.
use Rattle.std.proofs.Common.{◌≡◌, ℕ, zero, suc, Bool, true, false, ◌==◌, List, [], ◌∷◌, ◌++◌, map, drop, Option, Some, None, inl, inr, ⊎_elim, refl, sym, ap, ◌∙◌, subst, append_assoc, append-nil, length}
use Rattle.std.specs.List.{find, list_all}
use Rattle.std.proofs.lemmas.Bool.{eqb-true, and_parts, and_from}
use Rattle.cry_base.specs.Naming.{is_name, front, spell_path, names_of}
use Rattle.cry_base.specs.Sets.{In}
use Rattle.cry_base.specs.Store.{Store, FolderEntry, FileEntry, and_above, way_up, way_to_root, backwards, folder_names, file_names}
use Rattle.cry_base.proofs.Finding.{find-found}
use Rattle.cry_base.proofs.Paths.{names_told}
use Rattle.role_graph.specs.Rights.{Who, allowed_to}
use Rattle.log_visits.specs.OwnPaths.{IsWhole, HasOwnNames}
use Rattle.log_visits.specs.View.Line.{AncestorLine, FolderLine}
use Rattle.log_visits.specs.View.{Line, line_path, folder_line, file_line, view}
use Rattle.log_visits.proofs.Viewing.{view_told}

-- the names of a way, without the last folder's
abbrev names_up : List FolderEntry → List (List ℕ)
names_up w = map (λ (e : FolderEntry). e.name) (front w)

-- two folders, each with its way further up
two_ways : (s : Store) → HasOwnNames s → (a b : FolderEntry) → In a s.folders → In b s.folders → (xs ys : List FolderEntry) → (IsWhole xs → IsWhole ys → names_up xs ≡ names_up ys → a.parent ≡ b.parent) → IsWhole (a ∷ xs) → IsWhole (b ∷ ys) → names_up (a ∷ xs) ≡ names_up (b ∷ ys) → a.id ≡ b.id
unfolding front
two_ways s ok a b i j [] [] up wa wb e = ok.one_root a i wa ∙ sym (ok.one_root b j wb)
two_ways s ok a b i j [] (y ∷ ys) up wa wb e = absurd cc
two_ways s ok a b i j (x ∷ xs) [] up wa wb e = absurd cc
two_ways s ok a b i j (x ∷ xs) (y ∷ ys) up wa wb e =
    let name : a.name ≡ b.name = cc in
    let rest : names_up (x ∷ xs) ≡ names_up (y ∷ ys) = cc in
    ok.two_folders a b i j (up wa.1 wb.1 rest) name

-- the folder that a way begins with
begun : (s : Store) (f : ℕ) (o : Option FolderEntry) → find (λ e. e.id == f) s.folders ≡ o → (above : FolderEntry → List FolderEntry) → IsWhole (and_above o above) → (a : FolderEntry) × (o ≡ Some a) × In a s.folders × (a.id ≡ f)
unfolding and_above
begun s f None e above w = absurd w
begun s f (Some a) e above w = let told = find-found FolderEntry (λ e. e.id == f) s.folders a e in (a, refl, told.0, eqb-true a.id f told.1)

-- ways of one spelling lead up from one folder
one_way : (s : Store) → HasOwnNames s → (n m f g : ℕ) → IsWhole (way_up n s.folders f) → IsWhole (way_up m s.folders g) → names_up (way_up n s.folders f) ≡ names_up (way_up m s.folders g) → f ≡ g
unfolding way_up and_above
one_way s ok zero m f g wf wg e = absurd wf
one_way s ok (suc n) zero f g wf wg e = absurd wg
one_way s ok (suc n) (suc m) f g wf wg e =
    let up : FolderEntry → List FolderEntry = λ x. way_up n s.folders x.parent in
    let on : FolderEntry → List FolderEntry = λ x. way_up m s.folders x.parent in
    let a = begun s f (find (λ e. e.id == f) s.folders) refl up wf in
    let b = begun s g (find (λ e. e.id == g) s.folders) refl on wg in
    sym a.3 ∙ two_ways s ok a.0 b.0 a.2 b.2 (way_up n s.folders a.0.parent) (way_up m s.folders b.0.parent) (one_way s ok n m a.0.parent b.0.parent)
    (subst (λ o. IsWhole (and_above o up)) a.1 wf) (subst (λ o. IsWhole (and_above o on)) b.1 wg)
    (sym (ap (λ o. names_up (and_above o up)) a.1) ∙ e ∙ ap (λ o. names_up (and_above o on)) b.1) ∙ b.3

-- backwards twice is forwards
backwards-append : (X : Type 0) (xs ys : List X) → backwards (xs ++ ys) ≡ backwards ys ++ backwards xs
unfolding backwards
backwards-append X [] ys = sym (append-nil (backwards ys))
backwards-append X (x ∷ xs) ys = ap (λ l. l ++ x ∷ []) (backwards-append X xs ys) ∙ append_assoc (backwards ys) (backwards xs) (x ∷ [])

backwards-twice : (X : Type 0) (xs : List X) → backwards (backwards xs) ≡ xs
unfolding backwards
backwards-twice X [] = refl
backwards-twice X (x ∷ xs) = backwards-append X (backwards xs) (x ∷ []) ∙ ap (λ l. x ∷ l) (backwards-twice X xs)

-- the last of a list comes first in it backwards
backwards-some : (X : Type 0) (y : X) (ys : List X) → (h : X) × (t : List X) × (backwards (y ∷ ys) ≡ h ∷ t)
unfolding backwards
backwards-some X y [] = (y, [], refl)
backwards-some X y (z ∷ zs) = let told = backwards-some X z zs in (told.0, told.1 ++ y ∷ [], ap (λ l. l ++ y ∷ []) told.2)

drop-one : (X : Type 0) (l m : List X) (h : X) (t : List X) → l ≡ h ∷ t → drop 1 (l ++ m) ≡ drop 1 l ++ m
drop-one X l m h t e = ap (λ z. drop 1 (z ++ m)) e ∙ sym (ap (λ z. drop 1 z ++ m) e)

drop-backwards : (X : Type 0) (l : List X) → drop 1 (backwards l) ≡ backwards (front l)
unfolding backwards front
drop-backwards X [] = refl
drop-backwards X (x ∷ []) = refl
drop-backwards X (x ∷ y ∷ ys) =
    let told = backwards-some X y ys in
    drop-one X (backwards (y ∷ ys)) (x ∷ []) told.0 told.1 told.2 ∙ ap (λ l. l ++ x ∷ []) (drop-backwards X (y ∷ ys))

front-map : (X Y : Type 0) (f : X → Y) (xs : List X) → front (map f xs) ≡ map f (front xs)
unfolding front
front-map X Y f [] = refl
front-map X Y f (x ∷ []) = refl
front-map X Y f (x ∷ y ∷ ys) = ap (λ l. f x ∷ l) (front-map X Y f (y ∷ ys))

folder_names-way : (s : Store) (f : ℕ) → folder_names s f ≡ backwards (names_up (way_to_root s f))
unfolding folder_names
folder_names-way s f =
    drop-backwards (List ℕ) (map (λ (e : FolderEntry). e.name) (way_to_root s f)) ∙ ap backwards (front-map FolderEntry (List ℕ) (λ e. e.name) (way_to_root s f))

ways_from_names : (s : Store) (f g : ℕ) → folder_names s f ≡ folder_names s g → names_up (way_to_root s f) ≡ names_up (way_to_root s g)
ways_from_names s f g e =
    sym (backwards-twice (List ℕ) (names_up (way_to_root s f))) ∙ ap backwards (sym (folder_names-way s f) ∙ e ∙ folder_names-way s g) ∙ backwards-twice (List ℕ) (names_up (way_to_root s g))

-- two folders with the same names down to them are one
same_folder : (s : Store) → HasOwnNames s → (f g : ℕ) → IsWhole (way_to_root s f) → IsWhole (way_to_root s g) → folder_names s f ≡ folder_names s g → f ≡ g
unfolding way_to_root
same_folder s ok f g wf wg e = one_way s ok (length s.folders) (length s.folders) f g wf wg (ways_from_names s f g e)

-- what a way goes through stands
through : (fs : List FolderEntry) (f : ℕ) (e : FolderEntry) (above : FolderEntry → List FolderEntry) → ((a : FolderEntry) → In e (above a) → In e fs) → (o : Option FolderEntry) → find (λ x. x.id == f) fs ≡ o → In e (and_above o above) → In e fs
unfolding and_above
through fs f e above deeper None q j = absurd j
through fs f e above deeper (Some a) q j = ⊎_elim (λ (z : e ≡ a). subst (λ x. In x fs) (sym z) (find-found FolderEntry (λ x. x.id == f) fs a q).0) (deeper a) j

way_stands : (n : ℕ) (fs : List FolderEntry) (f : ℕ) (e : FolderEntry) → In e (way_up n fs f) → In e fs
unfolding way_up
way_stands zero fs f e i = absurd i
way_stands (suc n) fs f e i = through fs f e (λ x. way_up n fs x.parent) (λ a j. way_stands n fs a.parent e j) (find (λ x. x.id == f) fs) refl i

all-append : (X : Type 0) (p : X → Bool) (xs ys : List X) → list_all p xs ≡ true → list_all p ys ≡ true → list_all p (xs ++ ys) ≡ true
all-append X p [] ys a b = b
all-append X p (x ∷ xs) ys a b =
    let both = and_parts (p x) (list_all p xs) a in and_from (p x) (list_all p (xs ++ ys)) both.0 (all-append X p xs ys both.1 b)

all-backwards : (X : Type 0) (p : X → Bool) (xs : List X) → list_all p xs ≡ true → list_all p (backwards xs) ≡ true
unfolding backwards
all-backwards X p [] a = refl
all-backwards X p (x ∷ xs) a =
    let both = and_parts (p x) (list_all p xs) a in all-append X p (backwards xs) (x ∷ []) (all-backwards X p xs both.1) (and_from (p x) true both.0 refl)

way_names : (s : Store) → HasOwnNames s → (w : List FolderEntry) → ((e : FolderEntry) → In e w → In e s.folders) → IsWhole w → list_all is_name (names_up w) ≡ true
unfolding front
way_names s ok [] inside w = absurd w
way_names s ok (e ∷ []) inside w = refl
way_names s ok (e ∷ d ∷ ds) inside w =
    and_from (is_name e.name) (list_all is_name (names_up (d ∷ ds))) (ok.folder_name e (inside e (inl refl)) w.0) (way_names s ok (d ∷ ds) (λ x i. inside x (inr i)) w.1)

folder_is_named : (s : Store) → HasOwnNames s → (f : ℕ) → IsWhole (way_to_root s f) → list_all is_name (folder_names s f) ≡ true
unfolding way_to_root
folder_is_named s ok f w =
    ap (list_all is_name) (folder_names-way s f) ∙ all-backwards (List ℕ) is_name (names_up (way_to_root s f)) (way_names s ok (way_to_root s f) (λ e i. way_stands (length s.folders) s.folders f e i) w)

file_is_named : (s : Store) → HasOwnNames s → (x : FileEntry) → In x s.files → list_all is_name (file_names s x) ≡ true
unfolding file_names
file_is_named s ok x i =
    all-append (List ℕ) is_name (folder_names s x.folder) (x.name ∷ []) (folder_is_named s ok x.folder (ok.file_way x i)) (and_from (is_name x.name) true (ok.file_name x i) refl)

-- paths of one spelling have the same names
same_names : (xs ys : List (List ℕ)) → list_all is_name xs ≡ true → list_all is_name ys ≡ true → spell_path xs ≡ spell_path ys → xs ≡ ys
same_names xs ys a b e = sym (names_told xs a) ∙ ap names_of e ∙ names_told ys b

-- a file's names backwards
file_backwards : (s : Store) (x : FileEntry) → backwards (file_names s x) ≡ x.name ∷ names_up (way_to_root s x.folder)
unfolding file_names backwards
file_backwards s x =
    backwards-append (List ℕ) (folder_names s x.folder) (x.name ∷ []) ∙ ap (λ l. x.name ∷ backwards l) (folder_names-way s x.folder)
    ∙ ap (λ l. x.name ∷ l) (backwards-twice (List ℕ) (names_up (way_to_root s x.folder)))

folder_backwards : (s : Store) (f : ℕ) → backwards (folder_names s f) ≡ names_up (way_to_root s f)
folder_backwards s f = ap backwards (folder_names-way s f) ∙ backwards-twice (List ℕ) (names_up (way_to_root s f))

same_file : (s : Store) → HasOwnNames s → (x y : FileEntry) → In x s.files → In y s.files → file_names s x ≡ file_names s y → x ≡ y
unfolding way_to_root
same_file s ok x y i j e =
    let both : x.name ∷ names_up (way_to_root s x.folder) ≡ y.name ∷ names_up (way_to_root s y.folder) = sym (file_backwards s x) ∙ ap backwards e ∙ file_backwards s y in
    let name : x.name ≡ y.name = cc in
    let rest : names_up (way_to_root s x.folder) ≡ names_up (way_to_root s y.folder) = cc in
    ok.two_files x y i j (one_way s ok (length s.folders) (length s.folders) x.folder y.folder (ok.file_way x i) (ok.file_way y j) rest) name

-- no folder has the names of a file
mixed : (s : Store) → HasOwnNames s → (a : FolderEntry) → In a s.folders → (x : FileEntry) → In x s.files → (xs ys : List FolderEntry) → (IsWhole xs → names_up xs ≡ names_up ys → a.parent ≡ x.folder) → IsWhole (a ∷ xs) → names_up (a ∷ xs) ≡ x.name ∷ names_up ys → ⊥
unfolding front
mixed s ok a i x j [] ys up w e = cc
mixed s ok a i x j (z ∷ zs) ys up w e =
    let name : a.name ≡ x.name = cc in
    let rest : names_up (z ∷ zs) ≡ names_up ys = cc in
    ok.folder_and_file a x i j (up w.1 rest) name

mixed_way : (s : Store) → HasOwnNames s → (n : ℕ) (f : ℕ) (x : FileEntry) → In x s.files → IsWhole (way_up n s.folders f) → names_up (way_up n s.folders f) ≡ x.name ∷ names_up (way_up (length s.folders) s.folders x.folder) → ⊥
unfolding way_up and_above way_to_root
mixed_way s ok zero f x j w e = absurd w
mixed_way s ok (suc n) f x j w e =
    let up : FolderEntry → List FolderEntry = λ y. way_up n s.folders y.parent in
    let a = begun s f (find (λ e. e.id == f) s.folders) refl up w in
    mixed s ok a.0 a.2 x j (way_up n s.folders a.0.parent) (way_up (length s.folders) s.folders x.folder)
    (λ wa e. one_way s ok n (length s.folders) a.0.parent x.folder wa (ok.file_way x j) e)
    (subst (λ o. IsWhole (and_above o up)) a.1 w) (sym (ap (λ o. names_up (and_above o up)) a.1) ∙ e)

folder_no_file : (s : Store) → HasOwnNames s → (a : FolderEntry) → In a s.folders → (x : FileEntry) → In x s.files → folder_names s a.id ≡ file_names s x → ⊥
unfolding way_to_root
folder_no_file s ok a i x j e =
    mixed_way s ok (length s.folders) a.id x j (ok.folder_way a i) (sym (folder_backwards s a.id) ∙ ap backwards e ∙ file_backwards s x)

-- the path that a folder's line shows
folder_path : (s : Store) (who : Who) (e : FolderEntry) → line_path (folder_line s who e) ≡ spell_path (folder_names s e.id)
unfolding line_path folder_line
folder_path s who e =
    elim (allowed_to s who e.id) as (λ b. line_path (elim b [ true ↦ FolderLine (spell_path (folder_names s e.id)) | false ↦ AncestorLine (spell_path (folder_names s e.id)) ]) ≡ spell_path (folder_names s e.id)) [ true ↦ refl | false ↦ refl ]

folder_line-id : (s : Store) (who : Who) (a b : FolderEntry) → a.id ≡ b.id → folder_line s who a ≡ folder_line s who b
unfolding folder_line
folder_line-id s who a b e =
    let line : ℕ → Line = λ n. elim (allowed_to s who n) [ true ↦ FolderLine (spell_path (folder_names s n)) | false ↦ AncestorLine (spell_path (folder_names s n)) ] in ap line e

file_path : (s : Store) (e : FileEntry) → line_path (file_line s e) ≡ spell_path (file_names s e)
unfolding line_path file_line
file_path s e = refl

pub own_paths : (s : Store) (who : Who) → HasOwnNames s → (a b : Line) → In a (view s who) → In b (view s who) → line_path a ≡ line_path b → a ≡ b
own_paths s who ok a b i j e = ⊎_elim
    (λ p. ⊎_elim
    (λ q.
    let paths : spell_path (folder_names s p.0.id) ≡ spell_path (folder_names s q.0.id) = sym (folder_path s who p.0) ∙ sym (ap line_path p.3) ∙ e ∙ ap line_path q.3 ∙ folder_path s who q.0 in
    let names = same_names (folder_names s p.0.id) (folder_names s q.0.id) (folder_is_named s ok p.0.id (ok.folder_way p.0 p.1)) (folder_is_named s ok q.0.id (ok.folder_way q.0 q.1)) paths in
    p.3 ∙ folder_line-id s who p.0 q.0 (same_folder s ok p.0.id q.0.id (ok.folder_way p.0 p.1) (ok.folder_way q.0 q.1) names) ∙ sym q.3)
    (λ q.
    let paths : spell_path (folder_names s p.0.id) ≡ spell_path (file_names s q.0) = sym (folder_path s who p.0) ∙ sym (ap line_path p.3) ∙ e ∙ ap line_path q.3 ∙ file_path s q.0 in
    absurd (folder_no_file s ok p.0 p.1 q.0 q.1 (same_names (folder_names s p.0.id) (file_names s q.0) (folder_is_named s ok p.0.id (ok.folder_way p.0 p.1)) (file_is_named s ok q.0 q.1) paths)))
    ((view_told s who b).0 j))
    (λ p. ⊎_elim
    (λ q.
    let paths : spell_path (folder_names s q.0.id) ≡ spell_path (file_names s p.0) = sym (folder_path s who q.0) ∙ sym (ap line_path q.3) ∙ sym e ∙ ap line_path p.3 ∙ file_path s p.0 in
    absurd (folder_no_file s ok q.0 q.1 p.0 p.1 (same_names (folder_names s q.0.id) (file_names s p.0) (folder_is_named s ok q.0.id (ok.folder_way q.0 q.1)) (file_is_named s ok p.0 p.1) paths)))
    (λ q.
    let paths : spell_path (file_names s p.0) ≡ spell_path (file_names s q.0) = sym (file_path s p.0) ∙ sym (ap line_path p.3) ∙ e ∙ ap line_path q.3 ∙ file_path s q.0 in
    p.3 ∙ ap (file_line s) (same_file s ok p.0 q.0 p.1 q.1 (same_names (file_names s p.0) (file_names s q.0) (file_is_named s ok p.0 p.1) (file_is_named s ok q.0 q.1) paths)) ∙ sym q.3)
    ((view_told s who b).0 j))
    ((view_told s who a).0 i)
