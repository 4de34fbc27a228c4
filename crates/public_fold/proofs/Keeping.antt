-- The store of a valid journal has a tree.
use Rattle.std.proofs.Common.{◌≡◌, ◌≢◌, ℕ, suc, ◌+◌, ◌-◌, ◌≤◌, Bool, true, false, cond, not, ◌==◌, ◌&&◌, ◌||◌, List, [], ◌∷◌, map, length, Option, Some, None, inl, ⊎_elim, refl, sym, ap, ◌∙◌, subst, arith}
use Rattle.std.specs.Prelude.{is_none, is_some, max}
use Rattle.std.specs.List.{fold}
use Rattle.std.proofs.lemmas.Bool.{and_parts, false≢true, or_parts, or_from, not-false, ne_eqb, ltb-false, cases_Bool, cond-true}
use Rattle.cry_base.specs.Limits.{most_file_bytes}
use Rattle.cry_base.specs.Sets.{In}
use Rattle.cry_base.specs.Naming.{is_name, last_name, names_of, is_path, parent_path, is_root_path}
use Rattle.cry_base.specs.Requests.{Request, paths_of}
use Rattle.cry_base.specs.Requests.Request.{AddHolder, MakeFolder, WriteFile, Remove, Rename, Relocate, Grant, Revoke}
use Rattle.cry_base.specs.Store.{Store, FolderEntry, FileEntry, no_store, root_store, way_to_root, is_within, node_names, depth_of, node_at, nodes_of, folder_node, file_node}
use Rattle.cry_base.specs.Refusing.{id_of, is_file, is_folder, parent_of, name_of, holds_name, has_child, has_no_place, has_bad_name, finds_no_path, changes_root, needs_folder, finds_name_taken, removes_children, moves_into_itself, depth_at, height_of, deepest, is_node_within, goes_too_deep}
use Rattle.cry_base.specs.Stepping.{with_new_holder, with_new_folder, with_new_file, with_folder, with_file, without_folder, without_file, without_grant, with_bytes_at, without_node, with_name, moved, effect}
use Rattle.cry_base.specs.declared.roles.Node.{Node}
use Rattle.cry_base.specs.declared.roles.Node.TheVariants.{Folder, File}
use Rattle.cry_base.proofs.Finding.{node_found}
use Rattle.cry_base.proofs.Versions.{accepted_in}
use Rattle.public_fold.specs.KeyStep.{is_strict}
use Rattle.cry_base.proofs.Members.{In-map}
use Rattle.public_fold.specs.Counted.{AreCounted}
use Rattle.public_fold.specs.Journal.{Journal, Entry, Stand, nothing, first_key, entry_store, stand_then, stand_after, store_of}
use Rattle.public_fold.specs.Journal.Entry.{Session, Made, Did, Upgraded}
use Rattle.public_fold.specs.Valid.{FollowOn, BeginsWell, IsValid}
use Rattle.public_fold.proofs.Counting.{effect_counted, root_counted}
use Rattle.public_fold.specs.Tree.{AreNumbered, AtLevel}
use Rattle.public_fold.proofs.Levels.{level_positive}
use Rattle.public_fold.proofs.Treeing.{IsTree, names_length, file_length, file_node_names, folder_own, file_own, node_stands}
use Rattle.public_fold.proofs.Growing.{new_folder, new_file, no_folder, no_file, file_changed}
use Rattle.public_fold.proofs.Shifting.{folder_changed, renamed, goes_through, root_through, stays, goes}
use Rattle.public_fold.proofs.Accepting.{IsAccepted, accepted, folder_free, file_free, no_child, no_inner, other_than_root, folder_in_nodes, file_in_nodes, IsPlace, place}

-- the largest of some numbers
fold_start : (a : ℕ) (xs : List ℕ) → a ≤ fold max a xs
fold_start a [] = omega arith
fold_start a (x ∷ xs) = let h : max a x ≤ fold max (max a x) xs = fold_start (max a x) xs in omega arith

fold_most : (a x : ℕ) (xs : List ℕ) → In x xs → x ≤ fold max a xs
fold_most a x [] i = absurd i
fold_most a x (y ∷ ys) i = ⊎_elim
    (λ (e : x ≡ y). let h : max a y ≤ fold max (max a y) ys = fold_start (max a y) ys in omega arith)
    (λ r. fold_most (max a y) x ys r) i

-- what stands in a folder or below it is no deeper than the deepest
node_deepest : (s : Store) (f d : ℕ) (node : Node) → In node (nodes_of s) → is_node_within s f node ≡ true → depth_of s node ≡ d → d ≤ deepest s f
unfolding deepest
node_deepest s f d node i t e =
    let depths : Node → ℕ = λ n. cond (is_node_within s f n) (depth_of s n) 0 in
    fold_most 0 d (map depths (nodes_of s)) ((In-map Node ℕ depths d (nodes_of s)).1 (node, i, sym (cond-true (is_node_within s f node) (depth_of s node) 0 t ∙ e)))

pub folder_depth : (s : Store) (g n : ℕ) → AreNumbered s.folders → AtLevel n s.folders g → depth_of s (folder_node g) ≡ n
unfolding depth_of node_names folder_node
folder_depth s g n ok l = names_length n s g ok l

pub file_depth : (s : Store) (x : FileEntry) (n : ℕ) → IsTree s.folders s.files → In x s.files → AtLevel n s.folders x.folder → depth_of s (file_node x.id) ≡ suc n
unfolding depth_of
file_depth s x n ok i l = ap length (file_node_names s x x.id ok i refl) ∙ file_length s x n ok l

folder_deepest : (s : Store) (f n : ℕ) (e : FolderEntry) → IsTree s.folders s.files → In e s.folders → AtLevel n s.folders e.id → goes_through s.folders e.id f ≡ true → n ≤ deepest s f
unfolding is_node_within is_within way_to_root folder_node
folder_deepest s f n e ok i l t = node_deepest s f n (folder_node e.id) (folder_in_nodes s e i) t (folder_depth s e.id n ok.numbered l)

file_deepest : (s : Store) (f n : ℕ) (x : FileEntry) → IsTree s.folders s.files → In x s.files → AtLevel n s.folders x.folder → goes_through s.folders x.folder f ≡ true → suc n ≤ deepest s f
unfolding is_node_within is_within way_to_root file_node
file_deepest s f n x ok i l t =
    node_deepest s f (suc n) (file_node x.id) (file_in_nodes s x i)
    (ap (λ o. elim o as (λ z. Bool) [ None ↦ false | Some e ↦ goes_through s.folders e.folder f ]) (file_own s x x.id ok i refl) ∙ t)
    (file_depth s x n ok i l)

-- a folder moved where nothing comes too deep, with all below it
shift : (s : Store) (f q m k : ℕ) → IsTree s.folders s.files → f ≢ 1 → AtLevel m s.folders f → AtLevel k s.folders q → goes_through s.folders q f ≡ false → k + 1 + (deepest s f - m) ≤ 64
    → ((e : FolderEntry) → In e s.folders → e.id ≡ f → (a : FolderEntry) → In a s.folders → a.parent ≡ q → a.name ≡ e.name → ⊥)
    → ((e : FolderEntry) → In e s.folders → e.id ≡ f → (b : FileEntry) → In b s.files → b.folder ≡ q → b.name ≡ e.name → ⊥)
    → IsTree (map (λ (e : FolderEntry). cond (e.id == f) (record e { parent = q }) e) s.folders) s.files
shift s f q m k ok other at into outside limit free_folder free_file =
    let fs : List FolderEntry = s.folders in
    let new : List FolderEntry = map (λ (e : FolderEntry). cond (e.id == f) (record e { parent = q }) e) fs in
    let some = level_positive k fs q ok.numbered into in
    let below : AtLevel k new q = stays fs f q k q ok.numbered into outside in
    let r = ok.root_stands in
    folder_changed fs s.files f (λ e. record e { parent = q }) (λ e. refl) ok
    (stays fs f q 0 1 ok.numbered r (root_through fs f 1 ok.numbered r ∙ or_from (r.0.id == f) false (ne_eqb r.0.id f (λ z. other (sym z ∙ r.2))) refl))
    (λ e i. let l = ok.folder_level e i in
    let low : l.0 ≤ 64 = l.2 in ⊎_elim
    (λ t. let w = goes fs f q l.0 m k e.id ok.numbered some l.1 at below t in
    let deep : l.0 ≤ deepest s f = folder_deepest s f l.0 e ok i l.1 t in
    let sum : w.0 + m ≡ l.0 + suc k = w.2 in
    let told : (n : ℕ) × AtLevel n new e.id × (n ≤ 64) = (w.0, w.1, omega arith) in told)
    (λ t. (l.0, stays fs f q l.0 e.id ok.numbered l.1 t, l.2))
    (cases_Bool (goes_through fs e.id f)))
    (λ b j. let l = ok.file_level b j in
    let low : suc l.0 ≤ 64 = l.2 in ⊎_elim
    (λ t. let w = goes fs f q l.0 m k b.folder ok.numbered some l.1 at below t in
    let deep : suc l.0 ≤ deepest s f = file_deepest s f l.0 b ok j l.1 t in
    let sum : w.0 + m ≡ l.0 + suc k = w.2 in
    let told : (n : ℕ) × AtLevel n new b.folder × (suc n ≤ 64) = (w.0, w.1, omega arith) in told)
    (λ t. (l.0, stays fs f q l.0 b.folder ok.numbered l.1 t, l.2))
    (cases_Bool (goes_through fs b.folder f)))
    (λ e i h z. absurd (some z))
    (λ e i h p. ok.folder_name e i (λ z. other (sym h ∙ ok.numbered.one_root e i z)))
    (λ e i h a j o p n. free_folder e i h a j p n)
    (λ e i h b j p n. free_file e i h b j p n)

abbrev pub HasTree : Store → Type 0
HasTree s = IsTree s.folders s.files

-- the places of new nodes
pub made_place : (s : Store) (path : List ℕ) → HasTree s → IsAccepted s (MakeFolder path) → IsPlace s path (id_of (node_at s (parent_path path)))
unfolding has_bad_name finds_no_path has_no_place changes_root needs_folder finds_name_taken goes_too_deep paths_of
made_place s path ok a =
    let good : (is_path path && true) ≡ true = not-false (is_path path && true) a.good_name in
    placed (node_at s path) refl a.finds_free (not_root (is_root_path path) (is_none (node_at s (parent_path path))) a.finds_path a.other_root) (and_parts (is_path path) true good).0
  where
    not_root : (b c : Bool) → (not b && c) ≡ false → b ≡ false → c ≡ false
    not_root true c t e = absurd (false≢true (sym e))
    not_root false c t e = t

    placed : (o : Option Node) → node_at s path ≡ o → is_some o ≡ false → is_none (node_at s (parent_path path)) ≡ false → is_path path ≡ true → IsPlace s path (id_of (node_at s (parent_path path)))
    placed None e t some good = place s path (node_at s (parent_path path)) ok refl some a.in_folder good a.other_root a.not_deep e
    placed (Some node) e t some good = absurd (false≢true (sym t))

pub written_place : (s : Store) (path bytes : List ℕ) → HasTree s → IsAccepted s (WriteFile path bytes) → node_at s path ≡ None → IsPlace s path (id_of (node_at s (parent_path path)))
unfolding has_bad_name finds_no_path has_no_place changes_root needs_folder goes_too_deep paths_of
written_place s path bytes ok a e =
    let good : (is_path path && true) ≡ true = not-false (is_path path && true) a.good_name in
    place s path (node_at s (parent_path path)) ok refl (not_root (is_root_path path) (is_none (node_at s (parent_path path))) a.finds_path a.other_root) a.in_folder (and_parts (is_path path) true good).0 a.other_root a.not_deep e
  where
    not_root : (b c : Bool) → (not b && c) ≡ false → b ≡ false → c ≡ false
    not_root true c t e = absurd (false≢true (sym e))
    not_root false c t e = t

made : (s : Store) (path : List ℕ) → HasTree s → AreCounted s → IsAccepted s (MakeFolder path) → HasTree (with_new_folder s (id_of (node_at s (parent_path path))) (last_name (names_of path)))
unfolding with_new_folder
made s path ok c a =
    let w = made_place s path ok a in
    new_folder s.folders s.files (record { id = s.folders_made + 1; parent = id_of (node_at s (parent_path path)); name = last_name (names_of path) }) w.level ok
    (λ e i q. let h : e.id ≤ s.folders_made = c.each_folder e i in omega arith) (λ z. omega arith) w.stands w.below w.free_folder w.free_file w.named

written : (s : Store) (path bytes : List ℕ) (o : Option Node) → HasTree s → AreCounted s → IsAccepted s (WriteFile path bytes) → node_at s path ≡ o → HasTree (with_bytes_at s o path bytes)
unfolding with_bytes_at with_new_file with_file
written s path bytes None ok c a e =
    let w = written_place s path bytes ok a e in
    new_file s.folders s.files (record { id = s.files_made + 1; folder = id_of (node_at s (parent_path path)); name = last_name (names_of path); bytes = bytes }) w.level ok
    (λ x i q. let h : x.id ≤ s.files_made = c.each_file x i in omega arith) w.stands w.below w.free_folder w.free_file w.named
written s path bytes (Some (Folder f)) ok c a e = ok
written s path bytes (Some (File x)) ok c a e =
    file_changed s.folders s.files x.0 (λ y. record y { bytes = bytes }) (λ y. refl) ok
    (λ y i h. ok.file_level y i) (λ y i h. ok.file_name y i)
    (λ y i h b j p n. ok.folder_and_file b y j i p n)
    (λ y i h b j d p n. d (ok.two_files b y j i p n ∙ h))

removed : (s : Store) (path : List ℕ) (o : Option Node) → HasTree s → is_root_path path ≡ false → (is_folder o && has_child s (id_of o)) ≡ false → node_at s path ≡ o → HasTree (without_node s o)
unfolding without_node without_folder without_file is_folder id_of folder_node
removed s path None ok r t e = ok
removed s path (Some (Folder f)) ok r t e = no_folder s.folders s.files f.0 ok (other_than_root s path f.0 ok e r) (no_child s f.0 t) (no_inner s f.0 t)
removed s path (Some (File x)) ok r t e = no_file s.folders s.files (λ y. not (y.id == x.0)) ok

named_anew : (s : Store) (path name : List ℕ) (o : Option Node) → HasTree s → is_name name ≡ true → holds_name s (parent_of s o) name ≡ false → node_at s path ≡ o → HasTree (with_name s o name)
unfolding with_name with_folder with_file parent_of
named_anew s path name None ok named t e = ok
named_anew s path name (Some (Folder f)) ok named t e =
    let parent = λ (y : FolderEntry) (i : In y s.folders) (h : y.id ≡ f.0). ap (λ o. elim o as (λ z. ℕ) [ None ↦ 0 | Some e ↦ e.parent ]) (folder_own s y f.0 ok i h) in
    renamed s.folders s.files f.0 name ok named
    (λ y i h b j p n. folder_free s (parent_of s (Some (Folder f))) name t b j (p ∙ sym (parent y i h)) n)
    (λ y i h b j p n. file_free s (parent_of s (Some (Folder f))) name t b j (p ∙ sym (parent y i h)) n)
named_anew s path name (Some (File x)) ok named t e =
    let folder = λ (y : FileEntry) (i : In y s.files) (h : y.id ≡ x.0). ap (λ o. elim o as (λ z. ℕ) [ None ↦ 0 | Some e ↦ e.folder ]) (file_own s y x.0 ok i h) in
    file_changed s.folders s.files x.0 (λ y. record y { name = name }) (λ y. refl) ok
    (λ y i h. ok.file_level y i) (λ y i h. named)
    (λ y i h b j p n. folder_free s (parent_of s (Some (File x))) name t b j (p ∙ sym (folder y i h)) n)
    (λ y i h b j d p n. file_free s (parent_of s (Some (File x))) name t b j (p ∙ sym (folder y i h)) n)

-- what is known of a move into a folder that is found
pub into_level : (s : Store) (into : List ℕ) (o : Option Node) → HasTree s → node_at s into ≡ o → is_none o ≡ false → is_file o ≡ false → (k : ℕ) × AtLevel k s.folders (id_of o) × (elim o as (λ z. ℕ) [ None ↦ 0 | Some node ↦ depth_of s node ] ≡ k)
unfolding is_file id_of folder_node
into_level s into None ok e some folder = absurd (false≢true (sym some))
into_level s into (Some (File x)) ok e some folder = absurd (false≢true (sym folder))
into_level s into (Some (Folder f)) ok e some folder =
    let w = node_stands s (Folder f) (node_found s into (Folder f) e).0 in
    let l = ok.folder_level w.0 w.1 in
    let at : AtLevel l.0 s.folders f.0 = subst (AtLevel l.0 s.folders) w.2 l.1 in
    (l.0, at, folder_depth s f.0 l.0 ok.numbered at)

put : (s : Store) (path : List ℕ) (o : Option Node) (q k : ℕ) → HasTree s → node_at s path ≡ o → is_root_path path ≡ false → AtLevel k s.folders q → holds_name s q (name_of s o) ≡ false → (is_folder o && is_within s q (id_of o)) ≡ false → k + 1 + height_of s o ≤ 64 → HasTree (moved s o q)
unfolding moved with_folder with_file name_of is_folder id_of height_of is_within way_to_root folder_node
put s path None q k ok e r at t outside limit = ok
put s path (Some (Folder f)) q k ok e r at t outside limit =
    let name = λ (y : FolderEntry) (i : In y s.folders) (h : y.id ≡ f.0). ap (λ o. elim o as (λ z. List ℕ) [ None ↦ [] | Some e ↦ e.name ]) (folder_own s y f.0 ok i h) in
    let w = node_stands s (Folder f) (node_found s path (Folder f) e).0 in
    let l = ok.folder_level w.0 w.1 in
    let here : AtLevel l.0 s.folders f.0 = subst (AtLevel l.0 s.folders) w.2 l.1 in
    let depth : depth_of s (Folder f) ≡ l.0 = folder_depth s f.0 l.0 ok.numbered here in
    let low : k + 1 + (deepest s f.0 - depth_of s (Folder f)) ≤ 64 = limit in
    shift s f.0 q l.0 k ok (other_than_root s path f.0 ok e r) here at outside (omega arith)
    (λ y i h b j p n. folder_free s q (name_of s (Some (Folder f))) t b j p (n ∙ sym (name y i h)))
    (λ y i h b j p n. file_free s q (name_of s (Some (Folder f))) t b j p (n ∙ sym (name y i h)))
put s path (Some (File x)) q k ok e r at t outside limit =
    let name = λ (y : FileEntry) (i : In y s.files) (h : y.id ≡ x.0). ap (λ o. elim o as (λ z. List ℕ) [ None ↦ [] | Some e ↦ e.name ]) (file_own s y x.0 ok i h) in
    let low : k + 1 + 0 ≤ 64 = limit in
    file_changed s.folders s.files x.0 (λ y. record y { folder = q }) (λ y. refl) ok
    (λ y i h. let told : (n : ℕ) × AtLevel n s.folders q × (suc n ≤ 64) = (k, at, omega arith) in told) (λ y i h. ok.file_name y i)
    (λ y i h b j p n. folder_free s q (name_of s (Some (File x))) t b j p (n ∙ sym (name y i h)))
    (λ y i h b j d p n. file_free s q (name_of s (Some (File x))) t b j p (n ∙ sym (name y i h)))

relocated : (s : Store) (path into : List ℕ) → HasTree s → IsAccepted s (Relocate path into) → HasTree (moved s (node_at s path) (id_of (node_at s into)))
unfolding finds_no_path changes_root needs_folder finds_name_taken moves_into_itself goes_too_deep depth_at paths_of
relocated s path into ok a =
    let finds = or_parts (is_none (node_at s into)) false (or_parts (is_none (node_at s path)) (is_none (node_at s into) || false) a.finds_path).1 in
    let w = into_level s into (node_at s into) ok refl finds.0 a.in_folder in
    let deep : depth_at s into + 1 + height_of s (node_at s path) ≤ 64 = ltb-false 64 (depth_at s into + 1 + height_of s (node_at s path)) a.not_deep in
    let level : depth_at s into ≡ w.0 = w.2 in
    put s path (node_at s path) (id_of (node_at s into)) w.0 ok refl a.other_root w.1 a.finds_free a.outside (omega arith)

pub effect_tree : (s : Store) (r : Request) (key : List ℕ) → IsAccepted s r → AreCounted s → HasTree s → HasTree (effect s r key)
unfolding effect with_new_holder without_grant has_bad_name changes_root removes_children finds_name_taken
effect_tree s AddHolder key a c ok = ok
effect_tree s (MakeFolder path) key a c ok = made s path ok c a
effect_tree s (WriteFile path bytes) key a c ok = written s path bytes (node_at s path) ok c a refl
effect_tree s (Remove path) key a c ok = removed s path (node_at s path) ok a.other_root a.childless refl
effect_tree s (Rename path name) key a c ok =
    let good : (is_path path && is_name name) ≡ true = not-false (is_path path && is_name name) a.good_name in
    named_anew s path name (node_at s path) ok (and_parts (is_path path) (is_name name) good).1 a.finds_free refl
effect_tree s (Relocate path into) key a c ok = relocated s path into ok a
effect_tree s (Grant h path) key a c ok = ok
effect_tree s (Revoke h path) key a c ok = ok

pub root_tree : HasTree root_store
unfolding root_store no_store
root_tree =
    let root : FolderEntry = record { id = 1; parent = 0; name = [] } in
    let only = λ (e : FolderEntry) (i : In e (root ∷ [])). ⊎_elim {C = e ≡ root} (λ q. q) (λ z. absurd z) i in record {
      numbered = record {
        own = λ a b i j e. only a i ∙ sym (only b j);
        no_zero = λ e i z. let g : e.id ≡ 1 = ap (λ (x : FolderEntry). x.id) (only e i) in omega arith;
        one_root = λ e i z. ap (λ (x : FolderEntry). x.id) (only e i);
      };
      own_file = λ a b i j e. absurd i;
      root_stands = (root, inl refl, refl, refl);
      folder_level = λ e i. (0, (root, inl refl, sym (ap (λ (x : FolderEntry). x.id) (only e i)), refl), omega arith);
      file_level = λ b j. absurd j;
      two_folders = λ a b i j p n. ap (λ (x : FolderEntry). x.id) (only a i ∙ sym (only b j));
      two_files = λ a b i j p n. absurd i;
      folder_and_file = λ a b i j p n. absurd j;
      folder_name = λ a i p. absurd (p (ap (λ (x : FolderEntry). x.parent) (only a i)));
      file_name = λ b j. absurd j;
    }

after_tree : (entries : List Entry) (at : Stand) → AreCounted at.store → HasTree at.store → FollowOn at entries → HasTree (stand_after at entries).store
unfolding stand_after stand_then entry_store
after_tree [] at c ok f = ok
after_tree (Session ∷ entries) at c ok f = after_tree entries (stand_then at Session) c ok f.1
after_tree (Made version keys ∷ entries) at c ok f = absurd f.0
after_tree (Did request keys ∷ entries) at c ok f =
    after_tree entries (stand_then at (Did request keys)) (effect_counted at.store request (first_key keys) c) (effect_tree at.store request (first_key keys) (accepted at.store request most_file_bytes (accepted_in (is_strict at.keys) at.store request most_file_bytes f.0.0)) c ok) f.1
after_tree (Upgraded keys ∷ entries) at c ok f = after_tree entries (stand_then at (Upgraded keys)) c ok f.1

begun_tree : (m : Journal) → BeginsWell m → HasTree (stand_after nothing m).store
unfolding stand_after stand_then entry_store
begun_tree [] b = absurd b
begun_tree (Session ∷ []) b = absurd b
begun_tree (Session ∷ Session ∷ es) b = absurd b
begun_tree (Session ∷ Made version keys ∷ es) b = after_tree es (stand_then (stand_then nothing Session) (Made version keys)) root_counted root_tree b.1
begun_tree (Session ∷ Did request keys ∷ es) b = absurd b
begun_tree (Session ∷ Upgraded keys ∷ es) b = absurd b
begun_tree (Made version keys ∷ es) b = absurd b
begun_tree (Did request keys ∷ es) b = absurd b
begun_tree (Upgraded keys ∷ es) b = absurd b

pub journal_tree : (m : Journal) → IsValid m → HasTree (store_of m)
unfolding store_of
journal_tree m v = begun_tree m v.0
