-- What visits show of a store has the rights of the store, and the lines of what they are to.
use Rattle.std.proofs.Common.{◌≡◌, ⊎_elim, inl, inr, ℕ, zero, suc, Bool, true, false, cond, ◌==◌, ◌||◌, List, [], ◌∷◌, ◌++◌, drop, length, map, filter, Some, None, refl, ap, ◌∙◌}
use Rattle.std.specs.Prelude.{find, option_map}
use Rattle.std.specs.List.{list_any}
use Rattle.std.proofs.lemmas.Bool.{eqb-true}
use Rattle.std.proofs.lemmas.List.{length-map}
use Rattle.cry_base.specs.Clearances.{clear_number}
use Rattle.cry_base.specs.Naming.{spell_path}
use Rattle.cry_base.specs.Sets.{In, has, reach}
use Rattle.cry_base.specs.Sets.Path.{Here, On}
use Rattle.cry_base.specs.Store.{Store, FolderEntry, FileEntry, and_above, backwards, file_names, folder_names, has_grant, way_to_root, way_up}
use Rattle.cry_base.specs.Texts.{bytes_before}
use Rattle.cry_base.proofs.Finding.{find-found}
use Rattle.cry_base.proofs.Members.{In-append, In-map}
use Rattle.log_visits.specs.View.{FileLine, AncestorLine, FolderLine, Line, file_line, folder_line, line_path, view}
use Rattle.log_visits.specs.Visits.{Visit}
use Rattle.move_plan.specs.Fitting.{public_of}
use Rattle.role_graph.specs.Edges.{in_order}
use Rattle.role_graph.specs.Rights.{Who, allowed, allowed_to, downs, file_allowed, file_allowed_to, granted_to, named, named_to, ups}
use Rattle.role_graph.specs.Rights.Who.{TheOwner, TheHolder}
use Rattle.role_graph.specs.RightsByReach.{HasFolder}
use Rattle.role_graph.proofs.Granting.{file_allowed_told, named_told}
use Rattle.public_fold.specs.Tree.{AreNumbered}
use Rattle.journal_bytes.specs.Opening.{is_to_file, is_to_name, seen_by}
use Rattle.log_visits.proofs.Rights.{named_above}

-- ---- lists

map_over : (X Y : Type 0) (g : X → X) (f : X → Y) → ((x : X) → f (g x) ≡ f x) → (xs : List X) → map f (map g xs) ≡ map f xs
map_over X Y g f same [] = refl
map_over X Y g f same (x ∷ xs) = λ i. same x i ∷ map_over X Y g f same xs i

found_over : (X : Type 0) (g : X → X) (test : X → Bool) → ((x : X) → test (g x) ≡ test x) → (xs : List X) → find test (map g xs) ≡ option_map g (find test xs)
found_over X g test same [] = refl
found_over X g test same (x ∷ xs) =
    ap (λ b. cond b (Some (g x)) (find test (map g xs))) (same x)
    ∙ elim (test x) as (λ b. cond b (Some (g x)) (find test (map g xs)) ≡ option_map g (cond b (Some x) (find test xs))) [
      | true ↦ refl
      | false ↦ found_over X g test same xs
    ]

-- what passes is mapped to the same
pub passed_over : (X Y : Type 0) (g : X → X) (p q : X → Bool) (f h : X → Y) (xs : List X) → ((x : X) → In x xs → p (g x) ≡ q x) → ((x : X) → In x xs → q x ≡ true → f (g x) ≡ h x)
    → map f (filter p (map g xs)) ≡ map h (filter q xs)
passed_over X Y g p q f h [] pass same = refl
passed_over X Y g p q f h (x ∷ xs) pass same =
    let rest = passed_over X Y g p q f h xs (λ y i. pass y (inr i)) (λ y i. same y (inr i)) in
    ap (λ b. map f (cond b (g x ∷ filter p (map g xs)) (filter p (map g xs)))) (pass x (inl refl))
    ∙ (elim (q x) as (λ b. q x ≡ b → map f (cond b (g x ∷ filter p (map g xs)) (filter p (map g xs))) ≡ map h (cond b (x ∷ filter q xs) (filter q xs))) [
      | true ↦ λ t. (λ i. same x (inl refl) t i ∷ rest i)
      | false ↦ λ t. rest
    ]) refl

-- ---- what visits show

abbrev pub folder_as : List Visit → FolderEntry → FolderEntry
folder_as vs e = cond (list_any (is_to_name e.id) vs) e (record e { name = [] })

abbrev pub file_as : List Visit → FileEntry → FileEntry
file_as vs e = cond (list_any (is_to_file e.id) vs) e (record e { name = []; bytes = [] })

folder_id : (vs : List Visit) (e : FolderEntry) → (folder_as vs e).id ≡ e.id
folder_id vs e = elim (list_any (is_to_name e.id) vs) as (λ b. (cond b e (record e { name = [] })).id ≡ e.id) [ true ↦ refl | false ↦ refl ]

folder_parent : (vs : List Visit) (e : FolderEntry) → (folder_as vs e).parent ≡ e.parent
folder_parent vs e = elim (list_any (is_to_name e.id) vs) as (λ b. (cond b e (record e { name = [] })).parent ≡ e.parent) [ true ↦ refl | false ↦ refl ]

pub file_folder_is : (vs : List Visit) (e : FileEntry) → (file_as vs e).folder ≡ e.folder
file_folder_is vs e = elim (list_any (is_to_file e.id) vs) as (λ b. (cond b e (record e { name = []; bytes = [] })).folder ≡ e.folder) [ true ↦ refl | false ↦ refl ]

pub file_id_is : (vs : List Visit) (e : FileEntry) → (file_as vs e).id ≡ e.id
file_id_is vs e = elim (list_any (is_to_file e.id) vs) as (λ b. (cond b e (record e { name = []; bytes = [] })).id ≡ e.id) [ true ↦ refl | false ↦ refl ]

-- the folder of a file that is allowed is named
pub folder_is_named : (s : Store) (who : Who) (e : FileEntry) → In e s.files → file_allowed_to s who e ≡ true → named_to s who e.folder ≡ true
unfolding named_to file_allowed_to ups
folder_is_named s TheOwner e i t = refl
folder_is_named s (TheHolder h) e i t = (named_told s h e.folder).1 (⊎_elim
    (λ a. inl a)
    (λ granted. inr (
      clear_number e.id,
      granted,
      On Here
          ((In-append (ℕ × ℕ) (clear_number e.id, e.folder) (map (λ (x : FolderEntry). (x.id, x.parent)) s.folders) (map (λ (x : FileEntry). (clear_number x.id, x.folder)) s.files)).1
          (inr ((In-map FileEntry (ℕ × ℕ) (λ x. (clear_number x.id, x.folder)) (clear_number e.id, e.folder) s.files).1 (e, i, refl)))),
    ))
    ((file_allowed_told s h e).0 t))

-- the visits are to the names of what is named, to the allowed files
abbrev pub AreToNames : List Visit → Store → Who → Type 0
AreToNames vs s who = (e : FolderEntry) → In e s.folders → named_to s who e.id ≡ true → list_any (is_to_name e.id) vs ≡ true

abbrev pub AreToFiles : List Visit → Store → (FileEntry → Bool) → Type 0
AreToFiles vs s test = (e : FileEntry) → In e s.files → test e ≡ true → list_any (is_to_file e.id) vs ≡ true

module _ (vs : List Visit) (s : Store) where
  pub folders_are : (seen_by vs s).folders ≡ map (folder_as vs) s.folders
  unfolding seen_by
  folders_are = refl

  pub files_are : (seen_by vs s).files ≡ map (file_as vs) s.files
  unfolding seen_by
  files_are = refl

  downs_seen : downs (seen_by vs s) ≡ downs s
  unfolding downs seen_by
  downs_seen = map_over FolderEntry (ℕ × ℕ) (folder_as vs) (λ e. (e.parent, e.id)) (λ e i. (folder_parent vs e i, folder_id vs e i)) s.folders

  ups_seen : ups (seen_by vs s) ≡ ups s
  unfolding ups seen_by
  ups_seen = λ j. map_over FolderEntry (ℕ × ℕ) (folder_as vs) (λ e. (e.id, e.parent)) (λ e i. (folder_id vs e i, folder_parent vs e i)) s.folders j
      ++ map_over FileEntry (ℕ × ℕ) (file_as vs) (λ e. (clear_number e.id, e.folder)) (λ e i. (clear_number (file_id_is vs e i), file_folder_is vs e i)) s.files j

  grants_seen : (h : ℕ) → granted_to (seen_by vs s) h ≡ granted_to s h
  unfolding granted_to seen_by public_of
  grants_seen h = refl

  holder_allowed : (h f : ℕ) → allowed (seen_by vs s) h f ≡ allowed s h f
  unfolding allowed
  holder_allowed h f = λ i. has ◌==◌ (reach ◌==◌ (downs_seen i) (grants_seen h i)) f

  holder_named : (h f : ℕ) → named (seen_by vs s) h f ≡ named s h f
  unfolding named
  holder_named h f = λ i. holder_allowed h f i || has ◌==◌ (reach ◌==◌ (ups_seen i) (grants_seen h i)) f

  allowed_seen : (who : Who) (f : ℕ) → allowed_to (seen_by vs s) who f ≡ allowed_to s who f
  unfolding allowed_to
  allowed_seen TheOwner f = refl
  allowed_seen (TheHolder h) f = holder_allowed h f

  holder_granted : (h c : ℕ) → has_grant (seen_by vs s) h c ≡ has_grant s h c
  unfolding has_grant seen_by public_of
  holder_granted h c = refl

  pub file_allowed_seen : (who : Who) (e : FileEntry) → file_allowed_to (seen_by vs s) who (file_as vs e) ≡ file_allowed_to s who e
  unfolding file_allowed_to file_allowed
  file_allowed_seen TheOwner e = refl
  file_allowed_seen (TheHolder h) e =
      let t = seen_by vs s in
      (λ i. allowed t h (file_folder_is vs e i) || has_grant t h (clear_number (file_id_is vs e i)))
      ∙ (λ i. holder_allowed h e.folder i || holder_granted h (clear_number e.id) i)

  pub named_seen : (who : Who) (f : ℕ) → named_to (seen_by vs s) who f ≡ named_to s who f
  unfolding named_to
  named_seen TheOwner f = refl
  named_seen (TheHolder h) f = holder_named h f

  module _ (who : Who) (numbered : AreNumbered s.folders) (to_names : AreToNames vs s who) where
    folder_kept : (e : FolderEntry) → In e s.folders → named_to s who e.id ≡ true → folder_as vs e ≡ e
    folder_kept e i t = ap (λ b. cond b e (record e { name = [] })) (to_names e i t)

    abbrev names_up : List FolderEntry → List (List ℕ)
    names_up way = map (λ (e : FolderEntry). e.name) way

    -- the names on a way up are shown where its first folder is named, or doesn't stand
    ways_seen : (n f : ℕ) → (HasFolder s f → named_to s who f ≡ true) → names_up (way_up n (map (folder_as vs) s.folders) f) ≡ names_up (way_up n s.folders f)
    unfolding way_up and_above
    ways_seen zero f t = refl
    ways_seen (suc n) f t =
        let up : FolderEntry → List FolderEntry = λ e. way_up n (map (folder_as vs) s.folders) e.parent in
        let down : FolderEntry → List FolderEntry = λ e. way_up n s.folders e.parent in
        ap (λ o. names_up (and_above o up)) (found_over FolderEntry (folder_as vs) (λ e. e.id == f) (λ e. ap (λ k. k == f) (folder_id vs e)) s.folders)
        ∙ (elim (find (λ e. e.id == f) s.folders) as (λ o. find (λ e. e.id == f) s.folders ≡ o → names_up (and_above (option_map (folder_as vs) o) up) ≡ names_up (and_above o down)) [
          | None ↦ λ q. refl
          | Some e ↦ λ q.
              let told = find-found FolderEntry (λ d. d.id == f) s.folders e q in
              let is : e.id ≡ f = eqb-true e.id f told.1 in
              let here : named_to s who e.id ≡ true = ap (named_to s who) is ∙ t (e, told.0, is) in
              let kept : folder_as vs e ≡ e = folder_kept e told.0 here in
              let above = ways_seen n e.parent (λ has. named_above s who e numbered told.0 here) in
              (λ j. (kept j).name ∷ names_up (way_up n (map (folder_as vs) s.folders) (kept j).parent)) ∙ ap (λ l. e.name ∷ l) above
        ]) refl

    -- so is its path
    pub names_seen : (f : ℕ) → (HasFolder s f → named_to s who f ≡ true) → folder_names (seen_by vs s) f ≡ folder_names s f
    unfolding folder_names way_to_root seen_by
    names_seen f t =
        let same : length (map (folder_as vs) s.folders) ≡ length s.folders = simp length-map in
        ap (λ n. drop 1 (backwards (names_up (way_up n (map (folder_as vs) s.folders) f)))) same
        ∙ ap (λ l. drop 1 (backwards l)) (ways_seen (length s.folders) f t)

    abbrev line_with : Bool → List (List ℕ) → Line
    line_with b names = elim b [ true ↦ FolderLine (spell_path names) | false ↦ AncestorLine (spell_path names) ]

    folder_line_seen : (e : FolderEntry) → In e s.folders → named_to s who e.id ≡ true → folder_line (seen_by vs s) who (folder_as vs e) ≡ folder_line s who e
    unfolding folder_line
    folder_line_seen e i t =
        ap (λ (d : FolderEntry). line_with (allowed_to (seen_by vs s) who d.id) (folder_names (seen_by vs s) d.id)) (folder_kept e i t)
        ∙ (λ j. line_with (allowed_seen who e.id j) (names_seen e.id (λ has. t) j))

    pub folder_lines_seen : map (folder_line (seen_by vs s) who) (filter (λ e. named_to (seen_by vs s) who e.id) (seen_by vs s).folders) ≡ map (folder_line s who) (filter (λ e. named_to s who e.id) s.folders)
    folder_lines_seen =
        ap (λ fs. map (folder_line (seen_by vs s) who) (filter (λ (e : FolderEntry). named_to (seen_by vs s) who e.id) fs)) folders_are
        ∙ passed_over FolderEntry Line (folder_as vs) (λ e. named_to (seen_by vs s) who e.id) (λ e. named_to s who e.id) (folder_line (seen_by vs s) who) (folder_line s who) s.folders
        (λ e i. ap (named_to (seen_by vs s) who) (folder_id vs e) ∙ named_seen who e.id) folder_line_seen

    -- a file that is visited, and allowed
    pub file_line_seen : (e : FileEntry) → In e s.files → list_any (is_to_file e.id) vs ≡ true → file_allowed_to s who e ≡ true → file_line (seen_by vs s) (file_as vs e) ≡ file_line s e
    unfolding file_line file_names
    file_line_seen e i visited t =
        let kept : file_as vs e ≡ e = ap (λ b. cond b e (record e { name = []; bytes = [] })) visited in
        let names = names_seen e.folder (λ has. folder_is_named s who e i t) in
        ap (λ (d : FileEntry). FileLine (spell_path (folder_names (seen_by vs s) d.folder ++ d.name ∷ [])) d.bytes) kept
        ∙ ap (λ ns. FileLine (spell_path (ns ++ e.name ∷ [])) e.bytes) names

    file_lines_seen : AreToFiles vs s (file_allowed_to s who) → map (file_line (seen_by vs s)) (filter (file_allowed_to (seen_by vs s) who) (seen_by vs s).files) ≡ map (file_line s) (filter (file_allowed_to s who) s.files)
    file_lines_seen to_files =
        ap (λ xs. map (file_line (seen_by vs s)) (filter (file_allowed_to (seen_by vs s) who) xs)) files_are
        ∙ passed_over FileEntry Line (file_as vs) (file_allowed_to (seen_by vs s) who) (file_allowed_to s who) (file_line (seen_by vs s)) (file_line s) s.files
        (λ e i. file_allowed_seen who e) (λ e i t. file_line_seen e i (to_files e i t) t)

    -- the view of what visits show is the store's, where they are to all that is named and allowed
    pub view_seen : AreToFiles vs s (file_allowed_to s who) → view (seen_by vs s) who ≡ view s who
    unfolding view
    view_seen to_files = λ i. in_order (λ a b. bytes_before (line_path a) (line_path b)) (folder_lines_seen i ++ file_lines_seen to_files i)
