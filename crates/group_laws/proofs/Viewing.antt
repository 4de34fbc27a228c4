-- What is shown hangs on the tree and on which grants whoever looks has, and on nothing else.
use Rattle.std.proofs.Common.{◌≡◌, ℕ, Bool, true, false, ◌==◌, ◌↔◌, List, [], ◌∷◌, ◌++◌, filter, map, IsTrue, inl, inr, ⊎_elim, refl, sym, ap, ◌∙◌, subst}
use Rattle.std.proofs.lemmas.Bool.{eqb-true, eq-eqb}
use Rattle.std.proofs.lemmas.Bool.Decides.{same_from_decides}
use Rattle.cry_base.proofs.Members.{In-filter, In-map, filter-In}
use Rattle.cry_base.specs.Clearances.{clear_number}
use Rattle.cry_base.specs.Naming.{spell_path}
use Rattle.cry_base.specs.Sets.{In, Path}
use Rattle.cry_base.specs.Store.{Store, FileEntry, FolderEntry, GrantEntry, file_names, folder_names, no_store, way_to_root}
use Rattle.cry_base.specs.Texts.{bytes_before}
use Rattle.log_visits.specs.View.{Line, file_line, folder_line, line_path, view}
use Rattle.log_visits.specs.View.Line.{AncestorLine, FileLine, FolderLine}
use Rattle.role_graph.specs.Edges.{in_order}
use Rattle.role_graph.specs.Rights.{IsAllowed, IsFileAllowed, IsGranted, IsNamed, Who, allowed, allowed_to, downs, file_allowed, file_allowed_to, granted_to, named, named_to, ups}
use Rattle.role_graph.specs.Rights.Who.{TheHolder, TheOwner}
use Rattle.role_graph.proofs.Granting.{allowed_told, file_allowed_told, named_told}

-- ---- the lines

abbrev tree_only : List FolderEntry → List FileEntry → Store
tree_only folders files = record no_store { folders = folders; files = files }

abbrev lines_of : List FolderEntry → List FileEntry → (ℕ → Bool) → (ℕ → Bool) → (FileEntry → Bool) → List Line
lines_of folders files opens names shows = in_order (λ a b. bytes_before (line_path a) (line_path b)) (
    map (λ (e : FolderEntry). elim (opens e.id) as (λ _. Line)
    [ true ↦ FolderLine (spell_path (folder_names (tree_only folders files) e.id)) | false ↦ AncestorLine (spell_path (folder_names (tree_only folders files) e.id)) ])
    (filter (λ (e : FolderEntry). names e.id) folders)
    ++ map (λ (e : FileEntry). FileLine (spell_path (file_names (tree_only folders files) e)) e.bytes) (filter shows files))

view_lines : (s : Store) (who : Who) → view s who ≡ lines_of s.folders s.files (allowed_to s who) (named_to s who) (file_allowed_to s who)
unfolding view folder_line file_line folder_names file_names way_to_root no_store
view_lines s who = refl

pub view_alike : (s t : Store) (who other : Who) → t.folders ≡ s.folders → t.files ≡ s.files → allowed_to t other ≡ allowed_to s who → named_to t other ≡ named_to s who → file_allowed_to t other ≡ file_allowed_to s who →
    view t other ≡ view s who
view_alike s t who other folders files opens names shows =
    view_lines t other ∙ (λ i. lines_of (folders i) (files i) (opens i) (names i) (shows i)) ∙ sym (view_lines s who)

filter_none : (X : Type 0) (xs : List X) → filter (λ _. false) xs ≡ []
filter_none X [] = refl
filter_none X (x ∷ xs) = filter_none X xs

no_lines : (folders : List FolderEntry) (files : List FileEntry) (opens : ℕ → Bool) → lines_of folders files opens (λ _. false) (λ _. false) ≡ []
unfolding in_order
no_lines folders files opens =
    (λ i. in_order (λ a b. bytes_before (line_path a) (line_path b)) (
    map (λ (e : FolderEntry). elim (opens e.id) as (λ _. Line)
    [ true ↦ FolderLine (spell_path (folder_names (tree_only folders files) e.id)) | false ↦ AncestorLine (spell_path (folder_names (tree_only folders files) e.id)) ])
    (filter_none FolderEntry folders i)
    ++ map (λ (e : FileEntry). FileLine (spell_path (file_names (tree_only folders files) e)) e.bytes) (filter_none FileEntry files i)))

-- ---- the rights

downs_alike : (s t : Store) → t.folders ≡ s.folders → downs t ≡ downs s
unfolding downs
downs_alike s t folders = ap (map (λ (e : FolderEntry). (e.parent, e.id))) folders

ups_alike : (s t : Store) → t.folders ≡ s.folders → t.files ≡ s.files → ups t ≡ ups s
unfolding ups
ups_alike s t folders files = λ i. map (λ (e : FolderEntry). (e.id, e.parent)) (folders i) ++ map (λ (e : FileEntry). (clear_number e.id, e.folder)) (files i)

-- the one has in the one store the grants that the other has in the other
abbrev pub HaveSameGrants : Store → ℕ → Store → ℕ → Type 0
HaveSameGrants s h t k = (f : ℕ) → IsGranted t k f ↔ IsGranted s h f

module _ (s t : Store) (h k : ℕ) (folders : t.folders ≡ s.folders) (files : t.files ≡ s.files) (same : HaveSameGrants s h t k) where
  opens_go : (f : ℕ) → IsAllowed t k f → IsAllowed s h f
  opens_go f w = (w.0, (same w.0).0 w.1, subst (λ es. Path es w.0 f) (downs_alike s t folders) w.2)

  opens_back : (f : ℕ) → IsAllowed s h f → IsAllowed t k f
  opens_back f w = (w.0, (same w.0).1 w.1, subst (λ es. Path es w.0 f) (sym (downs_alike s t folders)) w.2)

  pub allowed_alike : (f : ℕ) → allowed t k f ≡ allowed s h f
  allowed_alike f = same_from_decides {P = IsAllowed s h f} (allowed t k f) (allowed s h f)
      (λ is. opens_go f ((allowed_told t k f).0 is), λ w. (allowed_told t k f).1 (opens_back f w)) (allowed_told s h f)

  pub named_alike : (f : ℕ) → named t k f ≡ named s h f
  named_alike f = same_from_decides {P = IsNamed s h f} (named t k f) (named s h f) (
    λ is. ⊎_elim (λ a. inl (opens_go f a)) (λ (w : (g : ℕ) × IsGranted t k g × Path (ups t) g f). inr (w.0, (same w.0).0 w.1, subst (λ es. Path es w.0 f) (ups_alike s t folders files) w.2)) ((named_told t k f).0 is),
    λ u. (named_told t k f).1 (⊎_elim (λ a. inl (opens_back f a)) (λ (w : (g : ℕ) × IsGranted s h g × Path (ups s) g f). inr (w.0, (same w.0).1 w.1, subst (λ es. Path es w.0 f) (sym (ups_alike s t folders files)) w.2)) u),
  )
      (named_told s h f)

  pub file_allowed_alike : (e : FileEntry) → file_allowed t k e ≡ file_allowed s h e
  file_allowed_alike e = same_from_decides {P = IsFileAllowed s h e} (file_allowed t k e) (file_allowed s h e) (
    λ is. ⊎_elim (λ a. inl (opens_go e.folder a)) (λ g. inr ((same (clear_number e.id)).0 g)) ((file_allowed_told t k e).0 is),
    λ u. (file_allowed_told t k e).1 (⊎_elim (λ a. inl (opens_back e.folder a)) (λ g. inr ((same (clear_number e.id)).1 g)) u),
  )
      (file_allowed_told s h e)

  pub holder_view : view t (TheHolder k) ≡ view s (TheHolder h)
  unfolding allowed_to named_to file_allowed_to
  holder_view = view_alike s t (TheHolder h) (TheHolder k) folders files (λ i f. allowed_alike f i) (λ i f. named_alike f i) (λ i e. file_allowed_alike e i)

pub owner_view : (s t : Store) → t.folders ≡ s.folders → t.files ≡ s.files → view t TheOwner ≡ view s TheOwner
unfolding allowed_to named_to file_allowed_to
owner_view s t folders files = view_alike s t TheOwner TheOwner folders files refl refl refl

-- ---- whoever has no grant

abbrev pub HasNone : Store → ℕ → Type 0
HasNone s h = (f : ℕ) → IsGranted s h f → ⊥

pub is_false : (b : Bool) → (IsTrue b → ⊥) → b ≡ false
is_false true never = absurd (never refl)
is_false false never = refl

pub shown_nothing : (s : Store) (h : ℕ) → HasNone s h → view s (TheHolder h) ≡ []
unfolding allowed_to named_to file_allowed_to
shown_nothing s h none =
    let names : (f : ℕ) → named s h f ≡ false = λ f. is_false (named s h f) (λ is. ⊎_elim
    (λ (w : IsAllowed s h f). none w.0 w.1) (λ (w : (g : ℕ) × IsGranted s h g × Path (ups s) g f). none w.0 w.1) ((named_told s h f).0 is)) in
    let shows : (e : FileEntry) → file_allowed s h e ≡ false = λ e. is_false (file_allowed s h e) (λ is. ⊎_elim
    (λ (w : IsAllowed s h e.folder). none w.0 w.1) (λ g. none (clear_number e.id) g) ((file_allowed_told s h e).0 is)) in
    view_lines s (TheHolder h)
    ∙ (λ i. lines_of s.folders s.files (allowed_to s (TheHolder h)) (λ f. names f i) (λ e. shows e i))
    ∙ no_lines s.folders s.files (allowed_to s (TheHolder h))

-- the numbers that a holder has grants on
pub granted_numbers : (s : Store) (h f : ℕ) → In f (granted_to s h) ↔ IsGranted s h f
unfolding granted_to
granted_numbers s h f = (
  λ i. let w = (In-map GrantEntry ℕ (λ (g : GrantEntry). g.folder) f (filter (λ (g : GrantEntry). g.holder == h) s.grants)).0 i in
      let told = In-filter GrantEntry (λ (g : GrantEntry). g.holder == h) w.0 s.grants w.1 in
      subst (λ (g : GrantEntry). In g s.grants) (entry_is w.0 (eqb-true w.0.holder h told.1) (sym w.2)) told.0,
  λ i. (In-map GrantEntry ℕ (λ (g : GrantEntry). g.folder) f (filter (λ (g : GrantEntry). g.holder == h) s.grants)).1
      (record { holder = h; folder = f }, filter-In GrantEntry (λ (g : GrantEntry). g.holder == h) (record { holder = h; folder = f }) s.grants i (eq-eqb h h refl), refl),
)
  where
    entry_is : (g : GrantEntry) → g.holder ≡ h → g.folder ≡ f → g ≡ (let e : GrantEntry = record { holder = h; folder = f } in e)
    entry_is g p q = λ i. record { holder = p i; folder = q i }

pub no_numbers : (s : Store) (h : ℕ) → HasNone s h → granted_to s h ≡ []
no_numbers s h none = empty (granted_to s h) (λ f i. none f ((granted_numbers s h f).0 i))
  where
    empty : (xs : List ℕ) → ((f : ℕ) → In f xs → ⊥) → xs ≡ []
    empty [] never = refl
    empty (x ∷ xs) never = absurd (never x (inl refl))

pub has_none : (s : Store) (h : ℕ) → granted_to s h ≡ [] → HasNone s h
has_none s h is f i = subst (In f) is ((granted_numbers s h f).1 i)
