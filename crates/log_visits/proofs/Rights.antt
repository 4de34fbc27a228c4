-- What rights say of folders and their parents.
use Rattle.std.proofs.Common.{◌≡◌, ◌≢◌, ◌<◌, ◌≤◌, ◌⊎◌, ⊎_elim, arith, inl, inr, ℕ, zero, suc, Bool, true, false, ◌==◌, ◌&&◌, map, filter, Some, None, refl, sym, ap, subst, ◌∙◌}
use Rattle.std.specs.Prelude.{nat_lt, not}
use Rattle.std.proofs.lemmas.Bool.{and_from, and_parts, eq-eqb, eqb-true, false≢true, not_from_false, or_cases}
use Rattle.cry_base.specs.Clearances.{clear_base, clear_number}
use Rattle.cry_base.specs.Sets.{In, Path}
use Rattle.cry_base.specs.Sets.Path.{Here, On}
use Rattle.cry_base.specs.Store.{Store, FolderEntry, FileEntry, GrantEntry, depth_of, folder_node, folder_entry, has_grant, no_store}
use Rattle.cry_base.proofs.Members.{In-any, In-append, In-filter, In-map, filter-In}
use Rattle.log_visits.specs.Visits.{folders_that, is_entry, is_entry_file}
use Rattle.move_plan.specs.Change.{folder_of_file, parent_of_folder}
use Rattle.role_graph.specs.Rights.{Who, IsAllowed, IsGranted, IsNamed, allowed, allowed_to, downs, file_allowed, file_allowed_to, named_to, ups}
use Rattle.role_graph.specs.Rights.Who.{TheOwner, TheHolder}
use Rattle.role_graph.specs.RightsByReach.{HasClearNumber, HasFolder, MayBeGranted}
use Rattle.role_graph.proofs.Edging.{In-order}
use Rattle.role_graph.proofs.Granting.{allowed_to_told, named_to_told}
use Rattle.public_fold.specs.Rooted.{IsRooted, MayStand}
use Rattle.public_fold.specs.Tree.{AreNumbered, AtLevel}
use Rattle.public_fold.proofs.Keeping.{folder_depth}
use Rattle.public_fold.proofs.Levels.{find_own, level_stands}
use Rattle.public_fold.proofs.Treeing.{file_alone}

-- what visits need of a store: folders and files have numbers of their own, each folder and file stands below the root, and
-- grants are on folders that stand or on clearance numbers of files that do; no folder has such a number
pub record HasShape (s : Store) : Type 0 where
  pub numbered : AreNumbered s.folders
  pub own_file : (a b : FileEntry) → In a s.files → In b s.files → a.id ≡ b.id → a ≡ b
  pub folder_level : (e : FolderEntry) → In e s.folders → (n : ℕ) × AtLevel n s.folders e.id
  pub file_folder : (x : FileEntry) → In x s.files → HasFolder s x.folder
  pub granted_stands : (g : GrantEntry) → In g s.grants → MayBeGranted s g.folder
  pub folders_below : (e : FolderEntry) → In e s.folders → (e.id < clear_base) × (e.parent < clear_base)

pub folder_below : (s : Store) → IsRooted s → (e : FolderEntry) → In e s.folders → e.id < clear_base
folder_below s rooted e i = let made = rooted.counted.each_folder e i in let few = rooted.folders_below in omega (arith, made, few)

low_parent : (s : Store) → IsRooted s → (e : FolderEntry) → In e s.folders → e.parent < clear_base
low_parent s rooted e i = at_level l.0 l.1
  where
    l : (n : ℕ) × AtLevel n s.folders e.id
    l = rooted.folder_level e i

    at_level : (n : ℕ) → AtLevel n s.folders e.id → e.parent < clear_base
    at_level zero at =
        let none : e.parent ≡ 0 = ap (λ (d : FolderEntry). d.parent) (sym (rooted.numbered.own at.0 e at.1 i at.2)) ∙ at.3 in
        omega (arith, none)
    at_level (suc n) at =
        let one : at.0 ≡ e = rooted.numbered.own at.0 e at.1 i at.2 in
        let up : AtLevel n s.folders e.parent = subst (λ (d : FolderEntry). AtLevel n s.folders d.parent) one at.4 in
        let has = level_stands n s.folders e.parent up in
        subst (λ p. p < clear_base) has.2 (folder_below s rooted has.0 has.1)

pub shape_of : (s : Store) → MayStand s → HasShape s
unfolding no_store
shape_of s may = ⊎_elim
    (λ empty. subst HasShape (sym empty) (record {
      numbered = record { own = λ a b i j q. absurd i; no_zero = λ e i. absurd i; one_root = λ e i q. absurd i };
      own_file = λ a b i j q. absurd i;
      folder_level = λ e i. absurd i;
      file_folder = λ x i. absurd i;
      granted_stands = λ g i. absurd i;
      folders_below = λ e i. absurd i;
    }))
    (λ (rooted : IsRooted s). record {
      numbered = rooted.numbered;
      own_file = rooted.own_file;
      folder_level = rooted.folder_level;
      file_folder = rooted.file_folder;
      granted_stands = rooted.granted_stands;
      folders_below = λ e i. (folder_below s rooted e i, low_parent s rooted e i);
    })
    may

-- ---- lists of folders

-- the folders that pass are those that stand and pass
pub passing : (test : ℕ → Bool) (s : Store) (f : ℕ) → In f (folders_that test s) → HasFolder s f × (test f ≡ true)
unfolding folders_that
passing test s f i =
    let ids = map (λ (e : FolderEntry). e.id) s.folders in
    let told = In-filter ℕ test f ids ((In-order ℕ nat_lt f (filter test ids)).0 i) in
    let w = (In-map FolderEntry ℕ (λ e. e.id) f s.folders).0 told.0 in
    ((w.0, w.1, sym w.2), told.1)

pub passes : (test : ℕ → Bool) (s : Store) (f : ℕ) → HasFolder s f → test f ≡ true → In f (folders_that test s)
unfolding folders_that
passes test s f has t =
    let ids = map (λ (e : FolderEntry). e.id) s.folders in
    let id : In f ids = (In-map FolderEntry ℕ (λ e. e.id) f s.folders).1 (has.0, has.1, sym has.2) in
    (In-order ℕ nat_lt f (filter test ids)).1 (filter-In ℕ test f ids id t)

-- ---- parents

-- a folder that is not the root, with the parent that it has
pub record IsUnder (s : Store) (f : ℕ) : Type 0 where
  pub entry : FolderEntry
  pub stands : In entry s.folders
  pub is : entry.id ≡ f
  pub has_parent : entry.parent ≢ 0

pub parent_is : (s : Store) (e : FolderEntry) (f : ℕ) → HasShape s → In e s.folders → e.id ≡ f → parent_of_folder s f ≡ e.parent
unfolding parent_of_folder folder_entry
parent_is s e f shape i is = ap (λ o. elim o as (λ z. ℕ) [ None ↦ 0 | Some d ↦ d.parent ]) (find_own s.folders e f shape.numbered i is)

pub parent_told : (s : Store) (f : ℕ) → HasShape s → (under : IsUnder s f) → parent_of_folder s f ≡ under.entry.parent
parent_told s f shape under = parent_is s under.entry f shape under.stands under.is

abbrev pub depth : Store → ℕ → ℕ
depth s f = depth_of s (folder_node f)

-- the parent stands, one level higher
pub parent_stands : (s : Store) (f : ℕ) → HasShape s → (under : IsUnder s f) → HasFolder s under.entry.parent × (depth s f ≡ suc (depth s under.entry.parent))
parent_stands s f shape under = at_level l.0 l.1
  where
    l : (n : ℕ) × AtLevel n s.folders under.entry.id
    l = shape.folder_level under.entry under.stands

    at_level : (n : ℕ) → AtLevel n s.folders under.entry.id → HasFolder s under.entry.parent × (depth s f ≡ suc (depth s under.entry.parent))
    at_level zero at = absurd (under.has_parent (ap (λ (e : FolderEntry). e.parent) (sym (shape.numbered.own at.0 under.entry at.1 under.stands at.2)) ∙ at.3))
    at_level (suc n) at =
        let one : at.0 ≡ under.entry = shape.numbered.own at.0 under.entry at.1 under.stands at.2 in
        let up : AtLevel n s.folders under.entry.parent = subst (λ (e : FolderEntry). AtLevel n s.folders e.parent) one at.4 in
        let here : depth s under.entry.id ≡ suc n = folder_depth s under.entry.id (suc n) shape.numbered at in
        let above : depth s under.entry.parent ≡ n = folder_depth s under.entry.parent n shape.numbered up in
        (level_stands n s.folders under.entry.parent up, ap (depth s) (sym under.is) ∙ here ∙ ap suc (sym above))

-- a folder whose parent stands is not the root
pub under_what_stands : (s : Store) (e : FolderEntry) (p : ℕ) → HasShape s → e.parent ≡ p → HasFolder s p → e.parent ≢ 0
under_what_stands s e p shape is has none = shape.numbered.no_zero has.0 has.1 (has.2 ∙ sym is ∙ none)

-- ---- pairs along which rights go

down_told : (s : Store) (p f : ℕ) → In (p, f) (downs s) → (e : FolderEntry) × In e s.folders × (e.parent ≡ p) × (e.id ≡ f)
unfolding downs
down_told s p f i =
    let w = (In-map FolderEntry (ℕ × ℕ) (λ e. (e.parent, e.id)) (p, f) s.folders).0 i in
    (w.0, w.1, sym (ap (λ (q : ℕ × ℕ). q.0) w.2), sym (ap (λ (q : ℕ × ℕ). q.1) w.2))

-- up from a folder to its parent, or from a file's clearance number to its folder
abbrev IsFolderUp : Store → ℕ → ℕ → Type 0
IsFolderUp s f p = (e : FolderEntry) × In e s.folders × (e.id ≡ f) × (e.parent ≡ p)

abbrev IsFileUp : Store → ℕ → ℕ → Type 0
IsFileUp s c p = (x : FileEntry) × In x s.files × (clear_number x.id ≡ c) × (x.folder ≡ p)

up_told : (s : Store) (f p : ℕ) → In (f, p) (ups s) → IsFolderUp s f p ⊎ IsFileUp s f p
unfolding ups
up_told s f p i = ⊎_elim
    (λ j.
    let w = (In-map FolderEntry (ℕ × ℕ) (λ e. (e.id, e.parent)) (f, p) s.folders).0 j in
    inl (w.0, w.1, sym (ap (λ (q : ℕ × ℕ). q.0) w.2), sym (ap (λ (q : ℕ × ℕ). q.1) w.2)))
    (λ j.
    let w = (In-map FileEntry (ℕ × ℕ) (λ x. (clear_number x.id, x.folder)) (f, p) s.files).0 j in
    inr (w.0, w.1, sym (ap (λ (q : ℕ × ℕ). q.0) w.2), sym (ap (λ (q : ℕ × ℕ). q.1) w.2)))
    ((In-append (ℕ × ℕ) (f, p) (map (λ (e : FolderEntry). (e.id, e.parent)) s.folders) (map (λ (x : FileEntry). (clear_number x.id, x.folder)) s.files)).0 i)

-- nothing leads up to a clearance number
no_way_to : (s : Store) (c g b : ℕ) → HasShape s → clear_base ≤ c → Path (ups s) g b → b ≡ c → g ≡ c
no_way_to s c g _ shape high Here same = same
no_way_to s c g _ shape high (On {b = b} {c = d} way step) same = absurd (⊎_elim
    (λ (w : IsFolderUp s b d). let low = (shape.folders_below w.0 w.1).1 in omega (arith, low, high, w.3, same))
    (λ (w : IsFileUp s b d). let has = shape.file_folder w.0 w.1 in let low = (shape.folders_below has.0 has.1).0 in omega (arith, low, high, has.2, w.3, same))
    (up_told s b d step))

granted_is : (s : Store) (h f : ℕ) → (has_grant s h f ≡ true → IsGranted s h f) × (IsGranted s h f → has_grant s h f ≡ true)
unfolding has_grant
granted_is s h f =
    let test : GrantEntry → Bool = λ g. g.holder == h && g.folder == f in
    let wanted : GrantEntry = record { holder = h; folder = f } in
    let any = In-any GrantEntry test (λ g. g ≡ wanted) (λ g. (
      λ t. let both = and_parts (g.holder == h) (g.folder == f) t in λ i. record { holder = eqb-true g.holder h both.0 i; folder = eqb-true g.folder f both.1 i },
      λ q. and_from (g.holder == h) (g.folder == f) (eq-eqb g.holder h (ap (λ (z : GrantEntry). z.holder) q)) (eq-eqb g.folder f (ap (λ (z : GrantEntry). z.folder) q)),
    )) s.grants in (
      λ t. let w = any.0 t in subst (λ z. In z s.grants) w.2 w.1,
      λ i. any.1 (wanted, i, refl),
    )

-- the parent that a grant leads down to stands
down_stands : (s : Store) (g f : ℕ) (e : FolderEntry) → HasShape s → MayBeGranted s g → Path (downs s) g f → In e s.folders → e.parent ≡ f → HasFolder s f
down_stands s g _ e shape may Here i is = ⊎_elim
    (λ (has : HasFolder s g). has)
    (λ (c : HasClearNumber s g). let low = (shape.folders_below e i).1 in absurd (omega (arith, low, is, c.2)))
    may
down_stands s g _ e shape may (On {b = b} {c = c} way step) i is = let w = down_told s b c step in (w.0, w.1, w.3)

-- the folder stands under an allowed one
abbrev pub IsUnderAllowed : Store → Who → ℕ → Type 0
IsUnderAllowed s who f = (under : IsUnder s f) × (allowed_to s who under.entry.parent ≡ true)

-- an allowed folder without a grant of its own is under an allowed one
pub under_allowed : (s : Store) (who : Who) (f : ℕ) → HasShape s → allowed_to s who f ≡ true → is_entry s who f ≡ false → IsUnderAllowed s who f
unfolding is_entry
under_allowed s TheOwner f shape allowed other = absurd (false≢true (sym other))
under_allowed s (TheHolder h) f shape allowed other =
    let told : IsAllowed s h f = (allowed_to_told s (TheHolder h) f).0 allowed in from_grant told.0 told.1 f told.2 refl
  where
    from_grant : (g : ℕ) → IsGranted s h g → (d : ℕ) → Path (downs s) g d → d ≡ f → IsUnderAllowed s (TheHolder h) f
    from_grant g granted _ Here same = absurd (false≢true (sym other ∙ (granted_is s h f).1 (subst (IsGranted s h) same granted)))
    from_grant g granted _ (On {b = b} {c = c} way step) same =
        let w = down_told s b c step in
        let above : HasFolder s b = down_stands s g b w.0 shape (shape.granted_stands (record { holder = h; folder = g }) granted) way w.1 w.2 in
        let under : IsUnder s f = record { entry = w.0; stands = w.1; is = w.3 ∙ same; has_parent = under_what_stands s w.0 b shape w.2 above } in
        (under, (allowed_to_told s (TheHolder h) w.0.parent).1 (g, granted, subst (Path (downs s) g) (sym w.2) way))

-- a folder has a child that is named, or an entry file
abbrev pub IsOverNamed : Store → Who → ℕ → Type 0
IsOverNamed s who f = (e : FolderEntry) × In e s.folders × (e.parent ≡ f) × (named_to s who e.id ≡ true)

abbrev pub IsOverEntry : Store → Who → ℕ → Type 0
IsOverEntry s who f = (x : FileEntry) × In x s.files × (x.folder ≡ f) × (is_entry_file s who x ≡ true)

-- a folder that is named and not allowed has one of these
pub over_named : (s : Store) (who : Who) (f : ℕ) → HasShape s → named_to s who f ≡ true → allowed_to s who f ≡ false → IsOverNamed s who f ⊎ IsOverEntry s who f
unfolding allowed_to is_entry_file
over_named s TheOwner f shape named other = absurd (false≢true (sym other))
over_named s (TheHolder h) f shape named other =
    let told : IsNamed s h f = (named_to_told s (TheHolder h) f).0 named in ⊎_elim
    (λ (a : IsAllowed s h f). absurd (false≢true (sym other ∙ (allowed_to_told s (TheHolder h) f).1 a)))
    (λ b. from_grant b.0 b.1 f b.2 refl)
    told
  where
    from_grant : (g : ℕ) → IsGranted s h g → (d : ℕ) → Path (ups s) g d → d ≡ f → IsOverNamed s (TheHolder h) f ⊎ IsOverEntry s (TheHolder h) f
    from_grant g granted _ Here same = absurd (false≢true (sym other ∙ (allowed_to_told s (TheHolder h) f).1 (f, subst (IsGranted s h) same granted, Here)))
    from_grant g granted _ (On {b = b} {c = c} way step) same =
        ⊎_elim
        (λ (w : IsFolderUp s b c). inl (w.0, w.1, w.3 ∙ same, (named_to_told s (TheHolder h) w.0.id).1 (inr (g, granted, subst (Path (ups s) g) (sym w.2) way))))
        (λ (w : IsFileUp s b c).
        let first : g ≡ clear_number w.0.id = no_way_to s (clear_number w.0.id) g b shape (omega arith) way (sym w.2) in
        let own : has_grant s h (clear_number w.0.id) ≡ true = (granted_is s h (clear_number w.0.id)).1 (subst (IsGranted s h) first granted) in
        let shut : allowed s h w.0.folder ≡ false = ap (allowed s h) (w.3 ∙ same) ∙ other in
        inr (w.0, w.1, w.3 ∙ same, and_from (has_grant s h (clear_number w.0.id)) (not (allowed s h w.0.folder)) own (not_from_false (allowed s h w.0.folder) shut)))
        (up_told s b c step)

-- above what is named all is named
pub named_above : (s : Store) (who : Who) (e : FolderEntry) → AreNumbered s.folders → In e s.folders → named_to s who e.id ≡ true → named_to s who e.parent ≡ true
unfolding named_to ups
named_above s TheOwner e numbered i named = refl
named_above s (TheHolder h) e numbered i named =
    (named_to_told s (TheHolder h) e.parent).1 (⊎_elim
    (λ (a : IsAllowed s h e.id). from_grant a.0 a.1 e.id a.2 refl)
    (λ b. inr (b.0, b.1, On b.2 up))
    ((named_to_told s (TheHolder h) e.id).0 named))
  where
    up : In (e.id, e.parent) (ups s)
    up =
        (In-append (ℕ × ℕ) (e.id, e.parent) (map (λ (x : FolderEntry). (x.id, x.parent)) s.folders) (map (λ (x : FileEntry). (clear_number x.id, x.folder)) s.files)).1
        (inl ((In-map FolderEntry (ℕ × ℕ) (λ x. (x.id, x.parent)) (e.id, e.parent) s.folders).1 (e, i, refl)))

    from_grant : (g : ℕ) → IsGranted s h g → (d : ℕ) → Path (downs s) g d → d ≡ e.id → IsNamed s h e.parent
    from_grant g granted _ Here same = inr (e.id, subst (IsGranted s h) same granted, On Here up)
    from_grant g granted _ (On {b = b} {c = c} way step) same =
        let w = down_told s b c step in
        let one : w.0 ≡ e = numbered.own w.0 e w.1 i (w.3 ∙ same) in
        inl (g, granted, subst (Path (downs s) g) (sym w.2 ∙ ap (λ (z : FolderEntry). z.parent) one) way)

-- what is allowed is named
pub allowed_is_named : (s : Store) (who : Who) (f : ℕ) → allowed_to s who f ≡ true → named_to s who f ≡ true
unfolding named_to
allowed_is_named s TheOwner f allowed = refl
allowed_is_named s (TheHolder h) f allowed = (named_to_told s (TheHolder h) f).1 (inl ((allowed_to_told s (TheHolder h) f).0 allowed))

-- an entry of a holder is a folder with a grant
pub entry_granted : (s : Store) (h f : ℕ) → is_entry s (TheHolder h) f ≡ true → IsGranted s h f
unfolding is_entry
entry_granted s h f t = (granted_is s h f).0 t

-- an entry file of a holder has a grant
pub entry_file_granted : (s : Store) (h : ℕ) (x : FileEntry) → is_entry_file s (TheHolder h) x ≡ true → IsGranted s h (clear_number x.id)
unfolding is_entry_file
entry_file_granted s h x t = (granted_is s h (clear_number x.id)).0 (and_parts (has_grant s h (clear_number x.id)) (not (allowed_to s (TheHolder h) x.folder)) t).0

-- a file that is allowed, in a folder that isn't
pub allowed_entry : (s : Store) (who : Who) (x : FileEntry) → file_allowed_to s who x ≡ true → allowed_to s who x.folder ≡ false → is_entry_file s who x ≡ true
unfolding file_allowed_to file_allowed allowed_to is_entry_file
allowed_entry s TheOwner x t other = absurd (false≢true (sym other))
allowed_entry s (TheHolder h) x t other =
    and_from (has_grant s h (clear_number x.id)) (not (allowed s h x.folder)) (⊎_elim
    (λ (a : allowed s h x.folder ≡ true). absurd (false≢true (sym other ∙ a)))
    (λ g. g)
    (or_cases (allowed s h x.folder) (has_grant s h (clear_number x.id)) t)) (not_from_false (allowed s h x.folder) other)

-- the folder that a file is in
pub folder_told : (s : Store) (x : FileEntry) (n : ℕ) → HasShape s → In x s.files → x.id ≡ n → folder_of_file s n ≡ x.folder
unfolding folder_of_file
folder_told s x n shape i is = ap (λ o. elim o as (λ z. ℕ) [ None ↦ 0 | Some e ↦ e.folder ]) (file_alone s x n shape.own_file i is)
