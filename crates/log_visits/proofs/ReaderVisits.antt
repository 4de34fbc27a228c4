-- A reader's visits come in an order in which each has its key.
use Rattle.std.proofs.Common.{◌≡◌, ⊎_elim, inl, inr, ◌⊎◌, ℕ, suc, ◌<◌, ◌≤◌, Bool, true, false, cond, ◌==◌, ◌&&◌, List, [], ◌∷◌, ◌++◌, map, filter, arith, refl, sym, ap, subst, ◌∙◌}
use Rattle.std.specs.Prelude.{nat_lt, not}
use Rattle.std.specs.List.{flat_map}
use Rattle.std.proofs.lemmas.Bool.{and_from, and_parts, cases_Bool, eq-eqb, eqb-true, false≢true, ltb-false, ltb-true, not-true, not_from_false, or_cases, or_parts}
use Rattle.cry_base.specs.Clearances.{clear_number}
use Rattle.cry_base.specs.Sets.{In}
use Rattle.cry_base.specs.Store.{Store, FolderEntry, FileEntry, GrantEntry, HolderEntry}
use Rattle.cry_base.specs.declared.roles.Edge.{Edge}
use Rattle.cry_base.specs.declared.roles.Role.{Role}
use Rattle.cry_base.specs.declared.roles.Role.TheVariants.{Owner}
use Rattle.cry_base.proofs.Members.{In-any, In-append, In-filter, In-flat_map, In-map, filter-In}
use Rattle.log_visits.specs.Visits.{Visit, all_visits, allowed_visits, clearance_visits, entry_edge, entry_file_visits, entry_folder_visits, entry_visits, file_visits, files_that, folders_that, holder_visits, into_file, is_deeper, is_entry, is_entry_file, is_higher, lower_visits, name_visits, upper_visit, upper_visits, visit_from, visits_to_names, writing_visits}
use Rattle.log_visits.specs.Opening.{IsToStanding}
use Rattle.log_visits.specs.Visits.Visit.{ToKey, ToName, ToFile, ToHolder}
use Rattle.move_plan.specs.Change.{folder_of_file, parent_of_folder}
use Rattle.role_graph.specs.Edges.{IsEdge, clearance_edges, edge, file_edge, folder_edges, grant_edge, has_grants, in_order, parent_edges}
use Rattle.role_graph.specs.Rights.{Who, allowed_to, file_allowed_to, named_to}
use Rattle.role_graph.specs.Rights.Who.{TheOwner, TheHolder}
use Rattle.role_graph.specs.RightsByReach.{HasFolder}
use Rattle.role_graph.specs.Roles.{back_of, clear_of, data_of, file_role, files_of, holder_role, sub_of}
use Rattle.role_graph.proofs.Edging.{In-order}
use Rattle.public_fold.specs.Rooted.{MayStand}
use Rattle.log_visits.proofs.Ordered.{AreOrdered, CanVisit, LeadsTo, OneLeadsTo, OpenBefore, order_sorted, ordered_both, ordered_each, ordered_in_order, ordered_more}
use Rattle.log_visits.proofs.Rights.{HasShape, IsOverEntry, IsOverNamed, IsUnder, allowed_entry, depth, entry_file_granted, entry_granted, folder_told, over_named, parent_is, parent_stands, parent_told, passes, passing, shape_of, under_allowed, under_what_stands}

-- the key that a reader has at first
abbrev pub first_role : Who → Role
first_role TheOwner = Owner
first_role (TheHolder h) = holder_role h

abbrev pub AtFirst : Who → Role → Type 0
AtFirst who role = role ≡ first_role who

own_edge : (s : Store) (f : ℕ) (e : Edge) → HasFolder s f → In e (folder_edges f) → IsEdge s e
own_edge s f e has i = inl (has.0, has.1, subst (λ n. In e (folder_edges n)) (sym has.2) i)

-- a grant stands for a holder's entry
entry_can : (s : Store) (who : Who) (f : ℕ) → HasFolder s f → is_entry s who f ≡ true → CanVisit s (AtFirst who) (ToKey (entry_edge who f))
unfolding entry_edge grant_edge edge folder_edges
entry_can s TheOwner f has t = (own_edge s f (edge 1 Owner (clear_of f)) has (inl refl), refl)
entry_can s (TheHolder h) f has t =
    let g : GrantEntry = record { holder = h; folder = f } in
    (inr (inr (inl (g, entry_granted s h f t, refl))), refl)

entry_to : (who : Who) (f : ℕ) → clear_of f ≡ (entry_edge who f).to
unfolding entry_edge grant_edge edge
entry_to TheOwner f = refl
entry_to (TheHolder h) f = refl

entry_file_can : (s : Store) (who : Who) (x : FileEntry) → is_entry_file s who x ≡ true → CanVisit s (AtFirst who) (ToKey (entry_edge who (clear_number x.id)))
unfolding entry_edge grant_edge edge is_entry_file
entry_file_can s TheOwner x t = absurd (false≢true t)
entry_file_can s (TheHolder h) x t =
    let g : GrantEntry = record { holder = h; folder = clear_number x.id } in
    (inr (inr (inl (g, entry_file_granted s h x t, refl))), refl)

flat_one : (visit : ℕ → Visit) (fs : List ℕ) → flat_map (λ f. visit f ∷ []) fs ≡ map visit fs
flat_one visit [] = refl
flat_one visit (f ∷ fs) = ap (λ vs. visit f ∷ vs) (flat_one visit fs)

-- ---- shallower folders first, deeper folders first

higher_told : (s : Store) (a b : ℕ) → is_higher s a b ≡ true → depth s a ≤ depth s b
unfolding is_higher
higher_told s a b t =
    let m = depth s a in
    let n = depth s b in ⊎_elim
    (λ u. let less : m < n = ltb-true m n u in omega (arith, less))
    (λ u. let same : m ≡ n = eqb-true m n (and_parts (m == n) (nat_lt a b) u).0 in omega (arith, same))
    (or_cases (nat_lt m n) ((m == n) && nat_lt a b) t)

higher_other : (s : Store) (a b : ℕ) → is_higher s a b ≡ false → depth s b ≤ depth s a
unfolding is_higher
higher_other s a b t =
    let m = depth s a in
    let n = depth s b in
    let no = ltb-false m n (or_parts (nat_lt m n) ((m == n) && nat_lt a b) t).0 in
    omega (arith, no)

deeper_told : (s : Store) (a b : ℕ) → is_deeper s a b ≡ true → depth s b ≤ depth s a
unfolding is_deeper
deeper_told s a b t =
    let m = depth s a in
    let n = depth s b in ⊎_elim
    (λ u. let less : n < m = ltb-true n m u in omega (arith, less))
    (λ u. let same : m ≡ n = eqb-true m n (and_parts (m == n) (nat_lt a b) u).0 in omega (arith, same))
    (or_cases (nat_lt n m) ((m == n) && nat_lt a b) t)

deeper_other : (s : Store) (a b : ℕ) → is_deeper s a b ≡ false → depth s a ≤ depth s b
unfolding is_deeper
deeper_other s a b t =
    let m = depth s a in
    let n = depth s b in
    let no = ltb-false n m (or_parts (nat_lt n m) ((m == n) && nat_lt a b) t).0 in
    omega (arith, no)

-- each of these is a file that stands and is allowed
abbrev pub AreFilesIn : Store → Who → List ℕ → Type 0
AreFilesIn s who xs = (x : ℕ) → In x xs → (e : FileEntry) × In e s.files × (e.id ≡ x) × (file_allowed_to s who e ≡ true)

-- an edge of a file's clearance
pub clearance_edge : (s : Store) (x : FileEntry) (e : Edge) → In x s.files → has_grants s (clear_number x.id) ≡ true → In e (clearance_edges x.folder x.id) → IsEdge s e
clearance_edge s x e i grants j = inr (inr (inr (inr (x, i, grants, j))))

-- somebody has a grant on an entry file
pub entry_has_grants : (s : Store) (who : Who) (x : FileEntry) → is_entry_file s who x ≡ true → has_grants s (clear_number x.id) ≡ true
unfolding is_entry_file has_grants
entry_has_grants s TheOwner x t = absurd (false≢true t)
entry_has_grants s (TheHolder h) x t =
    (In-any GrantEntry (λ g. g.folder == clear_number x.id) (λ g. g.folder ≡ clear_number x.id) (λ g. (eqb-true g.folder (clear_number x.id), eq-eqb g.folder (clear_number x.id))) s.grants).1
    (record { holder = h; folder = clear_number x.id }, entry_file_granted s h x t, refl)

-- the files that pass
files_passing : (test : FileEntry → Bool) (s : Store) (x : ℕ) → In x (files_that test s) → (e : FileEntry) × In e s.files × (e.id ≡ x) × (test e ≡ true)
unfolding files_that
files_passing test s x i =
    let ids = map (λ (e : FileEntry). e.id) (filter test s.files) in
    let w = (In-map FileEntry ℕ (λ e. e.id) x (filter test s.files)).0 ((In-order ℕ nat_lt x ids).0 i) in
    let told = In-filter FileEntry test w.0 s.files w.1 in
    (w.0, told.0, sym w.2, told.1)

files_pass : (test : FileEntry → Bool) (s : Store) (e : FileEntry) → In e s.files → test e ≡ true → In e.id (files_that test s)
unfolding files_that
files_pass test s e i t =
    let ids = map (λ (x : FileEntry). x.id) (filter test s.files) in
    (In-order ℕ nat_lt e.id ids).1 ((In-map FileEntry ℕ (λ x. x.id) e.id (filter test s.files)).1 (e, filter-In FileEntry test e s.files i t, refl))

pub into_clearance_file : (x : FileEntry) → In (edge 10 (clear_of (clear_number x.id)) (file_role x.id)) (clearance_edges x.folder x.id)
unfolding clearance_edges
into_clearance_file x = inr (inl refl)

module _ (s : Store) (who : Who) (shape : HasShape s) where
  abbrev entries : List Visit
  entries = entry_visits s who

  abbrev lowers : List Visit
  lowers = lower_visits s who

  abbrev insides : List Visit
  insides = allowed_visits s who

  abbrev uppers : List Visit
  uppers = upper_visits s who

  -- what is open after the first parts
  abbrev Entered : Role → Type 0
  Entered role = AtFirst who role ⊎ OneLeadsTo entries role

  abbrev Lowered : Role → Type 0
  Lowered role = Entered role ⊎ OneLeadsTo lowers role

  abbrev Inside : Role → Type 0
  Inside role = Lowered role ⊎ OneLeadsTo insides role

  abbrev Above : Role → Type 0
  Above role = Inside role ⊎ OneLeadsTo uppers role

  -- ---- entries

  entry_folders : AreOrdered s (AtFirst who) (entry_folder_visits s who)
  unfolding entry_folder_visits edge folder_edges
  entry_folders =
      ordered_each s (AtFirst who) (λ f. ToKey (entry_edge who f) ∷ ToKey (edge 3 (clear_of f) (sub_of f)) ∷ []) (folders_that (is_entry s who) s) (λ f i.
      let p = passing (is_entry s who) s f i in
      (entry_can s who f p.0 p.1, ((own_edge s f (edge 3 (clear_of f) (sub_of f)) p.0 (inr (inl refl)), inr (entry_to who f)), tt)))

  abbrev into_clearance : ℕ → Visit
  into_clearance x = ToKey (entry_edge who (clear_number x))

  entry_files : AreOrdered s (AtFirst who) (entry_file_visits s who)
  unfolding entry_file_visits
  entry_files =
      subst (AreOrdered s (AtFirst who)) (flat_one into_clearance (files_that (is_entry_file s who) s))
      (ordered_each s (AtFirst who) (λ x. into_clearance x ∷ []) (files_that (is_entry_file s who) s) (λ x i.
      let w = files_passing (is_entry_file s who) s x i in
      (subst (λ n. CanVisit s (AtFirst who) (into_clearance n)) w.2 (entry_file_can s who w.0 w.3), tt)))

  entries_ordered : AreOrdered s (AtFirst who) entries
  unfolding entry_visits
  entries_ordered =
      ordered_both s (AtFirst who) (entry_folder_visits s who) (entry_file_visits s who) entry_folders
      (ordered_more s (AtFirst who) (λ role. AtFirst who role ⊎ OneLeadsTo (entry_folder_visits s who) role) (λ role a. inl a) (entry_file_visits s who) entry_files)

  entry_sub : (f : ℕ) → HasFolder s f → is_entry s who f ≡ true → OneLeadsTo entries (sub_of f)
  unfolding entry_visits entry_folder_visits edge
  entry_sub f has t =
      let e = edge 3 (clear_of f) (sub_of f) in (
        e,
        (In-append Visit (ToKey e) (entry_folder_visits s who) (entry_file_visits s who)).1
            (inl ((In-flat_map ℕ Visit (λ f. ToKey (entry_edge who f) ∷ ToKey (edge 3 (clear_of f) (sub_of f)) ∷ []) (ToKey e) (folders_that (is_entry s who) s)).1
            (f, passes (is_entry s who) s f has t, inr (inl refl)))),
        refl,
      )

  entry_clearance : (x : FileEntry) → In x s.files → is_entry_file s who x ≡ true → OneLeadsTo entries (clear_of (clear_number x.id))
  unfolding entry_visits entry_file_visits
  entry_clearance x i t = (
    entry_edge who (clear_number x.id),
    (In-append Visit (into_clearance x.id) (entry_folder_visits s who) (entry_file_visits s who)).1
        (inr ((In-map ℕ Visit into_clearance (into_clearance x.id) (files_that (is_entry_file s who) s)).1 (x.id, files_pass (is_entry_file s who) s x i t, refl))),
    sym (entry_to who (clear_number x.id)),
  )

  -- ---- folders below

  abbrev is_lower : ℕ → Bool
  is_lower f = allowed_to s who f && not (is_entry s who f)

  abbrev lower_folders : List ℕ
  lower_folders = in_order (is_higher s) (folders_that is_lower s)

  abbrev lower_visit : ℕ → Visit
  lower_visit f = ToKey (edge 6 (sub_of (parent_of_folder s f)) (sub_of f))

  abbrev Higher : ℕ → ℕ → Type 0
  Higher a b = depth s a < depth s b

  is_lower_folder : (f : ℕ) → HasFolder s f → allowed_to s who f ≡ true → is_entry s who f ≡ false → In f lower_folders
  is_lower_folder f has allowed other =
      (In-order ℕ (is_higher s) f (folders_that is_lower s)).1
      (passes is_lower s f has (and_from (allowed_to s who f) (not (is_entry s who f)) allowed (not_from_false (is_entry s who f) other)))

  one_lower : (f : ℕ) → In f lower_folders → AreOrdered s (OpenBefore Higher Entered (λ f. lower_visit f ∷ []) lower_folders f) (lower_visit f ∷ [])
  unfolding edge parent_edges
  one_lower f i =
      let p = passing is_lower s f ((In-order ℕ (is_higher s) f (folders_that is_lower s)).0 i) in
      let both = and_parts (allowed_to s who f) (not (is_entry s who f)) p.1 in
      let u = under_allowed s who f shape both.0 (not-true (is_entry s who f) both.1) in
      let under : IsUnder s f = u.0 in
      let parent : ℕ = under.entry.parent in
      let above = parent_stands s f shape under in
      let told : parent_of_folder s f ≡ parent = parent_told s f shape under in
      let level : depth s f ≡ suc (depth s parent) = above.1 in
      let is_open : OpenBefore Higher Entered (λ f. lower_visit f ∷ []) lower_folders f (sub_of parent) = ⊎_elim
      (λ t. inl (inr (entry_sub parent above.0 t)))
      (λ t. inr (parent, is_lower_folder parent above.0 u.1 t, omega (arith, level), (edge 6 (sub_of (parent_of_folder s parent)) (sub_of parent), inl refl, refl)))
      (cases_Bool (is_entry s who parent)) in
      ((inr (inl (under.entry, under.stands, under.has_parent, inl (λ j. edge 6 (sub_of (told j)) (sub_of (sym under.is j))))), subst (λ n. OpenBefore Higher Entered (λ f. lower_visit f ∷ []) lower_folders f (sub_of n)) (sym told) is_open), tt)

  lowers_ordered : AreOrdered s Entered lowers
  unfolding lower_visits
  lowers_ordered =
      subst (AreOrdered s Entered) (flat_one lower_visit lower_folders)
      (ordered_in_order s Higher (λ a b. depth s a ≤ depth s b) (λ a b less more. absurd (omega (arith, less, more))) (λ a. omega arith) Entered (λ f. lower_visit f ∷ []) lower_folders one_lower
      (order_sorted (is_higher s) (λ a b. depth s a ≤ depth s b) (λ a b c p q. omega (arith, p, q)) (higher_told s) (higher_other s) (folders_that is_lower s)))

  sub_open : (f : ℕ) → HasFolder s f → allowed_to s who f ≡ true → Lowered (sub_of f)
  unfolding lower_visits edge
  sub_open f has allowed = ⊎_elim
      (λ t. inl (inr (entry_sub f has t)))
      (λ t. inr (edge 6 (sub_of (parent_of_folder s f)) (sub_of f), (In-map ℕ Visit lower_visit (lower_visit f) lower_folders).1 (f, is_lower_folder f has allowed t, refl), refl))
      (cases_Bool (is_entry s who f))

  -- ---- within allowed folders

  insides_ordered : AreOrdered s Lowered insides
  unfolding allowed_visits edge folder_edges
  insides_ordered =
      ordered_each s Lowered (λ f. ToKey (edge 4 (sub_of f) (back_of f)) ∷ ToKey (edge 5 (sub_of f) (files_of f)) ∷ []) (folders_that (allowed_to s who) s) (λ f i.
      let p = passing (allowed_to s who) s f i in
      let is_open = sub_open f p.0 p.1 in (
        (own_edge s f (edge 4 (sub_of f) (back_of f)) p.0 (inr (inr (inl refl))), is_open),
        ((own_edge s f (edge 5 (sub_of f) (files_of f)) p.0 (inr (inr (inr (inl refl)))), inl is_open), tt),
      ))

  inside_leads : (f : ℕ) → HasFolder s f → allowed_to s who f ≡ true → OneLeadsTo insides (back_of f) × OneLeadsTo insides (files_of f)
  unfolding allowed_visits edge
  inside_leads f has allowed =
      let visits : ℕ → List Visit = λ f. ToKey (edge 4 (sub_of f) (back_of f)) ∷ ToKey (edge 5 (sub_of f) (files_of f)) ∷ [] in
      let fs = folders_that (allowed_to s who) s in
      let i = passes (allowed_to s who) s f has allowed in
      let back = edge 4 (sub_of f) (back_of f) in
      let files = edge 5 (sub_of f) (files_of f) in (
        (back, (In-flat_map ℕ Visit visits (ToKey back) fs).1 (f, i, inl refl), refl),
        (files, (In-flat_map ℕ Visit visits (ToKey files) fs).1 (f, i, inr (inl refl)), refl),
      )

  -- ---- folders above

  abbrev is_upper : ℕ → Bool
  is_upper f = named_to s who f && not (allowed_to s who f)

  abbrev upper_folders : List ℕ
  upper_folders = in_order (is_deeper s) (folders_that is_upper s)

  abbrev is_child : ℕ → ℕ → Bool
  is_child f c = named_to s who c && (parent_of_folder s c == f)

  abbrev Deeper : ℕ → ℕ → Type 0
  Deeper a b = depth s b < depth s a

  is_upper_folder : (f : ℕ) → HasFolder s f → named_to s who f ≡ true → allowed_to s who f ≡ false → In f upper_folders
  is_upper_folder f has named other =
      (In-order ℕ (is_deeper s) f (folders_that is_upper s)).1
      (passes is_upper s f has (and_from (named_to s who f) (not (allowed_to s who f)) named (not_from_false (allowed_to s who f) other)))

  abbrev is_own_entry : ℕ → FileEntry → Bool
  is_own_entry f e = is_entry_file s who e && (e.folder == f)

  from_child : (f c : ℕ) (cs xs : List ℕ) → In c cs → OneLeadsTo (visit_from f cs xs) (back_of f)
  unfolding visit_from edge
  from_child f c [] xs i = absurd i
  from_child f c (d ∷ ds) xs i = (edge 8 (back_of d) (back_of f), inl refl, refl)

  from_file : (f x : ℕ) (cs xs : List ℕ) → In x xs → OneLeadsTo (visit_from f cs xs) (back_of f)
  unfolding visit_from edge
  from_file f x [] [] i = absurd i
  from_file f x [] (y ∷ ys) i = (edge 11 (clear_of (clear_number y)) (back_of f), inl refl, refl)
  from_file f x (d ∷ ds) xs i = (edge 8 (back_of d) (back_of f), inl refl, refl)

  over_leads : (f : ℕ) → named_to s who f ≡ true → allowed_to s who f ≡ false → OneLeadsTo (upper_visit s who f) (back_of f)
  unfolding upper_visit
  over_leads f named other = ⊎_elim
      (λ (w : IsOverNamed s who f).
      let child : FolderEntry = w.0 in
      let parent : parent_of_folder s child.id ≡ f = parent_is s child child.id shape w.1 refl ∙ w.2 in
      from_child f child.id (folders_that (is_child f) s) (files_that (is_own_entry f) s)
      (passes (is_child f) s child.id (child, w.1, refl) (and_from (named_to s who child.id) (parent_of_folder s child.id == f) w.3 (eq-eqb (parent_of_folder s child.id) f parent))))
      (λ (w : IsOverEntry s who f).
      let x : FileEntry = w.0 in
      from_file f x.id (folders_that (is_child f) s) (files_that (is_own_entry f) s)
      (files_pass (is_own_entry f) s x w.1 (and_from (is_entry_file s who x) (x.folder == f) w.3 (eq-eqb x.folder f w.2))))
      (over_named s who f shape named other)

  abbrev OpenBelow : ℕ → Role → Type 0
  OpenBelow = OpenBefore Deeper Inside (upper_visit s who) upper_folders

  from_below : (f : ℕ) → HasFolder s f → (cs xs : List ℕ) → ((c : ℕ) → In c cs → HasFolder s c × (is_child f c ≡ true)) →
      ((x : ℕ) → In x xs → (e : FileEntry) × In e s.files × (e.id ≡ x) × (is_own_entry f e ≡ true)) → AreOrdered s (OpenBelow f) (visit_from f cs xs)
  unfolding visit_from edge parent_edges clearance_edges
  from_below f has [] [] told files = tt
  from_below f has [] (x ∷ xs) told files =
      let w = files x (inl refl) in
      let e : FileEntry = w.0 in
      let both = and_parts (is_entry_file s who e) (e.folder == f) w.3 in
      let into : e.folder ≡ f = eqb-true e.folder f both.1 in
      let stands : IsEdge s (edge 11 (clear_of (clear_number e.id)) (back_of e.folder)) =
      clearance_edge s e (edge 11 (clear_of (clear_number e.id)) (back_of e.folder)) w.1 (entry_has_grants s who e both.0) (inr (inr (inl refl)))
      in
      let is_open : OpenBelow f (clear_of (clear_number e.id)) = inl (inl (inl (inr (entry_clearance e w.1 both.0)))) in
      ((rw (sym w.2, sym into) stands, subst (λ n. OpenBelow f (clear_of (clear_number n))) w.2 is_open), tt)
  from_below f has (c ∷ cs) xs told files =
      let first = told c (inl refl) in
      let both = and_parts (named_to s who c) (parent_of_folder s c == f) first.1 in
      let e : FolderEntry = first.0.0 in
      let parent : e.parent ≡ f = sym (parent_is s e c shape first.0.1 first.0.2) ∙ eqb-true (parent_of_folder s c) f both.1 in
      let under : IsUnder s c = record { entry = e; stands = first.0.1; is = first.0.2; has_parent = under_what_stands s e f shape parent has } in
      let level : depth s c ≡ suc (depth s e.parent) = (parent_stands s c shape under).1 in
      let here : depth s e.parent ≡ depth s f = ap (depth s) parent in
      let is_open : OpenBelow f (back_of c) = ⊎_elim
      (λ t. inl (inr (inside_leads c first.0 t).0))
      (λ t. inr (c, is_upper_folder c first.0 both.0 t, omega (arith, level, here), over_leads c both.0 t))
      (cases_Bool (allowed_to s who c)) in
      ((inr (inl (e, first.0.1, under.has_parent, inr (inl (λ j. edge 8 (back_of (sym first.0.2 j)) (back_of (sym parent j)))))), is_open), tt)

  one_upper : (f : ℕ) → In f upper_folders → AreOrdered s (OpenBefore Deeper Inside (upper_visit s who) upper_folders f) (upper_visit s who f)
  unfolding upper_visit
  one_upper f i =
      let p = passing is_upper s f ((In-order ℕ (is_deeper s) f (folders_that is_upper s)).0 i) in
      from_below f p.0 (folders_that (is_child f) s) (files_that (is_own_entry f) s) (λ c j. passing (is_child f) s c j) (λ x j. files_passing (is_own_entry f) s x j)

  uppers_ordered : AreOrdered s Inside uppers
  unfolding upper_visits
  uppers_ordered =
      ordered_in_order s Deeper (λ a b. depth s b ≤ depth s a) (λ a b less more. absurd (omega (arith, less, more))) (λ a. omega arith) Inside (upper_visit s who) upper_folders one_upper
      (order_sorted (is_deeper s) (λ a b. depth s b ≤ depth s a) (λ a b c p q. omega (arith, p, q)) (deeper_told s) (deeper_other s) (folders_that is_upper s))

  back_open : (f : ℕ) → HasFolder s f → named_to s who f ≡ true → Above (back_of f)
  unfolding upper_visits
  back_open f has named = ⊎_elim
      (λ t. inl (inr (inside_leads f has t).0))
      (λ t.
      let w = over_leads f named t in
      inr (w.0, (In-flat_map ℕ Visit (upper_visit s who) (ToKey w.0) upper_folders).1 (f, is_upper_folder f has named t, w.1), w.2))
      (cases_Bool (allowed_to s who f))

  -- ---- names and files

  titles_ordered : AreOrdered s Above (name_visits s who)
  unfolding name_visits edge folder_edges
  titles_ordered =
      ordered_each s Above (λ f. ToKey (edge 7 (back_of f) (data_of f)) ∷ ToName f ∷ []) (folders_that (named_to s who) s) (λ f i.
      let p = passing (named_to s who) s f i in
      ((own_edge s f (edge 7 (back_of f) (data_of f)) p.0 (inr (inr (inr (inr (inl refl))))), back_open f p.0 p.1), ((p.0, inr refl), tt)))

  -- the visits to names
  pub names_ordered : AreOrdered s (AtFirst who) (visits_to_names s who)
  unfolding visits_to_names
  names_ordered =
      let N = name_visits s who in
      ordered_both s (AtFirst who) entries (lowers ++ (insides ++ (uppers ++ N))) entries_ordered
      (ordered_both s Entered lowers (insides ++ (uppers ++ N)) lowers_ordered
      (ordered_both s Lowered insides (uppers ++ N) insides_ordered
      (ordered_both s Inside uppers N uppers_ordered titles_ordered)))

  -- what they open
  abbrev pub Named : Role → Type 0
  Named role = AtFirst who role ⊎ OneLeadsTo (visits_to_names s who) role

  files_open : (f : ℕ) → HasFolder s f → allowed_to s who f ≡ true → Named (files_of f)
  unfolding visits_to_names
  files_open f has allowed =
      let w = (inside_leads f has allowed).1 in
      let v : Visit = ToKey w.0 in
      let N = name_visits s who in
      let i = (In-append Visit v insides (uppers ++ N)).1 (inl w.1) in
      let j = (In-append Visit v lowers (insides ++ (uppers ++ N))).1 (inr i) in
      inr (w.0, (In-append Visit v entries (lowers ++ (insides ++ (uppers ++ N)))).1 (inr j), w.2)

  clearance_open : (x : FileEntry) → In x s.files → is_entry_file s who x ≡ true → Named (clear_of (clear_number x.id))
  unfolding visits_to_names
  clearance_open x i t =
      let w = entry_clearance x i t in
      inr (w.0, (In-append Visit (ToKey w.0) entries (lowers ++ (insides ++ (uppers ++ name_visits s who)))).1 (inl w.1), w.2)

  -- into a file that is allowed
  into_can : (x : FileEntry) → In x s.files → file_allowed_to s who x ≡ true → (b : Bool) → allowed_to s who x.folder ≡ b →
      CanVisit s Named (ToKey (cond b (file_edge x.folder x.id) (edge 10 (clear_of (clear_number x.id)) (file_role x.id))))
  unfolding file_edge edge
  into_can x i may true t = (inr (inr (inr (inl (x, i, refl)))), files_open x.folder (shape.file_folder x i) t)
  into_can x i may false t =
      let entry = allowed_entry s who x may t in
      (clearance_edge s x (edge 10 (clear_of (clear_number x.id)) (file_role x.id)) i (entry_has_grants s who x entry) (into_clearance_file x), clearance_open x i entry)

  into_to : (x f : ℕ) (b : Bool) → file_role x ≡ (cond b (file_edge f x) (edge 10 (clear_of (clear_number x)) (file_role x))).to
  unfolding file_edge edge
  into_to x f true = refl
  into_to x f false = refl

  -- the visits to allowed files behind them
  pub files_ordered : (xs : List ℕ) → AreFilesIn s who xs → AreOrdered s Named (file_visits s who xs)
  unfolding file_visits into_file
  files_ordered xs are =
      ordered_each s Named (λ x. ToKey (into_file s who x) ∷ ToFile x ∷ []) xs (λ x i.
      let w = are x i in
      let e : FileEntry = w.0 in
      let told : folder_of_file s e.id ≡ e.folder = folder_told s e e.id shape w.1 refl in
      let b : ℕ → Bool = λ f. allowed_to s who f in
      let can : CanVisit s Named (ToKey (cond (b e.folder) (file_edge e.folder e.id) (edge 10 (clear_of (clear_number e.id)) (file_role e.id)))) = into_can e w.1 w.3 (b e.folder) refl in
      let here : CanVisit s Named (ToKey (cond (b (folder_of_file s e.id)) (file_edge (folder_of_file s e.id) e.id) (edge 10 (clear_of (clear_number e.id)) (file_role e.id)))) =
      subst (λ f. CanVisit s Named (ToKey (cond (b f) (file_edge f e.id) (edge 10 (clear_of (clear_number e.id)) (file_role e.id))))) (sym told) can
      in
      (subst (λ n. CanVisit s Named (ToKey (into_file s who n))) w.2 here, (((e, w.1, w.2), inr (into_to x (folder_of_file s x) (b (folder_of_file s x)))), tt)))

  allowed_files : AreFilesIn s who (files_that (file_allowed_to s who) s)
  allowed_files x i = files_passing (file_allowed_to s who) s x i

  -- all visits
  pub all_ordered : AreOrdered s (AtFirst who) (all_visits s who)
  unfolding all_visits
  all_ordered =
      let xs = files_that (file_allowed_to s who) s in
      ordered_both s (AtFirst who) (visits_to_names s who) (file_visits s who xs) names_ordered (files_ordered xs allowed_files)

-- ---- what is visited stands

each_stands : (s : Store) (is_open : Role → Type 0) (vs : List Visit) → AreOrdered s is_open vs → (v : Visit) → In v vs → IsToStanding s v
each_stands s is_open [] ordered v i = absurd i
each_stands s is_open (w ∷ vs) ordered v i = ⊎_elim
    (λ (q : v ≡ w). subst (IsToStanding s) (sym q) (can_stand w ordered.0))
    (λ j. each_stands s (λ role. is_open role ⊎ LeadsTo w role) vs ordered.1 v j) i
  where
    can_stand : (w : Visit) → CanVisit s is_open w → IsToStanding s w
    can_stand (ToKey e) can = can.0
    can_stand (ToName f) can = can.0
    can_stand (ToFile x) can = can.0
    can_stand (ToHolder h) can = can.0

pub names_stand : (s : Store) (who : Who) → MayStand s → (v : Visit) → In v (visits_to_names s who) → IsToStanding s v
names_stand s who may = each_stands s (AtFirst who) (visits_to_names s who) (names_ordered s who (shape_of s may))

holder_stands : (s : Store) (v : Visit) → In v (holder_visits s) → IsToStanding s v
unfolding holder_visits
holder_stands s v i =
    let numbers = map (λ (e : HolderEntry). e.number) s.holders in
    let w = (In-map ℕ Visit ToHolder v (in_order nat_lt numbers)).0 i in
    let e = (In-map HolderEntry ℕ (λ e. e.number) w.0 s.holders).0 ((In-order ℕ nat_lt w.0 numbers).0 w.1) in
    subst (IsToStanding s) (sym w.2) (e.0, e.1, sym e.2)

clearance_stands : (s : Store) (v : Visit) → In v (clearance_visits s) → IsToStanding s v
unfolding clearance_visits clearance_edges
clearance_stands s v i =
    let test : FileEntry → Bool = λ e. has_grants s (clear_number e.id) in
    let go : ℕ → Visit = λ x. ToKey (edge 1 Owner (clear_of (clear_number x))) in
    let w = (In-map ℕ Visit go v (files_that test s)).0 i in
    let e = files_passing test s w.0 w.1 in
    subst (IsToStanding s) (sym (w.2 ∙ ap go (sym e.2))) (clearance_edge s e.0 (edge 1 Owner (clear_of (clear_number e.0.id))) e.1 e.3 (inl refl))

-- all that an owner visits stands
pub owners_stand : (s : Store) → MayStand s → (v : Visit) → In v (all_visits s TheOwner ++ writing_visits s) → IsToStanding s v
unfolding writing_visits
owners_stand s may v i = ⊎_elim
    (λ j. each_stands s (AtFirst TheOwner) (all_visits s TheOwner) (all_ordered s TheOwner (shape_of s may)) v j)
    (λ j. ⊎_elim (λ k. holder_stands s v k) (λ k. clearance_stands s v k) ((In-append Visit v (holder_visits s) (clearance_visits s)).0 j))
    ((In-append Visit v (all_visits s TheOwner) (writing_visits s)).0 i)
