-- What a note that fits publishes is what comes, and of what stands the edges at renewed roles.
use Rattle.std.proofs.Common.{◌≡◌, ℕ, ◌+◌, Bool, true, false, cond, not, ◌==◌, ◌&&◌, ◌||◌, ◌⊎◌, List, [], ◌∷◌, ◌++◌, filter, inl, inr, ⊎_elim, refl, sym, ap, ◌∙◌, subst}
use Rattle.std.proofs.lemmas.Bool.{and_parts, eq-eqb, false_from_ne_true, false≢true, not-true, or_left}
use Rattle.std.proofs.lemmas.List.Elements.{filter-append}
use Rattle.std.proofs.lemmas.List.Folds.{list_any-append}
use Rattle.std.specs.List.{list_any}
use Rattle.cry_base.specs.Sets.{In, Tells, has}
use Rattle.cry_base.specs.Clearances.{clear_number, file_of}
use Rattle.cry_base.proofs.Versions.{file_number}
use Rattle.cry_base.specs.Stepping.{without_grant}
use Rattle.cry_base.specs.Store.{Store, has_grant, no_store, is_within, depth_of, folder_node}
use Rattle.cry_base.specs.Refusing.{height_of}
use Rattle.cry_base.specs.declared.roles.Edge.{Edge}
use Rattle.cry_base.specs.declared.roles.Role.{Role}
use Rattle.cry_base.proofs.Members.{In-append}
use Rattle.cry_base.proofs.Reaching.{has-in, in-has}
use Rattle.std.specs.Prelude.{Option, Some, None, nat_le}
use Rattle.role_graph.specs.Edges.{IsEdge, clearance_edges, edge, edge_before, edges, file_edge, folder_edges, grant_edge, has_grants, in_order, parent_edges, same_edge}
use Rattle.role_graph.specs.PublicStore.{public_store}
use Rattle.role_graph.specs.Roles.{back_of, clear_of, file_role, folder_roles, role_id, same_role, sub_of}
use Rattle.role_graph.proofs.Comparing.{same_role_tells}
use Rattle.role_graph.proofs.Edging.{In-order, edges_told}
use Rattle.role_graph.proofs.Sifting.{filters_turn, kept_in_order}
use Rattle.role_graph.proofs.AtEnds.{same_edge_tells, touches}
use Rattle.move_plan.specs.Change.{Change, change_of, row_change, edges_at, edges_of_first, edges_with_file, folder_of_file, given_on, no_change, parent_of_folder, taken_from, without_roles}
use Rattle.move_plan.specs.Fitting.{file_stands, fits, folder_stands, has_depth_left, is_other_folder, may_go_into, needs_root, row_fits}
use Rattle.record_format.specs.Noted.{Note}
use Rattle.record_format.specs.Noted.Note.{Root, NewHolder, NewFolder, NewFile, Rewrite, NameFile, NameFolder, DropFile, DropFolder, ShiftFile, ShiftFolder, Give, Take, StrictRoot, Upgrade}
use Rattle.public_fold.specs.KeyStep.{edges_left, edges_then, is_published, published_edges, without}
use Rattle.public_fold.specs.Rooted.{IsRooted, MayStand}
use Rattle.public_fold.specs.Standing.{PublicView, public_store_of}
use Rattle.public_fold.specs.Stepping.{IsOfFittingNote}
use Rattle.public_fold.proofs.EdgesThen.{apart, clear_kind, clear_touches, edge_cases, file_kind, grant_kind, is_parent_kind, left_told, own_no_parent, parent_child, parent_kind}
use Rattle.public_fold.proofs.EdgesAfter.{taken_elsewhere}
use Rattle.public_fold.proofs.RolesAfter.{HasFile}
use Rattle.public_fold.proofs.Rooting.{file_there}
use Rattle.public_fold.proofs.GrantLaws.{not_given_yet, not_granted}
use Rattle.public_fold.proofs.RowEnds.{no_edge}
use Rattle.public_fold.proofs.NoteMoves.{file_told, note_moves, parent_told}
use Rattle.public_fold.proofs.StepTold.{edges_seen}

-- ---- what comes doesn't stand

-- an edge with a new role at an end
abbrev HasNewEnd : Change → Edge → Type 0
HasNewEnd c e = In e.from c.fresh ⊎ In e.to c.fresh

own_new : (f : ℕ) (e : Edge) → In e (folder_edges f) → In e.to (folder_roles f)
unfolding folder_edges edge folder_roles
own_new f e i =
    let P : Edge → Type 0 = λ x. In x.to (folder_roles f) in ⊎_elim
    (λ q. subst P (sym q) (inl refl))
    (λ a. ⊎_elim (λ q. subst P (sym q) (inr (inl refl)))
    (λ b. ⊎_elim (λ q. subst P (sym q) (inr (inr (inl refl))))
    (λ c. ⊎_elim (λ q. subst P (sym q) (inr (inr (inr (inl refl)))))
    (λ d. ⊎_elim (λ q. subst P (sym q) (inr (inr (inr (inr (inl refl)))))) (λ n. absurd n) d) c) b) a) i

parent_new : (f p : ℕ) (e : Edge) → In e (parent_edges f p) → In e.from (folder_roles f) ⊎ In e.to (folder_roles f)
unfolding parent_edges edge folder_roles
parent_new f p e i =
    let P : Edge → Type 0 = λ x. In x.from (folder_roles f) ⊎ In x.to (folder_roles f) in ⊎_elim
    (λ q. subst P (sym q) (inr (inr (inl refl))))
    (λ a. ⊎_elim (λ q. subst P (sym q) (inl (inr (inr (inl refl))))) (λ n. absurd n) a) i

file_new : (f x : ℕ) (e : Edge) → In e (file_edge f x ∷ []) → In e.to (file_role x ∷ [])
unfolding file_edge edge
file_new f x e i = ⊎_elim (λ q. inl (ap (λ (z : Edge). z.to) q)) (λ n. absurd n) i

-- the number of the folder above, of an edge between a folder and its parent
above : Edge → ℕ
above e = cond (e.kind == 6) (role_id e.from) (role_id e.to)

parent_above : (f p : ℕ) (e : Edge) → In e (parent_edges f p) → above e ≡ p
unfolding parent_edges edge above sub_of back_of role_id
parent_above f p e i = ⊎_elim (λ s. ap above s) (λ a. ⊎_elim (λ s. ap above s) (λ n. absurd n) a) i

not_same : (m n : ℕ) → not (m == n) ≡ true → m ≡ n → ⊥
not_same m n other e = false≢true (sym (not-true (m == n) other) ∙ eq-eqb m n e)

-- the edges between a folder and another one than its parent
folder_elsewhere : (s : Store) (g q : ℕ) (e : Edge) → IsRooted s → not (parent_of_folder s g == q) ≡ true → In e (parent_edges g q) → IsEdge s e → ⊥
folder_elsewhere s g q e ok other i w =
    let kind = parent_kind g q e i in edge_cases ⊥ s e
    (λ o. apart (is_parent_kind e) (own_no_parent o.0.id e o.2) kind)
    (λ p.
    let number : p.0.id ≡ g = sym (parent_child p.0.id p.0.parent e p.3) ∙ parent_child g q e i in
    let parent : p.0.parent ≡ q = sym (parent_above p.0.id p.0.parent e p.3) ∙ parent_above g q e i in
    not_same (parent_of_folder s g) q other (parent_told s g ok (p.0, p.1, number) ∙ parent))
    (λ h. apart (is_parent_kind e) (grant_kind h.0.holder h.0.folder e h.2).2 kind)
    (λ y. apart (is_parent_kind e) (file_kind y.0.folder y.0.id e y.2).2 kind)
    (λ y. apart (is_parent_kind e) (clear_kind y.0.folder y.0.id e y.3).2 kind)
    w

row_of : (strict : Bool) (s : Store) (note : Note) → fits strict s note ≡ true → row_fits strict s note ≡ true
unfolding fits
row_of strict s note fit = (and_parts (row_fits strict s note) (not (needs_root note) || folder_stands s 1) fit).0

shifted_file : (strict : Bool) (s : Store) (x g : ℕ) → fits strict s (ShiftFile x g) ≡ true → HasFile s x × (not (folder_of_file s x == g) ≡ true)
unfolding row_fits
shifted_file strict s x g fit =
    let both = and_parts (file_stands s x && has_depth_left s g) (not (folder_of_file s x == g)) (row_of strict s (ShiftFile x g) fit) in
    (file_there s x (and_parts (file_stands s x) (has_depth_left s g) both.0).0, both.1)

-- what comes with a file that moves
moved_elsewhere : (strict : Bool) (s : Store) (x g : ℕ) (e : Edge) → fits strict s (ShiftFile x g) ≡ true → IsRooted s → In e (edges_with_file s g x) → IsEdge s e → ⊥
moved_elsewhere strict s x g e fit ok i =
    let told = shifted_file strict s x g fit in
    let w = told.0 in
    taken_elsewhere s w.0 g e w.1 (λ y j q. ok.own_file y w.0 j w.1 q) (λ q. not_same (folder_of_file s x) g told.1 (file_told s x ok w ∙ q)) (subst (λ n. In e (edges_with_file s g n)) (sym w.2) i)

-- and with a grant, where there is another one, and where it is a file's first one
abbrev again_give : ℕ → ℕ → Change
again_give h f = record no_change { added = grant_edge h f ∷ [] }

abbrev first_give : Store → ℕ → ℕ → ℕ → Change
first_give s h f x = record no_change { fresh = clear_of f ∷ []; added = in_order edge_before (grant_edge h (clear_number x) ∷ clearance_edges (folder_of_file s x) x) }

again_new : (s : Store) (h f : ℕ) (e : Edge) → has_grant s h f ≡ false → In e (again_give h f).added → IsEdge s e → ⊥
unfolding no_change
again_new s h f e none i w = not_granted s h f none (⊎_elim (λ (q : e ≡ grant_edge h f). subst (λ z. In z (edges s)) q ((edges_told s e).1 w)) (λ n. absurd n) i)

first_new : (s : Store) (h f x : ℕ) (e : Edge) → f ≡ clear_number x → has_grant s h f ≡ false → In e (first_give s h f x).added → HasNewEnd (first_give s h f x) e ⊎ (IsEdge s e → ⊥)
unfolding no_change
first_new s h f x e number none i = ⊎_elim
    (λ q. inr (λ w. not_granted s h f none (subst (λ z. In z (edges s)) (q ∙ ap (grant_edge h) (sym number)) ((edges_told s e).1 w))))
    (λ k. inl (⊎_elim (λ q. inl (inl (q ∙ ap clear_of (sym number)))) (λ q. inr (inl (q ∙ ap clear_of (sym number)))) (clear_touches (folder_of_file s x) x e k)))
    ((In-order Edge edge_before e (grant_edge h (clear_number x) ∷ clearance_edges (folder_of_file s x) x)).0 i)

given_new : (s : Store) (h f : ℕ) (o : Option ℕ) (e : Edge) → file_of f ≡ o → has_grant s h f ≡ false → In e (given_on s h f o).added → HasNewEnd (given_on s h f o) e ⊎ (IsEdge s e → ⊥)
unfolding given_on edges_of_first
given_new s h f None e number none i = inr (again_new s h f e none i)
given_new s h f (Some x) e number none i = by (has_grants s f) i
  where
    by : (b : Bool) → In e (cond b (again_give h f) (first_give s h f x)).added → HasNewEnd (cond b (again_give h f) (first_give s h f x)) e ⊎ (IsEdge s e → ⊥)
    by true j = inr (again_new s h f e none j)
    by false j = first_new s h f x e (file_number f x number) none j

shifted_folder : (strict : Bool) (s : Store) (g q : ℕ) → fits strict s (ShiftFolder g q) ≡ true → not (parent_of_folder s g == q) ≡ true
unfolding row_fits may_go_into
shifted_folder strict s g q fit =
    let a = and_parts (is_other_folder s g && folder_stands s q && not (parent_of_folder s g == q) && not (is_within s q g)) (nat_le (depth_of s (folder_node q) + 1 + height_of s (Some (folder_node g))) 64) (row_of strict s (ShiftFolder g q) fit) in
    let b = and_parts (is_other_folder s g && folder_stands s q && not (parent_of_folder s g == q)) (not (is_within s q g)) a.0 in
    (and_parts (is_other_folder s g && folder_stands s q) (not (parent_of_folder s g == q)) b.0).1

-- nothing comes when a grant goes
taken_adds : (s : Store) (h f : ℕ) (o : Option ℕ) (e : Edge) → In e (taken_from s h f o).added → ⊥
unfolding taken_from without_roles no_change
taken_adds s h f None e i = i
taken_adds s h f (Some x) e i = by (has_grants (without_grant s h f) f) i
  where
    by : (b : Bool) → In e (cond b (record no_change { removed = grant_edge h f ∷ []; wanted = clear_of f ∷ [] }) (record no_change { removed = edges_at s (clear_of f ∷ []); gone = clear_of f ∷ [] })).added → ⊥
    by true j = j
    by false j = j

-- what comes has a new role at an end, or doesn't stand
added_new : (strict : Bool) (s : Store) (note : Note) (e : Edge) → fits strict s note ≡ true → IsRooted s → In e (row_change s note).added → HasNewEnd (row_change s note) e ⊎ (IsEdge s e → ⊥)
unfolding row_change without_roles no_change
added_new strict s Root e fit ok i = inl (inr (own_new 1 e i))
added_new strict s (NewHolder h check) e fit ok i = absurd i
added_new strict s (NewFolder f p) e fit ok i = inl (⊎_elim (λ a. inr (own_new f e a)) (λ b. parent_new f p e b)
    ((In-append Edge e (folder_edges f) (parent_edges f p)).0 ((In-order Edge edge_before e (folder_edges f ++ parent_edges f p)).0 i)))
added_new strict s (NewFile x f) e fit ok i = inl (inr (file_new f x e i))
added_new strict s (Rewrite x) e fit ok i = absurd i
added_new strict s (NameFile x) e fit ok i = absurd i
added_new strict s (NameFolder f) e fit ok i = absurd i
added_new strict s (DropFile x) e fit ok i = absurd i
added_new strict s (DropFolder f) e fit ok i = absurd i
added_new strict s (ShiftFile x g) e fit ok i = inr (moved_elsewhere strict s x g e fit ok i)
added_new strict s (ShiftFolder g q) e fit ok i = inr (folder_elsewhere s g q e ok (shifted_folder strict s g q fit) i)
added_new strict s (Give h f) e fit ok i = given_new s h f (file_of f) e refl (not_given_yet strict s h f fit) i
added_new strict s (Take h f) e fit ok i = absurd (taken_adds s h f (file_of f) e i)
added_new strict s StrictRoot e fit ok i = inl (inr (own_new 1 e i))
added_new strict s Upgrade e fit ok i = absurd i

-- ---- tests of what is published

none_has : (X : Type 0) (same : X → X → Bool) → Tells same → (xs : List X) (x : X) → (In x xs → ⊥) → has same xs x ≡ false
none_has X same tells xs x out = false_from_ne_true (has same xs x) (λ t. out (has-in X same tells xs x t))

or_none : (b : Bool) → (b || false) ≡ b
or_none true = refl
or_none false = refl

has_first : (rs fresh : List Role) (r : Role) → (In r fresh → ⊥) → has same_role (rs ++ fresh) r ≡ has same_role rs r
unfolding has
has_first rs fresh r out =
    list_any-append (same_role r) rs fresh
    ∙ ap (λ b. list_any (same_role r) rs || b) (none_has Role same_role same_role_tells fresh r out)
    ∙ or_none (list_any (same_role r) rs)

all_kept : (p : Edge → Bool) (xs : List Edge) → ((x : Edge) → In x xs → p x ≡ true) → filter p xs ≡ xs
all_kept p [] all = refl
all_kept p (x ∷ xs) all = ap (λ b. cond b (x ∷ filter p xs) (filter p xs)) (all x (inl refl)) ∙ ap (λ l. x ∷ l) (all_kept p xs (λ y i. all y (inr i)))

kept_alike : (p q : Edge → Bool) (xs : List Edge) → ((x : Edge) → In x xs → p x ≡ q x) → filter p xs ≡ filter q xs
kept_alike p q [] same = refl
kept_alike p q (x ∷ xs) same = λ i. cond (same x (inl refl) i) (x ∷ kept_alike p q xs (λ y j. same y (inr j)) i) (kept_alike p q xs (λ y j. same y (inr j)) i)

pub added_published : (c : Change) (again : List Role) → filter (is_published c again) c.added ≡ c.added
unfolding is_published
added_published c again = all_kept (is_published c again) c.added (λ e i.
    or_left (has same_edge c.added e || has same_role (again ++ c.fresh) e.from) (has same_role (again ++ c.fresh) e.to)
    (or_left (has same_edge c.added e) (has same_role (again ++ c.fresh) e.from) (in-has Edge same_edge same_edge_tells c.added e i)))

module _ (strict : Bool) (s : Store) (note : Note) (fit : fits strict s note ≡ true) (stands : MayStand s) where
  -- an edge that stands has no new role at an end, and doesn't come
  no_new_end : (e : Edge) → IsEdge s e → HasNewEnd (change_of strict s note) e → ⊥
  no_new_end e w new =
      let moves = note_moves strict s note fit stands in
      let ends = moves.ends_before e w in
      ⊎_elim (λ f. moves.fresh_is_new e.from f ends.0) (λ f. moves.fresh_is_new e.to f ends.1) new

  not_added : (e : Edge) → IsEdge s e → In e (change_of strict s note).added → ⊥
  unfolding change_of
  not_added e w a = ⊎_elim
      (λ (none : s ≡ no_store). no_edge e (subst (λ z. IsEdge z e) none w))
      (λ ok. ⊎_elim (λ n. no_new_end e w n) (λ out. out w) (added_new strict s note e fit ok a)) stands

  pub left_touches : (again : List Role) (e : Edge) → In e (edges_left (edges s) (change_of strict s note)) → is_published (change_of strict s note) again e ≡ touches again e
  unfolding is_published
  left_touches again e i =
      let c = change_of strict s note in
      let w = (edges_told s e).0 ((left_told (edges s) c e).0 i).0 in
      let comes : has same_edge c.added e ≡ false = none_has Edge same_edge same_edge_tells c.added e (not_added e w) in
      let from : has same_role (again ++ c.fresh) e.from ≡ has same_role again e.from = has_first again c.fresh e.from (λ f. no_new_end e w (inl f)) in
      let to : has same_role (again ++ c.fresh) e.to ≡ has same_role again e.to = has_first again c.fresh e.to (λ f. no_new_end e w (inr f)) in
      λ i. (comes i || from i) || to i

  pub found_edges : (again : List Role)
      → in_order edge_before (without same_edge (change_of strict s note).removed (filter (touches again) (edges s)) ++ (change_of strict s note).added) ≡ published_edges (edges s) (change_of strict s note) again
  unfolding published_edges edges_then edges_left without
  found_edges again =
      let c = change_of strict s note in
      let left = edges_left (edges s) c in
      let stay : Edge → Bool = λ e. not (has same_edge c.removed e) in
      let kept : filter (is_published c again) left ≡ filter stay (filter (touches again) (edges s)) =
      kept_alike (is_published c again) (touches again) left (left_touches again) ∙ filters_turn Edge (touches again) stay (edges s) in
      sym (kept_in_order (is_published c again) (left ++ c.added)
      ∙ ap (λ (l : List Edge). in_order edge_before l) (filter-append (is_published c again) left c.added ∙ (λ i. kept i ++ added_published c again i)))

-- the same of a state and the change of a note that fits it
pub found_for : (v : PublicView) (c : Change) → MayStand (public_store_of v) → IsOfFittingNote (public_store_of v) c → (again : List Role)
    → in_order edge_before (without same_edge c.removed (filter (touches again) (edges (public_store v.tree v.pairs))) ++ c.added) ≡ published_edges (edges (public_store v.tree v.pairs)) c again
found_for v c stands told again =
    let s = public_store_of v in
    let here : in_order edge_before (without same_edge c.removed (filter (touches again) (edges s)) ++ c.added) ≡ published_edges (edges s) c again =
    subst (λ (x : Change). in_order edge_before (without same_edge x.removed (filter (touches again) (edges s)) ++ x.added) ≡ published_edges (edges s) x again) (sym told.3) (found_edges told.1 s told.0 told.2 stands again) in
    subst (λ (es : List Edge). in_order edge_before (without same_edge c.removed (filter (touches again) es) ++ c.added) ≡ published_edges es c again) (sym (edges_seen v)) here
