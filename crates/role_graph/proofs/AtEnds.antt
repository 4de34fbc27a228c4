-- What is found at some roles, sorted and without repeats, is what the store's edges have at these.
use Rattle.std.proofs.Common.{◌≡◌, ℕ, zero, suc, ◌+◌, ◌<◌, ◌≤◌, Bool, true, false, cond, ◌==◌, ◌&&◌, ◌||◌, ◌⊎◌, List, [], ◌∷◌, ◌++◌, Option, None, Some, filter, get_or, length, take, arith, inl, inr, ⊎_elim, refl, sym, ap, ◌∙◌, subst}
use Rattle.std.proofs.lemmas.Bool.{and_from, and_parts, eq-eqb, eqb-true, false≢true, or_cases, or_left, or_right, true_from_ne_false}
use Rattle.std.proofs.lemmas.List.{append_assoc, length-append}
use Rattle.cry_base.specs.Sets.{In, Tells, has}
use Rattle.cry_base.specs.Store.{Store}
use Rattle.cry_base.specs.declared.roles.Edge.{Edge}
use Rattle.cry_base.specs.declared.roles.Role.{Role}
use Rattle.cry_base.proofs.Members.{In-append, In-filter, In-flat_map, filter-In}
use Rattle.cry_base.proofs.Reaching.{has-in, in-has}
use Rattle.folder_nodes.specs.Trees.{IsTree}
use Rattle.grant_book.specs.Granted.{AreOrdered}
use Rattle.role_graph.specs.Adjacent.{at_role, at_roles, into, is_repeat, once_after, out_of}
use Rattle.role_graph.specs.Edges.{edge_before, edges, in_order, put_in_order, same_edge, unordered}
use Rattle.role_graph.specs.PublicStore.{FoldersBelow}
use Rattle.role_graph.specs.Roles.{same_role}
use Rattle.role_graph.proofs.Comparing.{same_role_tells}
use Rattle.role_graph.proofs.Edging.{In-order}
use Rattle.role_graph.proofs.EdgesOnce.{edges_once, none_tie}
use Rattle.role_graph.proofs.Once.{Climbs, NoneTie, climbs, once_filter, once_order, one_climb}
use Rattle.role_graph.proofs.Ordered.{Rises, order_rises}
use Rattle.role_graph.proofs.Sifting.{edges_ordered, edges_rank, kept_in_order}

-- edges are compared by kind and ends
pub same_edge_tells : Tells same_edge
unfolding same_edge
same_edge_tells a b = (
  λ t.
      let both = and_parts (a.kind == b.kind && same_role a.from b.from) (same_role a.to b.to) t in
      let first = and_parts (a.kind == b.kind) (same_role a.from b.from) both.0 in
      let kind = eqb-true a.kind b.kind first.0 in
      let from = (same_role_tells a.from b.from).0 first.1 in
      let to = (same_role_tells a.to b.to).0 both.1 in
      λ i. record { kind = kind i; from = from i; to = to i },
  λ e. and_from (a.kind == b.kind && same_role a.from b.from) (same_role a.to b.to)
      (and_from (a.kind == b.kind) (same_role a.from b.from) (eq-eqb a.kind b.kind (ap (λ (x : Edge). x.kind) e)) ((same_role_tells a.from b.from).1 (ap (λ (x : Edge). x.from) e)))
      ((same_role_tells a.to b.to).1 (ap (λ (x : Edge). x.to) e)),
)

-- ---- as many in either order

length_put : (e : Edge) (es : List Edge) → length (put_in_order edge_before e es) ≡ suc (length es)
unfolding put_in_order
length_put e [] = refl
length_put e (x ∷ xs) = elim (edge_before x e) as (λ b. length (cond b (x ∷ put_in_order edge_before e xs) (e ∷ x ∷ xs)) ≡ suc (suc (length xs))) [
  | true ↦ ap suc (length_put e xs)
  | false ↦ refl
]

length_ordered : (es : List Edge) → length (in_order edge_before es) ≡ length es
unfolding in_order
length_ordered [] = refl
length_ordered (e ∷ es) = length_put e (in_order edge_before es) ∙ ap suc (length_ordered es)

pub counted_alike : (s : Store) (p : Edge → Bool) → length (filter p (unordered s)) ≡ length (filter p (edges s))
counted_alike s p =
    sym (length_ordered (filter p (unordered s))) ∙ ap (λ (l : List Edge). length l) (sym (kept_in_order p (unordered s)))
    ∙ ap (λ (l : List Edge). length (filter p l)) (sym (edges_ordered s))

-- as many edges at some roles, in either order
pub at_alike : (s : Store) (rs : List Role) → length (at_roles (unordered s) rs) ≡ length (at_roles (edges s) rs)
unfolding at_roles at_role out_of into
at_alike s [] = refl
at_alike s (r ∷ rs) =
    length-append (at_role (unordered s) r) (at_roles (unordered s) rs)
    ∙ (λ i. both i + at_alike s rs i)
    ∙ sym (length-append (at_role (edges s) r) (at_roles (edges s) rs))
  where
    both : length (at_role (unordered s) r) ≡ length (at_role (edges s) r)
    both =
        length-append (out_of (unordered s) r) (into (unordered s) r)
        ∙ (λ i. counted_alike s (λ e. same_role e.from r) i + counted_alike s (λ e. same_role e.to r) i)
        ∙ sym (length-append (out_of (edges s) r) (into (edges s) r))

-- those at some of the roles, and at the one behind these, are no more than those at all
pub listed_within : (es : List Edge) (rs : List Role) (i : ℕ) (d : Role) → i < length rs
    → length (at_roles es (take i rs)) + length (at_role es (get_or rs i d)) ≤ length (at_roles es rs)
unfolding at_roles
listed_within es [] i d less = omega (arith, less)
listed_within es (r ∷ rs) zero d less = let all = length-append (at_role es r) (at_roles es rs) in omega (arith, all)
listed_within es (r ∷ rs) (suc i) d less =
    let rest = listed_within es rs i d (omega (arith, less)) in
    let some = length-append (at_role es r) (at_roles es (take i rs)) in
    let all = length-append (at_role es r) (at_roles es rs) in
    omega (arith, rest, some, all)

-- ---- without repeats

-- one edge more
pub once_goes_on : (l : List Edge) (last : Option Edge) (e : Edge) (es : List Edge) → cond (is_repeat last e) l (l ++ e ∷ []) ++ once_after (Some e) es ≡ l ++ once_after last (e ∷ es)
unfolding once_after
once_goes_on l last e es =
    let rest = once_after (Some e) es in
    elim (is_repeat last e) as (λ b. cond b l (l ++ e ∷ []) ++ rest ≡ l ++ cond b rest (e ∷ rest)) [
      | true ↦ refl
      | false ↦ append_assoc l (e ∷ []) rest
    ]

after_in : (last : Option Edge) (es : List Edge) (e : Edge) → In e (once_after last es) → In e es
unfolding once_after
after_in last [] e = λ i. i
after_in last (x ∷ xs) e = elim (is_repeat last x) as (λ b. In e (cond b (once_after (Some x) xs) (x ∷ once_after (Some x) xs)) → In e (x ∷ xs)) [
  | true ↦ λ i. inr (after_in (Some x) xs e i)
  | false ↦ λ i. ⊎_elim (λ s. inl s) (λ j. inr (after_in (Some x) xs e j)) i
]

in_after : (last : Edge) (es : List Edge) (e : Edge) → In e (last ∷ es) → In e (last ∷ once_after (Some last) es)
unfolding once_after is_repeat
in_after last [] e i = i
in_after last (x ∷ xs) e i = (elim (same_edge last x) as (λ b. same_edge last x ≡ b → In e (last ∷ cond b (once_after (Some x) xs) (x ∷ once_after (Some x) xs))) [
  | true ↦ λ t.
      let same : last ≡ x = (same_edge_tells last x).0 t in ⊎_elim
      (λ s. inl s)
      (λ j. ⊎_elim (λ (s : e ≡ x). inl (s ∙ sym same)) (λ k. inr k) (in_after x xs e j)) i
  | false ↦ λ t. ⊎_elim (λ s. inl s) (λ j. inr (in_after x xs e j)) i
]) refl

all_in : (es : List Edge) (e : Edge) → In e es → In e (once_after None es)
unfolding once_after is_repeat
all_in [] e i = i
all_in (x ∷ xs) e i = in_after x xs e i

climbs_on : (last : Edge) (es : List Edge) → Rises Edge edge_before (last ∷ es) → NoneTie Edge edge_before (last ∷ es) → Climbs Edge edge_before (last ∷ once_after (Some last) es)
unfolding once_after is_repeat
climbs_on last [] up alone = (λ y i. absurd i, tt)
climbs_on last (x ∷ xs) up alone =
    let rest : Climbs Edge edge_before (x ∷ once_after (Some x) xs) = climbs_on x xs up.1 (λ y z i j. alone y z (inr i) (inr j)) in
    (elim (same_edge last x) as (λ b. same_edge last x ≡ b → Climbs Edge edge_before (last ∷ cond b (once_after (Some x) xs) (x ∷ once_after (Some x) xs))) [
      | true ↦ λ t. subst (λ z. Climbs Edge edge_before (z ∷ once_after (Some x) xs)) (sym ((same_edge_tells last x).0 t)) rest
      | false ↦ λ t. (
        λ y i. true_from_ne_false (edge_before last y) (λ f.
            let there : In y (x ∷ xs) = ⊎_elim (λ s. inl s) (λ j. inr (after_in (Some x) xs y j)) i in
            let e : last ≡ y = alone last y (inl refl) (inr there) f (up.0 y there) in ⊎_elim
            (λ (s : y ≡ x). false≢true (sym t ∙ (same_edge_tells last x).1 (e ∙ s)))
            (λ j. false≢true (sym (up.0 x (inl refl)) ∙ subst (λ z. edge_before x z ≡ true) (sym e) (rest.0 y j))) i),
        rest,
      )
    ]) refl

climbs_once : (es : List Edge) → Rises Edge edge_before es → NoneTie Edge edge_before es → Climbs Edge edge_before (once_after None es)
unfolding once_after is_repeat
climbs_once [] up alone = tt
climbs_once (x ∷ xs) up alone = climbs_on x xs up alone

-- ---- what touches some roles

abbrev pub touches : List Role → Edge → Bool
touches rs e = has same_role rs e.from || has same_role rs e.to

abbrev Touching : List Edge → List Role → Edge → Type 0
Touching es rs e = In e es × (In e.from rs ⊎ In e.to rs)

kept_told : (es : List Edge) (rs : List Role) (e : Edge) → In e (filter (touches rs) es) → Touching es rs e
kept_told es rs e i =
    let w = In-filter Edge (touches rs) e es i in (
      w.0,
      ⊎_elim (λ t. inl (has-in Role same_role same_role_tells rs e.from t)) (λ t. inr (has-in Role same_role same_role_tells rs e.to t))
          (or_cases (has same_role rs e.from) (has same_role rs e.to) w.1),
    )

told_kept : (es : List Edge) (rs : List Role) (e : Edge) → Touching es rs e → In e (filter (touches rs) es)
told_kept es rs e w = filter-In Edge (touches rs) e es w.0 (⊎_elim
    (λ i. or_left (has same_role rs e.from) (has same_role rs e.to) (in-has Role same_role same_role_tells rs e.from i))
    (λ i. or_right (has same_role rs e.from) (has same_role rs e.to) (in-has Role same_role same_role_tells rs e.to i)) w.1)

listed_told : (es : List Edge) (rs : List Role) (e : Edge) → In e (at_roles es rs) → Touching es rs e
unfolding at_roles at_role out_of into
listed_told es rs e i =
    let w = (In-flat_map Role Edge (at_role es) e rs).0 i in
    let r = w.0 in ⊎_elim
    (λ a. let p = In-filter Edge (λ x. same_role x.from r) e es a in (p.0, inl (subst (λ z. In z rs) (sym ((same_role_tells e.from r).0 p.1)) w.1)))
    (λ b. let p = In-filter Edge (λ x. same_role x.to r) e es b in (p.0, inr (subst (λ z. In z rs) (sym ((same_role_tells e.to r).0 p.1)) w.1)))
    ((In-append Edge e (filter (λ x. same_role x.from r) es) (filter (λ x. same_role x.to r) es)).0 w.2)

told_listed : (es : List Edge) (rs : List Role) (e : Edge) → Touching es rs e → In e (at_roles es rs)
unfolding at_roles at_role out_of into
told_listed es rs e w =
    let all = (In-flat_map Role Edge (at_role es) e rs).1 in
    let at = λ (r : Role). (In-append Edge e (filter (λ x. same_role x.from r) es) (filter (λ x. same_role x.to r) es)).1 in ⊎_elim
    (λ i. all (e.from, i, at e.from (inl (filter-In Edge (λ x. same_role x.from e.from) e es w.0 ((same_role_tells e.from e.from).1 refl)))))
    (λ i. all (e.to, i, at e.to (inr (filter-In Edge (λ x. same_role x.to e.to) e es w.0 ((same_role_tells e.to e.to).1 refl))))) w.1

module _ (s : Store) (tree : IsTree s) (below : FoldersBelow s) (ordered : AreOrdered s.grants) (rs : List Role) where
  found : List Edge
  found = in_order edge_before (at_roles (unordered s) rs)

  stood : List Edge
  stood = in_order edge_before (filter (touches rs) (unordered s))

  in_edges : (e : Edge) → In e (unordered s) → In e (edges s)
  in_edges e i = subst (λ (l : List Edge). In e l) (sym (edges_ordered s)) ((In-order Edge edge_before e (unordered s)).1 i)

  found_told : (e : Edge) → In e found → Touching (unordered s) rs e
  unfolding found
  found_told e i = listed_told (unordered s) rs e ((In-order Edge edge_before e (at_roles (unordered s) rs)).0 i)

  stood_told : (e : Edge) → In e stood → Touching (unordered s) rs e
  unfolding stood
  stood_told e i = kept_told (unordered s) rs e ((In-order Edge edge_before e (filter (touches rs) (unordered s))).0 i)

  found_climbs : Climbs Edge edge_before (once_after None found)
  unfolding found
  found_climbs = climbs_once found (order_rises Edge edge_before edges_rank (at_roles (unordered s) rs)) (none_tie s found (λ e i. in_edges e (found_told e i).0))

  stood_climbs : Climbs Edge edge_before stood
  unfolding stood
  stood_climbs = climbs Edge edge_before stood (order_rises Edge edge_before edges_rank (filter (touches rs) (unordered s)))
      (once_order Edge edge_before (filter (touches rs) (unordered s)) (once_filter Edge (touches rs) (unordered s) (edges_once s tree below ordered)))
      (none_tie s stood (λ e i. in_edges e (stood_told e i).0))

  pub touching_is : once_after None (in_order edge_before (at_roles (unordered s) rs)) ≡ filter (touches rs) (edges s)
  unfolding found stood
  touching_is =
      one_climb Edge edge_before edges_rank (once_after None found) stood found_climbs stood_climbs
      (λ e i. (In-order Edge edge_before e (filter (touches rs) (unordered s))).1 (told_kept (unordered s) rs e (found_told e (after_in None found e i))))
      (λ e i. all_in found e ((In-order Edge edge_before e (at_roles (unordered s) rs)).1 (told_listed (unordered s) rs e (stood_told e i))))
      ∙ sym (kept_in_order (touches rs) (unordered s))
      ∙ ap (filter (touches rs)) (sym (edges_ordered s))
