-- Where all behind a dirty role is dirty, a plan is what a walk comes to within the dirty roles.
use Rattle.std.proofs.Common.{◌≡◌, ◌==◌, true, ℕ, ◌+◌, ◌*◌, ◌≤◌, ◌↔◌, List, [], ◌∷◌, filter, length, Some, refl, sym, ap, ◌∙◌, subst, arith}
use Rattle.std.proofs.lemmas.Bool.{eqb-true}
use Rattle.cry_base.specs.Sets.{In, Path, has}
use Rattle.cry_base.specs.Sets.Path.{Here, On}
use Rattle.cry_base.specs.Store.{Store}
use Rattle.cry_base.specs.declared.roles.Edge.{Edge}
use Rattle.cry_base.specs.declared.roles.Role.{Role}
use Rattle.cry_base.proofs.Members.{In-map, In-filter, filter-In}
use Rattle.cry_base.proofs.Reaching.{has-in, in-has}
use Rattle.role_graph.specs.Adjacent.{HaveSame, count_from, count_into, edges_but, ending_in}
use Rattle.role_graph.specs.Ascending.{IsAscending}
use Rattle.role_graph.specs.Closing.{IsClosed, IsReached, turned}
use Rattle.role_graph.specs.Edges.{Reaches, edge, edges, pairs_of, unordered}
use Rattle.role_graph.specs.Roles.{same_role}
use Rattle.role_graph.proofs.Comparing.{same_role_tells}
use Rattle.role_graph.proofs.Growing.{closed_holds, turned_told}
use Rattle.role_graph.proofs.Rising.{same_list}
use Rattle.role_graph.proofs.Walked.{count_same, shorter}
use Rattle.rekey_walk.specs.Dirty.{plan}
use Rattle.rekey_walk.proofs.ByWalks.{but_in, in_edges, in_unordered, into_alike}
use Rattle.rekey_walk.proofs.Marking.{plan_told}
use Rattle.rekey_walk.proofs.Planning.{plan_ascends}
use Rattle.rekey_walk.proofs.Reordered.{reaches_kept}

is_dirty : (dirty : List Role) (r : Role) → In r dirty → has same_role dirty r ≡ true
is_dirty dirty r i = in-has Role same_role same_role_tells dirty r i

dirty_is : (dirty : List Role) (r : Role) → has same_role dirty r ≡ true → In r dirty
dirty_is dirty r t = has-in Role same_role same_role_tells dirty r t

no_roles : (rs : List Role) → (length rs == 0) ≡ true → rs ≡ []
no_roles [] none = refl
no_roles (r ∷ rs) none = absurd (let empty : length (r ∷ rs) ≡ 0 = eqb-true (length (r ∷ rs)) 0 none in omega (arith, empty))

-- the edges out of dirty roles
abbrev from_dirty : List Role → List Edge → List Edge
from_dirty dirty es = filter (λ e. has same_role dirty e.from) es

module _ (es : List Edge) (dirty : List Role) (closed : IsClosed es dirty) where
  dirty_pair : (a b : Role) → In a dirty → In {X = Role × Role} (a, b) (pairs_of es) → In {X = Role × Role} (a, b) (pairs_of (from_dirty dirty es))
  unfolding pairs_of
  dirty_pair a b d i =
      let w = (In-map Edge (Role × Role) (λ (e : Edge). (e.from, e.to)) (a, b) es).0 i in
      let there = filter-In Edge (λ e. has same_role dirty e.from) w.0 es w.1
      (is_dirty dirty w.0.from (subst (λ z. In z dirty) (ap (λ (p : Role × Role). p.0) w.2) d)) in
      (In-map Edge (Role × Role) (λ (e : Edge). (e.from, e.to)) (a, b) (from_dirty dirty es)).1 (w.0, there, w.2)

  -- a path out of a dirty role passes dirty roles alone
  pub dirty_way : {a c : Role} → In a dirty → Path (pairs_of es) a c → Path (pairs_of (from_dirty dirty es)) a c
  dirty_way d Here = Here
  dirty_way {a = a} d (On {b = b} {c = c} way step) = On (dirty_way d way) (dirty_pair b c (closed_holds es dirty closed a b d way) step)

  pub wanted_dirty : (wanted : List Role) (r : Role) → In r (plan dirty es wanted)
      → In r dirty × ((t : Role) × In t (filter (has same_role dirty) wanted) × Reaches es r t)
  wanted_dirty wanted r i =
      let w = (plan_told dirty es wanted r).0 i in
      let end = closed_holds es dirty closed r w.1.0 w.0 w.1.2 in
      (w.0, (w.1.0, filter-In Role (has same_role dirty) w.1.0 wanted w.1.1 (is_dirty dirty w.1.0 end), w.1.2))

  -- nothing is planned where no wanted role is dirty
  pub none_planned : (wanted from : List Role) → from ≡ filter (has same_role dirty) wanted → (length from == 0) ≡ true → from ≡ plan dirty es wanted
  none_planned wanted from is none =
      let empty = no_roles from none in
      empty ∙ same_list [] (plan dirty es wanted) tt (plan_ascends dirty es wanted) (λ r i. absurd i)
      (λ r i. let w = wanted_dirty wanted r i in absurd (subst (In w.1.0) (sym is ∙ empty) w.1.1))

module _ (s : Store) (removed : List Edge) (dirty wanted set : List Role)
    (closed : IsClosed (edges_but removed (edges s)) dirty)
    (told : (r : Role) → In r set ↔ IsReached (ending_in (Some dirty) (turned (edges_but removed (unordered s)))) (filter (has same_role dirty) wanted) r) where
  ends_dirty : IsClosed (ending_in (Some dirty) (turned (edges_but removed (unordered s)))) dirty
  unfolding ending_in
  ends_dirty e i from = dirty_is dirty e.to (In-filter Edge (λ x. has same_role dirty x.to) e (turned (edges_but removed (unordered s))) i).1

  walked : (e : Edge) → In e (ending_in (Some dirty) (turned (edges_but removed (unordered s)))) → In e (turned (edges_but removed (unordered s)))
  unfolding ending_in
  walked e i = (In-filter Edge (λ x. has same_role dirty x.to) e (turned (edges_but removed (unordered s))) i).0

  is_planned : (r : Role) → In r set → In r (plan dirty (edges_but removed (edges s)) wanted)
  is_planned r i =
      let us = edges_but removed (unordered s) in
      let es = edges_but removed (edges s) in
      let w = (told r).0 i in
      let start = In-filter Role (has same_role dirty) w.0 wanted w.1 in
      let lead = (turned_told us wanted r).0 (w.0, start.0, reaches_kept (ending_in (Some dirty) (turned us)) (turned us) walked w.0 r w.2) in
      (plan_told dirty es wanted r).1 (
        closed_holds (ending_in (Some dirty) (turned us)) dirty ends_dirty w.0 r (dirty_is dirty w.0 start.1) w.2,
        (lead.0, lead.1, reaches_kept us es (but_in removed (unordered s) (edges s) (in_edges s)) r lead.0 lead.2),
      )

  inside : (e : Edge) → In e (turned (from_dirty dirty (edges_but removed (edges s)))) → In e (ending_in (Some dirty) (turned (edges_but removed (unordered s))))
  unfolding turned ending_in edge
  inside e i =
      let us = edges_but removed (unordered s) in
      let es = edges_but removed (edges s) in
      let w = (In-map Edge Edge (λ x. edge x.kind x.to x.from) e (from_dirty dirty es)).0 i in
      let both = In-filter Edge (λ x. has same_role dirty x.from) w.0 es w.1 in
      filter-In Edge (λ x. has same_role dirty x.to) e (turned us)
      ((In-map Edge Edge (λ x. edge x.kind x.to x.from) e us).1 (w.0, but_in removed (edges s) (unordered s) (in_unordered s) w.0 both.0, w.2))
      (ap (λ (x : Edge). has same_role dirty x.to) w.2 ∙ both.1)

  is_walked : (r : Role) → In r (plan dirty (edges_but removed (edges s)) wanted) → In r set
  is_walked r i =
      let us = edges_but removed (unordered s) in
      let es = edges_but removed (edges s) in
      let from = filter (has same_role dirty) wanted in
      let w = wanted_dirty es dirty closed wanted r i in
      let back = (turned_told (from_dirty dirty es) from r).1 (w.1.0, w.1.1, dirty_way es dirty closed w.0 w.1.2) in
      (told r).1 (back.0, back.1, reaches_kept (turned (from_dirty dirty es)) (ending_in (Some dirty) (turned us)) inside back.0 r back.2)

  pub plan_walked : IsAscending set → set ≡ plan dirty (edges_but removed (edges s)) wanted
  plan_walked up = same_list set (plan dirty (edges_but removed (edges s)) wanted) up (plan_ascends dirty (edges_but removed (edges s)) wanted) is_planned is_walked

  pub plan_cost : (before now : ℕ) → now ≤ before + 2 * count_from (turned (unordered s)) set + length (filter (has same_role dirty) wanted)
      → now ≤ before + 2 * count_into (edges s) (plan dirty (edges_but removed (edges s)) wanted) + length wanted
  plan_cost before now few =
      let all = plan dirty (edges_but removed (edges s)) wanted in
      let same : HaveSame set all = λ r. (is_planned r, is_walked r) in
      let e : count_from (turned (unordered s)) set ≡ count_into (edges s) all = count_same (turned (unordered s)) set all same ∙ into_alike s all in
      let less = shorter Role (has same_role dirty) wanted in
      omega (arith, few, e, less)
