-- What walks come to are the marks and the plans, in so many steps.
use Rattle.std.proofs.Common.{◌≡◌, ℕ, suc, ◌+◌, ◌*◌, ◌≤◌, true, false, cond, not, ◌↔◌, List, [], ◌∷◌, filter, length, refl, sym, ap, ◌∙◌, subst, arith}
use Rattle.cry_base.specs.Sets.{In, has}
use Rattle.cry_base.specs.declared.roles.Edge.{Edge}
use Rattle.cry_base.specs.declared.roles.Role.{Role}
use Rattle.cry_base.proofs.Members.{In-filter, filter-In}
use Rattle.role_graph.specs.Adjacent.{HaveSame, count_from, count_into, edges_but}
use Rattle.role_graph.specs.Ascending.{IsAscending}
use Rattle.role_graph.specs.Closing.{IsReached, IsLeading, turned}
use Rattle.role_graph.specs.Edges.{Reaches, edge, edge_before, edges, reach_along, same_edge, unordered}
use Rattle.role_graph.specs.Roles.{same_role}
use Rattle.cry_base.specs.Store.{Store}
use Rattle.role_graph.proofs.AtEnds.{counted_alike}
use Rattle.role_graph.proofs.Comparing.{reach_along_told, reach_one}
use Rattle.role_graph.proofs.Edging.{In-order}
use Rattle.role_graph.proofs.Growing.{one_reached, turned_told}
use Rattle.role_graph.proofs.Sifting.{edges_ordered}
use Rattle.role_graph.proofs.Walked.{count_same, count_within}
use Rattle.rekey_walk.specs.Dirty.{IsJoined, mark, plan}
use Rattle.rekey_walk.proofs.Planning.{marked_is, planned_is}
use Rattle.rekey_walk.proofs.Reordered.{plan_same, reaches_kept}

-- the same edges in another order
pub in_edges : (s : Store) (e : Edge) → In e (unordered s) → In e (edges s)
in_edges s e i = subst (λ (l : List Edge). In e l) (sym (edges_ordered s)) ((In-order Edge edge_before e (unordered s)).1 i)

pub in_unordered : (s : Store) (e : Edge) → In e (edges s) → In e (unordered s)
in_unordered s e i = (In-order Edge edge_before e (unordered s)).0 (subst (λ (l : List Edge). In e l) (edges_ordered s) i)

from_alike : (s : Store) (rs : List Role) → count_from (unordered s) rs ≡ count_from (edges s) rs
unfolding count_from
from_alike s rs = counted_alike s (λ e. has same_role rs e.from)

turned_count : (es : List Edge) (rs : List Role) → count_from (turned es) rs ≡ count_into es rs
unfolding count_from count_into turned edge
turned_count [] rs = refl
turned_count (e ∷ es) rs = elim (has same_role rs e.to) as (λ b. length (cond b (edge e.kind e.to e.from ∷ filter (λ x. has same_role rs x.from) (turned es)) (filter (λ x. has same_role rs x.from) (turned es))) ≡ length (cond b (e ∷ filter (λ x. has same_role rs x.to) es) (filter (λ x. has same_role rs x.to) es))) [
  | true ↦ ap suc (turned_count es rs)
  | false ↦ turned_count es rs
]

pub into_alike : (s : Store) (rs : List Role) → count_from (turned (unordered s)) rs ≡ count_into (edges s) rs
unfolding count_into
into_alike s rs = turned_count (unordered s) rs ∙ counted_alike s (λ e. has same_role rs e.to)

into_within : (es : List Edge) (rs : List Role) → count_into es rs ≤ length es
unfolding count_into
into_within [] rs = omega arith
into_within (e ∷ es) rs = let rest = into_within es rs in
    elim (has same_role rs e.to) as (λ b. length (cond b (e ∷ filter (λ x. has same_role rs x.to) es) (filter (λ x. has same_role rs x.to) es)) ≤ suc (length es)) [
      | true ↦ omega (arith, rest)
      | false ↦ omega (arith, rest)
    ]

pub none_but : (es : List Edge) → edges_but [] es ≡ es
unfolding edges_but has
none_but [] = refl
none_but (e ∷ es) = ap (λ l. e ∷ l) (none_but es)

-- what is left, in either order
pub but_in : (removed : List Edge) (es fs : List Edge) → ((e : Edge) → In e es → In e fs) → (e : Edge) → In e (edges_but removed es) → In e (edges_but removed fs)
unfolding edges_but
but_in removed es fs all e i =
    let both = In-filter Edge (λ x. not (has same_edge removed x)) e es i in
    filter-In Edge (λ x. not (has same_edge removed x)) e fs (all e both.0) both.1

-- ---- marks

module _ (s : Store) (target : Role) (set : List Role) (told : (r : Role) → In r set ↔ IsReached (edges_but [] (unordered s)) (target ∷ []) r) where
  reached : (r : Role) → In r set ↔ Reaches (edges s) target r
  reached r =
      let here = subst (λ (l : List Edge). In r set ↔ IsReached l (target ∷ []) r) (none_but (unordered s)) (told r) in (
        λ i. reaches_kept (unordered s) (edges s) (in_edges s) target r ((one_reached (unordered s) target r).0 (here.0 i)),
        λ way. here.1 ((one_reached (unordered s) target r).1 (reaches_kept (edges s) (unordered s) (in_unordered s) target r way)),
      )

  pub is_marked : (dirty new : List Role) → IsJoined dirty set new → new ≡ mark dirty (edges s) target
  is_marked dirty new joined = marked_is dirty (edges s) target set new joined.ascending reached joined.kept joined.added joined.all

  same_set : HaveSame set (reach_along (edges s) (target ∷ []))
  same_set r = (λ i. (reach_one (edges s) target r).1 ((reached r).0 i), λ j. (reached r).1 ((reach_one (edges s) target r).0 j))

  mark_steps : (before now : ℕ) → now ≤ before + 2 * count_from (unordered s) set + 1 → now ≤ before + 2 * count_from (edges s) (reach_along (edges s) (target ∷ [])) + 1
  mark_steps before now few =
      let e : count_from (unordered s) set ≡ count_from (edges s) (reach_along (edges s) (target ∷ [])) =
      from_alike s set ∙ count_same (edges s) set (reach_along (edges s) (target ∷ [])) same_set in
      omega (arith, few, e)

pub mark_walked : (s : Store) (target : Role) (before now : ℕ)
    → now ≤ before + 2 * count_from (unordered s) (reach_along (edges_but [] (unordered s)) (target ∷ [])) + 1
    → now ≤ before + 2 * count_from (edges s) (reach_along (edges s) (target ∷ [])) + 1
mark_walked s target before now few =
    mark_steps s target (reach_along (edges_but [] (unordered s)) (target ∷ [])) (reach_along_told (edges_but [] (unordered s)) (target ∷ [])) before now few

pub marked_whole : (es : List Edge) (rs : List Role) (before now : ℕ) → now ≤ before + 2 * count_from es rs + 1 → now ≤ before + 2 * length es + 1
marked_whole es rs before now few = let most = count_within es rs in omega (arith, few, most)

-- ---- plans

module _ (s : Store) (removed : List Edge) (wanted set : List Role) (told : (r : Role) → In r set ↔ IsReached (turned (edges_but removed (unordered s))) wanted r) where
  leading : (r : Role) → In r set ↔ IsLeading (edges_but removed (unordered s)) wanted r
  leading r = (
    λ i. (turned_told (edges_but removed (unordered s)) wanted r).0 ((told r).0 i),
    λ w. (told r).1 ((turned_told (edges_but removed (unordered s)) wanted r).1 w),
  )

  pub is_planned : (dirty : List Role) → IsAscending dirty → filter (has same_role set) dirty ≡ plan dirty (edges_but removed (edges s)) wanted
  is_planned dirty up =
      planned_is dirty (edges_but removed (unordered s)) wanted set up leading
      ∙ plan_same dirty (edges_but removed (unordered s)) (edges_but removed (edges s)) wanted
      (but_in removed (unordered s) (edges s) (in_edges s)) (but_in removed (edges s) (unordered s) (in_unordered s))

  pub same_leading : HaveSame set (reach_along (turned (edges_but removed (edges s))) wanted)
  same_leading r =
      let us = edges_but removed (unordered s) in
      let es = edges_but removed (edges s) in
      let computed = reach_along_told (turned es) wanted r in (
        λ i. computed.1 ((turned_told es wanted r).1 (let w = (leading r).0 i in
            (w.0, w.1, reaches_kept us es (but_in removed (unordered s) (edges s) (in_edges s)) r w.0 w.2))),
        λ j. (leading r).1 (let w = (turned_told es wanted r).0 (computed.0 j) in
            (w.0, w.1, reaches_kept es us (but_in removed (edges s) (unordered s) (in_unordered s)) r w.0 w.2)),
      )

  plan_steps : (before now : ℕ) → now ≤ before + 2 * count_from (turned (unordered s)) set + length wanted
      → now ≤ before + 2 * count_into (edges s) (reach_along (turned (edges_but removed (edges s))) wanted) + length wanted
  plan_steps before now few =
      let all = reach_along (turned (edges_but removed (edges s))) wanted in
      let e : count_from (turned (unordered s)) set ≡ count_into (edges s) all =
      count_same (turned (unordered s)) set all same_leading ∙ into_alike s all in
      omega (arith, few, e)

pub plan_walked : (s : Store) (removed : List Edge) (wanted : List Role) (before now : ℕ)
    → now ≤ before + 2 * count_from (turned (unordered s)) (reach_along (turned (edges_but removed (unordered s))) wanted) + length wanted
    → now ≤ before + 2 * count_into (edges s) (reach_along (turned (edges_but removed (edges s))) wanted) + length wanted
plan_walked s removed wanted before now few =
    let back = turned (edges_but removed (unordered s)) in
    plan_steps s removed wanted (reach_along back wanted) (reach_along_told back wanted) before now few

pub planned_whole : (es : List Edge) (rs : List Role) (before now n : ℕ) → now ≤ before + 2 * count_into es rs + n → now ≤ before + 2 * length es + n
planned_whole es rs before now n few = let most = into_within es rs in omega (arith, few, most)
