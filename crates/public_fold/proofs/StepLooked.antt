-- What a step looks up is within the bound.
use Rattle.std.proofs.Common.{◌≡◌, ◌≤◌, ◌+◌, ◌*◌, ℕ, List, ◌++◌, length, map, arith, refl, ap, ◌∙◌}
use Rattle.cry_base.specs.Store.{Store}
use Rattle.cry_base.specs.declared.roles.Edge.{Edge}
use Rattle.cry_base.specs.declared.roles.Role.{Role}
use Rattle.role_graph.specs.Adjacent.{count_into, edges_but}
use Rattle.role_graph.specs.Ascending.{ascending}
use Rattle.role_graph.specs.Edges.{edges}
use Rattle.role_graph.specs.Roles.{same_role}
use Rattle.rekey_walk.specs.Dirty.{mark_all, plan}
use Rattle.move_plan.specs.Change.{Change}
use Rattle.public_fold.specs.KeyStep.{KeyState, dirty_left, planned, renewed, without}
use Rattle.public_fold.specs.LookUps.{mark_look_ups, plan_look_ups, publish_look_ups, step_look_ups}
use Rattle.public_fold.specs.Stepping.{marks_alone}
use Rattle.public_fold.proofs.DueMade.{planned_is}

-- what is marked comes first
pub marked_first : (k : KeyState) (es : List Edge) (c : Change) (before marked : ℕ) → marked ≤ before + mark_look_ups es (map (λ (e : Edge). e.to) c.removed)
    → marked ≤ before + step_look_ups k es c
unfolding step_look_ups
marked_first k es c before marked few = omega (arith, few)

-- where the walks look at the edges of this store, with the lists of the change
module _ (k : KeyState) (s t : Store) (c : Change) (left wanted : List Role) (removed : List Edge) (same : t ≡ s)
    (removed_is : removed ≡ c.removed) (wanted_is : wanted ≡ c.wanted)
    (left_is : left ≡ without same_role c.gone (mark_all k.dirty (edges s) (map (λ (e : Edge). e.to) c.removed)))
    (before marked : ℕ) (few : marked ≤ before + mark_look_ups (edges s) (map (λ (e : Edge). e.to) c.removed)) where
  pub plan_is : plan left (edges_but removed (edges t)) wanted ≡ planned k (edges s) c
  plan_is = (λ i. plan left (edges_but (removed_is i) (edges (same i))) (wanted_is i)) ∙ planned_is k (edges s) c left left_is

  module _ (ahead : ℕ) (more : ahead ≤ marked + 2 * count_into (edges t) (plan left (edges_but removed (edges t)) wanted) + length wanted) where
    into_is : count_into (edges t) (plan left (edges_but removed (edges t)) wanted) ≡ count_into (edges s) (planned k (edges s) c)
    into_is = (λ i. count_into (edges (same i)) (plan_is i))

    wanted_as : length wanted ≡ length c.wanted
    wanted_as = ap (λ (l : List Role). length l) wanted_is

    pub planned_within : ahead ≤ before + step_look_ups k (edges s) c
    unfolding step_look_ups plan_look_ups
    planned_within = omega (arith, few, more, into_is, wanted_as)

    pub published_within : (u : Store) (strict again : List Role) (published : ℕ) → u ≡ t → strict ≡ c.strict
        → again ≡ ascending (strict ++ plan left (edges_but removed (edges t)) wanted) → published ≤ ahead + publish_look_ups (edges u) again → published ≤ before + step_look_ups k (edges s) c
    unfolding step_look_ups plan_look_ups renewed
    published_within u strict again published other listed again_is all =
        let found : publish_look_ups (edges u) again ≡ publish_look_ups (edges s) (renewed k (edges s) c) = (λ i. publish_look_ups (edges ((other ∙ same) i)) ((again_is ∙ (λ j. ascending (listed j ++ plan_is j))) i)) in
        omega (arith, few, more, into_is, wanted_as, found, all)

-- the marks alone tell the bound
pub look_ups_of_marks : (k : KeyState) (before : List Edge) (c : Change) → step_look_ups (marks_alone k.dirty) before c ≡ step_look_ups k before c
unfolding step_look_ups renewed planned dirty_left
look_ups_of_marks k before c = refl
