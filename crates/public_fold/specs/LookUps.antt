-- How many look-ups of edges a key step takes at most. This project's own, docs/FORMAT.md, "The key step".
use Rattle.std.specs.Prelude.{ℕ, ◌+◌, ◌*◌, List, [], ◌∷◌, length, map}
use Rattle.cry_base.specs.declared.roles.Edge.{Edge}
use Rattle.cry_base.specs.declared.roles.Role.{Role}
use Rattle.role_graph.specs.Adjacent.{at_roles, count_from, count_into}
use Rattle.role_graph.specs.Edges.{edges, reach_along}
use Rattle.role_graph.specs.PublicStore.{public_store}
use Rattle.move_plan.specs.Change.{Change, change_of}
use Rattle.move_plan.specs.LookUps.{change_look_ups}
use Rattle.record_format.specs.Noted.{Note}
use Rattle.public_fold.specs.KeyStep.{KeyState, is_strict, planned, renewed}
use Rattle.public_fold.specs.Standing.{PublicView, public_store_of}

-- to mark from each of the roles: two for each edge out of a role that is marked from it, and one more
unfoldable pub mark_look_ups : List Edge → List Role → ℕ
mark_look_ups es [] = 0
mark_look_ups es (target ∷ targets) = 2 * count_from es (reach_along es (target ∷ [])) + 1 + mark_look_ups es targets

-- to plan: two for each edge into a role of the plan, and one for each wanted role
unfoldable pub plan_look_ups : List Edge → List Role → List Role → ℕ
plan_look_ups es wanted plan = 2 * count_into es plan + length wanted

-- to find what is published: one for each edge at a role that is renewed, and two for each such role
unfoldable pub publish_look_ups : List Edge → List Role → ℕ
publish_look_ups es plan = length (at_roles es plan) + 2 * length plan

-- all three
unfoldable pub step_look_ups : KeyState → List Edge → Change → ℕ
step_look_ups k before c =
    mark_look_ups before (map (λ e. e.to) c.removed)
    + plan_look_ups before c.wanted (planned k before c)
    + publish_look_ups before (renewed k before c)

-- to make the note's change and its step of a public state
abbrev pub note_look_ups : PublicView → Note → ℕ
note_look_ups v note =
    change_look_ups (is_strict v.keys) (public_store_of v) note
    + step_look_ups v.keys (edges (public_store v.tree v.pairs)) (change_of (is_strict v.keys) (public_store_of v) note)
