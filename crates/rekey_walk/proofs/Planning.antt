-- What is marked and planned by the code is the list that the definitions tell.
use Rattle.std.proofs.Common.{◌≡◌, Bool, true, false, cond, ◌↔◌, ◌⊎◌, List, [], ◌∷◌, filter, ⊎_elim, inl, inr}
use Rattle.cry_base.specs.Sets.{In, has}
use Rattle.cry_base.specs.declared.roles.Edge.{Edge}
use Rattle.cry_base.specs.declared.roles.Role.{Role}
use Rattle.cry_base.proofs.Members.{In-filter, filter-In}
use Rattle.cry_base.proofs.Reaching.{has-in, in-has}
use Rattle.role_graph.specs.Ascending.{IsAscending}
use Rattle.role_graph.specs.Closing.{IsLeading}
use Rattle.role_graph.specs.Edges.{Reaches}
use Rattle.role_graph.specs.Roles.{same_role}
use Rattle.role_graph.proofs.Comparing.{same_role_tells}
use Rattle.role_graph.proofs.Rising.{ascending_ascends, same_list}
use Rattle.rekey_walk.specs.Dirty.{mark, plan}
use Rattle.rekey_walk.proofs.Marking.{mark_told, plan_told}

pub mark_ascends : (dirty : List Role) (es : List Edge) (target : Role) → IsAscending (mark dirty es target)
unfolding mark
mark_ascends dirty es target = ascending_ascends _

pub plan_ascends : (dirty : List Role) (es : List Edge) (wanted : List Role) → IsAscending (plan dirty es wanted)
unfolding plan
plan_ascends dirty es wanted = ascending_ascends _

-- an ascending list that holds what was dirty and what is reached is the mark
pub marked_is : (dirty : List Role) (es : List Edge) (target : Role) (reached new : List Role) → IsAscending new
    → ((r : Role) → In r reached ↔ Reaches es target r)
    → ((r : Role) → In r dirty → In r new) → ((r : Role) → In r new → In r dirty ⊎ In r reached) → ((r : Role) → In r reached → In r new)
    → new ≡ mark dirty es target
marked_is dirty es target reached new up told kept added all = same_list new (mark dirty es target) up (mark_ascends dirty es target)
    (λ r i. (mark_told dirty es target r).1 (⊎_elim (λ d. inl d) (λ u. inr ((told r).0 u)) (added r i)))
    (λ r i. ⊎_elim (λ d. kept r d) (λ way. all r ((told r).1 way)) ((mark_told dirty es target r).0 i))

pub filter_ascends : (p : Role → Bool) (rs : List Role) → IsAscending rs → IsAscending (filter p rs)
filter_ascends p [] up = tt
filter_ascends p (x ∷ xs) up = elim (p x) as (λ b. IsAscending (cond b (x ∷ filter p xs) (filter p xs))) [
  | true ↦ (λ y i. up.0 y (In-filter Role p y xs i).0, filter_ascends p xs up.1)
  | false ↦ filter_ascends p xs up.1
]

-- the dirty roles among those that lead to a wanted one are the plan
pub planned_is : (dirty : List Role) (es : List Edge) (wanted leading : List Role) → IsAscending dirty
    → ((r : Role) → In r leading ↔ IsLeading es wanted r)
    → filter (has same_role leading) dirty ≡ plan dirty es wanted
planned_is dirty es wanted leading up told = same_list (filter (has same_role leading) dirty) (plan dirty es wanted)
    (filter_ascends (has same_role leading) dirty up) (plan_ascends dirty es wanted)
    (λ r i. let both = In-filter Role (has same_role leading) r dirty i in
    (plan_told dirty es wanted r).1 (both.0, (told r).0 (has-in Role same_role same_role_tells leading r both.1)))
    (λ r i. let both = (plan_told dirty es wanted r).0 i in
    filter-In Role (has same_role leading) r dirty both.0 (in-has Role same_role same_role_tells leading r ((told r).1 both.1)))

-- of two ascending lists, those of the one that are in the other are those of the other that are in the one
pub common_is : (xs ys : List Role) → IsAscending xs → IsAscending ys → filter (has same_role ys) xs ≡ filter (has same_role xs) ys
common_is xs ys up above = same_list (filter (has same_role ys) xs) (filter (has same_role xs) ys)
    (filter_ascends (has same_role ys) xs up) (filter_ascends (has same_role xs) ys above) (turned_in xs ys) (turned_in ys xs)
  where
    turned_in : (here there : List Role) (r : Role) → In r (filter (has same_role there) here) → In r (filter (has same_role here) there)
    turned_in here there r i =
        let both = In-filter Role (has same_role there) r here i in
        filter-In Role (has same_role here) r there (has-in Role same_role same_role_tells there r both.1) (in-has Role same_role same_role_tells here r both.0)
