-- Roles ascend where each stands behind the one before.
use Rattle.std.proofs.Common.{◌≡◌, ℕ, zero, suc, ◌+◌, ◌-◌, ◌<◌, ◌≤◌, List, [], ◌∷◌, length, get_or, inl, refl, sym, subst, ⊎_elim, arith}
use Rattle.std.proofs.lemmas.Bool.{cases_lt}
use Rattle.cry_base.specs.declared.roles.Role.{Role}
use Rattle.role_graph.specs.Ascending.{IsAscending}
use Rattle.role_graph.proofs.Rising.{Before, before_on}

-- each role before the place stands behind the one before it
abbrev pub StepsBelow : List Role → ℕ → Type 0
StepsBelow roles place = (j : ℕ) (d : Role) → suc j < place → suc j < length roles → Before (get_or roles j d) (get_or roles (suc j) d)

pub steps_first : (roles : List Role) → StepsBelow roles 1
steps_first roles = λ j d lt within. absurd (omega (arith, lt))

pub steps_more : (roles : List Role) (place : ℕ) → 1 ≤ place → StepsBelow roles place → ((d : Role) → Before (get_or roles (place - 1) d) (get_or roles place d)) → StepsBelow roles (place + 1)
steps_more roles place some below up = λ j d lt within.
    ⊎_elim
    (λ (less : suc j < place). below j d less within)
    (λ (ge : place ≤ suc j).
    let here : place ≡ suc j = omega (arith, ge, lt) in
    let before : place - 1 ≡ j = omega (arith, here) in
    subst (λ k. Before (get_or roles j d) (get_or roles k d)) here (subst (λ k. Before (get_or roles k d) (get_or roles place d)) before (up d)))
    (cases_lt (suc j) place)

chain : (roles : List Role) → ((j : ℕ) (d : Role) → suc j < length roles → Before (get_or roles j d) (get_or roles (suc j) d)) → IsAscending roles
chain [] step = tt
chain (x ∷ []) step = (λ q i. absurd i, tt)
chain (x ∷ y ∷ ys) step =
    let rest = chain (y ∷ ys) (λ j d within. step (suc j) d (omega (arith, within))) in
    let first : Before x y = step 0 x (omega arith) in
    (λ q i. ⊎_elim (λ (e : q ≡ y). subst (Before x) (sym e) first) (λ behind. before_on x y q first (rest.0 q behind)) i, rest)

pub steps_all : (roles : List Role) (place : ℕ) → length roles ≤ place → StepsBelow roles place → IsAscending roles
steps_all roles place all below = chain roles (λ j d within. below j d (omega (arith, all, within)) within)

pub ascending_steps : (roles : List Role) → IsAscending roles → (j : ℕ) (d : Role) → suc j < length roles → Before (get_or roles j d) (get_or roles (suc j) d)
ascending_steps [] up j d within = absurd (omega (arith, within))
ascending_steps (x ∷ []) up j d within = absurd (omega (arith, within))
ascending_steps (x ∷ y ∷ ys) up zero d within = up.0 y (inl refl)
ascending_steps (x ∷ y ∷ ys) up (suc j) d within = ascending_steps (y ∷ ys) up.1 j d (omega (arith, within))
