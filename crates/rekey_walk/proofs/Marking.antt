-- Marks and plans hold what paths lead to.
use Rattle.std.proofs.Common.{◌≡◌, ◌↔◌, ◌⊎◌, List, [], ◌∷◌, ◌++◌, filter, IsTrue, inl, inr, ⊎_elim, refl, subst}
use Rattle.std.specs.List.{list_any}
use Rattle.cry_base.specs.Sets.{In, has}
use Rattle.cry_base.specs.declared.roles.Edge.{Edge}
use Rattle.cry_base.specs.declared.roles.Role.{Role}
use Rattle.cry_base.proofs.Members.{In-append, In-filter, filter-In, In-any}
use Rattle.cry_base.proofs.Reaching.{has-in, in-has}
use Rattle.role_graph.specs.Roles.{same_role}
use Rattle.role_graph.specs.Edges.{Reaches, reach_along}
use Rattle.role_graph.proofs.Comparing.{same_role_tells, reach_one}
use Rattle.role_graph.proofs.Rising.{ascending_told}
use Rattle.rekey_walk.specs.Dirty.{mark, mark_all, leads_to_any, plan}

pub mark_told : (dirty : List Role) (es : List Edge) (target r : Role) → In r (mark dirty es target) ↔ (In r dirty ⊎ Reaches es target r)
unfolding mark
mark_told dirty es target r = (
  λ i. ⊎_elim (λ d. inl d) (λ u. inr ((reach_one es target r).0 u))
      ((In-append Role r dirty (reach_along es (target ∷ []))).0 ((ascending_told r (dirty ++ reach_along es (target ∷ []))).0 i)),
  λ e. (ascending_told r (dirty ++ reach_along es (target ∷ []))).1
      ((In-append Role r dirty (reach_along es (target ∷ []))).1 (⊎_elim (λ d. inl d) (λ w. inr ((reach_one es target r).1 w)) e)),
)

pub mark_all_told : (dirty : List Role) (es : List Edge) (targets : List Role) (r : Role) → In r (mark_all dirty es targets) ↔ (In r dirty ⊎ ((t : Role) × In t targets × Reaches es t r))
unfolding mark_all
mark_all_told dirty es [] r = (λ i. inl i, λ e. ⊎_elim (λ d. d) (λ w. absurd w.1) e)
mark_all_told dirty es (t ∷ ts) r = (
  λ i. ⊎_elim
      (λ d. ⊎_elim (λ o. inl o) (λ way. inr (t, inl refl, way)) ((mark_told dirty es t r).0 d))
      (λ w. inr (w.0, inr w.1, w.2))
      ((mark_all_told (mark dirty es t) es ts r).0 i),
  λ e. (mark_all_told (mark dirty es t) es ts r).1 (⊎_elim
      (λ d. inl ((mark_told dirty es t r).1 (inl d)))
      (λ w. ⊎_elim
      (λ (s : w.0 ≡ t). inl ((mark_told dirty es t r).1 (inr (subst (λ x. Reaches es x r) s w.2))))
      (λ u. inr (w.0, u, w.2)) w.1) e),
)

any-in : (es : List Edge) (r : Role) (wanted : List Role) → IsTrue (list_any (has same_role (reach_along es (r ∷ []))) wanted) ↔ ((w : Role) × In w wanted × Reaches es r w)
any-in es r = In-any Role (has same_role (reach_along es (r ∷ []))) (Reaches es r) (λ x. (
  λ h. (reach_one es r x).0 (has-in Role same_role same_role_tells (reach_along es (r ∷ [])) x h),
  λ way. in-has Role same_role same_role_tells (reach_along es (r ∷ [])) x ((reach_one es r x).1 way),
))

pub plan_told : (dirty : List Role) (es : List Edge) (wanted : List Role) (r : Role) → In r (plan dirty es wanted) ↔ (In r dirty × ((w : Role) × In w wanted × Reaches es r w))
unfolding plan leads_to_any
plan_told dirty es wanted r = (
  λ i. let told = In-filter Role (leads_to_any es wanted) r dirty ((ascending_told r (filter (leads_to_any es wanted) dirty)).0 i) in
      (told.0, (any-in es r wanted).0 told.1),
  λ e. (ascending_told r (filter (leads_to_any es wanted) dirty)).1 (filter-In Role (leads_to_any es wanted) r dirty e.0 ((any-in es r wanted).1 e.1)),
)
