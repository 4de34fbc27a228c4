-- Roles are compared by variant and number.
use Rattle.std.proofs.Common.{◌≡◌, ℕ, zero, suc, true, ◌==◌, ◌↔◌, List, [], ◌∷◌, inl, ⊎_elim, refl, sym, ap, ◌∙◌, subst}
use Rattle.std.proofs.lemmas.Bool.{and_parts, and_from, eqb-true, eq-eqb}
use Rattle.cry_base.specs.Sets.{In, Tells}
use Rattle.cry_base.proofs.Reaching.{reach_told, FromSet}
use Rattle.cry_base.specs.declared.roles.Edge.{Edge}
use Rattle.cry_base.specs.declared.roles.Role.{Role}
use Rattle.cry_base.specs.declared.roles.Role.TheVariants.{Owner, Holder, Clear, Sub, Back, Files, Data, File}
use Rattle.role_graph.specs.Roles.{variant_of, role_id, same_role}
use Rattle.role_graph.specs.Edges.{pairs_of, Reaches, reach_along}

-- the role of a variant and a number
role_from : ℕ → ℕ → Role
role_from zero i = Owner
role_from (suc zero) i = Holder (record { 0 = i })
role_from (suc (suc zero)) i = Clear (record { 0 = i })
role_from (suc (suc (suc zero))) i = Sub (record { 0 = i })
role_from (suc (suc (suc (suc zero)))) i = Back (record { 0 = i })
role_from (suc (suc (suc (suc (suc zero))))) i = Files (record { 0 = i })
role_from (suc (suc (suc (suc (suc (suc zero)))))) i = Data (record { 0 = i })
role_from (suc (suc (suc (suc (suc (suc (suc n))))))) i = File (record { 0 = i })

role_back : (r : Role) → role_from (variant_of r) (role_id r) ≡ r
unfolding role_from variant_of role_id
role_back Owner = refl
role_back (Holder h) = refl
role_back (Clear f) = refl
role_back (Sub f) = refl
role_back (Back f) = refl
role_back (Files f) = refl
role_back (Data f) = refl
role_back (File x) = refl

same-self : (r : Role) → same_role r r ≡ true
unfolding same_role
same-self r = and_from (variant_of r == variant_of r) (role_id r == role_id r) (eq-eqb (variant_of r) (variant_of r) refl) (eq-eqb (role_id r) (role_id r) refl)

same-eq : (a b : Role) → same_role a b ≡ true → a ≡ b
unfolding same_role
same-eq a b h =
    let both = and_parts (variant_of a == variant_of b) (role_id a == role_id b) h in
    sym (role_back a) ∙ ap (λ v. role_from v (role_id a)) (eqb-true (variant_of a) (variant_of b) both.0) ∙ ap (role_from (variant_of b)) (eqb-true (role_id a) (role_id b) both.1) ∙ role_back b

pub same_role_tells : Tells same_role
same_role_tells a b = (same-eq a b, λ e. subst (λ r. same_role a r ≡ true) e (same-self a))

-- what is reached by computing is what paths of edges lead to
pub reach_along_told : (es : List Edge) (roles : List Role) (r : Role) → In r (reach_along es roles) ↔ FromSet (pairs_of es) roles r
unfolding reach_along
reach_along_told es roles r = reach_told Role same_role same_role_tells (pairs_of es) roles r

pub reach_one : (es : List Edge) (a b : Role) → In b (reach_along es (a ∷ [])) ↔ Reaches es a b
reach_one es a b = (
  λ i. let told = (reach_along_told es (a ∷ []) b).0 i in from_only a told.0 told.1 told.2,
  λ way. (reach_along_told es (a ∷ []) b).1 (a, inl refl, way),
)
  where
    from_only : (a c : Role) → In c (a ∷ []) → Reaches es c b → Reaches es a b
    from_only a c i way = ⊎_elim (λ e. subst (λ x. Reaches es x b) e way) (λ n. absurd n) i
