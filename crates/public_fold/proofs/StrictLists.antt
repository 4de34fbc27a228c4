-- The strict roles and those of the plan, in one list.
use Rattle.std.proofs.Common.{◌≡◌, ◌==◌, ◌⊎◌, true, List, [], ◌∷◌, ◌++◌, length, inl, inr, ⊎_elim, subst, arith}
use Rattle.std.proofs.lemmas.Bool.{eqb-true}
use Rattle.cry_base.specs.Sets.{In}
use Rattle.cry_base.specs.declared.roles.Role.{Role}
use Rattle.cry_base.proofs.Members.{In-append}
use Rattle.role_graph.specs.Ascending.{IsAscending, ascending}
use Rattle.role_graph.proofs.Rising.{ascending_ascends, ascending_told, same_list}

-- an ascending list is as it is
in_their_order : (rs : List Role) → IsAscending rs → rs ≡ ascending rs
in_their_order rs up = same_list rs (ascending rs) up (ascending_ascends rs) (λ r i. (ascending_told r rs).1 i) (λ r i. (ascending_told r rs).0 i)

-- where no role is strict, the plan is all
pub plan_alone : (listed planned : List Role) → (length listed == 0) ≡ true → IsAscending planned → planned ≡ ascending (listed ++ planned)
plan_alone [] planned none up = in_their_order planned up
plan_alone (r ∷ rs) planned none up = absurd (let empty : length (r ∷ rs) ≡ 0 = eqb-true (length (r ∷ rs)) 0 none in omega (arith, empty))

-- a set to which the roles of one list came, and then those of another
pub both_listed : (empty listed planned mid all : List Role) → empty ≡ [] → IsAscending all
    → ((r : Role) → In r mid → In r empty ⊎ In r listed) → ((r : Role) → In r listed → In r mid)
    → ((r : Role) → In r mid → In r all) → ((r : Role) → In r all → In r mid ⊎ In r planned) → ((r : Role) → In r planned → In r all)
    → all ≡ ascending (listed ++ planned)
both_listed empty listed planned mid all none up from first kept added second = same_list all (ascending (listed ++ planned)) up (ascending_ascends (listed ++ planned))
    (λ r i. (ascending_told r (listed ++ planned)).1 ((In-append Role r listed planned).1 (⊎_elim
    (λ m. inl (⊎_elim (λ e. absurd (subst (λ (l : List Role). In r l) none e)) (λ l. l) (from r m)))
    (λ p. inr p) (added r i))))
    (λ r i. ⊎_elim (λ l. kept r (first r l)) (λ p. second r p)
    ((In-append Role r listed planned).0 ((ascending_told r (listed ++ planned)).0 i)))
