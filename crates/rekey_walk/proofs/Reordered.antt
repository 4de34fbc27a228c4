-- Plans hang on which edges there are, and not on their order.
use Rattle.std.proofs.Common.{◌≡◌, ◌==◌, true, List, [], ◌∷◌, length, arith}
use Rattle.std.proofs.lemmas.Bool.{eqb-true}
use Rattle.cry_base.specs.Sets.{In, Path}
use Rattle.cry_base.specs.Sets.Path.{Here, On}
use Rattle.cry_base.specs.declared.roles.Edge.{Edge}
use Rattle.cry_base.specs.declared.roles.Role.{Role}
use Rattle.cry_base.proofs.Members.{In-map}
use Rattle.role_graph.specs.Edges.{Reaches, pairs_of}
use Rattle.role_graph.proofs.Rising.{same_list}
use Rattle.rekey_walk.specs.Dirty.{plan}
use Rattle.rekey_walk.proofs.Marking.{plan_told}
use Rattle.rekey_walk.proofs.Planning.{plan_ascends}

wider : {X : Type 0} {pairs more : List (X × X)} {a c : X} → ((p : X × X) → In p pairs → In p more) → Path pairs a c → Path more a c
wider all Here = Here
wider all (On way step) = On (wider all way) (all _ step)

pairs_kept : (es fs : List Edge) → ((e : Edge) → In e es → In e fs) → (p : Role × Role) → In p (pairs_of es) → In p (pairs_of fs)
unfolding pairs_of
pairs_kept es fs all p i =
    let w = (In-map Edge (Role × Role) (λ (e : Edge). (e.from, e.to)) p es).0 i in
    (In-map Edge (Role × Role) (λ (e : Edge). (e.from, e.to)) p fs).1 (w.0, all w.0 w.1, w.2)

pub reaches_kept : (es fs : List Edge) → ((e : Edge) → In e es → In e fs) → (a b : Role) → Reaches es a b → Reaches fs a b
reaches_kept es fs all a b way = wider (pairs_kept es fs all) way

plans_kept : (dirty : List Role) (es fs : List Edge) (wanted : List Role) → ((e : Edge) → In e es → In e fs) → (r : Role) → In r (plan dirty es wanted) → In r (plan dirty fs wanted)
plans_kept dirty es fs wanted all r i =
    let told = (plan_told dirty es wanted r).0 i in
    (plan_told dirty fs wanted r).1 (told.0, (told.1.0, told.1.1, reaches_kept es fs all r told.1.0 told.1.2))

pub plan_same : (dirty : List Role) (es fs : List Edge) (wanted : List Role) → ((e : Edge) → In e es → In e fs) → ((e : Edge) → In e fs → In e es) → plan dirty es wanted ≡ plan dirty fs wanted
plan_same dirty es fs wanted all back = same_list (plan dirty es wanted) (plan dirty fs wanted) (plan_ascends dirty es wanted) (plan_ascends dirty fs wanted)
    (plans_kept dirty es fs wanted all) (plans_kept dirty fs es wanted back)

pub plan_none : (dirty : List Role) (es : List Edge) (wanted : List Role) → (length dirty == 0) ≡ true → [] ≡ plan dirty es wanted
plan_none [] es wanted none = same_list [] (plan [] es wanted) tt (plan_ascends [] es wanted) (λ r i. absurd i) (λ r i. absurd ((plan_told [] es wanted r).0 i).0)
plan_none (r ∷ rs) es wanted none = absurd (let empty : length (r ∷ rs) ≡ 0 = eqb-true (length (r ∷ rs)) 0 none in omega (arith, empty))
