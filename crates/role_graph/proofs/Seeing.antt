-- The roles that a walk has seen, as a set that compares roles.
use Rattle.std.proofs.Common.{◌≡◌, Bool, true, false, cond, List, [], ◌∷◌, Ordering, Less, Equal, Greater, refl, sym, ap, ◌∙◌, subst, ⊎_elim, rules}
use Rattle.std.proofs.lemmas.Bool.{false≢true}
use Rattle.std.specs.List.{AllByRecursion, list_any}
use Rattle.std.specs.List.Sorted.{IsStrictlySortedBy}
use Rattle.std.specs.BTreeMap.{is_at}
use Rattle.std.specs.BTreeSet.{insert_key}
use Rattle.std.specs.Ordering.{is_lt, is_eq, match_ordering}
use Rattle.cry_base.specs.Sets.{In, has}
use Rattle.cry_base.specs.declared.roles.Role.{Role}
use Rattle.cry_base.specs.contracts.roles.RoleOrd.TheImpl as ord
use Rattle.role_graph.specs.Ascending.{IsAscending, with_role}
use Rattle.role_graph.specs.Roles.{same_role, role_before, variant_of, role_id}
use Rattle.role_graph.proofs.Comparing.{same_role_tells}
use Rattle.role_graph.proofs.Rising.{Before, before_on, before_other, before_self, one_before, other_than}

abbrev pub compare : Role → Role → Ordering
compare = ord.ghosts.cmp

less_is : (a b : Role) → is_lt (compare a b) ≡ role_before a b
unfolding role_before variant_of role_id
less_is a b = search rules

equal_is : (a b : Role) → is_eq (compare a b) ≡ same_role a b
unfolding same_role variant_of role_id
equal_is a b = search rules

-- a role among the keys is found by comparing
pub seen_has : (keys : List Role) (r : Role) → list_any (is_at (compare r)) keys ≡ has same_role keys r
unfolding has
seen_has keys r = ap (λ (p : Role → Bool). list_any p keys) (λ i q. equal_is r q i)

-- one of three, by how the role compares with another
placed : (k x : Role) (a b c : List Role) → match_ordering (compare k x) a b c ≡ cond (role_before x k) c (cond (same_role k x) b a)
placed k x a b c = (elim (compare k x) as (λ o. compare k x ≡ o → match_ordering o a b c ≡ cond (role_before x k) c (cond (same_role k x) b a)) [
  | Less ↦ λ e.
      let less : Before k x = sym (less_is k x) ∙ ap is_lt e in
      sym (ap (λ p. cond p c (cond (same_role k x) b a)) (not_before less) ∙ ap (λ p. cond p b a) (before_other k x less))
  | Equal ↦ λ e.
      let same : same_role k x ≡ true = sym (equal_is k x) ∙ ap is_eq e in
      let one : k ≡ x = (same_role_tells k x).0 same in
      sym (ap (λ p. cond p c (cond (same_role k x) b a)) (lacks (role_before x k) (λ p. before_self x (subst (Before x) one p))) ∙ ap (λ p. cond p b a) same)
  | Greater ↦ λ e.
      let other : same_role k x ≡ false = sym (equal_is k x) ∙ ap is_eq e in
      let behind : Before x k = one_before k x (sym (less_is k x) ∙ ap is_lt e)
      (other_than x k (λ s. false≢true (sym other ∙ (same_role_tells k x).1 (sym s)))) in
      sym (ap (λ p. cond p c (cond (same_role k x) b a)) behind)
]) refl
  where
    lacks : (p : Bool) → (p ≡ true → ⊥) → p ≡ false
    lacks true n = absurd (n refl)
    lacks false n = refl

    not_before : Before k x → role_before x k ≡ false
    not_before less = lacks (role_before x k) (λ p. before_self k (before_on k x k less p))

-- a key that is put among the others is a role at its place
pub seen_with : (keys : List Role) (k : Role) → insert_key compare keys k ≡ with_role k keys
unfolding with_role
seen_with [] k = refl
seen_with (x ∷ xs) k = placed k x (k ∷ x ∷ xs) (x ∷ xs) (x ∷ insert_key compare xs k)
    ∙ ap (λ (l : List Role). cond (role_before x k) (x ∷ l) (cond (same_role k x) (x ∷ xs) (k ∷ x ∷ xs))) (seen_with xs k)

-- the keys ascend
pub seen_ascends : (keys : List Role) → IsStrictlySortedBy compare keys → IsAscending keys
unfolding IsStrictlySortedBy
seen_ascends [] w = tt
seen_ascends (x ∷ xs) w = (λ q i. before_each xs w.0 q i, seen_ascends xs w.1)
  where
    before_each : (ys : List Role) → AllByRecursion (λ y. compare x y ≡ Less) ys → (q : Role) → In q ys → Before x q
    before_each [] a q i = absurd i
    before_each (y ∷ ys) a q i = ⊎_elim
        (λ (e : q ≡ y). subst (Before x) (sym e) (sym (less_is x y) ∙ ap is_lt a.0))
        (λ j. before_each ys a.1 q j) i
