-- No cause applies to what isn't refused.
use Rattle.std.proofs.Common.{◌≡◌, ℕ, Bool, true, false, cond, List, [], ◌∷◌, Option, Some, None, ⊎_elim, refl, ap, ◌∙◌}
use Rattle.std.specs.Prelude.{option_map}
use Rattle.std.specs.List.{find}
use Rattle.cry_base.specs.Sets.{In}
use Rattle.cry_base.specs.Requests.{Request}
use Rattle.cry_base.specs.Store.{Store}
use Rattle.cry_base.specs.Refusing.{causes, causes_in, refusal_in, refusal_of}
use Rattle.cry_base.specs.declared.commands.Refusal.{Refusal}

-- where nothing is found, nothing passes
pub find-none : (X : Type 0) (p : X → Bool) (x : X) (xs : List X) → find p xs ≡ None → In x xs → p x ≡ false
find-none X p x [] = λ e i. absurd i
find-none X p x (z ∷ zs) =
    (elim (p z) as (λ b. p z ≡ b → cond b (Some z) (find p zs) ≡ None → In x (z ∷ zs) → p x ≡ false) [
      | true ↦ λ t e i. absurd cc
      | false ↦ λ t e i. ⊎_elim (λ (s : x ≡ z). ap p s ∙ t) (λ r. find-none X p x zs e r) i
    ]) refl

map-none : (X Y : Type 0) (f : X → Y) (o : Option X) → option_map f o ≡ None → o ≡ None
map-none X Y f None e = refl
map-none X Y f (Some x) e = absurd cc

-- no cause applies to what isn't refused
pub no_cause : (s : Store) (r : Request) (n : ℕ) (t : Bool) (why : Refusal) → refusal_of s r n ≡ None → In (let c : Bool × Refusal = (t, why) in c) (causes s r n) → t ≡ false
unfolding refusal_of
no_cause s r n t why e i =
    find-none (Bool × Refusal) (λ c. c.0) (t, why) (causes s r n) (map-none (Bool × Refusal) Refusal (λ c. c.1) (find (λ c. c.0) (causes s r n)) e) i

-- the same in a store of a version
pub no_cause_in : (strict : Bool) (s : Store) (r : Request) (n : ℕ) (t : Bool) (why : Refusal) → refusal_in strict s r n ≡ None → In (let c : Bool × Refusal = (t, why) in c) (causes_in strict s r n) → t ≡ false
unfolding refusal_in
no_cause_in strict s r n t why e i =
    find-none (Bool × Refusal) (λ c. c.0) (t, why) (causes_in strict s r n) (map-none (Bool × Refusal) Refusal (λ c. c.1) (find (λ c. c.0) (causes_in strict s r n)) e) i
