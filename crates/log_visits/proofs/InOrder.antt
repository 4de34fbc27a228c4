-- A list put in order before and after a change of its items, and what sorts by two numbers.
use Rattle.std.proofs.Common.{◌≡◌, ℕ, Bool, true, false, cond, ◌==◌, ◌&&◌, ◌||◌, List, [], ◌∷◌, map, Ordering, Less, Equal, Greater, inl, inr, refl, ap, ◌∙◌}
use Rattle.std.specs.Prelude.{nat_lt}
use Rattle.std.specs.Cmp.{IsTotalOrder, nat_cmp_total, then_total, on_total}
use Rattle.std.specs.List.Sorted.{IsSortedBy, IsStableBy}
use Rattle.std.specs.Ordering.{is_lt, ordering_then, nat_cmp}
use Rattle.std.proofs.lemmas.List.Sorted.{ranks_by}
use Rattle.cry_base.specs.Sets.{In}
use Rattle.role_graph.specs.Edges.{put_in_order, in_order}
use Rattle.role_graph.proofs.Edging.{In-order}
use Rattle.role_graph.proofs.Ordered.{stable_is_in_order}

-- ---- a change of the items

put_mapped : (X Y : Type 0) (f : X → Y) (lt : X → X → Bool) (lt' : Y → Y → Bool) (x : X) (ys : List X) → ((y : X) → In y ys → lt y x ≡ lt' (f y) (f x)) →
    map f (put_in_order lt x ys) ≡ put_in_order lt' (f x) (map f ys)
unfolding put_in_order
put_mapped X Y f lt lt' x [] same = refl
put_mapped X Y f lt lt' x (y ∷ ys) same =
    ap (λ b. map f (cond b (y ∷ put_in_order lt x ys) (x ∷ y ∷ ys))) (same y (inl refl))
    ∙ elim (lt' (f y) (f x)) as (λ b. map f (cond b (y ∷ put_in_order lt x ys) (x ∷ y ∷ ys)) ≡ cond b (f y ∷ put_in_order lt' (f x) (map f ys)) (f x ∷ f y ∷ map f ys)) [
      | true ↦ ap (λ l. f y ∷ l) (put_mapped X Y f lt lt' x ys (λ z i. same z (inr i)))
      | false ↦ refl
    ]

pub order_mapped : (X Y : Type 0) (f : X → Y) (lt : X → X → Bool) (lt' : Y → Y → Bool) (xs : List X) → ((a b : X) → In a xs → In b xs → lt a b ≡ lt' (f a) (f b)) →
    map f (in_order lt xs) ≡ in_order lt' (map f xs)
unfolding in_order
order_mapped X Y f lt lt' [] same = refl
order_mapped X Y f lt lt' (x ∷ xs) same =
    put_mapped X Y f lt lt' x (in_order lt xs) (λ y i. same y x (inr ((In-order X lt y xs).0 i)) (inl refl))
    ∙ ap (put_in_order lt' (f x)) (order_mapped X Y f lt lt' xs (λ a b i j. same a b (inr i) (inr j)))

-- ---- two numbers

abbrev pub pair_cmp : ℕ × ℕ → ℕ × ℕ → Ordering
pair_cmp a b = ordering_then (nat_cmp a.0 b.0) (nat_cmp a.1 b.1)

pair_total : IsTotalOrder pair_cmp
pair_total = then_total (on_total (λ (k : ℕ × ℕ). k.0) nat_cmp_total) (on_total (λ (k : ℕ × ℕ). k.1) nat_cmp_total)

pub first_less : (p q : Bool) (r : Ordering) → is_lt (ordering_then (cond p Less (cond q Equal Greater)) r) ≡ p || (q && is_lt r)
first_less true q r = refl
first_less false true r = refl
first_less false false r = refl

last_less : (p q : Bool) → is_lt (cond p Less (cond q Equal Greater)) ≡ p
last_less true q = refl
last_less false true = refl
last_less false false = refl

abbrev pub pair_before : ℕ × ℕ → ℕ × ℕ → Bool
pair_before a b = nat_lt a.0 b.0 || ((a.0 == b.0) && nat_lt a.1 b.1)

by_pair : (a b : ℕ × ℕ) → is_lt (pair_cmp a b) ≡ pair_before a b
by_pair a b =
    first_less (nat_lt a.0 b.0) (a.0 == b.0) (nat_cmp a.1 b.1)
    ∙ ap (λ t. nat_lt a.0 b.0 || ((a.0 == b.0) && t)) (last_less (nat_lt a.1 b.1) (a.1 == b.1))

pub sorted_by_pair : (X : Type 0) (key : X → ℕ × ℕ) (xs ys : List X) → IsSortedBy (λ a b. is_lt (pair_cmp (key a) (key b))) ys → IsStableBy (λ a b. is_lt (pair_cmp (key a) (key b))) xs ys →
    ys ≡ in_order (λ a b. pair_before (key a) (key b)) xs
sorted_by_pair X key xs ys up stable =
    let by : X → X → Bool = λ a b. is_lt (pair_cmp (key a) (key b)) in
    let plain : X → X → Bool = λ a b. pair_before (key a) (key b) in
    let same : by ≡ plain = λ i a b. by_pair (key a) (key b) i in
    stable_is_in_order X by (ranks_by pair_total key) xs ys up stable ∙ ap (λ (lt : X → X → Bool). in_order lt xs) same
