-- Edges are ordered as the tuples of their kind and their numbers are.
use Rattle.std.proofs.Common.{◌≡◌, ℕ, Bool, true, false, cond, ◌==◌, ◌&&◌, ◌||◌, List, Ordering, Less, Equal, Greater, refl, ap, ◌∙◌}
use Rattle.std.specs.Prelude.{nat_lt}
use Rattle.std.specs.Cmp.{IsTotalOrder, nat_cmp_total, then_total, on_total}
use Rattle.std.specs.List.Sorted.{IsSortedBy, IsStableBy}
use Rattle.std.specs.Ordering.{is_lt, ordering_then, nat_cmp}
use Rattle.std.proofs.lemmas.List.Sorted.{ranks_by}
use Rattle.cry_base.specs.declared.roles.Edge.{Edge}
use Rattle.role_graph.specs.Edges.{edge_before, in_order}
use Rattle.role_graph.specs.Roles.{role_id}
use Rattle.role_graph.proofs.Ordered.{stable_is_in_order}

abbrev pub Key : Type 0
Key = ℕ × ℕ × ℕ

abbrev pub key_of : Edge → Key
key_of e = (e.kind, role_id e.from, role_id e.to)

abbrev pub key_cmp : Key → Key → Ordering
key_cmp a b = ordering_then (ordering_then (nat_cmp a.0 b.0) (nat_cmp a.1 b.1)) (nat_cmp a.2 b.2)

then_joins : (r s t : Ordering) → ordering_then (ordering_then r s) t ≡ ordering_then r (ordering_then s t)
then_joins Less s t = refl
then_joins Equal s t = refl
then_joins Greater s t = refl

first_less : (p q : Bool) (r : Ordering) → is_lt (ordering_then (cond p Less (cond q Equal Greater)) r) ≡ p || (q && is_lt r)
first_less true q r = refl
first_less false true r = refl
first_less false false r = refl

last_less : (p q : Bool) → is_lt (cond p Less (cond q Equal Greater)) ≡ p
last_less true q = refl
last_less false true = refl
last_less false false = refl

pub before_by_key : (a b : Edge) → is_lt (key_cmp (key_of a) (key_of b)) ≡ edge_before a b
unfolding edge_before
before_by_key a b =
    let x = key_of a in
    let y = key_of b in
    ap is_lt (then_joins (nat_cmp x.0 y.0) (nat_cmp x.1 y.1) (nat_cmp x.2 y.2))
    ∙ first_less (nat_lt x.0 y.0) (x.0 == y.0) (ordering_then (nat_cmp x.1 y.1) (nat_cmp x.2 y.2))
    ∙ ap (λ t. nat_lt x.0 y.0 || (x.0 == y.0 && t))
    (first_less (nat_lt x.1 y.1) (x.1 == y.1) (nat_cmp x.2 y.2) ∙ ap (λ t. nat_lt x.1 y.1 || (x.1 == y.1 && t)) (last_less (nat_lt x.2 y.2) (x.2 == y.2)))

pub key_total : IsTotalOrder key_cmp
key_total = then_total (then_total (on_total (λ (k : Key). k.0) nat_cmp_total) (on_total (λ (k : Key). k.1) nat_cmp_total)) (on_total (λ (k : Key). k.2) nat_cmp_total)

pub sorted_by_key : (xs ys : List Edge) → IsSortedBy (λ a b. is_lt (key_cmp (key_of a) (key_of b))) ys → IsStableBy (λ a b. is_lt (key_cmp (key_of a) (key_of b))) xs ys → ys ≡ in_order edge_before xs
sorted_by_key xs ys up stable =
    let by : Edge → Edge → Bool = λ a b. is_lt (key_cmp (key_of a) (key_of b)) in
    let same : by ≡ edge_before = λ i a b. before_by_key a b i in
    stable_is_in_order Edge by (ranks_by key_total key_of) xs ys up stable ∙ ap (λ (lt : Edge → Edge → Bool). in_order lt xs) same
