-- What is kept of a list in order is what is kept of the list, put in order.
use Rattle.std.proofs.Common.{◌≡◌, Bool, true, false, cond, List, [], ◌∷◌, filter, refl, sym, ap, ◌∙◌, subst}
use Rattle.std.specs.Cmp.{IsStrictWeakOrder}
use Rattle.std.specs.List.Sorted.{ties}
use Rattle.std.proofs.lemmas.List.Sorted.{ranks_by}
use Rattle.cry_base.specs.Store.{Store}
use Rattle.cry_base.specs.declared.roles.Edge.{Edge}
use Rattle.cry_base.proofs.Members.{In-filter}
use Rattle.role_graph.specs.Edges.{edge_before, edges, in_order, unordered}
use Rattle.role_graph.proofs.Ordered.{Rises, one_order, order_keeps, order_rises}
use Rattle.role_graph.proofs.Sorting.{before_by_key, key_of, key_total}

filter_put : (X : Type 0) (p : X → Bool) (x : X) (b : Bool) (l : List X) → filter p (cond b (x ∷ l) l) ≡ cond b (cond (p x) (x ∷ filter p l) (filter p l)) (filter p l)
filter_put X p x true l = refl
filter_put X p x false l = refl

tests_turn : (X : Type 0) (x : X) (a b : Bool) (l : List X) → cond b (cond a (x ∷ l) l) l ≡ cond a (cond b (x ∷ l) l) l
tests_turn X x true true l = refl
tests_turn X x true false l = refl
tests_turn X x false true l = refl
tests_turn X x false false l = refl

-- what is kept for two reasons is kept in either turn
pub filters_turn : (X : Type 0) (p q : X → Bool) (xs : List X) → filter p (filter q xs) ≡ filter q (filter p xs)
filters_turn X p q [] = refl
filters_turn X p q (x ∷ xs) =
    filter_put X p x (q x) (filter q xs)
    ∙ ap (λ (l : List X). cond (q x) (cond (p x) (x ∷ l) l) l) (filters_turn X p q xs)
    ∙ tests_turn X x (p x) (q x) (filter q (filter p xs))
    ∙ sym (filter_put X q x (p x) (filter p xs))

filter_rises : (X : Type 0) (lt : X → X → Bool) (p : X → Bool) (xs : List X) → Rises X lt xs → Rises X lt (filter p xs)
filter_rises X lt p [] up = tt
filter_rises X lt p (x ∷ xs) up = elim (p x) as (λ b. Rises X lt (cond b (x ∷ filter p xs) (filter p xs))) [
  | true ↦ (λ y i. up.0 y (In-filter X p y xs i).0, filter_rises X lt p xs up.1)
  | false ↦ filter_rises X lt p xs up.1
]

kept : (X : Type 0) (lt : X → X → Bool) → IsStrictWeakOrder lt → (p : X → Bool) (xs : List X) → filter p (in_order lt xs) ≡ in_order lt (filter p xs)
kept X lt o p xs = one_order X lt o (filter p (in_order lt xs)) (in_order lt (filter p xs))
    (filter_rises X lt p (in_order lt xs) (order_rises X lt o xs)) (order_rises X lt o (filter p xs))
    (λ w. filters_turn X (ties lt w) p (in_order lt xs) ∙ ap (filter p) (order_keeps X lt o w xs) ∙ filters_turn X p (ties lt w) xs ∙ sym (order_keeps X lt o w (filter p xs)))

pub edges_rank : IsStrictWeakOrder edge_before
edges_rank = subst (λ (lt : Edge → Edge → Bool). IsStrictWeakOrder lt) (λ i a b. before_by_key a b i) (ranks_by key_total key_of)

pub kept_in_order : (p : Edge → Bool) (xs : List Edge) → filter p (in_order edge_before xs) ≡ in_order edge_before (filter p xs)
kept_in_order p xs = kept Edge edge_before edges_rank p xs

pub edges_ordered : (s : Store) → edges s ≡ in_order edge_before (unordered s)
unfolding edges unordered
edges_ordered s = refl
