use Rattle.std.proofs.Common.{◌≡◌, ◌∷◌, ◌<◌, false, nat_le, filter, sym, subst, ap, ◌∙◌}
use Rattle.std.proofs.lemmas.Bool.{leb-false}
use Rattle.std.proofs.lemmas.List.Elements.{All-tail}
use Rattle.sorted_table.specs.Rows.{IsRising}
use Rattle.sorted_table.proofs.Around.{filter_none}
use Rattle.sorted_table.proofs.Rising.{AllPairs-tail, none_within}
use Rattle.sorted_table.proofs.span.SpanIterator.next.Goals as goal

pub invariant_of-self-2 : goal.invariant_of-self-2
invariant_of-self-2 g c =
    AllPairs-tail _ (λ x y. g.T.Ranked.rank x < g.T.Ranked.rank y) c.in_ok-row.row.now c.next.new.self
    (subst (IsRising g.T.Ranked.rank) c.in_ok-row.ensures.steps c.self.invariant)

pub invariant_of-self-then-is_within : goal.invariant_of-self-then-is_within
invariant_of-self-then-is_within g c =
    AllPairs-tail _ (λ x y. g.T.Ranked.rank x < g.T.Ranked.rank y) c.in_ok-row.row.now c.next.new.self
    (subst (IsRising g.T.Ranked.rank) c.in_ok-row.ensures.steps c.self.invariant)

pub returns-clause-steps : goal.returns-clause-steps
returns-clause-steps g c =
    let rank = g.T.Ranked.rank in
    let k = g.K.Key.sought c.self.inside.last in
    let row = c.in_ok-row.row.now in
    let rest = c.next.new.self in
    let told = c.in_ok-row.ensures.steps in
    let rising : IsRising rank (row ∷ rest) = subst (IsRising rank) told c.self.invariant in
    let none = none_within _ rank row rest k rising (leb-false _ _ (sym c.if-is_within.ensures)) in
    rw (← c.self.view_is) (
      ap (λ l. filter (λ r. nat_le (rank r) k) l) told ∙ filter_none _ (λ r. nat_le (rank r) k) (row ∷ rest) none,
      filter_none _ (λ r. nat_le (rank r) k) rest (All-tail (λ r. nat_le (rank r) k ≡ false) row rest none),
    )
