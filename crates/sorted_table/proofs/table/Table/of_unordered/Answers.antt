use Rattle.std.proofs.Common.{rules}
use Rattle.std.proofs.lemmas.List.Sorted.{IsNonDecreasingBy-from_sort_by}
use Rattle.sorted_table.proofs.Ordered.{sorted_rise}
use Rattle.sorted_table.proofs.table.Table.of_unordered.Goals as goal

pub invariant_of-result : goal.invariant_of-result
invariant_of-result g c =
    sorted_rise g.row.T.Denot g.T.Ranked.rank c.args.rows.items c.sort_unstable_by.new.self.items c.requires c.sort_unstable_by.ensures.permutation
    (IsNonDecreasingBy-from_sort_by g.T.Ranked.rank _ c.sort_unstable_by.ensures.sorted (λ a r q k. search rules))
