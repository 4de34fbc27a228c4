use Rattle.std.proofs.Common.{◌≤◌, length, nat_le, arith, rules}
use Rattle.std.proofs.lemmas.List.Sorted.{IsPartitionPoint-from_clause}
use Rattle.sorted_table.specs.Parts.{first_rank}
use Rattle.sorted_table.specs.Tabled.{Tabled}
use Rattle.sorted_table.proofs.Parted.{parted, block_found}
use Rattle.sorted_table.proofs.blocks.block_for.Goals as goal

pub returns : goal.returns
returns g c =
    let T = g.row.T.Denot in
    let rank = g.T.Ranked.rank in
    let k = g.K.Key.sought c.args.key.now in
    let blocks = c.args.blocks.now in
    let point = IsPartitionPoint-from_clause (λ (b : Tabled T). nat_le (first_rank rank b.rows) k) blocks c.partition_point-behind.result
    c.partition_point-behind.ensures.partitioned (parted T rank blocks k c.requires.rising c.requires.filled) (λ a r f' called. search rules) in
    let some : 1 ≤ length blocks = grind (arith, c.checked_sub.ensures, c.branch-last.ensures, c.in_ok-last.ensures) in
    block_found T rank blocks k c.requires.rising c.requires.filled c.partition_point-behind.result c.saturating_sub.result (omega (arith, c.saturating_sub.ensures))
    some c.partition_point-behind.ensures.bound point
