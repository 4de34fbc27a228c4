use Rattle.std.proofs.Common.{◌<◌, length, rules, arith, subst, sym}
use Rattle.kind_table.proofs.Walking.{Walked, size-le-length, walked_kept, walked_more}
use Rattle.kind_table.proofs.table.Table.extend.Goals as goal
use Rattle.kind_table.proofs.table.Table.extend.Goals.{then-follow, else-follow}

pub loop-row-preserved : goal.loop-row-preserved
loop-row-preserved g c =
    let within : c.loop-row.row-index < length c.args.self.now.rows = search rules in
    let before = c.loop-row.invariant in
    let told = c.follow.ensures in
    elim c.if-follow.branch [
      | then-follow w ↦
          let new = w.if-follow.true in
          subst (Walked _ _ _ _ _) (sym w.grew-is)
          (walked_more _ _ _ _ _ c.follow.new.self.has _ _ before within (told.added new) (told.came new) (told.new new))
      | else-follow w ↦
          let old = w.if-follow.false in
          subst (Walked _ _ _ _ _) (sym w.grew-is)
          (walked_kept _ _ _ _ _ c.follow.new.self.has _ _ before within (told.kept old) (told.done old))
    ]

pub returns-clause-within : goal.returns-clause-within
returns-clause-within g c = omega (arith, c.loop-row.invariant.long, size-le-length c.loop-row.reached.has)
