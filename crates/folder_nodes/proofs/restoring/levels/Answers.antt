use Rattle.std.proofs.Common.{◌≤◌, arith}
use Rattle.folder_nodes.proofs.Restored.{count_end, count_on, count_full}
use Rattle.folder_nodes.proofs.restoring.levels.Goals as goal

pub returns-in_default : goal.returns-in_default
returns-in_default c = count_end c.args.folders.now.rows c.args.f c.loop-levels.here c.loop-levels.levels c.loop-levels.invariant c.in_default.ensures.row

pub loop-levels-preserved : goal.loop-levels-preserved
loop-levels-preserved c =
    count_on c.args.folders.now.rows c.args.f c.loop-levels.here c.loop-levels.levels c.in-Some.row.now c.loop-levels.invariant c.loop-levels-test.true c.in-Some.ensures.row

pub returns : goal.returns
returns c =
    let few : c.loop-levels.levels ≤ 66 = omega arith in
    count_full c.args.folders.now.rows c.args.f c.loop-levels.here c.loop-levels.levels c.loop-levels.invariant c.loop-levels-test.false few
