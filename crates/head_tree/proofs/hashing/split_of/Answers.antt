use Rattle.std.proofs.Common.{◌≡◌, suc, ◌*◌, ◌^◌, arith}
use Rattle.std.proofs.Math.Nat.{two-pow-succ}
use Rattle.head_tree.proofs.hashing.split_of.Goals as goal

pub loop-split-preserved : goal.loop-split-preserved
loop-split-preserved c =
    let j = c.loop-split.invariant.0.0 in
    let power : c.loop-split.split ≡ 2 ^ j = c.loop-split.invariant.0.1 in
    let next : c.loop-split.split * 2 ≡ 2 ^ suc j = omega (arith, two-pow-succ j) in
    ((suc j, next), omega arith)
