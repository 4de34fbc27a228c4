use Rattle.std.proofs.Common.{rules}
use Rattle.hmac_seal.proofs.Differences.{agree_more}
use Rattle.hmac_seal.proofs.tags.tags_equal.Goals as goal

pub loop-i-preserved : goal.loop-i-preserved
loop-i-preserved c =
    agree_more _ c.loop-i.i c.args.a.now c.args.b.now (search rules) (search rules) c.loop-i.invariant
