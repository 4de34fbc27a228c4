use Rattle.holder_client.proofs.Sorted.{compared}
use Rattle.holder_client.proofs.lines.compare.Goals as goal

pub returns : goal.returns
returns c = compared c.args.a.now c.args.b.now c.cmp.result c.path_of.result.now c.path_of-2.result.now c.cmp.ensures c.path_of.ensures c.path_of-2.ensures
