use Rattle.std.proofs.Common.{◌≡◌, ◌+◌, arith}
use Rattle.cry_base.specs.Refusing.{deepest, height_of}
use Rattle.cry_base.specs.Store.{folder_node, depth_of}
use Rattle.folder_nodes.proofs.shape.Shape.height.Goals as goal

pub returns : goal.returns
unfolding height_of folder_node
returns c =
    let s = c.args.self.now.tree in
    let levels : depth_of s (folder_node c.args.f.0) + c.levels_below.result ≡ deepest s c.args.f.0 = c.levels_below.ensures.levels in
    omega (arith, levels)
