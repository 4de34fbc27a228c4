use Rattle.folder_nodes.proofs.Climbing.{climb_on, climb_end, climb_full}
use Rattle.folder_nodes.proofs.shape.Shape.depth.Goals as goal

pub loop-depth-preserved : goal.loop-depth-preserved
loop-depth-preserved c =
    climb_on c.args.self.now.tree c.is_tree.ensures c.args.f.0 c.loop-depth.here c.loop-depth.depth c.parent_number-parent.result c.loop-depth.invariant c.parent_number-parent.ensures c.if-parent-eq0.false

pub returns-then-parent-eq0-clause-depth : goal.returns-then-parent-eq0-clause-depth
returns-then-parent-eq0-clause-depth c =
    climb_end c.args.self.now.tree c.is_tree.ensures c.args.f.0 c.loop-depth.here c.loop-depth.depth c.parent_number-parent.result c.loop-depth.invariant c.parent_number-parent.ensures c.if-parent-eq0.true

pub returns-clause-depth : goal.returns-clause-depth
returns-clause-depth c =
    climb_full c.args.self.now.tree c.is_tree.ensures c.args.f.0 c.loop-depth.here c.loop-depth.depth c.loop-depth.invariant c.loop-depth-test.false
