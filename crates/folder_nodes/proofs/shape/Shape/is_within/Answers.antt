use Rattle.folder_nodes.specs.Bare.{folder_of_row}
use Rattle.folder_nodes.proofs.Climbing.{seek_start, seek_on, seek_found, seek_top, seek_over}
use Rattle.folder_nodes.proofs.shape.Shape.is_within.Goals as goal

pub loop-climbed-init : goal.loop-climbed-init
loop-climbed-init c = seek_start c.args.self.now.tree c.is_tree.ensures c.args.f c.args.above

pub returns-in_default : goal.returns-in_default
returns-in_default c = seek_top c.args.self.now.tree c.args.f c.args.above c.loop-climbed.here c.loop-climbed._climbed c.loop-climbed.invariant c.in_default.ensures

pub returns-then-row-above : goal.returns-then-row-above
returns-then-row-above c = seek_found c.args.self.now.tree c.is_tree.ensures c.args.f c.args.above c.loop-climbed.here c.loop-climbed._climbed (folder_of_row c.in-Some.row) c.loop-climbed.invariant c.in-Some.ensures c.if-row-above.true

pub loop-climbed-preserved : goal.loop-climbed-preserved
loop-climbed-preserved c = seek_on c.args.self.now.tree c.is_tree.ensures c.args.f c.args.above c.loop-climbed.here c.loop-climbed._climbed (folder_of_row c.in-Some.row) c.loop-climbed.invariant c.in-Some.ensures c.if-row-above.false

pub returns : goal.returns
returns c = seek_over c.args.self.now.tree c.is_tree.ensures c.args.f c.args.above c.loop-climbed.here c.loop-climbed._climbed c.loop-climbed.invariant c.loop-climbed-test.false
