use Rattle.std.proofs.Common.{◌∙◌}
use Rattle.folder_nodes.specs.Bare.{folder_of_row}
use Rattle.folder_nodes.proofs.Leading.{lead_start, lead_on, lead_apart, lead_top, lead_off, lead_over}
use Rattle.folder_nodes.proofs.spelling.leads_to_folder.Goals as goal

pub loop-climbed-init : goal.loop-climbed-init
loop-climbed-init c = lead_start c.args.shape.now.tree c.args.names.now c.is_tree.ensures c.args.f c.args.bytes.now

pub returns-in_default : goal.returns-in_default
returns-in_default c = lead_off c.args.shape.now.tree c.args.names.now c.args.f c.args.bytes.now c.loop-climbed.here c.loop-climbed.left.now c.loop-climbed._climbed c.loop-climbed.invariant c.in_default.ensures

pub returns-then-row-eq0 : goal.returns-then-row-eq0
returns-then-row-eq0 c =
    c.is_empty.ensures ∙ lead_top c.args.shape.now.tree c.args.names.now c.is_tree.ensures c.args.f c.args.bytes.now c.loop-climbed.here c.loop-climbed.left.now c.loop-climbed._climbed (folder_of_row c.in-Some.row) c.loop-climbed.invariant c.in-Some.ensures c.if-row-eq0.true

pub returns-in_default-before_name : goal.returns-in_default-before_name
returns-in_default-before_name c =
    lead_apart c.args.shape.now.tree c.args.names.now c.is_tree.ensures c.args.f c.args.bytes.now c.loop-climbed.here c.loop-climbed.left.now c.loop-climbed._climbed (folder_of_row c.in-Some.row) c.loop-climbed.invariant c.in-Some.ensures c.if-row-eq0.false c.in_default-before_name.ensures

pub loop-climbed-preserved : goal.loop-climbed-preserved
loop-climbed-preserved c =
    lead_on c.args.shape.now.tree c.args.names.now c.is_tree.ensures c.args.f c.args.bytes.now c.loop-climbed.here c.loop-climbed.left.now c.loop-climbed._climbed (folder_of_row c.in-Some.row) c.in-Some-before_name.front.now c.loop-climbed.invariant c.in-Some.ensures c.if-row-eq0.false c.in-Some-before_name.ensures

pub returns : goal.returns
returns c = lead_over c.args.shape.now.tree c.args.names.now c.is_tree.ensures c.args.f c.args.bytes.now c.loop-climbed.here c.loop-climbed.left.now c.loop-climbed._climbed c.loop-climbed.invariant c.loop-climbed-test.false
