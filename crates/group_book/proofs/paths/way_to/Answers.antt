use Rattle.std.proofs.Common.{sym, ◌∙◌}
use Rattle.log_visits.proofs.WayDown.{nothing_up, way_climbs, way_ends, way_over, way_start, way_tops}
use Rattle.group_book.proofs.paths.way_to.Goals as goal

pub loop-climbed-init : goal.loop-climbed-init
loop-climbed-init c = way_start c.args.shape.now.tree c.is_tree.ensures c.args.f.0 c.new-way.result.items c.new-way.ensures.items

pub returns-then-not-has_folder : goal.returns-then-not-has_folder
returns-then-not-has_folder c =
    way_ends c.args.shape.now.tree c.args.f.0 c.loop-climbed.way.items c.loop-climbed.here.0 c.loop-climbed._climbed c.loop-climbed.invariant
    (nothing_up c.args.shape.now.tree c.loop-climbed.here.0 (sym c.if-not-has_folder.true ∙ c.has_folder.ensures))

pub returns-in_default : goal.returns-in_default
returns-in_default c =
    way_tops c.args.shape.now.tree c.is_tree.ensures c.args.f.0 c.loop-climbed.way.items c.put_first.new.way.items c.loop-climbed.here c.loop-climbed._climbed c.loop-climbed.invariant
    (sym c.if-not-has_folder.false ∙ c.has_folder.ensures) c.in_ok-put_first.ensures c.in_default.ensures

pub loop-climbed-preserved : goal.loop-climbed-preserved
loop-climbed-preserved c =
    way_climbs c.args.shape.now.tree c.is_tree.ensures c.args.f.0 c.loop-climbed.way.items c.put_first.new.way.items c.loop-climbed.here c.in-Some.parent c.loop-climbed._climbed c.loop-climbed.invariant
    (sym c.if-not-has_folder.false ∙ c.has_folder.ensures) c.in_ok-put_first.ensures c.in-Some.ensures

pub returns : goal.returns
returns c = way_over c.args.shape.now.tree c.args.f.0 c.loop-climbed.way.items c.loop-climbed.here.0 c.loop-climbed._climbed c.loop-climbed.invariant c.loop-climbed-test.false
