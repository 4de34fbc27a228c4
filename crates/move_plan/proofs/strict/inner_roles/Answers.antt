use Rattle.move_plan.proofs.Inside.{all_inner}
use Rattle.move_plan.proofs.strict.inner_roles.Goals as goal

pub returns : goal.returns
returns c =
    all_inner c.args.shape.now.tree c.args.grants.now c.folders.result c.folders-2.result c.folders-3.result c.folders-4.result c.files.result
    c.new-all.result.items c.push_inner.new.all.items c.push_clearances.new.all.items c.push_inner-2.new.all.items c.push_inner-3.new.all.items c.push_inner-4.new.all.items
    c.new-all.ensures c.folders.ensures c.folders-2.ensures c.folders-3.ensures c.folders-4.ensures c.files.ensures
    c.in_ok-push_inner.ensures c.in_ok-push_clearances.ensures c.in_ok-push_inner-2.ensures c.in_ok-push_inner-3.ensures c.in_ok-push_inner-4.ensures
