use Rattle.public_fold.proofs.RolesStanding.{listed_in_order}
use Rattle.public_fold.proofs.standing_roles.standing_roles.Goals as goal

pub returns : goal.returns
returns c =
    listed_in_order c.args.shape.now.tree c.args.grants.now c.holders.result
    c.folders.result c.folders-2.result c.folders-3.result c.folders-4.result c.folders-5.result c.files.result c.files-2.result
    c.new-all.result.items c.push_holders.new.all.items c.push_folders.new.all.items c.push_clearances.new.all.items c.push_folders-2.new.all.items
    c.push_folders-3.new.all.items c.push_folders-4.new.all.items c.push_folders-5.new.all.items c.push_files.new.all.items
    c.holders.ensures c.new-all.ensures
    c.folders.ensures c.folders-2.ensures c.folders-3.ensures c.folders-4.ensures c.folders-5.ensures c.files.ensures c.files-2.ensures
    c.in_ok-push_holders.ensures c.in_ok-push_folders.ensures c.in_ok-push_clearances.ensures c.in_ok-push_folders-2.ensures
    c.in_ok-push_folders-3.ensures c.in_ok-push_folders-4.ensures c.in_ok-push_folders-5.ensures c.in_ok-push_files.ensures
