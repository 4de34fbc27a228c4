use Rattle.std.proofs.Common.{length, ap, ◌∙◌}
use Rattle.cry_base.specs.Store.{Store}
use Rattle.log_index.proofs.Listing.{objects_are}
use Rattle.log_index.proofs.objects.objects.Goals as goal

pub returns : goal.returns
returns c =
    objects_are c.args.state.now c.folders.result c.files.result c.holders.result c.new-all.result.items c.add_folders.new.all.items c.add_files.new.all.items c.add_holders.new.all.items
    (c.folders.ensures ∙ ap (λ (t : Store). t.folders) c.shape.ensures) (c.files.ensures ∙ ap (λ (t : Store). t.files) c.shape-2.ensures) (c.holders.ensures ∙ ap length c.grants.ensures.checks)
    c.new-all.ensures c.in_ok-add_folders.ensures c.in_ok-add_files.ensures c.in_ok-add_holders.ensures
