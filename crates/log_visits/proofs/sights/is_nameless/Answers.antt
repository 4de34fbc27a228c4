use Rattle.std.proofs.Common.{sym, ap, ◌∙◌}
use Rattle.cry_base.specs.Store.{Store}
use Rattle.log_visits.proofs.OwnerVisits.{rows_nameless}
use Rattle.log_visits.proofs.sights.is_nameless.Goals as goal

pub returns : goal.returns
returns c =
    rows_nameless c.args.state.now.tree c.folders-folders.result c.files-files.result
    (sym (c.folders-folders.ensures ∙ ap (λ (t : Store). t.folders) c.shape-shape.ensures))
    (sym (c.files-files.ensures ∙ ap (λ (t : Store). t.files) c.shape-shape.ensures))
