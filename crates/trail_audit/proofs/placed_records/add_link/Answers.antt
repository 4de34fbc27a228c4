use Rattle.std.proofs.Common.{ap, ◌∙◌}
use Rattle.std.proofs.lemmas.Result.{on_ok_weaker}
use Rattle.trail_audit.specs.Grouped.{source_of_link}
use Rattle.trail_audit.proofs.Groups.{group_added}
use Rattle.trail_audit.proofs.placed_records.add_link.Goals as goal

pub returns : goal.returns
returns c = on_ok_weaker c.add_under.result
    (λ updates before has. group_added source_of_link c.args.links.now c.add_under.new.groups before c.args.found c.source_of.result (c.source_of.ensures ∙ ap source_of_link c.found.view_is) has updates)
    c.add_under.ensures
