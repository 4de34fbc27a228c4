use Rattle.std.proofs.Common.{List, ap, ◌∙◌}
use Rattle.std.specs.HashMap.{get}
use Rattle.std.proofs.lemmas.Result.{IfErr-weaker, on_ok_weaker}
use Rattle.log_visits.specs.Placing.{PlacedLink}
use Rattle.log_visits.specs.declared.fault.ClientFault.{ClientFault}
use Rattle.trail_audit.specs.Grouped.{HasGroups, items_of, key_source, same_sources, source_of_link}
use Rattle.trail_audit.specs.Trails.{TagFault}
use Rattle.trail_audit.proofs.Groups.{grown_of_group, tag_fault_of_group}
use Rattle.trail_audit.proofs.trails.follow_from.Goals as goal

pub returns-clause-grown : goal.returns-clause-grown
returns-clause-grown c = on_ok_weaker c.follow_links.result
    (λ grown links has. grown_of_group links c.group_of.result.now c.args.key.now c.args.known.now.keys.items c.follow_links.new.known.keys.items
    (c.group_of.ensures ∙ ap (λ s. items_of (get same_sources c.args.groups.now s)) c.source_of_key.ensures ∙ has.found (key_source c.args.key.now)) grown)
    c.follow_links.ensures.grown

pub returns-clause-fault : goal.returns-clause-fault
returns-clause-fault c = IfErr-weaker c.follow_links.result
    (TagFault c.group_of.result.now c.args.key.now)
    (λ (fault : ClientFault). (links : List PlacedLink) → HasGroups source_of_link c.args.groups.now links → TagFault links c.args.key.now fault)
    (λ fault wrong links has. tag_fault_of_group links c.group_of.result.now c.args.key.now fault
    (c.group_of.ensures ∙ ap (λ s. items_of (get same_sources c.args.groups.now s)) c.source_of_key.ensures ∙ has.found (key_source c.args.key.now)) wrong)
    c.follow_links.ensures.fault
