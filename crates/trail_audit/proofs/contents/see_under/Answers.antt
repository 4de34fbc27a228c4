use Rattle.std.proofs.Common.{◌++◌, List, [], ◌∷◌, map, ap, ◌∙◌}
use Rattle.std.specs.HashMap.{get}
use Rattle.std.proofs.lemmas.Result.{IfErr-weaker, on_ok_weaker}
use Rattle.chacha_seal.specs.Keys.{KeyParts}
use Rattle.log_visits.specs.declared.fault.ClientFault.{ClientFault}
use Rattle.trail_audit.specs.Derived.{ContentFault, PlainSeen, plain_seen}
use Rattle.trail_audit.specs.Grouped.{HasGroups, content_source, items_of, key_source, same_sources}
use Rattle.trail_audit.proofs.Groups.{among_keys, opened_of_group, shown_of_group}
use Rattle.trail_audit.proofs.Revealed.{content_fault_in}
use Rattle.trail_audit.proofs.contents.see_under.Goals as goal

pub returns-clause-opened : goal.returns-clause-opened
returns-clause-opened c = on_ok_weaker c.see_content.result
    (λ opened keys has. opened_of_group c.args.found.now keys c.group_of.result.now
    (c.group_of.ensures ∙ ap (λ s. items_of (get same_sources c.args.groups.now s)) c.source_of.ensures ∙ has.found (content_source c.args.found.now.content)) opened)
    c.see_content.ensures.opened

pub returns-clause-seen : goal.returns-clause-seen
returns-clause-seen c = on_ok_weaker c.see_content.result
    (λ seen keys has. seen ∙ ap (λ (s : List PlainSeen). map plain_seen c.args.seen.now.items ++ s) (shown_of_group c.args.found.now keys c.group_of.result.now
    (c.group_of.ensures ∙ ap (λ s. items_of (get same_sources c.args.groups.now s)) c.source_of.ensures ∙ has.found (content_source c.args.found.now.content))))
    c.see_content.ensures.seen

pub returns-clause-fault : goal.returns-clause-fault
returns-clause-fault c = IfErr-weaker c.see_content.result
    (ContentFault (c.args.found.now ∷ []) c.group_of.result.now)
    (λ (fault : ClientFault). (keys : List KeyParts) → HasGroups key_source c.args.groups.now keys → ContentFault (c.args.found.now ∷ []) keys fault)
    (λ fault wrong keys has. content_fault_in (c.args.found.now ∷ []) (c.args.found.now ∷ []) c.group_of.result.now keys fault (λ d i. i)
    (among_keys c.args.found.now keys c.group_of.result.now
    (c.group_of.ensures ∙ ap (λ s. items_of (get same_sources c.args.groups.now s)) c.source_of.ensures ∙ has.found (content_source c.args.found.now.content))) wrong)
    c.see_content.ensures.fault
