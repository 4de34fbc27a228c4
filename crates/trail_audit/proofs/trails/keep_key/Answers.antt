use Rattle.std.proofs.Common.{inl, inr, refl, sym, ap, subst, ◌∙◌}
use Rattle.std.specs.HashMap.{get}
use Rattle.std.proofs.lemmas.Bool.{false≢true}
use Rattle.trail_audit.specs.Grouped.{HasGroups, items_of, key_source, same_sources}
use Rattle.trail_audit.proofs.Groups.{from_its_group, group_added, in_its_group}
use Rattle.trail_audit.proofs.trails.keep_key.Goals as goal

pub returns-then-has_key-clause-kept : goal.returns-then-has_key-clause-kept
returns-then-has_key-clause-kept c =
    let keys = c.args.known.now.keys.items in
    let group = c.group_of.ensures ∙ ap (λ s. items_of (get same_sources c.args.known.now.groups s)) c.source.ensures ∙ c.requires.grouped.found (key_source c.args.key) in
    inl (from_its_group c.args.key keys c.group_of.result.now group (c.has_key.ensures.0 c.if-has_key.true), refl)

pub returns-clause-kept : goal.returns-clause-kept
returns-clause-kept c =
    let keys = c.args.known.now.keys.items in
    let group = c.group_of.ensures ∙ ap (λ s. items_of (get same_sources c.args.known.now.groups s)) c.source.ensures ∙ c.requires.grouped.found (key_source c.args.key) in
    inr ((λ there. false≢true (sym c.if-has_key.false ∙ c.has_key.ensures.1 (in_its_group c.args.key keys c.group_of.result.now group there))), c.in_ok-push.ensures.items)

pub returns-clause-grouped : goal.returns-clause-grouped
returns-clause-grouped c =
    let keys = c.args.known.now.keys.items in
    subst (HasGroups key_source c.add_under.new.groups) (sym c.in_ok-push.ensures.items)
    (group_added key_source c.args.known.now.groups c.add_under.new.groups keys c.args.key c.source-2.result c.source-2.ensures c.requires.grouped c.in_ok-add_under.ensures)
