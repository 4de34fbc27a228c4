use Rattle.std.proofs.Common.{◌++◌, ◌∷◌, [], ap, sym, subst, ◌∙◌}
use Rattle.std.proofs.lemmas.Result.{err_from_is_err_and}
use Rattle.chacha_seal.specs.Keys.{KeyParts}
use Rattle.trail_audit.specs.Grouped.{HasGroups, key_source}
use Rattle.trail_audit.specs.Trails.{IsGrown, TagFault}
use Rattle.trail_audit.proofs.Groups.{group_added}
use Rattle.trail_audit.proofs.trails.use_key.Goals as goal

pub returns-clause-grown : goal.returns-clause-grown
returns-clause-grown c = λ links has.
    subst (λ (k : KeyParts). IsGrown links k c.args.known.now.keys.items c.follow_from.new.known.keys.items) c.opener-opener.ensures (c.in_ok-follow_from.ensures.grown links has)

pub returns-clause-openers : goal.returns-clause-openers
returns-clause-openers c = λ keys has.
    subst (λ (k : KeyParts). HasGroups key_source c.add_under.new.groups (keys ++ k ∷ [])) c.opener-opener.ensures
    (group_added key_source c.args.openers.now c.add_under.new.groups keys c.opener-opener.result c.source.result (c.source.ensures ∙ ap key_source (sym c.opener-opener.ensures)) has c.in_ok-add_under.ensures)

pub returns-in_err-follow_from-clause-fault : goal.returns-in_err-follow_from-clause-fault
returns-in_err-follow_from-clause-fault c =
    let p = err_from_is_err_and c.from_residual.result c.from_residual.ensures.1 in
    rw (p.1, p.2) (λ links has. subst (λ (k : KeyParts). TagFault links k c.in_err-follow_from.field-0.0) c.opener-opener.ensures (c.in_err-follow_from.ensures.fault links has))
