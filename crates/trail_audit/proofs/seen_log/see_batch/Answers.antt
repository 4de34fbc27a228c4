use Rattle.std.proofs.Common.{[], ◌∷◌, ◌∙◌, ap, map, subst, sym}
use Rattle.std.proofs.lemmas.Result.{err_from_is_err_and}
use Rattle.holder_client.proofs.Listings.{opening_seen}
use Rattle.trail_audit.specs.Derived.{plain_seen}
use Rattle.trail_audit.specs.Seals.{AreSeals}
use Rattle.trail_audit.specs.declared.seals.Seals.{Seals}
use Rattle.trail_audit.proofs.Reread.{batch_seen, contents_in, free_fault}
use Rattle.trail_audit.proofs.seen_log.see_batch.Goals as goal

pub returns-in-Short-clause-answer : goal.returns-in-Short-clause-answer
returns-in-Short-clause-answer g c = λ s is q again sealed.
    batch_seen c.see_contents.result (c.placed.result ∷ []) (contents_in q) c.args.known.now.keys.items (map plain_seen c.args.seen.now.items) (map plain_seen c.see_contents.new.seen.items)
    (ap (λ x. x ∷ []) c.placed.ensures ∙ sym (subst (λ (z : Seals). AreSeals z (contents_in q)) c.in-Short.is sealed))
    c.see_contents.ensures.seen c.see_contents.ensures.fault

pub returns-then-not-may_show-clause-answer : goal.returns-then-not-may_show-clause-answer
returns-then-not-may_show-clause-answer g c = λ s is q again sealed.
    c.may_show.ensures c.if-not-may_show.true c.args.known.now.keys.items (contents_in q) (map plain_seen c.args.seen.now.items) c.requires.grouped sealed

pub returns-in_err-placed-clause-answer : goal.returns-in_err-placed-clause-answer
returns-in_err-placed-clause-answer g c = λ s is q again sealed.
    let p = err_from_is_err_and c.from_residual.result c.from_residual.ensures.1 in
    rw (p.1, p.2) (free_fault c.in_err-placed.field-0.0 (contents_in q) c.args.known.now.keys.items (c.in_err-placed.ensures.same s is q again))

pub returns-in_err-placed-clause-unseen : goal.returns-in_err-placed-clause-unseen
returns-in_err-placed-clause-unseen g c =
    let p = err_from_is_err_and c.from_residual.result c.from_residual.ensures.1 in
    rw (p.1, p.2) (opening_seen c.in_err-placed.field-0.0)

pub returns-clause-answer : goal.returns-clause-answer
returns-clause-answer g c = λ s is q again sealed.
    batch_seen c.see_contents-2.result c.as_slice.result.now (contents_in q) c.args.known.now.keys.items (map plain_seen c.args.seen.now.items) (map plain_seen c.see_contents-2.new.seen.items)
    (c.as_slice.ensures ∙ c.in_ok-contents.ensures ∙ ap contents_in (c.in_ok-placed.ensures.same s is q again))
    c.see_contents-2.ensures.seen c.see_contents-2.ensures.fault
