use Rattle.std.proofs.Common.{◌∙◌, ap, refl, sym}
use Rattle.store_owner.specs.Owned.{OwnerView}
use Rattle.store_owner.proofs.owner.Owner.upgrade.Goals as goal

pub returns-then-is_closed-clause-answers : goal.returns-then-is_closed-clause-answers
returns-then-is_closed-clause-answers g c = λ m is.
    let closed = ap (λ (o : OwnerView). o.journal.is_closed) (sym c.self.view_is) ∙ sym c.is_closed.ensures ∙ c.if-is_closed.true in
    (closed, refl, c.disk_stands_still.ensures.rests c.args.self.now.key m)

pub returns-then-is_closed-clause-published : goal.returns-then-is_closed-clause-published
returns-then-is_closed-clause-published g c = λ m is rests. c.disk_stands_still.ensures.published c.args.self.now.key m rests

pub returns-then-is_closed-clause-acts : goal.returns-then-is_closed-clause-acts
returns-then-is_closed-clause-acts g c = ap (λ (o : OwnerView). o.journal.is_closed) (sym c.self.view_is) ∙ sym c.is_closed.ensures ∙ c.if-is_closed.true
