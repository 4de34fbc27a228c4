use Rattle.std.proofs.Common.{◌∙◌, ap, refl, subst, sym}
use Rattle.cry_base.specs.Requests.{request_of}
use Rattle.folder_nodes.specs.Targets.{why_of}
use Rattle.public_fold.specs.Journal.{store_of}
use Rattle.store_owner.specs.Owned.{OwnerView}
use Rattle.store_owner.proofs.Measured.{strict_journal}
use Rattle.store_owner.specs.Deeds.Deed.{Commanded}
use Rattle.store_owner.specs.Sound.{IsSound, own_store}
use Rattle.store_owner.proofs.OwnAnswers.{store_refuses}
use Rattle.store_owner.proofs.Planned.{is_refused}
use Rattle.store_owner.proofs.Taken.{takes_none}
use Rattle.store_owner.proofs.owner.Owner.apply.Goals as goal

pub returns-in-Err-clause-answers : goal.returns-in-Err-clause-answers
returns-in-Err-clause-answers g c = λ m is.
    let o : OwnerView = c.args.self.now in
    let r = request_of c.args.command.now in
    (is_refused o m r c.in-Err.why (strict_journal m o r o.file_bytes is ∙ sym (c.resolved.ensures.cause (store_of m) (c.owners_keep_the_store.ensures m o is)) ∙ ap why_of c.in-Err.is), refl, c.disk_stands_still.ensures.rests o.key m)

pub returns-then-is_closed-clause-answers : goal.returns-then-is_closed-clause-answers
returns-then-is_closed-clause-answers g c = λ m is.
    let closed = ap (λ (o : OwnerView). o.journal.is_closed) (sym c.self.view_is) ∙ sym c.is_closed.ensures ∙ c.if-is_closed.true in
    (closed, refl, c.disk_stands_still.ensures.rests c.args.self.now.key m)

pub returns-in-Err-clause-draws : goal.returns-in-Err-clause-draws
returns-in-Err-clause-draws g c = takes_none (g.R.Source.left c.args.random.now)

pub returns-then-is_closed-clause-published : goal.returns-then-is_closed-clause-published
returns-then-is_closed-clause-published g c = λ m is rests. c.disk_stands_still.ensures.published c.args.self.now.key m rests

pub returns-in-Err-clause-published : goal.returns-in-Err-clause-published
returns-in-Err-clause-published g c = λ m is rests. c.disk_stands_still.ensures.published c.args.self.now.key m rests

pub returns-then-is_closed-clause-acts : goal.returns-then-is_closed-clause-acts
returns-then-is_closed-clause-acts g c = ap (λ (o : OwnerView). o.journal.is_closed) (sym c.self.view_is) ∙ sym c.is_closed.ensures ∙ c.if-is_closed.true

pub returns-in-Err-clause-acts : goal.returns-in-Err-clause-acts
returns-in-Err-clause-acts g c =
    let o : OwnerView = c.args.self.now in
    let r = request_of c.args.command.now in
    let sound : IsSound o = subst IsSound c.self.view_is (c.self.invariant (sym c.is_closed.ensures ∙ c.if-is_closed.false)).0 in
    (store_refuses o (Commanded r) sound c.in-Err.why (sym (c.resolved.ensures.cause (own_store o) (c.sound_owners_keep_a_store.ensures.store o)) ∙ ap why_of c.in-Err.is), refl)
