use Rattle.std.proofs.Common.{◌∙◌, ap, refl, sym}
use Rattle.public_fold.specs.Preparing.{is_new_holder}
use Rattle.cry_base.specs.declared.commands.Reply.TheVariants as replies
use Rattle.store_owner.specs.Planning.{reply_for}
use Rattle.store_owner.proofs.Keyed.{head_is_first, keyed_holder}
use Rattle.store_owner.proofs.change.Change.take_key.Goals as goal

pub returns-clause-keyed : goal.returns-clause-keyed
returns-clause-keyed c =
    let first = head_is_first c.args.drawn.now (c.requires.holder (ap is_new_holder c.in-NewHolder.is)).0 in
    keyed_holder c.args.drawn.now c.args.self.now _ c.in-NewHolder.holder c.in-NewHolder.check c.check_of-check.result _ c.in-NewHolder.is first c.check_of-check.ensures refl c.set_check.ensures.skeleton c.set_check.ensures.can c.set_check.ensures.seen
    c.put_all.ensures.items refl

pub returns-clause-reply : goal.returns-clause-reply
returns-clause-reply c =
    ap (replies.Made c.in-NewHolder.holder) (head_is_first c.args.drawn.now (c.requires.holder (ap is_new_holder c.in-NewHolder.is)).0)
    ∙ sym (ap (λ n. reply_for n c.args.drawn.now) c.in-NewHolder.is)
