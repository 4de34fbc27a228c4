use Rattle.std.proofs.Common.{◌≡◌, ◌++◌, ap, inl, inr, subst, sym, ◌∙◌}
use Rattle.script_text.specs.Printing.{spell_reply}
use Rattle.cli_base.specs.Outside.{PrintsAll, PrintsFront}
use Rattle.cli_upgrading.specs.Upgrading.{PrintsReply}
use Rattle.cli_upgrading.proofs.telling.tell_reply.Goals as goal

pub returns-clause-printed : goal.returns-clause-printed
returns-clause-printed g c = λ x y was now.
    let reply = c.args.reply.now in
    let text : c.as_slice.result.now ≡ spell_reply reply =
    c.as_slice.ensures ∙ c.in-Ok.ensures.line ∙ ap (λ l. l ++ spell_reply reply) c.new-text.ensures in
    elim c.tell.ensures.done [
      | inl done ↦ subst (λ s. PrintsReply s reply x y) (sym done.0) (subst (λ t. PrintsAll t x y) text (done.1 x y was now))
      | inr cut ↦ subst (λ s. PrintsReply s reply x y) (sym cut.0) (subst (λ t. PrintsFront t x y) text (cut.1 x y was now))
    ]
