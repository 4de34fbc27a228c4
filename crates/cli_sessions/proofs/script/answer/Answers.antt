use Rattle.std.proofs.Common.{◌≡◌, ◌++◌, take, ap, ◌∙◌}
use Rattle.script_text.specs.Printing.{spell_reply}
use Rattle.cli_sessions.proofs.script.answer.Goals as goal

pub returns-in_default-print-clause-answers : goal.returns-in_default-print-clause-answers
returns-in_default-print-clause-answers g c =
    let piece : c.as_slice.result.now ≡ spell_reply c.in-Ok.reply =
    c.as_slice.ensures ∙ c.in-Ok-print_reply.ensures.line ∙ ap (λ text. text ++ spell_reply c.in-Ok.reply) c.new-text.ensures in (
      c.in-Ok.reply,
      c.in-Ok.ensures.answers,
      λ x y was now.
          let cut = c.in_default-print.ensures.bytes x y was now in
          (cut.0, cut.2 ∙ ap (λ text. x ++ take cut.0 text) piece),
    )

pub returns-clause-answers : goal.returns-clause-answers
returns-clause-answers g c =
    let piece : c.as_slice.result.now ≡ spell_reply c.in-Ok.reply =
    c.as_slice.ensures ∙ c.in-Ok-print_reply.ensures.line ∙ ap (λ text. text ++ spell_reply c.in-Ok.reply) c.new-text.ensures in (
      c.in-Ok.ensures.answers,
      λ x y was now. c.in-Ok-print.ensures.bytes x y was now ∙ ap (λ text. x ++ text) piece,
    )
