use Rattle.std.proofs.Common.{◌≡◌, ◌++◌, take, sym, ap, ◌∙◌}
use Rattle.script_text.specs.Seats.{spell_seat_reply}
use Rattle.session_laws.specs.Answers.{plain_reply}
use Rattle.session_laws.specs.Serving.{spell_plain_reply}
use Rattle.session_laws.proofs.RepliesPrinted.{reply_printed}
use Rattle.cli_serving.proofs.answering.answer_seat.Goals as goal

pub returns-in_default-print-clause-answers : goal.returns-in_default-print-clause-answers
returns-in_default-print-clause-answers g c =
    let reply = c.in-Ok.reply in
    let piece : c.as_slice.result.now ≡ spell_plain_reply (plain_reply reply) =
    c.as_slice.ensures ∙ c.in-Ok-print_seat_reply.ensures.line ∙ ap (λ text. text ++ spell_seat_reply reply) c.new-text.ensures ∙ sym (reply_printed reply)
    in (
      plain_reply reply,
      c.in-Ok.ensures.went,
      λ x y was now.
          let cut = c.in_default-print.ensures.bytes x y was now in
          (cut.0, cut.2 ∙ ap (λ text. x ++ take cut.0 text) piece),
    )

pub returns-clause-answers : goal.returns-clause-answers
returns-clause-answers g c =
    let reply = c.in-Ok.reply in
    let piece : c.as_slice.result.now ≡ spell_plain_reply (plain_reply reply) =
    c.as_slice.ensures ∙ c.in-Ok-print_seat_reply.ensures.line ∙ ap (λ text. text ++ spell_seat_reply reply) c.new-text.ensures ∙ sym (reply_printed reply)
    in (
      plain_reply reply,
      c.in-Ok.ensures.went,
      λ x y was now. c.in-Ok-print.ensures.bytes x y was now ∙ ap (λ text. x ++ text) piece,
    )
