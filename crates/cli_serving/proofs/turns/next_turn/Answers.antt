use Rattle.std.proofs.Common.{◌≡◌, None, Err, ap, subst, sym, ◌∙◌}
use Rattle.script_text.specs.Seats.{ReadsTurn, turn_in}
use Rattle.cli_base.specs.Lines.{Gives, Takes, bytes_ahead, lines_ahead}
use Rattle.cli_serving.specs.Lines.{IsBadTurn}
use Rattle.cli_base.specs.declared.lines.Next.TheVariants.{Line, PastLimit}
use Rattle.cli_base.proofs.InputLemmas.{taken_one}
use Rattle.cli_sessions.proofs.Takings.{line_taken}
use Rattle.cli_serving.proofs.turns.next_turn.Goals as goal

pub returns-in-Ok-End-clause-gives : goal.returns-in-Ok-End-clause-gives
returns-in-Ok-End-clause-gives g c = λ x y was now.
    subst (λ next. Gives next (lines_ahead c.args.reader.now x) (lines_ahead c.next_line.new.self y)) c.in-Ok-End.field-0-is
    (c.in-Ok-End.ensures.lines x y was now)

pub returns-in-Ok-PastLimit-clause-gives : goal.returns-in-Ok-PastLimit-clause-gives
returns-in-Ok-PastLimit-clause-gives g c = λ x y was now.
    let past = subst (λ next. Gives next (lines_ahead c.args.reader.now x) (lines_ahead c.next_line.new.self y)) c.in-Ok-PastLimit.field-0-is
    (c.in-Ok-PastLimit.ensures.lines x y was now) in
    subst IsBadTurn (sym past.0) tt

pub returns-in-Ok-clause-gives : goal.returns-in-Ok-clause-gives
returns-in-Ok-clause-gives g c = λ x y was now.
    let given = subst (λ next. Gives next (lines_ahead c.args.reader.now x) (lines_ahead c.next_line.new.self y)) c.in-Ok-Line.field-0-is
    (c.in-Ok-Line.ensures.lines x y was now) in
    (c.in-Ok-Line.bytes.items, given, ap turn_in (sym c.as_slice.ensures) ∙ c.in-Ok.ensures.reads)

pub returns-in-Err-BadLine-clause-gives : goal.returns-in-Err-BadLine-clause-gives
returns-in-Err-BadLine-clause-gives g c = λ x y was now.
    let given = subst (λ next. Gives next (lines_ahead c.args.reader.now x) (lines_ahead c.next_line.new.self y)) c.in-Ok-Line.field-0-is
    (c.in-Ok-Line.ensures.lines x y was now) in
    let bad : turn_in c.as_slice.result.now ≡ None =
    subst (λ fault. ReadsTurn (Err fault) (turn_in c.as_slice.result.now)) c.in-Err-BadLine.field-0-is c.in-Err-BadLine.ensures.reads in
    subst IsBadTurn (sym given) (ap turn_in (sym c.as_slice.ensures) ∙ bad)

pub returns-in-Ok-clause-takes : goal.returns-in-Ok-clause-takes
returns-in-Ok-clause-takes g c = λ x y was now.
    line_taken c.in-Ok-Line.number c.in-Ok-Line.bytes c.args.reader.now c.next_line.new.self x y
    (subst (λ next. Takes next c.args.reader.now c.next_line.new.self (bytes_ahead c.args.reader.now x) (bytes_ahead c.next_line.new.self y)) c.in-Ok-Line.field-0-is
    (c.in-Ok-Line.ensures.bytes x y was now))

pub returns-in-Err-BadLine-clause-takes : goal.returns-in-Err-BadLine-clause-takes
returns-in-Err-BadLine-clause-takes g c = λ x y was now.
    taken_one (Line c.in-Ok-Line.number c.in-Ok-Line.bytes) c.args.reader.now c.next_line.new.self (bytes_ahead c.args.reader.now x) y
    (subst (λ next. Takes next c.args.reader.now c.next_line.new.self (bytes_ahead c.args.reader.now x) (bytes_ahead c.next_line.new.self y)) c.in-Ok-Line.field-0-is
    (c.in-Ok-Line.ensures.bytes x y was now))

pub returns-in-Ok-PastLimit-clause-takes : goal.returns-in-Ok-PastLimit-clause-takes
returns-in-Ok-PastLimit-clause-takes g c = λ x y was now.
    taken_one (PastLimit c.in-Ok-PastLimit.number) c.args.reader.now c.next_line.new.self (bytes_ahead c.args.reader.now x) y
    (subst (λ next. Takes next c.args.reader.now c.next_line.new.self (bytes_ahead c.args.reader.now x) (bytes_ahead c.next_line.new.self y)) c.in-Ok-PastLimit.field-0-is
    (c.in-Ok-PastLimit.ensures.bytes x y was now))
