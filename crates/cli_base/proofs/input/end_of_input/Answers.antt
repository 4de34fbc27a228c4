use Rattle.std.proofs.Common.{Err, ap, subst}
use Rattle.cli_base.specs.Lines.{Gives, Takes, bytes_ahead, lines_ahead}
use Rattle.cli_base.proofs.InputLemmas.{second_failed, second_is_line, second_is_long, second_is_none}
use Rattle.cli_base.proofs.input.end_of_input.Goals as goal

pub returns-in-Ok-End-clause-ends : goal.returns-in-Ok-End-clause-ends
returns-in-Ok-End-clause-ends g c = λ x y was now bundle typed behind.
    let old = c.args.reader.now in
    let new = c.next_line.new.self in
    second_is_none bundle typed x y old new behind
    (subst (λ next. Gives next (lines_ahead old x) (lines_ahead new y)) c.in-Ok-End.field-0-is (c.in-Ok-End.ensures.lines x y was now))
    (subst (λ next. Takes next old new (bytes_ahead old x) (bytes_ahead new y)) c.in-Ok-End.field-0-is (c.in-Ok-End.ensures.bytes x y was now))

pub returns-in-Ok-Line-clause-ends : goal.returns-in-Ok-Line-clause-ends
returns-in-Ok-Line-clause-ends g c = λ x y was now bundle typed behind.
    let old = c.args.reader.now in
    let new = c.next_line.new.self in
    second_is_line c.in-Ok-Line.field-0-0 c.in-Ok-Line.field-0-1 bundle typed x y old new behind
    (subst (λ next. Gives next (lines_ahead old x) (lines_ahead new y)) c.in-Ok-Line.field-0-is (c.in-Ok-Line.ensures.lines x y was now))
    (subst (λ next. Takes next old new (bytes_ahead old x) (bytes_ahead new y)) c.in-Ok-Line.field-0-is (c.in-Ok-Line.ensures.bytes x y was now))

pub returns-in-Ok-PastLimit-clause-ends : goal.returns-in-Ok-PastLimit-clause-ends
returns-in-Ok-PastLimit-clause-ends g c = λ x y was now bundle typed behind.
    let old = c.args.reader.now in
    let new = c.next_line.new.self in
    second_is_long c.in-Ok-PastLimit.field-0-0 bundle typed x y old new behind
    (subst (λ next. Gives next (lines_ahead old x) (lines_ahead new y)) c.in-Ok-PastLimit.field-0-is (c.in-Ok-PastLimit.ensures.lines x y was now))
    (subst (λ next. Takes next old new (bytes_ahead old x) (bytes_ahead new y)) c.in-Ok-PastLimit.field-0-is (c.in-Ok-PastLimit.ensures.bytes x y was now))

pub returns-in-Err-Failed-clause-ends : goal.returns-in-Err-Failed-clause-ends
returns-in-Err-Failed-clause-ends g c = λ x y was now bundle typed behind.
    let kept = c.in-Err-Failed.ensures.bytes x y was now in
    second_failed bundle typed x y c.args.reader.now c.next_line.new.self behind (c.in-Err-Failed.ensures.failed (ap (λ e. Err e) c.in-Err-Failed.field-0-is)) kept.0 kept.1
