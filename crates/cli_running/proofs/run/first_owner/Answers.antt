use Rattle.std.proofs.Common.{◌≡◌, None, Some, refl, ap, subst, sym, ◌∙◌}
use Rattle.script_text.specs.Reading.{bundle_of}
use Rattle.cli_base.specs.Input.{owner_key}
use Rattle.cli_base.specs.Lines.{Gives, Takes, bytes_ahead, lines_ahead}
use Rattle.cli_running.specs.Running.{key_in_lines, lines_behind}
use Rattle.cli_base.specs.declared.lines.Next.TheVariants.{End, Line, PastLimit}
use Rattle.cli_base.proofs.InputLemmas.{taken_one}
use Rattle.cli_sessions.proofs.Takings.{line_taken}
use Rattle.cli_running.proofs.run.first_owner.Goals as goal

pub returns-in-Some-clause-gives : goal.returns-in-Some-clause-gives
returns-in-Some-clause-gives g c = λ x y was now.
    let given = subst (λ next. Gives next (lines_ahead c.args.reader.now x) (lines_ahead c.next_line.new.self y)) c.in-Ok-Line.field-0-is
    (c.in-Ok-Line.ensures.lines x y was now) in
    let key : owner_key (bundle_of c.in-Ok-Line.bytes.items) ≡ Some c.in-Some.key =
    ap (λ line. owner_key (bundle_of line)) (sym c.as_slice.ensures) ∙ sym c.in-Some.ensures.exactly in
    (subst (λ lines. key_in_lines lines ≡ Some c.in-Some.key) (sym given) key, sym (ap lines_behind given))

pub returns-in-Ok-Line-clause-gives : goal.returns-in-Ok-Line-clause-gives
returns-in-Ok-Line-clause-gives g c = λ x y was now.
    let given = subst (λ next. Gives next (lines_ahead c.args.reader.now x) (lines_ahead c.next_line.new.self y)) c.in-Ok-Line.field-0-is
    (c.in-Ok-Line.ensures.lines x y was now) in
    let key : owner_key (bundle_of c.in-Ok-Line.bytes.items) ≡ None =
    ap (λ line. owner_key (bundle_of line)) (sym c.as_slice.ensures) ∙ sym c.in-None.ensures.exactly in
    (subst (λ lines. key_in_lines lines ≡ None) (sym given) key, refl)

pub returns-in-Ok-End-clause-gives : goal.returns-in-Ok-End-clause-gives
returns-in-Ok-End-clause-gives g c = λ x y was now.
    let given = subst (λ next. Gives next (lines_ahead c.args.reader.now x) (lines_ahead c.next_line.new.self y)) c.in-Ok-End.field-0-is
    (c.in-Ok-End.ensures.lines x y was now) in
    (subst (λ lines. key_in_lines lines ≡ None) (sym given.0) refl, refl)

pub returns-in-Ok-PastLimit-clause-gives : goal.returns-in-Ok-PastLimit-clause-gives
returns-in-Ok-PastLimit-clause-gives g c = λ x y was now.
    let given = subst (λ next. Gives next (lines_ahead c.args.reader.now x) (lines_ahead c.next_line.new.self y)) c.in-Ok-PastLimit.field-0-is
    (c.in-Ok-PastLimit.ensures.lines x y was now) in
    (subst (λ lines. key_in_lines lines ≡ None) (sym given.0) refl, refl)

pub returns-in-Some-clause-takes : goal.returns-in-Some-clause-takes
returns-in-Some-clause-takes g c = λ x y was now.
    line_taken c.in-Ok-Line.field-0-0 c.in-Ok-Line.bytes c.args.reader.now c.next_line.new.self x y
    (subst (λ next. Takes next c.args.reader.now c.next_line.new.self (bytes_ahead c.args.reader.now x) (bytes_ahead c.next_line.new.self y)) c.in-Ok-Line.field-0-is
    (c.in-Ok-Line.ensures.bytes x y was now))

pub returns-in-Ok-Line-clause-takes : goal.returns-in-Ok-Line-clause-takes
returns-in-Ok-Line-clause-takes g c = λ x y was now.
    taken_one (Line c.in-Ok-Line.field-0-0 c.in-Ok-Line.bytes) c.args.reader.now c.next_line.new.self (bytes_ahead c.args.reader.now x) y
    (subst (λ next. Takes next c.args.reader.now c.next_line.new.self (bytes_ahead c.args.reader.now x) (bytes_ahead c.next_line.new.self y)) c.in-Ok-Line.field-0-is
    (c.in-Ok-Line.ensures.bytes x y was now))

pub returns-in-Ok-End-clause-takes : goal.returns-in-Ok-End-clause-takes
returns-in-Ok-End-clause-takes g c = λ x y was now.
    taken_one End c.args.reader.now c.next_line.new.self (bytes_ahead c.args.reader.now x) y
    (subst (λ next. Takes next c.args.reader.now c.next_line.new.self (bytes_ahead c.args.reader.now x) (bytes_ahead c.next_line.new.self y)) c.in-Ok-End.field-0-is
    (c.in-Ok-End.ensures.bytes x y was now))

pub returns-in-Ok-PastLimit-clause-takes : goal.returns-in-Ok-PastLimit-clause-takes
returns-in-Ok-PastLimit-clause-takes g c = λ x y was now.
    taken_one (PastLimit c.in-Ok-PastLimit.field-0-0) c.args.reader.now c.next_line.new.self (bytes_ahead c.args.reader.now x) y
    (subst (λ next. Takes next c.args.reader.now c.next_line.new.self (bytes_ahead c.args.reader.now x) (bytes_ahead c.next_line.new.self y)) c.in-Ok-PastLimit.field-0-is
    (c.in-Ok-PastLimit.ensures.bytes x y was now))
