use Rattle.std.proofs.Common.{◌≡◌, Err, None, Some, ap, subst, sym, ◌∙◌}
use Rattle.script_text.specs.Reading.{bundle_of}
use Rattle.script_text.specs.declared.fault.LineFault.TheVariants.{BadLine}
use Rattle.cli_base.specs.Lines.{Gives, Takes, bytes_ahead, lines_ahead}
use Rattle.cli_base.proofs.InputLemmas.{first_failed, first_is_bad, first_is_bundle, first_is_long, first_is_none, read_as, refused_as}
use Rattle.cli_base.proofs.input.first_bundle.Goals as goal

pub returns-in-Ok-clause-begins : goal.returns-in-Ok-clause-begins
returns-in-Ok-clause-begins g c = λ x y was now.
    let old = c.args.reader.now in
    let new = c.next_line.new.self in
    let gives = subst (λ next. Gives next (lines_ahead old x) (lines_ahead new y)) c.in-Ok-Line.field-0-is (c.in-Ok-Line.ensures.lines x y was now) in
    let takes = subst (λ next. Takes next old new (bytes_ahead old x) (bytes_ahead new y)) c.in-Ok-Line.field-0-is (c.in-Ok-Line.ensures.bytes x y was now) in
    let is : bundle_of c.in-Ok-Line.bytes.items ≡ Some c.in-Ok.bundle =
    ap bundle_of (sym c.as_slice.ensures) ∙ read_as (bundle_of c.as_slice.result.now) BadLine c.in-Ok.bundle c.in-Ok.ensures.exactly in
    first_is_bundle c.in-Ok.bundle c.in-Ok-Line.field-0-0 c.in-Ok-Line.bytes old new x y c.requires.first is gives takes

pub returns-in-Ok-Line-clause-begins : goal.returns-in-Ok-Line-clause-begins
returns-in-Ok-Line-clause-begins g c = λ x y was now.
    let old = c.args.reader.now in
    let new = c.next_line.new.self in
    let gives = subst (λ next. Gives next (lines_ahead old x) (lines_ahead new y)) c.in-Ok-Line.field-0-is (c.in-Ok-Line.ensures.lines x y was now) in
    let takes = subst (λ next. Takes next old new (bytes_ahead old x) (bytes_ahead new y)) c.in-Ok-Line.field-0-is (c.in-Ok-Line.ensures.bytes x y was now) in
    let bad : bundle_of c.in-Ok-Line.bytes.items ≡ None =
    ap bundle_of (sym c.as_slice.ensures) ∙ refused_as (bundle_of c.as_slice.result.now) BadLine c.in-Err.field-0 c.in-Err.ensures.exactly in
    first_is_bad c.in-Ok-Line.field-0-0 c.in-Ok-Line.bytes old new x y c.requires.first bad gives takes

pub returns-in-Ok-End-clause-begins : goal.returns-in-Ok-End-clause-begins
returns-in-Ok-End-clause-begins g c = λ x y was now.
    let old = c.args.reader.now in
    let new = c.next_line.new.self in
    first_is_none old new x y c.requires.first
    (subst (λ next. Gives next (lines_ahead old x) (lines_ahead new y)) c.in-Ok-End.field-0-is (c.in-Ok-End.ensures.lines x y was now))
    (subst (λ next. Takes next old new (bytes_ahead old x) (bytes_ahead new y)) c.in-Ok-End.field-0-is (c.in-Ok-End.ensures.bytes x y was now))

pub returns-in-Ok-PastLimit-clause-begins : goal.returns-in-Ok-PastLimit-clause-begins
returns-in-Ok-PastLimit-clause-begins g c = λ x y was now.
    let old = c.args.reader.now in
    let new = c.next_line.new.self in
    first_is_long c.in-Ok-PastLimit.field-0-0 old new x y c.requires.first
    (subst (λ next. Gives next (lines_ahead old x) (lines_ahead new y)) c.in-Ok-PastLimit.field-0-is (c.in-Ok-PastLimit.ensures.lines x y was now))
    (subst (λ next. Takes next old new (bytes_ahead old x) (bytes_ahead new y)) c.in-Ok-PastLimit.field-0-is (c.in-Ok-PastLimit.ensures.bytes x y was now))

pub returns-in-Err-Failed-clause-begins : goal.returns-in-Err-Failed-clause-begins
returns-in-Err-Failed-clause-begins g c = λ x y was now.
    let kept = c.in-Err-Failed.ensures.bytes x y was now in
    first_failed c.args.reader.now c.next_line.new.self x y c.requires.first (c.in-Err-Failed.ensures.failed (ap (λ e. Err e) c.in-Err-Failed.field-0-is)) kept.0 kept.1
