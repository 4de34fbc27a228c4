use Rattle.std.proofs.Common.{◌≡◌, Err, None, Some, ap, subst, sym, ◌∙◌}
use Rattle.script_text.specs.Reading.{node_of}
use Rattle.script_text.specs.declared.fault.LineFault.TheVariants.{BadLine}
use Rattle.cli_base.specs.Lines.{Gives, Numbers, Takes, bytes_ahead, lines_ahead}
use Rattle.cli_heads.proofs.NodeLemmas.{next_is_bad, next_is_long, next_is_node, next_is_none, read_as, refused_as}
use Rattle.cli_heads.proofs.proof_lines.next_node.Goals as goal

pub returns-in-Ok-clause-next : goal.returns-in-Ok-clause-next
returns-in-Ok-clause-next g c = λ x y was now.
    let old = c.args.reader.now in
    let new = c.next_line.new.self in
    let is : node_of c.in-Ok-Line.bytes.items ≡ Some c.in-Ok.node =
    ap node_of (sym c.as_slice.ensures)
    ∙ read_as (node_of c.as_slice.result.now) BadLine c.in-Ok.node c.in-Ok.ensures.exactly in
    next_is_node c.in-Ok.node c.in-Ok-Line.number c.in-Ok-Line.bytes old new x y is
    (subst (λ next. Gives next (lines_ahead old x) (lines_ahead new y)) c.in-Ok-Line.field-0-is
    (c.in-Ok-Line.ensures.lines x y was now))
    (subst (λ next. Takes next old new (bytes_ahead old x) (bytes_ahead new y)) c.in-Ok-Line.field-0-is
    (c.in-Ok-Line.ensures.bytes x y was now))
    (subst (λ next. Numbers next old.given new.given) c.in-Ok-Line.field-0-is c.in-Ok-Line.ensures.number)

pub returns-in-Ok-End-clause-next : goal.returns-in-Ok-End-clause-next
returns-in-Ok-End-clause-next g c = λ x y was now.
    let old = c.args.reader.now in
    let new = c.next_line.new.self in
    next_is_none old new x y
    (subst (λ next. Gives next (lines_ahead old x) (lines_ahead new y)) c.in-Ok-End.field-0-is
    (c.in-Ok-End.ensures.lines x y was now))
    (subst (λ next. Takes next old new (bytes_ahead old x) (bytes_ahead new y)) c.in-Ok-End.field-0-is
    (c.in-Ok-End.ensures.bytes x y was now))

pub returns-in-Ok-PastLimit-clause-next : goal.returns-in-Ok-PastLimit-clause-next
returns-in-Ok-PastLimit-clause-next g c = λ x y was now.
    let old = c.args.reader.now in
    let new = c.next_line.new.self in
    next_is_long c.in-Ok-PastLimit.number old new x y
    (subst (λ next. Gives next (lines_ahead old x) (lines_ahead new y)) c.in-Ok-PastLimit.field-0-is
    (c.in-Ok-PastLimit.ensures.lines x y was now))
    (subst (λ next. Takes next old new (bytes_ahead old x) (bytes_ahead new y)) c.in-Ok-PastLimit.field-0-is
    (c.in-Ok-PastLimit.ensures.bytes x y was now))
    (subst (λ next. Numbers next old.given new.given) c.in-Ok-PastLimit.field-0-is c.in-Ok-PastLimit.ensures.number)

pub returns-clause-next : goal.returns-clause-next
returns-clause-next g c = λ x y was now.
    let old = c.args.reader.now in
    let new = c.next_line.new.self in
    let bad : node_of c.in-Ok-Line.bytes.items ≡ None =
    ap node_of (sym c.as_slice.ensures)
    ∙ refused_as (node_of c.as_slice.result.now) BadLine c.in-Err.field-0 c.in-Err.ensures.exactly in
    next_is_bad c.in-Ok-Line.number c.in-Ok-Line.bytes old new x y bad
    (subst (λ next. Gives next (lines_ahead old x) (lines_ahead new y)) c.in-Ok-Line.field-0-is
    (c.in-Ok-Line.ensures.lines x y was now))
    (subst (λ next. Takes next old new (bytes_ahead old x) (bytes_ahead new y)) c.in-Ok-Line.field-0-is
    (c.in-Ok-Line.ensures.bytes x y was now))
    (subst (λ next. Numbers next old.given new.given) c.in-Ok-Line.field-0-is c.in-Ok-Line.ensures.number)

pub returns-in-Err-Failed-clause-next : goal.returns-in-Err-Failed-clause-next
returns-in-Err-Failed-clause-next g c = λ x y was now.
    let kept = c.in-Err-Failed.ensures.bytes x y was now in
    (c.in-Err-Failed.ensures.failed (ap (λ e. Err e) c.in-Err-Failed.field-0-is), kept.0, kept.1)
