use Rattle.std.proofs.Common.{◌++◌, ◌+◌, drop, sym, ap, ◌∙◌}
use Rattle.std.proofs.lemmas.List.{append-nil, drop_all}
use Rattle.std.specs.List.{flat_map}
use Rattle.cli_base.proofs.PrintedLines.{printed_more}
use Rattle.cli_reading.proofs.texts.text_of.Goals as goal

pub loop-line-preserved : goal.loop-line-preserved
loop-line-preserved g c =
    let spell = g.P.Printed.line in
    let lines = c.args.lines.now in
    ap (λ t. t ++ flat_map spell (drop (c.loop-line.line-index + 1) lines)) c.in_ok-print.ensures
    ∙ printed_more spell c.loop-line.text.items (flat_map spell lines) lines c.loop-line.line-index c.line-item.result
    c.loop-line-test.true (sym c.line-item.is) c.loop-line.invariant

pub returns : goal.returns
returns g c =
    let spell = g.P.Printed.line in
    let text = c.loop-line.text.items in
    let none = drop_all c.loop-line.line-index c.args.lines.now c.loop-line-test.false in
    sym (append-nil text) ∙ ap (λ xs. text ++ flat_map spell xs) (sym none) ∙ c.loop-line.invariant
