use Rattle.std.proofs.Common.{rules}
use Rattle.std.proofs.lemmas.List.Sorted.{answers_always}
use Rattle.holder_client.proofs.Sorted.{line_before, lines_order, lines_sorted}
use Rattle.holder_client.proofs.lines.sort.Goals as goal

pub returns : goal.returns
returns c =
    let compares = answers_always _ _ _ (λ f a r next called. search rules) in
    lines_sorted _ _ lines_order (c.in_ok-sort_by.ensures.sorted line_before lines_order compares) (c.in_ok-sort_by.ensures.stable line_before lines_order compares)
