use Rattle.std.proofs.Common.{[], ◌++◌, ◌+◌, drop, get_or, sym, ap, ◌∙◌}
use Rattle.std.proofs.lemmas.List.{append-nil, drop_all, get_or_default}
use Rattle.std.specs.List.{flat_map}
use Rattle.cli_base.proofs.PrintedLines.{printed_more}
use Rattle.script_text.specs.Printing.{node_line}
use Rattle.cli_heads.proofs.asking.lines_of.Goals as goal

pub loop-hash-preserved : goal.loop-hash-preserved
loop-hash-preserved c =
    let hashes = c.args.hashes.now in
    let at = c.loop-hash.hash-index in
    let hash = get_or hashes at [] in
    ap (λ t. t ++ flat_map node_line (drop (at + 1) hashes)) c.in_ok-print_node.ensures.line
    ∙ printed_more node_line c.loop-hash.text.items (flat_map node_line hashes) hashes at hash
    c.loop-hash-test.true (get_or_default hashes at hash [] c.loop-hash-test.true) c.loop-hash.invariant

pub returns : goal.returns
returns c =
    let text = c.loop-hash.text.items in
    let none = drop_all c.loop-hash.hash-index c.args.hashes.now c.loop-hash-test.false in
    sym (append-nil text) ∙ ap (λ xs. text ++ flat_map node_line xs) (sym none) ∙ c.loop-hash.invariant
