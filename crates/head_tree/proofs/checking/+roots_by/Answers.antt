use Rattle.std.proofs.Common.{◌<◌, ap, sym, option_map, arith, ◌∙◌}
use Rattle.head_tree.specs.Checking.{shown, front_of, last_of}
use Rattle.head_tree.proofs.Checks.{check-same, proof_check-lacking, shown-left, shown-right, is_nothing, is_something}
use Rattle.head_tree.proofs.checking.+roots_by.Goals as goal

pub returns-then-old-new : goal.returns-then-old-new
returns-then-old-new t c =
    c.settled.ensures
    ∙ ap (option_map shown) (sym (check-same c.args.root.now c.args.old c.args.new c.args.proof.now c.args.whole c.if-old-new.true))

pub returns-then-is_empty : goal.returns-then-is_empty
returns-then-is_empty t c =
    let less : c.args.old < c.args.new = omega arith in
    let none = is_nothing c.args.proof.now c.is_empty.result c.is_empty.ensures c.if-is_empty.true in
    ap (option_map shown) (sym (proof_check-lacking c.args.root.now c.args.old c.args.new c.args.proof.now c.args.whole less none))

pub returns-in_err-older : goal.returns-in_err-older
unfolding front_of
returns-in_err-older t c =
    let some = is_something c.args.proof.now c.is_empty.result c.is_empty.ensures c.if-is_empty.false in
    let law = shown-left c.split_of-split.result c.args.old c.args.new c.args.root.now c.args.proof.now c.args.whole c.split_of-split.ensures some
    c.if-old-split.true c.roots_by.result c.roots_by.ensures in
    c.from_residual.ensures ∙ sym (rw c.in_err-older.was at law)

pub returns-in_ok-older : goal.returns-in_ok-older
unfolding front_of last_of
returns-in_ok-older t c =
    let some = is_something c.args.proof.now c.is_empty.result c.is_empty.ensures c.if-is_empty.false in
    let law = shown-left c.split_of-split.result c.args.old c.args.new c.args.root.now c.args.proof.now c.args.whole c.split_of-split.ensures some
    c.if-old-split.true c.roots_by.result c.roots_by.ensures in
    rw c.node_hash.ensures (sym (rw c.in_ok-older.was at law))

pub returns-in_err-older-2 : goal.returns-in_err-older-2
unfolding front_of
returns-in_err-older-2 t c =
    let some = is_something c.args.proof.now c.is_empty.result c.is_empty.ensures c.if-is_empty.false in
    let less : c.args.old < c.args.new = omega arith in
    let law = shown-right c.split_of-split.result c.args.old c.args.new c.args.root.now c.args.proof.now c.args.whole c.split_of-split.ensures some
    c.if-old-split.false less c.roots_by-else-old-split.result c.roots_by-else-old-split.ensures in
    c.from_residual-in_err-older-2.ensures ∙ sym (rw c.in_err-older-2.was at law)

pub returns-in_ok-older-2 : goal.returns-in_ok-older-2
unfolding front_of last_of
returns-in_ok-older-2 t c =
    let some = is_something c.args.proof.now c.is_empty.result c.is_empty.ensures c.if-is_empty.false in
    let less : c.args.old < c.args.new = omega arith in
    let law = shown-right c.split_of-split.result c.args.old c.args.new c.args.root.now c.args.proof.now c.args.whole c.split_of-split.ensures some
    c.if-old-split.false less c.roots_by-else-old-split.result c.roots_by-else-old-split.ensures in
    rw (c.node_hash-else-old-split.ensures, c.node_hash-else-old-split-2.ensures) (sym (rw c.in_ok-older-2.was at law))
