use Rattle.std.proofs.Common.{ap, sym, option_map}
use Rattle.head_tree.specs.Checking.{same_roots, shown}
use Rattle.head_tree.proofs.Checks.{settled-whole, settled-too_long, settled-only, settled-not_one, is_nothing, is_something}
use Rattle.head_tree.proofs.checking.settled.Goals as goal

pub returns-then-is_empty : goal.returns-then-is_empty
unfolding same_roots
returns-then-is_empty c =
    let none = is_nothing c.args.proof.now c.is_empty.result c.is_empty.ensures c.if-is_empty.true in
    rw c.if-whole.true (ap (option_map shown) (sym (settled-whole c.args.root.now c.args.proof.now none)))

pub returns-else-is_empty : goal.returns-else-is_empty
returns-else-is_empty c =
    let some = is_something c.args.proof.now c.is_empty.result c.is_empty.ensures c.if-is_empty.false in
    rw c.if-whole.true (ap (option_map shown) (sym (settled-too_long c.args.root.now c.args.proof.now some)))

pub returns-then-proof-eq1 : goal.returns-then-proof-eq1
unfolding same_roots
returns-then-proof-eq1 c =
    rw c.if-whole.false (ap (option_map shown) (sym (settled-only c.args.root.now c.args.proof.now c.if-proof-eq1.true)))

pub returns-else-proof-eq1 : goal.returns-else-proof-eq1
returns-else-proof-eq1 c =
    rw c.if-whole.false (ap (option_map shown) (sym (settled-not_one c.args.root.now c.args.proof.now c.if-proof-eq1.false)))
