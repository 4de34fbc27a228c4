use Rattle.std.proofs.Common.{◌<◌, append-nil, append_assoc, ◌∙◌, sym, refl, arith, length, take, drop, ◌-◌, false, [], ◌∷◌}
use Rattle.head_tree.specs.Hashing.{tree_hash}
use Rattle.head_tree.specs.Proving.{part_proof}
use Rattle.head_tree.proofs.Proofs.{part_proof-whole, part_proof-own, part_proof-left, part_proof-right}
use Rattle.head_tree.proofs.tree.+add_proof.Goals as goal

pub returns-in_ok-push : goal.returns-in_ok-push
returns-in_ok-push t c =
    let own = part_proof-own c.args.count c.args.leaves.now c.args.whole c.if-count-leaves.true c.if-not-whole.true in
    c.in_ok-push.ensures.items ∙ rw (c.root_of.ensures, own) refl

pub returns-else-not-whole : goal.returns-else-not-whole
returns-else-not-whole t c =
    rw (part_proof-whole c.args.count c.args.leaves.now c.args.whole c.if-count-leaves.true c.if-not-whole.false) (sym (append-nil _))

pub returns-in_ok-push-2 : goal.returns-in_ok-push-2
returns-in_ok-push-2 t c =
    let law = part_proof-left c.split_of-split.result c.args.count c.args.leaves.now c.args.whole c.split_of-split.ensures c.if-count-split.true in
    c.in_ok-push-2.ensures.items ∙ rw (
      c.in_ok-add_proof.ensures,
      c.root_of-then-count-split.ensures,
      c.split_at.ensures.front,
      c.split_at.ensures.back,
      law,
    ) (append_assoc c.args.proof.now.items (part_proof c.args.count (take c.split_of-split.result c.args.leaves.now) c.args.whole)
    (tree_hash (drop c.split_of-split.result c.args.leaves.now) ∷ []))

pub returns-in_ok-push-3 : goal.returns-in_ok-push-3
returns-in_ok-push-3 t c =
    let less : c.args.count < length c.args.leaves.now = omega arith in
    let law = part_proof-right c.split_of-split.result c.args.count c.args.leaves.now c.args.whole c.split_of-split.ensures c.if-count-split.false less in
    c.in_ok-push-3.ensures.items ∙ rw (
      c.in_ok-add_proof-2.ensures,
      c.root_of-else-count-split.ensures,
      c.split_at.ensures.front,
      c.split_at.ensures.back,
      law,
    ) (append_assoc c.args.proof.now.items (part_proof (c.args.count - c.split_of-split.result) (drop c.split_of-split.result c.args.leaves.now) false)
    (tree_hash (take c.split_of-split.result c.args.leaves.now) ∷ []))
