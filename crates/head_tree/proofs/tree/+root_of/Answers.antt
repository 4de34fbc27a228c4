use Rattle.std.proofs.Common.{◌∙◌, sym}
use Rattle.head_tree.proofs.Trees.{tree_hash-single, tree_hash-split}
use Rattle.head_tree.proofs.tree.+root_of.Goals as goal

pub returns-then-leaves-eq1 : goal.returns-then-leaves-eq1
returns-then-leaves-eq1 t c = tree_hash-single c.args.leaves.now c.if-leaves-eq1.true

pub returns : goal.returns
returns t c =
    let law = tree_hash-split c.split_of-split.result c.args.leaves.now c.split_of-split.ensures in
    c.node_hash.ensures ∙ rw (c.root_of.ensures, c.root_of-2.ensures, c.split_at.ensures.front, c.split_at.ensures.back) (sym law)
