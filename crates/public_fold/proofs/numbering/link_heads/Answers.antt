use Rattle.std.proofs.Common.{◌+◌, [], ◌∷◌, ◌++◌, drop, sym, ap, ◌∙◌, arith}
use Rattle.public_fold.specs.KeyStep.{links_from}
use Rattle.public_fold.specs.KeysAfter.{keys_then_of}
use Rattle.public_fold.specs.Records.{Link}
use Rattle.public_fold.proofs.StepLists.{linked_all, linked_more}
use Rattle.public_fold.proofs.numbering.link_heads.Goals as goal

pub loop-edge-preserved : goal.loop-edge-preserved
loop-edge-preserved c = record {
  at = omega arith;
  so_far =
      ap (λ l. l ++ links_from (keys_then_of c.args.keys.now) (c.loop-edge.next + 1) (drop (c.loop-edge.edge-index + 1) c.args.edges.now)) c.in_ok-push.ensures.items
      ∙ ap (λ (x : Link). (c.loop-edge.links.items ++ x ∷ []) ++ links_from (keys_then_of c.args.keys.now) (c.loop-edge.next + 1) (drop (c.loop-edge.edge-index + 1) c.args.edges.now)) c.link_head.ensures
      ∙ linked_more (keys_then_of c.args.keys.now) c.loop-edge.links.items c.args.edges.now c.loop-edge.next c.loop-edge.edge-index _ c.loop-edge-test.true
      ∙ c.loop-edge.invariant.so_far;
}

pub returns : goal.returns
returns c = sym (linked_all (keys_then_of c.args.keys.now) c.loop-edge.links.items c.args.edges.now c.loop-edge.next c.loop-edge.edge-index c.loop-edge-test.false) ∙ c.loop-edge.invariant.so_far
