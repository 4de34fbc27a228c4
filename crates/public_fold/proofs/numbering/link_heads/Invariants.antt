use Rattle.std.proofs.Common.{◌≡◌, ◌+◌, ◌++◌, drop}
use Rattle.public_fold.specs.KeyStep.{links_from}
use Rattle.public_fold.specs.KeysAfter.{keys_then_of}
use Rattle.public_fold.proofs.numbering.link_heads.Given as goal

abbrev pub invariant-loop-edge : goal.invariant-loop-edge
invariant-loop-edge l = record {
  at : l.next ≡ l.first + l.edge-index;
  so_far : l.links.items ++ links_from (keys_then_of l.keys) l.next (drop l.edge-index l.edges) ≡ links_from (keys_then_of l.keys) l.first l.edges;
}
