use Rattle.std.proofs.Common.{Ok, arith, refl, subst, sym, ◌∙◌}
use Rattle.cry_io.proofs.ToldLemmas.{told_again}
use Rattle.cli_heads.specs.ProofLines.{NextNode}
use Rattle.cli_heads.proofs.NodeLemmas.{Going, ends_there, going_at_start, going_on, stops_there}
use Rattle.cli_heads.proofs.proof_lines.read_proof.Goals as goal

pub loop-node-init : goal.loop-node-init
loop-node-init g c = record {
  told = refl;
  counts = omega arith;
  going = going_at_start c.new-proof.result.items c.new-reader.result (g.S.Source.left c.args.input.now) c.new-proof.ensures
      c.new-reader.ensures;
}

pub loop-node-preserved : goal.loop-node-preserved
loop-node-preserved g c =
    let left = g.S.Source.left in
    let loop = c.loop-node.invariant in
    record {
      told = c.in-Ok-Some.ensures.told ∙ loop.told;
      counts = omega (arith, loop.counts, c.in-Ok-Some.ensures.counts);
      going = λ x y was now.
          let again = told_again (left c.args.input.now) (left c.loop-node.input) x loop.told was in
          subst (λ nodes. Going nodes x c.next_node.new.reader y) (sym c.in-Ok.ensures.items)
          (going_on c.loop-node.proof.items c.in-Ok-Some.node x again.0 y c.loop-node.reader c.next_node.new.reader
          (loop.going x again.0 was again.1)
          (subst (λ o. NextNode (Ok o) c.loop-node.reader c.next_node.new.reader again.0 y) c.in-Ok-Some.field-0-is
          (c.in-Ok-Some.ensures.next again.0 y again.1 now)));
    }

pub returns-in-Ok-None-clause-bytes : goal.returns-in-Ok-None-clause-bytes
returns-in-Ok-None-clause-bytes g c = λ x y was now.
    let left = g.S.Source.left in
    let loop = c.loop-node.invariant in
    let again = told_again (left c.args.input.now) (left c.loop-node.input) x loop.told was in
    let next = subst (λ o. NextNode (Ok o) c.loop-node.reader c.next_node.new.reader again.0 y) c.in-Ok-None.field-0-is
    (c.in-Ok-None.ensures.next again.0 y again.1 now) in
    (ends_there c.loop-node.proof.items x again.0 y c.loop-node.reader (loop.going x again.0 was again.1) next.0, next.1)

pub returns-in-Err-clause-bytes : goal.returns-in-Err-clause-bytes
returns-in-Err-clause-bytes g c = λ x y was now.
    let left = g.S.Source.left in
    let loop = c.loop-node.invariant in
    let again = told_again (left c.args.input.now) (left c.loop-node.input) x loop.told was in
    stops_there c.in-Err.fault c.loop-node.proof.items x again.0 y c.loop-node.reader c.next_node.new.reader
    (loop.going x again.0 was again.1)
    (c.in-Err.ensures.next again.0 y again.1 now)
