use Rattle.std.proofs.Common.{◌≡◌, ◌≤◌}
use Rattle.std.specs.Prelude.{is_some}
use Rattle.cry_io.specs.Told.{WhereBothTold}
use Rattle.cli_heads.proofs.NodeLemmas.{Going}
use Rattle.cli_heads.proofs.proof_lines.read_proof.Given as goal

abbrev pub invariant-loop-node : goal.invariant-loop-node
invariant-loop-node g l = record {
  told : is_some (g.S.Source.left l.input) ≡ is_some (g.S.Source.left l.fn.input);
  counts : g.S.Source.faults l.fn.input ≤ g.S.Source.faults l.input;
  going : WhereBothTold (g.S.Source.left l.fn.input) (g.S.Source.left l.input) (λ typed left. Going l.proof.items typed l.reader left);
}

abbrev pub decreases-loop-node : goal.decreases-loop-node
decreases-loop-node g l = l.reader.room
