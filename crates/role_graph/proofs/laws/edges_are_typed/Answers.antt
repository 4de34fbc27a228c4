use Rattle.role_graph.proofs.Edging.{edges_told}
use Rattle.role_graph.proofs.Typing.{typed}
use Rattle.role_graph.proofs.laws.edges_are_typed.Goals as goal

pub returns : goal.returns
returns c = record {
  rows = edges_told;
  no_root = λ s e i. (typed s e i).0;
  no_sealing = λ s e i. (typed s e i).1;
  clear = λ s e i. (typed s e i).2;
}
