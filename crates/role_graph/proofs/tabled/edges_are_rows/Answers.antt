use Rattle.role_graph.proofs.RowsOfEdges.{each_edge, each_row}
use Rattle.role_graph.proofs.tabled.edges_are_rows.Goals as goal

pub returns : goal.returns
returns c = record { each_edge = each_edge; each_row = each_row }
