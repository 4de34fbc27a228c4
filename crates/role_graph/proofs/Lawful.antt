-- The laws of edges hold of those of a store.
use Rattle.std.proofs.Common.{◌≡◌, ◌<◌, false, ap, subst}
use Rattle.cry_base.specs.Store.{Store}
use Rattle.cry_base.specs.declared.roles.Role.{Role}
use Rattle.folder_nodes.specs.Trees.{IsTree}
use Rattle.kind_table.specs.Kinds.{kind_of}
use Rattle.kind_table.specs.Rows.{Allows}
use Rattle.kind_table.specs.declared.eleven.TheConstants.{ELEVEN}
use Rattle.role_graph.specs.Joined.{HasEdge, rank_of}
use Rattle.role_graph.specs.Roles.{is_root_role}
use Rattle.role_graph.specs.Tabled.{row_of}
use Rattle.role_graph.proofs.Edging.{edges_told}
use Rattle.role_graph.proofs.Falling.{edge_falls}
use Rattle.role_graph.proofs.RowsOfEdges.{each_edge}
use Rattle.role_graph.proofs.Typing.{typed}

pub no_root : (s : Store) (a b : Role) → HasEdge s a b → is_root_role b ≡ false
no_root s a b w = subst (λ z. is_root_role z ≡ false) w.3 (typed s w.0 w.1).0

pub falls : (s : Store) → IsTree s → (a b : Role) → HasEdge s a b → rank_of s b < rank_of s a
falls s tree a b w =
    let low = edge_falls s tree w.0 ((edges_told s w.0).0 w.1) in
    subst (λ z. rank_of s b < rank_of s z) w.2 (subst (λ z. rank_of s z < rank_of s w.0.from) w.3 low)

pub tabled : (s : Store) (a b : Role) → HasEdge s a b → Allows ELEVEN.rows (kind_of a) (kind_of b)
unfolding row_of
tabled s a b w = (row_of w.0, each_edge s w.0 w.1, ap kind_of w.2, ap kind_of w.3)
