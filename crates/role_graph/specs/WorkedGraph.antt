-- Opens the words of this crate, and those below it, to a computation.
use Rattle.std.specs.Prelude.{[], ◌∷◌, codes}
use Rattle.cry_base.specs.Requests.Request.{AddHolder, MakeFolder, WriteFile, Grant}
use Rattle.cry_base.specs.Store.{Store, root_store}
use Rattle.cry_base.specs.WorkedRows.{plain_store, store_after}
use Rattle.role_graph.specs.Rights.{downs, ups, granted_to, allowed, named, file_allowed, allowed_to, named_to, file_allowed_to}
use Rattle.role_graph.specs.Rights.{is_some_and, shown, node_allowed}
use Rattle.role_graph.specs.Roles.{holder_role, clear_of, sub_of, back_of, files_of, data_of, file_role, variant_of, role_id, same_role}
use Rattle.role_graph.specs.Roles.{role_before, is_root_role, is_sealing_role, is_clear_role, folder_roles}
use Rattle.role_graph.specs.Edges.{edge, edge_before, put_in_order, in_order, folder_edges, parent_edges, grant_edge, file_edge, edges}
use Rattle.role_graph.specs.Edges.{pairs_of, reach_along, same_edge, clearance_edges, has_grants}
use Rattle.role_graph.specs.Ascending.{with_role, ascending, without_role}

-- the store of mkdir /a, write /a/x 00ff, holder, grant 1 /a/x
unfoldable pub file_granted : Store
file_granted =
    store_after root_store (MakeFolder (codes "/a") ∷ WriteFile (codes "/a/x") (0 ∷ 255 ∷ []) ∷ AddHolder ∷ Grant 1 (codes "/a/x") ∷ [])

-- every word of the graph of roles
unfoldable pub graph : Unit {0}
unfolding plain_store downs ups granted_to allowed named file_allowed allowed_to named_to file_allowed_to is_some_and shown node_allowed
    holder_role clear_of sub_of
    back_of files_of data_of file_role variant_of role_id same_role role_before is_root_role is_sealing_role is_clear_role folder_roles
    edge edge_before put_in_order in_order folder_edges parent_edges grant_edge file_edge edges pairs_of reach_along same_edge with_role
    ascending without_role clearance_edges has_grants file_granted
graph = tt
