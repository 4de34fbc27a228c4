use Rattle.std.proofs.Common.{◌≡◌, ◌++◌, map}
use Rattle.cry_base.specs.declared.roles.Role.TheVariants.{Owner}
use Rattle.role_graph.specs.Edges.{edge}
use Rattle.role_graph.specs.Roles.{clear_of}
use Rattle.role_graph.proofs.role_edges.push_folders.Given as goal

abbrev pub invariant-loop-folder : goal.invariant-loop-folder
invariant-loop-folder l = l.found.items ++ map (λ r. edge 1 Owner (clear_of r.id.0)) l.folder-iterator ≡ l.initial.found.items ++ map (λ r. edge 1 Owner (clear_of r.id.0)) l.fn.folders
