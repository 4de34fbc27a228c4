-- What holds of the keys after each entry, computed for one journal.
use Rattle.std.specs.Prelude.{Bool, not, ◌&&◌, ◌==◌, List, [], ◌∷◌, ◌++◌}
use Rattle.std.specs.List.{list_all, list_any}
use Rattle.cry_base.specs.Sets.{has}
use Rattle.cry_base.specs.declared.roles.Edge.{Edge}
use Rattle.role_graph.specs.Roles.{same_role}
use Rattle.role_graph.specs.Edges.{edges, reach_along, same_edge}
use Rattle.public_fold.specs.Records.{Link}
use Rattle.public_fold.specs.KeyStep.{Stepped, present}
use Rattle.public_fold.specs.Journal.{Entry, Journal, Stand, nothing, entry_step, stand_then}

-- all that edges lead to from a dirty role is dirty
unfoldable pub dirt_is_closed : Stand → Bool
dirt_is_closed at = list_all (has same_role at.keys.dirty) (reach_along (edges at.store) at.keys.dirty)

-- each edge has a link among these, from the present key of its source to the present key of its target
unfoldable pub is_linked : Stand → List Link → Edge → Bool
is_linked at links e =
    list_any (λ l. same_edge l.edge e && (l.from_serial == present at.keys.keys e.from && l.to_serial == present at.keys.keys e.to)) links

unfoldable pub edges_are_linked : Stand → List Link → Bool
edges_are_linked at links = list_all (is_linked at links) (edges at.store)

-- no link leaves a role that is dirty after its command
unfoldable pub links_are_clean : Stepped → Bool
links_are_clean s = list_all (λ l. not (has same_role s.after.dirty l.edge.from)) s.links

-- all three after each entry, the links so far given
unfoldable pub holds_from : List Link → Stand → List Entry → Bool
holds_from links at [] = dirt_is_closed at && edges_are_linked at links
holds_from links at (entry ∷ entries) =
    dirt_is_closed at && edges_are_linked at links && links_are_clean (entry_step at entry)
    && holds_from (links ++ (entry_step at entry).links) (stand_then at entry) entries

unfoldable pub invariants_hold : Journal → Bool
invariants_hold m = holds_from [] nothing m
