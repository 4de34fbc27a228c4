use Rattle.std.proofs.Common.{◌≡◌, map, filter}
use Rattle.cry_base.specs.Store.{folder_entry}
use Rattle.cry_base.specs.declared.ids.FolderId.{FolderId}
use Rattle.folder_nodes.specs.Inside.{is_child_of}
use Rattle.folder_nodes.specs.declared.spots.Spot.{Spot}
use Rattle.folder_nodes.proofs.inside.folders_among.Given as goal

abbrev pub invariant-loop-spot : goal.invariant-loop-spot
invariant-loop-spot l =
    map (λ (g : FolderId). g.0) l.found.items
    ≡ map (λ (q : Spot). q.id) (filter (λ q. is_child_of l.f.0 (folder_entry l.shape.tree q.id)) (map (λ q. q.now) l.yielded))
