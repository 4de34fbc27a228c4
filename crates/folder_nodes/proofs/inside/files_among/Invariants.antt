use Rattle.std.proofs.Common.{◌≡◌, map, filter}
use Rattle.cry_base.specs.Store.{file_entry}
use Rattle.cry_base.specs.declared.ids.FileId.{FileId}
use Rattle.folder_nodes.specs.Inside.{is_file_of}
use Rattle.folder_nodes.specs.declared.spots.Spot.{Spot}
use Rattle.folder_nodes.proofs.inside.files_among.Given as goal

abbrev pub invariant-loop-spot : goal.invariant-loop-spot
invariant-loop-spot l =
    map (λ (x : FileId). x.0) l.found.items
    ≡ map (λ (q : Spot). q.id) (filter (λ q. is_file_of l.f.0 (file_entry l.shape.tree q.id)) (map (λ q. q.now) l.yielded))
