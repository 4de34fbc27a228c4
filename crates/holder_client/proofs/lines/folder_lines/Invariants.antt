use Rattle.std.proofs.Common.{◌≡◌, map, take}
use Rattle.std.specs.List.{flat_map}
use Rattle.folder_nodes.specs.Titles.{tree_store}
use Rattle.holder_client.specs.Lines.{lines_of, plain_line}
use Rattle.holder_client.proofs.lines.folder_lines.Given as goal

abbrev pub invariant-loop-sight : goal.invariant-loop-sight
invariant-loop-sight l = map plain_line l.lines.items ≡ flat_map (lines_of (tree_store l.shape.tree l.names)) (take l.sight-index l.sights)
