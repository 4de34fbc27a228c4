use Rattle.std.proofs.Common.{◌≡◌, ◌++◌, map}
use Rattle.folder_nodes.specs.Titles.{tree_store}
use Rattle.holder_client.specs.Lines.{plain_line, read_line}
use Rattle.holder_client.proofs.lines.push_files.Given as goal

abbrev pub invariant-loop-file : goal.invariant-loop-file
invariant-loop-file l = map plain_line l.lines.items ≡ map plain_line l.initial.lines.items ++ map (read_line (tree_store l.shape.tree l.names)) l.yielded
