use Rattle.std.proofs.Common.{◌≡◌, ◌++◌, drop}
use Rattle.std.specs.List.{flat_map}
use Rattle.script_text.specs.Printing.{node_line}
use Rattle.cli_heads.proofs.asking.lines_of.Given as goal

abbrev pub invariant-loop-hash : goal.invariant-loop-hash
invariant-loop-hash l = l.text.items ++ flat_map node_line (drop l.hash-index l.hashes) ≡ flat_map node_line l.hashes
