use Rattle.std.proofs.Common.{◌≡◌, length}
use Rattle.std.specs.List.{list_all}
use Rattle.cry_base.specs.Naming.{is_name, split_at_slashes}
use Rattle.folder_nodes.specs.Pieces.{pieces_of}
use Rattle.folder_nodes.proofs.naming.are_names.Given as goal

abbrev pub invariant-loop-left : goal.invariant-loop-left
invariant-loop-left l = list_all is_name (pieces_of l.left) ≡ list_all is_name (split_at_slashes l.bytes)

abbrev pub decreases-loop-left : goal.decreases-loop-left
decreases-loop-left l = length (pieces_of l.left)
