use Rattle.std.proofs.Common.{◌≡◌, ℕ, take}
use Rattle.std.specs.HashSet.{contains}
use Rattle.std.specs.List.{list_any}
use Rattle.folder_nodes.specs.Titles.{tree_store}
use Rattle.holder_client.specs.Beside.{opens_at}
use Rattle.log_visits.specs.Sights.{same_number}
use Rattle.holder_client.proofs.opening_path.folders_open_at.Given as goal

abbrev pub invariant-loop-sight : goal.invariant-loop-sight
invariant-loop-sight l = (f : ℕ) → contains same_number l.folders f ≡ list_any (opens_at (tree_store l.shape.tree l.names) l.path f) (take l.sight-index l.sights)
