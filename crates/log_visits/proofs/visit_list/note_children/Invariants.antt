use Rattle.std.proofs.Common.{◌++◌, List, take}
use Rattle.std.specs.List.{flat_map}
use Rattle.cry_base.specs.declared.roles.Edge.{Edge}
use Rattle.log_visits.specs.Listing.{AreFirst, child_edges}
use Rattle.log_visits.proofs.visit_list.note_children.Given as goal

abbrev pub invariant-loop-sight : goal.invariant-loop-sight
invariant-loop-sight l = (so_far : List Edge) → AreFirst l.initial.first so_far → AreFirst l.first (so_far ++ flat_map child_edges (take l.sight-index l.sights))
