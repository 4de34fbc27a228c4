use Rattle.std.proofs.Common.{◌++◌, List, map, take}
use Rattle.cry_base.specs.declared.roles.Edge.{Edge}
use Rattle.log_visits.specs.Listing.{AreFirst, entry_up}
use Rattle.log_visits.proofs.visit_list.note_entries.Given as goal

abbrev pub invariant-loop-entry : goal.invariant-loop-entry
invariant-loop-entry l = (so_far : List Edge) → AreFirst l.initial.first so_far → AreFirst l.first (so_far ++ map entry_up (take l.entry-index l.entries))
