use Rattle.std.proofs.Common.{◌≡◌, ◌||◌, ◌==◌, ℕ, take}
use Rattle.std.specs.HashSet.{contains}
use Rattle.std.specs.List.{list_any}
use Rattle.cry_base.specs.declared.ids.FolderId.{FolderId}
use Rattle.log_visits.specs.Sights.{same_number}
use Rattle.log_visits.proofs.sights.note_each.Given as goal

abbrev pub invariant-loop-folder : goal.invariant-loop-folder
invariant-loop-folder l = (f : ℕ) → contains same_number l.above f ≡ (contains same_number l.initial.above f || list_any (λ (x : FolderId). x.0 == f) (take l.folder-index l.folders))
