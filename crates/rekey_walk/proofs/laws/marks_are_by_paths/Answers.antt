use Rattle.rekey_walk.proofs.Marking.{mark_told, mark_all_told}
use Rattle.rekey_walk.proofs.laws.marks_are_by_paths.Goals as goal

pub returns : goal.returns
returns c = record { one = mark_told; each = mark_all_told }
