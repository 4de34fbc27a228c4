use Rattle.std.proofs.Common.{◌≡◌, ◌++◌, map}
use Rattle.move_plan.specs.Inner.{inner_role}
use Rattle.move_plan.proofs.strict.push_inner.Given as goal

abbrev pub invariant-loop-folder : goal.invariant-loop-folder
invariant-loop-folder l = l.all.items ++ map (λ r. inner_role l.inner r.id.0) l.folder-iterator ≡ l.initial.all.items ++ map (λ r. inner_role l.inner r.id.0) l.fn.folders
