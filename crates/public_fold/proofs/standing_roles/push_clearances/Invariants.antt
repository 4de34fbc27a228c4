use Rattle.std.proofs.Common.{◌≡◌, ◌++◌}
use Rattle.std.specs.List.{flat_map}
use Rattle.move_plan.specs.Inner.{clearance_among}
use Rattle.public_fold.proofs.standing_roles.push_clearances.Given as goal

abbrev pub invariant-loop-file : goal.invariant-loop-file
invariant-loop-file l = l.all.items ++ flat_map (λ r. clearance_among l.grants.pairs r.id.0) l.file-iterator ≡ l.initial.all.items ++ flat_map (λ r. clearance_among l.grants.pairs r.id.0) l.fn.files
