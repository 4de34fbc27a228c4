-- Why no change means no step.
use Rattle.move_plan.specs.declared.fault.ChangeFault.{ChangeFault}
use Rattle.move_plan.specs.declared.fault.ChangeFault.TheVariants as change
use Rattle.public_fold.specs.declared.fault.FoldFault.{FoldFault}
use Rattle.public_fold.specs.declared.fault.FoldFault.TheVariants as fold

-- the same cause
abbrev pub fault_of : ChangeFault → FoldFault
fault_of change.Unfit = fold.Unfit
fault_of change.OutOfMemory = fold.OutOfMemory
