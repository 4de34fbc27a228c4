-- What every call promises, whatever its words ask for. An answer that tells of a fault is given only where a call of that object failed
-- meanwhile. What tells of itself when the call begins still does when it ends, and how often an object failed never falls.
use Rattle.std.specs.Prelude.{◌≡◌, ◌<◌, ◌≤◌, is_some}
use Rattle.cli_base.specs.World.{Senses, World}
use Rattle.cli_base.specs.declared.status.Status.{Status}
use Rattle.cli_base.specs.declared.status.Status.TheVariants as statuses

-- how any call ends
pub record AnyEnds {S R D W : Type 0} (see : Senses S R D W) (status : Status) (before after : World S R D W) : Type 0 where
  pub read_fault : status ≡ statuses.ReadFault → see.inputs.faults before.input < see.inputs.faults after.input
  pub random_fault : status ≡ statuses.RandomFault → see.randoms.faults before.random < see.randoms.faults after.random
  pub disk_fault : status ≡ statuses.DiskFault → see.disks.faults before.disk < see.disks.faults after.disk
  pub write_fault : status ≡ statuses.WriteFault → see.outs.faults before.out < see.outs.faults after.out
  pub input_told : is_some (see.inputs.left after.input) ≡ is_some (see.inputs.left before.input)
  pub random_told : is_some (see.randoms.left after.random) ≡ is_some (see.randoms.left before.random)
  pub disk_told : is_some (see.disks.shown after.disk) ≡ is_some (see.disks.shown before.disk)
  pub out_told : is_some (see.outs.written after.out) ≡ is_some (see.outs.written before.out)
  pub input_counts : see.inputs.faults before.input ≤ see.inputs.faults after.input
  pub random_counts : see.randoms.faults before.random ≤ see.randoms.faults after.random
  pub disk_counts : see.disks.faults before.disk ≤ see.disks.faults after.disk
  pub out_counts : see.outs.faults before.out ≤ see.outs.faults after.out
