-- What any call promises, of one that reads its input and tests a head before it upgrades, and that reads the log behind that.
use Rattle.std.proofs.Common.{◌≡◌, ◌<◌, ◌≤◌, IsTrue, arith, subst, ◌∙◌}
use Rattle.std.specs.Prelude.{is_some}
use Rattle.std.proofs.lemmas.Bool.{false≢true}
use Rattle.cli_base.specs.Promises.Any.{AnyEnds}
use Rattle.cli_base.specs.World.{Senses, world_of}
use Rattle.cli_base.specs.declared.status.Status.{Status}
use Rattle.cli_base.specs.declared.status.Status.TheVariants as statuses
use Rattle.cli_heads.specs.Asked.Asked.{TheHead}
use Rattle.cli_heads.specs.Statuses.{is_log_answer}

module _ {S R D W : Type 0} (see : Senses S R D W) where
  -- the whole input was read before, and the disk, without a fault
  pub tested_before : (status : Status) (first rest : S) (random drawn : R) (disk tested written : D) (out printed : W)
      → is_some (see.inputs.left rest) ≡ is_some (see.inputs.left first) → see.inputs.faults first ≤ see.inputs.faults rest
      → is_some (see.disks.shown tested) ≡ is_some (see.disks.shown disk) → see.disks.faults disk ≤ see.disks.faults tested
      → AnyEnds see status (world_of rest random tested out) (world_of rest drawn written printed)
      → AnyEnds see status (world_of first random disk out) (world_of rest drawn written printed)
  tested_before status first rest random drawn disk tested written out printed input_told input_counts disk_told disk_counts any = record {
    read_fault = λ is. let none = any.read_fault is in omega (arith, none);
    random_fault = any.random_fault;
    disk_fault = λ is. let risen = any.disk_fault is in omega (arith, disk_counts, risen);
    write_fault = any.write_fault;
    input_told = input_told;
    random_told = any.random_told;
    disk_told = any.disk_told ∙ disk_told;
    out_told = any.out_told;
    input_counts = input_counts;
    random_counts = any.random_counts;
    disk_counts = let more = any.disk_counts in omega (arith, disk_counts, more);
    out_counts = any.out_counts;
  }

  -- the log was read behind it, and its head printed
  pub asked_behind : (ended status : Status) (rest : S) (random drawn : R) (disk left read : D) (out ran printed : W)
      → AnyEnds see ended (world_of rest random disk out) (world_of rest drawn left ran) → IsTrue (is_log_answer TheHead status)
      → (status ≡ statuses.DiskFault → see.disks.faults left < see.disks.faults read)
      → (status ≡ statuses.WriteFault → see.outs.faults ran < see.outs.faults printed)
      → is_some (see.disks.shown read) ≡ is_some (see.disks.shown left) → is_some (see.outs.written printed) ≡ is_some (see.outs.written ran)
      → see.disks.faults left ≤ see.disks.faults read → see.outs.faults ran ≤ see.outs.faults printed
      → AnyEnds see status (world_of rest random disk out) (world_of rest drawn read printed)
  asked_behind ended status rest random drawn disk left read out ran printed any answers disk_fault write_fault disk_told out_told disk_counts out_counts = record {
    read_fault = λ is. absurd (false≢true (subst (λ s. IsTrue (is_log_answer TheHead s)) is answers));
    random_fault = λ is. absurd (false≢true (subst (λ s. IsTrue (is_log_answer TheHead s)) is answers));
    disk_fault = λ is. let risen = disk_fault is in let before = any.disk_counts in omega (arith, before, risen);
    write_fault = λ is. let risen = write_fault is in let before = any.out_counts in omega (arith, before, risen);
    input_told = any.input_told;
    random_told = any.random_told;
    disk_told = disk_told ∙ any.disk_told;
    out_told = out_told ∙ any.out_told;
    input_counts = any.input_counts;
    random_counts = any.random_counts;
    disk_counts = let before = any.disk_counts in omega (arith, before, disk_counts);
    out_counts = let before = any.out_counts in omega (arith, before, out_counts);
  }
