use Rattle.std.proofs.Common.{subst}
use Rattle.std.specs.Prelude.{OnErr, OnOk}
use Rattle.cry_io.specs.Stops.{Torn, Written}
use Rattle.cry_io.specs.Told.{WhereBothTold}
use Rattle.std.proofs.Common.{length}
use Rattle.file_disks.proofs.read_ahead.ReadAheadDisk.write_at.Goals as goal

pub invariant_of-self : goal.invariant_of-self
invariant_of-self g c = λ x told. c.forget.ensures x

pub returns-clause-written : goal.returns-clause-written
returns-clause-written g c =
    subst (λ d. OnOk c.write_at.result (WhereBothTold (g.D.Disk.shown d) (g.D.Disk.shown c.write_at.new.self) (Written c.args.place c.args.bytes.now)))
    c.self.view_is c.write_at.ensures.written

pub returns-clause-torn : goal.returns-clause-torn
returns-clause-torn g c =
    subst (λ d. OnErr c.write_at.result (WhereBothTold (g.D.Disk.shown d) (g.D.Disk.shown c.write_at.new.self) (Torn c.args.place (length c.args.bytes.now))))
    c.self.view_is c.write_at.ensures.torn
