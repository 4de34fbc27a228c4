use Rattle.std.proofs.Common.{subst}
use Rattle.std.specs.Prelude.{OnOk}
use Rattle.cry_io.specs.Stops.{Written}
use Rattle.cry_io.specs.Told.{WhereBothTold}
use Rattle.file_disks.proofs.watched.WatchedDisk.write_at.Goals as goal

pub returns-clause-written : goal.returns-clause-written
returns-clause-written g c =
    subst (λ w. OnOk c.write_at.result (WhereBothTold (g.D.Disk.shown w.disk) (g.D.Disk.shown c.write_at.new.self) (Written c.args.place c.args.bytes.now)))
    c.self.view_is c.write_at.ensures.written
