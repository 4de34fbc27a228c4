use Rattle.std.proofs.Common.{rules}
use Rattle.cry_io.proofs.Happened.{synced_left}
use Rattle.cry_io.proofs.mem_disk.MemDiskDisk.sync.Goals as goal

pub returns-clause-stops : goal.returns-clause-stops
returns-clause-stops c = synced_left c.args.self.now.events c.sync.new.self.events (search rules)
