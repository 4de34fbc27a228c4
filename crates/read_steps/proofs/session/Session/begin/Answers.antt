use Rattle.cry_io.proofs.OnlyRead.{only_read_twice}
use Rattle.read_steps.proofs.session.Session.begin.Goals as goal

pub returns-clause-read_only : goal.returns-clause-read_only
returns-clause-read_only g c =
    only_read_twice g.D.Disk c.args.disk.now c.begin_log.new.disk c.count_batches.new.disk c.in_ok-log.ensures.read_only c.in_ok-pinned.ensures.read_only
