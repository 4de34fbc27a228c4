use Rattle.std.proofs.Common.{◌≡◌, take, arith}
use Rattle.cry_base.specs.Layout.{header_len}
use Rattle.commit_journal.proofs.Judged.{start_short, start_long}
use Rattle.commit_journal.proofs.reading.read_start.Goals as goal

pub returns-then-size-clause-answer : goal.returns-then-size-clause-answer
returns-then-size-clause-answer g c = λ s is.
    let sized = g.met.D.Disk.size_is_shown c.args.disk.now s is in
    start_short c.args.owner.now.bytes s (omega (arith, sized, c.size.ensures))

pub returns-clause-answer : goal.returns-clause-answer
returns-clause-answer g c = λ s is.
    let sized = g.met.D.Disk.size_is_shown c.args.disk.now s is in
    let header : c.read_at.new.buf ≡ take header_len s = c.in_ok-read_at.ensures.bytes s is in
    rw (start_long c.args.owner.now.bytes s (omega (arith, sized, c.size.ensures)), ← header) c.start_of.ensures.answer

pub returns-clause-disk_fault : goal.returns-clause-disk_fault
returns-clause-disk_fault g c = λ is. absurd (c.start_of.ensures.no_disk is)
