use Rattle.std.proofs.Common.{arith}
use Rattle.commit_journal.proofs.Streamed.{gate_past, gate_read}
use Rattle.commit_journal.proofs.reading.read_gate.Goals as goal

pub returns-then-size-past-clause-gate : goal.returns-then-size-past-clause-gate
returns-then-size-past-clause-gate g c = λ s is.
    let sized = g.met.D.Disk.size_is_shown c.args.disk.now s is in
    gate_past s c.args.past.now.at (omega (arith, c.requires.behind)) (omega (arith, sized, c.size.ensures, c.if-size-past.true))

pub returns-clause-gate : goal.returns-clause-gate
returns-clause-gate g c = λ s is.
    let sized = g.met.D.Disk.size_is_shown c.args.disk.now s is in
    gate_read s c.read_at.new.buf c.args.past.now.at (omega (arith, c.requires.behind)) (omega (arith, sized, c.size.ensures, c.if-size-past.false))
    (c.in_ok-read_at.ensures.bytes s is)
