use Rattle.file_disks.proofs.read_ahead.ReadAhead.over.Goals as goal

pub invariant_of-result : goal.invariant_of-result
invariant_of-result g c = λ x told. c.new.ensures x
