use Rattle.store_owner.proofs.CutShort.{cut_short}
use Rattle.store_owner.proofs.apply_laws.interrupted_commands_leave_a_journal.Goals as goal

pub returns : goal.returns
returns c = λ m r drawn old was shows is low bound fine suits fault. cut_short m r drawn old was shows is low bound fine suits fault
