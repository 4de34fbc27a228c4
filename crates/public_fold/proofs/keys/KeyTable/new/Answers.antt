use Rattle.std.proofs.Common.{sym, ap, ◌∙◌, arith}
use Rattle.public_fold.specs.KeyStep.{newest}
use Rattle.public_fold.proofs.keys.KeyTable.new.Goals as goal

pub invariant_of-result : goal.invariant_of-result
unfolding newest
invariant_of-result c = (λ role. c.new.ensures role ∙ sym (ap (λ keys. newest keys role) c.new-2.ensures), omega arith)
