use Rattle.public_fold.proofs.Counting.{journal_counted}
use Rattle.public_fold.proofs.laws.numbers_are_counted.Goals as goal

pub returns : goal.returns
returns c = journal_counted
