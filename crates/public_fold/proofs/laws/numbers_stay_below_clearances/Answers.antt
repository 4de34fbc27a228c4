use Rattle.public_fold.proofs.Numbers.{journal_numbers}
use Rattle.public_fold.proofs.laws.numbers_stay_below_clearances.Goals as goal

pub returns : goal.returns
returns c = record { folders = λ m v. (journal_numbers m v).0; files = λ m v. (journal_numbers m v).1 }
