use Rattle.public_fold.proofs.CleanLinks.{journal_clean}
use Rattle.public_fold.proofs.key_laws.links_leave_clean_keys.Goals as goal

pub returns : goal.returns
returns c = journal_clean
