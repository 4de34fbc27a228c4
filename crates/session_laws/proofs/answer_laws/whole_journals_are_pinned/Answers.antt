use Rattle.session_laws.proofs.LogsGrown.{log_many}
use Rattle.session_laws.proofs.WholeRead.{bundle_whole, holder_whole}
use Rattle.session_laws.proofs.answer_laws.whole_journals_are_pinned.Goals as goal

pub returns : goal.returns
returns c = record { log = bundle_whole; holder = holder_whole; count = log_many }
