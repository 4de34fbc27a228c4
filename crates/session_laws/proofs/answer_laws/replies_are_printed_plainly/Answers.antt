use Rattle.session_laws.proofs.RepliesPrinted.{reply_printed}
use Rattle.session_laws.proofs.answer_laws.replies_are_printed_plainly.Goals as goal

pub returns : goal.returns
returns c = reply_printed
